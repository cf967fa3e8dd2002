-- A set of numbers with one more.
use Rattle.std.proofs.Common.{◌≡◌, ℕ, ◌⊎◌, inl, inr, Bool, true, false, not, [], refl, sym, ap, subst, ◌∙◌}
use Rattle.std.specs.{List.list_any, BTreeSet.{BTreeSet, contains, Updates}, BTreeMap.is_at, Ordering.nat_cmp}
use Rattle.std.proofs.lemmas.{Bool.cases_eq, Map.Lookups.exact_unsigned}
use Rattle.lft_tag.proofs.Comparing.{not_equal}

apart : (k q : ℕ) → (q ≡ k → ⊥) → is_at (nat_cmp k) q ≡ false
apart k q d = not_equal (nat_cmp k q) (λ z. d (sym (exact_unsigned k q z)))

pub kept : (s n : BTreeSet ℕ) (k : ℕ) → Updates nat_cmp s n k true → (q : ℕ) → contains nat_cmp s q ≡ true → contains nat_cmp n q ≡ true
kept s n k u q h = elim (cases_eq q k) [ inl e ↦ subst (λ x. contains nat_cmp n x ≡ true) (sym e) u.1 | inr d ↦ u.2 q (apart k q d) ∙ h ]

pub only : (s n : BTreeSet ℕ) (k : ℕ) → Updates nat_cmp s n k true → (q : ℕ) → contains nat_cmp n q ≡ true → (q ≡ k) ⊎ (contains nat_cmp s q ≡ true)
only s n k u q h = elim (cases_eq q k) [ inl e ↦ inl e | inr d ↦ inr (sym (u.2 q (apart k q d)) ∙ h) ]

pub nowhere : (s : BTreeSet ℕ) → s.keys ≡ [] → (r : ℕ) → contains nat_cmp s r ≡ true → ⊥
nowhere s empty r is = let e : false ≡ true = sym (ap (list_any (is_at (nat_cmp r))) empty) ∙ is in absurd (cc)

pub was_new : (known added : Bool) → added ≡ not known → added ≡ true → known ≡ false
was_new true added e is = let f : false ≡ true = sym e ∙ is in absurd (cc)
was_new false added e is = refl

-- of none, and one more, that is the only one
pub alone : (s n : BTreeSet ℕ) (k : ℕ) → s.keys ≡ [] → Updates nat_cmp s n k true → (q : ℕ) → contains nat_cmp n q ≡ true → q ≡ k
alone s n k empty u q h = elim (only s n k u q h) [ inl e ↦ e | inr o ↦ absurd (nowhere s empty q o) ]

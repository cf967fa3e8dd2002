-- Events of a list, by their places.
use Rattle.std.proofs.Common.{◌≡◌, ◌∙◌, ◌⊎◌, inl, inr, ◌++◌, ℕ, zero, suc, List, [], ◌∷◌, length, Some, slice_get, refl, sym, ap, arith}
use Rattle.std.specs.List.{Contains, Sorted.IsPermutation}
use Rattle.std.proofs.lemmas.{List.Sorted.{Contains-permutation, IsPermutation-sym}, Option.{slice_get-get_or, slice_get_within, get_or_from_slice_get}}
use Rattle.lft_trace.specs.ExternalTables.{AreApart, Clash, Has}
use Rattle.lft_ir.specs.declared.steps.externals.Event.{Event}

contains : (xs : List Event) (e : Event) → Has xs e → Contains xs e
contains xs e h = (h.0, slice_get_within xs h.0 e h.1, get_or_from_slice_get xs h.0 e e h.1)

has : (xs : List Event) (e : Event) → Contains xs e → Has xs e
has xs e h = (h.0, slice_get-get_or xs h.0 e h.1 ∙ ap Some h.2)

pub has_permuted : (xs ys : List Event) (e : Event) → IsPermutation xs ys → Has xs e → Has ys e
has_permuted xs ys e p h = has ys e (Contains-permutation xs ys e p (contains xs e h))

pub has_permuted_back : (xs ys : List Event) (e : Event) → IsPermutation xs ys → Has ys e → Has xs e
has_permuted_back xs ys e p h = has_permuted ys xs e (IsPermutation-sym xs ys p) h

-- the place of an item of a list with one more item
pub at_pushed : (xs : List Event) (x e : Event) (i : ℕ) → slice_get (xs ++ (x ∷ [])) i ≡ Some e → (slice_get xs i ≡ Some e) ⊎ ((i ≡ length xs) × (x ≡ e))
at_pushed [] x e zero h = inr (refl, cc (h))
at_pushed [] x e (suc i) h = cc (h)
at_pushed (y ∷ xs) x e zero h = inl h
at_pushed (y ∷ xs) x e (suc i) h = elim (at_pushed xs x e i h) [ inl a ↦ inl a | inr b ↦ inr (let s = b.0 in omega arith, b.1) ]

pub apart_pushed : (xs : List Event) (x : Event) → AreApart xs → ((d : Event) → Has xs d → Clash d x → ⊥) → AreApart (xs ++ (x ∷ []))
apart_pushed xs x apart new i j a b at_a at_b same = elim (at_pushed xs x a i at_a) [
  | inl p ↦ elim (at_pushed xs x b j at_b) [
    | inl q ↦ apart i j a b p q same
    | inr q ↦ absurd (new a (i, p) (same.0 ∙ ap (λ (e : Event). e.tag) (sym q.1), same.1 ∙ ap (λ (e : Event). e.action) (sym q.1)))
  ]
  | inr p ↦ elim (at_pushed xs x b j at_b) [
    | inl q ↦ absurd (new b (j, q) (sym (ap (λ (e : Event). e.tag) p.1 ∙ same.0), sym (ap (λ (e : Event). e.action) p.1 ∙ same.1)))
    | inr q ↦ p.0 ∙ sym q.0
  ]
]

pub at_front : (xs ys : List Event) (e : Event) (i : ℕ) → slice_get xs i ≡ Some e → slice_get (xs ++ ys) i ≡ Some e
at_front [] ys e i h = cc (h)
at_front (x ∷ xs) ys e zero h = h
at_front (x ∷ xs) ys e (suc i) h = at_front xs ys e i h

pub at_middle : (xs ys : List Event) (e : Event) → slice_get (xs ++ (e ∷ ys)) (length xs) ≡ Some e
at_middle [] ys e = refl
at_middle (x ∷ xs) ys e = at_middle xs ys e

-- What going back along joins keeps.
use Rattle.std.proofs.Common.{◌≡◌, ◌≢◌, ℕ, ◌⊎◌, inl, inr, List, [], ◌∷◌, ◌++◌, refl, sym, subst, Option, Some, None, slice_get}
use Rattle.lft_tag.specs.declared.Source.{Source}
use Rattle.lft_resolve.specs.{declared.expansion.joins.Site.Site, inner.Expansion.{Sources.{LeadsBackwards, one, more}, Ways.{IsWayBack, LeadsBack}}}
use Rattle.lft_resolve.proofs.ExpansionLemmas.Chains.{leads_next}

-- one join more
pub back_more : (sources : List (Option Source)) (sites : List Site) (p : ℕ) (way : List Site) (q : ℕ) (s : Source) (x : Site) → LeadsBack sources sites p way q → slice_get sources q ≡ Some (Some s) → slice_get sites q ≡ Some x → LeadsBack sources sites p (way ++ x ∷ []) s.port
back_more sources sites p [] q s x e f g = (s, subst (λ k. slice_get sources k ≡ Some (Some s)) (sym e) f, subst (λ k. slice_get sites k ≡ Some x) (sym e) g, refl)
back_more sources sites p (y ∷ way) q s x w f g = (w.0, w.1, w.2, back_more sources sites w.0.port way q s x w.3 f g)

pub pushed_some : {X : Type 0} (xs : List X) (x : X) → xs ++ x ∷ [] ≢ []
pushed_some [] x e = cc
pushed_some (y ∷ xs) x e = cc

-- what is on a cycle leads back to what is on it
on_cycle : (sources : List (Option Source)) (sites : List Site) (p : ℕ) (way : List Site) (q : ℕ) → LeadsBack sources sites p way q → LeadsBackwards sources p p → LeadsBackwards sources q q
on_cycle sources sites p [] q e l = subst (λ k. LeadsBackwards sources k k) e l
on_cycle sources sites p (x ∷ way) q w l = on_cycle sources sites w.0.port way q w.3 (leads_next sources p w.0 l w.1)

starts : (sources : List (Option Source)) (p q : ℕ) → LeadsBackwards sources p q → slice_get sources p ≡ Some None → ⊥
starts sources p q (one s a e) n = cc
starts sources p q (more s a r) n = cc

-- the whole way back from a port of a cycle is a ring
pub ring_back : (sources : List (Option Source)) (sites : List Site) (p : ℕ) (way : List Site) → IsWayBack sources sites p way → LeadsBackwards sources p p → LeadsBack sources sites p way p × (way ≢ [])
ring_back sources sites p way w l = by w.ends
  where
    by : (slice_get sources w.last ≡ Some None) ⊎ ((w.last ≡ p) × (way ≢ [])) → LeadsBack sources sites p way p × (way ≢ [])
    by (inl none) = absurd (starts sources w.last w.last (on_cycle sources sites p way w.last w.leads l) none)
    by (inr a) = (subst (λ k. LeadsBack sources sites p way k) a.0 w.leads, a.1)

leads_of : (sources : List (Option Source)) (sites : List Site) (p : ℕ) (way : List Site) (q : ℕ) → LeadsBack sources sites p way q → way ≢ [] → LeadsBackwards sources p q
leads_of sources sites p [] q w some = absurd (some refl)
leads_of sources sites p (x ∷ []) q w some = one w.0 w.1 w.3
leads_of sources sites p (x ∷ y ∷ way) q w some = more w.0 w.1 (leads_of sources sites w.0.port (y ∷ way) q w.3 (λ e. cc))

-- where no way comes back, it ends at a port into which no join leads
pub end_back : (sources : List (Option Source)) (sites : List Site) (p : ℕ) (way : List Site) (w : IsWayBack sources sites p way) → (LeadsBackwards sources p p → ⊥) → slice_get sources w.last ≡ Some None
end_back sources sites p way w none = by w.ends
  where
    by : (slice_get sources w.last ≡ Some None) ⊎ ((w.last ≡ p) × (way ≢ [])) → slice_get sources w.last ≡ Some None
    by (inl e) = e
    by (inr a) = absurd (none (subst (λ k. LeadsBackwards sources p k) a.0 (leads_of sources sites p way w.last w.leads a.1)))

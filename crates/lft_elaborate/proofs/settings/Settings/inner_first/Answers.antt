use Rattle.std.proofs.Common.{◌≡◌, ◌<◌, ℕ, List, Some, inl, inr, ap, length, subst, ◌∙◌, arith, slice_get}
use Rattle.std.proofs.lemmas.{List.Sorted.{Contains-permutation, IsPermutation-sym}, Option.slice_get-get_or}
use Rattle.lft_lists.proofs.Places.{at_contains, contains_at, get_push_cases}
use Rattle.lft_elaborate.proofs.settings.Settings.inner_first.Goals as goal

pub loop-place-preserved : goal.loop-place-preserved
loop-place-preserved c k p at =
    let used = c.args.used.now in
    let low : c.loop-place.place < length used = omega arith in
    elim (get_push_cases c.loop-place.places.items _ k p (subst (λ (l : List (ℕ × ℕ)). slice_get l k ≡ Some p) c.in_ok-push.ensures.items at)) [
      | inl was ↦ c.loop-place.invariant k p was
      | inr last ↦ (c.loop-place.place, slice_get-get_or used c.loop-place.place 0 low ∙ ap (λ (q : ℕ × ℕ). Some q.1) last.1)
    ]

pub returns : goal.returns
returns c k p at =
    let moved = c.in_ok-sort.ensures.permutation in
    let was = at_contains c.loop-place.places.items p (Contains-permutation _ _ p (IsPermutation-sym _ _ moved) (contains_at c.sort.new.self.items k p at)) in
    c.loop-place.invariant was.0 p was.1

use Rattle.std.proofs.Common.{◌≡◌, ℕ, ◌+◌, ◌<◌, List, length, refl, sym, ap, subst, arith, Some, slice_get}
use native.Mathlib.Decide.{ℕ_discrete}
use Rattle.lft_lists.proofs.Places.{same_at}
use Rattle.lft_model.proofs.Places.{slice_get_within}
use Rattle.lft_stream.specs.{declared.due.Due.Due, inner.Dues.IsDueBefore}
use Rattle.lft_stream.proofs.dues.Dues.none_before.Goals as goal

pub loop-number-preserved : goal.loop-number-preserved
loop-number-preserved c = λ r k list due l e f. go r k list due l e f (ℕ_discrete r c.loop-number.number)
  where
    go : (r k : ℕ) (list : List Due) (due : Due) → r < c.loop-number.number + 1 → slice_get c.args.self.now r ≡ Some list → slice_get list k ≡ Some due → Dec (r ≡ c.loop-number.number) → ¬ IsDueBefore c.args.last c.args.low due
    go r k list due l e f (no n) = c.loop-number.invariant r k list due (omega arith) e f
    go r k list due l e f (yes q) = c.if-not-none_before.ensures refl k due (subst (λ (z : List Due). slice_get z k ≡ Some due) (same_at c.args.self.now r c.loop-number.number list c.of.result.now e c.of.ensures q) f)

pub returns : goal.returns
returns c = λ z r k list due e f.
    let a : r < length c.args.self.now = slice_get_within c.args.self.now r list e in
    let b : length c.args.self.now ≡ length c.self.inside.lists.items = ap (λ xs. length xs) (sym c.self.view_is) in
    c.loop-number.invariant r k list due (omega arith) e f

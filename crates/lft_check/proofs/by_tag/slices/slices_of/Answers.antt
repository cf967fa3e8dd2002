use Rattle.std.proofs.Common.{◌+◌, List, sym, ap, ◌∙◌, subst, refl, arith}
use Rattle.lft_rows.{specs.declared.slices.Slice.Slice, proofs.PresenceLemmas.Lists.not_true}
use Rattle.lft_check.proofs.ByTagLemmas.ByTag.{AreSlicesTo, slices_stay, slices_more, slices_end}
use Rattle.lft_check.proofs.by_tag.slices.slices_of.Goals.{then-is_other+in_ok-push, else-is_other}
use Rattle.lft_check.proofs.by_tag.slices.slices_of.Goals as goal

pub loop-place-preserved : goal.loop-place-preserved
loop-place-preserved c = elim c.if-is_other.branch [
  | then-is_other+in_ok-push w ↦ let more = slices_more c.args.rows.now c.requires c.loop-place.first c.loop-place.place c.loop-place.slices.items c.loop-place.invariant c.row_at.result c.row_at.ensures (w.if-is_other.ensures.0 refl) in subst (λ n. AreSlicesTo c.args.rows.now n (c.loop-place.place + 1) c.if-is_other.slices.items) (sym w.first-is) (subst (λ (xs : List Slice). AreSlicesTo c.args.rows.now (c.loop-place.place + 1) (c.loop-place.place + 1) xs) (sym (ap (λ v. v.items) w.slices-is ∙ w.in_ok-push.ensures.items)) more)
  | else-is_other w ↦ let stay = slices_stay c.args.rows.now c.requires c.loop-place.first c.loop-place.place c.loop-place.slices.items c.loop-place.invariant c.row_at.result c.row_at.ensures (λ o. not_true (w.if-is_other.ensures.1 o)) in subst (λ n. AreSlicesTo c.args.rows.now n (c.loop-place.place + 1) c.if-is_other.slices.items) (sym w.first-is) (subst (λ (xs : List Slice). AreSlicesTo c.args.rows.now c.loop-place.first (c.loop-place.place + 1) xs) (sym (ap (λ v. v.items) w.slices-is)) stay)
]

pub returns : goal.returns
returns c = slices_end c.args.rows.now c.loop-place.first c.loop-place.place c.loop-place.slices.items (omega arith) c.loop-place.invariant

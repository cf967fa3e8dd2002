use Rattle.std.proofs.Common.{◌≡◌, ℕ, ◌+◌, ◌<◌, List, length, refl, sym, ap, ◌∙◌, subst, arith}
use Rattle.lft_lists.proofs.Places.{length_written}
use Rattle.lft_rows.proofs.PresenceLemmas.Lists.{not_true}
use Rattle.lft_slices.{specs.inner.Pieces.AreEndsTo, proofs.{Piecing.{ends_stay, ends_more}, pieces.keep_ends.Goals.{then-is_end, else-is_end}}}
use Rattle.lft_slices.proofs.pieces.keep_ends.Goals as goal

pub loop-place-preserved : goal.loop-place-preserved
loop-place-preserved c =
    let t = c.args.rows.now in
    let s = c.args.slice in
    let i = c.loop-place.place in
    let row = c.row_at-row.result in
    let rules = c.requires.rules in
    let known : row.reaction < length rules.0.program.reactions = (rules.1.fit.each i row c.row_at-row.ensures).reaction in
    let long : length c.loop-place.ends.items ≡ length c.args.ends.now.items = c.loop-place.invariant.count in
    let first : length c.args.ends.now.items ≡ length rules.0.program.reactions = rules.2 in
    elim c.if-is_end.branch [
      | then-is_end w ↦ record {
        count = ap (λ v. length v.items) w.ends-is ∙ length_written c.loop-place.ends.items row.reaction i ∙ long;
        ends = subst (λ (xs : List ℕ). AreEndsTo t s (i + 1) xs) (sym (ap (λ v. v.items) w.ends-is)) (ends_more rules.0 t rules.1 s c.requires.slice i row c.row_at-row.ensures (omega arith) (omega arith) c.loop-place.ends.items (omega arith) (w.if-is_end.ensures.0 refl) c.loop-place.invariant.ends);
      }
      | else-is_end w ↦ record {
        count = ap (λ v. length v.items) w.ends-is ∙ long;
        ends = subst (λ (xs : List ℕ). AreEndsTo t s (i + 1) xs) (sym (ap (λ v. v.items) w.ends-is)) (ends_stay rules.0 t rules.1 s c.requires.slice i row c.row_at-row.ensures (omega arith) (omega arith) c.loop-place.ends.items (λ e. not_true (w.if-is_end.ensures.1 e)) c.loop-place.invariant.ends);
      }
    ]

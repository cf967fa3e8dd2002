use Rattle.std.proofs.Common.{◌≡◌, ◌+◌, ◌<◌, ◌≤◌, length, refl, sym, ap, ◌∙◌, subst, arith}
use Rattle.std.proofs.lemmas.List.{take_all}
use Rattle.lft_rows.proofs.{PresenceLemmas.Lists.not_true, Counted.{count_start, count_inner}}
use Rattle.lft_model.specs.Accepted.{runs_in}
use Rattle.lft_check.specs.inner.ByTag.Indexes.{HasRunsTo}
use Rattle.lft_check.proofs.ByTagLemmas.Begun.{starts_begin, starts_stay, starts_more}
use Rattle.lft_check.proofs.by_tag.started.started_of.Goals.{then-is_start+in_ok-push+in_ok-push-2, else-is_start}
use Rattle.lft_check.proofs.by_tag.started.started_of.Goals as goal

pub loop-place-init : goal.loop-place-init
loop-place-init c = record { lists = starts_begin c.args.rows.now c.args.reactions c.in_ok-tags.tags c.in_ok-places.places c.in_ok-tags.ensures.count c.in_ok-places.ensures.count c.in_ok-tags.ensures.empty c.in_ok-places.ensures.empty; few = omega arith; counted = refl }

pub loop-place-preserved : goal.loop-place-preserved
loop-place-preserved c =
    let t = c.args.rows.now in
    let i = c.loop-place.place in
    let row = c.row_at-row.result in
    let rules = c.requires in
    let so_far = c.loop-place.invariant in
    let few : c.loop-place.runs ≤ i = so_far.few in
    let known : row.reaction < length rules.0.program.reactions = (rules.1.fit.each i row c.row_at-row.ensures).reaction in
    let count : c.args.reactions ≡ length rules.0.program.reactions = rules.2 in
    elim c.if-is_start.branch [
      | then-is_start+in_ok-push+in_ok-push-2 w ↦
          let starts = w.if-is_start.ensures.0 refl in
          let is : c.if-is_start.runs ≡ c.loop-place.runs + 1 = w.runs-is in
          record {
            lists = rw (w.tags-is, w.places-is) (starts_more rules.0 t rules.1 i row c.row_at-row.ensures starts c.args.reactions c.loop-place.tags w.push.new.self c.loop-place.places w.push-then-is_start.new.self (omega arith) so_far.lists w.in_ok-push.ensures w.in_ok-push-2.ensures);
            few = omega arith;
            counted = is ∙ ap (λ n. n + 1) so_far.counted ∙ sym (count_start t i row c.row_at-row.ensures starts);
          }
      | else-is_start w ↦
          let is : c.if-is_start.runs ≡ c.loop-place.runs = w.runs-is in
          record {
            lists = rw (w.tags-is, w.places-is) (starts_stay rules.0 t rules.1 i row c.row_at-row.ensures c.args.reactions c.loop-place.tags c.loop-place.places (λ e. not_true (w.if-is_start.ensures.1 e)) so_far.lists);
            few = omega arith;
            counted = is ∙ so_far.counted ∙ sym (count_inner t i row c.row_at-row.ensures (λ e. not_true (w.if-is_start.ensures.1 e)));
          }
    ]

pub returns : goal.returns
returns c =
    let e : c.loop-place.place ≡ length c.args.rows.now = omega arith in
    record {
      lists = subst (λ i. HasRunsTo c.args.rows.now i c.args.reactions c.loop-place.tags c.loop-place.places) e c.loop-place.invariant.lists;
      runs_are = c.loop-place.invariant.counted ∙ ap runs_in (take_all c.loop-place.place c.args.rows.now (omega arith));
    }

use Rattle.std.proofs.Common.{◌≡◌, ◌<◌, take, length, sym, ap, ◌∙◌, arith}
use Rattle.std.proofs.lemmas.Grind.{common_steps}
use Rattle.lft_tree.specs.View.{reactor_view}
use Rattle.lft_resolve.specs.inner.{Numbers.numbers_of, References.reactor_trees}
use Rattle.lft_resolve.proofs.{Files.named_some, Numbered.{number_more, number_kept}, file.numbers_of.Goals.{then-is_some+in_ok-push, else-is_some}}
use Rattle.lft_resolve.proofs.file.numbers_of.Goals as goal

pub loop-number-preserved : goal.loop-number-preserved
loop-number-preserved c =
    let within : c.loop-number.number < length c.args.reactors.now = omega arith in
    elim c.if-is_some.branch [
      | then-is_some+in_ok-push w ↦ rw (w.numbers-is, w.in_ok-push.ensures.items) (number_more (λ r. reactor_view r.now) c.args.reactors.now c.loop-number.number c.index-reactors-number.result within (sym c.index-reactors-number.is) c.loop-number.numbers.items c.loop-number.invariant (named_some c.index-reactors-number.result.now.name ∙ sym c.is_some.ensures ∙ w.if-is_some.true))
      | else-is_some w ↦ rw w.numbers-is (number_kept (λ r. reactor_view r.now) c.args.reactors.now c.loop-number.number c.index-reactors-number.result within (sym c.index-reactors-number.is) c.loop-number.numbers.items c.loop-number.invariant (named_some c.index-reactors-number.result.now.name ∙ sym c.is_some.ensures ∙ w.if-is_some.false))
    ]

pub returns : goal.returns
returns c = let whole : take c.loop-number.number c.args.reactors.now ≡ c.args.reactors.now = grind (arith, common_steps) in c.loop-number.invariant ∙ ap (λ l. numbers_of 0 (reactor_trees l)) whole

use Rattle.std.proofs.Common.{◌+◌, take, sym, ap, ◌∙◌, subst, Option}
use Rattle.lft_ir.specs.declared.parts.{Name.Name, Value.Value}
use Rattle.lft_rows.specs.{inner.Answers.Readings.{AreReadBy, read_as}, declared.answers.readings.Readings.Readings}
use Rattle.lft_rows.proofs.{AnswersLemmas.LastRead.{read_none, read_put}, answers.readings.readings_of.Goals.{in-Some+in_ok-put, in_default}}
use Rattle.lft_rows.proofs.answers.readings.readings_of.Goals as goal

pub loop-place-preserved : goal.loop-place-preserved
loop-place-preserved c =
    let steps = c.args.steps.now in
    let i = c.loop-place.place in
    let s = c.item_at.result in
    elim c.match-reading.branch [
      | in-Some+in_ok-put w ↦ subst (λ (r : Readings). AreReadBy (take (i + 1) steps) r) (sym w.readings-is) (read_put steps i s c.item_at.ensures w.in-Some.read.0 w.in-Some.read.1 c.loop-place.readings w.put.new.self (λ n. c.reading.ensures n ∙ ap (λ (o : Option (Name × Value)). read_as n o) w.in-Some.is) w.in_ok-put.ensures c.loop-place.invariant)
      | in_default w ↦ subst (λ (r : Readings). AreReadBy (take (i + 1) steps) r) (sym w.readings-is) (read_none steps i s c.item_at.ensures c.loop-place.readings (λ n. c.reading.ensures n ∙ ap (λ (o : Option (Name × Value)). read_as n o) w.in_default.is) c.loop-place.invariant)
    ]

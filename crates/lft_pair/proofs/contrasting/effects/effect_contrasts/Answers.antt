use Rattle.std.proofs.Common.{List, ◌+◌, ap, ◌∙◌, sym, subst, arith}
use Rattle.lft_pair.specs.{declared.contrasting.contrasts.Contrast.Contrast, Enough.{HaveSameOutcome, TellsOf}}
use Rattle.lft_pair.proofs.Differing.{ToldTo, told_none, told_same, told_other, told_end, of_some, of_none, of_runs}
use Rattle.lft_pair.proofs.contrasting.effects.effect_contrasts.Goals.{in-Some+in_ok-push, in_default}
use Rattle.lft_pair.proofs.contrasting.effects.effect_contrasts.Goals as goal

pub loop-place-init : goal.loop-place-init
loop-place-init c = told_none c.args.effects.now c.args.mine.now c.args.theirs.now c.new-told.result.items c.new-told.ensures.items

pub loop-place-preserved : goal.loop-place-preserved
loop-place-preserved c =
    let i = c.loop-place.place in
    let told = c.loop-place.told.items in
    let mine = c.args.mine.now in
    let theirs = c.args.theirs.now in
    let n = c.item_at.result in
    let found = of_runs n mine theirs c.in_ok-first.first c.in_ok-second.second c.effect.result c.in_ok-first.ensures c.in_ok-second.ensures c.effect.ensures in
    elim c.match-effect.branch [
      | in-Some+in_ok-push w ↦ told_other c.args.effects.now mine theirs i n c.item_at.ensures told c.match-effect.told.items w.in-Some.contrast (of_some (HaveSameOutcome mine theirs n) (TellsOf mine theirs n) c.effect.result w.in-Some.contrast w.in-Some.is found) (ap (λ v. v.items) w.told-is ∙ w.in_ok-push.ensures.items) c.loop-place.invariant
      | in_default w ↦ subst (λ (cs : List Contrast). ToldTo c.args.effects.now mine theirs (i + 1) cs) (sym (ap (λ v. v.items) w.told-is)) (told_same c.args.effects.now mine theirs i n c.item_at.ensures told (of_none (HaveSameOutcome mine theirs n) (TellsOf mine theirs n) c.effect.result w.in_default.is found) c.loop-place.invariant)
    ]

pub returns-clause-all : goal.returns-clause-all
returns-clause-all c = told_end c.args.effects.now c.args.mine.now c.args.theirs.now c.loop-place.place c.loop-place.told.items (let p = c.loop-place-test.false in omega arith) c.loop-place.invariant

use Rattle.std.proofs.Common.{arith, ◌≡◌, ◌∙◌, length, map, ap, to_z-of_z}
use Rattle.std.{specs.Int.{cast_signed, cast_unsigned, w64}, proofs.lemmas.List.take_all}
use Rattle.lft_record.specs.Scripts.{script_done, script_word, step_done}
use Rattle.lft_pool.specs.declared.bodies.done.Done.{Done}
use Rattle.lft_record.proofs.cards.answer.follow.Goals as goal

pub returns : goal.returns
returns c =
    let state = cast_signed w64 (cast_unsigned w64 c.args.state) in
    let same : state ≡ c.args.state = to_z-of_z {w = w64} {z = c.args.state} c.ranges.state in
    let word : cast_signed w64 (cast_unsigned w64 c.word_after.result) ≡ script_word c.args.script.now c.args.tag state c.args.reads.now = to_z-of_z {w = w64} {z = c.word_after.result} (record { sfits = c.word_after.type_inv }) ∙ c.word_after.ensures in
    let past = c.loop-step-test.false in
    let long = ap length c.as_slice-step-items.ensures in
    let steps : c.from_vec.result ≡ map (step_done c.args.tag state c.args.reads.now) c.args.script.now.steps = c.from_vec.ensures ∙ c.loop-step.invariant ∙ ap (map (step_done c.args.tag state c.args.reads.now)) (take_all c.loop-step.step-index c.args.script.now.steps (omega (arith, past, long))) in
    let done : ◌≡◌ {A = Done} (record { state = cast_signed w64 (cast_unsigned w64 c.word_after.result); steps = c.from_vec.result }) (script_done c.args.script.now c.args.tag state c.args.reads.now) = λ i. record { state = word i; steps = steps i } in
    rw same at done

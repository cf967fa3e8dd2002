use Rattle.std.proofs.Common.{◌≡◌, ◌+◌, ◌++◌, List, Option, Some, take, filter_map, get_or, slice_get, sym, ap, ◌∙◌, subst, arith}
use Rattle.std.{specs.List.AllZip, proofs.lemmas.Option.slice_get-get_or}
use Rattle.lft_ir.specs.{Naming.named, Sound.IsTriggerOf, declared.parts.{Value.Value, Name.TheVariants.Port, Trigger.TheVariants.Startup}}
use Rattle.lft_model.specs.Presence.{Shows, Inputs}
use Rattle.lft_model.proofs.{Agree.one_inputs, ReadsMade.{found_shown, read_trigger, read_nothing, read_use, all_read}, Triggering.{trigger_known, use_known}}
use Rattle.lft_model.proofs.slow.inputs_slow.Goals.{in-On+in_ok-push, in_default}
use Rattle.lft_model.proofs.slow.inputs_slow.Goals as goal

pub value_at-requires-clause-name : goal.value_at-requires-clause-name
value_at-requires-clause-name c = subst (λ x. IsTriggerOf c.args.plan.now.program x) c.in-On.is (trigger_known c.program.result.now c.args.plan.now.program c.program.ensures.value c.reaction-reaction.ensures.sound c.args.reaction c.reaction-reaction.result.now c.reaction-reaction.ensures.value c.as_slice-triggers.result.now c.as_slice-triggers.ensures c.loop-place.place Startup (omega arith))

pub loop-place-preserved : goal.loop-place-preserved
loop-place-preserved c =
    let plan = c.args.plan.now in
    let t = c.as_slice-rows.result.now in
    let g = c.args.tag in
    let xs = c.as_slice-triggers.result.now in
    let i = c.loop-place.place in
    let os = c.loop-place.reads.items in
    let here : slice_get xs i ≡ Some (get_or xs i Startup) = slice_get-get_or xs i Startup (omega arith) in
    elim c.match-triggers-place.branch [
      | in-On+in_ok-push w ↦ subst (λ (us : List (Option Value)). AllZip (Shows plan t g) (filter_map named (take (i + 1) xs)) us) (sym (ap (λ v. v.items) w.reads-is ∙ w.in_ok-push.ensures.items)) (read_trigger plan t g xs i w.in-On.name os w.value_at.result (here ∙ ap (λ x. Some x) w.in-On.is) (found_shown plan t g w.in-On.name w.value_at.result w.value_at.ensures.some w.value_at.ensures.none) c.loop-place.invariant)
      | in_default w ↦ subst (λ (us : List (Option Value)). AllZip (Shows plan t g) (filter_map named (take (i + 1) xs)) us) (sym (ap (λ v. v.items) w.reads-is)) (read_nothing plan t g xs i (get_or xs i Startup) os here w.in_default.not-On c.loop-place.invariant)
    ]

pub value_at-requires-in-loop-place-2-clause-name : goal.value_at-requires-in-loop-place-2-clause-name
value_at-requires-in-loop-place-2-clause-name c = use_known c.program.result.now c.args.plan.now.program c.program.ensures.value c.reaction-reaction.ensures.sound c.args.reaction c.reaction-reaction.result.now c.reaction-reaction.ensures.value c.as_slice-uses.result.now c.as_slice-uses.ensures c.loop-place-2.place (Port 0) (omega arith)

pub loop-place-2-preserved : goal.loop-place-2-preserved
loop-place-2-preserved c x e =
    let t = c.as_slice-rows.result.now in
    let ns = c.as_slice-uses.result.now in
    let i = c.loop-place-2.place in
    let shown : Shows c.args.plan.now t c.args.tag (get_or ns i (Port 0)) c.value_at-in-loop-place-2.result = found_shown c.args.plan.now t c.args.tag (get_or ns i (Port 0)) c.value_at-in-loop-place-2.result c.value_at-in-loop-place-2.ensures.some c.value_at-in-loop-place-2.ensures.none in
    subst (λ (os : List (Option Value)). AllZip (Shows c.args.plan.now t c.args.tag) (filter_map named x.triggers ++ take (i + 1) ns) os) (sym c.in_ok-push-2.ensures.items) (read_use c.args.plan.now t c.args.tag (filter_map named x.triggers) ns i (get_or ns i (Port 0)) c.loop-place-2.reads.items c.value_at-in-loop-place-2.result (slice_get-get_or ns i (Port 0) (omega arith)) shown (c.loop-place-2.invariant x e))

pub returns-clause-only : goal.returns-clause-only
returns-clause-only c other o =
    let all : Inputs c.args.plan.now c.args.rows.now c.args.tag c.args.reaction c.loop-place-2.reads.items = all_read c.args.plan.now c.as_slice-rows.result.now c.args.rows.now c.as_slice-rows.ensures c.args.tag c.args.reaction c.program.result.now c.program.ensures.value c.reaction-reaction.result.now c.reaction-reaction.ensures.value c.as_slice-uses.result.now c.as_slice-uses.ensures c.loop-place-2.place c.loop-place-2.reads.items (omega arith) c.loop-place-2.invariant in
    one_inputs c.args.plan.now c.args.rows.now c.args.tag c.requires.no_clash c.args.reaction other c.loop-place-2.reads.items o all ∙ sym c.from_vec.ensures

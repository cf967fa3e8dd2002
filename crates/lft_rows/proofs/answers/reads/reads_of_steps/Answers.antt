use Rattle.std.proofs.Common.{◌≡◌, ◌+◌, ◌∷◌, [], ◌++◌, Some, None, map, take, filter_map, get_or, slice_get, append-nil, append_assoc, sym, ap, ◌∙◌, arith}
use Rattle.std.proofs.lemmas.{List.take_more, Option.slice_get-get_or}
use Rattle.lft_ir.specs.{Naming.named, declared.parts.{Name.TheVariants.Port, Trigger.TheVariants.Startup}}
use Rattle.lft_model.specs.Runs.{read_of}
use Rattle.lft_lists.proofs.Picked.{kept_more}
use Rattle.lft_rows.proofs.{AnswersLemmas.Made.made_more, answers.reads.reads_of_steps.Goals.{in-Some+in_ok-push, in_default}}
use Rattle.lft_rows.proofs.answers.reads.reads_of_steps.Goals as goal

pub loop-place-preserved : goal.loop-place-preserved
loop-place-preserved c =
    let f = read_of c.args.steps.now in
    let xs = c.as_slice-triggers.result.now in
    let i = c.loop-place.place in
    let trigger = get_or xs i Startup in
    let here : slice_get xs i ≡ Some trigger = slice_get-get_or xs i Startup (omega arith) in
    elim c.match-input_of.branch [
      | in-Some+in_ok-push w ↦ ap (λ v. v.items) w.reads-is ∙ w.in_ok-push.ensures.items ∙ made_more f (filter_map named (take i xs)) (filter_map named (take (i + 1) xs)) w.in-Some.name c.loop-place.reads.items w.get.result (kept_more named xs i trigger (Some w.in-Some.name) here (sym w.in-Some.is ∙ c.input_of.ensures)) (w.get.ensures ∙ c.in_ok-readings.ensures w.in-Some.name) c.loop-place.invariant
      | in_default w ↦ ap (λ v. v.items) w.reads-is ∙ c.loop-place.invariant ∙ ap (map f) (sym (kept_more named xs i trigger None here (sym w.in_default.is ∙ c.input_of.ensures) ∙ append-nil (filter_map named (take i xs))))
    ]

pub loop-place-2-preserved : goal.loop-place-2-preserved
loop-place-2-preserved c =
    let front = filter_map named c.args.reaction.now.triggers in
    let ns = c.as_slice-uses.result.now in
    let i = c.loop-place-2.place in
    let name = get_or ns i (Port 0) in
    c.in_ok-push-2.ensures.items ∙ made_more (read_of c.args.steps.now) (front ++ take i ns) (front ++ take (i + 1) ns) name c.loop-place-2.reads.items c.get-in-loop-place-2.result (ap (λ ks. front ++ ks) (take_more ns i (Port 0) (omega arith)) ∙ sym (append_assoc front (take i ns) (name ∷ []))) (c.get-in-loop-place-2.ensures ∙ c.in_ok-readings.ensures name) c.loop-place-2.invariant

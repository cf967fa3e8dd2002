use Rattle.std.proofs.Common.{◌≡◌, ◌<◌, ◌∷◌, [], ◌++◌, List, Some, None, map, filter_map, get_or, slice_get, length, ap, ◌∙◌, arith, rules, Option, unwrap_or, option_map}
use Rattle.lft_ir.specs.{Parts.inputs, declared.{parts.{Reaction.Reaction, Name.TheVariants.Port}, steps.row.Row.Row}}
use Rattle.lft_model.specs.{Runs.{inputs_of, read_step}, Recorded.run_row}
use Rattle.std.proofs.lemmas.Option.{slice_get-get_or}
use Rattle.lft_scheduler.proofs.BegunRows.{read_more}
use Rattle.lft_scheduler.proofs.opening.begun.Goals as goal

pub loop-at-preserved : goal.loop-at-preserved
loop-at-preserved c =
    let ns = c.as_slice-names.result.now in
    let os = c.as_slice-shown.result.now in
    let i = c.loop-at.at in
    let here : slice_get ns i ≡ Some (get_or ns i (Port 0)) = slice_get-get_or ns i (Port 0) (omega arith) in
    let x = c.reaction.result.now in
    let of : slice_get c.args.plan.now.program.reactions c.args.reaction ≡ Some x = search rules in
    let a : length os ≡ length c.args.reads.now = ap length c.as_slice-shown.ensures in
    let b : ns ≡ inputs x = search rules in
    let d : length (inputs_of c.args.plan.now.program c.args.reaction) ≡ length (inputs x) = ap (λ (o : Option Reaction). length (unwrap_or (option_map inputs o) [])) of in
    let k : length ns ≡ length (inputs x) = ap length b in
    let q : length c.args.reads.now ≡ length (inputs_of c.args.plan.now.program c.args.reaction) = c.requires.reads in
    let l : i < length os = omega arith in
    let e : c.push_read.new.rows.items ≡ c.loop-at.rows.items ++ map (run_row c.args.worker c.args.tag c.args.reaction) (filter_map read_step ((get_or ns i (Port 0), get_or os i None) ∷ [])) = search rules in
    e ∙ ap (λ (xs : List Row). xs ++ map (run_row c.args.worker c.args.tag c.args.reaction) (filter_map read_step ((get_or ns i (Port 0), get_or os i None) ∷ []))) c.loop-at.invariant ∙ read_more c.args.worker c.args.tag c.args.reaction ns i (get_or ns i (Port 0)) os None here l

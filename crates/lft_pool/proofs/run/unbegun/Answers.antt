use Rattle.std.proofs.Common.{◌≡◌, ◌∙◌, [], ℤ, List, sym, subst}
use Rattle.lft_ir.specs.declared.steps.row.Row.{Row}
use Rattle.lft_pool.{specs.Books.IsRecording, proofs.Known.empty_recording}
use Rattle.lft_pool.proofs.run.unbegun.Goals as goal

pub returns-clause-recording : goal.returns-clause-recording
returns-clause-recording g c =
    let r : c.from_vec-rows.result ≡ [] = c.from_vec-rows.ensures ∙ c.new.ensures.items in
    let s : c.new-states.result ≡ [] = c.new-states.ensures in
    subst (λ (ts : List Row). IsRecording g.L.Law.holds c.args.plan ts c.new-states.result) (sym r) (subst (λ (ss : List (ℤ × ℤ)). IsRecording g.L.Law.holds c.args.plan [] ss) (sym s) (empty_recording g.L.Law.holds c.args.plan c.keeps.ensures.sound))

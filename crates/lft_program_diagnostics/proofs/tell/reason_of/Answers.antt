use Rattle.std.proofs.Common.{◌≡◌, inl, refl, sym, subst}
use Rattle.std.proofs.lemmas.Result.{IfOk-weaker}
use Rattle.lft_validate.specs.{Members.reactors_among, Witnesses.Shows}
use Rattle.lft_program.specs.inner.Refusals.{Tells, cause_of}
use Rattle.lft_program_diagnostics.specs.{Reasons.IsShownAt, Spots.witness_spot}
use Rattle.lft_program_diagnostics.proofs.tell.reason_of.Goals as goal

pub returns-in-Shown-clause-shown : goal.returns-in-Shown-clause-shown
returns-in-Shown-clause-shown c =
    let w = c.in-Shown.witness in
    let tokens = c.args.tokens.now in
    let reactors = reactors_among c.args.ast.now.items.items in
    let shows : Shows reactors w = subst (Tells c.args.ast.now) c.in-Shown.is c.requires in
    IfOk-weaker c.of_witness.result (λ r. r.at ≡ witness_spot tokens w) (λ r. IsShownAt tokens reactors (cause_of c.args.refusal.now) r.at)
    (λ r e. subst (λ f. IsShownAt tokens reactors (cause_of f) r.at) (sym c.in-Shown.is) (inl (record { witness = w; shows = shows; shows_cause = refl; at = e })))
    c.of_witness.ensures.at

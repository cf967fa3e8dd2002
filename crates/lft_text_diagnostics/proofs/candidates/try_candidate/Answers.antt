use Rattle.std.proofs.Common.{◌∷◌, [], ◌++◌}
use Rattle.std.proofs.lemmas.List.Elements.{All-same, All-push}
use Rattle.lft_text_diagnostics.proofs.candidates.try_candidate.Goals as goal

pub returns-in_ok-push : goal.returns-in_ok-push
returns-in_ok-push g c =
    let can = g.T.Trial.stands c.args.trial.now in
    All-same can c.push.new.self.items (c.args.found.now.items ++ c.args.candidate ∷ []) c.in_ok-push.ensures.items (All-push can c.args.found.now.items c.args.candidate c.requires.found (c.in_ok-can_stand.ensures c.if-branch.true))

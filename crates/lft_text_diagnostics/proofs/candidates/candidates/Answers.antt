use Rattle.std.proofs.Common.{◌++◌, subst, sym}
use Rattle.std.{proofs.lemmas.List.Elements.{All-append, All-same}, specs.List.All}
use Rattle.lft_text_diagnostics.proofs.candidates.candidates.Goals as goal

pub returns : goal.returns
returns g c =
    let can = g.T.Trial.stands c.args.trial.now in
    let keys = subst (All can) (sym c.deref.ensures.value) c.in_ok-keys.ensures in
    All-same can c.extend_from_slice.new.self.items (c.find.new.found.items ++ c.deref.result.now) c.in_ok-extend_from_slice.ensures.items (All-append can c.find.new.found.items c.deref.result.now c.in_ok-find.ensures keys)

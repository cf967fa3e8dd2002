use Rattle.std.proofs.Common.{false, true, sym, ◌∙◌}
use Rattle.std.proofs.lemmas.{Bool.false≢true, Option.get_or_from_slice_get}
use Rattle.lft_facts.proofs.passing.passed_by.Goals as goal

pub returns-then-not-ran-reaction-clause-holds : goal.returns-then-not-ran-reaction-clause-holds
returns-then-not-ran-reaction-clause-holds c plan t holds have =
    let r = c.in_ok-reaction.reaction in
    record {
      none = λ x. false≢true (sym c.if-not-ran-reaction.true ∙ get_or_from_slice_get c.args.ran.now r true false ((have r).1 x));
      precedes = c.in_ok-reaction.ensures plan t holds;
    }

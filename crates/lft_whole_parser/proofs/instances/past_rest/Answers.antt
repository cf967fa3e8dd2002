use Rattle.std.proofs.Common.{refl, sym, ◌∙◌, arith}
use Rattle.lft_whole.{specs.{Parts.Language.{ignored, this}, inner.Parts.Parsing.source}, proofs.PartsLemmas.Loop.{loop_opens, loop_turns, loop_done}}
use Rattle.lft_whole_parser.specs.Grammar.{host_rest}
use Rattle.lft_whole_parser.specs.Grammar as Grammar
use Rattle.lft_whole_parser.proofs.instances.past_rest.Goals as goal

pub host-init : goal.host-init
unfolding host_rest
host-init c = record { within = (omega arith, c.requires.within); read = loop_opens (λ _. Grammar.on_host) (λ _. ignored this) (source c.args.input.now) tt c.args.at (Grammar.host_rest (source c.args.input.now) c.args.at) refl }

pub host-preserved : goal.host-preserved
host-preserved c =
    let inside = c.is_of_host.ensures.inside c.host-test.true in
    let within = c.host.invariant.within in
    record { within = (omega (arith, within.0), omega (arith, inside)); read = loop_turns c.host.invariant.read (sym c.is_of_host.ensures.is ∙ c.host-test.true) refl (omega arith) (omega (arith, inside)) }

pub returns-clause-gives : goal.returns-clause-gives
returns-clause-gives c = loop_done c.host.invariant.read (sym c.is_of_host.ensures.is ∙ c.host-test.false)

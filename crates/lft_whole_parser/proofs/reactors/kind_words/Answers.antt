use Rattle.std.proofs.Common.{false, refl, sym, ◌∙◌, arith}
use Rattle.lft_whole_parser.specs.Grammar.{kind_words}
use Rattle.lft_whole.{specs.inner.Parts.Parsing.source, proofs.PartsLemmas.Loop.{loop_opens, loop_turns, loop_done}}
use Rattle.lft_whole_parser.specs.Grammar as Grammar
use Rattle.lft_whole_parser.proofs.reactors.kind_words.Goals as goal

pub words-init : goal.words-init
unfolding kind_words
words-init c = record { within = (omega arith, c.requires); read = loop_opens (λ _. Grammar.on_kind) Grammar.kind_word (source c.args.input.now) (false, false) c.args.at (Grammar.kind_words (source c.args.input.now) c.args.at) refl }

pub words-preserved : goal.words-preserved
words-preserved c =
    let inside = c.is_before_reactor.ensures.inside c.words-test.true in
    let within = c.words.invariant.within in
    record { within = (omega (arith, within.0), omega (arith, inside)); read = rw (c.is_known-is_main.ensures, c.is_known-is_federated.ensures) (loop_turns c.words.invariant.read (sym c.is_before_reactor.ensures.is ∙ c.words-test.true) refl (omega arith) (omega (arith, inside))) }

pub returns-clause-gives : goal.returns-clause-gives
returns-clause-gives c = loop_done c.words.invariant.read (sym c.is_before_reactor.ensures.is ∙ c.words-test.false)

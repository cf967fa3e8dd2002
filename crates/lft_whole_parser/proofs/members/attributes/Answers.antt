use Rattle.std.proofs.Common.{false, refl, sym, ◌∙◌, arith}
use Rattle.std.proofs.lemmas.Result.{err_from_is_err_and}
use Rattle.lft_whole.{specs.{Parts.Language.sign, inner.Parts.Parsing.source}, proofs.PartsLemmas.Loop.{loop_opens, loop_turns, loop_fails, loop_done}}
use Rattle.lft_whole_parser.specs.Grammar.{attributes}
use Rattle.lft_whole_parser.specs.Grammar as Grammar
use Rattle.lft_whole_parser.proofs.members.attributes.Goals as goal

pub attributes-init : goal.attributes-init
unfolding attributes
attributes-init c = record { within = (omega arith, c.requires); read = loop_opens (λ _. sign 64) Grammar.next_attribute (source c.args.input.now) false c.args.at (Grammar.attributes (source c.args.input.now) c.args.at) refl }

pub attributes-preserved : goal.attributes-preserved
attributes-preserved c =
    let further = c.in_ok-known.ensures.ok in
    let within = c.attributes.invariant.within in
    record { within = (omega (arith, further.0, within.0), further.1); read = loop_turns c.attributes.invariant.read (sym c.is_symbol.ensures.is ∙ c.attributes-test.true) c.in_ok-known.ensures.gives (omega (arith, further.0)) further.1 }

pub returns-in_err-known-clause-gives : goal.returns-in_err-known-clause-gives
returns-in_err-known-clause-gives c =
    let p = err_from_is_err_and c.from_residual.result c.from_residual.ensures.1 in
    rw (p.1, p.2) (loop_fails c.in_err-known.field-0.0 c.attributes.invariant.read (sym c.is_symbol.ensures.is ∙ c.attributes-test.true) c.in_err-known.ensures.gives)

pub returns-clause-gives : goal.returns-clause-gives
returns-clause-gives c = loop_done c.attributes.invariant.read (sym c.is_symbol.ensures.is ∙ c.attributes-test.false)

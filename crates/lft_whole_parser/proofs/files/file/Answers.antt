use Rattle.std.proofs.Common.{Ok, refl, sym, ◌∙◌, arith}
use Rattle.std.proofs.lemmas.Result.{err_from_is_err_and}
use Rattle.lft_syntax.specs.Lexeme.{is_there}
use Rattle.lft_whole.{specs.{Parts.Language.on, inner.Parts.Parsing.source}, proofs.PartsLemmas.Loop.{loop_begins, loop_turns, loop_fails, loop_done}}
use Rattle.lft_whole_parser.specs.Files.{file}
use Rattle.lft_whole_parser.specs.Files as Files
use Rattle.lft_whole_parser.proofs.files.file.Goals as goal

pub items-init : goal.items-init
unfolding file
items-init c =
    record { within = omega arith; read = rw c.empty-file.ensures (loop_begins (λ _. on is_there) Files.next_top (source c.args.input.now) (λ a. Ok a.0) Files.empty_file 0 (Files.whole_file (source c.args.input.now)) refl) }

pub items-preserved : goal.items-preserved
items-preserved c =
    let further = c.in_ok-next.ensures.ok in
    record { within = further.1; read = loop_turns c.items.invariant.read (sym c.is_there.ensures.is ∙ c.items-test.true) c.in_ok-next.ensures.gives (omega (arith, further.0)) further.1 }

pub returns-in_err-next-clause-gives : goal.returns-in_err-next-clause-gives
returns-in_err-next-clause-gives c =
    let p = err_from_is_err_and c.from_residual.result c.from_residual.ensures.1 in
    rw (p.1, p.2) (loop_fails c.in_err-next.field-0.0 c.items.invariant.read (sym c.is_there.ensures.is ∙ c.items-test.true) c.in_err-next.ensures.gives)

pub returns-clause-gives : goal.returns-clause-gives
returns-clause-gives c = loop_done c.items.invariant.read (sym c.is_there.ensures.is ∙ c.items-test.false)

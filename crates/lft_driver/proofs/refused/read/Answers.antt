use Rattle.std.proofs.Common.{rules, ◌≢◌, inl, inr, string_bytes}
use Rattle.lft_tree.specs.View.{tree_view}
use Rattle.lft_program.specs.inner.Refusals.{cause_of}
use Rattle.lft_text_diagnostics.specs.Refusals.{HasNoTree}
use Rattle.lft_load.proofs.Loading.{only_program}
use Rattle.lft_driver.proofs.Reading.{no_flat, no_tokens, no_tree, only_tree}
use Rattle.lft_syntax.specs.declared.fault.LexFault.TheVariants as lex
use Rattle.lft_driver.proofs.refused.read.Goals as goal

pub returns-in-Err : goal.returns-in-Err
returns-in-Err c =
    let told : c.in-Err.fault ≢ lex.NoMemory = search rules in
    (no_tokens c.args.text.now c.in-Err.fault c.in-Err.ensures.fault told, inl c.in_ok-words-in-Err.ensures)

pub tell_no_tree-requires-clause-none : goal.tell_no_tree-requires-clause-none
tell_no_tree-requires-clause-none c = record {
  lexes = c.in-Ok.ensures.tokens.0;
  none = (c.in-Err-Unexpected.ensures.unexpected c.in-Err-Unexpected.number (cc)).2;
}

pub returns-in-Err-Unexpected : goal.returns-in-Err-Unexpected
returns-in-Err-Unexpected c =
    let none : HasNoTree c.args.text.now c.in-Ok.tokens c.in-Err-Unexpected.number = record {
      lexes = c.in-Ok.ensures.tokens.0;
      none = (c.in-Err-Unexpected.ensures.unexpected c.in-Err-Unexpected.number (cc)).2;
    } in
    (no_tree c.args.text.now c.in-Ok.tokens c.in-Err-Unexpected.number none, inl c.in_ok-words-in-Err-Unexpected.ensures)

pub returns-in-Ok-flattened : goal.returns-in-Ok-flattened
returns-in-Ok-flattened c =
    let tree = tree_view c.in-Ok-parse.ast in
    let only = only_tree c.args.text.now c.in-Ok.tokens tree c.in-Ok.ensures.short c.in-Ok.ensures.tokens c.in-Ok-parse.ensures.tree in
    only_program c.args.text.now tree only c.in-Ok-flattened.program c.in-Ok-flattened.ensures.flat c.in-Ok-flattened.ensures.one

pub returns : goal.returns
returns c =
    let tree = tree_view c.in-Ok-parse.ast in
    let only = only_tree c.args.text.now c.in-Ok.tokens tree c.in-Ok.ensures.short c.in-Ok.ensures.tokens c.in-Ok-parse.ensures.tree in
    let cause = cause_of c.in-Err-flattened.refusal in
    let told = c.in_ok-words-in-Err-flattened.ensures in
    (no_flat c.args.text.now tree only cause (string_bytes c.in_ok-words-in-Err-flattened.words) told, inr (cause, told))

use Rattle.lft_load.{specs.{Refusals.TreeRefusal.{by_lex, by_syntax}, Faults.syntax_number}, proofs.Loading.{one_tree, syntax_fails, syntax_none, told_at}}
use Rattle.lft_load.specs.declared.fault.Part.TheVariants as part
use Rattle.lft_load.proofs.layers.read_tree.Goals as goal

pub returns-in-Err-clause-refused : goal.returns-in-Err-clause-refused
returns-in-Err-clause-refused c = by_lex c.in-Err.fault c.lex-in-Err.ensures.part c.lex-in-Err.ensures.number c.in-Err.ensures.fault

pub returns-in-Ok-parse-clause-tree : goal.returns-in-Ok-parse-clause-tree
returns-in-Ok-parse-clause-tree c = record {
  is = record {
    short = c.in-Ok.ensures.short;
    tokens = c.in-Ok.tokens;
    lexed = c.in-Ok.ensures.tokens.0;
    spelled = c.in-Ok-parse.ensures.tree.0;
  };
  only = λ tree x. c.in-Ok-parse.ensures.tree.1 tree (one_tree c.args.text.now c.in-Ok.tokens c.in-Ok.ensures.tokens.1 tree x);
}

pub returns-clause-refused : goal.returns-clause-refused
returns-clause-refused c =
    by_syntax c.in-Err-parse.fault c.in-Ok.tokens c.syntax.ensures.part c.syntax.ensures.number c.in-Ok.ensures.short c.in-Ok.ensures.tokens.0
    (syntax_fails c.args.text.now c.in-Ok.tokens c.parse.result c.in-Err-parse.fault c.in-Err-parse.is c.parse.ensures.unexpected)

pub returns-clause-none : goal.returns-clause-none
returns-clause-none c = λ t tree x.
    let e = c.in-Err-parse.fault in
    syntax_none c.args.text.now c.in-Ok.tokens e
    (syntax_fails c.args.text.now c.in-Ok.tokens c.parse.result e c.in-Err-parse.is c.parse.ensures.unexpected)
    (told_at c.syntax.result.part part.Syntax c.syntax.result.number (syntax_number e) c.syntax.ensures.part c.syntax.ensures.number t)
    tree (one_tree c.args.text.now c.in-Ok.tokens c.in-Ok.ensures.tokens.1 tree x)

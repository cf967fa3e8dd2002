use Rattle.std.proofs.Common.{◌≡◌, ℕ, List, sym, subst, ◌∙◌, ap, arith, Ok, Err}
use Rattle.lft_syntax.specs.{declared.token.Token.Token, Grammar.Spells, View.lexemes, Placed.FileStands, inner.Reading.whole_at}
use Rattle.lft_syntax.proofs.{TokenFacts.{InText, token_at, name_ascii}, Whole.{read_tree, fault_given, begun_given, read_fault}, Behind.lexemes_length}
use Rattle.lft_syntax.proofs.DeclaredNames.{has_identifiers}
use Rattle.lft_tree.specs.{Tree.FileTree, View.file_view}
use Rattle.lft_syntax.proofs.parser.parse.Goals as goal

only_tree : (text : List ℕ) {slice tokens : List Token} {tree : FileTree} → slice ≡ tokens → whole_at (lexemes text slice) ≡ Ok tree → Spells tree (lexemes text tokens) × ((other : FileTree) → Spells other (lexemes text tokens) → other ≡ tree)
only_tree text {tokens = tokens} {tree = tree} same e = read_tree (lexemes text tokens) tree (ap (λ (l : List Token). whole_at (lexemes text l)) (sym same) ∙ e)

pub invariant_of-input : goal.invariant_of-input
invariant_of-input c =
    rw c.as_slice.ensures (record {
      in_text = λ i t e. let k : InText c.args.text.now t = token_at c.args.text.now c.args.tokens.now i t c.requires.lexed e in let order = k.order in (omega arith, k.within);
      names = λ i t e name. name_ascii c.args.text.now c.args.tokens.now i t c.requires.lexed e name;
    })

pub overflow_add-result : goal.overflow_add-result
overflow_add-result c =
    let e : whole_at (lexemes c.args.text.now c.as_slice.result.now) ≡ Err c.in-Err-Unexpected.at = rw c.in-Err-Unexpected.field-0-is at c.in-Err-Unexpected.ensures.gives in
    let far = (read_fault (lexemes c.args.text.now c.as_slice.result.now) c.in-Err-Unexpected.at e).1 in
    let same = lexemes_length c.args.text.now c.as_slice.result.now in
    omega (arith, c.as_slice.type_inv.0, c.as_slice.type_inv.1)

pub invariant_of-result : goal.invariant_of-result
invariant_of-result c =
    let tree = file_view c.in-Ok.content.target c.in-Ok.content.items.items in
    record { identifiers = has_identifiers c.args.text.now c.args.tokens.now tree c.requires.lexed (only_tree c.args.text.now c.as_slice.ensures c.in-Ok.ensures.gives).0 }

pub returns-in-Ok-clause-tree : goal.returns-in-Ok-clause-tree
returns-in-Ok-clause-tree c = only_tree c.args.text.now c.as_slice.ensures c.in-Ok.ensures.gives

pub returns-in-Ok-clause-places : goal.returns-in-Ok-clause-places
returns-in-Ok-clause-places c = subst (λ (l : List Token). FileStands (lexemes c.args.text.now l) c.in-Ok.content.target c.in-Ok.content.items.items) c.as_slice.ensures c.in-Ok.ensures.stand

pub returns-in-Err-Unexpected-clause-begun : goal.returns-in-Err-Unexpected-clause-begun
returns-in-Err-Unexpected-clause-begun c =
    let e : whole_at (lexemes c.args.text.now c.as_slice.result.now) ≡ Err c.in-Err-Unexpected.at = rw c.in-Err-Unexpected.field-0-is at c.in-Err-Unexpected.ensures.gives in
    let f : whole_at (lexemes c.args.text.now c.args.tokens.now) ≡ Err c.in-Err-Unexpected.at = ap (λ (l : List Token). whole_at (lexemes c.args.text.now l)) (sym c.as_slice.ensures) ∙ e in
    begun_given (lexemes c.args.text.now c.args.tokens.now) c.in-Err-Unexpected.at f

pub returns-in-Err-Unexpected-clause-unexpected : goal.returns-in-Err-Unexpected-clause-unexpected
returns-in-Err-Unexpected-clause-unexpected c =
    let e : whole_at (lexemes c.args.text.now c.as_slice.result.now) ≡ Err c.in-Err-Unexpected.at = rw c.in-Err-Unexpected.field-0-is at c.in-Err-Unexpected.ensures.gives in
    let f : whole_at (lexemes c.args.text.now c.args.tokens.now) ≡ Err c.in-Err-Unexpected.at = ap (λ (l : List Token). whole_at (lexemes c.args.text.now l)) (sym c.as_slice.ensures) ∙ e in
    let same = lexemes_length c.args.text.now c.args.tokens.now in
    rw (← same) (fault_given (lexemes c.args.text.now c.args.tokens.now) c.in-Err-Unexpected.at f)

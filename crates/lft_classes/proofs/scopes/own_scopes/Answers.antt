use Rattle.std.proofs.Common.{◌≡◌, ◌+◌, ◌++◌, length, Some, slice_get, refl, sym, ap, subst, ◌∙◌, arith}
use Rattle.std.proofs.lemmas.{List.length_push, Option.slice_get_read}
use Rattle.lft_classes.{specs.inner.Scopes.{IsOwnScope, reactors_of_file}, proofs.{Meanings.scopes_push, Numbering.{before_all, before_more}}}
use Rattle.lft_classes.proofs.scopes.own_scopes.Goals as goal

pub loop-number-preserved : goal.loop-number-preserved
loop-number-preserved c =
    let files = c.args.files.now in
    let n = c.loop-number.number in
    let before = c.loop-number.own.items in
    let file = c.index-files-number.result in
    let at : slice_get files n ≡ Some file = slice_get_read files (length files) n file refl c.loop-number-test.true c.index-files-number.is in
    record {
      count = ap length c.in_ok-push.ensures.items ∙ length_push before c.in_ok-scope.scope ∙ ap (λ m. m + 1) c.loop-number.invariant.count;
      classes = λ none. c.in_ok-scope.ensures.classes ∙ ap (λ l. l ++ reactors_of_file (n, file)) (c.loop-number.invariant.classes none) ∙ sym (before_more files n file at);
      numbers = λ all. c.in_ok-scope.ensures.numbers (c.loop-number.invariant.numbers all);
      own = λ none. subst (λ ss. (t : _) (s : _) → slice_get ss t ≡ Some s → IsOwnScope files t s) (sym c.in_ok-push.ensures.items) (scopes_push (λ t s. IsOwnScope files t s) before n c.in_ok-scope.scope c.loop-number.invariant.count (c.loop-number.invariant.own none) (c.in_ok-scope.ensures.own files at (c.loop-number.invariant.classes none)));
    }

pub returns-clause-own : goal.returns-clause-own
returns-clause-own c none = record { count = c.loop-number.invariant.count ∙ omega arith; each = c.loop-number.invariant.own none }

pub returns-clause-classes : goal.returns-clause-classes
returns-clause-classes c none = c.loop-number.invariant.classes none ∙ before_all c.args.files.now c.loop-number.number (omega arith)

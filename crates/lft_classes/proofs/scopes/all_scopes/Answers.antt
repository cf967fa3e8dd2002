use Rattle.std.proofs.Common.{◌≡◌, ◌+◌, length, Some, slice_get, refl, sym, ap, subst, ◌∙◌, arith}
use Rattle.std.proofs.lemmas.{List.length_push, Option.slice_get_read}
use Rattle.lft_classes.{specs.inner.Scopes.IsMeantScope, proofs.Meanings.scopes_push}
use Rattle.lft_classes.proofs.scopes.all_scopes.Goals as goal

pub loop-number-preserved : goal.loop-number-preserved
loop-number-preserved c =
    let files = c.args.files.now in
    let n = c.loop-number.number in
    let before = c.loop-number.scopes.items in
    let at : slice_get files n ≡ Some c.index-files-number.result = slice_get_read files (length files) n c.index-files-number.result refl c.loop-number-test.true c.index-files-number.is in
    record {
      count = ap length c.in_ok-push.ensures.items ∙ length_push before c.in_ok-scope.scope ∙ ap (λ m. m + 1) c.loop-number.invariant.count;
      each = λ own. subst (λ ss. (t : _) (s : _) → slice_get ss t ≡ Some s → IsMeantScope files t s) (sym c.in_ok-push.ensures.items) (scopes_push (λ t s. IsMeantScope files t s) before n c.in_ok-scope.scope c.loop-number.invariant.count (c.loop-number.invariant.each own) (c.in_ok-scope.ensures.meant files at own));
    }

pub returns : goal.returns
returns c = record { meant = λ own. record { count = c.loop-number.invariant.count ∙ omega arith; each = c.loop-number.invariant.each own } }

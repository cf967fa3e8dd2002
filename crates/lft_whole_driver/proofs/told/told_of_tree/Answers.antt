use Rattle.std.proofs.Common.{string_bytes, subst, sym}
use Rattle.std.proofs.lemmas.Result.{IfOk-weaker}
use Rattle.lft_program.specs.inner.Refusals.{cause_of}
use Rattle.lft_program_diagnostics.specs.{Reasons.IsToldIn, inner.Pages.ArePages}
use Rattle.lft_whole_driver.{specs.Told.IsToldTree, proofs.Joining.pages_in}
use Rattle.lft_whole_driver.proofs.told.told_of_tree.Goals as goal

pub tell_refusal_in-requires-clause-files : goal.tell_refusal_in-requires-clause-files
tell_refusal_in-requires-clause-files c =
    let joined = c.in_ok-joined.joined in
    subst (λ t. ArePages t c.deref-3.result.now) (sym c.deref.ensures.value) (subst (ArePages joined.text.items) (sym c.deref-3.ensures.value) (pages_in c.in_ok-joined.ensures))

pub returns : goal.returns
returns c =
    let joined = c.in_ok-joined.joined in
    let parts = c.args.ast.now.items.items in
    let cause = cause_of c.args.refusal.now in
    let text = c.deref.result.now in
    let tokens = c.deref-2.result.now in
    IfOk-weaker c.tell_refusal_in.result (λ words. IsToldIn text tokens c.deref-3.result.now parts cause (string_bytes words)) (λ words. IsToldTree c.args.files.now parts cause (string_bytes words))
    (λ words told.
    let pages = subst (λ ps. IsToldIn text tokens ps parts cause (string_bytes words)) c.deref-3.ensures.value told in
    let both = subst (λ ts. IsToldIn text ts joined.pages.items parts cause (string_bytes words)) c.deref-2.ensures.value pages in
    (joined, c.in_ok-joined.ensures, subst (λ t. IsToldIn t joined.tokens.items joined.pages.items parts cause (string_bytes words)) c.deref.ensures.value both))
    c.tell_refusal_in.ensures.told

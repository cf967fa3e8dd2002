use Rattle.std.proofs.Common.{◌≡◌, [], ◌∷◌, ◌++◌, inr, sym, ap, ◌∙◌, subst, Some, slice_get}
use Rattle.lft_resolve.{specs.inner.Expansion.Ways.LeadsBack, proofs.ExpansionLemmas.Backwards.{back_more, pushed_some}}
use Rattle.lft_resolve.proofs.expansion.ways.way_back.Goals as goal

pub returns-then-at-port : goal.returns-then-at-port
returns-then-at-port c =
    let sources = c.args.found.now.sources.items in
    let sites = c.args.found.now.sites.items in
    let way = c.back.way.items in
    let s = c.in-Some.source in
    let x = c.item_at-in-back.result in
    let source : slice_get sources c.back.at ≡ Some (Some s) = subst (λ l. slice_get l c.back.at ≡ Some (Some s)) c.deref.ensures.value (c.item_at.ensures ∙ ap Some c.in-Some.is) in
    let site : slice_get sites c.back.at ≡ Some x = subst (λ l. slice_get l c.back.at ≡ Some x) c.deref-in-back.ensures.value c.item_at-in-back.ensures in
    let longer : c.push.new.self.items ≡ way ++ x ∷ [] = c.in_ok-push.ensures.items in
    record {
      last = s.port;
      leads = subst (λ l. LeadsBack sources sites c.args.port l s.port) (sym longer) (back_more sources sites c.args.port way c.back.at s x c.back.invariant.0 source site);
      ends = inr (c.if-at-port.true, λ e. pushed_some way x (sym longer ∙ e));
    }

pub back-preserved : goal.back-preserved
back-preserved c =
    let sources = c.args.found.now.sources.items in
    let sites = c.args.found.now.sites.items in
    let way = c.back.way.items in
    let s = c.in-Some.source in
    let x = c.item_at-in-back.result in
    let source : slice_get sources c.back.at ≡ Some (Some s) = subst (λ l. slice_get l c.back.at ≡ Some (Some s)) c.deref.ensures.value (c.item_at.ensures ∙ ap Some c.in-Some.is) in
    let site : slice_get sites c.back.at ≡ Some x = subst (λ l. slice_get l c.back.at ≡ Some x) c.deref-in-back.ensures.value c.item_at-in-back.ensures in
    let longer : c.push.new.self.items ≡ way ++ x ∷ [] = c.in_ok-push.ensures.items in
    (subst (λ l. LeadsBack sources sites c.args.port l s.port) (sym longer) (back_more sources sites c.args.port way c.back.at s x c.back.invariant.0 source site), c.requires.inside c.back.at s source)

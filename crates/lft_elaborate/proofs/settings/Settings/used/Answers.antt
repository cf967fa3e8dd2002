use Rattle.std.proofs.Common.{◌≡◌, ◌∷◌, ◌++◌, [], Bool, List, ℕ, Some, true, length, refl, sym, ap, subst, ◌∙◌, arith, slice_get}
use Rattle.std.proofs.lemmas.Option.{slice_get_read}
use Rattle.lft_elaborate.specs.inner.Noted.{table}
use Rattle.lft_elaborate.proofs.{Keeping.{goes_further, goes_nowhere, goes_settings}, Using.{Using, using_all, using_begun, using_more}}
use Rattle.lft_elaborate.proofs.settings.Settings.used.Goals as goal

pub places-init : goal.places-init
places-init c =
    let s = table c.args.self.now in
    let used : c.push.new.self.items ≡ 0 ∷ [] = c.in_ok-push.ensures.items ∙ ap (λ (l : List ℕ). l ++ 0 ∷ []) c.new-used.ensures.items in
    let marks : c.push-2.new.self.items ≡ true ∷ [] = c.in_ok-push-2.ensures.items ∙ ap (λ (l : List Bool). l ++ true ∷ []) c.new-is_used.ensures.items in
    record {
      few = (let long = ap length used in let ok = c.push.new.self.ok.0 in omega (arith, long, ok));
      goes = goes_nowhere _;
      using = λ a. subst (λ (l : List ℕ). Using s l c.push-2.new.self.items 0) (sym used) (subst (λ (m : List Bool). Using s (0 ∷ []) m 0) (sym marks) (using_begun s a));
    }

pub places-preserved : goal.places-preserved
places-preserved c =
    let was = c.places.invariant in
    let now = c.in_ok-push_inner.ensures in
    let used = c.places.used.items in
    let here : slice_get used c.places.place ≡ Some c.index-setting.result.now = slice_get_read used (length used) c.places.place c.index-setting.result.now refl (omega arith) c.index-setting.ensures in
    record {
      few = omega arith;
      goes = goes_further _ _ _ was.goes now.goes;
      using = λ a.
          let u = was.using a in
          let made = was.goes.made a.made in
          using_more (table c.places.self) (table c.push_inner.new.self) used c.push_inner.new.used.items c.places.is_used.items c.push_inner.new.is_used.items c.places.place c.index-setting.result.now now.goes u here (now.marked u.marked) now.stay (λ t at. now.all t made at u.marked) (λ t at. now.only t made at);
    }

pub returns-clause-used : goal.returns-clause-used
returns-clause-used c a = using_all (table c.places.self) c.places.used.items c.places.is_used.items c.places.place (goes_settings _ _ c.places.invariant.goes a) (c.places.invariant.using a) (omega arith)

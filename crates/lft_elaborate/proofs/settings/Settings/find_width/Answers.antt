use Rattle.std.proofs.Common.{◌≡◌, ℕ, List, Some, sym, subst}
use Rattle.lft_lists.proofs.Options.{found}
use Rattle.lft_whole.specs.declared.tree.Term.{Term}
use Rattle.lft_elaborate.{specs.inner.{Places.IsSum, Settings.setting_at, Noted.{AreMade, table}, Values.Valued}, proofs.Standing.close_goes}
use Rattle.lft_elaborate.proofs.settings.Settings.find_width.Goals as goal

pub returns-in-Some-all-clause-goes : goal.returns-in-Some-all-clause-goes
returns-in-Some-all-clause-goes c =
    let s = c.args.self.now in
    let w = c.in-Some-width.width.now in
    let n = c.in-Some-all.width in
    let sum = found (λ (k : ℕ). (t : Valued) → AreMade (table s) → setting_at s c.args.wanted.setting ≡ Some t → IsSum s.shapes.items t c.deref.result.now k) c.in_ok-all.all n c.in_ok-all.ensures.sum c.in-Some-all.is in
    close_goes s (table c.sum.new.self) (table c.note_width.new.self) c.in_ok-all.ensures.goes c.args.wanted.setting c.args.wanted.member c.in-Some.inherited w (Some n) (sym c.in-Some.ensures) (sym c.in-Some-width.ensures) (λ t made at. subst (λ (terms : List Term). IsSum s.shapes.items t terms n) c.deref.ensures.value (sum t made at)) c.note_width.ensures.goes

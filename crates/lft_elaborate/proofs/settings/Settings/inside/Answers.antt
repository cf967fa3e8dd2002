use Rattle.std.proofs.Common.{◌≡◌, ◌<◌, ℕ, ℤ, length, map, Some, sym, ap, ◌∙◌, arith, rules}
use Rattle.std.specs.Prelude.{Vec, option_map}
use Rattle.std.{specs.Global.Global, proofs.lemmas.Grind.common_steps}
use Rattle.lft_elaborate.{specs.inner.{Noted.table, Settings.setting_in, Values.{Valued, inside}}, proofs.Keeping.{goes_same, inside_goes}}
use Rattle.lft_elaborate.proofs.settings.Settings.inside.Goals as goal

pub returns-clause-goes : goal.returns-clause-goes
returns-clause-goes c =
    let s0 = c.args.self.now in
    let s1 = c.values_inside.new.self in
    let v : Valued = record { shape = c.in-Some-2.shape; values = map (λ n. Some n) c.in-Some-2.values.items } in
    let within : c.in-Some-2.shape < length s1.shapes.items = first_of (search rules, grind (arith, common_steps)) in
    let low : c.args.setting < length s0.settings.items = first_of (search rules, grind (arith, common_steps)) in
    let is : (t : Valued) → setting_in s0.settings.items c.args.setting ≡ Some t → Some v ≡ inside s0.shapes.items t c.args.member = λ t at. (
    let h = c.in_ok-shape.ensures.inside t at in
    let e : c.in_ok-shape.field-0 ≡ Some (c.in-Some-2.shape, c.in-Some-2.values) = first_of (cc, search rules) in
    sym (ap (option_map (λ (p : ℕ × Vec ℤ Global). record { shape = p.0; values = map (λ n. Some n) p.1.items })) e) ∙ h) in
    inside_goes (table s0) (table s1) (table c.setting.new.self) (table c.note_only.new.self) (table c.note_inside.new.self) c.args.setting c.args.member c.in_ok-inner.inner v (goes_same (table s0) (table s1) (ap table c.in_ok-shape.ensures.rest)) (c.in_ok-inner.ensures.goes within) low is (c.in_ok-inner.ensures.number within) c.note_only.ensures.goes c.note_inside.ensures.goes

use Rattle.std.proofs.Common.{◌≡◌, ◌<◌, length, Some, sym, ap, ◌∙◌, slice_get}
use Rattle.std.specs.Prelude.{Vec, option_map}
use Rattle.std.{proofs.lemmas.Option.slice_get_within, specs.Global.Global}
use Rattle.lft_classes.specs.declared.shapes.Shape.{Shape}
use Rattle.lft_elaborate.specs.inner.{Settings.setting_in, Values.{Valued, main_values}}
use Rattle.lft_elaborate.proofs.settings.Settings.add_main.Goals as goal

pub returns-in_ok-setting-clause-main : goal.returns-in_ok-setting-clause-main
returns-in_ok-setting-clause-main c main at empty made =
    let old = c.args.self.now in
    let new = c.setting.new.self in
    let shape = c.in-Some.shape.now in
    let there : slice_get old.shapes.items 0 ≡ Some shape = ap (λ (l : _). slice_get l 0) (sym c.deref.ensures.value) ∙ sym c.in-Some.ensures.value in
    let low : 0 < length old.shapes.items = slice_get_within old.shapes.items 0 main at in
    let shapes : new.shapes.items ≡ old.shapes.items = ap (λ (v : Vec Shape Global). v.items) c.in_ok-setting.ensures.rest.0 in
    let u : Valued = record { shape = 0; values = main_values shape } in
    let first : setting_in new.settings.items 0 ≡ setting_in new.settings.items c.in_ok-setting.field-0 = ap (setting_in new.settings.items) (sym (c.in_ok-setting.ensures.first empty made)) in
    record {
      main = (u, ap (λ l. option_map (λ (x : Shape). record { shape = 0; values = main_values x }) (slice_get l 0)) shapes ∙ ap (option_map (λ (x : Shape). record { shape = 0; values = main_values x })) there, first ∙ c.in_ok-setting.ensures.number low made ∙ ap (λ vs. Some (record { shape = 0; values = vs })) c.in_ok-values.ensures.found);
      made = (c.in_ok-setting.ensures.goes low).made made;
    }

use Rattle.std.proofs.Common.{◌≡◌, length, map, Some, None, refl, sym, ap, subst, ◌∙◌, arith, slice_get}
use Rattle.std.proofs.lemmas.Option.{slice_get_read}
use Rattle.lft_elaborate.specs.inner.{Noted.{SettingsTable, noted_for, table}, Settings.setting_in}
use Rattle.lft_elaborate.proofs.Keeping.{IsPut, added_number, goes_added, goes_never, no_number}
use Rattle.lft_elaborate.proofs.settings.Settings.setting.Goals as goal

pub returns-in-Some-clause-first : goal.returns-in-Some-clause-first
returns-in-Some-clause-first c empty made =
    let s = c.args.self.now in
    let found : noted_for s.known.items c.args.shape c.args.values.items ≡ Some c.in-Some.known = sym (c.noted.ensures ∙ ap (noted_for s.known.items c.args.shape) c.as_slice.ensures.value) ∙ c.in-Some.is in
    absurd (no_number s.settings.items c.in-Some.known (record { shape = c.args.shape; values = map (λ v. Some v) c.args.values.items }) empty (made.known c.args.shape c.in-Some.known c.args.values found))

pub returns-in_ok-insert-clause-goes : goal.returns-in_ok-insert-clause-goes
returns-in_ok-insert-clause-goes c within =
    let old = table c.args.self.now in
    let mid = table c.add_setting.new.self in
    let values = c.args.values.items in
    let adds = c.in_ok-add_setting.ensures.adds in
    let m = c.index_mut.result.now in
    let there : slice_get old.known c.args.shape ≡ Some m = ap (λ (t : SettingsTable). slice_get t.known c.args.shape) (sym adds.settings) ∙ slice_get_read mid.known (length mid.known) c.args.shape m refl (omega arith) c.index_mut.ensures.value in
    let key : c.in_ok-key.key.items ≡ values = c.in_ok-key.ensures.items ∙ c.as_slice-2.ensures.value in
    let number : c.len-number.result ≡ length old.settings = omega arith in
    let raw : IsPut m c.insert.new.self c.in_ok-key.key.items c.len-number.result = c.in_ok-insert.ensures.updates.0 in
    let put : IsPut m c.insert.new.self values (length old.settings) = subst (λ n. IsPut m c.insert.new.self values n) number (subst (λ vs. IsPut m c.insert.new.self vs c.len-number.result) key raw) in
    let new : noted_for old.known c.args.shape values ≡ None = sym (c.noted.ensures ∙ ap (noted_for old.known c.args.shape) c.as_slice.ensures.value) ∙ c.in_default.is in
    goes_added old mid c.args.shape values adds m c.insert.new.self there put new

pub returns-in_ok-insert-clause-number : goal.returns-in_ok-insert-clause-number
returns-in_ok-insert-clause-number c within made =
    let number : c.len-number.result ≡ length c.args.self.now.settings.items = omega arith in
    ap (setting_in c.add_setting.new.self.settings.items) number ∙ added_number (table c.args.self.now) (table c.add_setting.new.self) c.args.shape c.args.values.items c.in_ok-add_setting.ensures.adds

pub returns-else-shape-len-clause-goes : goal.returns-else-shape-len-clause-goes
returns-else-shape-len-clause-goes c within =
    let old = table c.args.self.now in
    let adds = c.in_ok-add_setting.ensures.adds in
    let same : length c.add_setting.new.self.known.items ≡ length old.known = ap (λ (t : SettingsTable). length t.known) adds.settings in
    goes_never old (table c.add_setting.new.self) c.args.shape c.args.values.items adds (λ made. let long = made.known_long in let past = c.if-shape-len.false in omega (arith, same, long, within, past))

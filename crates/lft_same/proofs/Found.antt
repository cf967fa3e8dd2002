-- What lowering found of settings.
use Rattle.std.proofs.Common.{◌≡◌, ℕ, zero, suc, Some, slice_get, sym, ap, subst, ◌∙◌}
use Rattle.std.specs.Option.{option_and_then}
use Rattle.lft_lists.proofs.{Mapped.{mapped, mapped_from}, Places.Some_same}
use Rattle.lft_program.proofs.Zipping.{then_some}
use Rattle.lft_whole.specs.declared.tree.Width.{Width}
use Rattle.lft_classes.specs.declared.shapes.Shape.{Shape}
use Rattle.lft_elaborate.specs.declared.settings.{Setting.Setting, Settings.Settings}
use Rattle.lft_elaborate.specs.inner.{Noted.{AreSettings, noted_at, table}, Places.{IsWidth, sum_in, width_in, written_width}}
use Rattle.lft_elaborate.specs.inner.{Settings.{setting_at, shape_at, valued}, Values.Valued, Widths.found_width}

-- the shape of a setting is the one of its number
pub shape_of_setting : (s : Settings) (k : ℕ) (t : Valued) (shape : Shape) → setting_at s k ≡ Some t → shape_at s k ≡ Some shape → slice_get s.shapes.items t.shape ≡ Some shape
shape_of_setting s k t shape is_setting is_shape =
    let f = mapped_from valued s.settings.items k t is_setting in
    ap (λ (v : Valued). slice_get s.shapes.items v.shape) (sym f.2) ∙ sym (ap (option_and_then (λ (x : Setting). slice_get s.shapes.items x.shape)) f.1) ∙ is_shape

-- a width that was found is the sum of its terms
pub found_is_width : (s : Settings) → AreSettings (table s) → (k m n : ℕ) (t : Valued) → setting_at s k ≡ Some t → found_width s k m ≡ Some n → IsWidth s.shapes.items t m n
found_is_width s are k m n t is_setting found =
    let f = then_some (λ (x : Setting). noted_at x.widths.items m) (slice_get s.settings.items k) n found in
    let same : valued f.0 ≡ t = Some_same (valued f.0) t (sym (mapped valued s.settings.items k f.0 f.1) ∙ is_setting) in
    subst (λ v. IsWidth s.shapes.items v m n) same ((are.made.noted k f.0 f.1).widths m n f.2)

-- so it is written
pub width_written : (shapes : _) (t : Valued) (m n : ℕ) → IsWidth shapes t m n → (width : Width) × (written_width shapes t m ≡ Some width)
width_written shapes t m n (zero, is) = absurd (cc)
width_written shapes t m n (suc depth, is) = let f = then_some (λ (w : Width). sum_in shapes (width_in shapes depth) t w.terms.items) (written_width shapes t m) n is in (f.0, f.1)

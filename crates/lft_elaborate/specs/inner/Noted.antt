-- Inside: what is noted of the settings that were made.
use Rattle.std.specs.Prelude.{◌≡◌, ℕ, ℤ, List, length, map, Option, Some, None, slice_get, Vec, ◌∷◌, ◌++◌, []}
use Rattle.std.specs.{Global.Global, BTreeMap.{BTreeMap, get_by}, Cmp.Lexicographic.slice_cmp, Option.{option_and_then, option_or}, Ordering.int_cmp}
use Rattle.lft_classes.specs.{declared.shapes.Shape.Shape, inner.Shapes.child_at}
use Rattle.lft_elaborate.specs.declared.settings.{Setting.Setting, Settings.Settings}
use Rattle.lft_elaborate.specs.inner.{Places.IsWidth, Settings.{setting_in, valued}, Values.{Valued, inside, main_setting}}

-- what is noted at this place, if anything is
abbrev pub noted_at : List (Option ℕ) → ℕ → Option ℕ
noted_at list k = option_and_then (λ found. found) (slice_get list k)

-- for each shape its settings by their values
abbrev pub Known : Type 0
Known = List (BTreeMap (Vec ℤ Global) ℕ)

-- the number that is noted for a shape and values
abbrev pub noted_for : Known → ℕ → List ℤ → Option ℕ
noted_for known shape values = option_and_then (get_by (λ k. slice_cmp int_cmp values k.items)) (slice_get known shape)

-- the setting has this number; if there is no setting, there is no number
abbrev pub IsNumberOf : List Setting → Option Valued → Option ℕ → Type 0
IsNumberOf settings t None = t ≡ None
IsNumberOf settings t (Some k) = (u : Valued) × (t ≡ Some u) × (setting_in settings k ≡ Some u)

-- the widths that are noted in a setting are those of its members, and the settings those of its instances
pub record IsNoted (shapes : List Shape) (settings : List Setting) (t : Setting) : Type 0 where
  pub widths : (m n : ℕ) → noted_at t.widths.items m ≡ Some n → IsWidth shapes (valued t) m n
  pub inner : (m k : ℕ) → noted_at t.inner.items m ≡ Some k → IsNumberOf settings (inside shapes (valued t) m) (Some k)

-- the shapes, the settings that were made, and what is noted of them
pub record SettingsTable : Type 0 where
  pub shapes : List Shape
  pub settings : List Setting
  pub known : Known
  pub only : List (Option ℕ)

-- those of a program
abbrev pub table : Settings → SettingsTable
table s = record { shapes = s.shapes.items; settings = s.settings.items; known = s.known.items; only = s.only.items }

-- each setting stands once, and what is noted is so
pub record AreMade (t : SettingsTable) : Type 0 where
  pub noted : (k : ℕ) (s : Setting) → slice_get t.settings k ≡ Some s → IsNoted t.shapes t.settings s
  pub known_long : length t.known ≡ length t.shapes
  pub only_long : length t.only ≡ length t.shapes
  pub known : (shape k : ℕ) (q : Vec ℤ Global) → noted_for t.known shape q.items ≡ Some k → setting_in t.settings k ≡ Some (record { shape = shape; values = map (λ v. Some v) q.items })
  pub once : (k : ℕ) (s : Setting) → slice_get t.settings k ≡ Some s → noted_for t.known s.shape s.values.items ≡ Some k
  pub only : (around u : Valued) (m k : ℕ) → inside t.shapes around m ≡ Some u → noted_at t.only u.shape ≡ Some k → setting_in t.settings k ≡ Some u

-- and the first setting is that of the main reactor
pub record AreSettings (t : SettingsTable) : Type 0 where
  pub main : IsNumberOf t.settings (main_setting t.shapes) (Some 0)
  pub made : AreMade t

-- the number that is noted for the shape that is in a member of another one
abbrev pub only_inside : Settings → ℕ → ℕ → Option ℕ
only_inside s shape member = option_and_then (λ outer. option_and_then (λ child. noted_at s.only.items child.shape) (child_at outer.children.items member)) (slice_get s.shapes.items shape)

-- the number of the setting in an instance that is noted: in the setting around, or else for its shape
abbrev pub found_inside : Settings → ℕ → ℕ → Option ℕ
found_inside s setting member = option_and_then (λ t. option_or (noted_at t.inner.items member) (only_inside s t.shape member)) (slice_get s.settings.items setting)

-- settings that were made stay, and what is noted stays so
pub record GoesOn (old new : SettingsTable) : Type 0 where
  pub shapes : new.shapes ≡ old.shapes
  pub stays : (k : ℕ) (t : Valued) → setting_in old.settings k ≡ Some t → setting_in new.settings k ≡ Some t
  pub made : AreMade old → AreMade new

-- ---- for the crate's own contracts
-- one setting more, of which nothing is noted
pub record Adds (old new : SettingsTable) (shape : ℕ) (values : List ℤ) : Type 0 where
  pub fresh : Setting
  pub settings : new ≡ record old { settings = old.settings ++ fresh ∷ [] }
  pub shape_is : fresh.shape ≡ shape
  pub values_are : fresh.values.items ≡ values
  pub no_widths : (m : ℕ) → noted_at fresh.widths.items m ≡ None
  pub no_inner : (m : ℕ) → noted_at fresh.inner.items m ≡ None

-- settings that were made stay, and what is noted stays so if P holds
pub record GoesOnIf (P : Type 0) (old new : SettingsTable) : Type 0 where
  pub shapes : new.shapes ≡ old.shapes
  pub stays : (k : ℕ) (t : Valued) → setting_in old.settings k ≡ Some t → setting_in new.settings k ≡ Some t
  pub made : P → AreMade old → AreMade new

-- Inside: the settings that the instances of a program have.
use Rattle.std.specs.Prelude.{◌≡◌, ℕ, ◌<◌, Bool, true, false, List, Some, option_map, slice_get, unwrap_or}
use Rattle.lft_whole.specs.declared.tree.Member.{Member}
use Rattle.lft_classes.specs.{declared.shapes.Shape.Shape, inner.Walks.Has}
use Rattle.lft_elaborate.specs.inner.{Noted.SettingsTable, Places.{IsMany, member_in}, Settings.setting_in, Values.{Valued, inside, main_setting}}
use Rattle.lft_elaborate.specs.declared.settings.Setting.{Setting}
use Rattle.lft_whole.specs.declared.tree.Member.TheVariants as member

-- a member is an instance
abbrev pub is_instance : Member → Bool
is_instance (member.Instance instance) = true
is_instance _ = false

-- the member of this number is one
abbrev pub is_instance_in : List Shape → Valued → ℕ → Bool
is_instance_in shapes t m = unwrap_or (option_map (λ found. is_instance found.member.now) (member_in shapes t m)) false

-- the setting is that of the instance that is the member of this number of the other: of a plain one, or of a bank that has members
pub record IsIn (shapes : List Shape) (t : Valued) (m : ℕ) (u : Valued) : Type 0 where
  pub instance : is_instance_in shapes t m ≡ true
  pub is_inside : inside shapes t m ≡ Some u
  pub count : ℕ
  pub many : IsMany shapes t m count
  pub some : 0 < count

-- the setting is that of the main reactor, or of an instance in one that is reached
pub data IsReached (shapes : List Shape) : Valued → Type 0 where
  main : {t : Valued} → main_setting shapes ≡ Some t → IsReached shapes t
  within : {t u : Valued} (m : ℕ) → IsReached shapes t → IsIn shapes t m u → IsReached shapes u

-- The numbers are those of all settings that are reached, and of no others, the main one first. Each stands once.
pub record AreUsed (s : SettingsTable) (used : List ℕ) : Type 0 where
  pub main : slice_get used 0 ≡ Some 0
  pub reached : (k : ℕ) → Has used k → (t : Valued) × (setting_in s.settings k ≡ Some t) × IsReached s.shapes t
  pub all : (t : Valued) → IsReached s.shapes t → (k : ℕ) × Has used k × (setting_in s.settings k ≡ Some t)
  pub once : (i j k l : ℕ) (t : Valued) → slice_get used i ≡ Some k → slice_get used j ≡ Some l → setting_in s.settings k ≡ Some t → setting_in s.settings l ≡ Some t → i ≡ j

-- ---- for the crate's own contracts
-- a number has a mark
abbrev pub is_marked : List Bool → ℕ → Bool
is_marked marks k = unwrap_or (slice_get marks k) false

-- the numbers that stand in the list, each once, and no others have a mark
pub record AreMarked (used : List ℕ) (marks : List Bool) : Type 0 where
  pub listed : (k : ℕ) → is_marked marks k ≡ true → Has used k
  pub marked : (k : ℕ) → Has used k → is_marked marks k ≡ true
  pub once : (i j k : ℕ) → slice_get used i ≡ Some k → slice_get used j ≡ Some k → i ≡ j

-- the numbers stay at their places
abbrev pub Stay : List ℕ → List ℕ → Type 0
Stay old new = (i k : ℕ) → slice_get old i ≡ Some k → slice_get new i ≡ Some k

-- the number is that of the setting in a member of the other one
abbrev pub IsNumberIn : List Shape → List Setting → Valued → ℕ → ℕ → Type 0
IsNumberIn shapes settings t m k = (u : Valued) × IsIn shapes t m u × (setting_in settings k ≡ Some u)

-- the list has the number of the setting
abbrev pub HasNumber : SettingsTable → List ℕ → Valued → Type 0
HasNumber s used u = (k : ℕ) × Has used k × (setting_in s.settings k ≡ Some u)

-- the list has the numbers of the settings that are in one
abbrev pub HasInner : SettingsTable → List ℕ → Valued → Type 0
HasInner s used t = (m : ℕ) (u : Valued) → IsIn s.shapes t m u → HasNumber s used u

-- The names of a program's things, and what a text names.
use Rattle.std.specs.Prelude.{◌≡◌, ℕ, ◌==◌, ◌||◌, true, List, Some, slice_get, All}
use Rattle.lft_lists.specs.Bytes.{is_part}
use Rattle.lft_ir.specs.declared.found.Found.{Found}
use Rattle.lft_ir.specs.declared.found.Found.TheVariants as found

-- a name for each thing, in the order of the things' numbers
pub record ThingNames : Type 0 where
  pub instances : List (List ℕ)
  pub ports : List (List ℕ)
  pub actions : List (List ℕ)
  pub timers : List (List ℕ)
  pub reactions : List (List ℕ)

-- the text is the name of the thing (ours: `main.a`, `main.a.out`, `main.a#1`)
abbrev pub IsNamed : ThingNames → Found → List ℕ → Type 0
IsNamed names (found.Instance n) text = slice_get names.instances n ≡ Some text
IsNamed names (found.Port n) text = slice_get names.ports n ≡ Some text
IsNamed names (found.Action n) text = slice_get names.actions n ≡ Some text
IsNamed names (found.Timer n) text = slice_get names.timers n ≡ Some text
IsNamed names (found.Reaction n) text = slice_get names.reactions n ≡ Some text

-- no text names two things
abbrev pub AreDistinct : ThingNames → Type 0
AreDistinct names = (f g : Found) (text : List ℕ) → IsNamed names f text → IsNamed names g text → f ≡ g

-- a letter, a digit, `_`, a bracket, a dot (byte 46) or `#` (byte 35)
abbrev pub IsNameByte : ℕ → Type 0
IsNameByte b = (is_part b || (b == 46) || (b == 35)) ≡ true

-- each byte of each name is one of these
abbrev pub AreWords : ThingNames → Type 0
AreWords names = (f : Found) (text : List ℕ) → IsNamed names f text → All IsNameByte text

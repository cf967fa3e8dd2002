-- What a writer takes of a text that it gets piece by piece.
use Rattle.std.specs.Prelude.{ℕ, Bool, true, false, List, ◌++◌, Option, take}
use Rattle.std.specs.Io.KnownBytes.{Appends}

-- the writer took the whole text, or else a front of it
abbrev pub Took : Option (List ℕ) → Option (List ℕ) → Bool → List ℕ → Type 0
Took old new true text = Appends old new text
Took old new false text = (n : ℕ) × Appends old new (take n text)

-- whatever the writer took before, whole or not, it took more behind it, whole or not
pub record TookMore (mid : Option (List ℕ)) (was : Bool) (new : Option (List ℕ)) (is : Bool) (more : List ℕ) : Type 0 where
  pub behind : (old : Option (List ℕ)) (text : List ℕ) → Took old mid was text → Took old new is (text ++ more)

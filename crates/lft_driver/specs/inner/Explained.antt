-- Inside: a verdict on three texts with what explains it, and why texts get none.
use Rattle.std.specs.Prelude.{◌≡◌, ◌⊎◌, ℕ, List, Option}
use Rattle.std.specs.Io.KnownBytes.{Keeps}
use Rattle.lft_load.specs.{Written.AppendsFront, declared.fault.Fault.Fault}
use Rattle.lft_load.specs.declared.fault.Part.TheVariants as part

-- no text was written of which this holds: memory was refused, and nothing was written, or the writer failed on such a text
abbrev pub WriteRefusal : (List ℕ → Type 0) → Option (List ℕ) → Option (List ℕ) → Fault → Type 0
WriteRefusal P old new f = ((f.part ≡ part.Memory) × (f.number ≡ 1) × Keeps old new) ⊎ ((f.part ≡ part.Write) × (f.number ≡ 1) × ((text : List ℕ) × P text × AppendsFront old new text))

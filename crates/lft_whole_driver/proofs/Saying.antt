-- What is said of a refusal.
use Rattle.std.proofs.Common.{◌≡◌, ℕ, inl, inr, List, refl, subst}
use Rattle.lft_whole.specs.declared.sources.{source.SourceFile.SourceFile, stop.{FileRefusal.FileRefusal, NoProgram.NoProgram}}
use Rattle.lft_whole_driver.specs.{inner.Told.IsTold, Unlowered.Says, declared.told.Unlowered.Unlowered}
use Rattle.lft_whole.specs.declared.sources.stop.NoProgram.TheVariants as stop

told_known : (Is : List SourceFile → List ℕ → FileRefusal → Type 0) (files : List SourceFile) (first : List ℕ) (refusal : FileRefusal) (u : Unlowered) → Is files first refusal → IsTold files first (stop.Refused refusal) u → Says Is u
told_known Is files first refusal u is (inl tells) = inr (files, first, refusal, is, tells)
told_known Is files first refusal u is (inr none) = inl none

-- a refusal that is told is such a one
pub told_says : (Is : List SourceFile → List ℕ → FileRefusal → Type 0) (files : List SourceFile) (first : List ℕ) (s : NoProgram) (u : Unlowered) → ((r : FileRefusal) → s ≡ stop.Refused r → Is files first r) → IsTold files first s u → Says Is u
told_says Is files first (stop.Refused refusal) u is told = told_known Is files first refusal u (is refusal refl) told
told_says Is files first stop.NoMemory u is none = inl none

-- so is this one
pub told_this : (Is : List SourceFile → List ℕ → FileRefusal → Type 0) (files : List SourceFile) (first : List ℕ) (refusal : FileRefusal) (s : NoProgram) (u : Unlowered) → s ≡ stop.Refused refusal → Is files first refusal → IsTold files first s u → Says Is u
told_this Is files first refusal s u this is told = told_known Is files first refusal u is (subst (λ x. IsTold files first x u) this told)

-- and one of a larger kind
pub says_too : (Is Are : List SourceFile → List ℕ → FileRefusal → Type 0) (u : Unlowered) → ((files : List SourceFile) (first : List ℕ) (r : FileRefusal) → Is files first r → Are files first r) → Says Is u → Says Are u
says_too Is Are u f (inl none) = inl none
says_too Is Are u f (inr h) = inr (h.0, h.1, h.2, f h.0 h.1 h.2 h.3, h.4)

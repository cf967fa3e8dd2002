-- Refusals of one kind and of another.
use Rattle.std.proofs.Common.{◌≡◌, ◌⊎◌, inl, inr, ⊎_elim, ℕ, List, Option, Some, slice_get}
use Rattle.std.specs.Prelude.{IsSomeAnd}
use Rattle.lft_whole.specs.declared.sources.stop.{FileRefusal.FileRefusal, NoProgram.NoProgram}
use Rattle.lft_elaborate.specs.inner.Refused.{IfRefused}
use Rattle.lft_lower.specs.inner.Meanings.Refused.{IsOfSome}
use Rattle.lft_whole.specs.declared.sources.stop.NoProgram.TheVariants as stop

-- a refusal of the one kind is of the other
pub refused_too : (P Q : FileRefusal → Type 0) (s : NoProgram) → ((r : FileRefusal) → P r → Q r) → IfRefused P s → IfRefused Q s
refused_too P Q (stop.Refused refusal) f h = f refusal h
refused_too P Q stop.NoMemory f h = tt

pub some_and : {A : Type 0} (P : A → Type 0) (x : A) (o : Option A) → o ≡ Some x → P x → IsSomeAnd o P
some_and P x o e h = rw e h

-- a refusal of the one of these things, or of the program, is of one of them
pub of_this : {A : Type 0} (Is : A → FileRefusal → Type 0) (P : FileRefusal → Type 0) (xs : List A) (k : ℕ) (x : A) (s : NoProgram) → slice_get xs k ≡ Some x → IfRefused (λ r. P r ⊎ Is x r) s → IfRefused (λ r. P r ⊎ IsOfSome Is xs r) s
of_this Is P xs k x s e h = refused_too (λ r. P r ⊎ Is x r) (λ r. P r ⊎ IsOfSome Is xs r) s (λ r. ⊎_elim (λ p. inl p) (λ q. inr (k, some_and (λ y. Is y r) x (slice_get xs k) e q))) h

-- Causes of refusal, from one another.
use Rattle.std.proofs.Common.{◌≡◌, inl, inr, ℕ, ℤ, ◌<◌, zero, suc, List, [], ◌∷◌, ◌++◌, length, refl, sym, ap, ◌∙◌, subst, arith, Option, Some, None, slice_get, slice_set, cond, ◌==◌, Bool, false, Ok, Err, Result, IsErr, Contains, unwrap_or, option_map, rules}
use Rattle.std.proofs.lemmas.Bool.Decides.{nat_tests}
use Rattle.lft_ir.specs.Sound.{IsSound}
use Rattle.lft_ir.specs.declared.parts.{Name.{Name, TheVariants.{Port, Action}}, Reaction.Reaction, Value.Value}
use Rattle.lft_ir.specs.declared.steps.row.{Row.Row, Step.{Step, TheVariants.{Start, Read, Write, Schedule, Stop as StopStep, End}}}
use Rattle.lft_ir.specs.Steps.Fits.{StepFits}
use Rattle.lft_model.specs.{Plans.PlanParts, Recorded.{MayAnswer, SoFar, committed_rows}}
use Rattle.lft_tag.specs.declared.Tag.{Tag}
use Rattle.lft_lists.proofs.Members.{Mem, get_mem}
use Rattle.lft_scheduler.specs.{inner.Agendas.{AgendaParts, IsAgenda, EndsWith}, Collisions.IsClean, Starts.{IsBusy, MayStartFirst}}
use Rattle.lft_scheduler.specs.Answering.{MayAll, IsLongDelay, HasLongDelay}
use Rattle.lft_pool.specs.declared.bodies.{done.Done.Done, ticket.Ticket.Ticket}
use Rattle.lft_pool.specs.declared.stop.Stop.{Stop}
use Rattle.lft_pool.specs.declared.stop.Stop.TheVariants.{NoBody, Collision, UndeclaredEffect, TooManyRuns, Stranger, BodyNoMemory, NoMemory, NoWorker, PlanChanged, BadWorkers, TooManyRows, LimitTag}
use Rattle.lft_pool.specs.{Books.BookParts, Causes.StartCause, Reasons.{StopHolds, StopHolds.{by_begin, by_commit}}}
use Rattle.lft_pool.specs.{Answers.{HasTicket, with_answer, EndCause, CommitCause}, inner.Answers.{HasClash, RefusalCause}}

-- steps that may be made without a long delay, and rows that are refused
pub end_cause : (b : BookParts) (t : Ticket) (d : Done) (s : Stop) → MayAll b.plan t.reaction d.steps → ¬ HasLongDelay d.steps → RefusalCause b.plan (with_answer b t d) s → EndCause b t d s
end_cause b t d (NoBody r) may short h = h
end_cause b t d (Collision g) may short h = (may, short, h)
end_cause b t d (UndeclaredEffect r) may short h = absurd h
end_cause b t d TooManyRuns may short h = h
end_cause b t d Stranger may short h = h
end_cause b t d BodyNoMemory may short h = h
end_cause b t d NoMemory may short h = absurd h
end_cause b t d NoWorker may short h = h
end_cause b t d PlanChanged may short h = h
end_cause b t d BadWorkers may short h = h
end_cause b t d TooManyRows may short h = (may, short, h.0, h.1)
end_cause b t d LimitTag may short h = absurd h

-- an open run whose answer isn't committed
pub commit_cause : (b : BookParts) (t : Ticket) (d : Done) (s : Stop) → HasTicket b t → EndCause b t d s → CommitCause b t (Ok d) s
commit_cause b t d (NoBody r) k h = h
commit_cause b t d (Collision g) k h = (k, h)
commit_cause b t d (UndeclaredEffect r) k h = (k, h)
commit_cause b t d TooManyRuns k h = h
commit_cause b t d Stranger k h = absurd h
commit_cause b t d BodyNoMemory k h = absurd h
commit_cause b t d NoMemory k h = h
commit_cause b t d NoWorker k h = h
commit_cause b t d PlanChanged k h = h
commit_cause b t d BadWorkers k h = h
commit_cause b t d TooManyRows k h = (k, h)
commit_cause b t d LimitTag k h = (k, h)

-- an open run whose answer isn't committed, as a reason
pub holds_by_end : (law : ℕ → Tag → ℤ → List (Option Value) → Done → Type 0) (b : BookParts) (t : Ticket) (d : Done) (s : Stop) → law t.reaction t.tag t.state t.reads d → HasTicket b t → EndCause b t d s → StopHolds law b s
holds_by_end law b t d s lawful k h = by_commit t (Ok d) lawful (commit_cause b t d s k h)

-- a run that isn't begun, as a reason
pub holds_by_start : (law : ℕ → Tag → ℤ → List (Option Value) → Done → Type 0) (b : BookParts) (w : ℕ) (g : Tag) (r : ℕ) (s : Stop) → ¬ IsBusy b.rows w → MayStartFirst b.plan b.rows g r → StartCause b w g r s → StopHolds law b s
holds_by_start law b w g r s idle first h = by_begin w (inr (idle, (g, r, first, h)))

-- want of memory is a reason of each book
pub memory_holds : (law : ℕ → Tag → ℤ → List (Option Value) → Done → Type 0) (b : BookParts) → StopHolds law b NoMemory
memory_holds law b = by_begin 0 (inl refl)

-- a book that goes on has no reason yet
pub before_it : (law : ℕ → Tag → ℤ → List (Option Value) → Done → Type 0) (b : BookParts) (s : Stop) → b.reason ≡ None → StopHolds law b s → StopHolds law (record b { reason = None }) s
before_it law b s e h = subst (λ (o : Option Stop). StopHolds law (record b { reason = o }) s) e h

pub may_mem : (plan : PlanParts) (r : ℕ) (steps : List Step) → MayAll plan r steps → (s : Step) → Mem s steps → MayAnswer plan r s
may_mem plan r steps may s m = let p = get_mem s steps m in may p.0 s p.1

pub short_mem : (steps : List Step) → ¬ HasLongDelay steps → (s : Step) → Mem s steps → ¬ IsLongDelay s
short_mem steps short s m l = let p = get_mem s steps m in short (p.0, s, p.1, l)

-- a step that may be made, without a long delay, is of the program
pub answer_fits : (plan : PlanParts) → IsSound plan.program → (r : ℕ) (x : Reaction) → slice_get plan.program.reactions r ≡ Some x → (s : Step) → MayAnswer plan r s → ¬ IsLongDelay s → StepFits plan.program s
answer_fits plan sound r x e Start m n = absurd m
answer_fits plan sound r x e (Read k v) m n = absurd m
answer_fits plan sound r x e (Write (Port p) v) m n = (sound.exist r x e).effects (Port p) (subst (λ (ns : List Name). Contains ns (Port p)) (ap (λ (o : Option Reaction). unwrap_or (option_map (λ y. y.effects) o) []) e) m)
answer_fits plan sound r x e (Write (Action a) v) m n = absurd m
answer_fits plan sound r x e (Schedule (Port p) v d) m n = absurd m
answer_fits plan sound r x e (Schedule (Action a) v d) m n = ((sound.exist r x e).effects (Action a) (subst (λ (ns : List Name). Contains ns (Action a)) (ap (λ (o : Option Reaction). unwrap_or (option_map (λ y. y.effects) o) []) e) m.0), omega arith)
answer_fits plan sound r x e StopStep m n = tt
answer_fits plan sound r x e End m n = absurd m

-- one word that changes
pub set_words : (words : List ℤ) (i k : ℕ) (w v : ℤ) → i < length words → slice_get words k ≡ Some v → slice_get (slice_set words i w) k ≡ Some (cond (i == k) w v)
set_words [] i k w v l e = absurd (omega arith)
set_words (x ∷ words) zero zero w v l e = refl
set_words (x ∷ words) zero (suc k) w v l e = let ne : (0 == suc k) ≡ false = grind (arith, nat_tests) in e ∙ ap (λ (b : Bool). Some (cond b w v)) (sym ne)
set_words (x ∷ words) (suc i) zero w v l e = let ne : (suc i == 0) ≡ false = grind (arith, nat_tests) in e ∙ ap (λ (b : Bool). Some (cond b w v)) (sym ne)
set_words (x ∷ words) (suc i) (suc k) w v l e = let se : (suc i == suc k) ≡ (i == k) = grind (arith, nat_tests) in set_words words i k w v (omega arith) e ∙ ap (λ (b : Bool). Some (cond b w v)) (sym se)

pub is_err_of : {A E : Type 0} (r : Result A E) → ((x : A) → r ≡ Ok x → ⊥) → IsErr r
is_err_of (Ok a) n = absurd (n a refl)
is_err_of (Err s) n = search rules

-- an answer whose rows have no collision, and one whose rows have
pub ends_clash : (plan : PlanParts) (t : List Row) (w : ℕ) (g : Tag) (r : ℕ) (steps : List Step) (a : AgendaParts) (clash : Option Tag) → EndsWith plan t w g r steps a clash → HasClash plan (t ++ committed_rows w g r steps) clash
ends_clash plan t w g r steps a None e = e.0
ends_clash plan t w g r steps a (Some h) e = e

pub ends_clean : (plan : PlanParts) (t : List Row) (w : ℕ) (g : Tag) (r : ℕ) (steps : List Step) (a : AgendaParts) (clash : Option Tag) → clash ≡ None → EndsWith plan t w g r steps a clash → IsClean plan (t ++ committed_rows w g r steps) × (SoFar plan (t ++ committed_rows w g r steps) → IsAgenda plan (t ++ committed_rows w g r steps) a)
ends_clean plan t w g r steps a clash q e = subst (λ (o : Option Tag). EndsWith plan t w g r steps a o) q e

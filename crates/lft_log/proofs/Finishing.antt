-- What is told at the end, where no half line is left.
use Rattle.std.proofs.Common.{◌≡◌, ◌∙◌, ◌∷◌, ◌++◌, inl, inr, ℕ, Bool, true, false, List, [], Option, append-nil, refl, subst, sym}
use Rattle.std.specs.Prelude.{Err, IfOk, Ok, Result}
use Rattle.std.{specs.Global.Vec, proofs.lemmas.List.append_assoc}
use Rattle.lft_tag.specs.declared.{NoMemory.NoMemory, Tag.Tag}
use Rattle.lft_ir.specs.declared.steps.row.Row.{Row}
use Rattle.lft_model.specs.Plans.{PlanParts}
use Rattle.lft_monitor.specs.declared.judged.{Ending.{Ending, TheVariants.{Accepted, Unbroken, Broken}}, Unjudged.Unjudged}
use Rattle.lft_monitor.specs.declared.open.StillOpen.{StillOpen}
use Rattle.lft_monitor.specs.inner.Follows.{IsEnding, IsUnjudged}
use Rattle.lft_monitor.proofs.Following.{unjudged_so_far}
use Rattle.lft_log.specs.Logs.{AreLines, HasLast, HoldSoFar, IsHead, LastCounts, LastIsLeft, header_words, mark, rows}
use Rattle.lft_log.specs.{Told.{AreOpenIn, IsEnded, IsFinal, IsSoon, KeepTo, TellsOpen, TellsPlan}, inner.Told.{IsLog, IsLogOf}}
use Rattle.lft_log.specs.declared.{log.Log.Log, told.{Final.{Final, TheVariants.{AtEnd, Soon}}, Told.TheVariants.Odd}}
use Rattle.lft_log.proofs.{Asking.asked_within, Ends.lines_both}

-- a header is a line
head_lines : (head : List ℕ) → IsHead head → AreLines head
head_lines head (inl (inl e)) = inr (header_words, e)
head_lines head (inl (inr e)) = inr (mark ++ header_words, e)
head_lines head (inr (inl e)) = inr (header_words ++ 13 ∷ [], e)
head_lines head (inr (inr e)) = inr (mark ++ (header_words ++ 13 ∷ []), e)

-- what is kept of the last line is all that came of it
pub has_last : (base plan : PlanParts) (until : Option Tag) (bytes : List ℕ) (log : Log) → IsLog base plan until bytes log → HasLast bytes log.rest.items
has_last base plan until bytes log is = go log.is_begun refl
  where
    go : (b : Bool) → log.is_begun ≡ b → HasLast bytes log.rest.items
    go true e =
        let h = is.kept.begun e in
        record { lines = h.head ++ h.body; parts = h.whole ∙ sym (append_assoc h.head h.body log.rest.items); are = lines_both h.head h.body (head_lines h.head h.is_head) h.are; open_line = is.open_line }
    go false e = record { lines = []; parts = (is.kept.fresh e).0; are = inl refl; open_line = is.open_line }

-- what is told at the end, where the last line counts and where it doesn't
pub ended_whole : (base : PlanParts) (until : Option Tag) (whole : Bool) (bytes : List ℕ) (told : Final) → LastCounts bytes → IsFinal base until whole (bytes ++ 10 ∷ []) told → IsEnded base until whole bytes told
ended_whole base until whole bytes (Soon told) last is = inr (last, is)
ended_whole base until whole bytes (AtEnd ending) last is = inl (last, is)

pub ended_left : (base : PlanParts) (until : Option Tag) (whole : Bool) (bytes : List ℕ) (told : Final) → LastIsLeft bytes → IsFinal base until whole bytes told → IsEnded base until whole bytes told
ended_left base until whole bytes (Soon told) last is = inl is
ended_left base until whole bytes (AtEnd ending) last is = inr (last, is)

-- the runs without an end, where the last line counts and where it doesn't
pub open_whole : (base : PlanParts) (bytes : List ℕ) (told : Final) (r : Result (Vec StillOpen) NoMemory) → LastCounts bytes → IfOk r (λ (runs : Vec StillOpen). AreOpenIn base (bytes ++ 10 ∷ []) runs.items) → TellsOpen base bytes told r
open_whole base bytes (Soon told) r last is = tt
open_whole base bytes (AtEnd ending) (Err e) last is = tt
open_whole base bytes (AtEnd ending) (Ok runs) last is = inl (last, is)

pub open_left : (base : PlanParts) (bytes : List ℕ) (told : Final) (r : Result (Vec StillOpen) NoMemory) → LastIsLeft bytes → IfOk r (λ (runs : Vec StillOpen). AreOpenIn base bytes runs.items) → TellsOpen base bytes told r
open_left base bytes (Soon told) r last is = tt
open_left base bytes (AtEnd ending) (Err e) last is = tt
open_left base bytes (AtEnd ending) (Ok runs) last is = inr (last, is)

-- what is kept of a log whose header came
pub tells_plan : (base plan : PlanParts) (until : Option Tag) (bytes rest left : List ℕ) (log : Log) (is : IsLogOf base plan until bytes rest log) → HoldSoFar base.program bytes is.lines [] left → TellsPlan base bytes plan (rows is.lines) [] left
tells_plan base plan until bytes rest left log is held = record { lines = is.lines; held = held; rows_are = refl; timely = is.timely; told = is.told }

-- no row of a log is past the end of what is asked for
pub kept_to : (base plan : PlanParts) (until : Option Tag) (bytes rest : List ℕ) (log : Log) (is : IsLogOf base plan until bytes rest log) → KeepTo until (rows is.lines)
kept_to base plan until bytes rest log is = subst (λ (o : Option Tag). KeepTo o (rows is.lines)) is.until_is (asked_within (rows is.lines) log.asked is.asked)

-- what is told at the end of a log
pub final_of : (base plan : PlanParts) (until : Option Tag) (whole : Bool) (bytes rest : List ℕ) (log : Log) (is : IsLogOf base plan until bytes rest log) → HoldSoFar base.program bytes is.lines [] [] → (e : Ending) → IsEnding plan whole (rows is.lines) e → IsFinal base until whole bytes (AtEnd e)
final_of base plan until whole bytes rest log is held (Accepted c) so = (plan, rows is.lines, tells_plan base plan until bytes rest [] log is held, kept_to base plan until bytes rest log is, so)
final_of base plan until whole bytes rest log is held (Unbroken r) so = (plan, rows is.lines, [], tells_plan base plan until bytes rest [] log is held, kept_to base plan until bytes rest log is, λ i e. absurd (cc e), so.1)
final_of base plan until whole bytes rest log is held (Broken b) so = (so.0, (plan, rows is.lines, tells_plan base plan until bytes rest [] log is held, kept_to base plan until bytes rest log is, so.1))

-- what is told of rows that can't be judged to their end
pub odd_at_end : (base plan : PlanParts) (until : Option Tag) (bytes rest : List ℕ) (t : List Row) (u : Unjudged) → TellsPlan base bytes plan t [] rest → KeepTo until t → IsUnjudged plan t u → IsSoon base until bytes (Odd u.reach u.line)
odd_at_end base plan until bytes rest t u tells keeps is = (plan, t, [], [], rest, subst (λ (x : List Row). TellsPlan base bytes plan x [] rest) (sym (append-nil t)) tells, keeps, unjudged_so_far plan t u is)

-- a byte stands behind bytes
pub some_bytes : (bytes : List ℕ) (c : ℕ) → bytes ++ c ∷ [] ≡ [] → ⊥
some_bytes [] c e = cc
some_bytes (b ∷ bytes) c e = cc

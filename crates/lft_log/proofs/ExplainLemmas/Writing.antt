-- What is written of what is told.
use Rattle.std.proofs.Common.{◌≡◌, ◌<◌, ◌^◌, ◌∙◌, inl, inr, ℕ, Bool, true, false, List, [], ◌∷◌, ◌++◌, length, take, ◌⊎◌, Option, Some, None, refl, sym, ap, subst}
use Rattle.std.specs.Prelude.{IfOk, Result}
use Rattle.std.{specs.{Io.KnownBytes.Appends, Global.Vec}, proofs.KnownBytes.{Appends-nil, Appends-trans}}
use Rattle.lft_tag.specs.declared.{NoMemory.NoMemory, Tag.Tag}
use Rattle.lft_model.specs.Plans.{PlanParts}
use Rattle.lft_load.specs.{Written.AppendsFront, declared.fault.Fault.Fault}
use Rattle.lft_monitor.specs.Follows.{breach_of}
use Rattle.lft_monitor.specs.declared.found.BrokenRule.{BrokenRule}
use Rattle.lft_monitor.specs.declared.open.StillOpen.{StillOpen}
use Rattle.lft_log.specs.{Logs.HasManyRows, Told.{AreOpenAtEnd, TellsOpen}}
use Rattle.lft_log.specs.declared.told.{Ended.Ended, Told.TheVariants.{Broken, Odd, Reached}, Final.{Final, TheVariants.{Soon, AtEnd}}}
use Rattle.lft_log.specs.declared.{follow.kept.Kept.{Kept, TheVariants.{All, Nothing, TooLong}}, explain.explaining.Unexplained.Unexplained}
use Rattle.lft_log.specs.Follow.{Lines.line_of_log, Followed.IsFollowedUnder, Kept.IsKeptOn}
use Rattle.lft_log.specs.inner.Explain.Explained.{IsListOf, IsLongKept, IsReasonOf, IsTextBehind}
use Rattle.lft_log.specs.Explain.Explained.{ExplainsCut, IsBehindLine, IsLogExplainedUnder, IsLack, IsTextOf, IsToStand, IsLogTooLong}
use Rattle.lft_log.specs.Explain.Refusals.{ExplainLogRefusalUnder, ExplainLogRefusalUnder.by_writer_behind}
use Rattle.lft_log.proofs.FollowLemmas.Keeping.{many_longer}
use Rattle.lft_driver.proofs.Behind.{writes_both}
use Rattle.lft_load.specs.declared.fault.Part.TheVariants as part
use Rattle.lft_monitor.specs.declared.judged.Ending.TheVariants as ending

abbrev items_of : Kept → List ℕ
items_of (All v) = v.items
items_of Nothing = []
items_of TooLong = []

-- of what is kept from the beginning
module _ (first : Vec ℕ) (empty : first.items ≡ []) (M : Type 0) (bytes : List ℕ) where
  -- all is all that was read
  kept_all : (kept : Kept) (v : Vec ℕ) → IsKeptOn M (All first) kept bytes → kept ≡ All v → v.items ≡ bytes
  kept_all (All w) v (u, is, same) e = sym (ap items_of e) ∙ same ∙ ap (λ (s : List ℕ). s ++ bytes) (sym (ap items_of is) ∙ empty)
  kept_all Nothing v h e = cc
  kept_all TooLong v h e = cc

  -- what is too long had too many bytes, or so many rows
  kept_long : (kept : Kept) → IsKeptOn M (All first) kept bytes → kept ≡ TooLong → (2 ^ 30 < length bytes) ⊎ M
  kept_long (All w) h e = cc
  kept_long Nothing h e = cc
  kept_long TooLong (inl is) e = cc
  kept_long TooLong (inr (u, is, inl long)) e = inl (subst (λ (s : List ℕ). 2 ^ 30 < length (s ++ bytes)) (sym (ap items_of is) ∙ empty) long)
  kept_long TooLong (inr (u, is, inr many)) e = inr many

pub too_long : (plan : PlanParts) (first : Vec ℕ) (kept : Kept) (bytes : List ℕ) → first.items ≡ [] → IsKeptOn (HasManyRows plan.program bytes) (All first) kept bytes → IsLongKept plan kept → IsLogTooLong plan.program bytes
too_long plan first kept bytes empty is (inl e) = go (kept_long first empty (HasManyRows plan.program bytes) bytes kept is e)
  where
    go : (2 ^ 30 < length bytes) ⊎ HasManyRows plan.program bytes → IsLogTooLong plan.program bytes
    go (inl long) = inl long
    go (inr many) = inr (many_longer plan.program bytes (10 ∷ []) many)
too_long plan first kept bytes empty is (inr (log, e, many)) = inr (subst (λ (s : List ℕ). HasManyRows plan.program (s ++ 10 ∷ [])) (kept_all first empty (HasManyRows plan.program bytes) bytes kept log is e) many)

-- why no text is there, for something else that is too long
lack_of : (A B : Type 0) → (A → B) → (told : Final) (why : Unexplained) → IsLack A told why → IsLack B told why
lack_of A B f (Soon (Broken b)) why x = λ e. f (x e)
lack_of A B f (Soon (Odd r line)) why x = x
lack_of A B f (Soon (Reached r)) why x = x
lack_of A B f (AtEnd (ending.Accepted c)) why x = x
lack_of A B f (AtEnd (ending.Unbroken r)) why x = x
lack_of A B f (AtEnd (ending.Broken b)) why x = λ e. f (x e)

-- what is to stand behind the line, of the log that is kept
module _ (plan : PlanParts) (all : Bool) (kept : Kept) (log text : List ℕ) (explains : (at_end : Bool) (b : BrokenRule) → IsReasonOf at_end plan kept b all text → ExplainsCut all at_end plan log (breach_of b) text) where
  stands : (told : Final) (runs : Result (Vec StillOpen) NoMemory) → TellsOpen plan log told runs → IsTextOf (λ at_end b. IsReasonOf at_end plan kept b all) (IsListOf plan runs) told text → IsToStand all plan log told text
  stands (Soon (Broken b)) runs opened x = explains false b x
  stands (Soon (Odd r line)) runs opened x = x
  stands (Soon (Reached r)) runs opened x = x
  stands (AtEnd (ending.Accepted c)) runs opened x = x
  stands (AtEnd (ending.Unbroken r)) runs opened (known, is, words) = (known.items, subst (λ (o : Result (Vec StillOpen) NoMemory). IfOk o (λ (v : Vec StillOpen). AreOpenAtEnd plan log v.items)) is opened, words)
  stands (AtEnd (ending.Broken b)) runs opened x = explains true b x

-- the line was written, and what stands behind it
module _ (plan : PlanParts) (until : Option Tag) (whole all : Bool) (first : Vec ℕ) (kept : Kept) (left right old mid : Option (List ℕ)) (e : Ended) (f : IsFollowedUnder plan until whole (All first) kept left right old mid e) (empty : first.items ≡ []) where
  abbrev line : List ℕ
  line = line_of_log plan.program e.told

  to_stand : (text : List ℕ) → IsTextBehind all plan kept e text → IsToStand all plan f.read.0 e.told text
  to_stand text x = stands plan all kept f.read.0 text explains e.told e.still_open f.read.3 x
    where
      explains : (at_end : Bool) (b : BrokenRule) → IsReasonOf at_end plan kept b all text → ExplainsCut all at_end plan f.read.0 (breach_of b) text
      explains at_end b (log, is_kept, so) = subst (λ (x : List ℕ). ExplainsCut all at_end plan x (breach_of b) text) (kept_all first empty (HasManyRows plan.program f.read.0) f.read.0 kept log f.read.2 is_kept) so

  line_and : (new : Option (List ℕ)) (unexplained : Option Unexplained) (rest : List ℕ) → IsBehindLine all plan f.read.0 (record { told = e.told; unexplained = unexplained }) rest → Appends mid new rest → IsLogExplainedUnder plan until whole all left right old new (record { told = e.told; unexplained = unexplained })
  line_and new unexplained rest behind h = record {
    log = f.read.0;
    read = f.read.1;
    rest = rest;
    behind = behind;
    written = writes_both (λ x. x ≡ rest) (λ x. x ≡ line ++ rest) line (λ x same. ap (λ (s : List ℕ). line ++ s) same) old mid new f.written (rest, refl, h);
  }

  pub line_and_text : (new : Option (List ℕ)) (text : List ℕ) → IsTextBehind all plan kept e text → Appends mid new text → IsLogExplainedUnder plan until whole all left right old new (record { told = e.told; unexplained = None })
  line_and_text new text x h = line_and new None text (to_stand text x) h

  -- nothing does, and why is told
  pub line_alone : (why : Unexplained) → IsLack (IsLongKept plan kept) e.told why → IsLogExplainedUnder plan until whole all left right old mid (record { told = e.told; unexplained = Some why })
  line_alone why lack = line_and mid (Some why) [] (lack_of (IsLongKept plan kept) (IsLogTooLong plan.program f.read.0) (too_long plan first kept f.read.0 empty f.read.2) e.told why lack, refl) (Appends-nil mid)

  -- the writer failed behind the line
  pub line_and_front : (path : List ℕ) (new : Option (List ℕ)) (text : List ℕ) (fault : Fault) → fault.part ≡ part.Write → fault.number ≡ 1 → IsTextBehind all plan kept e text → AppendsFront mid new text → ExplainLogRefusalUnder plan path until whole all left right old new fault
  line_and_front path new text fault p n x (count, h) = by_writer_behind f.read.0 e.told text count p n f.read.1 (to_stand text x) (Appends-trans old mid new line (take count text) f.written h)

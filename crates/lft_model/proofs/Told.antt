-- External inputs into which one more event was put, or which stop at another tag.
use Rattle.std.proofs.Common.{◌≡◌, ◌∙◌, ℕ, ◌+◌, ◌-◌, ◌<◌, ◌≤◌, List, length, slice_get, Option, Some, None, Result, Ok, Err, IfOk, IfSome, IfNone, OnErr, sym, ap, subst, arith, ⊎_elim}
use Rattle.std.specs.List.{insert}
use Rattle.std.proofs.lemmas.{Bool.cases_lt, Option.{slice_get-get_or, slice_get_within, get_or_from_slice_get}}
use Rattle.std.proofs.lemmas.List.Edits.{get_or-insert_at, get_or-insert_below, get_or-insert_above, length-insert}
use lib.ListN.{get_or}
use Rattle.lft_tag.specs.{declared.{NoMemory.NoMemory, Tag.Tag}, Tags.IsRecorded}
use Rattle.lft_ir.specs.{Parts.Parts, declared.steps.externals.Event.Event, Steps.{Inputs.{ExternalInputs, IsTold}, Fits.{EventFits, ExternalsFit}}}

module _ {X : Type 0} (P : X → Type 0) (xs : List X) (i : ℕ) (y : X) (l : i ≤ length xs) (each : (k : ℕ) (x : X) → slice_get xs k ≡ Some x → P x) where
  of_old : (k : ℕ) (x : X) → k < length xs → get_or xs k x ≡ x → P x
  of_old k x lt e = each k x (slice_get-get_or xs k x lt ∙ ap (λ z. Some z) e)

  each_inserted : P y → (k : ℕ) (x : X) → slice_get (insert xs i y) k ≡ Some x → P x
  each_inserted new k x at =
      let long = length-insert xs i y l in
      let within = slice_get_within (insert xs i y) k x at in
      let read : get_or (insert xs i y) k x ≡ x = get_or_from_slice_get (insert xs i y) k x x at in
      ⊎_elim
      (λ (below : k < i). of_old k x (omega arith) (sym (get_or-insert_below xs i y x k below l) ∙ read))
      (λ (from : i ≤ k). ⊎_elim
      (λ (past : i < k). of_old (k - 1) x (omega arith) (sym (get_or-insert_above xs i y x (k - 1) (omega arith) l) ∙ ap (λ n. get_or (insert xs i y) n x) (let e : k - 1 + 1 ≡ k = omega arith in e) ∙ read))
      (λ (here : k ≤ i). subst P (sym (get_or-insert_at xs i y x l) ∙ ap (λ n. get_or (insert xs i y) n x) (let e : i ≡ k = omega arith in e) ∙ read) new)
      (cases_lt i k))
      (cases_lt k i)

told_fits : (program : Parts) (old new : ExternalInputs) (event : Event) (place : ℕ) → ExternalsFit program old → EventFits program event → length old.events < 4000000 → new.stop ≡ old.stop → (place ≤ length old.events) × (new.events ≡ insert old.events place event) → ExternalsFit program new
told_fits program old new event place fit f room stop e =
    let long = length-insert old.events place event e.0 in
    let all : length (insert old.events place event) ≤ 4000000 = omega arith in
    record {
      stop = rw (stop) fit.stop;
      few = rw (e.1) all;
      each = λ k x at. each_inserted (EventFits program) old.events place event e.0 fit.each f k x (ap (λ (es : List Event). slice_get es k) (sym e.1) ∙ at);
    }

same_fits : (program : Parts) (old new : ExternalInputs) → ExternalsFit program old → new.stop ≡ old.stop → new.events ≡ old.events → ExternalsFit program new
same_fits program old new fit stop e = record {
  stop = rw (stop) fit.stop;
  few = rw (e) fit.few;
  each = λ k x at. fit.each k x (ap (λ (es : List Event). slice_get es k) (sym e) ∙ at);
}

-- whatever `tell` answered, the external inputs fit
pub tell_fits : (program : Parts) (old new : ExternalInputs) (event : Event) (answer : Result (Option ℕ) NoMemory) → ExternalsFit program old → EventFits program event → length old.events < 4000000 → new.stop ≡ old.stop → IfOk answer (λ place. IfSome place (λ p. (p ≤ length old.events) × (new.events ≡ insert old.events p event))) → IfOk answer (λ place. IfNone place (IsTold old.events event × (new.events ≡ old.events))) → OnErr answer (new.events ≡ old.events) → ExternalsFit program new
tell_fits program old new event (Ok (Some p)) fit f room stop some none err = told_fits program old new event p fit f room stop some
tell_fits program old new event (Ok None) fit f room stop some none err = same_fits program old new fit stop none.1
tell_fits program old new event (Err e) fit f room stop some none err = same_fits program old new fit stop err

pub stop_fits : (program : Parts) (old new : ExternalInputs) (stop : Tag) → ExternalsFit program old → IsRecorded stop → new ≡ record { stop = stop; events = old.events } → ExternalsFit program new
stop_fits program old new stop fit recorded e = rw (e) (record { stop = recorded; few = fit.few; each = fit.each })

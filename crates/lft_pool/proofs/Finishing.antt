-- What a last answer of a book says.
use Rattle.std.proofs.Common.{◌≡◌, ◌≢◌, ◌⊎◌, ◌<◌, ◌≤◌, inl, inr, ℕ, ℤ, List, Result, Ok, Err, IfOk, IfErr, is_ok, Bool, true, false, subst, sym, ap, Option, Some, None, ◌∙◌, refl}
use Rattle.lft_pool.specs.declared.book.Begin.{Begin, TheVariants.{Run, Wait, Finished}}
use Rattle.lft_pool.specs.declared.stop.Stop.{Stop}
use Rattle.lft_pool.specs.declared.stop.Stop.TheVariants.{NoBody, Collision, UndeclaredEffect, TooManyRuns, Stranger, BodyNoMemory, NoMemory, NoWorker, PlanChanged, BadWorkers, TooManyRows, LimitTag}
use Rattle.lft_pool.specs.declared.bodies.{ticket.Ticket.Ticket, done.Done.Done}
use Rattle.lft_pool.specs.{Begun.MatchBegin, Books.{BookParts, LacksBody}, Reasons.{StopHolds, ReasonHolds, StopHolds.{by_begin, by_commit}}}
use Rattle.lft_pool.specs.{inner.Endings.{HasLeftToRun, ReasonIs}, Endings.WhyStopped}
use Rattle.lft_tag.specs.declared.Tag.{Tag}
use Rattle.lft_ir.specs.declared.parts.Value.{Value}
use Rattle.lft_scheduler.specs.Starts.{SomethingLeft, started_count}

-- an answer that is neither a run nor a wait nor a refusal says what a finished one says
pub finished_says : {L C : Type 0} (last : Result (Begin L C) Stop) (run : Ticket → ℕ → Type 0) (wait P : Type 0) → IfOk last (λ b. MatchBegin b (λ _ _. ⊥) ⊥ (Unit {0})) → is_ok last ≡ true → IfOk last (λ b. MatchBegin b run wait P) → P
finished_says (Ok (Run t b)) run wait P done ok says = absurd done
finished_says (Ok Wait) run wait P done ok says = absurd done
finished_says (Ok Finished) run wait P done ok says = says
finished_says (Err s) run wait P done ok says = absurd (cc)

-- an answer that something is left says so
pub unfinished_says : {L C : Type 0} (last : Result (Begin L C) Stop) (P : Type 0) → HasLeftToRun last → IfOk last (λ b. MatchBegin b (λ _ _. P) P (Unit {0})) → P
unfinished_says (Ok (Run t b)) P u says = says
unfinished_says (Ok Wait) P u says = says
unfinished_says (Ok Finished) P u says = absurd u.0
unfinished_says (Err s) P u says = let e = u.1 in absurd (cc)

-- what a book's own reason says
stop_says : {L C : Type 0} (last : Result (Begin L C) Stop) (s : Stop) (P : Stop → Type 0) → last ≡ Err s → IfErr last P → P s
stop_says (Ok b) s P e h = absurd (cc)
stop_says (Err x) s P e h = let q : x ≡ s = cc in subst P q h

-- a book that keeps the reason of its last answer keeps what it says
pub own_reason : {L C : Type 0} (law : ℕ → Tag → ℤ → List (Option Value) → Done → Type 0) (last : Result (Begin L C) Stop) (old new : BookParts) → IfErr last (λ s. new ≡ record old { reason = Some s }) → ReasonHolds law (record new { reason = None }) new.reason → IfErr last (λ s. StopHolds law (record new { reason = None }) s)
own_reason law (Ok b) old new e why = e
own_reason law (Err s) old new e why = subst (λ (o : Option Stop). ReasonHolds law (record new { reason = None }) o) (ap (λ (b : BookParts). b.reason) e) why

-- what single reasons say of a book
module _ (law : ℕ → Tag → ℤ → List (Option Value) → Done → Type 0) (b : BookParts) where
  bad_workers : StopHolds law b BadWorkers → ⊥
  bad_workers (by_begin w (inl e)) = absurd (cc)
  bad_workers (by_begin w (inr h)) = absurd h.1.3
  bad_workers (by_commit t answer lawful h) = absurd h

  plan_changed : StopHolds law b PlanChanged → ⊥
  plan_changed (by_begin w (inl e)) = absurd (cc)
  plan_changed (by_begin w (inr h)) = absurd h.1.3
  plan_changed (by_commit t answer lawful h) = absurd h

  no_body : (r : ℕ) → StopHolds law b (NoBody r) → LacksBody b.plan b.rows b.left r
  no_body r (by_begin w (inl e)) = absurd (cc)
  no_body r (by_begin w (inr (idle, (g, a, first, (recorded, room, q, none))))) = subst (λ (x : ℕ). LacksBody b.plan b.rows b.left x) (sym q) ((g, first.may), none)
  no_body r (by_commit t answer lawful h) = absurd h

  too_many_runs : StopHolds law b TooManyRuns → SomethingLeft b.plan b.rows
  too_many_runs (by_begin w (inl e)) = absurd (cc)
  too_many_runs (by_begin w (inr (idle, (g, a, first, h)))) = (g, a, first.may.ready.pending)
  too_many_runs (by_commit t answer lawful h) = absurd h

  -- a book's own reason tells why a recording stopped
  of_book : (max : ℕ) (s : Stop) → StopHolds law b s → (s ≡ TooManyRuns → (max ≤ started_count b.rows) ⊎ (1000000 ≤ started_count b.rows)) → WhyStopped law (record b { max_runs = max }) s
  of_book max TooManyRuns h full = inl (full refl, too_many_runs h)
  of_book max (NoBody r) h full = (b.max_runs, h)
  of_book max (Collision g) h full = (b.max_runs, h)
  of_book max (UndeclaredEffect r) h full = (b.max_runs, h)
  of_book max BodyNoMemory h full = (b.max_runs, h)
  of_book max TooManyRows h full = (b.max_runs, h)
  of_book max LimitTag h full = (b.max_runs, h)
  of_book max Stranger h full = tt
  of_book max NoMemory h full = tt
  of_book max NoWorker h full = tt
  of_book max PlanChanged h full = tt
  of_book max BadWorkers h full = tt

-- what the reason says, where the book's own reasons say what they keep
module _ {L C : Type 0} (same : Bool) (started max : ℕ) (last : Result (Begin L C) Stop) (s : Stop) (is : ReasonIs same started max last s) (law : ℕ → Tag → ℤ → List (Option Value) → Done → Type 0) (b : BookParts) (holds : IfErr last (λ e. StopHolds law b e)) where
  own : (x : Stop) → last ≡ Err x → StopHolds law b x
  own x e = stop_says last x (λ y. StopHolds law b y) e holds

  pub never_bad : s ≢ BadWorkers
  never_bad q = go is
    where
      go : ReasonIs same started max last s → ⊥
      go (inl h) = let e : PlanChanged ≡ BadWorkers = sym h.0 ∙ q in absurd (cc)
      go (inr (inl h)) = let e : TooManyRuns ≡ BadWorkers = sym h.0 ∙ q in absurd (cc)
      go (inr (inr (inl h))) = let e : NoWorker ≡ BadWorkers = sym h ∙ q in absurd (cc)
      go (inr (inr (inr h))) = bad_workers law b (subst (λ (x : Stop). StopHolds law b x) q (own s h.0))

  pub lacks_body : (r : ℕ) → s ≡ NoBody r → LacksBody b.plan b.rows b.left r
  lacks_body r q = go is
    where
      go : ReasonIs same started max last s → LacksBody b.plan b.rows b.left r
      go (inl h) = let e : PlanChanged ≡ NoBody r = sym h.0 ∙ q in absurd (cc)
      go (inr (inl h)) = let e : TooManyRuns ≡ NoBody r = sym h.0 ∙ q in absurd (cc)
      go (inr (inr (inl h))) = let e : NoWorker ≡ NoBody r = sym h ∙ q in absurd (cc)
      go (inr (inr (inr h))) = no_body law b r (subst (λ (x : Stop). StopHolds law b x) q (own s h.0))

  pub why_changed : IfOk last (λ x. MatchBegin x (λ _ _. SomethingLeft b.plan b.rows) (SomethingLeft b.plan b.rows) (Unit {0})) → s ≡ PlanChanged → (same ≡ false) ⊎ SomethingLeft b.plan b.rows
  why_changed says q = go is
    where
      go : ReasonIs same started max last s → (same ≡ false) ⊎ SomethingLeft b.plan b.rows
      go (inl (e, inl f)) = inl f
      go (inl (e, inr (inl u))) = inr (unfinished_says last (SomethingLeft b.plan b.rows) u says)
      go (inl (e, inr (inr m))) = inr (too_many_runs law b (own TooManyRuns m))
      go (inr (inl h)) = let e : TooManyRuns ≡ PlanChanged = sym h.0 ∙ q in absurd (cc)
      go (inr (inr (inl h))) = let e : NoWorker ≡ PlanChanged = sym h ∙ q in absurd (cc)
      go (inr (inr (inr h))) = absurd (plan_changed law b (subst (λ (x : Stop). StopHolds law b x) q (own s h.0)))

  pub why_stopped : started ≡ started_count b.rows → WhyStopped law (record b { max_runs = max }) s
  why_stopped n = go is
    where
      to : (x : Stop) → s ≡ x → WhyStopped law (record b { max_runs = max }) x → WhyStopped law (record b { max_runs = max }) s
      to x e h = subst (λ (y : Stop). WhyStopped law (record b { max_runs = max }) y) (sym e) h

      go : ReasonIs same started max last s → WhyStopped law (record b { max_runs = max }) s
      go (inl h) = to PlanChanged h.0 tt
      go (inr (inl h)) = to TooManyRuns h.0 (inr (subst (λ (k : ℕ). max < k) n h.1))
      go (inr (inr (inl h))) = to NoWorker h tt
      go (inr (inr (inr h))) = of_book law b max s (own s h.0) (subst (λ (k : ℕ). s ≡ TooManyRuns → (max ≤ k) ⊎ (1000000 ≤ k)) n h.1)

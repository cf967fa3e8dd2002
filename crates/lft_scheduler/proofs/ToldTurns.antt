-- Turns of which some reactions have been told that they are triggered.
use Rattle.std.proofs.Common.{◌≡◌, ◌≢◌, ◌↔◌, ℕ, zero, suc, ◌+◌, ◌<◌, ◌≤◌, ◌⊎◌, inl, inr, List, [], ◌∷◌, length, drop, refl, sym, ap, ◌∙◌, subst, arith, Some, IsSome, slice_get, slice_set, Bool, IsTrue}
use native.Mathlib.Decide.{dec_lt}
use Rattle.lft_tag.specs.declared.Tag.{Tag}
use Rattle.lft_ir.specs.{Parts.Parts, declared.parts.{Name.Name, Trigger.{Trigger, TheVariants.{Startup, Shutdown, Timer, On}}}}
use Rattle.lft_queue.specs.Pending.{Pending, value_of}
use Rattle.lft_scheduler.specs.inner.{Listeners.{IsListener, IsLive}, Turns.{TurnParts, IsPhasePending}}
use Rattle.lft_scheduler.specs.inner.Telling.{IsTold, FiresAt, OccursBy, TriggeredByQueue, OfFirst}
use Rattle.lft_scheduler.specs.declared.turn.phase.Phase.{Phase, TheVariants.{Idle, Waiting, Open}}
use Rattle.lft_lists.proofs.Places.{get_there, get_written, get_unwritten, length_written, get_write_cases, same_at}
use Rattle.lft_model.proofs.Places.{slice_get_within}

-- where the property holds of none, nothing changes
pub told_none : (P : ℕ → Type 0) (a : TurnParts) → ((r : ℕ) → ¬ P r) → IsTold P a a
told_none P a none = record {
  graph = refl;
  count = refl;
  kept = λ r x n e. e;
  all = λ r p. absurd (none r p);
  only = λ r x e f. inl (let z : Some Idle ≡ Some x = sym e ∙ f in let y : x ≡ Idle = cc in y);
}

-- the same reactions by another property
pub told_as : (P Q : ℕ → Type 0) (a b : TurnParts) → ((r : ℕ) → P r → Q r) → ((r : ℕ) → Q r → P r) → IsTold P a b → IsTold Q a b
told_as P Q a b to from is = record { graph = is.graph; count = is.count; kept = is.kept; all = λ r q. is.all r (from r q); only = λ r x e f. go r x (is.only r x e f) }
  where
    go : (r : ℕ) (x : Phase) → (x ≡ Idle) ⊎ ((x ≡ Waiting) × P r) → (x ≡ Idle) ⊎ ((x ≡ Waiting) × Q r)
    go r x (inl e) = inl e
    go r x (inr p) = inr (p.0, to r p.1)

-- some, and then some more
pub told_more : (P Q : ℕ → Type 0) (a b c : TurnParts) → IsTold P a b → IsTold Q b c → IsTold (λ r. P r ⊎ Q r) a c
told_more P Q a b c one two = record {
  graph = two.graph ∙ one.graph;
  count = two.count ∙ one.count;
  kept = λ r x n e. two.kept r x n (one.kept r x n e);
  all = λ r p. all r p;
  only = λ r x e f. only r x e f;
}
  where
    between : (r : ℕ) (x : Phase) → slice_get c.phases r ≡ Some x → (y : Phase) × (slice_get b.phases r ≡ Some y)
    between r x e = let l : r < length c.phases = slice_get_within c.phases r x e in get_there b.phases r (let k = two.count in omega arith)

    all : (r : ℕ) → P r ⊎ Q r → slice_get c.phases r ≢ Some Idle
    all r (inr q) e = two.all r q e
    all r (inl p) e =
        let m = between r Idle e in
        let n : m.0 ≢ Idle = λ q. one.all r p (m.1 ∙ ap Some q) in
        let z : Some m.0 ≡ Some Idle = sym (two.kept r m.0 n m.1) ∙ e in
        n (cc)

    only : (r : ℕ) (x : Phase) → slice_get a.phases r ≡ Some Idle → slice_get c.phases r ≡ Some x → (x ≡ Idle) ⊎ ((x ≡ Waiting) × (P r ⊎ Q r))
    only r x e f = let m = between r x f in go m.0 m.1 (one.only r m.0 e m.1)
      where
        later : (x ≡ Idle) ⊎ ((x ≡ Waiting) × Q r) → (x ≡ Idle) ⊎ ((x ≡ Waiting) × (P r ⊎ Q r))
        later (inl q) = inl q
        later (inr q) = inr (q.0, inr q.1)

        go : (y : Phase) → slice_get b.phases r ≡ Some y → (y ≡ Idle) ⊎ ((y ≡ Waiting) × P r) → (x ≡ Idle) ⊎ ((x ≡ Waiting) × (P r ⊎ Q r))
        go y g (inl q) = later (two.only r x (g ∙ ap Some q) f)
        go y g (inr q) =
            let n : y ≢ Idle = λ h. (let z : Waiting ≡ Idle = sym q.0 ∙ h in absurd (cc)) in
            let z : Some y ≡ Some x = sym (two.kept r y n g) ∙ f in
            let k : y ≡ x = cc in
            inr (sym k ∙ q.0, inl q.1)

module _ (a b : TurnParts) (r : ℕ) (within : r < length a.phases) (same : b.graph ≡ a.graph) where
  -- an idle one waits now
  told_idle : slice_get a.phases r ≡ Some Idle → b.phases ≡ slice_set a.phases r Waiting → IsTold (λ k. k ≡ r) a b
  told_idle idle now = record { graph = same; count = ap length now ∙ length_written a.phases r Waiting; kept = kept; all = all; only = only }
    where
      at_r : slice_get b.phases r ≡ Some Waiting
      at_r = ap (λ (ps : List Phase). slice_get ps r) now ∙ get_written a.phases r Waiting within

      kept : (k : ℕ) (x : Phase) → x ≢ Idle → slice_get a.phases k ≡ Some x → slice_get b.phases k ≡ Some x
      kept k x n e = ap (λ (ps : List Phase). slice_get ps k) now ∙ get_unwritten a.phases r k Waiting other ∙ e
        where
          other : k ≢ r
          other q = let z : Some Idle ≡ Some x = sym idle ∙ ap (λ (i : ℕ). slice_get a.phases i) (sym q) ∙ e in let y : x ≡ Idle = cc in n y

      all : (k : ℕ) → k ≡ r → slice_get b.phases k ≢ Some Idle
      all k q e = let z : Some Waiting ≡ Some Idle = sym at_r ∙ ap (λ (i : ℕ). slice_get b.phases i) (sym q) ∙ e in absurd (cc)

      only : (k : ℕ) (x : Phase) → slice_get a.phases k ≡ Some Idle → slice_get b.phases k ≡ Some x → (x ≡ Idle) ⊎ ((x ≡ Waiting) × (k ≡ r))
      only k x e f = go (get_write_cases a.phases r k Waiting x within (ap (λ (ps : List Phase). slice_get ps k) (sym now) ∙ f))
        where
          go : ((k ≡ r) × (Waiting ≡ x)) ⊎ ((k ≢ r) × (slice_get a.phases k ≡ Some x)) → (x ≡ Idle) ⊎ ((x ≡ Waiting) × (k ≡ r))
          go (inl q) = inr (sym q.1, q.0)
          go (inr q) = inl (let z : Some Idle ≡ Some x = sym e ∙ q.1 in let y : x ≡ Idle = cc in y)

  -- a pending one stays as it is
  told_pending : IsPhasePending a.phases r → b.phases ≡ a.phases → IsTold (λ k. k ≡ r) a b
  told_pending busy now = record { graph = same; count = ap length now; kept = λ k x n e. here k ∙ e; all = λ k q e. not_idle busy (ap (λ (i : ℕ). slice_get a.phases i) (sym q) ∙ sym (here k) ∙ e); only = λ k x e f. inl (let z : Some Idle ≡ Some x = sym e ∙ sym (here k) ∙ f in let y : x ≡ Idle = cc in y) }
    where
      here : (k : ℕ) → slice_get b.phases k ≡ slice_get a.phases k
      here k = ap (λ (ps : List Phase). slice_get ps k) now

      not_idle : IsPhasePending a.phases r → slice_get a.phases r ≢ Some Idle
      not_idle (inl q) e = let z : Some Waiting ≡ Some Idle = sym q ∙ e in absurd (cc)
      not_idle (inr q) e = let z : Some Open ≡ Some Idle = sym q ∙ e in absurd (cc)

  -- one reaction is told
  pub told_one : (slice_get a.phases r ≡ Some Idle → b.phases ≡ slice_set a.phases r Waiting) → (IsPhasePending a.phases r → b.phases ≡ a.phases) → IsTold (λ k. k ≡ r) a b
  told_one idle pending = let k = get_there a.phases r within in go k.0 k.1
    where
      go : (x : Phase) → slice_get a.phases r ≡ Some x → IsTold (λ k. k ≡ r) a b
      go Idle e = told_idle e (idle e)
      go Waiting e = told_pending (inl e) (pending (inl e))
      go Open e = told_pending (inr e) (pending (inr e))

module _ {X : Type 0} (P : X → ℕ → Type 0) (xs : List X) where
  -- those of the first items of a list, and of none
  pub told_begun : (a : TurnParts) → IsTold (OfFirst P xs 0) a a
  told_begun a = told_none (OfFirst P xs 0) a (λ r q. (let l : q.0 < 0 = q.2 in omega arith))

  -- and of the next
  pub told_next : (i : ℕ) (x : X) (a b c : TurnParts) → slice_get xs i ≡ Some x → IsTold (OfFirst P xs i) a b → IsTold (P x) b c → IsTold (OfFirst P xs (i + 1)) a c
  told_next i x a b c is one two = told_as (λ r. OfFirst P xs i r ⊎ P x r) (OfFirst P xs (i + 1)) a c to from (told_more (OfFirst P xs i) (P x) a b c one two)
    where
      to : (r : ℕ) → OfFirst P xs i r ⊎ P x r → OfFirst P xs (i + 1) r
      to r (inl q) = (q.0, q.1, (let l : q.0 < i = q.2 in omega arith), q.3, q.4)
      to r (inr p) = (i, x, omega arith, is, p)

      from : (r : ℕ) → OfFirst P xs (i + 1) r → OfFirst P xs i r ⊎ P x r
      from r q = go (dec_lt q.0 i)
        where
          go : Dec (q.0 < i) → OfFirst P xs i r ⊎ P x r
          go (yes l) = inl (q.0, q.1, l, q.3, q.4)
          go (no n) = let l : q.0 < i + 1 = q.2 in let e : q.0 ≡ i = omega arith in inr (subst (λ (y : X). P y r) (same_at xs q.0 i q.1 x q.3 is e) q.4)

  -- and of all
  pub told_each : (Q : ℕ → Type 0) (i : ℕ) (a b : TurnParts) → length xs ≤ i → ((r : ℕ) (k : ℕ) (x : X) → slice_get xs k ≡ Some x → P x r → Q r) → ((r : ℕ) → Q r → (k : ℕ) × (x : X) × (slice_get xs k ≡ Some x) × P x r) → IsTold (OfFirst P xs i) a b → IsTold Q a b
  told_each Q i a b enough to from is = told_as (OfFirst P xs i) Q a b (λ r q. to r q.0 q.1 q.3 q.4) (λ r q. (let k = from r q in let l : k.0 < length xs = slice_get_within xs k.0 k.1 k.2 in (k.0, k.1, omega arith, k.2, k.3))) is

-- a live timer is one of the program
pub live_within : (program : Parts) (n : ℕ) → IsLive program n → n < length program.timers
live_within program n o = slice_get_within program.timers n o.3.timer o.3.is_timer

-- the first of what is left of a list
pub drop_head : {X : Type 0} (xs : List X) (k : ℕ) (x : X) (ys : List X) → drop k xs ≡ x ∷ ys → (slice_get xs k ≡ Some x) × (drop (suc k) xs ≡ ys)
drop_head [] zero x ys e = absurd (cc)
drop_head [] (suc k) x ys e = absurd (cc)
drop_head (z ∷ xs) zero x ys e = (cc, cc)
drop_head (z ∷ xs) (suc k) x ys e = drop_head xs k x ys e

pub drop_none : {X : Type 0} (xs : List X) (k : ℕ) → drop k xs ≡ [] → length xs ≤ k
drop_none [] k e = omega arith
drop_none (z ∷ xs) zero e = absurd (cc)
drop_none (z ∷ xs) (suc k) e = let l : length xs ≤ k = drop_none xs k e in omega arith

-- those that listen to one of the triggers that occur
module _ (program : Parts) (q : List Pending) (last g : Tag) (first final : Bool) where
  abbrev Starts : ℕ → Type 0
  Starts r = IsTrue first × IsListener program Startup r

  abbrev Ends : ℕ → Type 0
  Ends r = IsTrue final × IsListener program Shutdown r

  abbrev Ticks : ℕ → Type 0
  Ticks r = (n : ℕ) × FiresAt program g n × IsListener program (Timer n) r

  abbrev Names : ℕ → Type 0
  Names r = (n : Name) × IsSome (value_of g n q) × IsListener program (On n) r

  abbrev Any : ℕ → Type 0
  Any r = ((Starts r ⊎ Ends r) ⊎ Ticks r) ⊎ Names r

  pub told_called : (a b c d e : TurnParts) → IsTrue first ↔ (g ≡ record { time = 0; micro = 0 }) → IsTrue final ↔ (g ≡ last) → IsTold Starts a b → IsTold Ends b c → IsTold Ticks c d → IsTold Names d e → IsTold (TriggeredByQueue program q last g) a e
  told_called a b c d e is_first is_final one two three four = told_as Any (TriggeredByQueue program q last g) a e to from (told_more (λ r. (Starts r ⊎ Ends r) ⊎ Ticks r) Names a d e (told_more (λ r. Starts r ⊎ Ends r) Ticks a c d (told_more Starts Ends a b c one two) three) four)
    where
      to : (r : ℕ) → Any r → TriggeredByQueue program q last g r
      to r (inl (inl (inl p))) = (Startup, is_first.0 p.0, p.1)
      to r (inl (inl (inr p))) = (Shutdown, is_final.0 p.0, p.1)
      to r (inl (inr p)) = (Timer p.0, p.1, p.2)
      to r (inr p) = (On p.0, p.1, p.2)

      from : (r : ℕ) → TriggeredByQueue program q last g r → Any r
      from r o = go o.0 o.1 o.2
        where
          go : (x : Trigger) → OccursBy program q last g x → IsListener program x r → Any r
          go Startup h l = inl (inl (inl (is_first.1 h, l)))
          go Shutdown h l = inl (inl (inr (is_final.1 h, l)))
          go (Timer n) h l = inl (inr (n, h, l))
          go (On n) h l = inr (n, h, l)

-- What is told of the effects of two runs.
use Rattle.std.proofs.Common.{◌≡◌, ℕ, zero, suc, ◌+◌, ◌<◌, ◌≤◌, inl, inr, List, [], ◌∷◌, ◌++◌, All, Contains, length, map, sym, ap, ◌∙◌, refl, subst, arith, Option, Some, None, slice_get, MatchOption}
use Rattle.std.proofs.lemmas.List.Elements.{All-nil, All-push, Contains-append_left, Contains-append_right}
use native.Mathlib.Decide.{ℕ_discrete}
use Rattle.lft_lists.proofs.Members.{mem_contains, contains_mem, mem_get, get_mem}
use Rattle.lft_ir.specs.declared.parts.Name.{Name, TheVariants.{Port, Action}}
use Rattle.lft_model.{specs.Runs.Outcome.{Written, Scheduled}, proofs.Places.slice_get_within}
use Rattle.lft_pair.specs.{declared.contrasting.contrasts.{Placed.Placed, Scheduling.Scheduling, Contrast.Contrast}, Runs.{last_write, schedulings}}
use Rattle.lft_pair.specs.{Contrasts.{value_of, event, event_of_scheduling}, inner.{Contrasts.events, Enough.IsOfEffect}}
use Rattle.lft_pair.specs.Enough.{HaveSameOutcome, TellsOf, IsOutcomeTold}
use Rattle.lft_pair.proofs.Outcomes.{write_outcome, schedule_outcome}

-- lists with the same events at each place have the same events
pub same_events : (xs ys : List Scheduling) (n : ℕ) → length xs ≤ n → length ys ≤ n → ((k : ℕ) → k < n → event_of_scheduling (slice_get xs k) ≡ event_of_scheduling (slice_get ys k)) → map event xs ≡ map event ys
same_events [] [] n l m f = refl
same_events [] (y ∷ ys) n l m f = let e = f 0 (omega arith) in absurd (cc)
same_events (x ∷ xs) [] n l m f = let e = f 0 (omega arith) in absurd (cc)
same_events (x ∷ xs) (y ∷ ys) zero l m f = absurd (omega arith)
same_events (x ∷ xs) (y ∷ ys) (suc n) l m f =
    let e : Some (event x) ≡ Some (event y) = f 0 (omega arith) in
    let h : event x ≡ event y = cc in
    let q : map event xs ≡ map event ys = same_events xs ys n (omega arith) (omega arith) (λ k z. f (suc k) (omega arith)) in
    ap (λ z. z ∷ map event xs) h ∙ ap (λ l. event y ∷ l) q

pub same_written : (mine theirs : List Placed) (p : ℕ) → value_of (last_write mine p) ≡ value_of (last_write theirs p) → HaveSameOutcome mine theirs (Port p)
same_written mine theirs p e = write_outcome mine p ∙ ap Written e ∙ sym (write_outcome theirs p)

pub same_scheduled : (mine theirs : List Placed) (a : ℕ) → map event (schedulings mine a) ≡ map event (schedulings theirs a) → HaveSameOutcome mine theirs (Action a)
same_scheduled mine theirs a e = schedule_outcome mine a ∙ ap Scheduled e ∙ sym (schedule_outcome theirs a)

-- what is told of a port or of an action is told of the effect
pub port_told : (mine theirs : List Placed) (p : ℕ) (n : Name) → n ≡ Port p → (o : Option Contrast) → MatchOption o (value_of (last_write mine p) ≡ value_of (last_write theirs p)) (TellsOf mine theirs (Port p)) → MatchOption o (HaveSameOutcome mine theirs n) (TellsOf mine theirs n)
port_told mine theirs p n is o x = subst (λ (m : Name). MatchOption o (HaveSameOutcome mine theirs m) (TellsOf mine theirs m)) (sym is) (go o x)
  where
    go : (u : Option Contrast) → MatchOption u (value_of (last_write mine p) ≡ value_of (last_write theirs p)) (TellsOf mine theirs (Port p)) → MatchOption u (HaveSameOutcome mine theirs (Port p)) (TellsOf mine theirs (Port p))
    go None e = same_written mine theirs p e
    go (Some c) y = y

pub action_told : (mine theirs : List Placed) (a : ℕ) (n : Name) → n ≡ Action a → (o : Option Contrast) → MatchOption o (events (schedulings mine a) ≡ events (schedulings theirs a)) (TellsOf mine theirs (Action a)) → MatchOption o (HaveSameOutcome mine theirs n) (TellsOf mine theirs n)
action_told mine theirs a n is o x = subst (λ (m : Name). MatchOption o (HaveSameOutcome mine theirs m) (TellsOf mine theirs m)) (sym is) (go o x)
  where
    go : (u : Option Contrast) → MatchOption u (events (schedulings mine a) ≡ events (schedulings theirs a)) (TellsOf mine theirs (Action a)) → MatchOption u (HaveSameOutcome mine theirs (Action a)) (TellsOf mine theirs (Action a))
    go None e = same_scheduled mine theirs a e
    go (Some c) y = y

-- what a match says of an option that is known
pub of_some : (P : Type 0) (Q : Contrast → Type 0) (o : Option Contrast) (c : Contrast) → o ≡ Some c → MatchOption o P Q → Q c
of_some P Q o c e m = subst (λ (u : Option Contrast). MatchOption u P Q) e m

pub of_none : (P : Type 0) (Q : Contrast → Type 0) (o : Option Contrast) → o ≡ None → MatchOption o P Q → P
of_none P Q o e m = subst (λ (u : Option Contrast). MatchOption u P Q) e m

-- what is found of two runs that are known
pub of_runs : (n : Name) (mine theirs first second : List Placed) (o : Option Contrast) → first ≡ mine → second ≡ theirs → MatchOption o (HaveSameOutcome first second n) (TellsOf first second n) → MatchOption o (HaveSameOutcome mine theirs n) (TellsOf mine theirs n)
of_runs n mine theirs first second o p q m = subst (λ (xs : List Placed). MatchOption o (HaveSameOutcome xs theirs n) (TellsOf xs theirs n)) p (subst (λ (ys : List Placed). MatchOption o (HaveSameOutcome first ys n) (TellsOf first ys n)) q m)

-- what is told of the first effects
pub record ToldTo (effects : List Name) (mine theirs : List Placed) (place : ℕ) (told : List Contrast) : Type 0 where
  pub right : All (IsOfEffect effects mine theirs) told
  pub all : (k : ℕ) (n : Name) → k < place → slice_get effects k ≡ Some n → IsOutcomeTold mine theirs told n

module _ (effects : List Name) (mine theirs : List Placed) where
  pub told_none : (told : List Contrast) → told ≡ [] → ToldTo effects mine theirs 0 told
  told_none told e = subst (λ (cs : List Contrast). ToldTo effects mine theirs 0 cs) (sym e) (record { right = All-nil (IsOfEffect effects mine theirs); all = λ k n l. absurd (omega arith) })

  module _ (place : ℕ) (n : Name) (here : slice_get effects place ≡ Some n) where
    here_is : (k : ℕ) (m : Name) → k ≡ place → slice_get effects k ≡ Some m → n ≡ m
    here_is k m q e = let z : Some n ≡ Some m = sym here ∙ ap (λ i. slice_get effects i) (sym q) ∙ e in cc

    pub told_same : (told : List Contrast) → HaveSameOutcome mine theirs n → ToldTo effects mine theirs place told → ToldTo effects mine theirs (place + 1) told
    told_same told same so_far = record { right = so_far.right; all = λ k m l e. go k m l e (ℕ_discrete k place) }
      where
        go : (k : ℕ) (m : Name) → k < place + 1 → slice_get effects k ≡ Some m → Dec (k ≡ place) → IsOutcomeTold mine theirs told m
        go k m l e (yes q) = subst (λ (z : Name). IsOutcomeTold mine theirs told z) (here_is k m q e) (inl same)
        go k m l e (no q) = so_far.all k m (omega arith) e

    pub told_other : (told new : List Contrast) (c : Contrast) → TellsOf mine theirs n c → new ≡ told ++ c ∷ [] → ToldTo effects mine theirs place told → ToldTo effects mine theirs (place + 1) new
    told_other told new c tells is so_far = subst (λ (cs : List Contrast). ToldTo effects mine theirs (place + 1) cs) (sym is) (record { right = All-push (IsOfEffect effects mine theirs) told c so_far.right (n, mem_contains n effects (mem_get effects place n here), tells); all = λ k m l e. go k m l e (ℕ_discrete k place) })
      where
        more : (m : Name) → IsOutcomeTold mine theirs told m → IsOutcomeTold mine theirs (told ++ c ∷ []) m
        more m (inl same) = inl same
        more m (inr x) = inr (x.0, Contains-append_left told (c ∷ []) x.0 x.1, x.2)

        go : (k : ℕ) (m : Name) → k < place + 1 → slice_get effects k ≡ Some m → Dec (k ≡ place) → IsOutcomeTold mine theirs (told ++ c ∷ []) m
        go k m l e (yes q) = subst (λ (z : Name). IsOutcomeTold mine theirs (told ++ c ∷ []) z) (here_is k m q e) (inr (c, Contains-append_right told (c ∷ []) c (0, omega arith, refl), tells))
        go k m l e (no q) = more m (so_far.all k m (omega arith) e)

  pub told_end : (place : ℕ) (told : List Contrast) → length effects ≤ place → ToldTo effects mine theirs place told → (n : Name) → Contains effects n → IsOutcomeTold mine theirs told n
  told_end place told l so_far n c =
      let i = get_mem n effects (contains_mem n effects c) in
      so_far.all i.0 n (let z = slice_get_within effects i.0 n i.1 in omega arith) i.1

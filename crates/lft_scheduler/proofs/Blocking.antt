-- Blocked along the short lists is to be preceded by a pending reaction.
use Rattle.std.proofs.Common.{◌≡◌, ◌≢◌, ℕ, zero, suc, ◌+◌, ◌<◌, ◌≤◌, ◌⊎◌, inl, inr, List, length, refl, subst, arith, Some, slice_get, Contains}
use Rattle.std.proofs.lemmas.Option.{slice_get_within}
use Rattle.lft_ir.specs.Parts.{Parts}
use Rattle.lft_graph.specs.{Precedence.Precedes, Before.{IsDeclaredJustBefore, FeedsLast}, Graph.{GraphParts, IsGraphOf}}
use Rattle.lft_lists.proofs.Places.{get_there}
use Rattle.lft_scheduler.specs.{declared.turn.phase.Phase.{Phase, TheVariants.{Waiting, Open}}, inner.Turns.{IsPhasePending, IsReady, IsLeastReady}}
use Rattle.lft_scheduler.proofs.Blocked.{IsBusy, IsFree, SpreadsAlong}

module _ (program : Parts) (graph : GraphParts) (is : IsGraphOf program graph) where
  member_there : (a r : ℕ) → IsDeclaredJustBefore program a r ⊎ FeedsLast program a r → a < length program.reactions
  member_there a r (inl d) = slice_get_within program.reactions a d.first d.is_first
  member_there a r (inr f) = slice_get_within program.reactions a f.1.writes.writer f.1.writes.is_writer

  -- the members of a short list are reactions
  pub inside : (r a : ℕ) (list : List ℕ) → slice_get graph.before r ≡ Some list → Contains list a → a < length graph.before
  inside r a list e c = let l = member_there a r (((is.before r list e).members a).0 c) in let s = is.as_long in omega arith

  level_there : (a : ℕ) → a < length graph.before → (k : ℕ) × (slice_get graph.levels a ≡ Some k)
  level_there a l = get_there graph.levels a (let s = is.levels.as_long in omega arith)

  -- it holds of a reaction where it holds of those in its short list
  abbrev Climbs : (ℕ → Type 0) → Type 0
  Climbs P = (r : ℕ) (list : List ℕ) → slice_get graph.before r ≡ Some list → ((b : ℕ) → Contains list b → P b) → P r

  -- what climbs holds of the reactions below a level
  below : (P : ℕ → Type 0) → Climbs P → (n r k : ℕ) → r < length graph.before → slice_get graph.levels r ≡ Some k → k < n → P r
  below P up zero r k w e l = absurd (omega arith)
  below P up (suc n) r k w e l = at (below P up n)
    where
      at : ((b j : ℕ) → b < length graph.before → slice_get graph.levels b ≡ Some j → j < n → P b) → P r
      at under =
          let list = get_there graph.before r w in
          up r list.0 list.1 (λ b c. (let m = inside r b list.0 list.1 c in let j = level_there b m in let h : j.0 < k = is.levels.above b r j.0 k list.0 list.1 c j.1 e in under b j.0 m j.1 (omega arith)))

  -- and so of all
  climb : (P : ℕ → Type 0) → Climbs P → (r : ℕ) → r < length graph.before → P r
  climb P up r w = let k = level_there r w in below P up (k.0 + 1) r k.0 w k.1 (omega arith)

  module _ (phases : List Phase) (IsBlocked : ℕ → Type 0) (spreads : SpreadsAlong graph.before phases IsBlocked) where
    forth : Climbs (λ r. IsBlocked r → (a : ℕ) × Precedes program a r × IsPhasePending phases a)
    forth r list e under i = let t = (spreads r list e).0 i in at t.0 t.1 t.2
      where
        at : (b : ℕ) → Contains list b → IsBusy phases IsBlocked b → (a : ℕ) × Precedes program a r × IsPhasePending phases a
        at b c (inl p) = (b, (is.chains b r list e).1 (b, c, inl refl), p)
        at b c (inr j) = let f = under b c j in (f.0, (is.chains f.0 r list e).1 (b, c, inr f.1), f.2)

    -- each blocked reaction is preceded by a pending one
    pub blocked_preceded : (r : ℕ) → r < length graph.before → IsBlocked r → (a : ℕ) × Precedes program a r × IsPhasePending phases a
    blocked_preceded = climb (λ r. IsBlocked r → (a : ℕ) × Precedes program a r × IsPhasePending phases a) forth

    back : (a : ℕ) → IsPhasePending phases a → Climbs (λ r. Precedes program a r → IsBlocked r)
    back a q r list e under p = let t = (is.chains a r list e).0 p in at t.0 t.1 t.2
      where
        at : (b : ℕ) → Contains list b → (a ≡ b) ⊎ Precedes program a b → IsBlocked r
        at b c (inl s) = (spreads r list e).1 (b, c, inl (subst (IsPhasePending phases) s q))
        at b c (inr s) = (spreads r list e).1 (b, c, inr (under b c s))

    -- and each that a pending one precedes is blocked
    pub preceded_blocked : (r a : ℕ) → r < length graph.before → Precedes program a r → IsPhasePending phases a → IsBlocked r
    preceded_blocked r a w p q = climb (λ k. Precedes program a k → IsBlocked k) (back a q) r w p

    module _ (decide : (a : ℕ) → a < length graph.before → IsBlocked a ⊎ (¬ IsBlocked a)) where
      search_down : Climbs (λ r. IsBusy phases IsBlocked r → (a : ℕ) × IsPhasePending phases a × (¬ IsBlocked a))
      search_down r list e under b = at b (decide r (slice_get_within graph.before r list e))
        where
          behind : IsBlocked r → (a : ℕ) × IsPhasePending phases a × (¬ IsBlocked a)
          behind i = let t = (spreads r list e).0 i in under t.0 t.1 t.2

          at : IsBusy phases IsBlocked r → IsBlocked r ⊎ (¬ IsBlocked r) → (a : ℕ) × IsPhasePending phases a × (¬ IsBlocked a)
          at (inl p) (inr n) = (r, p, n)
          at (inl p) (inl i) = behind i
          at (inr i) d = behind i

      -- where a reaction is busy, one is pending and not blocked
      found : (r : ℕ) → r < length graph.before → IsBusy phases IsBlocked r → (a : ℕ) × IsPhasePending phases a × (¬ IsBlocked a)
      found = climb (λ r. IsBusy phases IsBlocked r → (a : ℕ) × IsPhasePending phases a × (¬ IsBlocked a)) search_down

    module _ (long : length phases ≡ length graph.before) where
      there : (r : ℕ) → slice_get phases r ≡ Some Waiting → r < length graph.before
      there r e = let w = slice_get_within phases r Waiting e in omega arith

      -- waiting and not blocked is ready
      pub free_ready : (r : ℕ) → IsFree phases IsBlocked r → IsReady program phases r
      free_ready r f = record { waiting = f.0; none_before = λ a p q. f.1 (preceded_blocked r a (there r f.0) p q) }

      pub ready_free : (r : ℕ) → IsReady program phases r → IsFree phases IsBlocked r
      ready_free r d = (d.waiting, λ b. (let t = blocked_preceded r (there r d.waiting) b in d.none_before t.0 t.1 t.2))

      pub least_ready : (r : ℕ) → IsFree phases IsBlocked r → ((b : ℕ) → IsFree phases IsBlocked b → r ≤ b) → IsLeastReady program phases r
      least_ready r f least = record { ready = free_ready r f; least = λ b d. least b (ready_free b d) }

      -- where nothing is ready and no run is open, nothing is pending
      pub none_pending : ((a : ℕ) → a < length graph.before → IsBlocked a ⊎ (¬ IsBlocked a)) → ((b : ℕ) → ¬ IsFree phases IsBlocked b) → ((b : ℕ) → slice_get phases b ≢ Some Open) → (r : ℕ) → ¬ IsPhasePending phases r
      none_pending decide none closed r p = let t = found decide r (within p) (inl p) in which t.0 t.1 t.2
        where
          within : IsPhasePending phases r → r < length graph.before
          within (inl e) = there r e
          within (inr e) = let w = slice_get_within phases r Open e in omega arith

          which : (a : ℕ) → IsPhasePending phases a → ¬ IsBlocked a → ⊥
          which a (inl e) n = none a (e, n)
          which a (inr e) n = closed a e

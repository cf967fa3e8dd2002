-- What is known of the names that may be present, and of the runs that are asked for these alone.
use Rattle.std.proofs.Common.{◌≡◌, ◌<◌, ◌+◌, ℕ, ◌⊎◌, inl, inr, true, false, Bool, List, length, ◌∷◌, ◌++◌, [], refl, sym, subst, arith, Option, Some, None, slice_get, filter_map, Contains}
use Rattle.std.{specs.Option.IsSome, proofs.lemmas.List.Elements.{Contains-append_left, Contains-push}}
use Rattle.lft_tag.specs.declared.Tag.{Tag}
use Rattle.lft_lists.proofs.{Members.{Mem, mem_get, get_mem, mem_from_filter, last_mem}, Places.{contains_at, get_there, get_append_cases}}
use Rattle.lft_ir.specs.{Naming.named, Origins.Origin, Parts.inputs, Sound.{IsNameOf, IsSound}}
use Rattle.lft_ir.specs.declared.parts.{Name.{Name, TheVariants.{Port, Action}}, Port.Port as PortOf, Reaction.Reaction, Value.Value}
use Rattle.lft_ir.specs.declared.steps.row.{Row.Row, Step.TheVariants.Write}
use Rattle.lft_ir.proofs.Origins.{origin_inside}
use Rattle.lft_model.specs.{Plans.PlanParts, Presence.{written, Shows, Inputs}, Runs.{read_of, steps_of, reads_at}}
use Rattle.lft_model.proofs.{Ended.written_by, Steps.written_some}
use Rattle.lft_queue.specs.Pending.{Pending, value_of}
use Rattle.lft_queue.specs.inner.Coming.{AtOnce.{is_undelayed, MayHaveEvents, IsAwaited}, Channels.AreReadChannels, Shown.last_write}
use Rattle.lft_queue.specs.declared.coming.{channels.Channels.Channels, writes.Written.Written}
use Rattle.lft_queue.proofs.ComingLemmas.AtOnce.{way_at_once}
use Rattle.lft_rows.proofs.RunReads.{read_there}
use Rattle.lft_stream.{specs.inner.Present.{AreShown, AreReadsShown}, proofs.{Present.read_all, Showing.shows_law}}

-- all that is present is listed, where what the rows reach without a delay and what waits at the tag is
module _ (plan : PlanParts) (sound : IsSound plan.program) (channels : Channels) (are : AreReadChannels plan.program channels) (u : List Row) (g : Tag) (queue : List Pending) (names : List Name) (reached : (i o p : ℕ) (x : Row) (v : Value) (list : List ℕ) → slice_get u i ≡ Some x → x.step ≡ Write (Port o) v → slice_get channels.at_once o ≡ Some list → Contains list p → Contains names (Port p)) (waiting : (n : Name) → IsSome (value_of g n queue) → Contains names n) (d : List Row) (writes : List (Option Written)) (shown : AreShown plan d u g writes queue) where
  from_queue : (n : Name) → MayHaveEvents plan.program n → IsAwaited plan.program n → Contains names n ⊎ Shows plan (d ++ u) g n None
  from_queue n has awaited = go (value_of g n queue) refl (shown.queued n has awaited)
    where
      go : (o : Option Value) → value_of g n queue ≡ o → Shows plan (d ++ u) g n (value_of g n queue) → Contains names n ⊎ Shows plan (d ++ u) g n None
      go None e s = inr (subst (λ (z : Option Value). Shows plan (d ++ u) g n z) e s)
      go (Some v) e s = inl (waiting n (subst (λ (z : Option Value). IsSome z) (sym e) refl))

  at_once : (p : ℕ) → IsNameOf plan.program (Port p) → IsAwaited plan.program (Port p) → is_undelayed plan.program p ≡ true → Contains names (Port p) ⊎ Shows plan (d ++ u) g (Port p) None
  at_once p within awaited undelayed = go (last_write u g port.origin) refl
    where
      there : (x : PortOf) × (slice_get plan.program.ports p ≡ Some x)
      there = get_there plan.program.ports p within

      port : PortOf
      port = there.0

      way : Origin plan.program p port.origin []
      way = way_at_once plan.program sound p port there.1 undelayed

      go : (o : Option Value) → last_write u g port.origin ≡ o → Contains names (Port p) ⊎ Shows plan (d ++ u) g (Port p) None
      go None e = inr (subst (λ (z : Option Value). Shows plan (d ++ u) g (Port p) z) e ((shows_law plan).undelayed d u g p port.origin shown.earlier shown.at_tag way))
      go (Some v) e =
          let m = mem_from_filter (written g port.origin) u v (last_mem (filter_map (written g port.origin) u) v e) in
          let i = get_mem m.0 u m.1 in
          let long : length channels.at_once ≡ length plan.program.ports = are.at_once.as_long in
          let inside : port.origin < length channels.at_once = let l : port.origin < length plan.program.ports = origin_inside way in omega arith in
          let list = get_there channels.at_once port.origin inside in
          inl (reached i.0 port.origin p m.0 v list.0 i.1 (written_some port.origin m.0.step v (written_by g port.origin m.0 v m.2).1) list.1 (are.at_once.each p port list.0 awaited there.1 undelayed list.1))

  pub present_or_absent : (n : Name) → IsNameOf plan.program n → IsAwaited plan.program n → Contains names n ⊎ Shows plan (d ++ u) g n None
  present_or_absent (Action a) within awaited = from_queue (Action a) tt awaited
  present_or_absent (Port p) within awaited = go (is_undelayed plan.program p) refl
    where
      go : (b : Bool) → is_undelayed plan.program p ≡ b → Contains names (Port p) ⊎ Shows plan (d ++ u) g (Port p) None
      go true e = at_once p within awaited e
      go false e = from_queue (Port p) e awaited

-- a run reads its inputs as they are, where it reads something of each listed one, all others are absent, and what it reads is present
pub reads_present : (plan : PlanParts) (t rows : List Row) (g : Tag) (r : ℕ) (x : Reaction) → slice_get plan.program.reactions r ≡ Some x → (names : List Name) → AreReadsShown plan t g rows → ((n : Name) → Contains (inputs x) n → Contains names n ⊎ Shows plan t g n None) → ((n : Name) → Contains (inputs x) n → Contains names n → IsSome (read_of (steps_of rows g r) n)) → Inputs plan t g r (reads_at plan rows g r)
reads_present plan t rows g r x is names reads known met = read_all plan t g r x is rows (λ k n e. go n (contains_at (inputs x) k n e) (read_of (steps_of rows g r) n) refl)
  where
    go : (n : Name) → Contains (inputs x) n → (o : Option Value) → read_of (steps_of rows g r) n ≡ o → Shows plan t g n o
    go n c (Some v) e = let y = read_there rows g r n v e in reads y.0 y.1 n v y.2 y.3 y.5
    go n c None e = by (known n c)
      where
        by : Contains names n ⊎ Shows plan t g n None → Shows plan t g n None
        by (inr s) = s
        by (inl m) = let some = subst (λ (z : Option Value). IsSome z) e (met n c m) in absurd (cc some)

-- a list with one name more has each that it had, and that one
pub still_listed : (names more : List Name) (added : Name) → more ≡ names ++ added ∷ [] → (n : Name) → Contains names n → Contains more n
still_listed names more added e n c = subst (λ (ns : List Name). Contains ns n) (sym e) (Contains-append_left names (added ∷ []) n c)

pub now_listed : (names more : List Name) (added : Name) → more ≡ names ++ added ∷ [] → Contains more added
now_listed names more added e = subst (λ (ns : List Name). Contains ns added) (sym e) (Contains-push names added)

-- the first of some names is done with
pub first_done : (P : Name → Type 0) (n : Name) (ns rest : List Name) (m : Name) → ns ≡ n ∷ rest → P n → P m ⊎ Mem m ns → P m ⊎ Mem m rest
first_done P n ns rest m steps here (inl p) = inl p
first_done P n ns rest m steps here (inr k) = go (subst (λ (xs : List Name). Mem m xs) steps k)
  where
    go : Mem m (n ∷ rest) → P m ⊎ Mem m rest
    go (inl e) = inl (subst P e here)
    go (inr q) = inr q

-- a name at a seat below the number of triggers is one of these
pub trigger_at : (x : Reaction) (n : Name) (k : ℕ) → slice_get (inputs x) k ≡ Some n → k < length (filter_map named x.triggers) → Mem n (filter_map named x.triggers)
trigger_at x n k e l = go (get_append_cases (filter_map named x.triggers) x.uses k n e)
  where
    go : (slice_get (filter_map named x.triggers) k ≡ Some n) ⊎ ((j : ℕ) × (k ≡ length (filter_map named x.triggers) + j) × (slice_get x.uses j ≡ Some n)) → Mem n (filter_map named x.triggers)
    go (inl q) = mem_get (filter_map named x.triggers) k n q
    go (inr (j, q, f)) = let a : k ≡ length (filter_map named x.triggers) + j = q in absurd (omega arith)

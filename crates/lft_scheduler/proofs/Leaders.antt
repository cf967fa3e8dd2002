-- The leaders of the beats of timers: of the first triggers of a list, and of one more.
use Rattle.std.proofs.Common.{◌≡◌, ◌≢◌, ◌↔◌, ◌⊎◌, inl, inr, ◌<◌, ◌≤◌, ◌+◌, ℕ, List, [], ◌∷◌, ◌++◌, length, take, replicate, refl, sym, ap, ap₂, ◌∙◌, subst, arith, Option, Some, None, IfSome, slice_get, slice_set, Contains, Bool, true, false, cond, eqb, eqb-true, eq-eqb}
use Rattle.std.specs.{BTreeMap.{BTreeMap, get}, Ordering.{is_eq, nat_cmp, ordering_then}, Option.option_eq, Cmp.nat_cmp_is}
use Rattle.std.specs.declared.cmp.Ordering.{Ordering, TheVariants.Equal}
use Rattle.std.proofs.lemmas.{Bool.cases_eq, List.take_all, Option.{slice_get_within, get_or_from_slice_get}, Map.Lookups.{exact_unsigned, exact_pairs}}
use native.Mathlib.Decide.{dec_lt}
use Rattle.lft_ir.specs.{Parts.Parts, declared.parts.{Reaction.Reaction, Timer.Timer as TimerOf, Trigger.{Trigger, TheVariants.Timer}}}
use Rattle.lft_lists.proofs.Picked.{take_one_more}
use Rattle.lft_lists.proofs.Places.{get_same, length_same, get_written, get_unwritten, get_write_cases, length_written, same_at, same_some}
use Rattle.lft_scheduler.specs.inner.{Listeners.{beat, IsLeader, IsLive}, Filling.{beat_cmp, TimerStartsBefore, HaveLeaders, AreLeading}}
use Rattle.lft_queue.proofs.Marking.{contains_pushed, none_contained}
use Rattle.lft_tag.proofs.Comparing.{not_equal}

-- of two beats the order says whether they are one
beat_same : (b q : ℕ × ℕ) → q ≡ b → is_eq (beat_cmp b q) ≡ true
beat_same b q e = subst (λ (z : ℕ × ℕ). is_eq (beat_cmp b z) ≡ true) (sym e) here
  where
    first : Equal ≡ nat_cmp b.0 b.0
    first = nat_cmp_is b.0 b.0 Equal refl

    second : Equal ≡ nat_cmp b.1 b.1
    second = nat_cmp_is b.1 b.1 Equal refl

    here : is_eq (beat_cmp b b) ≡ true
    here = sym (ap is_eq second ∙ ap (λ (r : Ordering). is_eq (ordering_then r (nat_cmp b.1 b.1))) first)

beat_other : (b q : ℕ × ℕ) → (q ≡ b → ⊥) → is_eq (beat_cmp b q) ≡ false
beat_other b q d = not_equal (beat_cmp b q) (λ z. d (sym (exact_pairs nat_cmp nat_cmp exact_unsigned exact_unsigned b q z)))

pub cases_beat : (b q : ℕ × ℕ) → (q ≡ b) ⊎ (q ≡ b → ⊥)
cases_beat b q = go (cases_eq q.0 b.0) (cases_eq q.1 b.1)
  where
    go : (q.0 ≡ b.0) ⊎ (q.0 ≡ b.0 → ⊥) → (q.1 ≡ b.1) ⊎ (q.1 ≡ b.1 → ⊥) → (q ≡ b) ⊎ (q ≡ b → ⊥)
    go (inl e) (inl f) = inl (ap₂ (λ (x y : ℕ). (x, y)) e f)
    go (inl e) (inr d) = inr (λ z. d (ap (λ (y : ℕ × ℕ). y.1) z))
    go (inr d) f = inr (λ z. d (ap (λ (y : ℕ × ℕ). y.0) z))

-- a timer starts before another one, or the other one before it, or they are one
pub starts_cases : (timer other : TimerOf) (n m : ℕ) → ((timer.offset < other.offset) ⊎ ((timer.offset ≡ other.offset) × (n < m))) ⊎ ((other.offset < timer.offset) ⊎ ((other.offset ≡ timer.offset) × (m ≤ n)))
starts_cases timer other n m = go (dec_lt timer.offset other.offset) (cases_eq timer.offset other.offset) (dec_lt n m)
  where
    go : Dec (timer.offset < other.offset) → (timer.offset ≡ other.offset) ⊎ (timer.offset ≡ other.offset → ⊥) → Dec (n < m) → ((timer.offset < other.offset) ⊎ ((timer.offset ≡ other.offset) × (n < m))) ⊎ ((other.offset < timer.offset) ⊎ ((other.offset ≡ timer.offset) × (m ≤ n)))
    go (yes l) e k = inl (inl l)
    go (no a) (inl e) (yes k) = inl (inr (e, k))
    go (no a) (inl e) (no k) = inr (inr (sym e, omega arith))
    go (no a) (inr d) k = inr (inl (omega arith))

pub starts_through : (a b c : TimerOf) (i j k : ℕ) → (a.offset < b.offset) ⊎ ((a.offset ≡ b.offset) × (i < j)) → (b.offset < c.offset) ⊎ ((b.offset ≡ c.offset) × (j ≤ k)) → (a.offset < c.offset) ⊎ ((a.offset ≡ c.offset) × (i ≤ k))
starts_through a b c i j k (inl l) (inl m) = inl (omega arith)
starts_through a b c i j k (inl l) (inr m) = inl (let e = m.0 in omega arith)
starts_through a b c i j k (inr l) (inl m) = inl (let e = l.0 in omega arith)
starts_through a b c i j k (inr l) (inr m) = inr (l.0 ∙ m.0, let p = l.1 in let q = m.1 in omega arith)

-- one trigger more
module _ (program : Parts) (triggers : List Trigger) (place : ℕ) (trigger : Trigger) (here : slice_get triggers place ≡ Some trigger) where
  longer : take (place + 1) triggers ≡ take place triggers ++ trigger ∷ []
  longer = take_one_more triggers place trigger (slice_get_within triggers place trigger here) (get_or_from_slice_get triggers place trigger trigger here)

  pub grown : (t : Trigger) → Contains (take place triggers) t ⊎ (t ≡ trigger) → Contains (take (place + 1) triggers) t
  grown t c = subst (λ (ts : List Trigger). Contains ts t) (sym longer) ((contains_pushed (take place triggers) trigger t).1 c)

  pub shrunk : (t : Trigger) → Contains (take (place + 1) triggers) t → Contains (take place triggers) t ⊎ (t ≡ trigger)
  shrunk t c = (contains_pushed (take place triggers) trigger t).0 (subst (λ (ts : List Trigger). Contains ts t) longer c)

  -- who led leads on, where the one more doesn't start before it
  leads_on : (n : ℕ) (leader : IsLeader program (take place triggers) n) → ((m : ℕ) (other : TimerOf) → Timer m ≡ trigger → slice_get program.timers m ≡ Some other → beat other ≡ beat leader.timer → (leader.timer.offset < other.offset) ⊎ ((leader.timer.offset ≡ other.offset) × (n ≤ m))) → (now : IsLeader program (take (place + 1) triggers) n) × (now.timer ≡ leader.timer)
  leads_on n leader after = (record { timer = leader.timer; is_timer = leader.is_timer; there = grown (Timer n) (inl leader.there); first = λ m other c e b. go m other (shrunk (Timer m) c) e b }, refl)
    where
      go : (m : ℕ) (other : TimerOf) → Contains (take place triggers) (Timer m) ⊎ (Timer m ≡ trigger) → slice_get program.timers m ≡ Some other → beat other ≡ beat leader.timer → (leader.timer.offset < other.offset) ⊎ ((leader.timer.offset ≡ other.offset) × (n ≤ m))
      go m other (inl c) e b = leader.first m other c e b
      go m other (inr z) e b = after m other z e b

  -- it is no timer
  pub leaders_same : (map : BTreeMap (ℕ × ℕ) ℕ) → ((n : ℕ) → Timer n ≡ trigger → ⊥) → HaveLeaders program (take place triggers) map → HaveLeaders program (take (place + 1) triggers) map
  leaders_same map none have = record { each = each; all = λ n timer c e. all n timer (shrunk (Timer n) c) e }
    where
      each : (b : ℕ × ℕ) (n : ℕ) → get beat_cmp map b ≡ Some n → (leader : IsLeader program (take (place + 1) triggers) n) × (beat leader.timer ≡ b)
      each b n e = let l = have.each b n e in let now = leads_on n l.0 (λ m other z. absurd (none m z)) in (now.0, ap beat now.1 ∙ l.1)

      all : (n : ℕ) (timer : TimerOf) → Contains (take place triggers) (Timer n) ⊎ (Timer n ≡ trigger) → slice_get program.timers n ≡ Some timer → (m : ℕ) × (get beat_cmp map (beat timer) ≡ Some m)
      all n timer (inl c) e = have.all n timer c e
      all n timer (inr z) e = absurd (none n z)

  -- it is this timer
  module _ (n : ℕ) (timer : TimerOf) (its : Timer n ≡ trigger) (is : slice_get program.timers n ≡ Some timer) where
    same_number : (m : ℕ) → Timer m ≡ trigger → m ≡ n
    same_number m z = let q : Timer m ≡ Timer n = z ∙ sym its in cc

    same_timer : (m : ℕ) (other : TimerOf) → Timer m ≡ trigger → slice_get program.timers m ≡ Some other → other ≡ timer
    same_timer m other z e = same_some (slice_get program.timers n) other timer (subst (λ (k : ℕ). slice_get program.timers k ≡ Some other) (same_number m z) e) is

    -- the leader of its beat starts before it
    leaders_kept : (map : BTreeMap (ℕ × ℕ) ℕ) (o : ℕ) → get beat_cmp map (beat timer) ≡ Some o → ¬ TimerStartsBefore program n (Some o) → HaveLeaders program (take place triggers) map → HaveLeaders program (take (place + 1) triggers) map
    leaders_kept map o leads not have = record { each = each; all = λ m other c e. all m other (shrunk (Timer m) c) e }
      where
        behind : (leader : IsLeader program (take place triggers) o) → (leader.timer.offset < timer.offset) ⊎ ((leader.timer.offset ≡ timer.offset) × (o ≤ n))
        behind leader = go (starts_cases timer leader.timer n o)
          where
            go : ((timer.offset < leader.timer.offset) ⊎ ((timer.offset ≡ leader.timer.offset) × (n < o))) ⊎ ((leader.timer.offset < timer.offset) ⊎ ((leader.timer.offset ≡ timer.offset) × (o ≤ n))) → (leader.timer.offset < timer.offset) ⊎ ((leader.timer.offset ≡ timer.offset) × (o ≤ n))
            go (inr l) = l
            go (inl l) = absurd (not (λ a b e f. subst (λ (y : TimerOf). (a.offset < y.offset) ⊎ ((a.offset ≡ y.offset) × (n < o))) (same_some (slice_get program.timers o) leader.timer b leader.is_timer f) (subst (λ (y : TimerOf). (y.offset < leader.timer.offset) ⊎ ((y.offset ≡ leader.timer.offset) × (n < o))) (same_some (slice_get program.timers n) timer a is e) l)))

        each : (b : ℕ × ℕ) (k : ℕ) → get beat_cmp map b ≡ Some k → (leader : IsLeader program (take (place + 1) triggers) k) × (beat leader.timer ≡ b)
        each b k e = let now = leads_on k l.0 after in (now.0, ap beat now.1 ∙ l.1)
          where
            l : (leader : IsLeader program (take place triggers) k) × (beat leader.timer ≡ b)
            l = have.each b k e

            after : (m : ℕ) (other : TimerOf) → Timer m ≡ trigger → slice_get program.timers m ≡ Some other → beat other ≡ beat l.0.timer → (l.0.timer.offset < other.offset) ⊎ ((l.0.timer.offset ≡ other.offset) × (k ≤ m))
            after m other z f q =
                let t : other ≡ timer = same_timer m other z f in
                let i : m ≡ n = same_number m z in
                let at : b ≡ beat timer = sym l.1 ∙ sym q ∙ ap beat t in
                let one : k ≡ o = same_some (get beat_cmp map (beat timer)) k o (subst (λ (y : ℕ × ℕ). get beat_cmp map y ≡ Some k) at e) leads in
                let there : IsLeader program (take place triggers) o = subst (λ (y : ℕ). IsLeader program (take place triggers) y) one l.0 in
                let same : there.timer ≡ l.0.timer = same_some (slice_get program.timers o) there.timer l.0.timer there.is_timer (subst (λ (y : ℕ). slice_get program.timers y ≡ Some l.0.timer) one l.0.is_timer) in
                subst (λ (y : TimerOf). (l.0.timer.offset < y.offset) ⊎ ((l.0.timer.offset ≡ y.offset) × (k ≤ m))) (sym t) (subst (λ (y : ℕ). (l.0.timer.offset < timer.offset) ⊎ ((l.0.timer.offset ≡ timer.offset) × (k ≤ y))) (sym i) (subst (λ (y : ℕ). (l.0.timer.offset < timer.offset) ⊎ ((l.0.timer.offset ≡ timer.offset) × (y ≤ n))) (sym one) (subst (λ (y : TimerOf). (y.offset < timer.offset) ⊎ ((y.offset ≡ timer.offset) × (o ≤ n))) same (behind there))))

        all : (m : ℕ) (other : TimerOf) → Contains (take place triggers) (Timer m) ⊎ (Timer m ≡ trigger) → slice_get program.timers m ≡ Some other → (k : ℕ) × (get beat_cmp map (beat other) ≡ Some k)
        all m other (inl c) e = have.all m other c e
        all m other (inr z) e = (o, subst (λ (y : TimerOf). get beat_cmp map (beat y) ≡ Some o) (sym (same_timer m other z e)) leads)

    pub leaders_stay : (map : BTreeMap (ℕ × ℕ) ℕ) (o : Option ℕ) → get beat_cmp map (beat timer) ≡ o → ¬ TimerStartsBefore program n o → HaveLeaders program (take place triggers) map → HaveLeaders program (take (place + 1) triggers) map
    leaders_stay map None leads not have = absurd (not _)
    leaders_stay map (Some o) leads not have = leaders_kept map o leads not have

    -- it leads now
    pub leaders_new : (old new : BTreeMap (ℕ × ℕ) ℕ) → TimerStartsBefore program n (get beat_cmp old (beat timer)) → ((q : ℕ × ℕ) → get beat_cmp new q ≡ cond (is_eq (beat_cmp (beat timer) q)) (Some n) (get beat_cmp old q)) → HaveLeaders program (take place triggers) old → HaveLeaders program (take (place + 1) triggers) new
    leaders_new old new before put have = record { each = each; all = λ m other c e. all m other (shrunk (Timer m) c) e }
      where
        at_its : (q : ℕ × ℕ) → q ≡ beat timer → get beat_cmp new q ≡ Some n
        at_its q e = put q ∙ ap (λ (c : Bool). cond c (Some n) (get beat_cmp old q)) (beat_same (beat timer) q e)

        at_other : (q : ℕ × ℕ) → (q ≡ beat timer → ⊥) → get beat_cmp new q ≡ get beat_cmp old q
        at_other q d = put q ∙ ap (λ (c : Bool). cond c (Some n) (get beat_cmp old q)) (beat_other (beat timer) q d)

        -- it starts before all of its beat so far
        sooner : (o : Option ℕ) → get beat_cmp old (beat timer) ≡ o → TimerStartsBefore program n o → (m : ℕ) (other : TimerOf) → Contains (take place triggers) (Timer m) → slice_get program.timers m ≡ Some other → beat other ≡ beat timer → (timer.offset < other.offset) ⊎ ((timer.offset ≡ other.offset) × (n ≤ m))
        sooner None leads first m other c e b = let q = have.all m other c e in let z : None ≡ Some q.0 = sym leads ∙ subst (λ (y : ℕ × ℕ). get beat_cmp old y ≡ Some q.0) b q.1 in absurd (cc)
        sooner (Some o) leads first m other c e b =
            let l = have.each (beat timer) o leads in
            starts_through timer l.0.timer other n o m (first timer l.0.timer is l.0.is_timer) (l.0.first m other c e (b ∙ sym l.1))

        new_leader : IsLeader program (take (place + 1) triggers) n
        new_leader = record { timer = timer; is_timer = is; there = grown (Timer n) (inr its); first = λ m other c e b. go m other (shrunk (Timer m) c) e b }
          where
            go : (m : ℕ) (other : TimerOf) → Contains (take place triggers) (Timer m) ⊎ (Timer m ≡ trigger) → slice_get program.timers m ≡ Some other → beat other ≡ beat timer → (timer.offset < other.offset) ⊎ ((timer.offset ≡ other.offset) × (n ≤ m))
            go m other (inl c) e b = sooner (get beat_cmp old (beat timer)) refl before m other c e b
            go m other (inr z) e b = inr (ap (λ (y : TimerOf). y.offset) (sym (same_timer m other z e)), let i = same_number m z in omega arith)

        each : (b : ℕ × ℕ) (k : ℕ) → get beat_cmp new b ≡ Some k → (leader : IsLeader program (take (place + 1) triggers) k) × (beat leader.timer ≡ b)
        each b k e = go (cases_beat (beat timer) b)
          where
            go : (b ≡ beat timer) ⊎ (b ≡ beat timer → ⊥) → (leader : IsLeader program (take (place + 1) triggers) k) × (beat leader.timer ≡ b)
            go (inl z) = let one : n ≡ k = same_some (get beat_cmp new b) n k (at_its b z) e in subst (λ (y : ℕ). (leader : IsLeader program (take (place + 1) triggers) y) × (beat leader.timer ≡ b)) one (new_leader, sym z)
            go (inr d) =
                let l = have.each b k (sym (at_other b d) ∙ e) in
                let now = leads_on k l.0 (λ m other z f q. absurd (d (sym l.1 ∙ sym q ∙ ap beat (same_timer m other z f)))) in
                (now.0, ap beat now.1 ∙ l.1)

        all : (m : ℕ) (other : TimerOf) → Contains (take place triggers) (Timer m) ⊎ (Timer m ≡ trigger) → slice_get program.timers m ≡ Some other → (k : ℕ) × (get beat_cmp new (beat other) ≡ Some k)
        all m other (inr z) e = (n, at_its (beat other) (ap beat (same_timer m other z e)))
        all m other (inl c) e = go (cases_beat (beat timer) (beat other))
          where
            go : (beat other ≡ beat timer) ⊎ (beat other ≡ beat timer → ⊥) → (k : ℕ) × (get beat_cmp new (beat other) ≡ Some k)
            go (inl z) = (n, at_its (beat other) z)
            go (inr d) = let q = have.all m other c e in (q.0, at_other (beat other) d ∙ q.1)

-- a leader is a timer of the program
pub leader_within : (program : Parts) (triggers : List Trigger) (n : ℕ) → IsLeader program triggers n → n < length program.timers
leader_within program triggers n leader = slice_get_within program.timers n leader.timer leader.is_timer

pub leaders_within : (program : Parts) (triggers : List Trigger) (map : BTreeMap (ℕ × ℕ) ℕ) (b : ℕ × ℕ) (o : Option ℕ) → HaveLeaders program triggers map → get beat_cmp map b ≡ o → IfSome o (λ n. n < length program.timers)
leaders_within program triggers map b None have e = _
leaders_within program triggers map b (Some n) have e = leader_within program triggers n (have.each b n e).0

-- what leads is the leader of its beat
pub leads_its_beat : (program : Parts) (triggers : List Trigger) (map : BTreeMap (ℕ × ℕ) ℕ) (n : ℕ) (timer : TimerOf) → slice_get program.timers n ≡ Some timer → HaveLeaders program triggers map → IsLeader program triggers n → get beat_cmp map (beat timer) ≡ Some n
leads_its_beat program triggers map n timer is have leader =
    let k = have.all n timer leader.there is in
    let l = have.each (beat timer) k.0 k.1 in
    let its : leader.timer ≡ timer = same_some (slice_get program.timers n) leader.timer timer leader.is_timer is in
    let mine = leader.first k.0 l.0.timer l.0.there l.0.is_timer (l.1 ∙ ap beat (sym its)) in
    let theirs = l.0.first n leader.timer leader.there leader.is_timer (ap beat its ∙ sym l.1) in
    k.1 ∙ ap Some (one k.0 leader.timer l.0.timer mine theirs)
  where
    one : (k : ℕ) (a b : TimerOf) → (a.offset < b.offset) ⊎ ((a.offset ≡ b.offset) × (n ≤ k)) → (b.offset < a.offset) ⊎ ((b.offset ≡ a.offset) × (k ≤ n)) → k ≡ n
    one k a b (inl l) (inl m) = absurd (omega (arith, l, m))
    one k a b (inl l) (inr m) = absurd (let e = m.0 in omega (arith, l, e))
    one k a b (inr l) (inl m) = absurd (let e = l.0 in omega (arith, m, e))
    one k a b (inr l) (inr m) = let p = l.1 in let q = m.1 in omega (arith, p, q)

-- the leaders among the first triggers are marked
pub record AreMarkedTo (program : Parts) (triggers : List Trigger) (place : ℕ) (old marked : List Bool) : Type 0 where
  pub as_long : length marked ≡ length old
  pub each : (n : ℕ) → (slice_get marked n ≡ Some true) ↔ ((slice_get old n ≡ Some true) ⊎ (IsLeader program triggers n × Contains (take place triggers) (Timer n)))

pub marked_start : (program : Parts) (triggers : List Trigger) (marked : List Bool) → AreMarkedTo program triggers 0 marked marked
marked_start program triggers marked = record { as_long = refl; each = λ n. (λ e. inl e, back n) }
  where
    back : (n : ℕ) → (slice_get marked n ≡ Some true) ⊎ (IsLeader program triggers n × Contains (take 0 triggers) (Timer n)) → slice_get marked n ≡ Some true
    back n (inl e) = e
    back n (inr p) = absurd (none_contained (Timer n) p.1)

module _ (program : Parts) (triggers : List Trigger) (place : ℕ) (trigger : Trigger) (here : slice_get triggers place ≡ Some trigger) (old marked : List Bool) (are : AreMarkedTo program triggers place old marked) where
  -- one trigger more, which is no leader
  pub marked_other : ((n : ℕ) → Timer n ≡ trigger → ¬ IsLeader program triggers n) → AreMarkedTo program triggers (place + 1) old marked
  marked_other none = record { as_long = are.as_long; each = λ n. (λ e. to n ((are.each n).0 e), from n) }
    where
      to : (n : ℕ) → (slice_get old n ≡ Some true) ⊎ (IsLeader program triggers n × Contains (take place triggers) (Timer n)) → (slice_get old n ≡ Some true) ⊎ (IsLeader program triggers n × Contains (take (place + 1) triggers) (Timer n))
      to n (inl e) = inl e
      to n (inr p) = inr (p.0, grown program triggers place trigger here (Timer n) (inl p.1))

      from : (n : ℕ) → (slice_get old n ≡ Some true) ⊎ (IsLeader program triggers n × Contains (take (place + 1) triggers) (Timer n)) → slice_get marked n ≡ Some true
      from n (inl e) = (are.each n).1 (inl e)
      from n (inr p) = go (shrunk program triggers place trigger here (Timer n) p.1)
        where
          go : Contains (take place triggers) (Timer n) ⊎ (Timer n ≡ trigger) → slice_get marked n ≡ Some true
          go (inl c) = (are.each n).1 (inr (p.0, c))
          go (inr z) = absurd (none n z p.0)

  -- one leader more
  pub marked_leader : (k : ℕ) → Timer k ≡ trigger → IsLeader program triggers k → k < length marked → AreMarkedTo program triggers (place + 1) old (slice_set marked k true)
  marked_leader k its leader within = record { as_long = length_written marked k true ∙ are.as_long; each = λ n. (λ e. to n (get_write_cases marked k n true true within e), from n) }
    where
      to : (n : ℕ) → ((n ≡ k) × (true ≡ true)) ⊎ ((n ≢ k) × (slice_get marked n ≡ Some true)) → (slice_get old n ≡ Some true) ⊎ (IsLeader program triggers n × Contains (take (place + 1) triggers) (Timer n))
      to n (inl z) = inr (subst (λ (i : ℕ). IsLeader program triggers i) (sym z.0) leader, grown program triggers place trigger here (Timer n) (inr (ap Timer z.0 ∙ its)))
      to n (inr z) = go ((are.each n).0 z.1)
        where
          go : (slice_get old n ≡ Some true) ⊎ (IsLeader program triggers n × Contains (take place triggers) (Timer n)) → (slice_get old n ≡ Some true) ⊎ (IsLeader program triggers n × Contains (take (place + 1) triggers) (Timer n))
          go (inl e) = inl e
          go (inr p) = inr (p.0, grown program triggers place trigger here (Timer n) (inl p.1))

      at_its : (n : ℕ) → n ≡ k → slice_get (slice_set marked k true) n ≡ Some true
      at_its n e = ap (λ (i : ℕ). slice_get (slice_set marked k true) i) e ∙ get_written marked k true within

      stays : (n : ℕ) → slice_get marked n ≡ Some true → slice_get (slice_set marked k true) n ≡ Some true
      stays n e = go (cases_eq n k)
        where
          go : (n ≡ k) ⊎ (n ≡ k → ⊥) → slice_get (slice_set marked k true) n ≡ Some true
          go (inl z) = at_its n z
          go (inr d) = get_unwritten marked k n true d ∙ e

      from : (n : ℕ) → (slice_get old n ≡ Some true) ⊎ (IsLeader program triggers n × Contains (take (place + 1) triggers) (Timer n)) → slice_get (slice_set marked k true) n ≡ Some true
      from n (inl e) = stays n ((are.each n).1 (inl e))
      from n (inr p) = go (shrunk program triggers place trigger here (Timer n) p.1)
        where
          go : Contains (take place triggers) (Timer n) ⊎ (Timer n ≡ trigger) → slice_get (slice_set marked k true) n ≡ Some true
          go (inl c) = stays n ((are.each n).1 (inr (p.0, c)))
          go (inr z) = at_its n (let q : Timer n ≡ Timer k = z ∙ sym its in cc)

-- all triggers
pub marked_all : (program : Parts) (triggers : List Trigger) (place : ℕ) (old marked : List Bool) → length triggers ≤ place → AreMarkedTo program triggers place old marked → (n : ℕ) → (slice_get marked n ≡ Some true) ↔ ((slice_get old n ≡ Some true) ⊎ IsLeader program triggers n)
marked_all program triggers place old marked enough are n = (λ e. to ((are.each n).0 e), from)
  where
    to : (slice_get old n ≡ Some true) ⊎ (IsLeader program triggers n × Contains (take place triggers) (Timer n)) → (slice_get old n ≡ Some true) ⊎ IsLeader program triggers n
    to (inl e) = inl e
    to (inr p) = inr p.0

    from : (slice_get old n ≡ Some true) ⊎ IsLeader program triggers n → slice_get marked n ≡ Some true
    from (inl e) = (are.each n).1 (inl e)
    from (inr l) = (are.each n).1 (inr (l, subst (λ (ts : List Trigger). Contains ts (Timer n)) (sym (take_all place triggers enough)) l.there))

-- no reaction yet
pub leading_start : (program : Parts) (n : ℕ) (marked : List Bool) → marked ≡ replicate n false → n ≡ length program.timers → AreLeading program 0 marked
leading_start program n marked same count = record { as_long = ap length same ∙ length_same n false ∙ count; each = λ k. (λ e. absurd (none k e), λ r. (let l : r.0 < 0 = r.1 in absurd (omega arith))) }
  where
    none : (k : ℕ) → slice_get marked k ≡ Some true → ⊥
    none k e = let z : true ≡ false = get_same n k false true (subst (λ (ms : List Bool). slice_get ms k ≡ Some true) same e) in absurd (cc)

-- one reaction more
pub leading_more : (program : Parts) (n : ℕ) (x : Reaction) (old new : List Bool) → slice_get program.reactions n ≡ Some x → AreLeading program n old → length new ≡ length old → ((k : ℕ) → (slice_get new k ≡ Some true) ↔ ((slice_get old k ≡ Some true) ⊎ IsLeader program x.triggers k)) → AreLeading program (n + 1) new
leading_more program n x old new here before as_long marks = record { as_long = as_long ∙ before.as_long; each = λ k. (λ e. to k ((marks k).0 e), λ r. from k r (cases_eq r.0 n)) }
  where
    to : (k : ℕ) → (slice_get old k ≡ Some true) ⊎ IsLeader program x.triggers k → (r : ℕ) × (r < n + 1) × (y : Reaction) × (slice_get program.reactions r ≡ Some y) × IsLeader program y.triggers k
    to k (inl e) = let r = (before.each k).0 e in let l : r.0 < n = r.1 in (r.0, omega arith, r.2, r.3, r.4)
    to k (inr l) = (n, omega arith, x, here, l)

    from : (k : ℕ) → (r : (i : ℕ) × (i < n + 1) × (y : Reaction) × (slice_get program.reactions i ≡ Some y) × IsLeader program y.triggers k) → (r.0 ≡ n) ⊎ (r.0 ≡ n → ⊥) → slice_get new k ≡ Some true
    from k r (inr d) = (marks k).1 (inl ((before.each k).1 (r.0, (let l : r.0 < n + 1 = r.1 in omega arith), r.2, r.3, r.4)))
    from k r (inl e) = (marks k).1 (inr (subst (λ (y : Reaction). IsLeader program y.triggers k) (same_at program.reactions r.0 n r.2 x r.3 here e) r.4))

-- one timer more is looked at
pub live_more : (marked : List Bool) (n : ℕ) (live : List ℕ) → ((m : ℕ) → Contains live m ↔ ((m < n) × (slice_get marked m ≡ Some true))) → slice_get marked n ≡ Some true → (m : ℕ) → Contains (live ++ n ∷ []) m ↔ ((m < n + 1) × (slice_get marked m ≡ Some true))
live_more marked n live is some m = (λ c. to ((contains_pushed live n m).0 c), λ p. (contains_pushed live n m).1 (from p (cases_eq m n)))
  where
    to : Contains live m ⊎ (m ≡ n) → (m < n + 1) × (slice_get marked m ≡ Some true)
    to (inl c) = let p = (is m).0 c in let l : m < n = p.0 in (omega arith, p.1)
    to (inr e) = (omega (arith, e), subst (λ (i : ℕ). slice_get marked i ≡ Some true) (sym e) some)

    from : (m < n + 1) × (slice_get marked m ≡ Some true) → (m ≡ n) ⊎ (m ≡ n → ⊥) → Contains live m ⊎ (m ≡ n)
    from p (inl e) = inr e
    from p (inr d) = inl ((is m).1 ((let l : m < n + 1 = p.0 in omega arith), p.1))

pub live_same : (marked : List Bool) (n : ℕ) (live : List ℕ) → ((m : ℕ) → Contains live m ↔ ((m < n) × (slice_get marked m ≡ Some true))) → ¬ (slice_get marked n ≡ Some true) → (m : ℕ) → Contains live m ↔ ((m < n + 1) × (slice_get marked m ≡ Some true))
live_same marked n live is none m = (λ c. (let p = (is m).0 c in let l : m < n = p.0 in (omega arith, p.1)), λ p. from p (cases_eq m n))
  where
    from : (m < n + 1) × (slice_get marked m ≡ Some true) → (m ≡ n) ⊎ (m ≡ n → ⊥) → Contains live m
    from p (inl e) = absurd (none (subst (λ (i : ℕ). slice_get marked i ≡ Some true) e p.1))
    from p (inr d) = (is m).1 ((let l : m < n + 1 = p.0 in omega arith), p.1)

-- and all
pub live_all : (program : Parts) (marked : List Bool) (n : ℕ) (live : List ℕ) → length marked ≤ n → AreLeading program (length program.reactions) marked → ((m : ℕ) → Contains live m ↔ ((m < n) × (slice_get marked m ≡ Some true))) → (m : ℕ) → Contains live m ↔ IsLive program m
live_all program marked n live enough leading is m = (λ c. (let r = (leading.each m).0 ((is m).0 c).1 in (r.0, r.2, r.3, r.4)), from)
  where
    from : IsLive program m → Contains live m
    from l =
        let e = (leading.each m).1 (l.0, slice_get_within program.reactions l.0 l.1 l.2, l.1, l.2, l.3) in
        let k : m < length marked = slice_get_within marked m true e in
        (is m).1 (omega arith, e)

-- the test of a number that may be there
pub equal_some : (o : Option ℕ) (n : ℕ) → option_eq eqb o (Some n) ≡ true → o ≡ Some n
equal_some None n e = absurd (cc)
equal_some (Some m) n e = ap Some (eqb-true m n e)

pub some_equal : (o : Option ℕ) (n : ℕ) → o ≡ Some n → option_eq eqb o (Some n) ≡ true
some_equal None n e = absurd (cc)
some_equal (Some m) n e = eq-eqb m n (let q : m ≡ n = cc in q)

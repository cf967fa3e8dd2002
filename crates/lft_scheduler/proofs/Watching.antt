-- The watched ports of a program: those that its reactions read, and the first delayed ones.
use Rattle.std.proofs.Common.{◌≡◌, ◌≢◌, ◌↔◌, ◌⊎◌, inl, inr, ◌<◌, ◌≤◌, ◌+◌, ℕ, zero, suc, List, length, replicate, refl, sym, ap, ◌∙◌, subst, arith, Option, Some, None, IfSome, slice_get, slice_set, true, false}
use Rattle.std.proofs.lemmas.{Bool.cases_eq, Option.slice_get_within}
use native.Mathlib.Decide.{dec_lt}
use Rattle.lft_tag.{specs.Tags.{Before, UpTo}, proofs.Order.{Before-irrefl, Before-UpTo, Before-weaken, UpTo-refl, UpTo_antisym, order_cases}}
use Rattle.lft_ir.specs.{Parts.Parts, Sound.IsSound, declared.parts.Port.Port as PortOf}
use Rattle.lft_lists.proofs.Places.{get_there, get_same, length_same, get_write_cases, length_written, same_at, same_some}
use Rattle.lft_scheduler.specs.inner.Listeners.{arrival, IsDelayed, IsFirstDelayed, IsWatched}
use Rattle.lft_scheduler.specs.inner.Filling.{ArrivesSooner, IsFirstOfOrigin, AreFirstDelayedPorts, WatchedParts, AreWatched}

-- one port more is looked at
module _ (program : Parts) (n : ℕ) (port : PortOf) (here : slice_get program.ports n ≡ Some port) where
  same_port : (q : ℕ) (other : PortOf) → q ≡ n → slice_get program.ports q ≡ Some other → port ≡ other
  same_port q other e there = sym (same_at program.ports q n other port there here e)

  cases_below : (q : ℕ) → q < n + 1 → (q ≡ n) ⊎ (q < n)
  cases_below q l = go (cases_eq q n)
    where
      go : (q ≡ n) ⊎ (q ≡ n → ⊥) → (q ≡ n) ⊎ (q < n)
      go (inl e) = inl e
      go (inr d) = inr (omega arith)

  is_new : (o q : ℕ) (other : PortOf) → q ≡ n → IsDelayed program o q other → IsDelayed program o n port
  is_new o q other e d = record { is_port = here; has_origin = ap (λ (z : PortOf). z.origin) (same_port q other e d.is_port) ∙ d.has_origin; later = subst (λ (z : PortOf). 0 < z.shift.time) (sym (same_port q other e d.is_port)) d.later }

  -- it is no delayed port of the origin, or not before the first one
  none_stays : (o : ℕ) → (IsDelayed program o n port → ⊥) → IsFirstOfOrigin program n o None → IsFirstOfOrigin program (n + 1) o None
  none_stays o other is q z l d = go (cases_below q l)
    where
      go : (q ≡ n) ⊎ (q < n) → ⊥
      go (inl e) = other (is_new o q z e d)
      go (inr k) = is q z k d

  some_stays : (o p : ℕ) (is : IsFirstOfOrigin program n o (Some p)) → (IsDelayed program o n port → UpTo (arrival is.1.port) (arrival port)) → IsFirstOfOrigin program (n + 1) o (Some p)
  some_stays o p is after = ((let l : p < n = is.0 in omega arith), record { port = is.1.port; delayed = is.1.delayed; soonest = soonest; foremost = foremost })
    where
      soonest : (q : ℕ) (z : PortOf) → q < n + 1 → IsDelayed program o q z → UpTo (arrival is.1.port) (arrival z)
      soonest q z l d = go (cases_below q l)
        where
          go : (q ≡ n) ⊎ (q < n) → UpTo (arrival is.1.port) (arrival z)
          go (inl e) = subst (λ (y : PortOf). UpTo (arrival is.1.port) (arrival y)) (same_port q z e d.is_port) (after (is_new o q z e d))
          go (inr k) = is.1.soonest q z k d

      foremost : (q : ℕ) (z : PortOf) → q < n + 1 → IsDelayed program o q z → arrival z ≡ arrival is.1.port → p ≤ q
      foremost q z l d a = go (cases_below q l)
        where
          go : (q ≡ n) ⊎ (q < n) → p ≤ q
          go (inl e) = let m : p < n = is.0 in omega arith
          go (inr k) = is.1.foremost q z k d a

  -- it is before it
  takes_over : (o : ℕ) (first : Option ℕ) → IsDelayed program o n port → IsFirstOfOrigin program n o first → ArrivesSooner program port first → IsFirstOfOrigin program (n + 1) o (Some n)
  takes_over o None new is before = (omega arith, record { port = port; delayed = new; soonest = soonest; foremost = foremost })
    where
      soonest : (q : ℕ) (z : PortOf) → q < n + 1 → IsDelayed program o q z → UpTo (arrival port) (arrival z)
      soonest q z l d = go (cases_below q l)
        where
          go : (q ≡ n) ⊎ (q < n) → UpTo (arrival port) (arrival z)
          go (inl e) = subst (λ (y : PortOf). UpTo (arrival port) (arrival y)) (same_port q z e d.is_port) (UpTo-refl (arrival port))
          go (inr k) = absurd (is q z k d)

      foremost : (q : ℕ) (z : PortOf) → q < n + 1 → IsDelayed program o q z → arrival z ≡ arrival port → n ≤ q
      foremost q z l d a = go (cases_below q l)
        where
          go : (q ≡ n) ⊎ (q < n) → n ≤ q
          go (inl e) = omega arith
          go (inr k) = absurd (is q z k d)
  takes_over o (Some p) new is before = (omega arith, record { port = port; delayed = new; soonest = soonest; foremost = foremost })
    where
      sooner : (q : ℕ) (z : PortOf) → q < n → IsDelayed program o q z → Before (arrival port) (arrival z)
      sooner q z k d = Before-UpTo (arrival port) (arrival is.1.port) (arrival z) (before.1 is.1.port is.1.delayed.is_port) (is.1.soonest q z k d)

      soonest : (q : ℕ) (z : PortOf) → q < n + 1 → IsDelayed program o q z → UpTo (arrival port) (arrival z)
      soonest q z l d = go (cases_below q l)
        where
          go : (q ≡ n) ⊎ (q < n) → UpTo (arrival port) (arrival z)
          go (inl e) = subst (λ (y : PortOf). UpTo (arrival port) (arrival y)) (same_port q z e d.is_port) (UpTo-refl (arrival port))
          go (inr k) = Before-weaken (arrival port) (arrival z) (sooner q z k d)

      foremost : (q : ℕ) (z : PortOf) → q < n + 1 → IsDelayed program o q z → arrival z ≡ arrival port → n ≤ q
      foremost q z l d a = go (cases_below q l)
        where
          go : (q ≡ n) ⊎ (q < n) → n ≤ q
          go (inl e) = omega arith
          go (inr k) = absurd (Before-irrefl (arrival port) (subst (λ (t : _). Before (arrival port) t) a (sooner q z k d)))

  -- whether it is before the first one
  pub stays : (o : ℕ) (first : Option ℕ) → (port.origin ≡ o → ¬ ArrivesSooner program port first) → IsFirstOfOrigin program n o first → IsFirstOfOrigin program (n + 1) o first
  stays o None not is = none_stays o (λ d. not d.has_origin d.later) is
  stays o (Some p) not is = some_stays o p is (λ d. go d (order_cases (arrival port) (arrival is.1.port)))
    where
      go : IsDelayed program o n port → Before (arrival port) (arrival is.1.port) ⊎ UpTo (arrival is.1.port) (arrival port) → UpTo (arrival is.1.port) (arrival port)
      go d (inr u) = u
      go d (inl b) = absurd (not d.has_origin (d.later, λ z e. subst (λ (y : PortOf). Before (arrival port) (arrival y)) (same_some (slice_get program.ports p) is.1.port z is.1.delayed.is_port e) b))

  pub changes : (first : Option ℕ) → ArrivesSooner program port first → IsFirstOfOrigin program n port.origin first → IsFirstOfOrigin program (n + 1) port.origin (Some n)
  changes None before is = takes_over port.origin None (record { is_port = here; has_origin = refl; later = before }) is before
  changes (Some p) before is = takes_over port.origin (Some p) (record { is_port = here; has_origin = refl; later = before.0 }) is before

  precedes_cases : (o : ℕ) (first : Option ℕ) → IsFirstOfOrigin program n o first → ArrivesSooner program port first ⊎ ¬ ArrivesSooner program port first
  precedes_cases o None is = go (dec_lt 0 port.shift.time)
    where
      go : Dec (0 < port.shift.time) → (0 < port.shift.time) ⊎ ¬ (0 < port.shift.time)
      go (yes l) = inl l
      go (no m) = inr m
  precedes_cases o (Some p) is = go (dec_lt 0 port.shift.time) (order_cases (arrival port) (arrival is.1.port))
    where
      go : Dec (0 < port.shift.time) → Before (arrival port) (arrival is.1.port) ⊎ UpTo (arrival is.1.port) (arrival port) → ArrivesSooner program port (Some p) ⊎ ¬ ArrivesSooner program port (Some p)
      go (no m) c = inr (λ b. m b.0)
      go (yes l) (inl b) = inl (l, λ z e. subst (λ (y : PortOf). Before (arrival port) (arrival y)) (same_some (slice_get program.ports p) is.1.port z is.1.delayed.is_port e) b)
      go (yes l) (inr u) = inr (λ b. Before-irrefl (arrival port) (Before-UpTo (arrival port) (arrival is.1.port) (arrival port) (b.1 is.1.port is.1.delayed.is_port) u))

  pub one_more : (o : ℕ) → (first : Option ℕ) × IsFirstOfOrigin program n o first → (first : Option ℕ) × IsFirstOfOrigin program (n + 1) o first
  one_more o f = go (cases_eq port.origin o)
    where
      by : (e : port.origin ≡ o) → ArrivesSooner program port f.0 ⊎ ¬ ArrivesSooner program port f.0 → (first : Option ℕ) × IsFirstOfOrigin program (n + 1) o first
      by e (inl b) = (Some n, subst (λ (c : ℕ). IsFirstOfOrigin program (n + 1) c (Some n)) e (changes f.0 b (subst (λ (c : ℕ). IsFirstOfOrigin program n c f.0) (sym e) f.1)))
      by e (inr m) = (f.0, stays o f.0 (λ q. m) f.1)

      go : (port.origin ≡ o) ⊎ (port.origin ≡ o → ⊥) → (first : Option ℕ) × IsFirstOfOrigin program (n + 1) o first
      go (inl e) = by e (precedes_cases o f.0 f.1)
      go (inr d) = (f.0, stays o f.0 (λ e. absurd (d e)) f.1)

-- no port yet
pub first_start : (program : Parts) (n : ℕ) (firsts : List (Option ℕ)) → firsts ≡ replicate n None → n ≡ length program.ports → AreFirstDelayedPorts program 0 firsts
first_start program n firsts same count = record { as_long = ap length same ∙ length_same n None ∙ count; each = λ o first e. none o first (get_same n o None first (subst (λ (fs : List (Option ℕ)). slice_get fs o ≡ Some first) same e)) }
  where
    none : (o : ℕ) (first : Option ℕ) → first ≡ None → IsFirstOfOrigin program 0 o first
    none o None e = λ q z l d. absurd (omega arith)
    none o (Some p) e = absurd (cc)

-- the first one is a port of the program
pub first_inside : (program : Parts) (below o : ℕ) (first : Option ℕ) → below ≤ length program.ports → IsFirstOfOrigin program below o first → IfSome first (λ p. p < length program.ports)
first_inside program below o None l is = tt
first_inside program below o (Some p) l is = let k : p < below = is.0 in omega arith

-- one port more, which is the first one of its origin now, or isn't
module _ (program : Parts) (n : ℕ) (port : PortOf) (here : slice_get program.ports n ≡ Some port) (firsts : List (Option ℕ)) (before : AreFirstDelayedPorts program n firsts) (first : Option ℕ) (there : slice_get firsts port.origin ≡ Some first) where
  pub first_stays : ¬ ArrivesSooner program port first → AreFirstDelayedPorts program (n + 1) firsts
  first_stays not = record { as_long = before.as_long; each = λ o f e. stays program n port here o f (λ q. subst (λ (g : Option ℕ). ¬ ArrivesSooner program port g) (same_at firsts port.origin o first f there e q) not) (before.each o f e) }

  pub first_changes : ArrivesSooner program port first → AreFirstDelayedPorts program (n + 1) (slice_set firsts port.origin (Some n))
  first_changes sooner = record { as_long = length_written firsts port.origin (Some n) ∙ before.as_long; each = λ o f e. by o f (get_write_cases firsts port.origin o (Some n) f (slice_get_within firsts port.origin first there) e) }
    where
      by : (o : ℕ) (f : Option ℕ) → ((o ≡ port.origin) × (Some n ≡ f)) ⊎ ((o ≢ port.origin) × (slice_get firsts o ≡ Some f)) → IsFirstOfOrigin program (n + 1) o f
      by o f (inl z) = subst (λ (g : Option ℕ). IsFirstOfOrigin program (n + 1) o g) z.1 (subst (λ (c : ℕ). IsFirstOfOrigin program (n + 1) c (Some n)) (sym z.0) (changes program n port here first sooner (before.each port.origin first there)))
      by o f (inr z) = stays program n port here o f (λ e. absurd (z.0 (sym e))) (before.each o f z.1)

-- each origin of a delayed port has a first one
first_of : (program : Parts) (o n : ℕ) → n ≤ length program.ports → (first : Option ℕ) × IsFirstOfOrigin program n o first
first_of program o zero l = (None, λ q z k d. absurd (omega arith))
first_of program o (suc n) l =
    let k = get_there program.ports n (omega arith) in
    let f = one_more program n k.0 k.1 o (first_of program o n (omega arith)) in
    (f.0, subst (λ (m : ℕ). IsFirstOfOrigin program m o f.0) (let z : n + 1 ≡ suc n = omega arith in z) f.1)

pub delayed_first : (program : Parts) (o p : ℕ) (port : PortOf) → IsDelayed program o p port → (k : ℕ) × (f : IsFirstDelayed program (length program.ports) o k) × UpTo (arrival f.port) (arrival port)
delayed_first program o p port d = let f = first_of program o (length program.ports) (omega arith) in go f.0 f.1
  where
    inside : p < length program.ports
    inside = slice_get_within program.ports p port d.is_port

    go : (first : Option ℕ) → IsFirstOfOrigin program (length program.ports) o first → (k : ℕ) × (f : IsFirstDelayed program (length program.ports) o k) × UpTo (arrival f.port) (arrival port)
    go None is = absurd (is p port inside d)
    go (Some k) is = (k, is.1, is.1.soonest p port inside d)

-- and only one
one_first : (program : Parts) (below o p q : ℕ) → p < below → q < below → IsFirstDelayed program below o p → IsFirstDelayed program below o q → p ≡ q
one_first program below o p q a b x y =
    let same = UpTo_antisym (arrival x.port) (arrival y.port) (x.soonest q y.port b y.delayed) (y.soonest p x.port a x.delayed) in
    let l : p ≤ q = x.foremost q y.port b y.delayed (sym same) in
    let m : q ≤ p = y.foremost p x.port a x.delayed same in
    omega arith

-- what is known of a port is whether it is watched
pub watched_known : (program : Parts) → IsSound program → (watched : WatchedParts) → AreWatched program watched → (n : ℕ) (port : PortOf) → slice_get program.ports n ≡ Some port → port.origin < length program.ports → ((slice_get watched.read n ≡ Some true) ⊎ (port.origin ≡ n) ⊎ (slice_get watched.firsts port.origin ≡ Some (Some n))) ↔ IsWatched program n
watched_known program sound watched is n port here inside = (to, from)
  where
    to : (slice_get watched.read n ≡ Some true) ⊎ (port.origin ≡ n) ⊎ (slice_get watched.firsts port.origin ≡ Some (Some n)) → IsWatched program n
    to (inl e) = let r = (is.read.each n).0 e in inl (r.0, r.2)
    to (inr (inl e)) = inr (inl (port, here, e))
    to (inr (inr e)) = inr (inr (port.origin, (is.firsts.each port.origin (Some n) e).1))

    from : IsWatched program n → (slice_get watched.read n ≡ Some true) ⊎ (port.origin ≡ n) ⊎ (slice_get watched.firsts port.origin ≡ Some (Some n))
    from (inl r) = inl ((is.read.each n).1 (r.0, slice_get_within program.reactions r.0 r.1.0 r.1.1, r.1))
    from (inr (inl a)) = inr (inl (ap (λ (z : PortOf). z.origin) (same_some (slice_get program.ports n) port a.0 here a.1) ∙ a.2))
    from (inr (inr f)) = inr (inr (by k.0 k.1 (is.firsts.each port.origin k.0 k.1)))
      where
        its : f.0 ≡ port.origin
        its = sym f.1.delayed.has_origin ∙ ap (λ (z : PortOf). z.origin) (same_some (slice_get program.ports n) f.1.port port f.1.delayed.is_port here)

        first : IsFirstDelayed program (length program.ports) port.origin n
        first = subst (λ (o : ℕ). IsFirstDelayed program (length program.ports) o n) its f.1

        within : n < length program.ports
        within = slice_get_within program.ports n port here

        k : (first : Option ℕ) × (slice_get watched.firsts port.origin ≡ Some first)
        k = get_there watched.firsts port.origin (let a = is.firsts.as_long in omega arith)

        by : (o : Option ℕ) → slice_get watched.firsts port.origin ≡ Some o → IsFirstOfOrigin program (length program.ports) port.origin o → slice_get watched.firsts port.origin ≡ Some (Some n)
        by None e x = absurd (x n first.port within first.delayed)
        by (Some m) e x = e ∙ ap (λ (i : ℕ). Some (Some i)) (one_first program (length program.ports) port.origin m n x.0 within x.1 first)

-- where it isn't read and is no origin, it is the first one of its origin
pub watched_first : (program : Parts) → IsSound program → (watched : WatchedParts) → AreWatched program watched → (n : ℕ) (port : PortOf) → slice_get program.ports n ≡ Some port → port.origin < length program.ports → slice_get watched.read n ≡ Some false → ¬ (port.origin ≡ n) → (first : Option ℕ) → slice_get watched.firsts port.origin ≡ Some first → IsWatched program n → first ≡ Some n
watched_first program sound watched is n port here inside unread other first there w = go ((watched_known program sound watched is n port here inside).1 w)
  where
    go : (slice_get watched.read n ≡ Some true) ⊎ (port.origin ≡ n) ⊎ (slice_get watched.firsts port.origin ≡ Some (Some n)) → first ≡ Some n
    go (inl e) = let z : false ≡ true = same_some (slice_get watched.read n) false true unread e in absurd (cc)
    go (inr (inl e)) = absurd (other e)
    go (inr (inr e)) = same_some (slice_get watched.firsts port.origin) first (Some n) there e

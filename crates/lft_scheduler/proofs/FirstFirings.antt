-- The first firings of timers after a tag, and from a later one on.
use Rattle.std.proofs.Common.{◌≡◌, ◌↔◌, ℕ, ◌+◌, ◌<◌, ◌≤◌, ◌⊎◌, inl, inr, List, [], ◌∷◌, ◌++◌, length, map, refl, sym, subst, arith, false, Option, Some, None, IfSome, IfNone, slice_get, Contains}
use native.Mathlib.Decide.{dec_lt}
use Rattle.std.specs.{List.{AllByRecursion, Sorted.IsPermutation}, Ordering.{is_lt, nat_cmp, ordering_then}, BinaryHeap.IsUpperBound}
use Rattle.std.specs.declared.cmp.{Ordering.{Ordering, TheVariants.{Less, Equal, Greater}}, Reverse.Reverse}
use Rattle.std.proofs.lemmas.{List.Sorted.{Contains-permutation, IsPermutation-sym}, Map.Keys.ge_from_not_lt}
use Rattle.lft_tag.{specs.{declared.Tag.Tag, Tags.{Before, UpTo}}, proofs.Order.{Before-UpTo, Before-weaken, UpTo-Before, UpTo-trans, order_cases}}
use Rattle.lft_ir.specs.{Parts.Parts, declared.parts.{Timer.Timer as TimerOf, Trigger.TheVariants.Timer}}
use Rattle.lft_lists.proofs.Members.{Mem, mem_contains, contains_mem, mem_map, mem_from_map, mem_left, mem_right, mem_cases}
use Rattle.lft_lists.proofs.Places.{same_some, same_at, at_contains}
use Rattle.lft_model.{proofs.Places.slice_get_within, specs.Presence.Fires}
use Rattle.lft_queue.specs.Pending.{Pending}
use Rattle.lft_scheduler.specs.inner.{Listeners.IsLive, Waits.{IsBetween, IsFoundUpTo}, Telling.{FiresAt, TriggeredByQueue}}
use Rattle.lft_scheduler.specs.inner.Firings.{tag_of_firing, sooner_first, IsFirstOf, AreFirstFirings}
use Rattle.lft_scheduler.specs.declared.firings.Firing.{Firing}
use Rattle.lft_scheduler.proofs.NextTags.{covered_after}

-- a timer's first firing with a property is up to each of its firings with it
pub first_up_to : (program : Parts) (P : Tag → Type 0) (f : Firing) (n : ℕ) (h : Tag) → IsFirstOf program P f → f.timer ≡ n → FiresAt program h n → P h → UpTo (tag_of_firing f) h
first_up_to program P f n h first same fires p = first.2.least h (subst (λ (x : TimerOf). Fires x h) (same_some (slice_get program.timers n) fires.0 first.0 fires.1 (subst (λ (m : ℕ). slice_get program.timers m ≡ Some first.0) same first.1)) fires.2) p

-- where the first firing from a tag on is later, it is the first after it
pub first_after : (program : Parts) (g : Tag) (f : Firing) → IsFirstOf program (λ h. UpTo g h) f → Before g (tag_of_firing f) → IsFirstOf program (λ h. Before g h) f
first_after program g f first b = (first.0, first.1, record { fires = first.2.fires; holds = b; least = λ h fires p. first.2.least h fires (Before-weaken g h p) })

-- where the first firings after one tag aren't before a later one, they are the first from there on
pub first_from : (program : Parts) (from next : Tag) (fs : List Firing) → AreFirstFirings program (λ h. Before from h) fs → Before from next → ((f : Firing) → Contains fs f → UpTo next (tag_of_firing f)) → AreFirstFirings program (λ h. UpTo next h) fs
first_from program from next fs are b up = record {
  all = λ n h live fires u. are.all n h live fires (Before-UpTo from next h b u);
  only = λ f c. (let o = are.only f c in (o.0, (o.1.0, o.1.1, record { fires = o.1.2.fires; holds = up f c; least = λ h fires u. o.1.2.least h fires (Before-UpTo from next h b u) })));
}

-- the next tag is up to each of them
pub none_skipped : (program : Parts) (q : List Pending) (last from next : Tag) (fs : List Firing) → AreFirstFirings program (λ h. Before from h) fs → UpTo next last → ((h : Tag) (r : ℕ) → TriggeredByQueue program q last h r → Before from h → UpTo h last → IsFoundUpTo (Some next) h) → (f : Firing) → Contains fs f → UpTo next (tag_of_firing f)
none_skipped program q last from next fs are u covers f c = go (order_cases last (tag_of_firing f))
  where
    o : IsLive program f.timer × IsFirstOf program (λ h. Before from h) f
    o = are.only f c

    go : Before last (tag_of_firing f) ⊎ UpTo (tag_of_firing f) last → UpTo next (tag_of_firing f)
    go (inl b) = Before-weaken next (tag_of_firing f) (UpTo-Before next last (tag_of_firing f) u b)
    go (inr v) =
        let k = covers (tag_of_firing f) o.0.0 (Timer f.timer, (o.1.0, o.1.1, o.1.2.fires), (o.0.1, o.0.2, o.0.3.there)) o.1.2.holds v in
        let e : next ≡ k.0 = same_some (Some next) next k.0 refl k.1 in
        subst (λ (g : Tag). UpTo g (tag_of_firing f)) (sym e) k.2

-- where the least tag of a list is covered, what is after one of its tags is covered
pub least_covers : {X : Type 0} (at : X → Tag) (xs : List X) (o found : Option Tag) (from last h : Tag) (x : X) → IfSome o (λ g. (e : X) × Contains xs e × (at e ≡ g)) → IfSome o (λ g. (e : X) → Contains xs e → UpTo g (at e)) → IfNone o (xs ≡ []) → ((e : X) → Contains xs e → Before from (at e)) → ((g : Tag) → o ≡ Some g → IsBetween from last g → IsFoundUpTo found g) → Contains xs x → UpTo (at x) h → UpTo h last → IsFoundUpTo found h
least_covers {X} at xs None found from last h x some least none later covers c u v = absurd (subst (λ (ys : List X). Mem x ys) none (contains_mem x xs c))
least_covers at xs (Some g) found from last h x some least none later covers c u v =
    let w : UpTo g h = UpTo-trans g (at x) h (least x c) u in
    covered_after found g h w (covers g refl (subst (λ (k : Tag). Before from k) some.2 (later some.0 some.1), UpTo-trans g h last w v))

-- the greatest item of the heap is the first firing
not_less : (c o : Ordering) → is_lt (ordering_then c o) ≡ false → is_lt c ≡ false
not_less Less o e = e
not_less Equal o e = refl
not_less Greater o e = refl

each_not_less : (x y : Reverse Firing) (xs : List (Reverse Firing)) → AllByRecursion (λ y. is_lt (sooner_first x y) ≡ false) xs → Mem y xs → is_lt (sooner_first x y) ≡ false
each_not_less x y [] all m = absurd m
each_not_less x y (z ∷ xs) all (inl e) = subst (λ (k : Reverse Firing). is_lt (sooner_first x k) ≡ false) e all.0
each_not_less x y (z ∷ xs) all (inr m) = each_not_less x y xs all.1 m

pub least_firing : (x : Reverse Firing) (xs : List (Reverse Firing)) → IsUpperBound sooner_first x xs → (f : Firing) → Contains (map (λ r. r.0) xs) f → UpTo (tag_of_firing x.0) (tag_of_firing f)
least_firing x xs bound f c =
    let m = mem_from_map (λ (r : Reverse Firing). r.0) xs f (contains_mem f (map (λ r. r.0) xs) c) in
    let l = ge_from_not_lt m.0.0.time x.0.time (not_less (nat_cmp m.0.0.time x.0.time) (nat_cmp m.0.0.timer x.0.timer) (each_not_less x m.0 xs bound m.1)) in
    subst (λ (k : Firing). UpTo (tag_of_firing x.0) (tag_of_firing k)) m.2 (up l)
  where
    up : {a b : ℕ} → a ≤ b → UpTo (record { time = a; micro = 0 }) (record { time = b; micro = 0 })
    up l = search arith

-- the first firings of the first timers of a list
module _ (program : Parts) (P : Tag → Type 0) (timers : List ℕ) where
  pub record AreFirstOf (n : ℕ) (fs : List (Reverse Firing)) : Type 0 where
    pub all : (k m : ℕ) → k < n → slice_get timers k ≡ Some m → (f : Reverse Firing) × Mem f fs × (f.0.timer ≡ m)
    pub only : (f : Reverse Firing) → Mem f fs → IsLive program f.0.timer × IsFirstOf program P f.0

  pub none_put : AreFirstOf 0 []
  none_put = record { all = λ k m l e. absurd (omega (arith, l)); only = λ f m. absurd m }

  pub one_put : (n : ℕ) (fs : List (Reverse Firing)) (f : Reverse Firing) → AreFirstOf n fs → slice_get timers n ≡ Some f.0.timer → IsLive program f.0.timer → IsFirstOf program P f.0 → AreFirstOf (n + 1) (fs ++ f ∷ [])
  one_put n fs f are at live first = record { all = λ k m l e. all k m l e (dec_lt k n); only = λ x m. only x (mem_cases x fs (f ∷ []) m) }
    where
      all : (k m : ℕ) → k < n + 1 → slice_get timers k ≡ Some m → Dec (k < n) → (x : Reverse Firing) × Mem x (fs ++ f ∷ []) × (x.0.timer ≡ m)
      all k m l e (yes b) = let q = are.all k m b e in (q.0, mem_left q.0 fs (f ∷ []) q.1, q.2)
      all k m l e (no b) = let s : n ≡ k = omega arith in (f, mem_right f fs (f ∷ []) (inl refl), same_at timers n k f.0.timer m at e s)

      only : (x : Reverse Firing) → Mem x fs ⊎ Mem x (f ∷ []) → IsLive program x.0.timer × IsFirstOf program P x.0
      only x (inl m) = are.only x m
      only x (inr (inl e)) = subst (λ (y : Reverse Firing). IsLive program y.0.timer × IsFirstOf program P y.0) e (live, first)
      only x (inr (inr m)) = absurd m

  pub all_put : (n : ℕ) (fs hs : List (Reverse Firing)) → AreFirstOf n fs → length timers ≤ n → ((m : ℕ) → Contains timers m ↔ IsLive program m) → IsPermutation fs hs → AreFirstFirings program P (map (λ r. r.0) hs)
  all_put n fs hs are enough live same = record { all = λ m h l fires p. all m l; only = λ f c. only f c }
    where
      all : (m : ℕ) → IsLive program m → (f : Firing) × Contains (map (λ r. r.0) hs) f × (f.timer ≡ m)
      all m l =
          let k = at_contains timers m ((live m).1 l) in
          let b : k.0 < length timers = slice_get_within timers k.0 m k.1 in
          let q = are.all k.0 m (omega arith) k.1 in
          let c = Contains-permutation fs hs q.0 same (mem_contains q.0 fs q.1) in
          (q.0.0, mem_contains q.0.0 (map (λ r. r.0) hs) (mem_map (λ (r : Reverse Firing). r.0) q.0 hs (contains_mem q.0 hs c)), q.2)

      only : (f : Firing) → Contains (map (λ r. r.0) hs) f → IsLive program f.timer × IsFirstOf program P f
      only f c =
          let m = mem_from_map (λ (r : Reverse Firing). r.0) hs f (contains_mem f (map (λ r. r.0) hs) c) in
          let back = Contains-permutation hs fs m.0 (IsPermutation-sym fs hs same) (mem_contains m.0 hs m.1) in
          subst (λ (k : Firing). IsLive program k.timer × IsFirstOf program P k) m.2 (are.only m.0 (contains_mem m.0 fs back))

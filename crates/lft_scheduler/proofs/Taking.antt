-- Firings are taken one by one, and the first ones after the tag come in their place.
use Rattle.std.proofs.Common.{◌≡◌, ℕ, ◌<◌, ◌⊎◌, inl, inr, List, [], ◌∷◌, Bool, cond, refl, sym, ap, ◌∙◌, subst, arith, Contains}
use Rattle.std.{specs.List.Sorted.IsPermutation, proofs.lemmas.List.Sorted.{Contains-permutation, IsPermutation-sym, sum_by_popped, sum_by_pushed}}
use Rattle.lft_tag.{specs.{declared.Tag.Tag, Tags.{Before, UpTo, is_before}}, proofs.Order.{Before-weaken, UpTo-refl, UpTo_antisym, UpTo-not}}
use Rattle.lft_ir.specs.{Parts.Parts, declared.parts.Trigger.TheVariants.Timer}
use Rattle.lft_lists.proofs.Members.{Mem, mem_contains, contains_mem}
use Rattle.lft_model.specs.Presence.{Fires}
use Rattle.lft_scheduler.specs.inner.{Listeners.{IsListener, IsLive}, Turns.TurnParts, Telling.{IsTold, FiresAt}}
use Rattle.lft_scheduler.specs.inner.Firings.{tag_of_firing, IsFirstOf, AreFirstFirings, IsMoved, how_many_until}
use Rattle.lft_scheduler.specs.declared.firings.Firing.{Firing}
use Rattle.lft_scheduler.proofs.{ToldTurns.{told_none, told_as, told_more}, LedFirings.live_fires, FirstFirings.{first_up_to, first_after}}
use Rattle.lft_queue.proofs.Tests.{test_before, not_before}

-- what was taken out was there
pub was : (f : Firing) (old rest : List Firing) → IsPermutation old (f ∷ rest) → Contains old f
was f old rest out = Contains-permutation (f ∷ rest) old f (IsPermutation-sym old (f ∷ rest) out) (mem_contains f (f ∷ rest) (inl refl))

module _ (program : Parts) (g : Tag) where
  -- one for a firing that isn't after the tag
  abbrev until : Firing → ℕ
  until f = cond (is_before g (tag_of_firing f)) 0 1

  one_until : (f : Firing) → UpTo (tag_of_firing f) g → until f ≡ 1
  one_until f u = ap (λ (t : Bool). let n : ℕ = cond t 0 1 in n) (not_before g (tag_of_firing f) (UpTo-not (tag_of_firing f) g u))

  none_until : (f : Firing) → Before g (tag_of_firing f) → until f ≡ 0
  none_until f b = ap (λ (t : Bool). cond t 0 1) (test_before g (tag_of_firing f) b)

  -- a firing that isn't after the tag was taken out
  module _ (f : Firing) (old rest : List Firing) (out : IsPermutation old (f ∷ rest)) (u : UpTo (tag_of_firing f) g) where
    stays : (k : Firing) → Contains old k → Contains rest k ⊎ (k.timer ≡ f.timer)
    stays k c = go (contains_mem k (f ∷ rest) (Contains-permutation old (f ∷ rest) k out c))
      where
        go : (f ≡ k) ⊎ Mem k rest → Contains rest k ⊎ (k.timer ≡ f.timer)
        go (inl e) = inr (ap (λ (x : Firing). x.timer) (sym e))
        go (inr m) = inl (mem_contains k rest m)

    back : (k : Firing) → Contains rest k → Contains old k
    back k c = Contains-permutation (f ∷ rest) old k (IsPermutation-sym old (f ∷ rest) out) (mem_contains k (f ∷ rest) (inr (contains_mem k rest c)))

    less : how_many_until g rest < how_many_until g old
    less = let e = sum_by_popped until f old rest out in let k = one_until f u in omega arith

    -- and the timer doesn't fire again
    pub moved_out : ((h : Tag) → FiresAt program h f.timer → Before g h → ⊥) → IsMoved program g f.timer old rest
    moved_out never = record { there = (f, was f old rest out, refl, u); kept = stays; only = λ k c. inl (back k c); next = λ h fires b. absurd (never h fires b); fewer = less }

    -- and the timer's first one after the tag was put in
    pub moved_on : (next : Firing) (new : List Firing) → IsPermutation (next ∷ rest) new → next.timer ≡ f.timer → IsFirstOf program (λ h. Before g h) next → IsMoved program g f.timer old new
    moved_on next new put same first = record {
      there = (f, was f old rest out, refl, u);
      kept = λ k c. kept k (stays k c);
      only = λ k c. only k (contains_mem k (next ∷ rest) (Contains-permutation new (next ∷ rest) k (IsPermutation-sym (next ∷ rest) new put) c));
      next = λ h fires b. (next, there, same);
      fewer = (let e = sum_by_pushed until next rest new put in let k = none_until next first.2.holds in let l = less in omega arith);
    }
      where
        there : Contains new next
        there = Contains-permutation (next ∷ rest) new next put (mem_contains next (next ∷ rest) (inl refl))

        kept : (k : Firing) → Contains rest k ⊎ (k.timer ≡ f.timer) → Contains new k ⊎ (k.timer ≡ f.timer)
        kept k (inl c) = inl (Contains-permutation (next ∷ rest) new k put (mem_contains k (next ∷ rest) (inr (contains_mem k rest c))))
        kept k (inr e) = inr e

        only : (k : Firing) → (next ≡ k) ⊎ Mem k rest → Contains old k ⊎ ((k.timer ≡ f.timer) × IsFirstOf program (λ h. Before g h) k)
        only k (inl e) = inr (subst (λ (x : Firing). (x.timer ≡ f.timer) × IsFirstOf program (λ h. Before g h) x) e (same, first))
        only k (inr m) = inl (back k (mem_contains k rest m))

  -- some timers that fire at the tag have been taken, and what is kept are the others' firings at the tag, and first ones after it
  pub record AreTaken (taken : List ℕ) (fs : List Firing) : Type 0 where
    pub fired : (n : ℕ) → Mem n taken → FiresAt program g n
    pub left : (n : ℕ) → IsLive program n → FiresAt program g n → Mem n taken ⊎ ((f : Firing) × Contains fs f × (f.timer ≡ n) × UpTo (tag_of_firing f) g)
    pub all : (n : ℕ) (h : Tag) → IsLive program n → FiresAt program h n → Before g h → (f : Firing) × Contains fs f × (f.timer ≡ n)
    pub only : (f : Firing) → Contains fs f → IsLive program f.timer × (IsFirstOf program (λ h. UpTo g h) f ⊎ IsFirstOf program (λ h. Before g h) f)

  pub none_taken : (fs : List Firing) → AreFirstFirings program (λ h. UpTo g h) fs → AreTaken [] fs
  none_taken fs are = record {
    fired = λ n m. absurd m;
    left = λ n live fires. inr (let k = are.all n g live fires (UpTo-refl g) in (k.0, k.1, k.2, first_up_to program (λ h. UpTo g h) k.0 n g (are.only k.0 k.1).1 k.2 fires (UpTo-refl g)));
    all = λ n h live fires b. are.all n h live fires (Before-weaken g h b);
    only = λ f c. (let o = are.only f c in (o.0, inl o.1));
  }

  module _ (taken : List ℕ) (n : ℕ) (old new : List Firing) (are : AreTaken taken old) (moved : IsMoved program g n old new) where
    abbrev f : Firing
    f = moved.there.0

    now : IsFirstOf program (λ h. UpTo g h) f ⊎ IsFirstOf program (λ h. Before g h) f → FiresAt program g n
    now (inl first) = subst (λ (m : ℕ). FiresAt program g m) moved.there.2 (first.0, first.1, subst (λ (h : Tag). Fires first.0 h) (UpTo_antisym (tag_of_firing f) g moved.there.3 first.2.holds) first.2.fires)
    now (inr first) = absurd (UpTo-not (tag_of_firing f) g moved.there.3 first.2.holds)

    -- one more is taken
    pub taken_more : AreTaken (n ∷ taken) new
    taken_more = record { fired = fired; left = λ m live fires. left m (are.left m live fires); all = λ m h live fires b. all m h fires b (are.all m h live fires b); only = λ k c. only k (moved.only k c) }
      where
        fired : (m : ℕ) → (n ≡ m) ⊎ Mem m taken → FiresAt program g m
        fired m (inl e) = subst (λ (k : ℕ). FiresAt program g k) e (now (are.only f moved.there.1).1)
        fired m (inr p) = are.fired m p

        left : (m : ℕ) → Mem m taken ⊎ ((k : Firing) × Contains old k × (k.timer ≡ m) × UpTo (tag_of_firing k) g) → ((n ≡ m) ⊎ Mem m taken) ⊎ ((k : Firing) × Contains new k × (k.timer ≡ m) × UpTo (tag_of_firing k) g)
        left m (inl p) = inl (inr p)
        left m (inr q) = go (moved.kept q.0 q.1)
          where
            go : Contains new q.0 ⊎ (q.0.timer ≡ n) → ((n ≡ m) ⊎ Mem m taken) ⊎ ((k : Firing) × Contains new k × (k.timer ≡ m) × UpTo (tag_of_firing k) g)
            go (inl c) = inr (q.0, c, q.2, q.3)
            go (inr e) = inl (inl (sym e ∙ q.2))

        all : (m : ℕ) (h : Tag) → FiresAt program h m → Before g h → (k : Firing) × Contains old k × (k.timer ≡ m) → (k : Firing) × Contains new k × (k.timer ≡ m)
        all m h fires b q = go (moved.kept q.0 q.1)
          where
            go : Contains new q.0 ⊎ (q.0.timer ≡ n) → (k : Firing) × Contains new k × (k.timer ≡ m)
            go (inl c) = (q.0, c, q.2)
            go (inr e) = subst (λ (i : ℕ). (k : Firing) × Contains new k × (k.timer ≡ i)) (sym e ∙ q.2) (moved.next h (subst (λ (i : ℕ). FiresAt program h i) (sym q.2 ∙ e) fires) b)

        only : (k : Firing) → Contains old k ⊎ ((k.timer ≡ n) × IsFirstOf program (λ h. Before g h) k) → IsLive program k.timer × (IsFirstOf program (λ h. UpTo g h) k ⊎ IsFirstOf program (λ h. Before g h) k)
        only k (inl c) = are.only k c
        only k (inr q) = (subst (λ (i : ℕ). IsLive program i) (moved.there.2 ∙ sym q.0) (are.only f moved.there.1).0, inr q.1)

  -- where none is left that isn't after the tag, the first ones after it are kept
  module _ (taken : List ℕ) (fs : List Firing) (are : AreTaken taken fs) (over : (f : Firing) → Contains fs f → Before g (tag_of_firing f)) where
    pub all_taken : AreFirstFirings program (λ h. Before g h) fs
    all_taken = record { all = are.all; only = λ f c. ((are.only f c).0, go f (over f c) (are.only f c).1) }
      where
        go : (f : Firing) → Before g (tag_of_firing f) → IsFirstOf program (λ h. UpTo g h) f ⊎ IsFirstOf program (λ h. Before g h) f → IsFirstOf program (λ h. Before g h) f
        go f b (inl first) = first_after program g f first b
        go f b (inr first) = first

    left_taken : (n : ℕ) → Mem n taken ⊎ ((f : Firing) × Contains fs f × (f.timer ≡ n) × UpTo (tag_of_firing f) g) → Mem n taken
    left_taken n (inl m) = m
    left_taken n (inr q) = absurd (UpTo-not (tag_of_firing q.0) g q.3 (over q.0 q.1))

    pub told_taken : (a b : TurnParts) → IsTold (λ r. (n : ℕ) × Mem n taken × IsListener program (Timer n) r) a b → IsTold (λ r. (n : ℕ) × FiresAt program g n × IsListener program (Timer n) r) a b
    told_taken a b = told_as (λ r. (n : ℕ) × Mem n taken × IsListener program (Timer n) r) (λ r. (n : ℕ) × FiresAt program g n × IsListener program (Timer n) r) a b (λ r q. (q.0, are.fired q.0 q.1, q.2)) (λ r q. (let l = live_fires program g r q.0 q.1 q.2 in (l.0, left_taken l.0 (are.left l.0 l.1 l.3), l.2)))

-- nobody is told as long as none is taken, and then those that listen to one more timer
pub told_at_first : (program : Parts) (a : TurnParts) → IsTold (λ r. (n : ℕ) × Mem n [] × IsListener program (Timer n) r) a a
told_at_first program a = told_none (λ r. (n : ℕ) × Mem n [] × IsListener program (Timer n) r) a (λ r q. q.1)

pub told_one_timer : (program : Parts) (taken : List ℕ) (n : ℕ) (a b c : TurnParts) → IsTold (λ r. (m : ℕ) × Mem m taken × IsListener program (Timer m) r) a b → IsTold (λ r. IsListener program (Timer n) r) b c → IsTold (λ r. (m : ℕ) × Mem m (n ∷ taken) × IsListener program (Timer m) r) a c
told_one_timer program taken n a b c one two = told_as (λ r. ((m : ℕ) × Mem m taken × IsListener program (Timer m) r) ⊎ IsListener program (Timer n) r) (λ r. (m : ℕ) × Mem m (n ∷ taken) × IsListener program (Timer m) r) a c to from (told_more (λ r. (m : ℕ) × Mem m taken × IsListener program (Timer m) r) (λ r. IsListener program (Timer n) r) a b c one two)
  where
    to : (r : ℕ) → ((m : ℕ) × Mem m taken × IsListener program (Timer m) r) ⊎ IsListener program (Timer n) r → (m : ℕ) × Mem m (n ∷ taken) × IsListener program (Timer m) r
    to r (inl q) = (q.0, inr q.1, q.2)
    to r (inr l) = (n, inl refl, l)

    from : (r : ℕ) → (m : ℕ) × Mem m (n ∷ taken) × IsListener program (Timer m) r → ((m : ℕ) × Mem m taken × IsListener program (Timer m) r) ⊎ IsListener program (Timer n) r
    from r q = go q.0 q.1 q.2
      where
        go : (m : ℕ) → (n ≡ m) ⊎ Mem m taken → IsListener program (Timer m) r → ((k : ℕ) × Mem k taken × IsListener program (Timer k) r) ⊎ IsListener program (Timer n) r
        go m (inl e) l = inr (subst (λ (k : ℕ). IsListener program (Timer k) r) (sym e) l)
        go m (inr p) l = inl (m, p, l)

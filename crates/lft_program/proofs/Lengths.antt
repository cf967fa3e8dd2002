-- The delays of a chain of connections against those of its port's sources.
use Rattle.std.proofs.Common.{◌≡◌, ℕ, ◌+◌, ◌<◌, ◌≤◌, ◌⊎◌, inl, inr, List, [], ◌∷◌, ◌++◌, refl, sym, ap, ◌∙◌, subst, arith, Option, Some, slice_get, option_to_list, sum, append_assoc, Any}
use Rattle.std.proofs.lemmas.{List.Sums.sum_by-cons, Option.slice_get_within}
use Rattle.lft_lists.proofs.Places.{get_there}
use Rattle.lft_tree.specs.Tree.{FileTree, reactors_of}
use Rattle.lft_tag.specs.{Shifts.{join_all, none}, declared.{Shift.Shift, Source.Source}}
use Rattle.lft_resolve.specs.{inner.Expansion.Sources.{ChainOrigin, itself, over, IsFolded, IsReached, AreReached}, declared.expansion.origins.Reached.Reached}
use Rattle.lft_resolve.specs.{Causes.{DelayTooLong, HasLongChain, HasLongTime}, Instances.{Thing, Chain, Connects, one as one_step, more as more_steps}}
use Rattle.lft_resolve.proofs.ExpansionLemmas.Folding.{time_sum}
use Rattle.lft_program.{specs.inner.Linking.IsTooLong, proofs.Connected.{NoLongTime, TreeSources}}

sum_append : (xs ys : List ℕ) → sum (xs ++ ys) ≡ sum xs + sum ys
sum_append [] ys = omega arith
sum_append (x ∷ xs) ys = let a = sum_append xs ys in let e : sum (x ∷ xs) ≡ x + sum xs = sum_by-cons (λ z. z) x xs in let f : sum (x ∷ (xs ++ ys)) ≡ x + sum (xs ++ ys) = sum_by-cons (λ z. z) x (xs ++ ys) in omega arith

module _ (tree : FileTree) (ports : List Thing) (sources : List (Option Source)) (w : TreeSources tree ports sources) (short : NoLongTime tree) where
  -- the delays of a port's sources are those of a chain of connections, if there are any
  chain_from : (p o : ℕ) (t : Thing) (ds : List ℕ) → ChainOrigin sources p o ds → slice_get ports p ≡ Some t → (ds ≡ []) ⊎ ((a : Thing) × Chain tree a t ds)
  chain_from p o t ds (itself e) f = inl refl
  chain_from p o t ds (over source first e rest d) f = by (chain_from source.port o j.0 first rest j.2)
    where
      j : (from : Thing) × (delay : Option ℕ) × (slice_get ports source.port ≡ Some from) × Connects tree from t delay × (NoLongTime tree → delay ≡ source.delay)
      j = w.joined p t source f e

      delay : option_to_list j.1 ≡ option_to_list source.delay
      delay = ap option_to_list (j.4 short)

      by : (first ≡ []) ⊎ ((a : Thing) × Chain tree a j.0 first) → (ds ≡ []) ⊎ ((a : Thing) × Chain tree a t ds)
      by (inl none) = inr (j.0, one_step j.1 j.3 (d ∙ ap (λ l. l ++ option_to_list source.delay) none ∙ sym delay))
      by (inr c) = inr (c.0, more_steps first j.1 c.1 j.3 (d ∙ ap (λ l. first ++ l) (sym delay)))

  -- the last delay of a port's sources is that of its source
  pub last_of : (p o : ℕ) (s : Source) (all : List ℕ) → slice_get sources p ≡ Some (Some s) → ChainOrigin sources p o all → (first : List ℕ) × ChainOrigin sources s.port o first × (all ≡ first ++ option_to_list s.delay)
  last_of p o s all e (itself f) = absurd (cc)
  last_of p o s all e (over source first f rest d) =
      let z : source ≡ s = (let y : Some (Some source) ≡ Some (Some s) = sym f ∙ e in cc) in
      (first, subst (λ (x : Source). ChainOrigin sources x.port o first) z rest, d ∙ ap (λ (x : Source). first ++ option_to_list x.delay) z)

  -- a chain of connections into a port is a part of the chain of its sources
  pub part_of : (a t : Thing) (ds : List ℕ) → Chain tree a t ds → (p : ℕ) × (slice_get ports p ≡ Some t) × ((o : ℕ) (all : List ℕ) → ChainOrigin sources p o all → (before : List ℕ) × (all ≡ before ++ ds))
  part_of a t ds (one_step d c e) =
      let j = w.complete a t d c in
      (j.0, j.2, λ o all r. let l = last_of j.0 o j.1 all j.3 r in (l.0, l.2 ∙ ap (λ x. l.0 ++ x) (sym (ap option_to_list (j.5 short)) ∙ sym e)))
  part_of a t ds (more_steps {b = b} first d rest c e) =
      let j = w.complete b t d c in
      let r = part_of a b first rest in
      let same : j.1.port ≡ r.0 = w.distinct j.1.port r.0 b j.4 r.1 in (
        j.0,
        j.2,
        λ o all g.
            let l = last_of j.0 o j.1 all j.3 g in
            let m = r.2 o l.0 (subst (λ k. ChainOrigin sources k o l.0) same l.1) in
            (m.0, l.2 ∙ ap (λ x. x ++ option_to_list j.1.delay) m.1 ∙ append_assoc m.0 first (option_to_list j.1.delay) ∙ ap (λ x. m.0 ++ x) (ap (λ x. first ++ x) (sym (ap option_to_list (j.5 short))) ∙ sym e)),
      )

  -- a chain of sources that is too long is one of connections
  pub long_is_cause : (all : List Reached) → AreReached sources all → (p : ℕ) → IsTooLong all p → DelayTooLong tree
  unfolding DelayTooLong
  long_is_cause all reached p (r, e, no_shift) = inr (by (chain_from p r.origin t.0 i.delays i.origin t.1))
    where
      i : IsReached sources p r
      i = reached.each p r e

      t : (t : Thing) × (slice_get ports p ≡ Some t)
      t = get_there ports p (let l = slice_get_within all p r e in let s = reached.as_long in let u = w.as_long in omega arith)

      long : 1000000000000000000 < sum i.delays
      long = subst (IsFolded i.delays) no_shift i.folded

      by : (i.delays ≡ []) ⊎ ((a : Thing) × Chain tree a t.0 i.delays) → HasLongChain tree
      by (inl nothing) = absurd (let z : sum i.delays ≡ 0 = ap sum nothing in let l : 1000000000000000000 < sum i.delays = long in omega arith)
      by (inr c) = (c.0, t.0, i.delays, c.1, long)

  -- where no chain of sources is, none of connections is
  pub no_long_no_cause : (all : List Reached) → AreReached sources all → ((p : ℕ) (r : Reached) → slice_get all p ≡ Some r → (s : Shift) × (r.shift ≡ Some s)) → DelayTooLong tree → ⊥
  unfolding DelayTooLong
  no_long_no_cause all reached folded (inl time) = short time
  no_long_no_cause all reached folded (inr (a, t, ds, chain, long)) = let limit : s.0.time ≤ 1000000000000000000 = s.0.in_time in absurd (omega (arith, whole, time))
    where
      p : (p : ℕ) × (slice_get ports p ≡ Some t) × ((o : ℕ) (all : List ℕ) → ChainOrigin sources p o all → (before : List ℕ) × (all ≡ before ++ ds))
      p = part_of a t ds chain

      r : (r : Reached) × (slice_get all p.0 ≡ Some r)
      r = get_there all p.0 (let l = slice_get_within ports p.0 t p.1 in let s = reached.as_long in let u = w.as_long in omega arith)

      i : IsReached sources p.0 r.0
      i = reached.each p.0 r.0 r.1

      s : (s : Shift) × (r.0.shift ≡ Some s)
      s = folded p.0 r.0 r.1

      part : (before : List ℕ) × (i.delays ≡ before ++ ds)
      part = p.2 r.0.origin i.delays i.origin

      whole : sum i.delays ≡ sum part.0 + sum ds
      whole = ap sum part.1 ∙ sum_append part.0 ds

      fold : join_all none i.delays ≡ (s.0.time, s.0.steps)
      fold = subst (IsFolded i.delays) s.1 i.folded

      time : s.0.time ≡ 0 + sum i.delays
      time = sym (ap (λ x. x.0) fold) ∙ time_sum none i.delays

-- a time that is too long is the cause
pub time_is_cause : (tree : FileTree) → Any HasLongTime (reactors_of tree) → DelayTooLong tree
unfolding DelayTooLong
time_is_cause tree long = inl long

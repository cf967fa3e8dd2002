-- What each instance of a tree is: an instance of a reactor of the file, whose parameters have no value past the greatest time.
use Rattle.std.proofs.Common.{◌≡◌, ℕ, suc, ◌<◌, ◌≤◌, inl, inr, ⊎_elim, Bool, true, false, cond, List, [], ◌∷◌, ◌++◌, map, flat_map, find, slice_get, Option, Some, None, option_to_list, Any, refl, subst, arith}
use Rattle.std.{specs.{Option.option_and_then, Str.bytes_eq}, proofs.lemmas.Bool.cases_lt}
use Rattle.lft_lists.proofs.{Places.Some_same, Mapped.{mapped, mapped_from}}
use Rattle.lft_tree.specs.Tree.{FileTree, ReactorTree, ParameterTree, AssignmentTree, InstanceTree, TimeTree, Written, Named, nanoseconds, reactors_of, instances_of, timers_of, actions_of, connections_of}
use Rattle.lft_resolve.specs.{Expansion.Paths.along, Causes.{HasLongTime, IsLongTime, longest}}
use Rattle.lft_resolve.specs.Instances.{Inside, is_called, value_of, time_in, given_or_default, given_in, entered, main_of, main_instance}
use Rattle.lft_resolve.specs.Kinds.{times_in, timer_times}
use Rattle.lft_resolve.proofs.{Effects.Any-flat, Somes.{Any-left, Any-right, Any-head}, Twice.Any-at}
use Rattle.lft_program.{specs.{Located.{Located, AreLocated}, Flattening.time_or_zero}, proofs.Entering.entered_by}

-- what is found stands in the list, and passes
find_in : {X : Type 0} (p : X → Bool) (xs : List X) (x : X) → find p xs ≡ Some x → (k : ℕ) × (slice_get xs k ≡ Some x) × (p x ≡ true)
find_in p [] x e = absurd (cc)
find_in {X} p (y ∷ xs) x e = by (p y) refl (λ f. find_in p xs x f) e
  where
    by : (b : Bool) → p y ≡ b → (find p xs ≡ Some x → (k : ℕ) × (slice_get xs k ≡ Some x) × (p x ≡ true)) → cond b (Some y) (find p xs) ≡ Some x → (k : ℕ) × (slice_get (y ∷ xs) k ≡ Some x) × (p x ≡ true)
    by true is go e = (0, e, subst (λ w. p w ≡ true) (Some_same y x e) is)
    by false is go e = let r = go e in (suc r.0, r.1, r.2)

-- what holds of the root, and of each next one, holds of all
along_keeps : {X : Type 0} (step : X → ℕ → Option X) (P : X → Type 0) → ((x : X) (k : ℕ) (y : X) → P x → step x k ≡ Some y → P y) → (x : X) (path : List ℕ) (y : X) → P x → along step x path ≡ Some y → P y
along_keeps step P next x [] y p e = subst P (Some_same x y e) p
along_keeps {X} step P next x (k ∷ path) y p e = by (step x k) refl (λ z q f. along_keeps step P next z path y q f) e
  where
    by : (o : Option X) → step x k ≡ o → ((z : X) → P z → along step z path ≡ Some y → P y) → option_and_then (λ z. along step z path) o ≡ Some y → P y
    by None is go e = absurd (cc)
    by (Some z) is go e = go z (next x k z p is) e

-- ---- times

no_more : (n : ℕ) → (longest < n → ⊥) → n ≤ 1000000000000000000
no_more n none = ⊎_elim (λ more. absurd (none more)) (λ few. few) (cases_lt 1000000000000000000 n)

module _ (r : ReactorTree) where
  abbrev timers_part : List TimeTree
  timers_part = flat_map timer_times (timers_of r)

  abbrev actions_part : List TimeTree
  actions_part = flat_map (λ a. option_to_list a.min_delay) (actions_of r)

  abbrev given_part : List TimeTree
  given_part = flat_map (λ i. map (λ a. a.value) i.given) (instances_of r)

  abbrev delays_part : List TimeTree
  delays_part = flat_map (λ c. option_to_list c.delay) (connections_of r)

  pub in_timers : Any IsLongTime timers_part → Any IsLongTime (times_in r)
  in_timers a = Any-left IsLongTime ((timers_part ++ actions_part) ++ given_part) delays_part (Any-left IsLongTime (timers_part ++ actions_part) given_part (Any-left IsLongTime timers_part actions_part a))

  pub in_actions : Any IsLongTime actions_part → Any IsLongTime (times_in r)
  in_actions a = Any-left IsLongTime ((timers_part ++ actions_part) ++ given_part) delays_part (Any-left IsLongTime (timers_part ++ actions_part) given_part (Any-right IsLongTime timers_part actions_part a))

  in_given : Any IsLongTime given_part → Any IsLongTime (times_in r)
  in_given a = Any-left IsLongTime ((timers_part ++ actions_part) ++ given_part) delays_part (Any-right IsLongTime (timers_part ++ actions_part) given_part a)

-- no value is past the greatest time
abbrev pub AreShort : List ℕ → Type 0
AreShort values = (k v : ℕ) → slice_get values k ≡ Some v → v ≤ 1000000000000000000

value_short : (ps : List ParameterTree) (values : List ℕ) (name : List ℕ) → AreShort values → value_of ps values name ≤ 1000000000000000000
value_short [] values name short = omega arith
value_short (p ∷ ps) [] name short = omega arith
value_short (p ∷ ps) (v ∷ vs) name short = by (bytes_eq name p.name) (value_short ps vs name (λ k w at. short (suc k) w at))
  where
    by : (b : Bool) → value_of ps vs name ≤ 1000000000000000000 → cond b v (value_of ps vs name) ≤ 1000000000000000000
    by true rest = short 0 v refl
    by false rest = rest

pub time_short : (x : Inside) (t : TimeTree) → AreShort x.values → (IsLongTime t → ⊥) → time_in x t ≤ 1000000000000000000
time_short x (Written t) short none = no_more (nanoseconds t) none
time_short x (Named name) short none = value_short x.reactor.parameters x.values name short

-- ---- all instances

module _ (tree : FileTree) (in_time : Any HasLongTime (reactors_of tree) → ⊥) where
  -- an instance of a reactor of the file, with such values
  pub record IsUsual (x : Inside) : Type 0 where
    pub number : ℕ
    pub reactor : slice_get (reactors_of tree) number ≡ Some x.reactor
    pub short : AreShort x.values

  pub no_long : (k : ℕ) (r : ReactorTree) → slice_get (reactors_of tree) k ≡ Some r → HasLongTime r → ⊥
  no_long k r at long = in_time (Any-at HasLongTime (reactors_of tree) k r at long)

  default_short : (k : ℕ) (r : ReactorTree) → slice_get (reactors_of tree) k ≡ Some r → (n : ℕ) (p : ParameterTree) → slice_get r.parameters n ≡ Some p → nanoseconds p.default ≤ 1000000000000000000
  default_short k r at n p there = no_more (nanoseconds p.default) (λ more. no_long k r at (inl (Any-at (λ q. longest < nanoseconds q.default) r.parameters n p there more)))

  main_usual : (main : ReactorTree) → main_of tree ≡ Some main → IsUsual (main_instance main)
  main_usual main is =
      let at = find_in (λ r. r.is_main) (reactors_of tree) main is in
      record {
        number = at.0;
        reactor = at.1;
        short = λ k v there. (let p = mapped_from (λ p. nanoseconds p.default) main.parameters k v there in subst (λ n. n ≤ 1000000000000000000) p.2 (default_short at.0 main at.1 k p.0 p.1));
      }

  given_short : (x : Inside) → IsUsual x → (k : ℕ) (i : InstanceTree) → slice_get (instances_of x.reactor) k ≡ Some i → (p : ParameterTree) → nanoseconds p.default ≤ 1000000000000000000 → given_in x i.given p ≤ 1000000000000000000
  given_short x usual k i at p default = by (find (λ a. bytes_eq p.name a.name) i.given) refl
    where
      by : (o : Option AssignmentTree) → find (λ a. bytes_eq p.name a.name) i.given ≡ o → given_or_default x p o ≤ 1000000000000000000
      by None is = default
      by (Some a) is =
          let f = find_in (λ a. bytes_eq p.name a.name) i.given a is in
          time_short x a.value usual.short
          (λ long. no_long usual.number x.reactor usual.reactor
          (inr (in_given x.reactor (Any-flat IsLongTime (λ i. map (λ a. a.value) i.given) (instances_of x.reactor) k i at (Any-at IsLongTime (map (λ a. a.value) i.given) f.0 a.value (mapped (λ a. a.value) i.given f.0 a f.1) long)))))

  entered_usual : (x : Inside) (k : ℕ) (y : Inside) → IsUsual x → entered tree x k ≡ Some y → IsUsual y
  entered_usual x k y usual e =
      let n = entered_by tree x k y e in
      let at = find_in (λ r. is_called n.i.reactor r.name) (reactors_of tree) n.r n.is_reactor in
      subst IsUsual n.is_made
      (record {
        number = at.0;
        reactor = at.1;
        short = λ j v there. (let p = mapped_from (given_in x n.i.given) n.r.parameters j v there in subst (λ m. m ≤ 1000000000000000000) p.2 (given_short x usual k n.i n.is_instance p.0 (default_short at.0 n.r at.1 j p.0 p.1)));
      })

  pub all_usual : (instances : List Located) → AreLocated tree instances → (n : ℕ) (l : Located) → slice_get instances n ≡ Some l → IsUsual l.inside
  all_usual instances are n l at = along_keeps (entered tree) IsUsual entered_usual (main_instance are.main) l.path l.inside (main_usual are.main are.is_main) (are.inside n l at)

  -- so a time of an instance isn't past it either
  pub option_short : (x : Inside) → IsUsual x → (o : Option TimeTree) → (Any IsLongTime (option_to_list o) → Any IsLongTime (times_in x.reactor)) → time_or_zero x o ≤ 1000000000000000000
  option_short x usual None among = omega arith
  option_short x usual (Some t) among = time_short x t usual.short (λ long. no_long usual.number x.reactor usual.reactor (inr (among (Any-head IsLongTime t [] long))))

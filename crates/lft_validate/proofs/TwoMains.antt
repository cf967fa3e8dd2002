-- Main reactors, by their places: none, or two.
use Rattle.std.proofs.Common.{◌≡◌, ℕ, zero, suc, ◌<◌, Bool, true, false, cond, List, [], ◌∷◌, length, map, refl, ap, arith}
use Rattle.lft_tree.specs.{View.reactor_view, declared.tree.Reactor.Reactor}
use Rattle.lft_resolve.specs.Causes.{NoMain, TwoMains, mains}
use Rattle.lft_validate.specs.inner.Members.{IsMainAt}

a_main : (rs : List Reactor) → 0 < length (mains (map reactor_view rs)) → (i : ℕ) × IsMainAt rs i
a_main [] some = absurd (omega arith)
a_main (r ∷ rs) some = by r.is_main refl some (λ s. a_main rs s)
  where
    by : (b : Bool) → r.is_main ≡ b → 0 < length (cond b (reactor_view r ∷ mains (map reactor_view rs)) (mains (map reactor_view rs))) → (0 < length (mains (map reactor_view rs)) → (i : ℕ) × IsMainAt rs i) → (i : ℕ) × IsMainAt (r ∷ rs) i
    by true e some go = (zero, e)
    by false e some go = let rest = go some in (suc rest.0, rest.1)

two : (rs : List Reactor) → 1 < length (mains (map reactor_view rs)) → (i : ℕ) × (j : ℕ) × (i < j) × IsMainAt rs i × IsMainAt rs j
two [] some = absurd (omega arith)
two (r ∷ rs) some = by r.is_main refl some (λ s. two rs s)
  where
    by : (b : Bool) → r.is_main ≡ b → 1 < length (cond b (reactor_view r ∷ mains (map reactor_view rs)) (mains (map reactor_view rs))) → (1 < length (mains (map reactor_view rs)) → (i : ℕ) × (j : ℕ) × (i < j) × IsMainAt rs i × IsMainAt rs j) → (i : ℕ) × (j : ℕ) × (i < j) × IsMainAt (r ∷ rs) i × IsMainAt (r ∷ rs) j
    by true e some go = let rest = a_main rs (omega arith) in (zero, suc rest.0, omega arith, e, rest.1)
    by false e some go = let (i, j, lt, first, second) = go some in (suc i, suc j, omega arith, first, second)

pub two_mains : (rs : List Reactor) → TwoMains (map reactor_view rs) → (i : ℕ) × (j : ℕ) × (i < j) × IsMainAt rs i × IsMainAt rs j
unfolding TwoMains
two_mains rs more = two rs more

one_main : (rs : List Reactor) (i : ℕ) → IsMainAt rs i → 0 < length (mains (map reactor_view rs))
one_main [] i a = absurd a
one_main (r ∷ rs) zero a = by r.is_main a
  where
    by : (b : Bool) → b ≡ true → 0 < length (cond b (reactor_view r ∷ mains (map reactor_view rs)) (mains (map reactor_view rs)))
    by true e = omega arith
    by false e = absurd (cc)
one_main (r ∷ rs) (suc i) a = by r.is_main (one_main rs i a)
  where
    by : (b : Bool) → 0 < length (mains (map reactor_view rs)) → 0 < length (cond b (reactor_view r ∷ mains (map reactor_view rs)) (mains (map reactor_view rs)))
    by true some = omega arith
    by false some = some

-- ---- none

pub some_main : (rs : List Reactor) (i : ℕ) → IsMainAt rs i → NoMain (map reactor_view rs) → ⊥
unfolding NoMain
some_main rs i a none = let some = one_main rs i a in let empty : length (mains (map reactor_view rs)) ≡ 0 = ap length none in absurd (omega (arith, some, empty))

none_of : (rs : List Reactor) → ((k : ℕ) → IsMainAt rs k → ⊥) → mains (map reactor_view rs) ≡ []
none_of [] none = refl
none_of (r ∷ rs) none = by r.is_main refl (none_of rs (λ k a. none (suc k) a))
  where
    by : (b : Bool) → r.is_main ≡ b → mains (map reactor_view rs) ≡ [] → cond b (reactor_view r ∷ mains (map reactor_view rs)) (mains (map reactor_view rs)) ≡ []
    by true e rest = absurd (none zero e)
    by false e rest = rest

pub none_main : (rs : List Reactor) → ((k : ℕ) → IsMainAt rs k → ⊥) → NoMain (map reactor_view rs)
unfolding NoMain
none_main rs none = none_of rs none

-- ---- two

both : (rs : List Reactor) (i j : ℕ) → i < j → IsMainAt rs i → IsMainAt rs j → 1 < length (mains (map reactor_view rs))
both [] i j lt first second = absurd first
both (r ∷ rs) i zero lt first second = absurd (omega arith)
both (r ∷ rs) zero (suc j) lt first second = by r.is_main first (one_main rs j second)
  where
    by : (b : Bool) → b ≡ true → 0 < length (mains (map reactor_view rs)) → 1 < length (cond b (reactor_view r ∷ mains (map reactor_view rs)) (mains (map reactor_view rs)))
    by true e some = omega (arith, some)
    by false e some = absurd (cc)
both (r ∷ rs) (suc i) (suc j) lt first second = by r.is_main (both rs i j (omega arith) first second)
  where
    by : (b : Bool) → 1 < length (mains (map reactor_view rs)) → 1 < length (cond b (reactor_view r ∷ mains (map reactor_view rs)) (mains (map reactor_view rs)))
    by true more = omega (arith, more)
    by false more = more

pub both_main : (rs : List Reactor) (i j : ℕ) → i < j → IsMainAt rs i → IsMainAt rs j → TwoMains (map reactor_view rs)
unfolding TwoMains
both_main rs i j lt first second = both rs i j lt first second

-- Names that a reactor declares twice, by kind and in the order of the text.
use Rattle.std.proofs.Common.{◌≡◌, ℕ, zero, suc, ◌+◌, ◌<◌, ◌≤◌, Bool, true, false, cond, List, [], ◌∷◌, ◌++◌, map, filter_map, slice_get, string_bytes, Some, bytes_eq, refl, sym, ap, subst, arith}
use Rattle.std.proofs.lemmas.{Slice.Eq.bytes_eq-Decides, List.map-append}
use Rattle.lft_tree.specs.{Tree.{port_in, timer_in, action_in, instance_in}, View.{member_view, parameter_view, reactor_view}}
use Rattle.lft_tree.specs.declared.tree.{Member.Member, Parameter.Parameter, Reactor.Reactor}
use Rattle.lft_resolve.specs.{Causes.IsTwice, Kinds.names_in}
use Rattle.lft_validate.specs.Members.{declared, declarations}
use Rattle.lft_tree.specs.declared.tree.Member.TheVariants as members

-- how often the name stands in the list
abbrev times : List ℕ → List (List ℕ) → ℕ
times q [] = 0
times q (x ∷ xs) = cond (bytes_eq q x) 1 0 + times q xs

times-append : (q : List ℕ) (xs ys : List (List ℕ)) → times q (xs ++ ys) ≡ times q xs + times q ys
times-append q [] ys = omega arith
times-append q (x ∷ xs) ys = let rest = times-append q xs ys in omega (arith, rest)

abbrev found : Bool → ℕ
found b = cond b 1 0

here : (q x : List ℕ) → q ≡ x → found (bytes_eq q x) ≡ 1
here q x e = ap found ((bytes_eq-Decides q x).1 e)

once_at : (q : List ℕ) (xs : List (List ℕ)) (i : ℕ) → slice_get xs i ≡ Some q → 1 ≤ times q xs
once_at q [] i at = absurd (cc)
once_at q (x ∷ xs) zero at = let e = here q x (let f : x ≡ q = cc in sym f) in omega (arith, e)
once_at q (x ∷ xs) (suc i) at = let rest = once_at q xs i at in omega (arith, rest)

twice_at : (q : List ℕ) (xs : List (List ℕ)) (i j : ℕ) → i < j → slice_get xs i ≡ Some q → slice_get xs j ≡ Some q → 2 ≤ times q xs
twice_at q [] i j lt first second = absurd (cc)
twice_at q (x ∷ xs) i zero lt first second = absurd (omega arith)
twice_at q (x ∷ xs) zero (suc j) lt first second = let e = here q x (let f : x ≡ q = cc in sym f) in let rest = once_at q xs j second in omega (arith, e, rest)
twice_at q (x ∷ xs) (suc i) (suc j) lt first second = let rest = twice_at q xs i j (omega arith) first second in omega (arith, rest)

at_once : (q : List ℕ) (xs : List (List ℕ)) → 1 ≤ times q xs → (i : ℕ) × (slice_get xs i ≡ Some q)
at_once q [] some = absurd (omega arith)
at_once q (x ∷ xs) some = by (bytes_eq q x) refl some (λ r. at_once q xs r)
  where
    by : (b : Bool) → bytes_eq q x ≡ b → 1 ≤ cond b 1 0 + times q xs → (1 ≤ times q xs → (i : ℕ) × (slice_get xs i ≡ Some q)) → (i : ℕ) × (slice_get (x ∷ xs) i ≡ Some q)
    by true e some go = (zero, ap Some (sym ((bytes_eq-Decides q x).0 e)))
    by false e some go = let rest = go (omega arith) in (suc rest.0, rest.1)

at_twice : (q : List ℕ) (xs : List (List ℕ)) → 2 ≤ times q xs → IsTwice xs
at_twice q [] some = absurd (omega arith)
at_twice q (x ∷ xs) some = by (bytes_eq q x) refl some (λ r. at_twice q xs r)
  where
    by : (b : Bool) → bytes_eq q x ≡ b → 2 ≤ cond b 1 0 + times q xs → (2 ≤ times q xs → IsTwice xs) → IsTwice (x ∷ xs)
    by true e some go = let rest = at_once q xs (omega arith) in (zero, suc rest.0, q, omega arith, ap Some (sym ((bytes_eq-Decides q x).0 e)), rest.1)
    by false e some go = let (i, j, y, lt, first, second) = go (omega arith) in (suc i, suc j, y, omega arith, first, second)

-- the names of the parameters, with their tokens or without
parameters : (ps : List Parameter) → map (λ x. x.name) (map parameter_view ps) ≡ map (λ (p : List ℕ × ℕ). p.0) (map (λ p. (string_bytes p.name, p.at)) ps)
parameters [] = refl
parameters (p ∷ ps) = ap (λ l. string_bytes p.name ∷ l) (parameters ps)

-- the names that the reactor declares, in the order of the text
abbrev pub names : Reactor → List (List ℕ)
names r = map (λ (p : List ℕ × ℕ). p.0) (declarations r)

-- the names of members of each kind are as many as those of all members
module _ (q : List ℕ) where
  abbrev ports : List Member → ℕ
  ports ms = times q (map (λ x. x.name) (filter_map port_in (map member_view ms)))

  abbrev timers : List Member → ℕ
  timers ms = times q (map (λ x. x.name) (filter_map timer_in (map member_view ms)))

  abbrev actions : List Member → ℕ
  actions ms = times q (map (λ x. x.name) (filter_map action_in (map member_view ms)))

  abbrev instances : List Member → ℕ
  instances ms = times q (map (λ x. x.name) (filter_map instance_in (map member_view ms)))

  as_many : (ms : List Member) → ports ms + timers ms + actions ms + instances ms ≡ times q (map (λ (p : List ℕ × ℕ). p.0) (filter_map declared ms))
  as_many [] = refl
  as_many (members.Port x ∷ ms) = let rest = as_many ms in omega (arith, rest)
  as_many (members.Timer x ∷ ms) = let rest = as_many ms in omega (arith, rest)
  as_many (members.Action x ∷ ms) = let rest = as_many ms in omega (arith, rest)
  as_many (members.Instance x ∷ ms) = let rest = as_many ms in omega (arith, rest)
  as_many (members.State x ∷ ms) = as_many ms
  as_many (members.Preamble x ∷ ms) = as_many ms
  as_many (members.Reaction x ∷ ms) = as_many ms
  as_many (members.Connection x ∷ ms) = as_many ms

  same_times : (r : Reactor) → times q (names_in (reactor_view r)) ≡ times q (names r)
  same_times r =
      let ms = r.members.items in
      let trees = map member_view ms in
      let tokened : List (List ℕ × ℕ) = map (λ p. (string_bytes p.name, p.at)) r.parameters.items in
      let ps = map (λ x. x.name) (map parameter_view r.parameters.items) in
      let a = map (λ x. x.name) (filter_map port_in trees) in
      let b = map (λ x. x.name) (filter_map timer_in trees) in
      let d = map (λ x. x.name) (filter_map action_in trees) in
      let e = map (λ x. x.name) (filter_map instance_in trees) in
      let qs = map (λ (p : List ℕ × ℕ). p.0) tokened in
      let rest = map (λ (p : List ℕ × ℕ). p.0) (filter_map declared ms) in
      let all : times q (names r) ≡ times q (qs ++ rest) = ap (times q) (map-append (λ (p : List ℕ × ℕ). p.0) tokened (filter_map declared ms)) in
      let same : times q ps ≡ times q qs = ap (times q) (parameters r.parameters.items) in
      omega (arith, times-append q (ps ++ a ++ b ++ d) e, times-append q (ps ++ a ++ b) d, times-append q (ps ++ a) b, times-append q ps a, times-append q qs rest, all, same, as_many ms)

-- what a reactor declares twice, it declares twice in the order of the text
pub declared_twice : (r : Reactor) → IsTwice (names_in (reactor_view r)) → IsTwice (names r)
declared_twice r (i, j, q, lt, first, second) = at_twice q (names r) (subst (λ n. 2 ≤ n) (same_times q r) (twice_at q (names_in (reactor_view r)) i j lt first second))

pub named_twice : (r : Reactor) → IsTwice (names r) → IsTwice (names_in (reactor_view r))
named_twice r (i, j, q, lt, first, second) = at_twice q (names_in (reactor_view r)) (subst (λ n. 2 ≤ n) (sym (same_times q r)) (twice_at q (names r) i j lt first second))

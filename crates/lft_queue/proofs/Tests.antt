-- The tests of names and tags.
use Rattle.std.proofs.Common.{◌≡◌, ℕ, zero, suc, ◌+◌, ◌⊎◌, inl, inr, ◌<◌, refl, ap, arith, Bool, true, false, ◌&&◌, ◌||◌, ◌==◌, ltb, eqb-true, eq-eqb, ne_eqb}
use Rattle.std.proofs.lemmas.Bool.{ltb-true, Decides.nat_tests}
use Rattle.lft_tag.specs.{declared.Tag.Tag, Tags.{Before, UpTo, same_tag, is_before}, Shifts.{Folded, shifted}}
use Rattle.lft_tag.proofs.{Order.{order_cases, UpTo_antisym}, Chains.tag_of}

-- a tag is none of the later ones
pub tag_apart : (g h : Tag) → Before g h → same_tag g h ≡ false
tag_apart g h (inl l) = let a : (g.time == h.time) ≡ false = ne_eqb g.time h.time (λ e. absurd (omega arith)) in rw a refl
tag_apart g h (inr p) = let a : (g.time == h.time) ≡ true = eq-eqb g.time h.time p.0 in let b : (g.micro == h.micro) ≡ false = ne_eqb g.micro h.micro (λ e. (let l : g.micro < h.micro = p.1 in omega arith)) in rw (a, b) refl

pub test_before : (g h : Tag) → Before g h → is_before g h ≡ true
test_before g h (inl l) = let a : ltb g.time h.time ≡ true = grind (arith, nat_tests) in rw a refl
test_before g h (inr p) =
    let e : g.time ≡ h.time = p.0 in
    let l : g.micro < h.micro = p.1 in
    let a : ltb g.time h.time ≡ false = grind (arith, nat_tests) in
    let b : (g.time == h.time) ≡ true = eq-eqb g.time h.time p.0 in
    let c : ltb g.micro h.micro ≡ true = grind (arith, nat_tests) in
    rw (a, b, c) refl

pub before_test : (g h : Tag) → is_before g h ≡ true → Before g h
before_test g h e = by_time (ltb g.time h.time) refl e
  where
    by_micro : (b c : Bool) → (g.time == h.time) ≡ b → ltb g.micro h.micro ≡ c → b && c ≡ true → Before g h
    by_micro true true p q f = inr (eqb-true g.time h.time p, ltb-true g.micro h.micro q)
    by_micro true false p q f = absurd (cc)
    by_micro false c p q f = absurd (cc)

    by_time : (b : Bool) → ltb g.time h.time ≡ b → b || ((g.time == h.time) && ltb g.micro h.micro) ≡ true → Before g h
    by_time true p f = inl (ltb-true g.time h.time p)
    by_time false p f = by_micro (g.time == h.time) (ltb g.micro h.micro) refl refl f

pub not_before : (g h : Tag) → ¬ Before g h → is_before g h ≡ false
not_before g h n = go (is_before g h) refl
  where
    go : (b : Bool) → is_before g h ≡ b → is_before g h ≡ false
    go true e = absurd (n (before_test g h e))
    go false e = e

-- a later tag that isn't the same
pub past : (g h : Tag) → UpTo g h → ¬ (g ≡ h) → Before g h
past g h u n = go (order_cases g h)
  where
    go : Before g h ⊎ UpTo h g → Before g h
    go (inl b) = b
    go (inr v) = absurd (n (UpTo_antisym g h u v))

-- a shift leads two tags to one where it takes time and they are of one time, and only there
pub together : (g h : Tag) (s : Folded) → shifted g s ≡ shifted h s → ¬ (g ≡ h) → (0 < s.0) × (g.time ≡ h.time)
together g h s same apart = go s.0 s.1 same
  where
    go : (d n : ℕ) → shifted g (d, n) ≡ shifted h (d, n) → (0 < d) × (g.time ≡ h.time)
    go zero n e = absurd (apart (tag_of (ap (λ (k : Tag). k.time) e) (let z : g.micro + n ≡ h.micro + n = ap (λ (k : Tag). k.micro) e in let y : g.micro ≡ h.micro = omega arith in y)))
    go (suc d) n e = (omega arith, (let z : g.time + suc d ≡ h.time + suc d = ap (λ (k : Tag). k.time) e in omega arith))

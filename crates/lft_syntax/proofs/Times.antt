-- Times, and names in their places.
use Rattle.std.proofs.Common.{◌≡◌, ℕ, ◌+◌, ◌≤◌, Bool, true, false, List, length, Option, Some, None, Ok, Err, refl, sym, ap, subst, ◌∙◌, arith, cond, eqb, inl, inr}
use Rattle.std.specs.Prelude.{slice_get, codes}
use Rattle.std.proofs.lemmas.{Bool.{eqb-true, eq-eqb}, Option.slice_get_within}
use Rattle.lft_syntax.proofs.{Options.{some, some_is}, Begun.{Agree, Regular, begun_second, both_regular, begun_as, as_regular, begun_left, or_regular}}
use Rattle.lft_syntax.proofs.Algebra.{Follow, Horizon, near, Known, Refused, Outcome, Right, Any, Starts, right_token, starts_token, starts_one, same-true, pair}
use Rattle.lft_syntax.proofs.Rules.{near_looks, making, this_one, Here, starts_and, starts_made, starts_or, starts_by, choose, ended, right_name, right_number}
use Rattle.lft_syntax.proofs.Lookahead.{far, Ends, far_looks, far_two, ends_unit, ends_follower, starts_name, named}
use Rattle.lft_syntax.specs.Lexeme.{Lexeme, Letters, Number, Symbol, is_name, same, name_in, number_in, unit_in, unit_of}
use Rattle.lft_syntax.specs.inner.Tests.{is_number, is_follower}
use Rattle.lft_syntax.specs.inner.Reading.{◌>>=◌, seen_at, token_at, time_from, time_at, delay_at, ptime_at, pdelay_at, is_open}
use Rattle.lft_syntax.specs.{Language.{look, this, one, ◌&◌, made}, Grammar.{name, number, unit, time, ptime, counted, zero_time}}
use Rattle.lft_tree.specs.{declared.tree.TimeUnit.TimeUnit, Tree.{Written, Named}}
use Rattle.lft_tree.specs.declared.tree.TimeUnit.TheVariants as units

-- no unit stands there
abbrev pub NoUnit : Follow
NoUnit vs m = look unit_in (slice_get vs m) ≡ None

zero_is : (w : Lexeme) (x : Unit {0}) → same (Number 0) w ≡ true → number_in w ≡ Some 0
zero_is w x e = let is_w : Number 0 ≡ w = same-true (Number 0) w e in ap number_in (sym is_w)

zero_if : (w : Lexeme) (x : Unit {0}) (b : Bool) → same (Number 0) w ≡ b → cond b (some tt) None ≡ Some x → number_in w ≡ Some 0
zero_if w x true e s = zero_is w x e
zero_if w x false e s = absurd cc

-- the number 0 stands there
zero_there : (o : Option Lexeme) (x : Unit {0}) → look (this (Number 0)) o ≡ Some x → look number_in o ≡ Some 0
zero_there None x e = absurd cc
zero_there (Some w) x e = zero_if w x (same (Number 0) w) refl e

zero_seen : (w : Lexeme) → number_in w ≡ Some 0 → look (this (Number 0)) (Some w) ≡ Some tt
zero_seen (Number n) e = let is_n : n ≡ 0 = cc in rw is_n refl
zero_seen _ e = absurd cc

there_zero : (o : Option Lexeme) → look number_in o ≡ Some 0 → look (this (Number 0)) o ≡ Some tt
there_zero None e = absurd cc
there_zero (Some w) e = zero_seen w e

pub look_within : {A : Type 0} (see : Lexeme → Option A) (ws : List Lexeme) (i : ℕ) (x : A) (o : Option Lexeme) → slice_get ws i ≡ o → look see o ≡ Some x → i + 1 ≤ length ws
look_within see ws i x None e s = absurd cc
look_within see ws i x (Some w) e s = let lt = slice_get_within ws i w e in omega arith

right_unit : Right unit Any near near 1 (token_at unit_in)
unfolding unit_of
right_unit = right_token unit_in (Letters (codes "ms")) units.Millisecond refl

time_regular : Regular time
time_regular = or_regular (as_regular {P = number & unit} counted (λ ws i j x s. (x, s, refl)) (λ ws i j y s. s) (both_regular right_number.regular right_unit.regular))
    (as_regular {P = one (Number 0)} zero_time (λ ws i j x s. (x, s, refl)) (λ ws i j y s. s) (this_one (Number 0)).regular)

module _ (F : Follow) (h : Horizon) (looks : (ws : List Lexeme) (i : ℕ) → i + 1 ≤ h ws i) (ws : List Lexeme) (i n : ℕ) (number_there : look number_in (slice_get ws i) ≡ Some n) where
  pub time_counted : (u : TimeUnit) → look unit_in (slice_get ws (i + 1)) ≡ Some u → i + 1 + 1 ≤ length ws
      → (n ≡ 0 → (vs : List Lexeme) → Agree (h ws (i + 1 + 1)) ws vs → F vs (i + 1) → ⊥) → Known time F near h 1 ws i (counted (n, u)) (i + 1 + 1)
  time_counted u unit_there within clash = record {
    further = omega arith;
    within = within;
    seen = let l = looks ws (i + 1 + 1) in omega arith;
    found = inl ((n, u), (i + 1, (number_there, refl), (unit_there, refl)), refl);
    forced = λ vs m y agree s after.
        let l = looks ws (i + 1 + 1) in
        let same0 = agree i (omega arith) in
        let same1 = agree (i + 1) (omega arith) in
        elim s [
          | inl a ↦
              let next : a.1.0 ≡ i + 1 = a.1.1.1 in
              let m-is : m ≡ a.1.0 + 1 = a.1.2.1 in
              let e0 : a.0.0 ≡ n = some_is _ _ (sym a.1.1.0 ∙ sym (ap (look number_in) same0) ∙ number_there) in
              let e1 : a.0.1 ≡ u = some_is _ _ (sym a.1.2.0 ∙ ap (λ (k : ℕ). look unit_in (slice_get vs k)) next ∙ sym (ap (look unit_in) same1) ∙ unit_there) in
              (sym a.2 ∙ ap counted (pair e0 e1), omega arith)
          | inr b ↦ absurd (clash (some_is _ _ (sym number_there ∙ ap (look number_in) same0 ∙ zero_there (slice_get vs i) b.0 b.1.0)) vs agree (subst (λ (k : ℕ). F vs k) b.1.1 after))
        ];
  }

  pub time_zero : n ≡ 0 → i + 1 ≤ length ws → ((vs : List Lexeme) (u : TimeUnit) → Agree (h ws (i + 1)) ws vs → look unit_in (slice_get vs (i + 1)) ≡ Some u → F vs (i + 1 + 1) → ⊥)
      → Known time F near h 1 ws i (zero_time tt) (i + 1)
  time_zero n-is within clash = record {
    further = omega arith;
    within = within;
    seen = let l = looks ws (i + 1) in omega arith;
    found = inr (tt, (there_zero (slice_get ws i) (rw (← n-is) number_there), refl), refl);
    forced = λ vs m y agree s after.
        elim s [
          | inl a ↦
              let next : a.1.0 ≡ i + 1 = a.1.1.1 in
              let m-is : m ≡ i + 1 + 1 = a.1.2.1 ∙ ap (λ (k : ℕ). k + 1) next in
              absurd (clash vs a.0.1 agree (subst (λ (k : ℕ). look unit_in (slice_get vs k) ≡ Some a.0.1) next a.1.2.0) (subst (λ (k : ℕ). F vs k) m-is after))
          | inr b ↦ (sym b.2, b.1.1)
        ];
  }

  pub time_none : look unit_in (slice_get ws (i + 1)) ≡ None → (n ≡ 0 → ⊥) → Refused time F near ws i (i + 1)
  time_none absent positive =
      let le = look_within number_in ws i n (slice_get ws i) refl number_there in
      record {
        seen = omega arith;
        within = le;
        begun = begun_left (begun_as {P = number & unit} counted (λ us s t x found. (x, found, refl)) (begun_second right_number.regular right_unit.regular n (number_there, refl) (right_unit.regular.word ws (i + 1) le)));
        none = λ vs m y agree s after.
            let same0 = agree i (omega arith) in
            let same1 = agree (i + 1) (omega arith) in
            elim s [
              | inl a ↦
                  let e : look unit_in (slice_get vs (i + 1)) ≡ Some a.0.1 = subst (λ (k : ℕ). look unit_in (slice_get vs k) ≡ Some a.0.1) a.1.1.1 a.1.2.0 in
                  let f : look unit_in (slice_get ws (i + 1)) ≡ look unit_in (slice_get vs (i + 1)) = ap (look unit_in) same1 in
                  cc (e, f, absent)
              | inr b ↦ positive (some_is _ _ (sym number_there ∙ ap (look number_in) same0 ∙ zero_there (slice_get vs i) b.0 b.1.0))
            ];
      }

-- ---- where no name may stand after a time

time_ends : (ws : List Lexeme) (i n : ℕ) → look number_in (slice_get ws i) ≡ Some n → look unit_in (slice_get ws (i + 1)) ≡ None → (b : Bool) → eqb n 0 ≡ b
    → Outcome time NoUnit near near 1 ws i (cond b (Ok (zero_time tt, i + 1)) (Err (i + 1)))
time_ends ws i n num absent true e = time_zero NoUnit near near_looks ws i n num (eqb-true n 0 e) (look_within number_in ws i n (slice_get ws i) refl num)
    (λ vs u agree there after. let same1 = agree (i + 1) (omega arith) in let f : look unit_in (slice_get ws (i + 1)) ≡ look unit_in (slice_get vs (i + 1)) = ap (look unit_in) same1 in cc (f, there, absent))
time_ends ws i n num absent false e = time_none NoUnit near near_looks ws i n num absent (λ zero. let t = eq-eqb n 0 zero in cc (t, e))

time_unit : (ws : List Lexeme) (i n : ℕ) → look number_in (slice_get ws i) ≡ Some n → (o : Option TimeUnit) → look unit_in (slice_get ws (i + 1)) ≡ o
    → Outcome time NoUnit near near 1 ws i (time_from n (i + 1) o)
time_unit ws i n num (Some u) e = time_counted NoUnit near near_looks ws i n num u e (look_within unit_in ws (i + 1) u (slice_get ws (i + 1)) refl e)
    (λ zero vs agree after. let same1 = agree (i + 1) (omega arith) in let f : look unit_in (slice_get ws (i + 1)) ≡ look unit_in (slice_get vs (i + 1)) = ap (look unit_in) same1 in cc (f, after, e))
time_unit ws i n num None e = time_ends ws i n num e (eqb n 0) refl

pub no_number : (F : Follow) (ws : List Lexeme) (i : ℕ) → i ≤ length ws → look number_in (slice_get ws i) ≡ None → Refused time F near ws i i
no_number F ws i le absent = record {
  seen = omega arith;
  within = le;
  begun = time_regular.word ws i le;
  none = λ vs m y agree s after.
      let same0 = agree i (omega arith) in
      let f : look number_in (slice_get ws i) ≡ look number_in (slice_get vs i) = ap (look number_in) same0 in
      elim s [ inl a ↦ cc (f, a.1.1.0, absent) | inr b ↦ let z = zero_there (slice_get vs i) b.0 b.1.0 in cc (f, z, absent) ];
}

time_number : (ws : List Lexeme) (i : ℕ) → i ≤ length ws → (o : Option ℕ) → look number_in (slice_get ws i) ≡ o
    → Outcome time NoUnit near near 1 ws i (seen_at i o >>= λ n. time_from n.0 n.1 (look unit_in (slice_get ws n.1)))
time_number ws i le (Some n) e = time_unit ws i n e (look unit_in (slice_get ws (i + 1))) refl
time_number ws i le None e = no_number NoUnit ws i le e

pub right_time : Right time NoUnit near near 1 time_at
unfolding time_at
right_time = record { regular = time_regular; at = λ ws i le. time_number ws i le (look number_in (slice_get ws i)) refl }

-- ---- the production

pub number_starts : (w : Lexeme) (n : ℕ) → number_in w ≡ Some n → is_number (Some w) ≡ true
number_starts (Number k) n e = refl
number_starts _ n e = absurd cc

pub starts_time : Starts time is_number true
starts_time = starts_or (starts_made counted (starts_and unit (starts_token number_in is_number true number_starts))) (starts_made zero_time (starts_one (Number 0) is_number true refl))

pub here_no_unit : (w : Lexeme) → unit_in w ≡ None → (vs : List Lexeme) (m : ℕ) → Here w vs m → NoUnit vs m
here_no_unit w e vs m h = ap (look unit_in) h ∙ e

-- ---- a time that a member may follow

module _ (ws : List Lexeme) (i n : ℕ) (num : look number_in (slice_get ws i) ≡ Some n) where
  delay_zero : n ≡ 0 → is_name (slice_get ws (i + 1)) ≡ true → is_follower (slice_get ws (i + 1 + 1)) ≡ true → Known time Ends near far 1 ws i (zero_time tt) (i + 1)
  delay_zero n-is named follows = time_zero Ends far far_looks ws i n num n-is (look_within number_in ws i n (slice_get ws i) refl num)
      (λ vs u agree there after.
      let two = far_two ws (i + 1) named follows in
      let same2 = agree (i + 1 + 1) (omega (arith, two)) in
      ends_follower (slice_get vs (i + 1 + 1)) (slice_get vs (i + 1 + 1 + 1)) after (sym (ap is_follower same2) ∙ follows))

  delay_last : look unit_in (slice_get ws (i + 1)) ≡ None → (b : Bool) → eqb n 0 ≡ b → Outcome time Ends near far 1 ws i (cond b (Ok (zero_time tt, i + 1)) (Err (i + 1)))
  delay_last absent true t = time_zero Ends far far_looks ws i n num (eqb-true n 0 t) (look_within number_in ws i n (slice_get ws i) refl num)
      (λ vs u agree there after.
      let l = far_looks ws (i + 1) in
      let same1 = agree (i + 1) (omega arith) in
      let f : look unit_in (slice_get ws (i + 1)) ≡ look unit_in (slice_get vs (i + 1)) = ap (look unit_in) same1 in
      cc (f, there, absent))
  delay_last absent false t = time_none Ends far far_looks ws i n num absent (λ zero. let s = eq-eqb n 0 zero in cc (s, t))

  delay_unit : (n ≡ 0 → is_name (slice_get ws (i + 1)) ≡ true → is_follower (slice_get ws (i + 1 + 1)) ≡ true → ⊥) → (o : Option TimeUnit) → look unit_in (slice_get ws (i + 1)) ≡ o
      → Outcome time Ends near far 1 ws i (time_from n (i + 1) o)
  delay_unit clear (Some u) e = time_counted Ends far far_looks ws i n num u e (look_within unit_in ws (i + 1) u (slice_get ws (i + 1)) refl e)
      (λ zero vs agree after.
      let l = far_looks ws (i + 1 + 1) in
      let same1 = agree (i + 1) (omega arith) in
      let same2 = agree (i + 1 + 1) (omega arith) in
      let two = ends_unit (slice_get vs (i + 1)) (slice_get vs (i + 1 + 1)) u after (sym (ap (look unit_in) same1) ∙ e) in
      clear zero (ap is_name same1 ∙ two.0) (ap is_follower same2 ∙ two.1))
  delay_unit clear None e = delay_last e (eqb n 0) refl

  delay_rest : (z a b : Bool) → eqb n 0 ≡ z → is_name (slice_get ws (i + 1)) ≡ a → is_follower (slice_get ws (i + 1 + 1)) ≡ b
      → Outcome time Ends near far 1 ws i (cond z (cond a (cond b (Ok (zero_time tt, i + 1)) (time_from n (i + 1) (look unit_in (slice_get ws (i + 1))))) (time_from n (i + 1) (look unit_in (slice_get ws (i + 1))))) (time_from n (i + 1) (look unit_in (slice_get ws (i + 1)))))
  delay_rest true true true z a b = delay_zero (eqb-true n 0 z) a b
  delay_rest true true false z a b = delay_unit (λ zero named follows. cc (b, follows)) (look unit_in (slice_get ws (i + 1))) refl
  delay_rest true false c z a b = delay_unit (λ zero named follows. cc (a, named)) (look unit_in (slice_get ws (i + 1))) refl
  delay_rest false d c z a b = delay_unit (λ zero named follows. let s = eq-eqb n 0 zero in cc (s, z)) (look unit_in (slice_get ws (i + 1))) refl

delay_number : (ws : List Lexeme) (i : ℕ) → i ≤ length ws → (o : Option ℕ) → look number_in (slice_get ws i) ≡ o
    → Outcome time Ends near far 1 ws i (seen_at i o >>= λ n. cond (eqb n.0 0) (cond (is_name (slice_get ws n.1)) (cond (is_follower (slice_get ws (n.1 + 1))) (Ok (zero_time tt, n.1)) (time_from n.0 n.1 (look unit_in (slice_get ws n.1)))) (time_from n.0 n.1 (look unit_in (slice_get ws n.1)))) (time_from n.0 n.1 (look unit_in (slice_get ws n.1))))
delay_number ws i le (Some n) e = delay_rest ws i n e (eqb n 0) (is_name (slice_get ws (i + 1))) (is_follower (slice_get ws (i + 1 + 1))) refl refl refl
delay_number ws i le None e = no_number Ends ws i le e

pub right_delay : Right time Ends near far 1 delay_at
unfolding delay_at
right_delay = record { regular = time_regular; at = λ ws i le. delay_number ws i le (look number_in (slice_get ws i)) refl }

-- ---- a time, or the name of a parameter

name_no_number : (w : Lexeme) (x : List ℕ) → name_in w ≡ Some x → is_number (Some w) ≡ false
name_no_number (Letters y) x e = refl
name_no_number _ x e = absurd cc

starts_written : Starts (made Written time) is_number true
starts_written = starts_made Written starts_time

starts_named : Starts (made Named name) is_number false
starts_named = starts_made Named (starts_token name_in is_number false name_no_number)

pub right_ptime : Right ptime NoUnit near near 1 ptime_at
unfolding ptime_at
right_ptime = choose is_number starts_written starts_named (making Written right_time) (ended NoUnit near 1 (λ vs i h. tt) near_looks (omega arith) (making Named right_name))

pub right_pdelay : Right ptime Ends near far 1 pdelay_at
unfolding pdelay_at
right_pdelay = choose is_number starts_written starts_named (making Written right_delay) (ended Ends far 1 (λ vs i h. tt) far_looks (omega arith) (making Named right_name))

number_open : (o : Option Lexeme) → is_number o ≡ true → is_open o ≡ true
number_open (Some (Symbol b)) e = absurd cc
number_open _ e = refl

pub starts_ptime : Starts ptime is_open true
starts_ptime = starts_or (starts_by number_open starts_written) (starts_made Named (named is_open true (λ x. refl) starts_name))

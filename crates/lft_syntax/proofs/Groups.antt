-- Groups: a count of open brackets finds where a balanced group ends.
use Rattle.std.proofs.Common.{◌≡◌, ℕ, zero, suc, ◌+◌, ◌≤◌, ◌<◌, Bool, true, false, List, length, Option, Some, None, Result, Ok, Err, refl, sym, ap, subst, ◌∙◌, arith}
use Rattle.std.specs.Prelude.{slice_get}
use Rattle.std.proofs.lemmas.Option.{slice_get_within}
use Rattle.lft_syntax.proofs.{Options.some, Begun.{Agree, Regular, begun_first, begun_as}, Rules.{and, leads_one, this_one}}
use Rattle.lft_syntax.proofs.Algebra.{near, Known, Refused, Outcome, Right, Any, same-true, same_self, this_self, adapt, same_reading}
use Rattle.lft_syntax.specs.{Lexeme.{Lexeme, same}, Language.{Spelling, look, this, one, ◌&◌, Balanced, nothing, another, nested, group}}
use Rattle.lft_syntax.specs.inner.Reading.{Reading, ◌>>=◌, one_at, both, inside_step, inside_at, group_at}

module _ (opening closing : Lexeme) (apart : opening ≡ closing → ⊥) where
  -- with depth more brackets open than one, the last is closed before j
  data Closes (ws : List Lexeme) : ℕ → ℕ → ℕ → Type 0 where
    last : {i j : ℕ} → slice_get ws i ≡ Some closing → j ≡ i + 1 → Closes ws 0 i j
    out : {d i j : ℕ} → slice_get ws i ≡ Some closing → Closes ws d (i + 1) j → Closes ws (suc d) i j
    deeper : {d i j : ℕ} → slice_get ws i ≡ Some opening → Closes ws (suc d) (i + 1) j → Closes ws d i j
    past : {d i j : ℕ} {w : Lexeme} → slice_get ws i ≡ Some w → (w ≡ opening → ⊥) → (w ≡ closing → ⊥) → Closes ws d (i + 1) j → Closes ws d i j

  closes_forward : (ws : List Lexeme) {d i j : ℕ} → Closes ws d i j → i ≤ j
  closes_forward ws (last at e) = omega (arith, e)
  closes_forward ws (out at more) = let le = closes_forward ws more in omega arith
  closes_forward ws (deeper at more) = let le = closes_forward ws more in omega arith
  closes_forward ws (past at a b more) = let le = closes_forward ws more in omega arith

  closes_local : (ws vs : List Lexeme) {d i j : ℕ} → Agree j ws vs → Closes ws d i j → Closes vs d i j
  closes_local ws vs agree (last {i = i} at e) = last (sym (agree i (omega (arith, e))) ∙ at) e
  closes_local ws vs agree (out {i = i} at more) = out (sym (agree i (let le = closes_forward ws more in omega arith)) ∙ at) (closes_local ws vs agree more)
  closes_local ws vs agree (deeper {i = i} at more) = deeper (sym (agree i (let le = closes_forward ws more in omega arith)) ∙ at) (closes_local ws vs agree more)
  closes_local ws vs agree (past {i = i} at a b more) = past (sym (agree i (let le = closes_forward ws more in omega arith)) ∙ at) a b (closes_local ws vs agree more)

  -- balanced tokens change no count
  closes_after : (ws : List Lexeme) {i m : ℕ} → Balanced opening closing ws i m → (d j : ℕ) → Closes ws d m j → Closes ws d i j
  closes_after ws nothing d j c = c
  closes_after ws (another at a b more) d j c = past at a b (closes_after ws more d j c)
  closes_after ws (nested at inner shut more) d j c = deeper at (closes_after ws inner (suc d) j (out shut (closes_after ws more d j c)))

  -- so many groups end there, one after the other
  Opened : List Lexeme → ℕ → ℕ → ℕ → Type 0
  Opened ws zero i j = (m : ℕ) × Balanced opening closing ws i m × (slice_get ws m ≡ Some closing) × (j ≡ m + 1)
  Opened ws (suc d) i j = (m : ℕ) × Balanced opening closing ws i m × (slice_get ws m ≡ Some closing) × Opened ws d (m + 1) j

  open_before : (ws : List Lexeme) (d i k j : ℕ) → ((m : ℕ) → Balanced opening closing ws k m → Balanced opening closing ws i m) → Opened ws d k j → Opened ws d i j
  unfolding Opened
  open_before ws zero i k j grow o = (o.0, grow o.0 o.1, o.2, o.3)
  open_before ws (suc d) i k j grow o = (o.0, grow o.0 o.1, o.2, o.3)

  open_nested : (ws : List Lexeme) (d i j : ℕ) → slice_get ws i ≡ Some opening → Opened ws (suc d) (i + 1) j → Opened ws d i j
  unfolding Opened
  open_nested ws d i j at o = open_before ws d i (o.0 + 1) j (λ m more. nested at o.1 o.2 more) o.3

  opened : (ws : List Lexeme) {d i j : ℕ} → Closes ws d i j → Opened ws d i j
  unfolding Opened
  opened ws (last {i = i} at e) = (i, nothing, at, e)
  opened ws (out {d = d} {i = i} {j = j} at more) = (i, nothing, at, opened ws more)
  opened ws (deeper {d = d} {i = i} {j = j} at more) = open_nested ws d i j at (opened ws more)
  opened ws (past {d = d} {i = i} {j = j} at a b more) = open_before ws d i (i + 1) j (λ m inner. another at a b inner) (opened ws more)

  -- what a count does at a token
  at_opening : (ws : List Lexeme) {d i j : ℕ} → Closes ws d i j → slice_get ws i ≡ Some opening → Closes ws (suc d) (i + 1) j
  at_opening ws (last at e) t = absurd (apart (cc (at, t)))
  at_opening ws (out at more) t = absurd (apart (cc (at, t)))
  at_opening ws (deeper at more) t = more
  at_opening ws (past at a b more) t = absurd (a (cc (at, t)))

  at_last : (ws : List Lexeme) {i j : ℕ} → Closes ws zero i j → slice_get ws i ≡ Some closing → j ≡ i + 1
  at_last ws (last at e) t = e
  at_last ws (deeper at more) t = absurd (apart (cc (at, t)))
  at_last ws (past at a b more) t = absurd (b (cc (at, t)))

  at_closing : (ws : List Lexeme) {d i j : ℕ} → Closes ws (suc d) i j → slice_get ws i ≡ Some closing → Closes ws d (i + 1) j
  at_closing ws (out at more) t = more
  at_closing ws (deeper at more) t = absurd (apart (cc (at, t)))
  at_closing ws (past at a b more) t = absurd (b (cc (at, t)))

  at_another : (ws : List Lexeme) {d i j : ℕ} (w : Lexeme) → Closes ws d i j → slice_get ws i ≡ Some w → (w ≡ opening → ⊥) → (w ≡ closing → ⊥) → Closes ws d (i + 1) j
  at_another ws w (last at e) t a b = absurd (b (cc (at, t)))
  at_another ws w (out at more) t a b = absurd (b (cc (at, t)))
  at_another ws w (deeper at more) t a b = absurd (a (cc (at, t)))
  at_another ws w (past at c d more) t a b = more

  at_end : (ws : List Lexeme) {d i j : ℕ} → Closes ws d i j → slice_get ws i ≡ None → ⊥
  at_end ws (last at e) t = cc (at, t)
  at_end ws (out at more) t = cc (at, t)
  at_end ws (deeper at more) t = cc (at, t)
  at_end ws (past at a b more) t = cc (at, t)

  abbrev Closing : ℕ → Spelling (Unit {0})
  Closing d ws i j _ = Closes ws d i j

  closing_regular : (d : ℕ) → Regular (Closing d)
  closing_regular zero = record {
    forward = λ ws i j x c. closes_forward ws c;
    local = λ ws vs i j x agree c. closes_local ws vs agree c;
    word = λ ws i le. begun_as {P = one closing} (λ x. x) (λ us s t x found. last (leads_one closing Any us s t x found tt) found.1) ((this_one closing).regular.word ws i le);
  }
  closing_regular (suc d) = record {
    forward = λ ws i j x c. closes_forward ws c;
    local = λ ws vs i j x agree c. closes_local ws vs agree c;
    word = λ ws i le. begun_as {P = one closing & Closing d} (λ x. tt) (λ us s t x found. out (leads_one closing Any us s found.0 tt found.1 tt) (subst (λ (m : ℕ). Closes us d m t) found.1.1 found.2))
        (begun_first (this_one closing).regular (closing_regular d) ((this_one closing).regular.word ws i le));
  }

  -- one more token
  step : (ws : List Lexeme) (d e i : ℕ) (w : Lexeme) → slice_get ws i ≡ Some w → ((vs : List Lexeme) (j : ℕ) → slice_get vs i ≡ Some w → Closes vs e (i + 1) j → Closes vs d i j)
      → ((vs : List Lexeme) (m : ℕ) → slice_get vs i ≡ Some w → Closes vs d i m → Closes vs e (i + 1) m)
      → (r : Result (Unit {0} × ℕ) ℕ) → Outcome (Closing e) Any near near 1 ws (i + 1) r → Outcome (Closing d) Any near near 1 ws i r
  step ws d e i w at to back (Ok a) k = record {
    further = omega (arith, k.further);
    within = k.within;
    seen = omega (arith, k.further);
    found = to ws a.1 at k.found;
    forced = λ vs m y agree s after. let same0 = agree i (omega (arith, k.further)) in k.forced vs m y agree (back vs m (sym same0 ∙ at) s) after;
  }
  step ws d e i w at to back (Err t) k = record {
    seen = omega (arith, k.seen);
    within = k.within;
    begun =
        let b = k.begun in
        record {
          text = b.text;
          end = b.end;
          value = tt;
          order = omega (arith, b.order);
          past = b.past;
          within = b.within;
          same = b.same;
          spelled = to b.text b.end (sym (b.same i (omega (arith, b.order))) ∙ at) b.spelled;
        };
    none = λ vs m y agree s after. let same0 = agree i (omega (arith, k.seen)) in k.none vs m y agree (back vs m (sym same0 ∙ at) s) after;
  }

  shut_last : (ws : List Lexeme) (i : ℕ) → slice_get ws i ≡ Some closing → Known (Closing 0) Any near near 1 ws i tt (i + 1)
  shut_last ws i at = record {
    further = omega arith;
    within = let lt = slice_get_within ws i closing at in omega arith;
    seen = omega arith;
    found = last at refl;
    forced = λ vs m y agree s after. let same0 = agree i (omega arith) in (refl, at_last vs s (sym same0 ∙ at));
  }

  too_short : (ws : List Lexeme) (d i : ℕ) → i ≤ length ws → slice_get ws i ≡ None → Refused (Closing d) Any near ws i i
  too_short ws d i le at = record { seen = omega arith; within = le; begun = (closing_regular d).word ws i le; none = λ vs m y agree s after. let same0 = agree i (omega arith) in at_end vs s (sym same0 ∙ at) }

  differ : (w v : Lexeme) → same w v ≡ false → (v ≡ w → ⊥)
  differ w v e h = let t = same_self w in cc (ap (same w) h, t, e)

  inside_other : (ws : List Lexeme) (d i : ℕ) (w : Lexeme) (r : Result (Unit {0} × ℕ) ℕ) → slice_get ws i ≡ Some w → same opening w ≡ false → same closing w ≡ false
      → Outcome (Closing d) Any near near 1 ws (i + 1) r → Outcome (Closing d) Any near near 1 ws i r
  inside_other ws d i w r at a b k =
      let not_open = differ opening w a in
      let not_shut = differ closing w b in
      step ws d d i w at (λ vs j t c. past t not_open not_shut c) (λ vs m t c. at_another vs w c t not_open not_shut) r k

  inside_open : (ws : List Lexeme) (d i : ℕ) (w : Lexeme) (r : Result (Unit {0} × ℕ) ℕ) → slice_get ws i ≡ Some w → same opening w ≡ true
      → Outcome (Closing (suc d)) Any near near 1 ws (i + 1) r → Outcome (Closing d) Any near near 1 ws i r
  inside_open ws d i w r at a k =
      let is_open : slice_get ws i ≡ Some opening = at ∙ ap some (sym (same-true opening w a)) in
      step ws d (suc d) i opening is_open (λ vs j t c. deeper t c) (λ vs m t c. at_opening vs c t) r k

  inside_shut : (ws : List Lexeme) (d i : ℕ) (w : Lexeme) (r : Result (Unit {0} × ℕ) ℕ) → slice_get ws i ≡ Some w → same closing w ≡ true
      → Outcome (Closing d) Any near near 1 ws (i + 1) r → Outcome (Closing (suc d)) Any near near 1 ws i r
  inside_shut ws d i w r at a k =
      let is_shut : slice_get ws i ≡ Some closing = at ∙ ap some (sym (same-true closing w a)) in
      step ws (suc d) d i closing is_shut (λ vs j t c. out t c) (λ vs m t c. at_closing vs c t) r k

  inside_case : (ws : List Lexeme) (d i : ℕ) (rest : ℕ → Result (Unit {0} × ℕ) ℕ) (w : Lexeme) (a b : Bool) → slice_get ws i ≡ Some w → same opening w ≡ a → same closing w ≡ b
      → ((e : ℕ) → Outcome (Closing e) Any near near 1 ws (i + 1) (rest e)) → Outcome (Closing d) Any near near 1 ws i (inside_step opening closing d i rest (Some w))
  inside_case ws zero i rest w true b at p q more = rw p (inside_open ws 0 i w (rest 1) at p (more 1))
  inside_case ws zero i rest w false true at p q more = rw (p, q) (shut_last ws i (at ∙ ap some (sym (same-true closing w q))))
  inside_case ws zero i rest w false false at p q more = rw (p, q) (inside_other ws 0 i w (rest 0) at p q (more 0))
  inside_case ws (suc d) i rest w true b at p q more = rw p (inside_open ws (suc d) i w (rest (suc (suc d))) at p (more (suc (suc d))))
  inside_case ws (suc d) i rest w false true at p q more = rw (p, q) (inside_shut ws d i w (rest d) at q (more d))
  inside_case ws (suc d) i rest w false false at p q more = rw (p, q) (inside_other ws (suc d) i w (rest (suc d)) at p q (more (suc d)))

  inside_there : (ws : List Lexeme) (d i : ℕ) → i ≤ length ws → (rest : ℕ → Result (Unit {0} × ℕ) ℕ) (o : Option Lexeme) → slice_get ws i ≡ o
      → ((e : ℕ) → i + 1 ≤ length ws → Outcome (Closing e) Any near near 1 ws (i + 1) (rest e)) → Outcome (Closing d) Any near near 1 ws i (inside_step opening closing d i rest o)
  inside_there ws d i le rest None at more = too_short ws d i le at
  inside_there ws d i le rest (Some w) at more = inside_case ws d i rest w (same opening w) (same closing w) at refl refl (λ e. more e (let lt = slice_get_within ws i w at in omega arith))

  inside_from : (ws : List Lexeme) (n d i : ℕ) → i ≤ length ws → length ws < i + n → Outcome (Closing d) Any near near 1 ws i (inside_at opening closing n d ws i)
  unfolding inside_at
  inside_from ws zero d i le enough = absurd (omega arith)
  inside_from ws (suc n) d i le enough = inside_there ws d i le (λ e. inside_at opening closing n e ws (i + 1)) (slice_get ws i) refl (λ e within. inside_from ws n e (i + 1) within (omega arith))

  begins : (vs : List Lexeme) (i : ℕ) → slice_get vs i ≡ Some opening → look (this opening) (slice_get vs i) ≡ Some tt
  begins vs i e = rw e (this_self opening)

  -- up to the closing bracket that balances one before
  abbrev inside_all : Reading (Unit {0})
  inside_all ws i = inside_at opening closing (suc (length ws)) 0 ws i

  inside_reads : (r : Result (Unit {0} × ℕ) ℕ) → ◌>>=◌ {A = (Unit {0} × Unit {0}) × ℕ} (r >>= λ b. Ok ((tt, b.0), b.1)) (λ a. Ok (tt, a.1)) ≡ r
  inside_reads (Ok b) = refl
  inside_reads (Err k) = refl

  right_inside : Right (Closing 0) Any near near 1 inside_all
  right_inside = record { regular = closing_regular 0; at = λ ws i le. inside_from ws (suc (length ws)) 0 i le (omega arith) }

  to_group : (ws : List Lexeme) (i j : ℕ) (x : Unit {0} × Unit {0}) → (one opening & Closing 0) ws i j x → group opening closing ws i j tt
  unfolding Opened
  to_group ws i j x s =
      let o = opened ws s.2 in
      (o.0, leads_one opening Any ws i s.0 tt s.1 tt, subst (λ (t : ℕ). Balanced opening closing ws t o.0) s.1.1 o.1, o.2, o.3)

  of_group : (ws : List Lexeme) (i j : ℕ) (y : Unit {0}) → group opening closing ws i j y → (x : Unit {0} × Unit {0}) × (one opening & Closing 0) ws i j x × (tt ≡ y)
  of_group ws i j y s = ((tt, tt), (i + 1, (begins ws i s.1, refl), closes_after ws s.2 0 j (last s.3 s.4)), refl)

  group_reads : (ws : List Lexeme) (r : Result (Unit {0} × ℕ) ℕ) → ◌>>=◌ {A = (Unit {0} × Unit {0}) × ℕ} (r >>= λ a. inside_all ws a.1 >>= λ b. Ok ((a.0, b.0), b.1)) (λ a. Ok (tt, a.1)) ≡ (r >>= λ a. inside_all ws a.1)
  group_reads ws (Ok a) = inside_reads (inside_all ws a.1)
  group_reads ws (Err k) = refl

  pub right_group : Right (group opening closing) Any near near 2 (group_at opening closing)
  unfolding group_at
  right_group = same_reading (group_at opening closing) (λ ws i. group_reads ws (one_at opening ws i))
      (adapt (λ x. tt) (one opening & Closing 0) (group opening closing) Any near near 2 to_group of_group (both (one_at opening) inside_all) (and (this_one opening) right_inside))

-- Pairs of causes stand side by side: the search for the first one.
use Rattle.std.proofs.Common.{◌≡◌, ℕ, ◌+◌, ◌<◌, ◌≤◌, ◌⊎◌, inl, inr, List, length, refl, sym, ap, ◌∙◌, subst, arith, Bool, true, false, Some, None, slice_get}
use Rattle.std.proofs.lemmas.Bool.{cases_lt}
use native.Mathlib.Decide.{ℕ_discrete}
use Rattle.lft_tag.specs.{Tags.UpTo, Shifts.{Folded, shifted}}
use Rattle.lft_model.proofs.Places.{slice_get_within}
use Rattle.lft_rows.specs.declared.presence.causes.EventCause.{EventCause}
use Rattle.lft_rows.specs.inner.Presence.{Causes.{tag_of, ComesUpTo, AreAscending, LiesBelow, IsPosition}, Clashes.{Among, IsPair, IsFirstPair}}
use Rattle.lft_rows.proofs.PresenceLemmas.{Positions.{tag_up, same_cause}, Skips.names_up}

pair_names : (b : Bool) (name : ℕ) (x y : EventCause) → IsPair b name x y → (x.name ≡ name) × (y.name ≡ name) × (x.time ≡ y.time)
pair_names true name x y p = (p.0, p.1, p.2)
pair_names false name x y p = (p.0, p.1, p.2)

not_self : (b : Bool) (name : ℕ) (x y : EventCause) → x ≡ y → ¬ IsPair b name x y
not_self true name x y e p = p.3 (ap (λ (z : EventCause). z.micro) e)
not_self false name x y e p = p.4 (ap (λ (z : EventCause). z.place) e)

pair_sym : (b : Bool) (name : ℕ) (x y : EventCause) → IsPair b name x y → IsPair b name y x
pair_sym true name x y p = (p.1, p.0, sym p.2, λ e. p.3 (sym e))
pair_sym false name x y p = (p.1, p.0, sym p.2, sym p.3, λ e. p.4 (sym e))

-- what the order says of two causes of one name
numbers : (x y : EventCause) → ComesUpTo x y → x.name ≡ y.name → (x.time < y.time) ⊎ ((x.time ≡ y.time) × (x.micro ≤ y.micro))
numbers x y (inl l) e = let a : x.name < y.name = l in absurd (omega arith)
numbers x y (inr u) e = tag_up x y u.1

-- no two of the causes up to a place are a pair
abbrev pub NoneTo : List EventCause → Bool → ℕ → ℕ → Type 0
NoneTo causes b name place = (i j : ℕ) (x y : EventCause) → i ≤ place → j ≤ place → slice_get causes i ≡ Some x → slice_get causes j ≡ Some y → ¬ IsPair b name x y

-- from a place on no name is lesser, and no two up to it are a pair
pub record IsScanned (causes : List EventCause) (b : Bool) (name place : ℕ) : Type 0 where
  pub least : (k : ℕ) (c : EventCause) → place ≤ k → slice_get causes k ≡ Some c → name ≤ c.name
  pub none : NoneTo causes b name place
  pub within : place ≤ length causes

pub scan_begins : (causes : List EventCause) (b : Bool) (name n : ℕ) (none : Folded) → IsPosition causes name none (record { time = 0; micro = 0 }) false n → IsScanned causes b name n
scan_begins causes b name n none h = record { least = λ k c l e. no_lesser c (h.rest k c l e) (cases_lt c.name name); none = λ i j x y l m e f p. pair i j x y l m e f p (cases_lt i n) (cases_lt j n); within = h.within }
  where
    no_lesser : (c : EventCause) → ¬ LiesBelow name none (record { time = 0; micro = 0 }) false c → (c.name < name) ⊎ (name ≤ c.name) → name ≤ c.name
    no_lesser c d (inl l) = absurd (d (inl l))
    no_lesser c d (inr l) = l

    lesser : (c : EventCause) → c.name ≡ name → LiesBelow name none (record { time = 0; micro = 0 }) false c → ⊥
    lesser c q (inl l) = let a : c.name < name = l in omega arith
    lesser c q (inr (e, inl (inl l))) = omega arith
    lesser c q (inr (e, inl (inr l))) = let a : (shifted (tag_of c) none).micro < 0 = l.1 in omega arith
    lesser c q (inr (e, inr d)) = let a : false ≡ true = d.0 in absurd (cc)

    pair : (i j : ℕ) (x y : EventCause) → i ≤ n → j ≤ n → slice_get causes i ≡ Some x → slice_get causes j ≡ Some y → IsPair b name x y → (i < n) ⊎ (n ≤ i) → (j < n) ⊎ (n ≤ j) → ⊥
    pair i j x y l m e f p (inl k) d = lesser x (pair_names b name x y p).0 (h.below i x k e)
    pair i j x y l m e f p (inr k) (inl d) = lesser y (pair_names b name x y p).1 (h.below j y d f)
    pair i j x y l m e f p (inr k) (inr d) = not_self b name x y (same_cause causes i j x y (omega arith) e f) p

module _ (causes : List EventCause) (up : AreAscending causes) (b : Bool) (name place : ℕ) (h : IsScanned causes b name place) where
  pub scan_over : length causes ≤ place + 1 → IsFirstPair causes b name None
  scan_over l x y i j p = let m : i.0 < length causes = slice_get_within causes i.0 x i.1 in let n : j.0 < length causes = slice_get_within causes j.0 y j.1 in h.none i.0 j.0 x y (omega arith) (omega arith) i.1 j.1 p

  pub scan_past : (next : EventCause) → slice_get causes (place + 1) ≡ Some next → ¬ (next.name ≡ name) → IsFirstPair causes b name None
  scan_past next is_next n x y i j p = go (cases_lt place i.0) (cases_lt place j.0)
    where
      beyond : (k : ℕ) (c : EventCause) → slice_get causes k ≡ Some c → c.name ≡ name → place < k → ⊥
      beyond k c e q l =
          let m : next.name ≤ c.name = names_up causes up (place + 1) k next c (omega arith) is_next e in
          let d : name ≤ next.name = h.least (place + 1) next (omega arith) is_next in
          n (omega arith)

      go : (place < i.0) ⊎ (i.0 ≤ place) → (place < j.0) ⊎ (j.0 ≤ place) → ⊥
      go (inl l) d = beyond i.0 x i.1 (pair_names b name x y p).0 l
      go (inr l) (inl d) = beyond j.0 y j.1 (pair_names b name x y p).1 d
      go (inr l) (inr d) = h.none i.0 j.0 x y l d i.1 j.1 p

  module _ (here next : EventCause) (is_here : slice_get causes place ≡ Some here) (is_next : slice_get causes (place + 1) ≡ Some next) where
    pub scan_finds : IsPair b name here next → IsFirstPair causes b name (Some next)
    scan_finds p = ((here, (place, is_here), (place + 1, is_next), p), λ x y i j q. go x y i j q (cases_lt place i.0) (cases_lt place j.0))
      where
        later : (k : ℕ) (c : EventCause) → slice_get causes k ≡ Some c → c.name ≡ name → place < k → UpTo (tag_of next) (tag_of c)
        later k c e q l = by (ℕ_discrete (place + 1) k)
          where
            by : Dec (place + 1 ≡ k) → UpTo (tag_of next) (tag_of c)
            by (yes d) = let z : next ≡ c = same_cause causes (place + 1) k next c d is_next e in subst (λ (v : EventCause). UpTo (tag_of next) (tag_of v)) z (inr (refl, omega arith))
            by (no d) = numbers next c (up (place + 1) k next c (omega arith) is_next e) ((pair_names b name here next p).1 ∙ sym q)

        go : (x y : EventCause) (i : Among causes x) (j : Among causes y) → IsPair b name x y → (place < i.0) ⊎ (i.0 ≤ place) → (place < j.0) ⊎ (j.0 ≤ place) → UpTo (tag_of next) (tag_of y) ⊎ UpTo (tag_of next) (tag_of x)
        go x y i j q (inl l) d = inr (later i.0 x i.1 (pair_names b name x y q).0 l)
        go x y i j q (inr l) (inl d) = inl (later j.0 y j.1 (pair_names b name x y q).1 d)
        go x y i j q (inr l) (inr d) = absurd (h.none i.0 j.0 x y l d i.1 j.1 q)

    -- a cause between two of a pair is in a pair with one of them
    between : (x : EventCause) → ComesUpTo x here → IsPair b name x next → ¬ IsPair b name x here → IsPair b name here next
    between x c p n = by b p n
      where
        q : (x.name ≡ name) × (next.name ≡ name) × (x.time ≡ next.time)
        q = pair_names b name x next p

        to_next : ComesUpTo here next
        to_next = up place (place + 1) here next (omega arith) is_here is_next

        name_up : (x y : EventCause) → ComesUpTo x y → x.name ≤ y.name
        name_up x y (inl l) = let a : x.name < y.name = l in omega arith
        name_up x y (inr l) = let a : x.name ≡ y.name = l.0 in omega arith

        here_name : here.name ≡ name
        here_name = let l : x.name ≤ here.name = name_up x here c in let m : here.name ≤ next.name = name_up here next to_next in let d : x.name ≡ name = q.0 in let e : next.name ≡ name = q.1 in omega arith

        low : (x.time < here.time) ⊎ ((x.time ≡ here.time) × (x.micro ≤ here.micro))
        low = numbers x here c (q.0 ∙ sym here_name)

        high : (here.time < next.time) ⊎ ((here.time ≡ next.time) × (here.micro ≤ next.micro))
        high = numbers here next to_next (here_name ∙ sym q.1)

        times : (x.time < here.time) ⊎ ((x.time ≡ here.time) × (x.micro ≤ here.micro)) → (here.time < next.time) ⊎ ((here.time ≡ next.time) × (here.micro ≤ next.micro)) → (x.time ≡ here.time) × (here.time ≡ next.time) × (x.micro ≤ here.micro) × (here.micro ≤ next.micro)
        times (inl l) (inl m) = let e : x.time ≡ next.time = q.2 in absurd (omega arith)
        times (inl l) (inr m) = let e : x.time ≡ next.time = q.2 in let d : here.time ≡ next.time = m.0 in absurd (omega arith)
        times (inr l) (inl m) = let e : x.time ≡ next.time = q.2 in let d : x.time ≡ here.time = l.0 in absurd (omega arith)
        times (inr l) (inr m) = (l.0, m.0, l.1, m.1)

        by : (b : Bool) → IsPair b name x next → ¬ IsPair b name x here → IsPair b name here next
        by true p n = go (ℕ_discrete x.micro here.micro)
          where
            t : (x.time ≡ here.time) × (here.time ≡ next.time) × (x.micro ≤ here.micro) × (here.micro ≤ next.micro)
            t = times low high

            go : Dec (x.micro ≡ here.micro) → IsPair true name here next
            go (yes e) = (here_name, q.1, t.1, λ d. p.3 (e ∙ d))
            go (no d) = absurd (n (q.0, here_name, t.0, d))
        by false p n = go (ℕ_discrete x.place here.place)
          where
            t : (x.time ≡ here.time) × (here.time ≡ next.time) × (x.micro ≤ here.micro) × (here.micro ≤ next.micro)
            t = times low high

            micro : x.micro ≡ here.micro
            micro = let l : x.micro ≤ here.micro = t.2 in let m : here.micro ≤ next.micro = t.3 in let e : x.micro ≡ next.micro = p.3 in omega arith

            go : Dec (x.place ≡ here.place) → IsPair false name here next
            go (yes e) = (here_name, q.1, t.1, sym micro ∙ p.3, λ d. p.4 (e ∙ d))
            go (no d) = absurd (n (q.0, here_name, t.0, micro, d))

    pub scan_goes_on : ¬ IsPair b name here next → IsScanned causes b name (place + 1)
    scan_goes_on n = record { least = λ k c l e. h.least k c (omega arith) e; none = λ i j x y l m e f p. pair i j x y l m e f p (cases_lt place i) (cases_lt place j); within = let l : place + 1 < length causes = slice_get_within causes (place + 1) next is_next in omega arith }
      where
        with_next : (i : ℕ) (x : EventCause) → i ≤ place → slice_get causes i ≡ Some x → IsPair b name x next → ⊥
        with_next i x l e p = go (ℕ_discrete i place)
          where
            go : Dec (i ≡ place) → ⊥
            go (yes q) = n (subst (λ z. IsPair b name z next) (same_cause causes i place x here q e is_here) p)
            go (no d) = n (between x (up i place x here (omega arith) e is_here) p (h.none i place x here l (omega arith) e is_here))

        pair : (i j : ℕ) (x y : EventCause) → i ≤ place + 1 → j ≤ place + 1 → slice_get causes i ≡ Some x → slice_get causes j ≡ Some y → IsPair b name x y → (place < i) ⊎ (i ≤ place) → (place < j) ⊎ (j ≤ place) → ⊥
        pair i j x y l m e f p (inl k) (inl d) = not_self b name x y (same_cause causes i j x y (omega arith) e f) p
        pair i j x y l m e f p (inl k) (inr d) = with_next j y d f (pair_sym b name next y (subst (λ z. IsPair b name z y) (same_cause causes i (place + 1) x next (omega arith) e is_next) p))
        pair i j x y l m e f p (inr k) (inl d) = with_next i x k e (subst (λ z. IsPair b name x z) (same_cause causes j (place + 1) y next (omega arith) f is_next) p)
        pair i j x y l m e f p (inr k) (inr d) = h.none i j x y k d e f p

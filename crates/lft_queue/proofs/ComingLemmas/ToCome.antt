-- The events to come.
use Rattle.std.proofs.Common.{◌≡◌, ℕ, suc, ◌+◌, ◌<◌, ◌⊎◌, inl, inr, List, [], ◌∷◌, ◌++◌, drop, length, refl, sym, ap, ◌∙◌, subst, arith, Option, Some, None, Bool, true, false, cond, ◌&&◌, ◌==◌, eqb-true, eq-eqb, ne_eqb, ⊎_elim, slice_get, slice_index_or, filter_map, option_to_list, Contains}
use Rattle.std.specs.List.{filter, cons_option}
use Rattle.std.proofs.lemmas.{Bool.false≢true, List.{append-nil, Sums.{length-filter, count_by-le-length}}, Option.{none-some, get_or_from_slice_get}}
use Rattle.std.proofs.Math.Seq.{drop-cons}
use native.Mathlib.Decide.{dec_lt}
use Rattle.lft_lists.proofs.{Places.same_at, Members.{Mem, contains_mem, none_nil}}
use Rattle.lft_tag.specs.{declared.Tag.Tag, Tags.{Before, UpTo, same_tag}}
use Rattle.lft_tag.proofs.Order.{order_cases, UpTo-refl, Before-weaken, UpTo-Before, Before-UpTo, Before-trans, Before-irrefl, same_tag_refl, split_up, UpTo-not, same_tag_true}
use Rattle.lft_ir.proofs.{Ranges.slice_get-drop, Naming.name_same}
use Rattle.lft_ir.specs.{declared.{parts.{Value.Value, Name.{Name, TheVariants.{Port, Action}}}, steps.externals.Event.Event}, Naming.same_name}
use Rattle.lft_ir.specs.Steps.Inputs.{InOrder}
use Rattle.lft_model.{specs.Presence.given, proofs.{Steps.both_true, Places.slice_get_within}}
use Rattle.lft_queue.specs.Pending.{Pending, value_of, same_key, is_after, Becomes}
use Rattle.lft_queue.specs.declared.coming.{coming.Coming.Coming, listeners.NameListeners.NameListeners}
use Rattle.lft_queue.specs.inner.Coming.Coming.{given_from, to_come, put_at, AreBrought, AreTaken, IsClear, ArePassed, IsReached, AreOver}
use Rattle.lft_queue.specs.inner.Coming.Listeners.{IsUnheard}
use Rattle.lft_queue.proofs.{Dropping.later_value, Tests.{not_before, tag_apart}}

-- an event of the queue is one at its tag
pub value_there : (h : Tag) (n : Name) (v : Value) (q : List Pending) → value_of h n q ≡ Some v → (e : Pending) × Mem e q × (e.tag ≡ h)
value_there h n v [] z = absurd (cc)
value_there h n v (e ∷ q) z = go (same_key h n e.tag e.name) refl z (λ f. value_there h n v q f)
  where
    go : (b : Bool) → same_key h n e.tag e.name ≡ b → cond b (Some e.value) (value_of h n q) ≡ Some v → (value_of h n q ≡ Some v → (d : Pending) × Mem d q × (d.tag ≡ h)) → (d : Pending) × Mem d (e ∷ q) × (d.tag ≡ h)
    go true s f rest = (e, inl refl, sym (same_tag_true h e.tag (both_true (same_tag h e.tag) (same_name n e.name) s).0))
    go false s f rest = let o = rest f in (o.0, inr o.1, o.2)

-- where one item fails the test, fewer are left
pub filter_fewer : {X : Type 0} (p : X → Bool) (x : X) (xs : List X) → Mem x xs → p x ≡ false → length (filter p xs) < length xs
filter_fewer p x [] m f = absurd m
filter_fewer p x (y ∷ ys) (inl e) f = go (p y) refl
  where
    go : (b : Bool) → p y ≡ b → length (cond b (y ∷ filter p ys) (filter p ys)) < suc (length ys)
    go true t = absurd (false≢true (sym f ∙ ap p (sym e) ∙ t))
    go false t = omega (arith, length-filter p ys, count_by-le-length p ys)
filter_fewer p x (y ∷ ys) (inr m) f = go (p y) (filter_fewer p x ys m f)
  where
    go : (b : Bool) → length (filter p ys) < length ys → length (cond b (y ∷ filter p ys) (filter p ys)) < suc (length ys)
    go true l = omega arith
    go false l = omega arith

-- taking the events up to the tag of one of them out leaves fewer
pub dropped_fewer : (g : Tag) (x : Pending) (q : List Pending) → Mem x q → x.tag ≡ g → length (filter (λ e. is_after g e) q) < length q
dropped_fewer g x q m e = filter_fewer (λ d. is_after g d) x q m (not_before g x.tag (λ b. Before-irrefl g (subst (λ (k : Tag). Before g k) e b)))

-- the queue once the events before g are gone
module _ (listeners : NameListeners) (g : Tag) where
  -- on the way there: those that are gone were of names that trigger nothing
  pub record OnTheWay (old new : List Pending) : Type 0 where
    pub gone : (h : Tag) (n : Name) (v : Value) → Before h g → value_of h n old ≡ Some v → IsUnheard listeners n ⊎ (value_of h n new ≡ Some v)
    pub same : (h : Tag) (n : Name) → UpTo g h → value_of h n new ≡ value_of h n old

  pub none_passed : (q : List Pending) → OnTheWay q q
  none_passed q = record { gone = λ h n v b e. inr e; same = λ h n up. refl }

  pub all_passed : (old new : List Pending) → ((e : Pending) → Mem e new → UpTo g e.tag) → OnTheWay old new → ArePassed listeners g old new
  all_passed old new later way = record { unheard = λ h n v b e. go h n v b (way.gone h n v b e); same = way.same }
    where
      go : (h : Tag) (n : Name) (v : Value) → Before h g → IsUnheard listeners n ⊎ (value_of h n new ≡ Some v) → IsUnheard listeners n
      go h n v b (inl u) = u
      go h n v b (inr e) = let x = value_there h n v new e in absurd (UpTo-not g x.0.tag (later x.0 x.1) (subst (λ (k : Tag). Before k g) (sym x.2) b))

  pub one_passed : (f : Tag) (old mid : List Pending) → Before f g → ((e : Pending) → Mem e mid → UpTo f e.tag) → ((n : Name) → IsUnheard listeners n ⊎ (value_of f n mid ≡ None)) → OnTheWay old mid → OnTheWay old (filter (λ e. is_after f e) mid)
  one_passed f old mid early least unheard way = record {
    gone = λ h n v b e. by h n v (way.gone h n v b e);
    same = λ h n up. later_value f h n (Before-UpTo f g h early up) mid ∙ way.same h n up;
  }
    where
      by : (h : Tag) (n : Name) (v : Value) → IsUnheard listeners n ⊎ (value_of h n mid ≡ Some v) → IsUnheard listeners n ⊎ (value_of h n (filter (λ e. is_after f e) mid) ≡ Some v)
      by h n v (inl u) = inl u
      by h n v (inr e) = go (split_up f h (subst (λ (k : Tag). UpTo f k) x.2 (least x.0 x.1)))
        where
          x : (d : Pending) × Mem d mid × (d.tag ≡ h)
          x = value_there h n v mid e

          here : f ≡ h → IsUnheard listeners n ⊎ (value_of f n mid ≡ None) → IsUnheard listeners n
          here q (inl u) = u
          here q (inr z) = absurd (none-some v (sym z ∙ ap (λ (k : Tag). value_of k n mid) q ∙ e))

          go : Before f h ⊎ (f ≡ h) → IsUnheard listeners n ⊎ (value_of h n (filter (λ d. is_after f d) mid) ≡ Some v)
          go (inl b) = inr (later_value f h n b mid ∙ e)
          go (inr q) = inl (here q (unheard n))

-- the external events from the place on are after g, so none is given up to there
pub none_given : (events : List Event) (place : ℕ) (g h : Tag) (n : Name) → AreBrought events place g → UpTo h g → given_from events place h n ≡ []
none_given events place g h (Port p) brought up = refl
none_given events place g h (Action a) brought up = none_nil (given h a) (drop place events) (λ j x e. none j x e)
  where
    none : (j : ℕ) (x : Event) → slice_get (drop place events) j ≡ Some x → given h a x ≡ None
    none j x e =
        let b : Before g x.tag = brought (place + j) x (omega arith) (sym (slice_get-drop events place j) ∙ e) in
        let f : same_tag h x.tag ≡ false = tag_apart h x.tag (UpTo-Before h g x.tag up b) in
        rw f refl

-- no event is to come that isn't in the queue
pub only_queue : (events : List Event) (coming : Coming) (g h : Tag) (n : Name) → AreBrought events coming.next g → UpTo h g → to_come events coming h n ≡ option_to_list (value_of h n coming.queue)
only_queue events coming g h n brought up = ap (λ (vs : List Value). vs ++ option_to_list (value_of h n coming.queue)) (none_given events coming.next g h n brought up)

-- an event is put
pub put_adds : (events : List Event) (old new : Coming) (g : Tag) (n : Name) (v : Value) → new.next ≡ old.next → value_of g n old.queue ≡ None → Becomes old.queue new.queue g n (Some v) → (h : Tag) (m : Name) → to_come events new h m ≡ to_come events old h m ++ put_at g n v h m
put_adds events old new g n v next none becomes h m = ap (λ (k : ℕ). given_from events k h m ++ option_to_list (value_of h m new.queue)) next ∙ ap (λ (o : Option Value). given_from events old.next h m ++ option_to_list o) (becomes h m) ∙ go (same_key g n h m) refl
  where
    front : List Value
    front = given_from events old.next h m

    go : (b : Bool) → same_key g n h m ≡ b → front ++ option_to_list (cond b (Some v) (value_of h m old.queue)) ≡ (front ++ option_to_list (value_of h m old.queue)) ++ cond b (v ∷ []) []
    go true s =
        let p = both_true (same_tag g h) (same_name n m) s in
        let e : value_of h m old.queue ≡ None = sym (ap (λ (k : Tag). value_of k m old.queue) (same_tag_true g h p.0)) ∙ sym (ap (λ (k : Name). value_of g k old.queue) (name_same n m p.1)) ∙ none in
        sym (ap (λ (o : Option Value). (front ++ option_to_list o) ++ v ∷ []) e ∙ ap (λ (vs : List Value). vs ++ v ∷ []) (append-nil front))
    go false s = sym (append-nil (front ++ option_to_list (value_of h m old.queue)))

-- an event behind the stop is none up to it
pub none_put : (last g : Tag) (n : Name) (v : Value) → Before last g → (values : List Value) (h : Tag) (m : Name) → UpTo h last → values ≡ values ++ put_at g n v h m
none_put last g n v behind values h m up = let apart : same_tag g h ≡ false = go (same_tag g h) refl in sym (ap (λ (b : Bool). values ++ cond (b && same_name n m) (v ∷ []) []) apart ∙ append-nil values)
  where
    go : (b : Bool) → same_tag g h ≡ b → same_tag g h ≡ false
    go false e = e
    go true e = absurd (UpTo-not h last up (subst (λ (k : Tag). Before last k) (same_tag_true g h e) behind))

module _ (events : List Event) (order : InOrder events) (k : ℕ) (x : Event) (is_event : slice_get events k ≡ Some x) where
  -- a later event follows by tag, or by action
  follows : (j : ℕ) (y : Event) → k < j → slice_get events j ≡ Some y → Before x.tag y.tag ⊎ ((x.tag ≡ y.tag) × (x.action < y.action))
  follows j y l e =
      let p : Before (slice_index_or events k x).tag (slice_index_or events j x).tag ⊎ (((slice_index_or events k x).tag ≡ (slice_index_or events j x).tag) × ((slice_index_or events k x).action < (slice_index_or events j x).action)) = order k j x l (slice_get_within events j y e) in
      subst (λ (z : Event). Before z.tag y.tag ⊎ ((z.tag ≡ y.tag) × (z.action < y.action))) (get_or_from_slice_get events k x x is_event) (subst (λ (z : Event). Before (slice_index_or events k x).tag z.tag ⊎ (((slice_index_or events k x).tag ≡ z.tag) × ((slice_index_or events k x).action < z.action))) (get_or_from_slice_get events j y x e) p)

  -- where one is after g, all from there on are
  pub brought_here : (g : Tag) → Before g x.tag → AreBrought events k g
  brought_here g b i y l e = go (dec_lt k i)
    where
      go : Dec (k < i) → Before g y.tag
      go (no n) = let q : k ≡ i = omega arith in subst (λ (z : Event). Before g z.tag) (same_at events k i x y is_event e q) b
      go (yes m) = by (follows i y m e)
        where
          by : Before x.tag y.tag ⊎ ((x.tag ≡ y.tag) × (x.action < y.action)) → Before g y.tag
          by (inl c) = Before-trans g x.tag y.tag b c
          by (inr p) = subst (λ (z : Tag). Before g z) p.0 b

  -- no later one is of its action at its tag
  none_again : filter_map (given x.tag x.action) (drop (suc k) events) ≡ []
  none_again = none_nil (given x.tag x.action) (drop (suc k) events) none
    where
      none : (j : ℕ) (y : Event) → slice_get (drop (suc k) events) j ≡ Some y → given x.tag x.action y ≡ None
      none j y e = go (same_tag x.tag y.tag) (x.action == y.action) refl refl (follows (suc k + j) y (omega arith) (sym (slice_get-drop events (suc k) j) ∙ e))
        where
          go : (b c : Bool) → same_tag x.tag y.tag ≡ b → (x.action == y.action) ≡ c → Before x.tag y.tag ⊎ ((x.tag ≡ y.tag) × (x.action < y.action)) → cond (b && c) (Some y.value) None ≡ None
          go false c s q f = refl
          go true false s q f = refl
          go true true s q (inl b) = absurd (Before-irrefl y.tag (subst (λ (z : Tag). Before z y.tag) (same_tag_true x.tag y.tag s) b))
          go true true s q (inr p) = absurd (let l : x.action < y.action = p.1 in let z : x.action ≡ y.action = eqb-true x.action y.action q in omega arith)

  dropped : drop k events ≡ x ∷ drop (suc k) events
  dropped = drop-cons events k x (slice_get_within events k x is_event) ∙ ap (λ (z : Event). z ∷ drop (suc k) events) (get_or_from_slice_get events k x x is_event)

  -- its event goes from one place to the other
  pub brings : (old : Coming) (queue : List Pending) (i : ℕ) → i ≡ suc k → old.next ≡ k → value_of x.tag (Action x.action) old.queue ≡ None → Becomes old.queue queue x.tag (Action x.action) (Some x.value) → (h : Tag) (n : Name) → given_from events i h n ++ option_to_list (value_of h n queue) ≡ to_come events old h n
  brings old queue i more next none becomes h n = ap (λ (j : ℕ). given_from events j h n ++ option_to_list (value_of h n queue)) more ∙ ap (λ (o : Option Value). given_from events (suc k) h n ++ option_to_list o) (becomes h n) ∙ go n (same_key x.tag (Action x.action) h n) refl ∙ sym (ap (λ (j : ℕ). given_from events j h n ++ option_to_list (value_of h n old.queue)) next)
    where
      parted : (a : ℕ) (b : Bool) → same_key x.tag (Action x.action) h (Action a) ≡ b → filter_map (given h a) (drop (suc k) events) ++ option_to_list (cond b (Some x.value) (value_of h (Action a) old.queue)) ≡ cons_option (given h a x) (filter_map (given h a) (drop (suc k) events)) ++ option_to_list (value_of h (Action a) old.queue)
      parted a true s =
          let p = both_true (same_tag x.tag h) (x.action == a) s in
          let t : x.tag ≡ h = same_tag_true x.tag h p.0 in
          let e : x.action ≡ a = eqb-true x.action a p.1 in
          subst (λ (z : Tag). filter_map (given z a) (drop (suc k) events) ++ x.value ∷ [] ≡ cons_option (given z a x) (filter_map (given z a) (drop (suc k) events)) ++ option_to_list (value_of z (Action a) old.queue)) t (subst (λ (z : ℕ). filter_map (given x.tag z) (drop (suc k) events) ++ x.value ∷ [] ≡ cons_option (given x.tag z x) (filter_map (given x.tag z) (drop (suc k) events)) ++ option_to_list (value_of x.tag (Action z) old.queue)) e own)
        where
          given_own : given x.tag x.action x ≡ Some x.value
          given_own = let f : same_tag x.tag x.tag ≡ true = same_tag_refl x.tag x.tag refl in let f2 : (x.action == x.action) ≡ true = eq-eqb x.action x.action refl in rw (f, f2) refl

          own : filter_map (given x.tag x.action) (drop (suc k) events) ++ x.value ∷ [] ≡ cons_option (given x.tag x.action x) (filter_map (given x.tag x.action) (drop (suc k) events)) ++ option_to_list (value_of x.tag (Action x.action) old.queue)
          own = rw (none_again, given_own, none) refl
      parted a false s = ap (λ (o : Option Value). cons_option o (filter_map (given h a) (drop (suc k) events)) ++ option_to_list (value_of h (Action a) old.queue)) (sym nothing)
        where
          nothing : given h a x ≡ None
          nothing = by (same_tag x.tag h) (x.action == a) refl refl s
            where
              by : (b c : Bool) → same_tag x.tag h ≡ b → (x.action == a) ≡ c → b && c ≡ false → cond (same_tag h x.tag && (a == x.action)) (Some x.value) None ≡ None
              by true true p q f = absurd (cc)
              by false c p q f = ap (λ (z : Bool). cond (z && (a == x.action)) (Some x.value) None) (apart (same_tag h x.tag) refl)
                where
                  apart : (z : Bool) → same_tag h x.tag ≡ z → z ≡ false
                  apart true r = absurd (false≢true (sym p ∙ same_tag_refl x.tag h (sym (same_tag_true h x.tag r))))
                  apart false r = refl
              by true false p q f = let z : (a == x.action) ≡ false = ne_eqb a x.action (λ r. false≢true (sym q ∙ eq-eqb x.action a (sym r))) in rw z (either (same_tag h x.tag))
                where
                  either : (z : Bool) → cond (z && false) (Some x.value) None ≡ None
                  either true = refl
                  either false = refl

      go : (n : Name) (b : Bool) → same_key x.tag (Action x.action) h n ≡ b → given_from events (suc k) h n ++ option_to_list (cond b (Some x.value) (value_of h n old.queue)) ≡ given_from events k h n ++ option_to_list (value_of h n old.queue)
      go (Port p) true s = absurd (let f = both_true (same_tag x.tag h) false s in cc)
      go (Port p) false s = refl
      go (Action a) b s = parted a b s ∙ ap (λ (xs : List Event). filter_map (given h a) xs ++ option_to_list (value_of h (Action a) old.queue)) (sym dropped)

-- one event more is taken
pub one_taken : (events : List Event) (from k next : ℕ) (g : Tag) (x : Event) → next ≡ k + 1 → slice_get events k ≡ Some x → ¬ Before g x.tag → AreTaken events from k g → AreTaken events from next g
one_taken events from k next g x e at late are i above below = go (dec_lt i k)
  where
    go : Dec (i < k) → (y : Event) × (slice_get events i ≡ Some y) × UpTo y.tag g
    go (yes l) = are i above l
    go (no m) = let here : i ≡ k = omega arith in (x, ap (λ (n : ℕ). slice_get events n) here ∙ at, ⊎_elim (λ b. absurd (late b)) (λ u. u) (order_cases g x.tag))

-- of an option the value is the one item
pub item_of : (o : Option Value) (v : Value) → Contains (option_to_list o) v → o ≡ Some v
item_of None v c = absurd (contains_mem v [] c)
item_of (Some w) v c = go (contains_mem v (w ∷ []) c)
  where
    go : Mem v (w ∷ []) → Some w ≡ Some v
    go (inl e) = ap Some e
    go (inr m) = absurd m

pub few_of : (o : Option Value) → length (option_to_list o) < 2
few_of None = omega arith
few_of (Some v) = omega arith

module _ (events : List Event) (listeners : NameListeners) (g : Tag) (old mid new : Coming) (same : (h : Tag) (n : Name) → to_come events mid h n ≡ to_come events old h n) (brought : AreBrought events mid.next g) (taken : AreTaken events old.next mid.next g) (next : new.next ≡ mid.next) (clear : IsClear old.clash g) (clash : new.clash ≡ old.clash) (passed : ArePassed listeners g mid.queue new.queue) where
  -- up to the tag all is in the queue
  in_queue : (h : Tag) (n : Name) → UpTo h g → to_come events old h n ≡ option_to_list (value_of h n mid.queue)
  in_queue h n up = sym (same h n) ∙ only_queue events mid g h n brought up

  pub is_reached : IsReached events listeners g old new
  is_reached = record {
    unheard = λ h n v b c. passed.unheard h n v b (item_of (value_of h n mid.queue) v (subst (λ (vs : List Value). Contains vs v) (in_queue h n (Before-weaken h g b)) c));
    alone = λ h n b. rw (in_queue h n (Before-weaken h g b)) (few_of (value_of h n mid.queue));
    same = λ h n up. ap (λ (k : ℕ). given_from events k h n ++ option_to_list (value_of h n new.queue)) next ∙ ap (λ (o : Option Value). given_from events mid.next h n ++ option_to_list o) (passed.same h n up) ∙ same h n;
    brought = subst (λ (k : ℕ). AreBrought events k g) (sym next) brought;
    taken = subst (λ (k : ℕ). AreTaken events old.next k g) (sym next) taken;
    clear = clear;
    clash = clash;
  }

-- and where what comes at the tag triggers nothing either, all up to the tag is over
pub are_over : (events : List Event) (listeners : NameListeners) (g : Tag) (old new : Coming) → IsReached events listeners g old new → ((n : Name) → IsUnheard listeners n ⊎ (value_of g n new.queue ≡ None)) → AreOver events listeners g old
are_over events listeners g old new reached last = record { unheard = λ h n v up c. by h n v c (split_up h g up); alone = λ h n up. few h n (split_up h g up); clear = reached.clear }
  where
    there : (n : Name) → to_come events old g n ≡ option_to_list (value_of g n new.queue)
    there n = sym (reached.same g n (UpTo-refl g)) ∙ only_queue events new g g n reached.brought (UpTo-refl g)

    here : (n : Name) (v : Value) → Contains (to_come events old g n) v → IsUnheard listeners n ⊎ (value_of g n new.queue ≡ None) → IsUnheard listeners n
    here n v c (inl u) = u
    here n v c (inr e) = absurd (none-some v (sym e ∙ item_of (value_of g n new.queue) v (subst (λ (vs : List Value). Contains vs v) (there n) c)))

    by : (h : Tag) (n : Name) (v : Value) → Contains (to_come events old h n) v → Before h g ⊎ (h ≡ g) → IsUnheard listeners n
    by h n v c (inl b) = reached.unheard h n v b c
    by h n v c (inr e) = here n v (subst (λ (k : Tag). Contains (to_come events old k n) v) e c) (last n)

    few : (h : Tag) (n : Name) → Before h g ⊎ (h ≡ g) → length (to_come events old h n) < 2
    few h n (inl b) = reached.alone h n b
    few h n (inr e) = subst (λ (k : Tag). length (to_come events old k n) < 2) (sym e) (rw (there n) (few_of (value_of g n new.queue)))

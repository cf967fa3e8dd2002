-- What external inputs give once one more event stands among them.
use Rattle.std.proofs.Common.{◌≡◌, ℕ, zero, suc, ◌+◌, ◌<◌, ◌≤◌, inl, inr, ◌==◌, ◌&&◌, Bool, true, false, cond, List, [], ◌∷◌, ◌++◌, length, drop, refl, sym, ap, ◌∙◌, subst, arith, Option, Some, None, slice_get, filter_map, option_to_list}
use Rattle.std.specs.List.{cons_option, insert}
use Rattle.std.proofs.lemmas.Option.{slice_get_within, get_or_from_slice_get}
use Rattle.std.proofs.lemmas.{List.Edits.{get_or-insert_at, get_or-insert_below, get_or-insert_above, length-insert}, Bool.eqb-true}
use lib.ListN.{get_or}
use native.Mathlib.Decide.{dec_lt}
use Rattle.lft_tag.{specs.{declared.Tag.Tag, Tags.{Before, same_tag}}, proofs.Order.{Before-irrefl, same_tag_true}}
use Rattle.lft_lists.proofs.Members.{none_nil}
use Rattle.lft_ir.specs.{declared.{parts.Value.Value, steps.externals.Event.Event}, Steps.Inputs.{ComesBefore, InOrder}}
use Rattle.lft_model.specs.Presence.{given}
use Rattle.lft_queue.specs.inner.Coming.Lanes.{held, event_given_to}

nothing_put : {Y : Type 0} (o : Option Y) (vs : List Y) → cons_option o vs ≡ [] → (o ≡ None) × (vs ≡ [])
nothing_put None vs e = (refl, e)
nothing_put (Some v) vs e = absurd (cc)

pub front_put : {Y : Type 0} (o : Option Y) (vs ws : List Y) → cons_option o (vs ++ ws) ≡ cons_option o vs ++ ws
front_put None vs ws = refl
front_put (Some v) vs ws = refl

module _ {X Y : Type 0} (f : X → Option Y) (x : X) where
  put_none : f x ≡ None → (xs : List X) (n p : ℕ) → n ≤ p → p ≤ length xs → filter_map f (drop n (insert xs p x)) ≡ filter_map f (drop n xs)
  put_none e xs zero zero l m = ap (λ (o : Option Y). cons_option o (filter_map f xs)) e
  put_none e [] zero (suc p) l m = absurd (omega arith)
  put_none e (y ∷ ys) zero (suc p) l m = ap (λ (vs : List Y). cons_option (f y) vs) (put_none e ys zero p (omega arith) (omega arith))
  put_none e xs (suc n) zero l m = absurd (omega arith)
  put_none e [] (suc n) (suc p) l m = absurd (omega arith)
  put_none e (y ∷ ys) (suc n) (suc p) l m = put_none e ys n p (omega arith) (omega arith)

  drop_none : (xs : List X) (n : ℕ) → filter_map f xs ≡ [] → filter_map f (drop n xs) ≡ []
  drop_none xs zero e = e
  drop_none [] (suc n) e = refl
  drop_none (y ∷ ys) (suc n) e = let q = nothing_put (f y) (filter_map f ys) e in drop_none ys n q.1

  put_some : (v : Y) → f x ≡ Some v → (xs : List X) (n p : ℕ) → n ≤ p → p ≤ length xs → filter_map f xs ≡ [] → filter_map f (drop n (insert xs p x)) ≡ v ∷ []
  put_some v e xs zero zero l m none = ap (λ (o : Option Y). cons_option o (filter_map f xs)) e ∙ ap (λ (vs : List Y). v ∷ vs) none
  put_some v e [] zero (suc p) l m none = absurd (omega arith)
  put_some v e (y ∷ ys) zero (suc p) l m none =
      let q = nothing_put (f y) (filter_map f ys) none in
      ap (λ (o : Option Y). cons_option o (filter_map f (insert ys p x))) q.0 ∙ put_some v e ys zero p (omega arith) (omega arith) q.1
  put_some v e xs (suc n) zero l m none = absurd (omega arith)
  put_some v e [] (suc n) (suc p) l m none = absurd (omega arith)
  put_some v e (y ∷ ys) (suc n) (suc p) l m none = let q = nothing_put (f y) (filter_map f ys) none in put_some v e ys n p (omega arith) (omega arith) q.1

  -- where the others give nothing if it gives something, what it gives stands first
  pub put : (xs : List X) (n p : ℕ) → n ≤ p → p ≤ length xs → ((v : Y) → f x ≡ Some v → filter_map f xs ≡ []) → filter_map f (drop n (insert xs p x)) ≡ cons_option (f x) (filter_map f (drop n xs))
  put xs n p l m apart = go (f x) refl
    where
      go : (o : Option Y) → f x ≡ o → filter_map f (drop n (insert xs p x)) ≡ cons_option o (filter_map f (drop n xs))
      go None e = put_none e xs n p l m
      go (Some v) e = put_some v e xs n p l m (apart v e) ∙ ap (λ (vs : List Y). v ∷ vs) (sym (drop_none xs n (apart v e)))

-- what is given at a tag to an action
given_cases : (h : Tag) (a : ℕ) (event : Event) (v : Value) → given h a event ≡ Some v → (h ≡ event.tag) × (a ≡ event.action)
given_cases h a event v = go (same_tag h event.tag) (a == event.action) refl refl
  where
    go : (b c : Bool) → same_tag h event.tag ≡ b → (a == event.action) ≡ c → cond (b && c) (Some event.value) None ≡ Some v → (h ≡ event.tag) × (a ≡ event.action)
    go true true p q e = (same_tag_true h event.tag p, eqb-true a event.action q)
    go true false p q e = absurd (cc)
    go false c p q e = absurd (cc)

none_given : (h : Tag) (a : ℕ) (event : Event) → ((v : Value) → given h a event ≡ Some v → ⊥) → given h a event ≡ None
none_given h a event never = go (given h a event) refl
  where
    go : (o : Option Value) → given h a event ≡ o → given h a event ≡ None
    go None e = e
    go (Some v) e = absurd (never v e)

pub given_elsewhere : (h : Tag) (a : ℕ) (event : Event) → ¬ (h ≡ event.tag) → given h a event ≡ None
given_elsewhere h a event other = none_given h a event (λ v e. other (given_cases h a event v e).0)

comes_apart : (x y : Event) → ComesBefore x y → x.tag ≡ y.tag → x.action ≡ y.action → ⊥
comes_apart x y (inl b) e q = Before-irrefl y.tag (subst (λ (g : Tag). Before g y.tag) e b)
comes_apart x y (inr p) e q = let l : x.action < y.action = p.1 in omega arith

-- the one event that a lane has in front
pub held_given : (h : Tag) (a : ℕ) (event : Event) (queue : List (Tag × Value)) → held (option_to_list (event_given_to a event) ++ queue) h ≡ cons_option (given h a event) (held queue h)
held_given h a event queue = go (same_tag h event.tag) (a == event.action) refl
  where
    go : (b c : Bool) → same_tag h event.tag ≡ b → held (option_to_list (cond c (Some (event.tag, event.value)) None) ++ queue) h ≡ cons_option (cond (b && c) (Some event.value) None) (held queue h)
    go true true p = ap (λ (z : Bool). cons_option (cond z (Some event.value) None) (held queue h)) p
    go false true p = ap (λ (z : Bool). cons_option (cond z (Some event.value) None) (held queue h)) p
    go true false p = refl
    go false false p = refl

-- of external inputs in order, one is put among the others
module _ (events : List Event) (event : Event) (place : ℕ) (within : place ≤ length events) (order : InOrder (insert events place event)) where
  no_other : (k : ℕ) (y : Event) → slice_get events k ≡ Some y → y.tag ≡ event.tag → y.action ≡ event.action → ⊥
  no_other k y at e q = go (dec_lt k place)
    where
      long : length (insert events place event) ≡ length events + 1
      long = length-insert events place event within

      inside : k < length events
      inside = slice_get_within events k y at

      read : get_or events k y ≡ y
      read = get_or_from_slice_get events k y y at

      here : get_or (insert events place event) place y ≡ event
      here = get_or-insert_at events place event y within

      go : Dec (k < place) → ⊥
      go (yes l) =
          let c : ComesBefore (get_or (insert events place event) k y) (get_or (insert events place event) place y) = order k place y l (let m = long in omega arith) in
          let d : get_or (insert events place event) k y ≡ y = get_or-insert_below events place event y k l within ∙ read in
          comes_apart y event (subst (λ (z : Event). ComesBefore z event) d (subst (λ (z : Event). ComesBefore (get_or (insert events place event) k y) z) here c)) e q
      go (no m) =
          let c : ComesBefore (get_or (insert events place event) place y) (get_or (insert events place event) (k + 1) y) = order place (k + 1) y (omega arith) (let m = long in let i = inside in omega arith) in
          let d : get_or (insert events place event) (k + 1) y ≡ y = get_or-insert_above events place event y k (omega arith) within ∙ read in
          comes_apart event y (subst (λ (z : Event). ComesBefore event z) d (subst (λ (z : Event). ComesBefore z (get_or (insert events place event) (k + 1) y)) here c)) (sym e) (sym q)

  pub alone_given : (h : Tag) (a : ℕ) (v : Value) → given h a event ≡ Some v → filter_map (given h a) events ≡ []
  alone_given h a v e = none_nil (given h a) events (λ k y at. none_given h a y (λ w f. let p = given_cases h a event v e in let q = given_cases h a y w f in no_other k y at (sym q.0 ∙ p.0) (sym q.1 ∙ p.1)))

  -- what is given from a place on
  pub given_more : (n : ℕ) → n ≤ place → (h : Tag) (a : ℕ) → filter_map (given h a) (drop n (insert events place event)) ≡ cons_option (given h a event) (filter_map (given h a) (drop n events))
  given_more n up h a = put (given h a) event events n place up within (alone_given h a)

  pub given_before : (h : Tag) (a : ℕ) → Before h event.tag → filter_map (given h a) events ≡ filter_map (given h a) (insert events place event)
  given_before h a before = sym (given_more 0 (omega arith) h a ∙ ap (λ (o : Option Value). cons_option o (filter_map (given h a) events)) (given_elsewhere h a event (λ e. Before-irrefl event.tag (subst (λ (g : Tag). Before g event.tag) e before))))

-- Chains of sources, followed from port to port: none of a circle ends, and along an order each does.
use Rattle.std.proofs.Common.{◌≡◌, ◌≢◌, ℕ, zero, suc, ◌+◌, ◌-◌, ◌<◌, ◌≤◌, ◌⊎◌, inl, inr, List, length, refl, sym, ap, ◌∙◌, subst, arith, Option, Some, None, slice_get, slice_set, option_map, option_to_list, unwrap_or, length-append}
use Rattle.std.proofs.lemmas.{Bool.cases_lt, Option.slice_get_within}
use Rattle.lft_lists.specs.{Walks.IsCircle, inner.Walking.{IsOrder, Leads}}
use Rattle.lft_lists.proofs.{Places.{get_there, get_write_cases, length_written, same_at, Some_same}, Walking.circle_back}
use Rattle.lft_tag.specs.declared.Source.{Source}
use Rattle.lft_resolve.specs.declared.expansion.origins.Reached.{Reached}
use Rattle.lft_resolve.specs.inner.Expansion.Sources.{AreInside, AreReached, ChainOrigin, itself, over, IsReached, IsSourceReached, LeadsBackwards, one, more, ports_before}
use Rattle.lft_resolve.proofs.ExpansionLemmas.Folding.{few_steps}

module _ (sources : List (Option Source)) where
  -- one step more at the end
  leads_on : (p q : ℕ) (s : Source) → LeadsBackwards sources p q → slice_get sources q ≡ Some (Some s) → LeadsBackwards sources p s.port
  leads_on p q s (one t a e) b = more t a (one s (subst (λ k. slice_get sources k ≡ Some (Some s)) (sym e) b) refl)
  leads_on p q s (more t a r) b = more t a (leads_on t.port q s r b)

  -- of two ways from a port the first step is the same
  leads_step : (p q : ℕ) (s : Source) → LeadsBackwards sources p q → slice_get sources p ≡ Some (Some s) → (s.port ≡ q) ⊎ LeadsBackwards sources s.port q
  leads_step p q s (one t a e) b = let f : t ≡ s = cc in inl (ap (λ x. x.port) (sym f) ∙ e)
  leads_step p q s (more t a r) b = let f : t ≡ s = cc in inr (subst (λ x. LeadsBackwards sources x.port q) f r)

  -- one step on, what leads back to itself does so still
  pub leads_next : (p : ℕ) (s : Source) → LeadsBackwards sources p p → slice_get sources p ≡ Some (Some s) → LeadsBackwards sources s.port s.port
  leads_next p s l e = turn (leads_step p p s l e)
    where
      turn : (s.port ≡ p) ⊎ LeadsBackwards sources s.port p → LeadsBackwards sources s.port s.port
      turn (inl q) = one s (subst (λ k. slice_get sources k ≡ Some (Some s)) (sym q) e) refl
      turn (inr r) = leads_on s.port p s r e

  -- a chain that ends doesn't come back
  ends_once : (p o : ℕ) (delays : List ℕ) → ChainOrigin sources p o delays → LeadsBackwards sources p p → ⊥
  ends_once p o delays (itself e) (one t a f) = cc
  ends_once p o delays (itself e) (more t a r) = cc
  ends_once p o delays (over s first e rest g) l = ends_once s.port o first rest (leads_next p s l e)

  pub leads_from : (p q : ℕ) → LeadsBackwards sources p q → p < length sources
  leads_from p q (one t a e) = slice_get_within sources p (Some t) a
  leads_from p q (more t a r) = slice_get_within sources p (Some t) a

  pub no_cycle : (all : List Reached) → AreReached sources all → (p : ℕ) → LeadsBackwards sources p p → ⊥
  no_cycle all w p l =
      let b = leads_from p p l in
      let s = w.as_long in
      let r = get_there all p (omega arith) in
      let i = w.each p r.0 r.1 in
      ends_once p r.0.origin i.delays i.origin l

  -- what a port leads to is the port of its source
  source_of : (a b : ℕ) → Leads (ports_before sources) a b → (s : Source) × (slice_get sources a ≡ Some (Some s)) × (s.port ≡ b)
  source_of a b (place, is) = by place (slice_get sources a) refl is
    where
      by : (k : ℕ) (o : Option (Option Source)) → slice_get sources a ≡ o → slice_get (option_to_list (option_map (λ s. s.port) (unwrap_or o None))) k ≡ Some b → (s : Source) × (slice_get sources a ≡ Some (Some s)) × (s.port ≡ b)
      by k None e f = absurd (cc)
      by k (Some None) e f = absurd (cc)
      by zero (Some (Some s)) e f = (s, e, Some_same s.port b f)
      by (suc k) (Some (Some s)) e f = absurd (cc)

  -- the last port of a circle leads back to itself
  pub circle_leads_back : (circle : List ℕ) → IsCircle (Leads (ports_before sources)) circle → (last : ℕ) → slice_get circle (length circle - 1) ≡ Some last → LeadsBackwards sources last last
  circle_leads_back circle is last at = circle_back (Leads (ports_before sources)) (LeadsBackwards sources) circle first next is last at
    where
      first : (a b : ℕ) → Leads (ports_before sources) a b → LeadsBackwards sources a b
      first a b leads = let s = source_of a b leads in one s.0 s.1 s.2

      next : (a b c : ℕ) → LeadsBackwards sources a b → Leads (ports_before sources) b c → LeadsBackwards sources a c
      next a b c back leads = let s = source_of b c leads in subst (LeadsBackwards sources a) s.2 (leads_on a b s.0 back s.1)

  -- the first ports of the order have their origins
  pub record IsFollowed (order : List ℕ) (all : List Reached) (place : ℕ) : Type 0 where
    pub as_long : length all ≡ length sources
    pub right : (j p : ℕ) (r : Reached) → j < place → slice_get order j ≡ Some p → slice_get all p ≡ Some r → IsReached sources p r

  module _ (order : List ℕ) (is_order : IsOrder (Leads (ports_before sources)) (length sources) order) where
    module _ (inside : AreInside sources) where
      -- the source of a port stands before it
      earlier : (j p : ℕ) (s : Source) → slice_get order j ≡ Some p → slice_get sources p ≡ Some (Some s) → (h : ℕ) × (h < j) × (slice_get order h ≡ Some s.port)
      earlier j p s at is = is_order.behind j p s.port at (0, rw is refl) (inside p s is)

      -- a chain has no more delays than ports stand before its last one
      few_delays : (p o : ℕ) (delays : List ℕ) → ChainOrigin sources p o delays → (j : ℕ) → slice_get order j ≡ Some p → length delays ≤ j
      few_delays p o delays (itself e) j at = omega arith
      few_delays p o delays (over s first e rest d) j at =
          let h = earlier j p s at e in
          let r = few_delays s.port o first rest h.0 h.2 in
          let l : length delays ≡ length first + length (option_to_list s.delay) = ap length d ∙ length-append first (option_to_list s.delay) in
          let m = at_most_one s.delay in
          let b = h.1 in
          omega arith
        where
          at_most_one : (delay : Option ℕ) → length (option_to_list delay) ≤ 1
          at_most_one None = omega arith
          at_most_one (Some d) = omega arith

      pub source_reached : length sources ≤ 100000 → (all : List Reached) (place p : ℕ) → IsFollowed order all place → slice_get order place ≡ Some p → IsSourceReached sources all p
      source_reached few all place p w at s is =
          let h = earlier place p s at is in
          let r = get_there all s.port (let l = inside p s is in let e = w.as_long in omega arith) in
          let i = w.right h.0 s.port r.0 h.1 h.2 r.1 in
          let d = few_delays s.port r.0.origin i.delays i.origin h.0 h.2 in
          let b = h.1 in
          let l = slice_get_within order place p at in
          let m = is_order.as_long in
          (r.0, r.1, i, few_steps i.delays r.0.shift 100000 i.folded (omega arith))

    -- one port more
    pub followed_more : (all : List Reached) (place p : ℕ) (r : Reached) → IsFollowed order all place → slice_get order place ≡ Some p → IsReached sources p r → IsFollowed order (slice_set all p r) (place + 1)
    followed_more all place p r w at is = record {
      as_long = length_written all p r ∙ w.as_long;
      right = λ j q x lt there mark. elim (get_write_cases all p q r x within mark) [
        | inl here ↦ subst (λ k. IsReached sources k x) (sym here.0) (subst (IsReached sources p) here.1 is)
        | inr other ↦ w.right j q x (before j q lt there other.0) there other.1
      ];
    }
      where
        within : p < length all
        within = let l = is_order.within place p at in let s = w.as_long in omega arith

        before : (j q : ℕ) → j < place + 1 → slice_get order j ≡ Some q → q ≢ p → j < place
        before j q lt there n = elim (cases_lt j place) [ inl l ↦ l | inr g ↦ absurd (n (same_at order j place q p there at (omega arith))) ]

    pub all_reached : (all : List Reached) (place : ℕ) → IsFollowed order all place → length order ≤ place → AreReached sources all
    all_reached all place w end = record { as_long = w.as_long; each = each }
      where
        each : (p : ℕ) (r : Reached) → slice_get all p ≡ Some r → IsReached sources p r
        each p r at =
            let l = slice_get_within all p r at in
            let s = w.as_long in
            let j = is_order.all p (omega arith) in
            let m = slice_get_within order j.0 p j.1 in
            w.right j.0 p r (omega arith) j.1 at

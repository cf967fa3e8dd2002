-- Chains along the short lists are chains of direct steps.
use Rattle.std.proofs.Common.{◌≡◌, ℕ, zero, suc, ◌+◌, ◌<◌, ◌≤◌, ◌⊎◌, inl, inr, List, length, sym, ◌∙◌, subst, arith, Some, slice_get, Contains, get_or}
use Rattle.std.proofs.lemmas.{Option.{slice_get_within, slice_get-get_or}, Bool.cases_lt}
use Rattle.lft_ir.specs.{Parts.Parts, Sound.IsSound, declared.parts.Reaction.Reaction}
use Rattle.lft_graph.specs.Precedence.{Direct, IsDeclaredFirst, Feeds, Precedes, IsLevelled, Precedes.{one, more}}
use Rattle.lft_graph.specs.{Before.{IsDeclaredJustBefore, FeedsLast, Writes}, Graph.{AreLevels, AreByLevel, GraphParts, HasChains, IsGraphOf}}
use Rattle.lft_graph.specs.{Loops.{IsLoopOf, IsLoop}, inner.Walks.{HasLists, AreInside, IsStep}}
use Rattle.lft_lists.proofs.{Places.{contains_at, get_there}, Walking.circle_along}

pub snoc : (program : Parts) (a b c : ℕ) → Precedes program a b → Direct program b c → Precedes program a c
snoc program a b c (one d) e = more d (one e)
snoc program a b c (more d p) e = more d (snoc program _ b c p e)

pub precedes_trans : {program : Parts} {a b c : ℕ} → Precedes program a b → Precedes program b c → Precedes program a c
precedes_trans (one d) q = more d q
precedes_trans (more d p) q = more d (precedes_trans p q)

module _ (program : Parts) (sound : IsSound program) (lists : List (List ℕ)) (has : HasLists program (length program.reactions) lists) where
  -- a member of a list precedes directly
  member_direct : (a r : ℕ) (list : List ℕ) → slice_get lists r ≡ Some list → Contains list a → Direct program a r
  member_direct a r list e c = go (((has.before r list e).members a).0 c)
    where
      go : IsDeclaredJustBefore program a r ⊎ FeedsLast program a r → Direct program a r
      go (inl j) = inl (record { first = j.first; second = j.second; is_first = j.is_first; is_second = j.is_second; same_instance = j.same_instance; declared_first = let l = j.just_before in omega arith })
      go (inr f) = inr (record { writer = f.1.writes.writer; reader = f.2.reader; is_writer = f.1.writes.is_writer; is_reader = f.2.is_reader; origin = f.0; port = f.2.port; is_effect = f.1.writes.is_effect; is_input = f.2.is_input; undelayed = f.2.undelayed })

  from_there : (a r : ℕ) → Direct program a r → a < length program.reactions
  from_there a r (inl d) = slice_get_within program.reactions a d.first d.is_first
  from_there a r (inr d) = slice_get_within program.reactions a d.writer d.is_writer

  to_there : (a r : ℕ) → Direct program a r → r < length program.reactions
  to_there a r (inl d) = slice_get_within program.reactions r d.second d.is_second
  to_there a r (inr d) = slice_get_within program.reactions r d.reader d.is_reader

  pub inside : AreInside lists
  inside r i a list e f = let l = from_there a r (member_direct a r list e (contains_at list i a f)) in let s = has.as_long in omega arith

  step_direct : (a b : ℕ) → IsStep lists a b → Direct program a b
  step_direct a b s = member_direct a b s.0 s.2 (contains_at s.0 s.1 a s.3)

  pub is_loop : (loop : List ℕ) → IsLoopOf (IsStep lists) loop → IsLoop program loop
  is_loop loop w = record { circle = circle_along (IsStep lists) (Direct program) loop step_direct w.circle; least_first = w.least_first }

  -- of two reactions of one instance, one is declared first, or they are the same
  ordered : (a b : ℕ) (x y : Reaction) → slice_get program.reactions a ≡ Some x → slice_get program.reactions b ≡ Some y → x.instance ≡ y.instance → x.place ≤ y.place → (a ≡ b) ⊎ IsDeclaredFirst program a b
  ordered a b x y e f i l = go (cases_lt a b) (cases_lt b a)
    where
      go : (a < b) ⊎ (b ≤ a) → (b < a) ⊎ (a ≤ b) → (a ≡ b) ⊎ IsDeclaredFirst program a b
      go (inl p) _ = inr (record { first = x; second = y; is_first = e; is_second = f; same_instance = i; declared_first = sound.numbered a b x y e f i p })
      go (inr p) (inl q) = absurd (let m = sound.numbered b a y x f e (sym i) q in omega arith)
      go (inr p) (inr q) = inl (omega arith)

  -- one that is declared first is the one just before, or is declared before that one
  first_covered : (a r : ℕ) (list : List ℕ) → slice_get lists r ≡ Some list → IsDeclaredFirst program a r → (b : ℕ) × (b < r) × Contains list b × ((a ≡ b) ⊎ IsDeclaredFirst program a b)
  first_covered a r list e d =
      let c = sound.consecutive r d.second d.is_second (let l = d.declared_first in omega arith) in
      let l = d.declared_first in
      let p = c.5 in
      let n = c.3 in
      let j : IsDeclaredJustBefore program c.0 r = record { first = c.1; second = d.second; is_first = c.2; is_second = d.is_second; same_instance = c.4; just_before = c.5 } in
      (c.0, omega arith, ((has.before r list e).members c.0).1 (inl j), ordered a c.0 d.first c.1 d.is_first c.2 (d.same_instance ∙ sym c.4) (omega arith))

  -- a writer of an undelayed input is the last one, or is declared before that one
  feeder_covered : (a r : ℕ) (list : List ℕ) → slice_get lists r ≡ Some list → Feeds program a r → (b : ℕ) × Contains list b × ((a ≡ b) ⊎ IsDeclaredFirst program a b)
  feeder_covered a r list e d =
      let w : Writes program a d.origin = record { writer = d.writer; is_writer = d.is_writer; is_effect = d.is_effect } in
      let c = has.covers r list e a d.origin w (record { reader = d.reader; is_reader = d.is_reader; port = d.port; is_input = d.is_input; undelayed = d.undelayed }) in
      let l : a ≤ c.0 = c.1.last a w in
      (c.0, c.2, go c.0 c.1.writes l)
    where
      go : (b : ℕ) → Writes program b d.origin → a ≤ b → (a ≡ b) ⊎ IsDeclaredFirst program a b
      go b u l = by (cases_lt a b)
        where
          i : d.writer.instance ≡ u.writer.instance
          i = sound.one_writer a b d.writer u.writer d.origin d.is_writer u.is_writer d.is_effect u.is_effect

          by : (a < b) ⊎ (b ≤ a) → (a ≡ b) ⊎ IsDeclaredFirst program a b
          by (inl p) = inr (record { first = d.writer; second = u.writer; is_first = d.is_writer; is_second = u.is_writer; same_instance = i; declared_first = sound.numbered a b d.writer u.writer d.is_writer u.is_writer i p })
          by (inr p) = inl (omega arith)

  direct_covered : (a r : ℕ) (list : List ℕ) → slice_get lists r ≡ Some list → Direct program a r → (b : ℕ) × Contains list b × ((a ≡ b) ⊎ Precedes program a b)
  direct_covered a r list e (inl d) = let c = first_covered a r list e d in (c.0, c.2, elim c.3 [ inl q ↦ inl q | inr f ↦ inr (one (inl f)) ])
  direct_covered a r list e (inr d) = let c = feeder_covered a r list e d in (c.0, c.1, elim c.2 [ inl q ↦ inl q | inr f ↦ inr (one (inl f)) ])

  last : (a r : ℕ) (list : List ℕ) → slice_get lists r ≡ Some list → Precedes program a r → (b : ℕ) × Contains list b × ((a ≡ b) ⊎ Precedes program a b)
  last a r list e (one d) = direct_covered a r list e d
  last a r list e (more {b = m} d p) = let c = last m r list e p in (c.0, c.1, inr (go c.0 c.2))
    where
      go : (b : ℕ) → (m ≡ b) ⊎ Precedes program m b → Precedes program a b
      go b (inl q) = one (subst (Direct program a) q d)
      go b (inr q) = more d q

  back : (a r : ℕ) (list : List ℕ) → slice_get lists r ≡ Some list → (b : ℕ) → Contains list b → (a ≡ b) ⊎ Precedes program a b → Precedes program a r
  back a r list e b c (inl q) = one (subst (λ k. Direct program k r) (sym q) (member_direct b r list e c))
  back a r list e b c (inr p) = snoc program a b r p (member_direct b r list e c)

  pub chains : HasChains program lists
  chains a r list e = (last a r list e, λ t. back a r list e t.0 t.1 t.2)

  module _ (levels : List ℕ) (are : AreLevels lists levels) where
    list_there : (r : ℕ) → r < length program.reactions → (list : List ℕ) × (slice_get lists r ≡ Some list)
    list_there r l = get_there lists r (let s = has.as_long in omega arith)

    member_rises : (b r : ℕ) (list : List ℕ) → slice_get lists r ≡ Some list → Contains list b → get_or levels b 0 < get_or levels r 0
    member_rises b r list e c =
        let d = member_direct b r list e c in
        let l = from_there b r d in
        let m = to_there b r d in
        let s = has.as_long in
        let t = are.as_long in
        are.above b r (get_or levels b 0) (get_or levels r 0) list e c (slice_get-get_or levels b 0 (omega arith)) (slice_get-get_or levels r 0 (omega arith))

    first_rises : (n a r : ℕ) → r < n → IsDeclaredFirst program a r → get_or levels a 0 < get_or levels r 0
    first_rises zero a r l d = absurd (omega arith)
    first_rises (suc n) a r l d =
        let g = list_there r (slice_get_within program.reactions r d.second d.is_second) in
        let c = first_covered a r g.0 g.1 d in
        let m = member_rises c.0 r g.0 g.1 c.2 in
        go c.0 m c.3 (λ f. first_rises n a c.0 (let k = c.1 in omega arith) f)
      where
        go : (b : ℕ) → get_or levels b 0 < get_or levels r 0 → (a ≡ b) ⊎ IsDeclaredFirst program a b → (IsDeclaredFirst program a b → get_or levels a 0 < get_or levels b 0) → get_or levels a 0 < get_or levels r 0
        go b m (inl q) f = subst (λ k. get_or levels k 0 < get_or levels r 0) (sym q) m
        go b m (inr p) f = let k = f p in omega arith

    rises : (a r : ℕ) → Direct program a r → get_or levels a 0 < get_or levels r 0
    rises a r (inl d) = first_rises (r + 1) a r (omega arith) d
    rises a r (inr d) =
        let g = list_there r (slice_get_within program.reactions r d.reader d.is_reader) in
        let c = feeder_covered a r g.0 g.1 d in
        go c.0 (member_rises c.0 r g.0 g.1 c.1) c.2
      where
        go : (b : ℕ) → get_or levels b 0 < get_or levels r 0 → (a ≡ b) ⊎ IsDeclaredFirst program a b → get_or levels a 0 < get_or levels r 0
        go b m (inl q) = subst (λ k. get_or levels k 0 < get_or levels r 0) (sym q) m
        go b m (inr p) = let k = first_rises (b + 1) a b (omega arith) p in omega arith

    pub is_levelled : IsLevelled program
    is_levelled = record { level = λ r. get_or levels r 0; rises = rises }

    pub is_graph : (by_level : List ℕ) → AreByLevel levels by_level → (let g : GraphParts = record { before = lists; levels = levels; by_level = by_level } in IsGraphOf program g)
    is_graph by_level order = record { as_long = has.as_long; before = has.before; chains = chains; levels = are; by_level = order }

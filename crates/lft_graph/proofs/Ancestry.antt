-- What precedes each reaction, along the levels.
use Rattle.std.proofs.Common.{◌≡◌, ◌≢◌, ℕ, zero, suc, ◌+◌, ◌/◌, ◌<◌, ◌≤◌, ◌⊎◌, inl, inr, List, length, refl, sym, ap, ◌∙◌, subst, arith, Some, slice_get, slice_set, Contains}
use Rattle.std.specs.Prelude.{◌↔◌}
use Rattle.std.proofs.lemmas.{Bool.cases_lt, Option.slice_get_within}
use native.Mathlib.Decide.{ℕ_discrete}
use Rattle.lft_ir.specs.Parts.{Parts}
use Rattle.lft_graph.specs.{Precedence.Precedes, Graph.{GraphParts, IsGraphOf}, Sets.Has, inner.Sets.{AreAncestors, HaveRoom, IsUnder, IsUnion}}
use Rattle.lft_graph.proofs.Cycles.{from_there}
use Rattle.lft_lists.proofs.Places.{contains_at, at_contains, get_there, same_at, get_write_cases, length_written}

pub precedes_known : (program : Parts) (a b : ℕ) → Precedes program a b → a < length program.reactions
precedes_known program a b (Precedes.one d) = from_there program _ _ d
precedes_known program a b (Precedes.more d p) = from_there program _ _ d

-- the union, one member more
pub union_more : (list : List ℕ) (sets : List (List ℕ)) (k b : ℕ) (own old with more : List ℕ) → slice_get list k ≡ Some b → slice_get sets b ≡ Some own → ((r : ℕ) → Has with r ↔ ((r ≡ b) ⊎ Has old r)) → ((r : ℕ) → Has more r ↔ (Has with r ⊎ Has own r)) → IsUnion list k sets old → IsUnion list (k + 1) sets more
union_more list sets k b own old with more is_b is_own inserted added so_far a = (λ h. out ((added a).0 h), λ u. back u (ℕ_discrete u.0 k))
  where
    later : IsUnder list k sets a → IsUnder list (k + 1) sets a
    later (i, c, l, e, o) = (i, c, omega arith, e, o)

    one : (a ≡ b) ⊎ Has old a → IsUnder list (k + 1) sets a
    one (inl e) = (k, b, omega arith, is_b, inl e)
    one (inr h) = later ((so_far a).0 h)

    out : Has with a ⊎ Has own a → IsUnder list (k + 1) sets a
    out (inl h) = one ((inserted a).0 h)
    out (inr h) = (k, b, omega arith, is_b, inr (own, is_own, h))

    back : (u : IsUnder list (k + 1) sets a) → Dec (u.0 ≡ k) → Has more a
    back (i, c, l, e, o) (no n) = (added a).1 (inl ((inserted a).1 (inr ((so_far a).1 (i, c, omega arith, e, o)))))
    back (i, c, l, e, inl q) (yes d) = (added a).1 (inl ((inserted a).1 (inl (q ∙ same_at list i k c b e is_b d))))
    back (i, c, l, e, inr x) (yes d) =
        let z : c ≡ b = same_at list i k c b e is_b d in
        let w : Some x.0 ≡ Some own = sym x.1 ∙ ap (λ r. slice_get sets r) z ∙ is_own in
        let y : x.0 ≡ own = cc in
        (added a).1 (inr (subst (λ (s : List ℕ). Has s a) y x.2))

-- the sets are right for the reactions at the places before one
pub record AreAncestorsTo (program : Parts) (order : List ℕ) (k : ℕ) (sets : List (List ℕ)) : Type 0 where
  pub as_long : length sets ≡ length program.reactions
  pub room : HaveRoom (length sets) sets
  pub right : (j r : ℕ) (set : List ℕ) → j < k → slice_get order j ≡ Some r → slice_get sets r ≡ Some set → (a : ℕ) → Has set a ↔ Precedes program a r

module _ (program : Parts) (graph : GraphParts) (is_graph : IsGraphOf program graph) where
  many : length graph.levels ≡ length program.reactions
  many = is_graph.levels.as_long ∙ is_graph.as_long

  pub order_known : (k r : ℕ) → slice_get graph.by_level k ≡ Some r → r < length program.reactions
  order_known k r e = let l : r < length graph.levels = (is_graph.by_level.all r).0 (contains_at graph.by_level k r e) in let m = many in omega arith

  pub order_listed : (k r : ℕ) → slice_get graph.by_level k ≡ Some r → r < length graph.before
  order_listed k r e = let l = order_known k r e in let m : length graph.before ≡ length program.reactions = is_graph.as_long in omega arith

  pub level_there : (r : ℕ) → r < length program.reactions → (l : ℕ) × (slice_get graph.levels r ≡ Some l)
  level_there r l = let m = many in get_there graph.levels r (omega arith)

  -- a member of a short list precedes, so it is a reaction
  pub member_known : (b r i : ℕ) (list : List ℕ) → slice_get graph.before r ≡ Some list → slice_get list i ≡ Some b → b < length program.reactions
  member_known b r i list e p = precedes_known program b r ((is_graph.chains b r list e).1 (b, contains_at list i b p, inl refl))

  -- a member of a short list stands earlier in the order
  member_before : (k r b i : ℕ) (list : List ℕ) → slice_get graph.by_level k ≡ Some r → slice_get graph.before r ≡ Some list → slice_get list i ≡ Some b → (j : ℕ) × (j < k) × (slice_get graph.by_level j ≡ Some b)
  member_before k r b i list e f p = go (at_contains graph.by_level b ((is_graph.by_level.all b).1 (let l = known in let m = many in omega arith)))
    where
      known : b < length program.reactions
      known = member_known b r i list f p

      low : (l : ℕ) × (slice_get graph.levels b ≡ Some l)
      low = level_there b known

      high : (l : ℕ) × (slice_get graph.levels r ≡ Some l)
      high = level_there r (order_known k r e)

      rises : low.0 < high.0
      rises = is_graph.levels.above b r low.0 high.0 list f (contains_at list i b p) low.1 high.1

      not_later : (j : ℕ) → k < j → slice_get graph.by_level j ≡ Some b → ⊥
      not_later j l q = out (is_graph.by_level.ordered k j r b high.0 low.0 l e q high.1 low.1)
        where
          out : (high.0 < low.0) ⊎ ((high.0 ≡ low.0) × (r < b)) → ⊥
          out (inl x) = let m = rises in omega arith
          out (inr x) = let m = rises in let y : high.0 ≡ low.0 = x.0 in omega arith

      go : (j : ℕ) × (slice_get graph.by_level j ≡ Some b) → (j : ℕ) × (j < k) × (slice_get graph.by_level j ≡ Some b)
      go (j, q) = by (cases_lt j k) (ℕ_discrete j k)
        where
          by : (j < k) ⊎ (k ≤ j) → Dec (j ≡ k) → (j : ℕ) × (j < k) × (slice_get graph.by_level j ≡ Some b)
          by (inl l) d = (j, l, q)
          by (inr l) (no d) = absurd (not_later j (omega arith) q)
          by (inr l) (yes d) = let a : b ≡ r = same_at graph.by_level j k b r q e d in let x : Some low.0 ≡ Some high.0 = sym low.1 ∙ ap (λ z. slice_get graph.levels z) a ∙ high.1 in let y : low.0 ≡ high.0 = cc in let m = rises in absurd (omega arith)

  -- what precedes a reaction is of a lower level
  pub lower : (n a r k l : ℕ) → l < n → Precedes program a r → slice_get graph.levels a ≡ Some k → slice_get graph.levels r ≡ Some l → k < l
  lower zero a r k l m p e f = absurd (omega arith)
  lower (suc n) a r k l m p e f = go (λ b v w q u. lower n a b k v w q e u) ((is_graph.chains a r listed.0 listed.1).0 p)
    where
      listed : (list : List ℕ) × (slice_get graph.before r ≡ Some list)
      listed = let w : r < length graph.levels = slice_get_within graph.levels r l f in let q : length graph.levels ≡ length graph.before = is_graph.levels.as_long in get_there graph.before r (omega arith)

      go : ((b v : ℕ) → v < n → Precedes program a b → slice_get graph.levels b ≡ Some v → k < v) → (b : ℕ) × Contains listed.0 b × ((a ≡ b) ⊎ Precedes program a b) → k < l
      go below (b, c, inl q) = is_graph.levels.above b r k l listed.0 listed.1 c (subst (λ z. slice_get graph.levels z ≡ Some k) q e) f
      go below (b, c, inr q) =
          let i = at_contains listed.0 b c in
          let v = level_there b (member_known b r i.0 listed.0 listed.1 i.1) in
          let u : v.0 < l = is_graph.levels.above b r v.0 l listed.0 listed.1 c v.1 f in
          let w : k < v.0 = below b v.0 (omega arith) q v.1 in
          omega arith

  module _ (sets : List (List ℕ)) (k r : ℕ) (list : List ℕ) (is_r : slice_get graph.by_level k ≡ Some r) (is_list : slice_get graph.before r ≡ Some list) (so_far : AreAncestorsTo program graph.by_level k sets) where
    -- a member of the short list has its set
    pub set_of : (i b : ℕ) → slice_get list i ≡ Some b → b < length sets
    set_of i b e = let l = member_known b r i list is_list e in let n : length sets ≡ length program.reactions = so_far.as_long in omega arith

    -- the set of a member is right
    of_member : (i b : ℕ) (own : List ℕ) → slice_get list i ≡ Some b → slice_get sets b ≡ Some own → (a : ℕ) → Has own a ↔ Precedes program a b
    of_member i b own e q = let j = member_before k r b i list is_r is_list e in so_far.right j.0 b own j.1 j.2 q

    module _ (set : List ℕ) (union : IsUnion list (length list) sets set) where
      it_precedes : (a : ℕ) → Has set a ↔ Precedes program a r
      it_precedes a = (λ h. (is_graph.chains a r list is_list).1 (out ((union a).0 h)), λ p. (union a).1 (back ((is_graph.chains a r list is_list).0 p)))
        where
          out : IsUnder list (length list) sets a → (b : ℕ) × Contains list b × ((a ≡ b) ⊎ Precedes program a b)
          out (i, b, l, e, inl q) = (b, contains_at list i b e, inl q)
          out (i, b, l, e, inr x) = (b, contains_at list i b e, inr ((of_member i b x.0 e x.1 a).0 x.2))

          back : (b : ℕ) × Contains list b × ((a ≡ b) ⊎ Precedes program a b) → IsUnder list (length list) sets a
          back (b, c, o) = go o
            where
              i : (i : ℕ) × (slice_get list i ≡ Some b)
              i = at_contains list b c

              within : i.0 < length list
              within = slice_get_within list i.0 b i.1

              go : (a ≡ b) ⊎ Precedes program a b → IsUnder list (length list) sets a
              go (inl q) = (i.0, b, within, i.1, inl q)
              go (inr p) = let own = get_there sets b (set_of i.0 b i.1) in (i.0, b, within, i.1, inr (own.0, own.1, (of_member i.0 b own.0 i.1 own.1 a).1 p))

      pub ancestors_more : length set ≤ length sets / 64 + 1 → AreAncestorsTo program graph.by_level (k + 1) (slice_set sets r set)
      ancestors_more small = record { as_long = length_written sets r set ∙ so_far.as_long; room = room; right = right }
        where
          known : r < length sets
          known = let l = order_known k r is_r in let n : length sets ≡ length program.reactions = so_far.as_long in omega arith

          room : HaveRoom (length (slice_set sets r set)) (slice_set sets r set)
          room a s q = let n : length (slice_set sets r set) ≡ length sets = length_written sets r set in subst (λ (m : ℕ). length s ≤ m / 64 + 1) (sym n) (go (get_write_cases sets r a set s known q))
            where
              go : ((a ≡ r) × (set ≡ s)) ⊎ ((a ≢ r) × (slice_get sets a ≡ Some s)) → length s ≤ length sets / 64 + 1
              go (inl x) = subst (λ (z : List ℕ). length z ≤ length sets / 64 + 1) x.1 small
              go (inr x) = so_far.room a s x.1

          right : (j b : ℕ) (s : List ℕ) → j < k + 1 → slice_get graph.by_level j ≡ Some b → slice_get (slice_set sets r set) b ≡ Some s → (a : ℕ) → Has s a ↔ Precedes program a b
          right j b s l p q a = go (get_write_cases sets r b set s known q)
            where
              go : ((b ≡ r) × (set ≡ s)) ⊎ ((b ≢ r) × (slice_get sets b ≡ Some s)) → Has s a ↔ Precedes program a b
              go (inl x) = subst (λ (z : ℕ). Has s a ↔ Precedes program a z) (sym x.0) (subst (λ (z : List ℕ). Has z a ↔ Precedes program a r) x.1 (it_precedes a))
              go (inr x) = by (ℕ_discrete j k)
                where
                  by : Dec (j ≡ k) → Has s a ↔ Precedes program a b
                  by (yes d) = absurd (x.0 (same_at graph.by_level j k b r p is_r d))
                  by (no d) = so_far.right j b s (omega arith) p x.1 a

  pub ancestors_end : (k : ℕ) (sets : List (List ℕ)) → length graph.by_level ≤ k → AreAncestorsTo program graph.by_level k sets → AreAncestors program sets
  ancestors_end k sets l h = record { as_long = h.as_long; room = h.room; right = right }
    where
      right : (r : ℕ) (set : List ℕ) → slice_get sets r ≡ Some set → (a : ℕ) → Has set a ↔ Precedes program a r
      right r set q =
          let w : r < length sets = slice_get_within sets r set q in
          let n : length sets ≡ length program.reactions = h.as_long in
          let z = many in
          let c = at_contains graph.by_level r ((is_graph.by_level.all r).1 (omega arith)) in
          let b : c.0 < length graph.by_level = slice_get_within graph.by_level c.0 r c.1 in
          h.right c.0 r set (omega arith) c.1 q

-- Ways along the short lists of a graph, found from the greatest level down.
use Rattle.std.proofs.Common.{◌≡◌, ◌≢◌, ℕ, zero, suc, ◌+◌, ◌-◌, ◌<◌, ◌≤◌, ◌⊎◌, inl, inr, List, [], ◌∷◌, ◌++◌, length, replicate, take, refl, sym, ap, ◌∙◌, subst, arith, Option, Some, None, slice_get, slice_set, slice_index_or, Contains}
use native.Mathlib.Decide.{ℕ_discrete}
use Rattle.std.proofs.lemmas.{List.Elements.All-push, Option.get_or_from_slice_get}
use Rattle.lft_lists.proofs.Places.{get_there, get_same, length_same, same_at, get_write_cases, get_written, get_unwritten, length_written, contains_at, at_contains}
use Rattle.lft_ir.specs.{Parts.Parts, declared.steps.row.Row.Row}
use Rattle.lft_graph.specs.{Before.{IsDeclaredJustBefore, FeedsLast}, Graph.{GraphParts, IsGraphOf}, Precedence.{Precedes, Direct, Precedes.{one, more}}}
use Rattle.lft_graph.proofs.Chains.{snoc}
use Rattle.lft_model.{specs.{declared.breach.Breach.Breach, Plans.PlanParts}, proofs.Places.{slice_get_within, slice_get_take, slice_get_taken}}
use Rattle.lft_facts.specs.{declared.facts.Fact.Fact, Facts.{AreFacts, IsFact, IsShown}}
use Rattle.lft_facts.specs.inner.{Enough.GivesDirect, Ways.{IsMarked, IsMarking, AreThere, InList, LeadsOn, AreWays, AreSteps}}
use Rattle.lft_facts.specs.Enough.{GivesChain, IsOwn, AreOwn}
use Rattle.lft_facts.proofs.Lists.{all_left, all_last}

module _ (list : List ℕ) (i a : ℕ) (is : slice_get list i ≡ Some a) (b : ℕ) (old next : List (Option ℕ)) (so_far : IsMarking (take i list) b old next) where
  -- a number before place i stands before the next place
  before_next : (x : ℕ) → ((j : ℕ) × (slice_get (take i list) j ≡ Some x)) → (j : ℕ) × (slice_get (take (i + 1) list) j ≡ Some x)
  before_next x q = let r = slice_get_take i list q.0 x q.1 in let l : q.0 < i = r.0 in (q.0, slice_get_taken (i + 1) list q.0 x (omega arith) r.1)

  this_one : (j x : ℕ) → slice_get (take (i + 1) list) j ≡ Some x → (x ≡ a) ⊎ (slice_get (take i list) j ≡ Some x)
  this_one j x e = go (ℕ_discrete j i)
    where
      r : (j < i + 1) × (slice_get list j ≡ Some x)
      r = slice_get_take (i + 1) list j x e

      go : Dec (j ≡ i) → (x ≡ a) ⊎ (slice_get (take i list) j ≡ Some x)
      go (yes q) = inl (same_at list j i x a r.1 is q)
      go (no n) = let l : j < i + 1 = r.0 in inr (slice_get_taken i list j x (omega arith) r.1)

  pub marking_same : (c : ℕ) → slice_get next a ≡ Some (Some c) → IsMarking (take (i + 1) list) b old next
  marking_same c e = record { as_long = so_far.as_long; kept = so_far.kept; only = only; all = all }
    where
      only : (x d : ℕ) → slice_get next x ≡ Some (Some d) → (slice_get old x ≡ Some (Some d)) ⊎ ((d ≡ b) × ((j : ℕ) × (slice_get (take (i + 1) list) j ≡ Some x)))
      only x d q = go (so_far.only x d q)
        where
          go : (slice_get old x ≡ Some (Some d)) ⊎ ((d ≡ b) × ((j : ℕ) × (slice_get (take i list) j ≡ Some x))) → (slice_get old x ≡ Some (Some d)) ⊎ ((d ≡ b) × ((j : ℕ) × (slice_get (take (i + 1) list) j ≡ Some x)))
          go (inl p) = inl p
          go (inr p) = inr (p.0, before_next x p.1)

      all : (j x : ℕ) → slice_get (take (i + 1) list) j ≡ Some x → IsMarked next x
      all j x q = go (this_one j x q)
        where
          go : (x ≡ a) ⊎ (slice_get (take i list) j ≡ Some x) → IsMarked next x
          go (inl s) = (c, ap (slice_get next) s ∙ e)
          go (inr s) = so_far.all j x s

  pub marking_more : slice_get next a ≡ Some None → (new : List (Option ℕ)) → new ≡ slice_set next a (Some b) → IsMarking (take (i + 1) list) b old new
  marking_more e new is_new = subst (λ (ns : List (Option ℕ)). IsMarking (take (i + 1) list) b old ns) (sym is_new) (record { as_long = length_written next a (Some b) ∙ so_far.as_long; kept = kept; only = only; all = all })
    where
      within : a < length next
      within = slice_get_within next a None e

      stays : (x c : ℕ) → slice_get next x ≡ Some (Some c) → slice_get (slice_set next a (Some b)) x ≡ Some (Some c)
      stays x c q = get_unwritten next a x (Some b) (λ s. let z : Some (Some c) ≡ Some None = sym q ∙ ap (slice_get next) s ∙ e in absurd (cc)) ∙ q

      kept : (x c : ℕ) → slice_get old x ≡ Some (Some c) → slice_get (slice_set next a (Some b)) x ≡ Some (Some c)
      kept x c q = stays x c (so_far.kept x c q)

      only : (x d : ℕ) → slice_get (slice_set next a (Some b)) x ≡ Some (Some d) → (slice_get old x ≡ Some (Some d)) ⊎ ((d ≡ b) × ((j : ℕ) × (slice_get (take (i + 1) list) j ≡ Some x)))
      only x d q = go (get_write_cases next a x (Some b) (Some d) within q)
        where
          under : (slice_get old x ≡ Some (Some d)) ⊎ ((d ≡ b) × ((j : ℕ) × (slice_get (take i list) j ≡ Some x))) → (slice_get old x ≡ Some (Some d)) ⊎ ((d ≡ b) × ((j : ℕ) × (slice_get (take (i + 1) list) j ≡ Some x)))
          under (inl p) = inl p
          under (inr p) = inr (p.0, before_next x p.1)

          go : ((x ≡ a) × (Some b ≡ Some d)) ⊎ ((x ≢ a) × (slice_get next x ≡ Some (Some d))) → (slice_get old x ≡ Some (Some d)) ⊎ ((d ≡ b) × ((j : ℕ) × (slice_get (take (i + 1) list) j ≡ Some x)))
          go (inl p) = let z : Some b ≡ Some d = p.1 in let y : d ≡ b = cc in inr (y, (i, slice_get_taken (i + 1) list i x (omega arith) (is ∙ ap Some (sym p.0))))
          go (inr p) = under (so_far.only x d p.1)

      all : (j x : ℕ) → slice_get (take (i + 1) list) j ≡ Some x → IsMarked (slice_set next a (Some b)) x
      all j x q = go (this_one j x q)
        where
          go : (x ≡ a) ⊎ (slice_get (take i list) j ≡ Some x) → IsMarked (slice_set next a (Some b)) x
          go (inl s) = (b, ap (slice_get (slice_set next a (Some b))) s ∙ get_written next a (Some b) within)
          go (inr s) = let m = so_far.all j x s in (m.0, stays x m.0 m.1)

-- the level that a number has
abbrev pub level_of : GraphParts → ℕ → ℕ
level_of graph a = slice_index_or graph.levels a 0

-- ways that are right, and whole for the reactions from place i on in the order of levels
pub record WaysFrom (graph : GraphParts) (last i : ℕ) (next : List (Option ℕ)) : Type 0 where
  pub within : i ≤ length graph.by_level
  pub as_long : length next ≡ length graph.before
  pub steps : (a b : ℕ) → slice_get next a ≡ Some (Some b) → InList graph a b × LeadsOn last next b
  pub below : (a : ℕ) → IsMarked next a → level_of graph a < level_of graph last
  pub behind : (j b : ℕ) → i ≤ j → slice_get graph.by_level j ≡ Some b → LeadsOn last next b → (a : ℕ) → InList graph a b → IsMarked next a

module _ (program : Parts) (graph : GraphParts) (is_graph : IsGraphOf program graph) where
  pub direct_of : (a b : ℕ) → InList graph a b → IsDeclaredJustBefore program a b ⊎ FeedsLast program a b
  direct_of a b m = ((is_graph.before b m.0 m.2).members a).0 (contains_at m.0 m.1 a m.3)

  from_there : (a b : ℕ) → IsDeclaredJustBefore program a b ⊎ FeedsLast program a b → a < length program.reactions
  from_there a b (inl d) = slice_get_within program.reactions a d.first d.is_first
  from_there a b (inr d) = slice_get_within program.reactions a d.1.writes.writer d.1.writes.is_writer

  to_there : (a b : ℕ) → IsDeclaredJustBefore program a b ⊎ FeedsLast program a b → b < length program.reactions
  to_there a b (inl d) = slice_get_within program.reactions b d.second d.is_second
  to_there a b (inr d) = slice_get_within program.reactions b d.2.reader d.2.is_reader

  pub in_list : (a b : ℕ) → IsDeclaredJustBefore program a b ⊎ FeedsLast program a b → InList graph a b
  in_list a b d =
      let l : b < length program.reactions = to_there a b d in
      let n : length graph.before ≡ length program.reactions = is_graph.as_long in
      let list = get_there graph.before b (omega arith) in
      let i = at_contains list.0 a (((is_graph.before b list.0 list.1).members a).1 d) in
      (list.0, i.0, list.1, i.1)

  pub from_known : (a b : ℕ) → InList graph a b → a < length program.reactions
  from_known a b m = from_there a b (direct_of a b m)

  pub to_known : (a b : ℕ) → InList graph a b → b < length program.reactions
  to_known a b m = to_there a b (direct_of a b m)

  -- how many levels there are
  as_many : length graph.levels ≡ length program.reactions
  as_many = is_graph.levels.as_long ∙ is_graph.as_long

  pub rises : (a b : ℕ) → InList graph a b → level_of graph a < level_of graph b
  rises a b m =
      let l : a < length program.reactions = from_known a b m in
      let h : b < length program.reactions = to_known a b m in
      let n : length graph.levels ≡ length program.reactions = as_many in
      let k = get_there graph.levels a (omega arith) in
      let j = get_there graph.levels b (omega arith) in
      let less : k.0 < j.0 = is_graph.levels.above a b k.0 j.0 m.0 m.2 (contains_at m.0 m.1 a m.3) k.1 j.1 in
      let e : level_of graph a ≡ k.0 = get_or_from_slice_get graph.levels a k.0 0 k.1 in
      let f : level_of graph b ≡ j.0 = get_or_from_slice_get graph.levels b j.0 0 j.1 in
      omega arith

  -- of two reactions in the order of levels the first has no higher level
  no_higher : (i j b c : ℕ) → i < j → slice_get graph.by_level i ≡ Some c → slice_get graph.by_level j ≡ Some b → ¬ InList graph b c
  no_higher i j b c l e f m =
      let up : level_of graph b < level_of graph c = rises b c m in
      let lb : b < length program.reactions = from_known b c m in
      let lc : c < length program.reactions = to_known b c m in
      let n : length graph.levels ≡ length program.reactions = as_many in
      let k = get_there graph.levels c (omega arith) in
      let h = get_there graph.levels b (omega arith) in
      let d : level_of graph c ≡ k.0 = get_or_from_slice_get graph.levels c k.0 0 k.1 in
      let g : level_of graph b ≡ h.0 = get_or_from_slice_get graph.levels b h.0 0 h.1 in
      go (is_graph.by_level.ordered i j c b k.0 h.0 l e f k.1 h.1) (subst (λ n. level_of graph b < n) d (subst (λ n. n < level_of graph c) refl up)) g
    where
      go : {k h : ℕ} → (k < h) ⊎ ((k ≡ h) × (c < b)) → level_of graph b < k → level_of graph b ≡ h → ⊥
      go (inl p) q r = absurd (omega arith)
      go (inr p) q r = let s = p.0 in absurd (omega arith)

  module _ (last i c : ℕ) (is : slice_get graph.by_level i ≡ Some c) (old : List (Option ℕ)) (so_far : WaysFrom graph last (i + 1) old) where
    within_next : i ≤ length graph.by_level
    within_next = let l : i + 1 ≤ length graph.by_level = so_far.within in omega arith

    -- a reaction from which no way leads on
    pub ways_pass : ¬ LeadsOn last old c → WaysFrom graph last i old
    ways_pass n = record { within = within_next; as_long = so_far.as_long; steps = so_far.steps; below = so_far.below; behind = behind }
      where
        behind : (j b : ℕ) → i ≤ j → slice_get graph.by_level j ≡ Some b → LeadsOn last old b → (a : ℕ) → InList graph a b → IsMarked old a
        behind j b l e o a m = go (ℕ_discrete j i)
          where
            go : Dec (j ≡ i) → IsMarked old a
            go (yes q) = absurd (n (subst (λ (x : ℕ). LeadsOn last old x) (same_at graph.by_level j i b c e is q) o))
            go (no q) = so_far.behind j b (omega arith) e o a m

    -- a reaction from which a way leads on: one leads on from all in its list
    pub ways_mark : LeadsOn last old c → (list : List ℕ) → slice_get graph.before c ≡ Some list → (new : List (Option ℕ)) → IsMarking list c old new → WaysFrom graph last i new
    ways_mark on list is_list new marking = record { within = within_next; as_long = marking.as_long ∙ so_far.as_long; steps = steps; below = below; behind = behind }
      where
        keeps : (a : ℕ) → IsMarked old a → IsMarked new a
        keeps a m = (m.0, marking.kept a m.0 m.1)

        leads : (b : ℕ) → LeadsOn last old b → LeadsOn last new b
        leads b (inl e) = inl e
        leads b (inr m) = inr (keeps b m)

        steps : (a b : ℕ) → slice_get new a ≡ Some (Some b) → InList graph a b × LeadsOn last new b
        steps a b e = go (marking.only a b e)
          where
            go : (slice_get old a ≡ Some (Some b)) ⊎ ((b ≡ c) × ((j : ℕ) × (slice_get list j ≡ Some a))) → InList graph a b × LeadsOn last new b
            go (inl q) = let s = so_far.steps a b q in (s.0, leads b s.1)
            go (inr q) = subst (λ (x : ℕ). InList graph a x × LeadsOn last new x) (sym q.0) ((list, q.1.0, is_list, q.1.1), leads c on)

        below : (a : ℕ) → IsMarked new a → level_of graph a < level_of graph last
        below a m = go (marking.only a m.0 m.1)
          where
            on_level : LeadsOn last old c → level_of graph a < level_of graph c → level_of graph a < level_of graph last
            on_level (inl e) l = subst (λ (x : ℕ). level_of graph a < level_of graph x) e l
            on_level (inr o) l = let h : level_of graph c < level_of graph last = so_far.below c o in omega arith

            go : (slice_get old a ≡ Some (Some m.0)) ⊎ ((m.0 ≡ c) × ((j : ℕ) × (slice_get list j ≡ Some a))) → level_of graph a < level_of graph last
            go (inl q) = so_far.below a (m.0, q)
            go (inr q) = on_level on (rises a c (list, q.1.0, is_list, q.1.1))

        behind : (j b : ℕ) → i ≤ j → slice_get graph.by_level j ≡ Some b → LeadsOn last new b → (a : ℕ) → InList graph a b → IsMarked new a
        behind j b l e o a m = go (ℕ_discrete j i)
          where
            here : b ≡ c → IsMarked new a
            here q =
                let s : m.0 ≡ list = same_list (ap (λ (x : ℕ). slice_get graph.before x) q) in
                marking.all m.1 a (ap (λ (xs : List ℕ). slice_get xs m.1) (sym s) ∙ m.3)
              where
                same_list : slice_get graph.before b ≡ slice_get graph.before c → m.0 ≡ list
                same_list p = let z : Some m.0 ≡ Some list = sym m.2 ∙ p ∙ is_list in cc

            later : i < j → LeadsOn last new b → IsMarked new a
            later k (inl q) = keeps a (so_far.behind j b (omega arith) e (inl q) a m)
            later k (inr q) = by (marking.only b q.0 q.1)
              where
                by : (slice_get old b ≡ Some (Some q.0)) ⊎ ((q.0 ≡ c) × ((x : ℕ) × (slice_get list x ≡ Some b))) → IsMarked new a
                by (inl p) = keeps a (so_far.behind j b (omega arith) e (inr (q.0, p)) a m)
                by (inr p) = absurd (no_higher i j b c k is e (list, p.1.0, is_list, p.1.1))

            go : Dec (j ≡ i) → IsMarked new a
            go (yes q) = here (same_at graph.by_level j i b c e is q)
            go (no n) = later (omega arith) o

  pub ways_end : (last : ℕ) (next : List (Option ℕ)) → WaysFrom graph last 0 next → AreWays graph last next
  ways_end last next w = record { as_long = w.as_long; steps = w.steps; below = w.below; all = all }
    where
      all : (a b : ℕ) → LeadsOn last next b → InList graph a b → IsMarked next a
      all a b o m =
          let l : b < length program.reactions = to_known a b m in
          let n : length graph.levels ≡ length program.reactions = as_many in
          let j = at_contains graph.by_level b ((is_graph.by_level.all b).1 (omega arith)) in
          w.behind j.0 b (omega arith) j.1 o a m

  -- whatever precedes the last reaction has a way there
  module _ (last : ℕ) (next : List (Option ℕ)) (ways : AreWays graph last next) where
    end_there : (a b : ℕ) → Direct program a b → b < length program.reactions
    end_there a b (inl d) = slice_get_within program.reactions b d.second d.is_second
    end_there a b (inr d) = slice_get_within program.reactions b d.reader d.is_reader

    ends_there : (a b : ℕ) → Precedes program a b → b < length program.reactions
    ends_there a b (one d) = end_there a b d
    ends_there a b (more d p) = ends_there _ b p

    reach : (n x : ℕ) → level_of graph x < n → LeadsOn last next x → (a : ℕ) → Precedes program a x → IsMarked next a
    reach zero x l on a p = absurd (omega arith)
    reach (suc n) x l on a p = go c.2 (λ q. reach n c.0 (let h : level_of graph c.0 < level_of graph x = rises c.0 x member in omega arith) (inr marked) a q)
      where
        list : (xs : List ℕ) × (slice_get graph.before x ≡ Some xs)
        list = let k : x < length program.reactions = ends_there a x p in let m : length graph.before ≡ length program.reactions = is_graph.as_long in get_there graph.before x (omega arith)

        c : (b : ℕ) × Contains list.0 b × ((a ≡ b) ⊎ Precedes program a b)
        c = (is_graph.chains a x list.0 list.1).0 p

        member : InList graph c.0 x
        member = let i = at_contains list.0 c.0 c.1 in (list.0, i.0, list.1, i.1)

        marked : IsMarked next c.0
        marked = ways.all c.0 x on member

        go : (a ≡ c.0) ⊎ Precedes program a c.0 → (Precedes program a c.0 → IsMarked next a) → IsMarked next a
        go (inl e) rest = subst (λ (y : ℕ). IsMarked next y) (sym e) marked
        go (inr q) rest = rest q

    pub all_marked : (a : ℕ) → Precedes program a last → IsMarked next a
    all_marked a p = reach (suc (level_of graph last)) last (omega arith) (inl refl) a p

  -- the next reaction on a way is nearer to the last one
  pub nearer : (last : ℕ) (next : List (Option ℕ)) → AreWays graph last next → (at after : ℕ) → slice_get next at ≡ Some (Some after) → level_of graph last - level_of graph after < level_of graph last - level_of graph at
  nearer last next ways at after e = go (ways.steps at after e).1 (rises at after (ways.steps at after e).0)
    where
      go : LeadsOn last next after → level_of graph at < level_of graph after → level_of graph last - level_of graph after < level_of graph last - level_of graph at
      go (inl q) l = let s : level_of graph after ≡ level_of graph last = ap (level_of graph) q in omega arith
      go (inr m) l = let s : level_of graph after < level_of graph last = ways.below after m in omega arith

  pub list_there : (c : ℕ) (list : List ℕ) → slice_get graph.before c ≡ Some list → (n : ℕ) → n ≡ length graph.before → AreThere n list
  list_there c list e n s i a f = let l : a < length program.reactions = from_known a c (list, i, e, f) in let m : length graph.before ≡ length program.reactions = is_graph.as_long in omega arith

-- facts that lead from the first reaction to this one, from which a way leads on
pub record ChainTo (plan : PlanParts) (graph : GraphParts) (next : List (Option ℕ)) (facts : List Fact) (first at last : ℕ) : Type 0 where
  pub leads : LeadsOn last next at
  pub holds : (t : List Row) → AreFacts plan t facts
  pub gives : ((first ≡ at) × IsMarked next first) ⊎ GivesChain facts first at
  pub own : (b : Breach) → AreOwn b facts

module _ (plan : PlanParts) (graph : GraphParts) (next : List (Option ℕ)) (first last : ℕ) where
  pub chain_more : AreWays graph last next → (facts : List Fact) (at after : ℕ) (f : Fact) (new : List Fact) → ChainTo plan graph next facts first at last → slice_get next at ≡ Some (Some after) → ((t : List Row) → IsFact plan t f) → GivesDirect f at after → ((b : Breach) → IsOwn b f) → new ≡ facts ++ f ∷ [] → ChainTo plan graph next new first after last
  chain_more ways facts at after f new so_far e holds gives own is_new = subst (λ (fs : List Fact). ChainTo plan graph next fs first after last) (sym is_new) (record { leads = (ways.steps at after e).1; holds = λ t. All-push (IsFact plan t) facts f (so_far.holds t) (holds t); gives = inr (go so_far.gives); own = λ b. All-push (IsOwn b) facts f (so_far.own b) (own b) })
    where
      go : ((first ≡ at) × IsMarked next first) ⊎ GivesChain facts first at → GivesChain (facts ++ f ∷ []) first after
      go (inl q) p t all = one (subst (λ (x : ℕ). Direct p.program x after) (sym q.0) (gives p t (all_last (IsShown p t) facts f all)))
      go (inr q) p t all = snoc p.program first at after (q p t (all_left (IsShown p t) facts (f ∷ []) all)) (gives p t (all_last (IsShown p t) facts f all))

  pub chain_ends : (facts : List Fact) (at : ℕ) → ChainTo plan graph next facts first at last → ¬ IsMarked next at → GivesChain facts first last
  chain_ends facts at so_far n = go so_far.leads so_far.gives
    where
      go : LeadsOn last next at → ((first ≡ at) × IsMarked next first) ⊎ GivesChain facts first at → GivesChain facts first last
      go (inr m) g = absurd (n m)
      go (inl e) (inl q) = absurd (n (subst (λ (x : ℕ). IsMarked next x) q.0 q.1))
      go (inl e) (inr q) = subst (λ (x : ℕ). GivesChain facts first x) e q

-- the places that the short list of the last reaction marks are those of the list
pub steps_marked : (graph : GraphParts) (last : ℕ) (list : List ℕ) → slice_get graph.before last ≡ Some list → (n : ℕ) → n ≡ length graph.before → (old new : List (Option ℕ)) → old ≡ replicate n None → IsMarking list last old new → AreSteps graph last new
steps_marked graph last list is_list n as_many old new is_old marking = record { as_long = marking.as_long ∙ ap length is_old ∙ length_same n None ∙ as_many; marked = λ a. (in_list a, is_marked a) }
  where
    in_list : (a : ℕ) → IsMarked new a → InList graph a last
    in_list a m = go (marking.only a m.0 m.1)
      where
        go : (slice_get old a ≡ Some (Some m.0)) ⊎ ((m.0 ≡ last) × ((i : ℕ) × (slice_get list i ≡ Some a))) → InList graph a last
        go (inl p) = let z : Some m.0 ≡ None = get_same n a None (Some m.0) (ap (λ os. slice_get os a) (sym is_old) ∙ p) in absurd (cc)
        go (inr p) = (list, p.1.0, is_list, p.1.1)

    is_marked : (a : ℕ) → InList graph a last → IsMarked new a
    is_marked a i = let z : Some i.0 ≡ Some list = sym i.2 ∙ is_list in let s : i.0 ≡ list = cc in marking.all i.1 a (ap (λ (xs : List ℕ). slice_get xs i.1) (sym s) ∙ i.3)

-- from a reaction in the short list of the last one a way leads on
pub step_leads : (graph : GraphParts) (last : ℕ) (near next : List (Option ℕ)) → AreSteps graph last near → AreWays graph last next → (a : ℕ) → IsMarked near a → IsMarked next a
step_leads graph last near next steps ways a m = ways.all a last (inl refl) ((steps.marked a).0 m)

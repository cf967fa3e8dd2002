-- Where the first run that doesn't agree is, all before it is the same.
use Rattle.std.proofs.Common.{◌≡◌, ℕ, zero, suc, ◌<◌, ◌⊎◌, inl, inr, List, length, refl, sym, ap, subst, arith, Option, Some, None}
use native.Mathlib.Decide.{dec_lt}
use Rattle.lft_tag.specs.declared.Tag.{Tag}
use Rattle.lft_ir.specs.{Parts.Parts, declared.steps.row.Row.Row}
use Rattle.lft_graph.specs.{Precedence.{Direct, Precedes, Precedes.{one, more}}, Graph.{GraphParts, IsGraphOf}}
use Rattle.lft_graph.proofs.Ancestry.{level_there, lower as less_level, precedes_known}
use Rattle.lft_model.specs.{Plans.{PlanParts, IsSoundPlan}, Runs.Ran, Recorded.SameRuns, Breaches.Legal}
use Rattle.lft_model.proofs.{Places.slice_get_within, Decided.dec_ran}
use Rattle.lft_model.proofs.Agree.{SameRun, swap, IsBefore, SameBefore, ran_same, history_same, reads_same, agree, values_same, absent_same}
use Rattle.lft_pair.specs.{declared.comparison.Pair.TheVariants.{Same, Differ}, Pairs.{ComesFirst, IsDifference, IsComparison}}
use Rattle.lft_pair.specs.inner.Pairs.{Agrees, IsFirstOdd, FirstOdd}
use Rattle.lft_pair.proofs.Odd.{first_trans}

-- what is so of a run where it is so of all that comes before it, is so of every run
module _ (plan : PlanParts) (good : IsSoundPlan plan) (P : Tag → ℕ → Type 0) (next : (g : Tag) (r : ℕ) → ((h : Tag) (a : ℕ) → IsBefore plan g r h a → P h a) → P g r) where
  rising : {a b : ℕ} → Precedes plan.program a b → good.levels.level a < good.levels.level b
  rising {a} {b} (one d) = good.levels.rises a b d
  rising {a} {b} (more {b = m} d p) = let x : good.levels.level a < good.levels.level m = good.levels.rises a m d in let y : good.levels.level m < good.levels.level b = rising p in omega arith

  abbrev Below : ℕ → ℕ → ℕ → Tag → ℕ → Type 0
  Below time micro level h a = (h.time < time) ⊎ (((h.time ≡ time) × (h.micro < micro)) ⊎ ((h.time ≡ time) × (h.micro ≡ micro) × (good.levels.level a < level)))

  abbrev Upto : ℕ → ℕ → ℕ → Type 0
  Upto time micro level = (h : Tag) (a : ℕ) → Below time micro level h a → P h a

  before_of : (h : Tag) (a : ℕ) → Upto h.time h.micro (good.levels.level a) → (k : Tag) (c : ℕ) → IsBefore plan h a k c → P k c
  before_of h a u k c (inl (inl l)) = u k c (inl l)
  before_of h a u k c (inl (inr p)) = u k c (inr (inl p))
  before_of h a u k c (inr p) = u k c (inr (inr (ap (λ (x : Tag). x.time) p.0, ap (λ (x : Tag). x.micro) p.0, rising p.1)))

  level_up : (time micro : ℕ) → Upto time micro 0 → (level : ℕ) → Upto time micro level
  level_up time micro u zero = u
  level_up time micro u (suc level) = step (level_up time micro u level)
    where
      step : Upto time micro level → Upto time micro (suc level)
      step w h a (inl l) = w h a (inl l)
      step w h a (inr (inl p)) = w h a (inr (inl p))
      step w h a (inr (inr p)) = at (dec_lt (good.levels.level a) level)
        where
          at : Dec (good.levels.level a < level) → P h a
          at (yes l) = w h a (inr (inr (p.0, p.1, l)))
          at (no n) =
              let q : good.levels.level a < suc level = p.2 in
              let e : good.levels.level a ≡ level = omega arith in
              next h a (before_of h a (λ k c b. w k c (subst (λ (x : ℕ). Below x micro level k c) p.0 (subst (λ (x : ℕ). Below h.time x level k c) p.1 (subst (λ (x : ℕ). Below h.time h.micro x k c) e b)))))

  micro_up : (time : ℕ) → Upto time 0 0 → (micro level : ℕ) → Upto time micro level
  micro_up time u zero = level_up time 0 u
  micro_up time u (suc micro) = level_up time (suc micro) (start (micro_up time u micro))
    where
      start : ((level : ℕ) → Upto time micro level) → Upto time (suc micro) 0
      start w h a (inl l) = w 0 h a (inl l)
      start w h a (inr (inl p)) = at (dec_lt h.micro micro)
        where
          at : Dec (h.micro < micro) → P h a
          at (yes l) = w 0 h a (inr (inl (p.0, l)))
          at (no n) = let q : h.micro < suc micro = p.1 in w (suc (good.levels.level a)) h a (inr (inr (p.0, omega arith, omega arith)))
      start w h a (inr (inr p)) = let l : good.levels.level a < 0 = p.2 in absurd (omega arith)

  time_up : (time micro level : ℕ) → Upto time micro level
  time_up zero = micro_up 0 start
    where
      start : Upto 0 0 0
      start h a (inl l) = absurd (omega arith)
      start h a (inr (inl p)) = let l : h.micro < 0 = p.1 in absurd (omega arith)
      start h a (inr (inr p)) = let l : good.levels.level a < 0 = p.2 in absurd (omega arith)
  time_up (suc time) = micro_up (suc time) (start (time_up time))
    where
      start : ((micro level : ℕ) → Upto time micro level) → Upto (suc time) 0 0
      start w h a (inl l) = at (dec_lt h.time time)
        where
          at : Dec (h.time < time) → P h a
          at (yes k) = w 0 0 h a (inl k)
          at (no n) = w (suc h.micro) 0 h a (inr (inl (omega arith, omega arith)))
      start w h a (inr (inl p)) = let l : h.micro < 0 = p.1 in absurd (omega arith)
      start w h a (inr (inr p)) = let l : good.levels.level a < 0 = p.2 in absurd (omega arith)

  pub by_order : (g : Tag) (r : ℕ) → P g r
  by_order g r = time_up g.time g.micro (suc (good.levels.level r)) g r (inr (inr (refl, refl, omega arith)))

-- what precedes a reaction has a lower level in the graph
module _ (program : Parts) (graph : GraphParts) (is_graph : IsGraphOf program graph) where
  arrives : (a r : ℕ) → Direct program a r → r < length program.reactions
  arrives a r (inl d) = slice_get_within program.reactions r d.second d.is_second
  arrives a r (inr d) = slice_get_within program.reactions r d.reader d.is_reader

  to_there : (a r : ℕ) → Precedes program a r → r < length program.reactions
  to_there a r (one d) = arrives a r d
  to_there a r (more {b = m} d p) = to_there m r p

  pub lower : (g : Tag) (a r : ℕ) → Precedes program a r → ComesFirst graph.levels g a g r
  lower g a r p = let k = level_there program graph is_graph a (precedes_known program a r p) in let l = level_there program graph is_graph r (to_there a r p) in inr (refl, (k.0, l.0, k.1, l.1, inl (less_level program graph is_graph (suc l.0) a r k.0 l.0 (omega arith) p k.1 l.1)))

  pub is_first : (g : Tag) (r : ℕ) (plan : PlanParts) → plan.program ≡ program → (h : Tag) (a : ℕ) → IsBefore plan g r h a → ComesFirst graph.levels h a g r
  is_first g r plan e h a (inl b) = inl b
  is_first g r plan e h a (inr b) = subst (λ (z : Tag). ComesFirst graph.levels z a g r) (sym b.0) (lower g a r (subst (λ (q : Parts). Precedes q a r) e b.1))

module _ (plan : PlanParts) (good : IsSoundPlan plan) (t s : List Row) (first : Legal plan t) (second : Legal plan s) where
  back_before : (g : Tag) (r : ℕ) → SameBefore plan t s g r → SameBefore plan s t g r
  back_before g r same h a b = swap plan t s h a (same h a b)

  -- one run more is the same, where it agrees or isn't there
  one_more : (g : Tag) (r : ℕ) → SameBefore plan t s g r → (Ran t g r → Agrees plan t s g r) → SameRun plan t s g r
  one_more g r same alike = go (dec_ran t g r)
    where
      go : Dec (Ran t g r) → SameRun plan t s g r
      go (yes o) = let u = alike o in record { there = λ q. u.0; back = λ q. o; answers = u.1; reads = reads_same plan good t s first second g r same o }
      go (no n) = absent_same plan t s first second g r n (λ q. n (ran_same plan good s t second first g r (back_before g r same) q))

  module _ (graph : GraphParts) (is_graph : IsGraphOf plan.program graph) (g : Tag) (r : ℕ) (odd : IsFirstOdd plan graph.levels t s (g, r)) where
    same_first : (h : Tag) (a : ℕ) → ComesFirst graph.levels h a g r → SameRun plan t s h a
    same_first = by_order plan good (λ h a. ComesFirst graph.levels h a g r → SameRun plan t s h a) (λ h a so_far l. one_more h a (λ k c b. so_far k c b (first_trans graph.levels k h g c a r (is_first plan.program graph is_graph h a plan refl k c b) l)) (λ o. odd.before h a o l))

    same_before : SameBefore plan t s g r
    same_before h a b = same_first h a (is_first plan.program graph is_graph g r plan refl h a b)

    other_ran : Ran s g r
    other_ran = ran_same plan good t s first second g r same_before odd.ran

    pub is_difference : IsDifference plan t s g r
    is_difference = record {
      graph = graph;
      is_graph = is_graph;
      first_ran = odd.ran;
      second_ran = other_ran;
      same_history = history_same plan good t s first second g r same_before;
      same_reads = reads_same plan good t s first second g r same_before odd.ran;
      other_answer = λ e. odd.odd (other_ran, e);
      same_before = λ h a l. let z = same_first h a l in record { there = z.there; back = z.back; reads = λ o. z.reads; answers = λ o. z.answers };
    }

  module _ (alike : (h : Tag) (a : ℕ) → Ran t h a → Agrees plan t s h a) where
    same_runs : SameRuns plan t s
    same_runs = agree plan good t s first second (λ g r o u h e. (alike g r o).1)

    runs_back : SameRuns plan s t
    runs_back = record { there = same_runs.back; back = same_runs.there; reads = λ g r o. sym (same_runs.reads g r (same_runs.back g r o)); answers = λ g r o. sym (same_runs.answers g r (same_runs.back g r o)) }

    pub is_same : IsComparison plan t s Same
    is_same = record { is_pair = same_runs; exact = (λ e. same_runs, λ u. refl); values = λ e g n v. (values_same plan good t s first second same_runs g n v, values_same plan good s t second first runs_back g n v) }

  pub is_other : (g : Tag) (r : ℕ) → IsDifference plan t s g r → IsComparison plan t s (Differ g r)
  is_other g r d = record { is_pair = d; exact = (λ e. absurd (cc), λ u. absurd (d.other_answer (u.answers g r d.first_ran))); values = λ e. absurd (cc) }

  -- what is found among the rows tells what the comparison is
  pub compare_some : (a b : List Row) (o : Option (Tag × ℕ)) (g : Tag) (r : ℕ) → a ≡ t → b ≡ s → o ≡ Some (g, r) → ((graph : GraphParts) × IsGraphOf plan.program graph × FirstOdd plan graph.levels a b o) → IsComparison plan t s (Differ g r)
  compare_some a b o g r p q e w = is_other g r (is_difference w.0 w.1 g r (subst (λ (z : Option (Tag × ℕ)). FirstOdd plan w.0.levels t s z) e (subst (λ (z : List Row). FirstOdd plan w.0.levels t z o) q (subst (λ (z : List Row). FirstOdd plan w.0.levels z b o) p w.2))))

  pub compare_none : (a b : List Row) (o : Option (Tag × ℕ)) → a ≡ t → b ≡ s → o ≡ None → ((graph : GraphParts) × IsGraphOf plan.program graph × FirstOdd plan graph.levels a b o) → IsComparison plan t s Same
  compare_none a b o p q e w = is_same (subst (λ (z : Option (Tag × ℕ)). FirstOdd plan w.0.levels t s z) e (subst (λ (z : List Row). FirstOdd plan w.0.levels t z o) q (subst (λ (z : List Row). FirstOdd plan w.0.levels z b o) p w.2)))

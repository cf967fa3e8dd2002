-- A legal trace is an execution by one worker in order of its ends.
use Rattle.std.proofs.Common.{◌≡◌, ℕ, zero, suc, ◌+◌, ◌<◌, ◌≤◌, ◌⊎◌, inl, inr, List, [], ◌∷◌, ◌++◌, length, length-append, take, refl, sym, ap, ◌∙◌, subst, arith, Option, Some, None, slice_get, filter_map, option_map, unwrap_or}
use Rattle.std.specs.List.{cons_option}
use Rattle.lft_tag.{specs.{declared.Tag.Tag, Tags.{Before, UpTo}}, proofs.Order.{order_cases, UpTo-trans, UpTo-refl, Before-weaken}}
use Rattle.lft_lists.proofs.Members.{Mem, mem_get, get_mem, mem_filter, mem_from_filter}
use Rattle.lft_ir.specs.declared.parts.{Reaction.Reaction, Name.{Name, TheVariants.{Port, Action}}}
use Rattle.lft_ir.specs.declared.steps.row.{Row.Row, Step.{Step, TheVariants.{Start, Read, Write, Schedule, Stop, End}}}
use Rattle.lft_model.specs.{Plans.{PlanParts, IsSoundPlan}, Presence.{stop, scheduled, given, min_delay, Triggered, Inputs, Collision, ClashesAt}}
use Rattle.lft_model.specs.{Runs.{Run, Ran, end_row, effects_of, reads_at, run_at, ended_by, by_ends, rows_of}, Breaches.Legal}
use Rattle.lft_model.specs.OneWorker.{HasRun, IsPending, Ready, Next, Path, NoClash, OneWorker, rows}
use Rattle.lft_model.proofs.Places.{slice_get_within, stable, slice_get_take, slice_get_taken, From, filter_map_get}
use Rattle.lft_model.proofs.Ended.{ended_before, all_ended, ended_some, row_is, written_down, stop_down}
use Rattle.lft_model.proofs.Legality.{KeepsFour, four, ordered, opened, ended, one_end, keeps_at, ran_in_time, no_collision}
use Rattle.lft_model.proofs.Reached.{triggered_down, triggered_up, all_stop, inputs_up, preceding_ended, earlier_ended}
use Rattle.lft_model.proofs.{Counted.{Key, NamesApart, names_apart, end_key, OneKey, rows_bound}, Answered.answers_well}
use Rattle.lft_model.proofs.Decided.{dec_ran, dec_triggered, dec_inputs}
use Rattle.lft_graph.specs.Precedence.{Precedes}

take_more : {X Y : Type 0} (h : X → Option Y) (xs : List X) (i : ℕ) (x : X) (y : Y) → slice_get xs i ≡ Some x → h x ≡ Some y → filter_map h (take (suc i) xs) ≡ filter_map h (take i xs) ++ y ∷ []
take_more h [] i x y e p = absurd (cc)
take_more h (z ∷ zs) zero x y e p = let q : h z ≡ Some y = cc in rw q refl
take_more {X} {Y} h (z ∷ zs) (suc i) x y e p = go (h z) (take_more h zs i x y e p)
  where
    go : (o : Option Y) → filter_map h (take (suc i) zs) ≡ filter_map h (take i zs) ++ y ∷ [] → cons_option o (filter_map h (take (suc i) zs)) ≡ cons_option o (filter_map h (take i zs)) ++ y ∷ []
    go None q = q
    go (Some v) q = ap (λ ys. v ∷ ys) q

-- a run among those that ended before a place has its end row there
pub record EndRow (t : List Row) (i : ℕ) (g : Tag) (r : ℕ) : Type 0 where
  pub place : ℕ
  pub worker : ℕ
  pub before : place < i
  pub ends : slice_get t place ≡ Some (end_row worker g r)

pub end_of_run : (plan : PlanParts) (t : List Row) (i : ℕ) (g : Tag) (r : ℕ) → HasRun (ended_before plan t i) g r → EndRow t i g r
end_of_run plan t i g r o =
    let m = mem_from_filter (λ row. ended_by plan t row row.step) (take i t) o.run (mem_get (ended_before plan t i) o.place o.run o.is_run) in
    let k = get_mem m.0 (take i t) m.1 in
    let p = slice_get_take i t k.0 m.0 k.1 in
    let e = ended_some plan t m.0 m.0.step o.run m.2 in
    let a : m.0.tag ≡ g = ap (λ (u : Run). u.tag) e.1 ∙ o.same_tag in
    let b : m.0.reaction ≡ r = ap (λ (u : Run). u.reaction) e.1 ∙ o.same_reaction in
    record { place = k.0; worker = m.0.worker; before = p.0; ends = p.1 ∙ ap Some (row_is m.0 m.0.worker g r End refl a b e.0) }

pub run_of_end : (plan : PlanParts) (t : List Row) (i : ℕ) (g : Tag) (r : ℕ) → EndRow t i g r → HasRun (ended_before plan t i) g r
run_of_end plan t i g r o =
    let e : Row = end_row o.worker g r in
    let a : Mem e (take i t) = mem_get (take i t) o.place e (slice_get_taken i t o.place e o.before o.ends) in
    let b : Mem (run_at plan t g r) (ended_before plan t i) = mem_filter (λ row. ended_by plan t row row.step) e (run_at plan t g r) (take i t) a refl in
    let k = get_mem (run_at plan t g r) (ended_before plan t i) b in
    record { place = k.0; run = run_at plan t g r; is_run = k.1; same_tag = refl; same_reaction = refl }

module _ (plan : PlanParts) (good : IsSoundPlan plan) (t : List Row) (well : KeepsFour plan t) where
  -- the ended runs give an action no more events than the trace does
  events_fewer : (i : ℕ) (g : Tag) (a : ℕ) → length (filter_map (scheduled g a (min_delay plan.program a)) (rows_of plan.program (ended_before plan t i))) ≤ length (filter_map (scheduled g a (min_delay plan.program a)) t)
  events_fewer i g a = rows_bound plan t g a (min_delay plan.program a) distinct (take i t) one_key
    where
      distinct : (c : ℕ) → NamesApart (effects_of plan.program c)
      distinct c = go (slice_get plan.program.reactions c) refl
        where
          go : (o : Option Reaction) → slice_get plan.program.reactions c ≡ o → NamesApart (unwrap_or (option_map (λ x. x.effects) o) [])
          go None e = tt
          go (Some x) e = names_apart x.effects (good.sound.distinct c x e).1

      key : (x : Row) (k : Key) → end_key x x.step ≡ Some k → x ≡ end_row x.worker k.0 k.1
      key x k e = go x.step refl e
        where
          go : (s : Step) → x.step ≡ s → end_key x s ≡ Some k → x ≡ end_row x.worker k.0 k.1
          go Start q e = absurd (cc)
          go (Read n v) q e = absurd (cc)
          go (Write n v) q e = absurd (cc)
          go (Schedule n v d) q e = absurd (cc)
          go Stop q e = absurd (cc)
          go End q e = let p : (x.tag, x.reaction) ≡ k = cc in row_is x x.worker k.0 k.1 End refl (ap (λ (y : Key). y.0) p) (ap (λ (y : Key). y.1) p) q

      one_key : OneKey (take i t)
      one_key j l x y k e f p q =
          let a = (slice_get_take i t j x e).1 ∙ ap Some (key x k p) in
          let b = (slice_get_take i t l y f).1 ∙ ap Some (key y k q) in
          one_end plan t well j l x.worker y.worker k.0 k.1 a b

  -- so they make no collision that the trace doesn't
  pub collision_down : (i : ℕ) (g : Tag) → Collision plan (rows plan (ended_before plan t i)) g → Collision plan t g
  collision_down i g c = go c.0 c.1
    where
      go : (n : Name) → ClashesAt plan (rows plan (ended_before plan t i)) g n → Collision plan t g
      go (Port p) k =
          let a = written_down plan t i g p k.first k.first_value k.is_first in
          let b = written_down plan t i g p k.second k.second_value k.is_second in
          (Port p, record { first = k.first; second = k.second; first_value = a.0; second_value = b.0; is_first = a.1; is_second = b.1; differ = k.differ })
      go (Action a) k =
          let own = filter_map (scheduled g a (min_delay plan.program a)) (rows_of plan.program (ended_before plan t i)) in
          let all = filter_map (scheduled g a (min_delay plan.program a)) t in
          let out = filter_map (given g a) plan.externals.events in
          let x : length (own ++ out) ≡ length own + length out = length-append own out in
          let y : length (all ++ out) ≡ length all + length out = length-append all out in
          let z : length own ≤ length all = events_fewer i g a in
          let w : 2 ≤ length (own ++ out) = k in
          let f : 2 ≤ length (all ++ out) = omega arith in
          (Action a, f)

module _ (plan : PlanParts) (good : IsSoundPlan plan) (t : List Row) (legal : Legal plan t) where
  -- rules 7, 8 and 10, said positively
  pub runs_if_triggered : (g : Tag) (r : ℕ) → UpTo g (stop plan t) → Triggered plan t g r → Ran t g r
  runs_if_triggered g r u o = stable (dec_ran t g r) (λ n. keeps_at plan t legal g r 7 u (inl (refl, o, n)))

  pub triggered_if_ran : (g : Tag) (r : ℕ) → Ran t g r → Triggered plan t g r
  triggered_if_ran g r o = stable (dec_triggered plan good.sound t g r) (λ n. keeps_at plan t legal g r 8 (ran_in_time plan t (four plan t legal.rows) g r o) (inr (inl (refl, o, n))))

  pub reads_inputs : (g : Tag) (r : ℕ) → Ran t g r → Inputs plan t g r (reads_at plan t g r)
  reads_inputs g r o = stable (dec_inputs plan good.sound t g r (reads_at plan t g r)) (λ n. keeps_at plan t legal g r 10 (ran_in_time plan t (four plan t legal.rows) g r o) (inr (inr (inr (refl, o, n)))))

  end_of : (g : Tag) (r : ℕ) → (o : Ran t g r) → (k : ℕ) × (o.place < k) × (slice_get t k ≡ Some (end_row o.worker g r))
  end_of g r o = ended plan t legal.rows o.place o.worker g r o.starts

  module _ (i w : ℕ) (g : Tag) (r : ℕ) (is_end : slice_get t i ≡ Some (end_row w g r)) (run : Ran t g r) where
    pub is_ready : Ready plan (ended_before plan t i) g r
    is_ready = record { pending = pending; least = least; none_before = none_before }
      where
        not_yet : EndRow t i g r → ⊥
        not_yet e = let q : e.place ≡ i = one_end plan t (four plan t legal.rows) e.place i e.worker w g r e.ends is_end in let l : e.place < i = e.before in omega arith

        pending : IsPending plan (ended_before plan t i) g r
        pending = record { in_time = UpTo-trans g (stop plan t) (stop plan (rows_of plan.program (ended_before plan t i))) (ran_in_time plan t (four plan t legal.rows) g r run) (stop_down plan t i); triggered = triggered_up plan good t (ordered plan t legal) g r run i w is_end (triggered_if_ran g r run); no_run = λ h. not_yet (end_of_run plan t i g r h) }

        ran : (h : Tag) (a : ℕ) → UpTo h g → IsPending plan (ended_before plan t i) h a → Ran t h a
        ran h a u p = let v : UpTo h (stop plan t) = UpTo-trans h g (stop plan t) u (ran_in_time plan t (four plan t legal.rows) g r run) in runs_if_triggered h a v (triggered_down plan t i h a v p.triggered)

        least : (h : Tag) (a : ℕ) → IsPending plan (ended_before plan t i) h a → UpTo g h
        least h a p = go (order_cases h g)
          where
            go : Before h g ⊎ UpTo g h → UpTo g h
            go (inl b) = let o = ran h a (Before-weaken h g b) p in let e = end_of h a o in absurd (p.no_run (run_of_end plan t i h a (record { place = e.0; worker = o.worker; before = earlier_ended plan good t (ordered plan t legal) g r run i w is_end h a e.0 o.worker e.2 b; ends = e.2 })))
            go (inr u) = u

        none_before : (a : ℕ) → Precedes plan.program a r → ¬ IsPending plan (ended_before plan t i) g a
        none_before a q p =
            let o = ran g a (UpTo-refl g) p in
            let e = end_of g a o in
            p.no_run (run_of_end plan t i g a (record { place = e.0; worker = o.worker; before = preceding_ended plan good t (ordered plan t legal) g r run i w is_end a e.0 o.worker q o e.2; ends = e.2 }))

  ran_of_end : (i w : ℕ) (g : Tag) (r : ℕ) → slice_get t i ≡ Some (end_row w g r) → Ran t g r
  ran_of_end i w g r e = let o = opened plan t (four plan t legal.rows) i (end_row w g r) e tt in record { place = o.start; worker = w; starts = o.starts }

  next_run : (i w : ℕ) (g : Tag) (r : ℕ) → slice_get t i ≡ Some (end_row w g r) → Next plan (ended_before plan t i) (run_at plan t g r)
  next_run i w g r e =
      let o = ran_of_end i w g r e in
      let more : ended_before plan t (suc i) ≡ ended_before plan t i ++ run_at plan t g r ∷ [] = take_more (λ row. ended_by plan t row row.step) t i (end_row w g r) (run_at plan t g r) e refl in
      record {
        ready = is_ready i w g r e o;
        reads = inputs_up plan good t (ordered plan t legal) g r o i w e (reads_at plan t g r) (reads_inputs g r o);
        answers = answers_well plan t (four plan t legal.rows) g r;
        no_clash = λ c. no_collision plan t legal g (ran_in_time plan t (four plan t legal.rows) g r o) (collision_down plan good t (four plan t legal.rows) (suc i) g (subst (λ (l : List Run). Collision plan (rows plan l) g) (sym more) c));
      }

  path : Path plan (by_ends plan t)
  path k u e = from (filter_map_get (λ row. ended_by plan t row row.step) t k u e)
    where
      from : From (λ row. ended_by plan t row row.step) t k u → Next plan (take k (by_ends plan t)) u
      from f =
          let q = ended_some plan t f.item f.item.step u f.gives in
          let p : slice_get t f.place ≡ Some (end_row f.item.worker f.item.tag f.item.reaction) = f.is_item ∙ ap Some (row_is f.item f.item.worker f.item.tag f.item.reaction End refl refl refl q.0) in
          let n : Next plan (ended_before plan t f.place) (run_at plan t f.item.tag f.item.reaction) = next_run f.place f.item.worker f.item.tag f.item.reaction p in
          let m : Next plan (ended_before plan t f.place) u = subst (λ (v : Run). Next plan (ended_before plan t f.place) v) q.1 n in
          subst (λ (l : List Run). Next plan l u) (sym f.before) m

  no_clash : NoClash plan (by_ends plan t)
  no_clash = subst (λ (l : List Run). NoClash plan l) (sym (all_ended plan t)) (λ g u c. no_collision plan t legal g (subst (λ (k : Tag). UpTo g k) (all_stop plan good t (ordered plan t legal)) u) (collision_down plan good t (four plan t legal.rows) (length t) g c))

  finished : (g : Tag) (r : ℕ) → ¬ IsPending plan (by_ends plan t) g r
  finished g r p = refute (subst (λ (l : List Run). IsPending plan l g r) (all_ended plan t) p)
    where
      refute : IsPending plan (ended_before plan t (length t)) g r → ⊥
      refute p =
          let v : UpTo g (stop plan t) = subst (λ (k : Tag). UpTo g k) (all_stop plan good t (ordered plan t legal)) p.in_time in
          let o = runs_if_triggered g r v (triggered_down plan t (length t) g r v p.triggered) in
          let e = end_of g r o in
          p.no_run (run_of_end plan t (length t) g r (record { place = e.0; worker = o.worker; before = slice_get_within t e.0 (end_row o.worker g r) e.2; ends = e.2 }))

  -- a legal trace is an execution by one worker
  pub legal_one_worker : OneWorker plan (by_ends plan t)
  legal_one_worker = record { path = path; no_clash = no_clash; finished = finished }

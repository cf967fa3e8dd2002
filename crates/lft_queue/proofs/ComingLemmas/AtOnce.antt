-- Ports that are reached without a delay, those behind one, and the reactions that they trigger.
use Rattle.std.proofs.Common.{◌≡◌, ◌≢◌, ℕ, zero, suc, ◌<◌, ◌⊎◌, inl, inr, ◌==◌, ◌&&◌, eqb-true, eq-eqb, Bool, true, false, cond, List, [], ◌∷◌, ◌++◌, length, map, refl, sym, ap, ◌∙◌, subst, arith, Option, Some, None, slice_get, slice_set, filter_map, option_map, unwrap_or, Contains}
use Rattle.std.proofs.lemmas.{Bool.false≢true, Option.slice_get_within}
use Rattle.lft_tag.{specs.Shifts.{join_all, none}, proofs.Chains.undelayed}
use Rattle.lft_lists.proofs.Members.{Mem, get_mem, mem_left, mem_right, mem_contains, contains_mem, mem_filter}
use Rattle.lft_lists.proofs.Places.{get_there, same_at, same_some, get_write_cases, length_written}
use Rattle.lft_ir.specs.{Naming.named, Origins.Origin, Parts.{Parts, inputs}, Sound.IsSound}
use Rattle.lft_ir.specs.declared.parts.{Name.{Name, TheVariants.{Port, Action}}, Port.Port as PortOf, Reaction.Reaction, Trigger.TheVariants.On}
use Rattle.lft_ir.proofs.Origins.{origin_unique, port_of}
use Rattle.lft_model.{specs.Plans.PlanParts, proofs.Steps.both_true}
use Rattle.lft_queue.proofs.Marking.{of_reads}
use Rattle.lft_queue.specs.inner.Coming.{AtOnce.{is_undelayed, origin_of, MayHaveEvents, IsAwaited, HaveGrown}, NumberLists.list_at}
use Rattle.lft_queue.specs.inner.Coming.{Listeners.{list_of, heard_at, BothGrow, IsListed, AreNameListeners}, Listens.Listens}
use Rattle.lft_queue.specs.declared.coming.listeners.NameListeners.{NameListeners}

-- what the test asks of a port
pub test_of : (program : Parts) (p : ℕ) (port : PortOf) → slice_get program.ports p ≡ Some port → is_undelayed program p ≡ ((port.shift.time == 0) && (port.shift.steps == 0))
test_of program p port e = ap (λ (o : Option PortOf). unwrap_or (option_map (λ (x : PortOf). (x.shift.time == 0) && (x.shift.steps == 0)) o) true) e

-- the test says so of just these ports
pub way_at_once : (program : Parts) → IsSound program → (p : ℕ) (port : PortOf) → slice_get program.ports p ≡ Some port → is_undelayed program p ≡ true → Origin program p port.origin []
way_at_once program sound p port e h =
    let both = both_true (port.shift.time == 0) (port.shift.steps == 0) (sym (test_of program p port e) ∙ h) in
    let kept = sound.origins p port e in
    let zero : join_all none kept.0 ≡ none = kept.2 ∙ ap (λ (n : ℕ). (n, port.shift.steps)) (eqb-true port.shift.time 0 both.0) ∙ ap (λ (n : ℕ). (0, n)) (eqb-true port.shift.steps 0 both.1) in
    subst (λ (ds : List ℕ). Origin program p port.origin ds) (undelayed kept.0 zero) kept.1

pub undelayed_way : (program : Parts) → IsSound program → (p o : ℕ) (delays : List ℕ) → Origin program p o delays → is_undelayed program p ≡ true → delays ≡ []
undelayed_way program sound p o delays way h = let x = port_of way in (origin_unique way (way_at_once program sound p x.0 x.1 h)).1

pub is_undelayed_way : (program : Parts) → IsSound program → (p o : ℕ) → Origin program p o [] → is_undelayed program p ≡ true
is_undelayed_way program sound p o way =
    let x = port_of way in
    let kept = sound.origins p x.0 x.1 in
    let zero : none ≡ (x.0.shift.time, x.0.shift.steps) = ap (λ (ds : List ℕ). join_all none ds) (origin_unique way kept.1).1 ∙ kept.2 in
    let time : (x.0.shift.time == 0) ≡ true = eq-eqb x.0.shift.time 0 (sym (ap (λ (s : ℕ × ℕ). s.0) zero)) in
    let steps : (x.0.shift.steps == 0) ≡ true = eq-eqb x.0.shift.steps 0 (sym (ap (λ (s : ℕ × ℕ). s.1) zero)) in
    test_of program p x.0 x.1 ∙ rw (time, steps) refl

-- a port behind a delay is one of the program's, and has such a chain of delays
pub port_behind : (program : Parts) (p : ℕ) → is_undelayed program p ≡ false → (x : PortOf) × (slice_get program.ports p ≡ Some x)
port_behind program p h = go (slice_get program.ports p) refl
  where
    go : (e : Option PortOf) → slice_get program.ports p ≡ e → (x : PortOf) × (slice_get program.ports p ≡ Some x)
    go (Some x) q = (x, q)
    go None q = absurd (false≢true (sym h ∙ ap (λ (o : Option PortOf). unwrap_or (option_map (λ (x : PortOf). (x.shift.time == 0) && (x.shift.steps == 0)) o) true) q))

pub delayed_way : (program : Parts) → IsSound program → (p : ℕ) → is_undelayed program p ≡ false → (o e : ℕ) × (ds : List ℕ) × Origin program p o (e ∷ ds)
delayed_way program sound p h =
    let x = port_behind program p h in
    let kept = sound.origins p x.0 x.1 in
    go x.0.origin kept.0 kept.1
  where
    go : (o : ℕ) (ds : List ℕ) → Origin program p o ds → (q e : ℕ) × (es : List ℕ) × Origin program p q (e ∷ es)
    go o [] way = absurd (false≢true (sym h ∙ is_undelayed_way program sound p o way))
    go o (e ∷ ds) way = (o, e, ds, way)

-- the origin that is kept is that of the chain
pub origin_is : (program : Parts) → IsSound program → (p o : ℕ) (delays : List ℕ) → Origin program p o delays → origin_of program p ≡ o
origin_is program sound p o delays way =
    let x = port_of way in
    let kept = sound.origins p x.0 x.1 in
    ap (λ (e : Option PortOf). unwrap_or (option_map (λ (y : PortOf). y.origin) e) 0) x.1 ∙ sym (origin_unique way kept.1).0

-- what has events is heard under its own name
pub heard_there : (program : Parts) (n : Name) → MayHaveEvents program n → heard_at program n ≡ n
heard_there program (Port p) h = ap (λ (b : Bool). Port (cond b (origin_of program p) p)) h
heard_there program (Action a) h = refl

-- lists that grow
pub same_lists : (lists : List (List ℕ)) → HaveGrown lists lists
same_lists lists = record { as_long = refl; kept = λ o r list more e f c. subst (λ (xs : List ℕ). Contains xs r) (same_some (slice_get lists o) list more e f) c }

pub still_there : (old new : List (List ℕ)) → HaveGrown old new → (o r : ℕ) (more : List ℕ) → slice_get new o ≡ Some more → ((list : List ℕ) → slice_get old o ≡ Some list → Contains list r) → Contains more r
still_there old new grown o r more e there =
    let x = get_there old o (let a = slice_get_within new o more e in let b = grown.as_long in omega arith) in
    grown.kept o r x.0 more x.1 e (there x.0 x.1)

pub grown_on : (old new newer : List (List ℕ)) → HaveGrown old new → HaveGrown new newer → HaveGrown old newer
grown_on old new newer first second = record { as_long = second.as_long ∙ first.as_long; kept = λ o r list more e f c. still_there new newer second o r more f (λ own h. first.kept o r list own e h c) }

-- where all are empty, so is the list of each number
pub lists_empty : {X : Type 0} (f : X → List ℕ) (all : List X) → ((n : ℕ) (x : X) → slice_get all n ≡ Some x → f x ≡ []) → (n : ℕ) → list_at (map f all) n ≡ []
lists_empty f [] h n = refl
lists_empty f (x ∷ all) h zero = h 0 x refl
lists_empty f (x ∷ all) h (suc n) = lists_empty f all (λ m y e. h (suc m) y e) n

-- one more reaction in the list of a port
module _ (old new : List (List ℕ)) (o r : ℕ) (within : o < length old) (pushed : new ≡ slice_set old o (list_at old o ++ r ∷ [])) where
  abbrev own : (list : List ℕ) × (slice_get old o ≡ Some list)
  own = get_there old o within

  is_new : new ≡ slice_set old o (own.0 ++ r ∷ [])
  is_new = pushed ∙ ap (λ (all : Option (List ℕ)). slice_set old o (unwrap_or all [] ++ r ∷ [])) own.1

  cases : (q : ℕ) (more : List ℕ) → slice_get new q ≡ Some more → ((q ≡ o) × (own.0 ++ r ∷ [] ≡ more)) ⊎ ((q ≢ o) × (slice_get old q ≡ Some more))
  cases q more e = get_write_cases old o q (own.0 ++ r ∷ []) more within (ap (λ (lists : List (List ℕ)). slice_get lists q) (sym is_new) ∙ e)

  pub pushed_grows : HaveGrown old new
  pushed_grows = record { as_long = ap (λ (lists : List (List ℕ)). length lists) is_new ∙ length_written old o (own.0 ++ r ∷ []); kept = kept }
    where
      kept : (q a : ℕ) (list more : List ℕ) → slice_get old q ≡ Some list → slice_get new q ≡ Some more → Contains list a → Contains more a
      kept q a list more e f c = go (cases q more f)
        where
          go : ((q ≡ o) × (own.0 ++ r ∷ [] ≡ more)) ⊎ ((q ≢ o) × (slice_get old q ≡ Some more)) → Contains more a
          go (inl (s, h)) = subst (λ (xs : List ℕ). Contains xs a) h (mem_contains a (own.0 ++ r ∷ []) (mem_left a own.0 (r ∷ []) (contains_mem a own.0 (subst (λ (xs : List ℕ). Contains xs a) (same_at old q o list own.0 e own.1 s) c))))
          go (inr (n, h)) = subst (λ (xs : List ℕ). Contains xs a) (same_some (slice_get old q) list more e h) c

  pub pushed_there : (more : List ℕ) → slice_get new o ≡ Some more → Contains more r
  pushed_there more e = go (cases o more e)
    where
      go : ((o ≡ o) × (own.0 ++ r ∷ [] ≡ more)) ⊎ ((o ≢ o) × (slice_get old o ≡ Some more)) → Contains more r
      go (inl (s, h)) = subst (λ (xs : List ℕ). Contains xs r) h (mem_contains r (own.0 ++ r ∷ []) (mem_right r own.0 (r ∷ []) (inl refl)))
      go (inr (n, h)) = absurd (n refl)

-- the origin of a port that is reached without a delay is where it is heard
pub heard_origin : (program : Parts) → IsSound program → (p o : ℕ) → Origin program p o [] → heard_at program (Port p) ≡ Port o
heard_origin program sound p o way =
    let x = port_of way in
    let kept = sound.origins p x.0 x.1 in
    let same : x.0.origin ≡ o = sym (origin_unique way kept.1).0 in
    ap (λ (b : Bool). Port (cond b (unwrap_or (option_map (λ (y : PortOf). y.origin) (slice_get program.ports p)) 0) p)) (is_undelayed_way program sound p o way) ∙ ap (λ (e : Option PortOf). Port (unwrap_or (option_map (λ (y : PortOf). y.origin) e) 0)) x.1 ∙ ap Port same

pub both_on : (old new newer : NameListeners) → BothGrow old new → BothGrow new newer → BothGrow old newer
both_on old new newer first second = (grown_on old.ports new.ports newer.ports first.0 second.0, grown_on old.actions new.actions newer.actions first.1 second.1)

pub both_there : (old new : NameListeners) → BothGrow old new → (n : Name) (r : ℕ) (more : List ℕ) → list_of new n ≡ Some more → ((list : List ℕ) → list_of old n ≡ Some list → Contains list r) → Contains more r
both_there old new grown (Port p) r more e there = still_there old.ports new.ports grown.0 p r more e there
both_there old new grown (Action a) r more e there = still_there old.actions new.actions grown.1 a r more e there

-- the lists of names in which each reaction stands for its triggers are the listeners
pub listeners_of : (plan : PlanParts) (listeners : NameListeners) → length listeners.ports ≡ length plan.program.ports → length listeners.actions ≡ length plan.program.actions → ((r : ℕ) (x : Reaction) → slice_get plan.program.reactions r ≡ Some x → IsListed plan.program (filter_map named x.triggers) r listeners) → AreNameListeners plan listeners
listeners_of plan listeners ports actions listed = record { ports = ports; actions = actions; each = each }
  where
    each : (n : Name) (r : ℕ) (list : List ℕ) → Listens plan r (On n) → list_of listeners (heard_at plan.program n) ≡ Some list → Contains list r
    each n r list l e =
        let m : Mem n (filter_map named l.reaction.triggers) = mem_filter named (On n) n l.reaction.triggers (contains_mem (On n) l.reaction.triggers l.is_trigger) refl in
        let i = get_mem n (filter_map named l.reaction.triggers) m in
        listed r l.reaction l.is_reaction i.0 n list i.1 e

-- somebody waits for an input of a reaction
pub input_awaited : (program : Parts) (r : ℕ) (x : Reaction) → slice_get program.reactions r ≡ Some x → (n : Name) → Mem n (inputs x) → IsAwaited program n
input_awaited program r x is (Port p) m = of_reads program r p (x, is, mem_contains (Port p) (inputs x) m)
input_awaited program r x is (Action a) m = tt

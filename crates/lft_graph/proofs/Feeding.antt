-- Feeders, and the short lists that they make.
use Rattle.std.proofs.Common.{◌≡◌, ℕ, zero, suc, ◌+◌, ◌-◌, ◌<◌, ◌≤◌, ◌⊎◌, ◌↔◌, inl, inr, List, [], ◌∷◌, ◌++◌, length, refl, sym, ap, ◌∙◌, subst, arith, Option, Some, slice_get, Contains, filter_map, AllPairs, length-append}
use Rattle.std.proofs.lemmas.Option.{slice_get_within}
use Rattle.std.proofs.lemmas.List.Elements.{Contains-push, Contains-push_cases, Contains-append_left, Contains-append_right, Contains-append_cases}
use Rattle.std.proofs.lemmas.Bool.{cases_lt, cases_eq}
use Rattle.lft_tag.{specs.Shifts.{none, join_all}, proofs.Chains.undelayed}
use Rattle.lft_ir.specs.{Parts.{Parts, inputs}, Naming.named, Sound.IsSound, Origins.Origin}
use Rattle.lft_ir.specs.declared.parts.{Port.Port as PortOf, Reaction.Reaction, Name.{Name, TheVariants.{Port, Action}}}
use Rattle.lft_ir.specs.declared.parts.Trigger.{Trigger, TheVariants.{Startup, Shutdown, Timer, On}}
use Rattle.lft_ir.proofs.Origins.{origin_unique, origin_inside}
use Rattle.lft_graph.specs.Before.{Writes, IsLastWriter, Reaches, FeedsLast, IsDeclaredJustBefore, IsBefore}
use Rattle.lft_graph.specs.inner.Walks.{KnowsWriters, IsUndelayed, IsFeeder, NotesBelow, Covers, HasLists}
use Rattle.lft_lists.proofs.Places.{contains_at, at_contains, get_push_cases}

module _ (program : Parts) (sound : IsSound program) where
  pub origin_there : (p : ℕ) (port : PortOf) → slice_get program.ports p ≡ Some port → port.origin < length program.ports
  origin_there p port e = origin_inside (sound.origins p port e).1

  pub no_delay : (p : ℕ) (port : PortOf) → slice_get program.ports p ≡ Some port → port.shift.time ≡ 0 → port.shift.steps ≡ 0 → Origin program p port.origin []
  no_delay p port e t s =
      let o = sound.origins p port e in
      let z : (port.shift.time, port.shift.steps) ≡ none = cc in
      subst (λ ds. Origin program p port.origin ds) (undelayed o.0 (o.2 ∙ z)) o.1

  -- an undelayed chain is the one that is kept
  pub kept_origin : (p o : ℕ) (port : PortOf) → slice_get program.ports p ≡ Some port → Origin program p o [] → (port.origin ≡ o) × (port.shift.time ≡ 0) × (port.shift.steps ≡ 0)
  kept_origin p o port e way =
      let k = sound.origins p port e in
      let u = origin_unique k.1 way in
      let f : join_all none k.0 ≡ none = ap (join_all none) u.1 in
      let g : (port.shift.time, port.shift.steps) ≡ none = sym k.2 ∙ f in
      (u.0, ap (λ s. s.0) g, ap (λ s. s.1) g)

  module _ (writers : List (Option ℕ)) (knows : KnowsWriters program (length program.reactions) writers) where
    pub last_at : (o a : ℕ) → slice_get writers o ≡ Some (Some a) → IsLastWriter program a o
    last_at o a e = record {
      writes = knows.right o a e;
      last = λ b w. (let l = knows.last o b (slice_get_within program.reactions b w.writer w.is_writer) w in let f = l.1 in let q : a ≡ l.0 = cc in let g = l.2 in omega arith);
    }

    pub last_there : (a o : ℕ) → Writes program a o → (b : ℕ) × IsLastWriter program b o × (slice_get writers o ≡ Some (Some b))
    last_there a o w = let l = knows.last o a (slice_get_within program.reactions a w.writer w.is_writer) w in (l.0, last_at o l.0 l.1, l.1)

module _ (program : Parts) (At : ℕ → Name → Type 0) where
  -- a name with a feeder
  pub notes_feeder : (place a : ℕ) (name : Name) (old new : List ℕ) → NotesBelow program At place old new → At place name → ((other : Name) → At place other → other ≡ name) → IsFeeder program name a → ((b o : ℕ) → Writes program b o → IsUndelayed program name o → (c : ℕ) × IsLastWriter program c o × (a ≡ c)) → NotesBelow program At (place + 1) old (new ++ a ∷ [])
  notes_feeder place a name old new w at one f covers = record {
    kept = λ b c. Contains-append_left new (a ∷ []) b (w.kept b c);
    only = λ b c. only b (Contains-push_cases new a b c);
    covers = λ i b o n l p u d. cover i b o n p u d (cases_eq i place) l;
  }
    where
      only : (b : ℕ) → Contains new b ⊎ (a ≡ b) → Contains old b ⊎ ((i : ℕ) × (n : Name) × (i < place + 1) × At i n × IsFeeder program n b)
      only b (inl c) = elim (w.only b c) [ inl o ↦ inl o | inr o ↦ inr (o.0, o.1, (let l = o.2 in omega arith), o.3, o.4) ]
      only b (inr e) = inr (place, name, omega arith, at, subst (IsFeeder program name) e f)

      cover : (i b o : ℕ) (n : Name) → At i n → Writes program b o → IsUndelayed program n o → (i ≡ place) ⊎ (i ≡ place → ⊥) → i < place + 1 → (c : ℕ) × IsLastWriter program c o × Contains (new ++ a ∷ []) c
      cover i b o n p u d (inl e) l =
          let q : n ≡ name = one n (subst (λ k. At k n) e p) in
          let r = covers b o u (subst (λ m. IsUndelayed program m o) q d) in
          (r.0, r.1, subst (λ c. Contains (new ++ a ∷ []) c) r.2 (Contains-push new a))
      cover i b o n p u d (inr m) l = let r = w.covers i b o n (omega arith) p u d in (r.0, r.1, Contains-append_left new (a ∷ []) r.0 r.2)

  -- a place without a feeder
  pub notes_none : (place : ℕ) (old new : List ℕ) → NotesBelow program At place old new → ((name : Name) (b o : ℕ) → At place name → Writes program b o → IsUndelayed program name o → ⊥) → NotesBelow program At (place + 1) old new
  notes_none place old new w none = record {
    kept = w.kept;
    only = λ b c. elim (w.only b c) [ inl o ↦ inl o | inr o ↦ inr (o.0, o.1, (let l = o.2 in omega arith), o.3, o.4) ];
    covers = λ i b o n l p u d. cover i b o n p u d (cases_eq i place) l;
  }
    where
      cover : (i b o : ℕ) (n : Name) → At i n → Writes program b o → IsUndelayed program n o → (i ≡ place) ⊎ (i ≡ place → ⊥) → i < place + 1 → (c : ℕ) × IsLastWriter program c o × Contains new c
      cover i b o n p u d (inl e) l = absurd (none n b o (subst (λ k. At k n) e p) u d)
      cover i b o n p u d (inr m) l = w.covers i b o n (omega arith) p u d

-- an input is among the triggers or the uses
pub from_trigger : (triggers : List Trigger) (n : Name) → Contains triggers (On n) → Contains (filter_map named triggers) n
from_trigger triggers n c = let g = at_contains triggers (On n) c in go triggers g.0 g.1
  where
    go : (ts : List Trigger) (i : ℕ) → slice_get ts i ≡ Some (On n) → Contains (filter_map named ts) n
    go [] i e = absurd (cc)
    go (Startup ∷ ts) zero e = absurd (cc)
    go (Shutdown ∷ ts) zero e = absurd (cc)
    go (Timer t ∷ ts) zero e = absurd (cc)
    go (On m ∷ ts) zero e = let q : m ≡ n = cc in (0, omega arith, q)
    go (Startup ∷ ts) (suc i) e = go ts i e
    go (Shutdown ∷ ts) (suc i) e = go ts i e
    go (Timer t ∷ ts) (suc i) e = go ts i e
    go (On m ∷ ts) (suc i) e = Contains-append_right (m ∷ []) (filter_map named ts) n (go ts i e)

pub to_trigger : (triggers : List Trigger) (n : Name) → Contains (filter_map named triggers) n → (i : ℕ) × (slice_get triggers i ≡ Some (On n))
to_trigger triggers n c = let g = at_contains (filter_map named triggers) n c in go triggers g.0 g.1
  where
    up : (t : Trigger) (ts : List Trigger) → (i : ℕ) × (slice_get ts i ≡ Some (On n)) → (i : ℕ) × (slice_get (t ∷ ts) i ≡ Some (On n))
    up t ts r = (suc r.0, r.1)

    go : (ts : List Trigger) (i : ℕ) → slice_get (filter_map named ts) i ≡ Some n → (i : ℕ) × (slice_get ts i ≡ Some (On n))
    go [] i e = absurd (cc)
    go (Startup ∷ ts) i e = up Startup ts (go ts i e)
    go (Shutdown ∷ ts) i e = up Shutdown ts (go ts i e)
    go (Timer t ∷ ts) i e = up (Timer t) ts (go ts i e)
    go (On m ∷ ts) zero e = let q : m ≡ n = cc in (0, ap (λ k. Some (On k)) q)
    go (On m ∷ ts) (suc i) e = up (On m) ts (go ts i e)

module _ (program : Parts) (sound : IsSound program) (r : ℕ) (x : Reaction) (is : slice_get program.reactions r ≡ Some x) where
  -- what a list starts with: the reaction declared just before, if there is one
  pub Begins : List ℕ → Type 0
  Begins first = (a : ℕ) → Contains first a ↔ IsDeclaredJustBefore program a r

  no_first : (b : ℕ) → Contains (let e : List ℕ = [] in e) b → ⊥
  no_first b c = let l : c.0 < 0 = c.1 in absurd (omega arith)

  same_reaction : (a b : ℕ) (y z : Reaction) → slice_get program.reactions a ≡ Some y → slice_get program.reactions b ≡ Some z → a ≡ b → y ≡ z
  same_reaction a b y z e f s = let g : slice_get program.reactions b ≡ Some y = subst (λ k. slice_get program.reactions k ≡ Some y) s e in cc

  pub begins_none : x.place ≡ 0 → Begins []
  unfolding Begins
  begins_none z a = ((λ c. absurd (no_first a c)), λ j. absurd (let s : j.second ≡ x = same_reaction r r j.second x j.is_second is refl in let f : j.second.place ≡ x.place = ap (λ y. y.place) s in let g = j.just_before in omega arith))

  -- the reaction just before has the number before
  just_before : 0 < x.place → IsDeclaredJustBefore program (r - 1) r
  just_before l =
      let w = sound.consecutive r x is l in
      let e : w.0 ≡ r - 1 = let f = w.3 in omega arith in
      record { first = w.1; second = x; is_first = subst (λ k. slice_get program.reactions k ≡ Some w.1) e w.2; is_second = is; same_instance = w.4; just_before = w.5 }

  one_just_before : 0 < x.place → (a : ℕ) → IsDeclaredJustBefore program a r → r - 1 ≡ a
  one_just_before l a j = by (cases_lt a (r - 1)) (cases_lt (r - 1) a)
    where
      k : IsDeclaredJustBefore program (r - 1) r
      k = just_before l

      s : j.second ≡ k.second
      s = same_reaction r r j.second k.second j.is_second k.is_second refl

      places : j.first.place ≡ k.first.place
      places = let f : j.second.place ≡ k.second.place = ap (λ y. y.place) s in let g = j.just_before in let h = k.just_before in omega arith

      instances : j.first.instance ≡ k.first.instance
      instances = j.same_instance ∙ ap (λ y. y.instance) s ∙ sym k.same_instance

      by : (a < r - 1) ⊎ (r - 1 ≤ a) → (r - 1 < a) ⊎ (a ≤ r - 1) → r - 1 ≡ a
      by (inl b) _ = absurd (let g = sound.numbered a (r - 1) j.first k.first j.is_first k.is_first instances b in omega (arith, places))
      by (inr b) (inl c) = absurd (let g = sound.numbered (r - 1) a k.first j.first k.is_first j.is_first (sym instances) c in omega (arith, places))
      by (inr b) (inr c) = omega arith

  pub begins_one : 0 < x.place → Begins ((r - 1) ∷ [])
  unfolding Begins
  begins_one l a = ((λ c. elim (Contains-push_cases [] (r - 1) a c) [ inl n ↦ absurd (no_first a n) | inr e ↦ subst (λ k. IsDeclaredJustBefore program k r) e (just_before l) ]), λ j. (0, omega arith, one_just_before l a j))

  module _ (first second third list : List ℕ) (begins : Begins first) (triggers : NotesBelow program (λ i n. slice_get x.triggers i ≡ Some (On n)) (length x.triggers) first second) (uses : NotesBelow program (λ i n. slice_get x.uses i ≡ Some n) (length x.uses) second third) (ascends : AllPairs (λ a b. a < b) list) (members : (a : ℕ) → Contains list a ↔ Contains third a) where
    reaches : (o : ℕ) (n : Name) → Contains (inputs x) n → IsUndelayed program n o → Reaches program o r
    reaches o (Port p) c d = record { reader = x; is_reader = is; port = p; is_input = c; undelayed = d }
    reaches o (Action a) c d = absurd d

    fed : (a : ℕ) (n : Name) → Contains (inputs x) n → IsFeeder program n a → FeedsLast program a r
    fed a n c f = (f.0, f.2, reaches f.0 n c f.1)

    in_trigger : (n : Name) (i : ℕ) → slice_get x.triggers i ≡ Some (On n) → Contains (inputs x) n
    in_trigger n i e = Contains-append_left (filter_map named x.triggers) x.uses n (from_trigger x.triggers n (contains_at x.triggers i (On n) e))

    in_use : (n : Name) (i : ℕ) → slice_get x.uses i ≡ Some n → Contains (inputs x) n
    in_use n i e = Contains-append_right (filter_map named x.triggers) x.uses n (contains_at x.uses i n e)

    to : (a : ℕ) → Contains third a → IsDeclaredJustBefore program a r ⊎ FeedsLast program a r
    unfolding Begins
    to a c = late (uses.only a c)
      where
        early : Contains first a ⊎ ((i : ℕ) × (n : Name) × (i < length x.triggers) × (slice_get x.triggers i ≡ Some (On n)) × IsFeeder program n a) → IsDeclaredJustBefore program a r ⊎ FeedsLast program a r
        early (inl m) = inl ((begins a).0 m)
        early (inr m) = inr (fed a m.1 (in_trigger m.1 m.0 m.3) m.4)

        late : Contains second a ⊎ ((i : ℕ) × (n : Name) × (i < length x.uses) × (slice_get x.uses i ≡ Some n) × IsFeeder program n a) → IsDeclaredJustBefore program a r ⊎ FeedsLast program a r
        late (inl m) = early (triggers.only a m)
        late (inr m) = inr (fed a m.1 (in_use m.1 m.0 m.3) m.4)

    covered : (a o : ℕ) → Writes program a o → Reaches program o r → (b : ℕ) × IsLastWriter program b o × Contains third b
    covered a o w q = by (Contains-append_cases (filter_map named x.triggers) x.uses (Port q.port) input)
      where
        input : Contains (inputs x) (Port q.port)
        input = subst (λ (y : Reaction). Contains (inputs y) (Port q.port)) (same_reaction r r q.reader x q.is_reader is refl) q.is_input

        by : Contains (filter_map named x.triggers) (Port q.port) ⊎ Contains x.uses (Port q.port) → (b : ℕ) × IsLastWriter program b o × Contains third b
        by (inl c) = let t = to_trigger x.triggers (Port q.port) c in let g = triggers.covers t.0 a o (Port q.port) (slice_get_within x.triggers t.0 (On (Port q.port)) t.1) t.1 w q.undelayed in (g.0, g.1, uses.kept g.0 g.2)
        by (inr c) = let t = at_contains x.uses (Port q.port) c in uses.covers t.0 a o (Port q.port) (slice_get_within x.uses t.0 (Port q.port) t.1) t.1 w q.undelayed

    from : (a : ℕ) → IsDeclaredJustBefore program a r ⊎ FeedsLast program a r → Contains third a
    unfolding Begins
    from a (inl j) = uses.kept a (triggers.kept a ((begins a).1 j))
    from a (inr f) =
        let g = covered a f.0 f.1.writes f.2 in
        let l = g.1.last a f.1.writes in
        let m = f.1.last g.0 g.1.writes in
        let q : g.0 ≡ a = omega arith in
        subst (Contains third) q g.2

    pub is_before : IsBefore program r list
    is_before = record { ascends = ascends; members = λ a. ((λ c. to a ((members a).0 c)), λ d. (members a).1 (from a d)) }

    pub is_covered : Covers program r list
    is_covered a o w q = let g = covered a o w q in (g.0, g.1, (members g.0).1 g.2)

pub lists_more : (program : Parts) (below : ℕ) (lists : List (List ℕ)) (list : List ℕ) → HasLists program below lists → IsBefore program below list → Covers program below list → HasLists program (below + 1) (lists ++ list ∷ [])
lists_more program below lists list w b c = record {
  as_long = omega (arith, w.as_long, length-append lists (list ∷ []));
  before = λ r l e. elim (get_push_cases lists list r l e) [ inl a ↦ w.before r l a | inr a ↦ (let q : below ≡ r = sym (a.0 ∙ w.as_long) in let P : List ℕ → Type 0 = IsBefore program r in subst P a.1 (subst (λ k. IsBefore program k list) q b)) ];
  covers = λ r l e. elim (get_push_cases lists list r l e) [ inl a ↦ w.covers r l a | inr a ↦ (let q : below ≡ r = sym (a.0 ∙ w.as_long) in let P : List ℕ → Type 0 = Covers program r in subst P a.1 (subst (λ k. Covers program k list) q c)) ];
}

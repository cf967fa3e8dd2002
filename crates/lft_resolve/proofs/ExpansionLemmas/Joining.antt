-- The sources of ports so far, in a pass over the joins of each instance.
use Rattle.std.proofs.Common.{◌≡◌, ◌≢◌, ℕ, ◌+◌, ◌<◌, ◌≤◌, ◌⊎◌, inl, inr, List, [], length, sym, ap, ◌∙◌, subst, arith, Option, Some, slice_get, slice_set, unwrap_or}
use Rattle.std.{specs.Option.{option_map, option_and_then}, proofs.lemmas.{Bool.{cases_lt, cases_eq}, Option.slice_get_within}}
use Rattle.lft_lists.proofs.Places.{get_there, get_written, get_unwritten, get_write_cases, length_written, same_some}
use Rattle.lft_resolve.specs.declared.expansion.walk.Instance.{Instance}
use Rattle.lft_resolve.specs.declared.expansion.joins.{End.{End, TheVariants.{Own, Inner}}, Join.Join, Connections.Connections, Site.Site}
use Rattle.lft_resolve.specs.inner.Expansion.{Numbers.{things, AreFirstNumbers}, Values.clock_in, Sources.AreInside}
use Rattle.lft_resolve.specs.inner.Expansion.Joins.{port_at, port_of, Declares, IsJoinAt, IsDeclaredPort, joins_of, HasJoin, JoinPorts, LeadApart, Joins, AreSites, AreSources}
use Rattle.lft_resolve.proofs.ExpansionLemmas.Things.{things_more, things_some}
use Rattle.lft_tag.specs.declared.Source.{Source}

-- the number of a port that is declared is below their count
abbrev pub Number : ℕ → Option ℕ → Type 0
Number total o = (p : ℕ) × (o ≡ Some p) × (p < total)

declared_number : (counts : List ℕ) (instances : List Instance) (firsts : List ℕ) → AreFirstNumbers counts instances firsts → (n port : ℕ) → Declares counts instances n port → Number (things counts instances) (port_at firsts n port)
declared_number counts instances firsts w n port d =
    let f = get_there firsts n (let l = slice_get_within instances n d.0 d.1 in let s = w.as_long in omega arith) in
    let e = w.each n f.0 f.1 in
    let m = things_more counts instances n d.0 d.1 in
    let s = things_some counts instances (n + 1) in
    let l = d.2 in
    (f.0 + port, ap (option_map (λ first. first + port)) f.1, omega arith)

pub port_number : (counts : List ℕ) (instances : List Instance) (firsts : List ℕ) (children : List (List ℕ)) → AreFirstNumbers counts instances firsts → (n : ℕ) (end : End) → IsDeclaredPort counts instances children n end → Number (things counts instances) (port_of firsts children n end)
port_number counts instances firsts children w n (Own port) d = declared_number counts instances firsts w n port d
port_number counts instances firsts children w n (Inner place port) d =
    let r = declared_number counts instances firsts w d.0 port d.2 in
    (r.0, ap (option_and_then (λ m. port_at firsts m port)) d.1 ∙ r.1, r.2)

-- the joins of the instances before, and those at the places before in this one
abbrev pub Earlier : ℕ → ℕ → ℕ → ℕ → Type 0
Earlier number place n k = (n < number) ⊎ ((n ≡ number) × (k < place))

-- what the pass is over
pub record Sourced (counts : List ℕ) (table : List Connections) (instances : List Instance) (firsts : List ℕ) (children values : List (List ℕ)) (number place : ℕ) (sources : List (Option Source)) : Type 0 where
  pub as_long : length sources ≡ things counts instances
  pub right : (b : ℕ) (s : Source) → slice_get sources b ≡ Some (Some s) → Joins table instances firsts children values s.port b s.delay
  pub all : (b : ℕ) (s : Source) (j : Joins table instances firsts children values s.port b s.delay) → Earlier number place j.number j.place → slice_get sources b ≡ Some (Some s)

-- with all joins of an instance come those before the next
pub rest_earlier : (table : List Connections) (instances : List Instance) (number place n k : ℕ) (join : Join) (i : Instance) → HasJoin table instances n k join → slice_get instances number ≡ Some i → length (joins_of table i.reactor) ≤ place → Earlier (number + 1) 0 n k → Earlier number place n k
rest_earlier table instances number place n k join i h e l (inr a) = absurd (let b : k < 0 = a.1 in omega arith)
rest_earlier table instances number place n k join i h e l (inl a) = go (cases_lt n number)
  where
    go : (n < number) ⊎ (number ≤ n) → Earlier number place n k
    go (inl b) = inl b
    go (inr b) =
        let q : n ≡ number = omega arith in
        let x : slice_get instances number ≡ Some h.0 = subst (λ m. slice_get instances m ≡ Some h.0) q h.1 in
        let y : h.0 ≡ i = cc in
        let t = slice_get_within (joins_of table h.0.reactor) k join h.2 in
        let u : length (joins_of table h.0.reactor) ≡ length (joins_of table i.reactor) = ap (λ m. length (joins_of table m.reactor)) y in
        inr (q, omega arith)

-- no more joins in this instance
pub sourced_next : (counts : List ℕ) (table : List Connections) (instances : List Instance) (firsts : List ℕ) (children values : List (List ℕ)) (number place : ℕ) (sources : List (Option Source)) (i : Instance) → Sourced counts table instances firsts children values number place sources → slice_get instances number ≡ Some i → length (joins_of table i.reactor) ≤ place → Sourced counts table instances firsts children values (number + 1) 0 sources
sourced_next counts table instances firsts children values number place sources i w e l = record {
  as_long = w.as_long;
  right = w.right;
  all = λ b s j a. w.all b s j (rest_earlier table instances number place j.number j.place j.join i j.has_join e l a);
}

-- what instance and place tell of a join
pub same_join : (table : List Connections) (instances : List Instance) (n place : ℕ) (j k : Join) → HasJoin table instances n place j → HasJoin table instances n place k → j ≡ k
same_join table instances n place j k a b =
    let q : a.0 ≡ b.0 = same_some (slice_get instances n) a.0 b.0 a.1 b.1 in
    same_some (slice_get (joins_of table b.0.reactor) place) j k (subst (λ i. slice_get (joins_of table i.reactor) place ≡ Some j) q a.2) b.2

same_source : (s t : Source) → s.port ≡ t.port → s.delay ≡ t.delay → s ≡ t
same_source s t e f = let made : ℕ → Option ℕ → Source = λ p d. record { port = p; delay = d } in ap (λ p. made p s.delay) e ∙ ap (made t.port) f

-- one more join
pub sourced_more : (counts : List ℕ) (table : List Connections) (instances : List Instance) (firsts : List ℕ) (children values : List (List ℕ)) → LeadApart table instances firsts children → (number place : ℕ) (sources : List (Option Source)) (join : Join) (b : ℕ) (s : Source) → Sourced counts table instances firsts children values number place sources → HasJoin table instances number place join → port_of firsts children number join.from ≡ Some s.port → port_of firsts children number join.to ≡ Some b → s.delay ≡ option_map (clock_in (unwrap_or (slice_get values number) [])) join.delay → b < things counts instances → Sourced counts table instances firsts children values number (place + 1) (slice_set sources b (Some s))
sourced_more counts table instances firsts children values apart number place sources join b s w has from to delay low = record {
  as_long = length_written sources b (Some s) ∙ w.as_long;
  right = λ c t e. right c t (get_write_cases sources b c (Some s) (Some t) room e);
  all = λ c t j l. all c t j (cases_lt j.number number) (cases_eq j.place place) (cases_eq c b) l;
}
  where
    room : b < length sources
    room = let l = w.as_long in omega arith

    this : Joins table instances firsts children values s.port b s.delay
    this = record { number = number; place = place; join = join; has_join = has; from = from; to = to; is_delay = sym delay }

    right : (c : ℕ) (t : Source) → ((c ≡ b) × (Some s ≡ Some t)) ⊎ ((c ≢ b) × (slice_get sources c ≡ Some (Some t))) → Joins table instances firsts children values t.port c t.delay
    right c t (inl a) =
        let q : s ≡ t = (let x = a.1 in cc) in
        subst (λ k. Joins table instances firsts children values t.port k t.delay) (sym a.0) (subst (λ x. Joins table instances firsts children values x.port b x.delay) q this)
    right c t (inr a) = w.right c t a.1

    old : (c : ℕ) (t : Source) (j : Joins table instances firsts children values t.port c t.delay) → Earlier number place j.number j.place → (c ≡ b) ⊎ (c ≡ b → ⊥) → slice_get (slice_set sources b (Some s)) c ≡ Some (Some t)
    old c t j l (inr n) = get_unwritten sources b c (Some s) n ∙ w.all c t j l
    old c t j l (inl q) = absurd (before l)
      where
        one : (j.number ≡ number) × (j.place ≡ place)
        one = apart j.number number j.place place b (j.join, j.has_join, j.to ∙ ap Some q) (join, has, to)

        before : Earlier number place j.number j.place → ⊥
        before (inl a) = let e = one.0 in omega arith
        before (inr a) = let e = one.1 in let f = a.1 in omega arith

    new : (c : ℕ) (t : Source) (j : Joins table instances firsts children values t.port c t.delay) → j.number ≡ number → j.place ≡ place → slice_get (slice_set sources b (Some s)) c ≡ Some (Some t)
    new c t j e f = subst (λ k. slice_get (slice_set sources b (Some s)) k ≡ Some (Some t)) (sym at) (get_written sources b (Some s) room ∙ ap Some (ap Some is))
      where
        moved : HasJoin table instances number place j.join
        moved = subst (λ k. HasJoin table instances number k j.join) f (subst (λ n. HasJoin table instances n j.place j.join) e j.has_join)

        same : j.join ≡ join
        same = same_join table instances number place j.join join moved has

        at : c ≡ b
        at = same_some (port_of firsts children number join.to) c b (subst (λ k. port_of firsts children number k.to ≡ Some c) same (subst (λ n. port_of firsts children n j.join.to ≡ Some c) e j.to)) to

        port : s.port ≡ t.port
        port = same_some (port_of firsts children number join.from) s.port t.port from (subst (λ k. port_of firsts children number k.from ≡ Some t.port) same (subst (λ n. port_of firsts children n j.join.from ≡ Some t.port) e j.from))

        late : s.delay ≡ t.delay
        late = delay ∙ subst (λ k. option_map (clock_in (unwrap_or (slice_get values number) [])) k.delay ≡ t.delay) same (subst (λ n. option_map (clock_in (unwrap_or (slice_get values n) [])) j.join.delay ≡ t.delay) e j.is_delay)

        is : s ≡ t
        is = same_source s t port late

    all : (c : ℕ) (t : Source) (j : Joins table instances firsts children values t.port c t.delay) → (j.number < number) ⊎ (number ≤ j.number) → (j.place ≡ place) ⊎ (j.place ≡ place → ⊥) → (c ≡ b) ⊎ (c ≡ b → ⊥) → Earlier number (place + 1) j.number j.place → slice_get (slice_set sources b (Some s)) c ≡ Some (Some t)
    all c t j (inl a) q r l = old c t j (inl a) r
    all c t j (inr a) q r (inl l) = absurd (omega arith)
    all c t j (inr a) (inl q) r (inr l) = new c t j l.0 q
    all c t j (inr a) (inr q) r (inr l) = old c t j (inr (l.0, let k : j.place < place + 1 = l.1 in omega arith)) r

pub sourced_end : (counts : List ℕ) (table : List Connections) (instances : List Instance) (firsts : List ℕ) (children values : List (List ℕ)) (number place : ℕ) (sources : List (Option Source)) → Sourced counts table instances firsts children values number place sources → length instances ≤ number → AreSources counts table instances firsts children values sources
sourced_end counts table instances firsts children values number place sources w l = record {
  as_long = w.as_long;
  each = λ b s. (w.right b s, λ j. w.all b s j (inl (let h = j.has_join in let k = slice_get_within instances j.number h.0 h.1 in omega arith)));
}

pub sources_inside : (counts : List ℕ) (table : List Connections) (instances : List Instance) (firsts : List ℕ) (children values : List (List ℕ)) (sources : List (Option Source)) → AreFirstNumbers counts instances firsts → JoinPorts counts table instances children → AreSources counts table instances firsts children values sources → AreInside sources
sources_inside counts table instances firsts children values sources first ports w b s e =
    let j = (w.each b s).0 e in
    let r = port_number counts instances firsts children first j.number j.join.from (ports j.number j.place j.join j.has_join).0 in
    let q : r.0 ≡ s.port = same_some (port_of firsts children j.number j.join.from) r.0 s.port r.1 j.from in
    let l = r.2 in
    let k = w.as_long in
    omega arith

-- ---- the joins beside the sources

pub record Sited (table : List Connections) (instances : List Instance) (firsts : List ℕ) (children values : List (List ℕ)) (sources : List (Option Source)) (sites : List Site) : Type 0 where
  pub as_long : length sites ≡ length sources
  pub are_sites : AreSites table instances firsts children values sources sites

pub sited_more : (table : List Connections) (instances : List Instance) (firsts : List ℕ) (children values : List (List ℕ)) (sources : List (Option Source)) (sites : List Site) (b : ℕ) (s : Source) (x : Site) → Sited table instances firsts children values sources sites → (j : Joins table instances firsts children values s.port b s.delay) × IsJoinAt x j.number j.place → b < length sources → Sited table instances firsts children values (slice_set sources b (Some s)) (slice_set sites b x)
sited_more table instances firsts children values sources sites b s x w this low = record {
  as_long = length_written sites b x ∙ w.as_long ∙ sym (length_written sources b (Some s));
  are_sites = λ c t e. by c t (get_write_cases sources b c (Some s) (Some t) low e);
}
  where
    by : (c : ℕ) (t : Source) → ((c ≡ b) × (Some s ≡ Some t)) ⊎ ((c ≢ b) × (slice_get sources c ≡ Some (Some t))) → (y : Site) × (slice_get (slice_set sites b x) c ≡ Some y) × ((j : Joins table instances firsts children values t.port c t.delay) × IsJoinAt y j.number j.place)
    by c t (inl a) =
        let same : s ≡ t = (let e = a.1 in cc) in (
          x,
          subst (λ k. slice_get (slice_set sites b x) k ≡ Some x) (sym a.0) (get_written sites b x (let l = w.as_long in omega arith)),
          subst (λ k. (j : Joins table instances firsts children values t.port k t.delay) × IsJoinAt x j.number j.place) (sym a.0) (subst (λ (u : Source). (j : Joins table instances firsts children values u.port b u.delay) × IsJoinAt x j.number j.place) same this),
        )
    by c t (inr a) = let old = w.are_sites c t a.1 in (old.0, get_unwritten sites b c x a.0 ∙ old.1, old.2)

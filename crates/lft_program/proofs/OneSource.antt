-- A port is the destination of one connection at most.
use Rattle.std.proofs.Common.{◌≡◌, ℕ, zero, suc, ◌+◌, ◌⊎◌, inl, inr, Bool, true, false, List, [], ◌∷◌, ◌++◌, map, flat_map, find, position, length, slice_get, Option, Some, None, option_map, bytes_eq, refl, sym, ap, subst, ◌∙◌, arith}
use Rattle.std.{specs.List.position_or_len, proofs.lemmas.{Grind.common_steps, List.Folds.find_at, Option.slice_get_within}}
use Rattle.lft_lists.proofs.Places.{get_left, push_apart, Some_same}
use Rattle.lft_tree.specs.Tree.{FileTree, PortTree, InstanceTree, ConnectionTree, RefTree, reactors_of, ports_of, instances_of, connections_of}
use Rattle.lft_resolve.specs.{Expansion.Paths.along, Causes.{IsTwice, TwoSources, WritesTwice}}
use Rattle.lft_resolve.specs.Instances.{Inside, IsInside, Thing, thing_at, stands_for, stands_inside, time_in, Connects, entered, main_instance, reactor_named}
use Rattle.lft_resolve.specs.{Kinds.destinations_in, inner.{Places.place, Sheets.{IsInner, port_place}}}
use Rattle.lft_resolve.proofs.{ExpansionLemmas.Orders.along_at, Effects.port_found, Placing.find-place, Twice.Any-at, Written.{own_written, inner_written}}
use Rattle.lft_program.specs.{Located.{Located, AreLocated, Declared, ports_in}, inner.Tables.IsLawful, Links.IsSource}
use Rattle.lft_program.proofs.{Counting.{total, flat_at}, Listing.Stands, Zipping.then_some, OneInstances.{InFile, in_file, one_inside, inside_at}}
use Rattle.lft_program.proofs.{OneThing.{once_at, right_at, one_port}, Standing.{StandsInner, stands_inner, stands_once}, Entering.entered_by}
use Rattle.lft_tag.specs.declared.Source.{Source}

-- ---- lists

-- what is found is the element at the place where it is found
pub found_at : {X : Type 0} (p : X → Bool) (xs : List X) (k : ℕ) (x : X) → position p xs ≡ Some k → slice_get xs k ≡ Some x → find p xs ≡ Some x
found_at p xs k x is at = let e : position_or_len p xs ≡ k = grind (arith, common_steps) in find_at p xs ∙ ap (slice_get xs) e ∙ at

-- and it stands at the first place of its name
first_place : {X : Type 0} (name : X → List ℕ) (q : List ℕ) (xs : List X) (x : X) → find (λ y. bytes_eq q (name y)) xs ≡ Some x → (k : ℕ) × (place q (map name xs) ≡ Some k) × (slice_get xs k ≡ Some x)
first_place name q xs x e = then_some (slice_get xs) (place q (map name xs)) x (sym (find-place name q xs) ∙ e)

once_right : {X : Type 0} (xs ys : List X) → (IsTwice (xs ++ ys) → ⊥) → IsTwice ys → ⊥
once_right xs ys once (i, j, x, low, a, b) = once (length xs + i, length xs + j, x, omega arith, right_at xs ys i x a, right_at xs ys j x b)

once_left : {X : Type 0} (xs ys : List X) → (IsTwice (xs ++ ys) → ⊥) → IsTwice xs → ⊥
once_left xs ys once (i, j, x, low, a, b) = once (i, j, x, low, get_left xs ys i x a, get_left xs ys j x b)

-- an element that one gives and a later one too stands twice
apart_pieces : {X Y : Type 0} (f : X → List Y) (w : X) (xs : List X) → (IsTwice (f w ++ flat_map f xs) → ⊥) → (i n j : ℕ) (y : X) (z : Y) → slice_get (f w) i ≡ Some z → slice_get xs n ≡ Some y → slice_get (f y) j ≡ Some z → ⊥
apart_pieces f w xs once i n j y z first at second =
    let low = slice_get_within (f w) i z first in
    once (i, length (f w) + (total f n xs + j), z, omega arith, get_left (f w) (flat_map f xs) i z first, right_at (f w) (flat_map f xs) (total f n xs + j) z (flat_at f xs n j y z at second))

-- where nothing stands twice among what all give, each comes from one place of one
one_piece : {X Y : Type 0} (f : X → List Y) (xs : List X) → (IsTwice (flat_map f xs) → ⊥) → (m n i j : ℕ) (x y : X) (z : Y) → slice_get xs m ≡ Some x → slice_get xs n ≡ Some y → slice_get (f x) i ≡ Some z → slice_get (f y) j ≡ Some z → (m ≡ n) × (i ≡ j)
one_piece f [] once m n i j x y z a b c d = absurd (cc)
one_piece f (w ∷ xs) once zero zero i j x y z a b c d =
    let first : slice_get (f w) i ≡ Some z = subst (λ v. slice_get (f v) i ≡ Some z) (sym (Some_same w x a)) c in
    let second : slice_get (f w) j ≡ Some z = subst (λ v. slice_get (f v) j ≡ Some z) (sym (Some_same w y b)) d in
    (refl, once_at (f w) z i j (once_left (f w) (flat_map f xs) once) first second)
one_piece f (w ∷ xs) once zero (suc n) i j x y z a b c d =
    let first : slice_get (f w) i ≡ Some z = subst (λ v. slice_get (f v) i ≡ Some z) (sym (Some_same w x a)) c in
    absurd (apart_pieces f w xs once i n j y z first b d)
one_piece f (w ∷ xs) once (suc m) zero i j x y z a b c d =
    let second : slice_get (f w) j ≡ Some z = subst (λ v. slice_get (f v) j ≡ Some z) (sym (Some_same w y b)) d in
    absurd (apart_pieces f w xs once j m i x z second a c)
one_piece f (w ∷ xs) once (suc m) (suc n) i j x y z a b c d =
    let r = one_piece f xs (once_right (f w) (flat_map f xs) once) m n i j x y z a b c d in
    (ap suc r.0, r.1)

-- ---- destinations

module _ (tree : FileTree) (lawful : IsLawful tree) (all : List Located) (are : AreLocated tree all) where
  -- no port of a reactor is a destination twice
  destinations_once : (x : Inside) → InFile tree x → IsTwice (destinations_in x.reactor) → ⊥
  unfolding TwoSources
  destinations_once x file two = lawful.later.1.1.1.0 (Any-at WritesTwice (reactors_of tree) file.0 x.reactor file.1 (inl two))

  -- two connections of one instance with one destination are one
  module _ (a b t : Thing) (d e : Option ℕ) (c : Connects tree a t d) (h : Connects tree b t e) (path : c.path ≡ h.path) where
    inside : c.inside ≡ h.inside
    inside = one_inside tree h.path c.inside h.inside (subst (λ p. IsInside tree p c.inside) path c.is_inside) h.is_inside

    -- what the second's names stand for where the first is
    here : (ref : RefTree) (u : Thing) → stands_for h.inside.reactor h.path ref ≡ Some u → stands_for c.inside.reactor c.path ref ≡ Some u
    here ref u stands = ap (λ (x : Inside). stands_for x.reactor c.path ref) inside ∙ ap (λ p. stands_for h.inside.reactor p ref) path ∙ stands

    there : slice_get (connections_of c.inside.reactor) h.number ≡ Some h.connection
    there = ap (λ (x : Inside). slice_get (connections_of x.reactor) h.number) inside ∙ h.is_connection

    to : h.to ≡ c.to
    to = stands_once c.inside.reactor c.path h.to c.to t (here h.to t h.to_destination) c.to_destination

    places : (c.number ≡ h.number) × (c.place ≡ h.place)
    places = one_piece (λ (x : ConnectionTree). x.destinations) (connections_of c.inside.reactor) (destinations_once c.inside (in_file tree c.path c.inside c.is_inside)) c.number h.number c.place h.place c.connection h.connection c.to c.is_connection there c.is_to (h.is_to ∙ ap Some to)

    connection : c.connection ≡ h.connection
    connection = Some_same c.connection h.connection (sym c.is_connection ∙ ap (slice_get (connections_of c.inside.reactor)) places.0 ∙ there)

    from : c.from ≡ h.from
    from = Some_same c.from h.from (sym c.is_from ∙ ap (λ (x : ConnectionTree). slice_get x.sources c.place) connection ∙ ap (slice_get h.connection.sources) places.1 ∙ h.is_from)

    one_of_one : (a ≡ b) × (d ≡ e)
    one_of_one = (Some_same a b (sym c.from_source ∙ ap (stands_for c.inside.reactor c.path) from ∙ here h.from b h.from_source), sym c.is_delay ∙ ap (λ (x : Inside). option_map (time_in x) c.connection.delay) inside ∙ ap (λ (x : ConnectionTree). option_map (time_in h.inside) x.delay) connection ∙ h.is_delay)

  -- ---- a port is written in one instance

  module _ (n : ℕ) (q : Declared PortTree) (stands : Stands ports_of all n q) where
    abbrev owner : Inside
    owner = q.located.inside

    abbrev target : Thing
    target = thing_at q.located.path q.item.name

    -- where an own port is an output, and one of a contained instance an input
    abbrev Leads : List ℕ → Type 0
    Leads path = ((q.item.is_input ≡ false) × (path ≡ q.located.path)) ⊎ ((k : ℕ) × (q.item.is_input ≡ true) × (path ++ k ∷ [] ≡ q.located.path))

    is_owner : IsInside tree q.located.path owner
    is_owner = inside_at tree all are q.instance q.located stands.instance

    -- its name is that of no other port there
    its_place : (k : ℕ) × (port_place owner.reactor q.item.name ≡ Some k) × (slice_get (ports_of owner.reactor) k ≡ Some q.item)
    its_place =
        let file = in_file tree q.located.path owner is_owner in
        first_place (λ (x : PortTree). x.name) q.item.name (ports_of owner.reactor) q.item (port_found (reactors_of tree) file.0 owner.reactor file.1 lawful.first q.place q.item stands.place)

    module _ (a : Thing) (d : Option ℕ) (c : Connects tree a target d) where
      file : InFile tree c.inside
      file = in_file tree c.path c.inside c.is_inside

      own : c.to.port ≡ None → thing_at c.path c.to.head ≡ target → Leads c.path
      own plain same =
          let path : c.path ≡ q.located.path = ap (λ t. t.path) same in
          let inside : c.inside ≡ owner = one_inside tree q.located.path c.inside owner (subst (λ p. IsInside tree p c.inside) path c.is_inside) is_owner in
          let at : port_place c.inside.reactor c.to.head ≡ Some its_place.0 = ap (λ (x : Inside). port_place x.reactor c.to.head) inside ∙ ap (port_place owner.reactor) (ap (λ t. t.name) same) ∙ its_place.1 in
          let item : slice_get (ports_of c.inside.reactor) its_place.0 ≡ Some q.item = ap (λ (x : Inside). slice_get (ports_of x.reactor) its_place.0) inside ∙ its_place.2 in
          inl (own_written (reactors_of tree) lawful.later.0 lawful.later.1.0 file.0 c.inside.reactor file.1 c.number c.place c.connection c.to c.is_connection c.is_to its_place.0 q.item plain at item, path)

      inner : (name : List ℕ) → c.to.port ≡ Some name → StandsInner c.inside.reactor c.path c.to.head name target → Leads c.path
      inner name dotted s =
          let path : c.path ++ s.place ∷ [] ≡ q.located.path = ap (λ t. t.path) s.thing in
          let root = main_instance c.is_inside.0 in
          let leads : along (entered tree) root (c.path ++ s.place ∷ []) ≡ Some owner = ap (along (entered tree) root) path ∙ same_root in
          let step = then_some (λ y. along (entered tree) y []) (entered tree c.inside s.place) owner (sym (along_at (entered tree) root c.inside c.path (s.place ∷ []) c.is_inside.2) ∙ leads) in
          let e = entered_by tree c.inside s.place owner (step.1 ∙ step.2) in
          let instance : e.i ≡ s.instance = Some_same e.i s.instance (sym e.is_instance ∙ s.there) in
          let first = first_place (λ (i : InstanceTree). i.name) c.to.head (instances_of c.inside.reactor) s.instance (found_at (λ (i : InstanceTree). bytes_eq c.to.head i.name) (instances_of c.inside.reactor) s.place s.instance s.is s.there) in
          let w : IsInner (reactors_of tree) c.inside.reactor c.to first.0 its_place.0 = record {
            name = name;
            i = s.instance;
            inner = owner.reactor;
            is_name = dotted;
            is_place = first.1;
            is_instance = first.2;
            is_inner = ap (λ (i : InstanceTree). reactor_named (reactors_of tree) i.reactor) (sym instance) ∙ e.is_reactor ∙ ap (λ (z : Inside). Some z.reactor) e.is_made;
            is_port = ap (port_place owner.reactor) (ap (λ t. t.name) s.thing) ∙ its_place.1;
          } in
          inr (s.place, inner_written (reactors_of tree) lawful.later.0 lawful.later.1.0 file.0 c.inside.reactor file.1 c.number c.place c.connection c.to c.is_connection c.is_to first.0 its_place.0 w q.item its_place.2, path)
        where
          same_root : along (entered tree) (main_instance c.is_inside.0) q.located.path ≡ Some owner
          same_root = ap (λ m. along (entered tree) (main_instance m) q.located.path) (Some_same c.is_inside.0 is_owner.0 (sym c.is_inside.1 ∙ is_owner.1)) ∙ is_owner.2

      leads : Leads c.path
      leads = by c.to.port refl c.to_destination
        where
          by : (o : Option (List ℕ)) → c.to.port ≡ o → stands_inside c.inside.reactor c.path c.to.head o ≡ Some target → Leads c.path
          by None is e = own is (Some_same (thing_at c.path c.to.head) target e)
          by (Some name) is e = inner name is (stands_inner c.inside.reactor c.path c.to.head name target e)

    in_and_out : (b : Bool) → b ≡ true → b ≡ false → ⊥
    in_and_out b is_input is_output = cc

    same_path : (x y : List ℕ) → Leads x → Leads y → x ≡ y
    same_path x y (inl e) (inl f) = e.1 ∙ sym f.1
    same_path x y (inl e) (inr f) = absurd (in_and_out q.item.is_input f.1 e.0)
    same_path x y (inr e) (inl f) = absurd (in_and_out q.item.is_input e.1 f.0)
    same_path x y (inr e) (inr f) = (push_apart x y e.0 f.0 (e.2 ∙ sym f.2)).0

    one_connection : (a b : Thing) (d e : Option ℕ) → Connects tree a target d → Connects tree b target e → (a ≡ b) × (d ≡ e)
    one_connection a b d e c h = one_of_one a b target d e c h (same_path c.path h.path (leads a d c) (leads b e h))

    pub one_source : (x y : Option Source) → IsSource tree (ports_in all) target x → IsSource tree (ports_in all) target y → x ≡ y
    one_source None None v w = refl
    one_source None (Some s) v (from, at, joins) = absurd (v from s.delay joins)
    one_source (Some s) None (from, at, joins) w = absurd (w from s.delay joins)
    one_source (Some s) (Some u) (from, at, joins) (other, there, joins_too) =
        let same = one_connection from other s.delay u.delay joins joins_too in
        let port : s.port ≡ u.port = one_port tree lawful all are other s.port u.port (at ∙ ap Some same.0) there in
        let delay : s.delay ≡ u.delay = same.1 in
        let source : s ≡ u = λ j. record { port = port j; delay = delay j } in
        ap Some source

-- The lists of what instances declare, as the naming takes them.
use Rattle.std.proofs.Common.{◌≡◌, ℕ, ◌+◌, ◌<◌, ◌≤◌, List, [], map, length, slice_get, Some, sym, ap, ◌∙◌, arith}
use Rattle.std.{specs.{List.AllZip, Option.{option_and_then, unwrap_or}}, proofs.lemmas.{List.length-map, Option.slice_get_within}}
use Rattle.lft_lists.proofs.{Places.Some_same, Mapped.mapped, Picked.map-filter_map, Zips.long as zip_long}
use Rattle.lft_tree.specs.Tree.{ReactorTree, InstanceTree, instances_of, ports_of, actions_of, timers_of, instance_in, port_in, action_in, timer_in}
use Rattle.lft_resolve.{specs.declared.expansion.{numbering.Thing.Thing, walk.Instance.Instance}, proofs.{Directed.AllZip-to, Files.AllZip-from}}
use Rattle.lft_program.specs.Located.{Located, declared, Declared}
use Rattle.lft_program.specs.inner.{Nests.{IsInstanceOf, IsNumbering, IsThingOf}, OwnNames.own_names}
use Rattle.lft_program.specs.inner.TreeLists.{name_at, placed_at, seen, SaysDeclaration, IsPlacedAt}
use Rattle.lft_program.specs.declared.{nesting.nest.Numbering.Numbering, naming.{OwnName.OwnName, PlacedReaction.PlacedReaction}}
use Rattle.lft_program.proofs.{Counting.base, Listing.{declared_from, declared-length}, Zipping.zip_of, Sites.AreSites}
use Rattle.lft_program.specs.declared.own_names.MemberKind.TheVariants as kinds

-- the names of a kind are those of the members
pub own_ports : (r : ReactorTree) → own_names kinds.Port r ≡ map (λ x. x.name) (ports_of r)
own_ports r = sym (map-filter_map (λ x. x.name) port_in r.members)

pub own_actions : (r : ReactorTree) → own_names kinds.Action r ≡ map (λ x. x.name) (actions_of r)
own_actions r = sym (map-filter_map (λ x. x.name) action_in r.members)

pub own_timers : (r : ReactorTree) → own_names kinds.Timer r ≡ map (λ x. x.name) (timers_of r)
own_timers r = sym (map-filter_map (λ x. x.name) timer_in r.members)

pub own_instances : (r : ReactorTree) → own_names kinds.Instance r ≡ map (λ x. x.name) (instances_of r)
own_instances r = sym (map-filter_map (λ x. x.name) instance_in r.members)

module _ (rs : List ReactorTree) (located : List Located) (instances : List Instance) (zipped : AllZip (IsInstanceOf rs) located instances) where
  -- the number of an instance's reactor
  pub reactor_at : (n : ℕ) (l : Located) → slice_get located n ≡ Some l → (m : Instance) × (slice_get instances n ≡ Some m) × (slice_get rs m.reactor ≡ Some l.inside.reactor)
  reactor_at n l at = AllZip-to (IsInstanceOf rs) located instances zipped n l at

  -- the name that is found at a place
  pub name_there : (names : ReactorTree → List (List ℕ)) (n place : ℕ) (l : Located) (x : List ℕ) → slice_get located n ≡ Some l → slice_get (names l.inside.reactor) place ≡ Some x → name_at (map names rs) instances n place ≡ x
  name_there names n place l x at here =
      let m = reactor_at n l at in
      let list : slice_get (map names rs) m.0.reactor ≡ Some (names l.inside.reactor) = mapped names rs m.0.reactor l.inside.reactor m.2 in
      ap (λ o. unwrap_or (option_and_then (λ l. slice_get l place) (option_and_then (λ i. slice_get (map names rs) i.reactor) o)) []) m.1
      ∙ ap (λ o. unwrap_or (option_and_then (λ l. slice_get l place) o) []) list
      ∙ ap (λ o. unwrap_or o []) here

  -- and that of an instance
  pub instance_name_there : (n place : ℕ) (l : Located) (i : InstanceTree) → slice_get located n ≡ Some l → slice_get (instances_of l.inside.reactor) place ≡ Some i → name_at (map (own_names kinds.Instance) rs) instances n place ≡ i.name
  instance_name_there n place l i at here =
      let own : slice_get (own_names kinds.Instance l.inside.reactor) place ≡ Some i.name = ap (λ names. slice_get names place) (own_instances l.inside.reactor) ∙ mapped (λ i. i.name) (instances_of l.inside.reactor) place i here in
      name_there (own_names kinds.Instance) n place l i.name at own

  module _ {X : Type 0} (kind : ReactorTree → List X) where
    -- two declarations of one instance and place are one
    pub one_declared : (i j : ℕ) (c d : Declared X) → slice_get (declared kind located) i ≡ Some c → slice_get (declared kind located) j ≡ Some d → c.instance ≡ d.instance → c.place ≡ d.place → i ≡ j
    one_declared i j c d at_c at_d instance place =
        let e : i ≡ base kind located c.instance + c.place = (declared_from kind located i c at_c).number in
        let f : j ≡ base kind located d.instance + d.place = (declared_from kind located j d at_d).number in
        let g : base kind located c.instance ≡ base kind located d.instance = ap (base kind located) instance in
        omega arith

    module _ (name : X → List ℕ) (names : ReactorTree → List (List ℕ)) (same : (r : ReactorTree) → names r ≡ map name (kind r)) where
      item_name : (r : ReactorTree) (k : ℕ) (x : X) → slice_get (kind r) k ≡ Some x → slice_get (names r) k ≡ Some (name x)
      item_name r k x at = ap (λ l. slice_get l k) (same r) ∙ mapped name (kind r) k x at

      pub told : (things : List Thing) → AllZip IsThingOf (declared kind located) things
          → (xs : List OwnName) → map seen xs ≡ map (λ t. (t.instance, name_at (map names rs) instances t.instance t.place)) things
          → AllZip (SaysDeclaration name) (declared kind located) xs
      told things all xs is = zip_of (SaysDeclaration name) (declared kind located) xs long each
        where
          long : length (declared kind located) ≡ length xs
          long = zip_long IsThingOf (declared kind located) things all ∙ sym (length-map things (λ t. (t.instance, name_at (map names rs) instances t.instance t.place))) ∙ sym (ap length is) ∙ length-map xs seen

          each : (k : ℕ) (d : Declared X) (x : OwnName) → slice_get (declared kind located) k ≡ Some d → slice_get xs k ≡ Some x → SaysDeclaration name d x
          each k d x at_d at_x =
              let stands = declared_from kind located k d at_d in
              let t = AllZip-to IsThingOf (declared kind located) things all k d at_d in
              let made : slice_get (map (λ t. (t.instance, name_at (map names rs) instances t.instance t.place)) things) k ≡ Some (t.0.instance, name_at (map names rs) instances t.0.instance t.0.place) = mapped (λ t. (t.instance, name_at (map names rs) instances t.instance t.place)) things k t.0 t.1 in
              let shown : slice_get (map seen xs) k ≡ Some (seen x) = mapped seen xs k x at_x in
              let one : seen x ≡ (t.0.instance, name_at (map names rs) instances t.0.instance t.0.place) = Some_same _ _ (sym shown ∙ ap (λ l. slice_get l k) is ∙ made) in
              let found : name_at (map names rs) instances d.instance d.place ≡ name d.item = name_there names d.instance d.place d.located (name d.item) stands.instance (item_name d.located.inside.reactor d.place d.item stands.place) in
              (ap (λ p. p.0) one ∙ t.2.0, ap (λ p. p.1) one ∙ ap (λ n. name_at (map names rs) instances n t.0.place) t.2.0 ∙ ap (λ n. name_at (map names rs) instances d.instance n) t.2.1 ∙ found)

      -- the same of lists that are these
      pub told_as : (trees : List ReactorTree) → trees ≡ rs → (made : List Instance) → made ≡ instances → (listed things : List Thing) → listed ≡ things → AllZip IsThingOf (declared kind located) things
          → (xs : List OwnName) → map seen xs ≡ map (λ t. (t.instance, name_at (map names trees) made t.instance t.place)) listed
          → AllZip (SaysDeclaration name) (declared kind located) xs
      told_as trees same_trees made same_made listed things same_listed all xs is =
          told things all xs (is
          ∙ ap (λ l. map (λ t. (t.instance, name_at (map names l) made t.instance t.place)) listed) same_trees
          ∙ ap (λ l. map (λ t. (t.instance, name_at (map names rs) l t.instance t.place)) listed) same_made
          ∙ ap (λ l. map (λ t. (t.instance, name_at (map names rs) instances t.instance t.place)) l) same_listed)

      pub sites : (xs : List OwnName) → AllZip (SaysDeclaration name) (declared kind located) xs → AreSites located names xs
      sites xs all = record {
        site = λ i x at.
            let d = AllZip-from (SaysDeclaration name) (declared kind located) xs all i x at in
            let stands = declared_from kind located i d.0 d.1 in
            record {
              at = d.0.located;
              place = d.0.place;
              there = ap (slice_get located) d.2.0 ∙ stands.instance;
              name = item_name d.0.located.inside.reactor d.0.place d.0.item stands.place ∙ ap Some (sym d.2.1);
            };
        one = λ i j a b at_a at_b instance place.
            let c = AllZip-from (SaysDeclaration name) (declared kind located) xs all i a at_a in
            let d = AllZip-from (SaysDeclaration name) (declared kind located) xs all j b at_b in
            one_declared i j c.0 d.0 c.1 d.1 (sym c.2.0 ∙ instance ∙ d.2.0) place;
      }

      pub few_told : (limit : ℕ) (n : Numbering) → IsNumbering kind rs instances limit n → (xs : List OwnName) → AllZip (SaysDeclaration name) (declared kind located) xs → length xs ≤ limit
      few_told limit n numbering xs all =
          let a = zip_long (SaysDeclaration name) (declared kind located) xs all in
          let b = declared-length kind rs located instances limit n zipped numbering in
          let c = numbering.few in
          omega arith

    -- ---- reactions

    pub placed_told : (things : List Thing) → AllZip IsThingOf (declared kind located) things → (xs : List PlacedReaction) → xs ≡ map placed_at things → AllZip IsPlacedAt (declared kind located) xs
    placed_told things all xs is = zip_of IsPlacedAt (declared kind located) xs (zip_long IsThingOf (declared kind located) things all ∙ sym (length-map things placed_at) ∙ sym (ap length is)) each
      where
        each : (k : ℕ) (d : Declared X) (x : PlacedReaction) → slice_get (declared kind located) k ≡ Some d → slice_get xs k ≡ Some x → IsPlacedAt d x
        each k d x at_d at_x =
            let t = AllZip-to IsThingOf (declared kind located) things all k d at_d in
            let one : x ≡ placed_at t.0 = Some_same _ _ (sym at_x ∙ ap (λ l. slice_get l k) is ∙ mapped placed_at things k t.0 t.1) in
            (ap (λ p. p.instance) one ∙ t.2.0, ap (λ p. p.place) one ∙ t.2.1)

    module _ (xs : List PlacedReaction) (all : AllZip IsPlacedAt (declared kind located) xs) where
      pub placed_within : (k : ℕ) (x : PlacedReaction) → slice_get xs k ≡ Some x → (x.instance < length located) × (x.place < length xs)
      placed_within k x at =
          let d = AllZip-from IsPlacedAt (declared kind located) xs all k x at in
          let stands = declared_from kind located k d.0 d.1 in
          let n : k ≡ base kind located d.0.instance + d.0.place = stands.number in
          let a = slice_get_within located d.0.instance d.0.located stands.instance in
          let b = slice_get_within xs k x at in
          let c = d.2.0 in
          let e = d.2.1 in
          (omega arith, omega arith)

      pub placed_once : (i j : ℕ) (a b : PlacedReaction) → i < j → slice_get xs i ≡ Some a → slice_get xs j ≡ Some b → a.instance ≡ b.instance → a.place ≡ b.place → ⊥
      placed_once i j a b low at_a at_b instance place =
          let c = AllZip-from IsPlacedAt (declared kind located) xs all i a at_a in
          let d = AllZip-from IsPlacedAt (declared kind located) xs all j b at_b in
          let one : i ≡ j = one_declared i j c.0 d.0 c.1 d.1 (sym c.2.0 ∙ instance ∙ d.2.0) (sym c.2.1 ∙ place ∙ d.2.1) in
          absurd (omega arith)

      pub few_placed : (limit : ℕ) (n : Numbering) → IsNumbering kind rs instances limit n → length xs ≤ limit
      few_placed limit n numbering =
          let a = zip_long IsPlacedAt (declared kind located) xs all in
          let b = declared-length kind rs located instances limit n zipped numbering in
          let c = numbering.few in
          omega arith

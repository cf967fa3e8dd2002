-- The links of a core instance are those of the instance that it stands for.
use Rattle.std.proofs.Common.{◌≡◌, ℕ, inl, List, [], ◌∷◌, ◌++◌, map, flat_map, filter_map, Option, Some, None, option_map, refl, sym, ap, subst, ◌∙◌, arith, append-nil}
use Rattle.std.specs.Prelude.{string_bytes}
use Rattle.std.proofs.lemmas.{Grind.flat_map-append, List.{map-id, Elements.filter_map-append}}
use Rattle.lft_lists.proofs.{Members.{Mem, mem_filter, mem_map}, Places.Some_same}
use Rattle.lft_tree.specs.{Tree.{ConnectionTree, MemberTree, RefTree, ConnectionMember, PortMember, connection_in, connections_of}, View.tree_view}
use Rattle.lft_tree.specs.declared.ast.Ast.{Ast}
use Rattle.lft_resolve.specs.{Causes.{NoneHolds, causes}, Instances.{Inside as CoreInside, Thing, stands_for, time_in as core_time_in}}
use Rattle.lft_program.specs.Flattening.{time_or_zero}
use Rattle.lft_whole.specs.declared.{sources.source.SourceFile.SourceFile, tree.{Connection.Connection, Expression.Expression, Member.Member}}
use Rattle.lft_elaborate.specs.inner.Channels.Lowered.{AreJoinedPlaces}
use Rattle.lft_classes.specs.declared.shapes.Inherited.{Inherited}
use Rattle.lft_lower.specs.inner.Meanings.{Meanings.{all_places, named_in}, Places.names_of}
use Rattle.lft_lower.specs.inner.{Lowered.{AreConnected, IsLowered, IsRead, MeanSides, each_pair, time_at, whole}, Reactors.IsLowering}
use Rattle.lft_same.specs.inner.Expanded.Core.{core_links}
use Rattle.lft_same.specs.Expanded.{Expanded.Link, Instances.{Inside, Widths, time_written_in}, Reactors.members_of}
use Rattle.lft_same.specs.Expanded.Whole.{channels, channel_link, links_at, links_of, pairs}
use Rattle.lft_same.proofs.{ExpandedLemmas.{Flattened.linked, Links.{joined_links, whole_links}}, Instances.{AreWidthsFound, StandsFor}, Inners.names_alike}
use Rattle.lft_same.proofs.{Known.{delay_time, known_law}, Listed.{all_mapped, none_mapped, unnumbered}, Lowered.{Appends, Becomes, of_instance, of_reaction}}
use Rattle.lft_same.proofs.{Members.{here, members_alike, never_of}, References.{all_things, each_stands, thing_for}, Settings.its_setting}
use Rattle.lft_same.proofs.Times.{becomes, time_law}
use Rattle.lft_whole.specs.declared.tree.Member.TheVariants as member

map_nil : {X Y : Type 0} (f : X → Y) (xs : List X) → [] ≡ map f xs → xs ≡ []
map_nil f [] e = refl
map_nil f (x ∷ xs) e = absurd (cc)

module _ (files : List SourceFile) (tree : Ast) (low : IsLowering files tree) (w : Widths) (found : AreWidthsFound files tree low w) (none : NoneHolds (causes (tree_view tree))) (x : Inside) (core : CoreInside) (s : StandsFor files tree low x core) (path : List ℕ) where
  abbrev stands : RefTree → Thing
  stands = thing_for files tree low w found x (its_setting files tree low x core s) path core.reactor (names_alike files tree low x core s w found)

  abbrev links : List ConnectionTree → List Link
  links = flat_map (core_links path core)

  -- the delay of a connection in the core is that of the connection
  delay_is : (cn : ConnectionTree) (o : Option Expression) → Mem cn (connections_of core.reactor) → cn.delay ≡ time_at o → IsRead s.shape o → option_map (core_time_in core) (time_at o) ≡ option_map (λ e. time_written_in files x (Some e)) o
  delay_is cn None k is read = refl
  delay_is cn (Some e) k is read =
      let t = becomes s.shape e.value read in
      ap (option_map (core_time_in core)) t.1 ∙ ap Some (sym (ap (time_or_zero core) t.1) ∙ time_law files x core s.shape (Some e) s.times read (λ z f. known_law (tree_view tree) core.reactor z none s.listed (delay_time core.reactor cn z k (is ∙ f))))

  -- what a connection becomes
  module _ (c : Connection) (mean : MeanSides (here files tree low x core s) c) (read : IsRead s.shape c.delay) where
    abbrev left : List RefTree
    left = all_places (here files tree low x core s) c.sources.items

    abbrev right : List RefTree
    right = all_places (here files tree low x core s) c.destinations.items

    abbrev joined : List (Thing × Thing)
    joined = pairs c.is_broadcast (flat_map (channels files w path x) c.sources.items) (flat_map (channels files w path x) c.destinations.items)

    abbrev core_link : Thing × Thing → Link
    core_link p = linked (option_map (core_time_in core) (time_at c.delay)) p.0 p.1

    left_stands : (p : RefTree) → Mem p left → stands_for core.reactor path p ≡ Some (stands p)
    left_stands = each_stands files tree low w found x (its_setting files tree low x core s) path core.reactor (names_alike files tree low x core s w found) c.sources.items mean.0

    right_stands : (p : RefTree) → Mem p right → stands_for core.reactor path p ≡ Some (stands p)
    right_stands = each_stands files tree low w found x (its_setting files tree low x core s) path core.reactor (names_alike files tree low x core s w found) c.destinations.items mean.1

    joined_is : pairs c.is_broadcast (map stands left) (map stands right) ≡ joined
    joined_is =
        ap (λ l. pairs c.is_broadcast l (map stands right)) (all_things files tree low w found x (its_setting files tree low x core s) path core.reactor (names_alike files tree low x core s w found) c.sources.items mean.0)
        ∙ ap (pairs c.is_broadcast (flat_map (channels files w path x) c.sources.items)) (all_things files tree low w found x (its_setting files tree low x core s) path core.reactor (names_alike files tree low x core s w found) c.destinations.items mean.1)

    -- where there is a connection in the core, its links have the delay
    delayed : (cn : ConnectionTree) → Mem cn (connections_of core.reactor) → cn.delay ≡ time_at c.delay → map core_link joined ≡ links_of files w path x c
    delayed cn k is = ap (λ d. map (λ (p : Thing × Thing). linked d p.0 p.1) joined) (delay_is cn c.delay k is read)

    each_links : (cs : List ConnectionTree) → AreJoinedPlaces left right c.is_broadcast (time_at c.delay) cs → ((cn : ConnectionTree) → Mem cn cs → Mem cn (connections_of core.reactor)) → links cs ≡ links_of files w path x c
    each_links cs joins stand = by cs joins (joined_links path core (time_at c.delay) stands left right c.is_broadcast cs joins left_stands right_stands ∙ ap (map core_link) joined_is) stand
      where
        by : (cs : List ConnectionTree) → AreJoinedPlaces left right c.is_broadcast (time_at c.delay) cs → links cs ≡ map core_link joined → ((cn : ConnectionTree) → Mem cn cs → Mem cn (connections_of core.reactor)) → links cs ≡ links_of files w path x c
        by [] joins e stand = ap (map (channel_link files x c)) (sym (map_nil core_link joined e))
        by (cn ∷ cs) joins e stand =
            let one = joins.1 0 (omega arith) in
            let is : cn.delay ≡ time_at c.delay = ap (λ (k : ConnectionTree). k.delay) (Some_same cn _ one.4) in
            e ∙ delayed cn (stand cn (inl refl)) is

    -- it has the links of the connection
    pub connection_links : (new : List MemberTree) → AreConnected left right c.is_broadcast (time_at c.delay) new → ((y : MemberTree) → Mem y new → Mem y core.reactor.members) → links (filter_map connection_in new) ≡ links_of files w path x c
    connection_links _ (each_pair ms (cs, joins, is)) among =
        ap (λ l. links (filter_map connection_in l)) is
        ∙ ap links (all_mapped connection_in ConnectionMember (λ c. c) (λ c. refl) cs ∙ map-id cs)
        ∙ each_links cs joins (λ cn k. mem_filter connection_in (ConnectionMember cn) cn core.reactor.members (among (ConnectionMember cn) (subst (Mem (ConnectionMember cn)) (sym is) (mem_map ConnectionMember cn cs k))) refl)
    connection_links _ (whole narrow long) among =
        whole_links path core (time_at c.delay) stands left right left_stands right_stands
        ∙ ap (λ b. map core_link (pairs b (map stands left) (map stands right))) (sym narrow)
        ∙ ap (map core_link) joined_is
        ∙ delayed cn (mem_filter connection_in (ConnectionMember cn) cn core.reactor.members (among (ConnectionMember cn) (inl refl)) refl) refl
      where
        cn : ConnectionTree
        cn = record { sources = left; destinations = right; delay = time_at c.delay }

  -- ---- all members

  -- core connections have the links of the connections of these members
  abbrev AreLinked : List MemberTree → List (ℕ × (ℕ × Member)) → Type 0
  AreLinked a b = links (filter_map connection_in a) ≡ flat_map (λ p. links_at files w path x p.1) b

  linked_appends : Appends AreLinked
  linked_appends = record {
    nothing = refl;
    append = λ a b c d p q. ap links (filter_map-append connection_in a b) ∙ flat_map-append (core_links path core) (filter_map connection_in a) (filter_map connection_in b) ∙ ap (λ (l : List Link). l ++ links (filter_map connection_in b)) p ∙ ap (λ (l : List Link). flat_map (λ p. links_at files w path x p.1) c ++ l) q ∙ sym (flat_map-append (λ (p : ℕ × (ℕ × Member)). links_at files w path x p.1) c d);
  }

  link_at : (n : ℕ) (m : Inherited) (new : List MemberTree) → Becomes low.names (here files tree low x core s) core.reactor.members (never_of files tree low x core s) n m new → AreLinked new ((n, (m.file, m.member.now)) ∷ [])
  link_at n m new made = of m.member.now made.lowered
    where
      of : (y : Member) → IsLowered low.names (here files tree low x core s) n made.before new made.after y → AreLinked new ((n, (m.file, y)) ∷ [])
      of (member.Connection c) l = connection_links c l.2 l.3 new l.4 made.among ∙ sym (append-nil (links_of files w path x c))
      of (member.Port p) l = ap (λ a. links (filter_map connection_in a)) l.1 ∙ ap links (none_mapped connection_in (λ name. PortMember (record { name = name; is_input = p.is_input })) (λ name. refl) (names_of (named_in (here files tree low x core s) (string_bytes p.name.text) n)))
      of (member.Timer t) l = ap (λ a. links (filter_map connection_in a)) l.3
      of (member.Action a) l = ap (λ a. links (filter_map connection_in a)) l.3
      of (member.Reaction r) l = ap links (of_reaction connection_in (λ q. refl) (here files tree low x core s) r made.before new made.after l.1).1
      of (member.Instance i) l = ap links (of_instance connection_in (λ i. refl) low.names (here files tree low x core s) n (string_bytes i.name.text) new l.1)
      of (member.Foreign what at) l = absurd l

  -- the links of both are the same
  pub links_alike : links (connections_of core.reactor) ≡ flat_map (links_at files w path x) (members_of files x.class)
  links_alike = members_alike files tree low x core s AreLinked linked_appends link_at ∙ unnumbered (links_at files w path x) 0 (members_of files x.class)

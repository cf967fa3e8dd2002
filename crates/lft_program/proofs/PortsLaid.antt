-- What the tables and the links of a tree have for a port of it.
use Rattle.std.proofs.Common.{◌≡◌, ◌<◌, ℕ, Bool, List, Some, length, slice_get, sym, subst, ap, ◌∙◌}
use Rattle.std.{specs.{Option.option_and_then, List.AllZip}, proofs.lemmas.List.length-map}
use Rattle.lft_lists.proofs.{Mapped.mapped, Zips.long as zip_long}
use Rattle.lft_tree.specs.Tree.{FileTree, PortTree, ports_of}
use Rattle.lft_resolve.specs.{declared.expansion.numbering.Thing.Thing, Instances.{Thing as Spoken, thing_at}, inner.Sheets.IsDeclarations}
use Rattle.lft_resolve.proofs.Files.{AllZip-from}
use Rattle.lft_program.specs.{Links.IsSource, Located.{Declared, declared, ports_in}, inner.{Nests.IsThingOf, Laying.{IsPortAt, input_at}, OfTree.AreOfTree}}
use Rattle.lft_program.specs.{declared.nesting.{linking.Linked.Linked, nest.Nest.Nest, tables.Tables.Tables}, Flattening.IsPort}
use Rattle.lft_program.proofs.{LaidOut.row_there, Listing.declared_from, Making.{Made, made_zip}}
use Rattle.lft_ir.specs.declared.parts.Port.{Port as PortOf}

-- the port is the one of its number's link
abbrev pub IsLinkedPort : Tables → Nest → List Linked → ℕ → Thing → PortOf → Type 0
IsLinkedPort tables nest links k thing port = (link : Linked) × (slice_get links k ≡ Some link) × IsPortAt tables nest link thing port

module _ (tree : FileTree) (tables : Tables) (nest : Nest) (links : List Linked) (of : AreOfTree tree tables nest links) where
  module _ (k : ℕ) (d : Declared PortTree) (thing : Thing) (is : slice_get (declared ports_of of.is_nest.located) k ≡ Some d) (same : IsThingOf d thing) where
    pub port_there : input_at tables nest thing ≡ Some d.item.is_input
    port_there =
        let at = declared_from ports_of of.is_nest.located k d is in
        let row = row_there tree tables nest links of IsDeclarations tables.declarations.items of.are_tables.declarations thing.instance d.located (ap (slice_get of.is_nest.located) same.0 ∙ at.instance) in
        let item : slice_get (ports_of d.located.inside.reactor) thing.place ≡ Some d.item = ap (slice_get (ports_of d.located.inside.reactor)) same.1 ∙ at.place in
        ap (option_and_then (λ x. slice_get x.inputs.items thing.place)) row.1
        ∙ ap (λ inputs. slice_get inputs thing.place) row.2.inputs
        ∙ mapped (λ x. x.is_input) (ports_of d.located.inside.reactor) thing.place d.item item

    pub port_is : (port : PortOf) → IsLinkedPort tables nest links k thing port → IsPort tree of.is_nest.located d port
    port_is port made =
        let name : Declared PortTree → Spoken = λ x. thing_at x.located.path x.item.name in
        let source = of.are_links.sources k (name d) made.0 (mapped name (declared ports_of of.is_nest.located) k d is) made.1 in
        let input : Some port.is_input ≡ Some d.item.is_input = sym made.2.direction ∙ port_there in
        record {
          instance = made.2.instance ∙ same.0;
          direction = (cc);
          source = subst (IsSource tree (ports_in of.is_nest.located) (name d)) (sym made.2.source) source;
        }

  module _ (things : List Thing) (all : AllZip IsThingOf (declared ports_of of.is_nest.located) things) where
    pub links_long : length links ≡ length things
    links_long = of.are_links.as_long ∙ length-map (declared ports_of of.is_nest.located) (λ x. thing_at x.located.path x.item.name) ∙ zip_long IsThingOf (declared ports_of of.is_nest.located) things all

    pub link_within : (k : ℕ) → k < length things → k < length links
    link_within k within = subst (λ n. k < n) (sym links_long) within

    pub port_for : (k : ℕ) (thing : Thing) → slice_get things k ≡ Some thing → (is_input : Bool) × (input_at tables nest thing ≡ Some is_input)
    port_for k thing at = let d = AllZip-from IsThingOf (declared ports_of of.is_nest.located) things all k thing at in (d.0.item.is_input, port_there k d.0 thing d.1 d.2)

    pub ports_are : (ports : List PortOf) → length ports ≡ length things → Made (IsLinkedPort tables nest links) things ports → AllZip (IsPort tree of.is_nest.located) (declared ports_of of.is_nest.located) ports
    ports_are ports long made = made_zip IsThingOf (IsLinkedPort tables nest links) (IsPort tree of.is_nest.located) (declared ports_of of.is_nest.located) things ports all long made (λ k d thing port is same at. port_is k d thing is same port at)

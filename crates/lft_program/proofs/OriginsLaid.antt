-- The chains of connections of a tree's links are those of the ports made of them.
use Rattle.std.proofs.Common.{◌≡◌, ◌<◌, ℕ, List, Some, None, map, length, slice_get, sym, subst, ap, ◌∙◌}
use Rattle.std.proofs.lemmas.Option.{slice_get_within}
use Rattle.lft_lists.proofs.{Mapped.mapped_from, Places.get_there}
use Rattle.lft_tree.specs.Tree.{FileTree}
use Rattle.lft_resolve.specs.inner.Expansion.Sources.{ChainOrigin as OriginBefore, itself as itself_before, over as over_before}
use Rattle.lft_resolve.specs.declared.expansion.numbering.Thing.{Thing}
use Rattle.lft_program.specs.{declared.nesting.{linking.Linked.Linked, nest.Nest.Nest, tables.Tables.Tables}, inner.OfTree.AreOfTree}
use Rattle.lft_program.proofs.{Making.Made, PortsLaid.IsLinkedPort}
use Rattle.lft_ir.specs.{Origins.{Origin, itself, over}, Parts.Parts, Sound.KeepsOrigins, declared.parts.Port.Port as PortOf}

-- each link has a port of its number with its source
abbrev pub HaveSources : List Linked → Parts → Type 0
HaveSources links program = (p : ℕ) (l : Linked) → slice_get links p ≡ Some l → (port : PortOf) × (slice_get program.ports p ≡ Some port) × (port.source ≡ l.source)

chain_is : (links : List Linked) (program : Parts) → HaveSources links program → (p o : ℕ) (delays : List ℕ) → OriginBefore (map (λ l. l.source) links) p o delays → Origin program p o delays
chain_is links program have p _ _ (itself_before at) =
    let l = mapped_from (λ (l : Linked). l.source) links p None at in
    let port = have p l.0 l.1 in
    itself port.0 port.1 (port.2 ∙ l.2)
chain_is links program have p o delays (over_before source first at rest is) =
    let l = mapped_from (λ (l : Linked). l.source) links p (Some source) at in
    let port = have p l.0 l.1 in
    over port.0 source first port.1 (port.2 ∙ l.2) (chain_is links program have source.port o first rest) is

module _ (tree : FileTree) (tables : Tables) (nest : Nest) (links : List Linked) (of : AreOfTree tree tables nest links) (things : List Thing) (ports : List PortOf) (as_long : length links ≡ length things) (long : length ports ≡ length things) (made : Made (IsLinkedPort tables nest links) things ports) where
  -- the link of a port
  linked : (p : ℕ) (port : PortOf) → slice_get ports p ≡ Some port → (thing : Thing) × IsLinkedPort tables nest links p thing port
  linked p port at =
      let within : p < length things = subst (λ n. p < n) long (slice_get_within ports p port at) in
      let thing = get_there things p within in
      (thing.0, made p thing.0 port thing.1 at)

  have_sources : (program : Parts) → program.ports ≡ ports → HaveSources links program
  have_sources program same p l at =
      let within : p < length ports = subst (λ n. p < n) (as_long ∙ sym long) (slice_get_within links p l at) in
      let port = get_there ports p within in
      let link = linked p port.0 port.1 in
      let is : link.1.0 ≡ l = (let e : Some link.1.0 ≡ Some l = sym link.1.1 ∙ at in cc) in
      (port.0, ap (λ ps. slice_get ps p) same ∙ port.1, link.1.2.source ∙ ap (λ k. k.source) is)

  pub keeps_origins : (program : Parts) → program.ports ≡ ports → KeepsOrigins program
  keeps_origins program same p port at =
      let link = linked p port (sym (ap (λ ps. slice_get ps p) same) ∙ at) in
      let origin = of.are_links.origins p link.1.0 link.1.1 in
      let chain = chain_is links program (have_sources program same) p link.1.0.origin origin.0 origin.1 in
      (origin.0, subst (λ o. Origin program p o origin.0) (sym link.1.2.origin) chain, origin.2 ∙ ap (λ s. (s.time, s.steps)) (sym link.1.2.shift))

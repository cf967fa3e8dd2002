-- The parts that were made of a tree's tables, nest and links are those of its flat program, and within the limits.
use Rattle.std.proofs.Common.{◌≡◌, ◌≤◌, ℕ, List, length, ap, ◌∙◌, arith}
use Rattle.std.{specs.List.AllZip, proofs.lemmas.List.length-map}
use Rattle.lft_tree.specs.Tree.{FileTree, ReactorTree, reactors_of, ports_of, timers_of, actions_of, reactions_of}
use Rattle.lft_program.specs.{Located.declared, inner.{Nests.{IsInstanceOf, IsNumbering}, OfTree.AreOfTree}}
use Rattle.lft_program.specs.declared.nesting.{linking.Linked.Linked, nest.{Nest.Nest, Numbering.Numbering}, tables.Tables.Tables}
use Rattle.lft_program.specs.Flattening.{Flat, IsPort, IsTimer, IsAction, IsReaction, names_of, name_of_path}
use Rattle.lft_program.proofs.Listing.{declared-length}
use Rattle.lft_ir.specs.{Parts.Parts, Sound.{IsWithinLimits, KeepsOrigins}}
use Rattle.lft_lists.proofs.Zips.{long as zip_long}

module _ (tree : FileTree) (tables : Tables) (nest : Nest) (links : List Linked) (n : AreOfTree tree tables nest links) (program : Parts)
    (origins : KeepsOrigins program)
    (ports : AllZip (IsPort tree n.is_nest.located) (declared ports_of n.is_nest.located) program.ports)
    (actions : AllZip IsAction (declared actions_of n.is_nest.located) program.actions)
    (timers : AllZip IsTimer (declared timers_of n.is_nest.located) program.timers)
    (reactions : AllZip (IsReaction n.is_nest.located) (declared reactions_of n.is_nest.located) program.reactions)
    (names : program.names ≡ names_of tree n.is_nest.are_located.main n.is_nest.located) where
  pub flat_of_parts : Flat tree program
  flat_of_parts = record {
    instances = n.is_nest.located;
    are_located = n.is_nest.are_located;
    ports = ports;
    origins = origins;
    actions = actions;
    timers = timers;
    reactions = reactions;
    names = names;
  }

  -- as many as the instances declare
  few : {X Y : Type 0} (kind : ReactorTree → List X) (R : _ → Y → Type 0) (limit : ℕ) (numbering : Numbering) (parts : List Y) → IsNumbering kind (reactors_of tree) nest.instances.items limit numbering → AllZip R (declared kind n.is_nest.located) parts → length parts ≤ limit
  few kind R limit numbering parts is zipped =
      let a = zip_long R (declared kind n.is_nest.located) parts zipped in
      let b = declared-length kind (reactors_of tree) n.is_nest.located nest.instances.items limit numbering n.is_nest.instances is in
      omega (arith, a, b, is.few)

  instances : length program.names.instances ≤ 10000
  instances =
      let a : length program.names.instances ≡ length n.is_nest.located = ap (λ names. length names.instances) names ∙ length-map n.is_nest.located (λ i. name_of_path tree n.is_nest.are_located.main i.path) in
      let b = zip_long (IsInstanceOf (reactors_of tree)) n.is_nest.located nest.instances.items n.is_nest.instances in
      omega (arith, a, b, n.is_nest.few)

  pub limits_of_parts : IsWithinLimits program
  limits_of_parts = record {
    instances = instances;
    reactions = few reactions_of (IsReaction n.is_nest.located) 10000 nest.reactions program.reactions n.is_nest.reactions reactions;
    ports = few ports_of (IsPort tree n.is_nest.located) 100000 nest.ports program.ports n.is_nest.ports ports;
    actions = few actions_of IsAction 100000 nest.actions program.actions n.is_nest.actions actions;
    timers = few timers_of IsTimer 100000 nest.timers program.timers n.is_nest.timers timers;
  }

-- A lowered program that isn't refused is the whole program.
use Rattle.std.proofs.Common.{◌≡◌, ℕ, List, Option, Some, None, option_map, refl, sym, ap, subst, ◌∙◌}
use Rattle.std.specs.Option.{option_and_then}
use Rattle.lft_resolve.specs.{Expansion.Paths.along, Causes.{NoneHolds, causes}}
use Rattle.lft_resolve.specs.Instances.{Inside as CoreInside, entered as core_entered, main_instance as core_main, main_of as core_main_of}
use Rattle.lft_lists.proofs.Places.{Some_same}
use Rattle.lft_tree.specs.{Tree.ReactorTree, View.tree_view, declared.ast.Ast.Ast}
use Rattle.lft_whole.specs.declared.sources.source.SourceFile.{SourceFile}
use Rattle.lft_lower.specs.inner.Reactors.{IsLowering}
use Rattle.lft_same.specs.inner.Expanded.Core.{core_contents, expanded_tree}
use Rattle.lft_same.specs.Expanded.{Expanded.Contents, Instances.{Inside, Widths, entered_instance, main_class_instance}, Reactors.{Class, main_of}}
use Rattle.lft_same.specs.Expanded.{Same.{IsNever, IsSame, awake}, Whole.{AreWidths, expanded_files, whole_contents}}
use Rattle.lft_same.proofs.{Instances.{AreWidthsFound, StandsFor}, Connections.links_alike, Declared.{actions_alike, awake_actions, ports_alike, timers_alike}}
use Rattle.lft_same.proofs.{Inners.names_alike, Members.never_of, Paths.{Both, both, neither, together}, Reactions.{awake_reactions, reactions_alike}}
use Rattle.lft_same.proofs.{Reactors.has_main, Sleeping.is_never, Standing.{main_stands, step_stands}}

-- what has the same parts is the same
awoken : (path : List ℕ) (never : Option (List ℕ)) (c d : Contents) → c.instances ≡ d.instances → c.ports ≡ d.ports → awake_actions never c.actions ≡ d.actions → c.timers ≡ d.timers → awake_reactions path never c.reactions ≡ d.reactions → c.links ≡ d.links → awake path never c ≡ d
awoken path None c d instances ports actions timers reactions links = λ i. record { instances = instances i; ports = ports i; actions = actions i; timers = timers i; reactions = reactions i; links = links i }
awoken path (Some q) c d instances ports actions timers reactions links = λ i. record { instances = instances i; ports = ports i; actions = actions i; timers = timers i; reactions = reactions i; links = links i }

module _ (files : List SourceFile) (tree : Ast) (low : IsLowering files tree) (none : NoneHolds (causes (tree_view tree))) (w : Widths) (found : AreWidthsFound files tree low w) where
  abbrev pub Stand : CoreInside → Inside → Type 0
  Stand core x = StandsFor files tree low x core

  -- a core instance has what the instance has for which it stands
  contents_alike : (path : List ℕ) (x : Inside) (core : CoreInside) (s : StandsFor files tree low x core) → awake path (never_of files tree low x core s) (core_contents path core) ≡ whole_contents files w path x
  contents_alike path x core s =
      awoken path (never_of files tree low x core s) (core_contents path core) (whole_contents files w path x)
      (names_alike files tree low x core s w found)
      (ports_alike files tree low x core s w found)
      (actions_alike files tree low x core s none)
      (timers_alike files tree low x core s none)
      (reactions_alike files tree low w found none x core s path)
      (links_alike files tree low w found none x core s path)

  pub main : (r : ReactorTree) × (core_main_of (tree_view tree) ≡ Some r)
  main = has_main tree none

  pub stands : (c : Class) × (main_of files ≡ Some c) × StandsFor files tree low (main_class_instance files c) (core_main main.0)
  stands = main_stands files tree low main.0 main.1

  pub at_path : (path : List ℕ) → Both Stand (along (core_entered (tree_view tree)) (core_main main.0) path) (along (entered_instance files w) (main_class_instance files stands.0) path)
  at_path path = together Stand (core_entered (tree_view tree)) (entered_instance files w) (λ core x k s. step_stands files tree low none w found x core s k) path (core_main main.0) (main_class_instance files stands.0) stands.2

  -- the action without events of the core instance, if there is one
  never_in : (o : Option CoreInside) (p : Option Inside) → Both Stand o p → Option (List ℕ)
  never_in _ _ neither = None
  never_in _ _ (both core x s) = never_of files tree low x core s

  pub never_at : List ℕ → Option (List ℕ)
  never_at path = never_in (along (core_entered (tree_view tree)) (core_main main.0) path) (along (entered_instance files w) (main_class_instance files stands.0) path) (at_path path)

  tree_at : (path : List ℕ) → expanded_tree (tree_view tree) path ≡ option_map (core_contents path) (along (core_entered (tree_view tree)) (core_main main.0) path)
  tree_at path = ap (option_and_then (λ main. option_map (core_contents path) (along (core_entered (tree_view tree)) (core_main main) path))) main.1

  files_at : (path : List ℕ) → expanded_files files w path ≡ option_map (whole_contents files w path) (along (entered_instance files w) (main_class_instance files stands.0) path)
  files_at path = ap (option_and_then (λ main. option_map (whole_contents files w path) (along (entered_instance files w) (main_class_instance files main) path))) stands.1

  pub never_is : (path : List ℕ) (c : Contents) → expanded_tree (tree_view tree) path ≡ Some c → IsNever path (never_at path) c
  unfolding never_at never_in
  never_is path c e = go (along (core_entered (tree_view tree)) (core_main main.0) path) (along (entered_instance files w) (main_class_instance files stands.0) path) (at_path path) (sym (tree_at path) ∙ e)
    where
      known : (never : Option (List ℕ)) (core : CoreInside) (x : Inside) (s : StandsFor files tree low x core) → never_of files tree low x core s ≡ never → IsNever path never (core_contents path core)
      known None core x s e = tt
      known (Some q) core x s e = is_never files tree none low x core s q e path

      go : (o : Option CoreInside) (p : Option Inside) (b : Both Stand o p) → option_map (core_contents path) o ≡ Some c → IsNever path (never_in o p b) c
      go _ _ neither e = absurd (cc)
      go _ _ (both core x s) e = subst (IsNever path (never_of files tree low x core s)) (Some_same (core_contents path core) c e) (known (never_of files tree low x core s) core x s refl)

  pub same_at : (path : List ℕ) → option_map (awake path (never_at path)) (expanded_tree (tree_view tree) path) ≡ expanded_files files w path
  unfolding never_at never_in
  same_at path = ap (option_map (awake path (never_at path))) (tree_at path) ∙ go (along (core_entered (tree_view tree)) (core_main main.0) path) (along (entered_instance files w) (main_class_instance files stands.0) path) (at_path path) ∙ sym (files_at path)
    where
      go : (o : Option CoreInside) (p : Option Inside) (b : Both Stand o p) → option_map (awake path (never_in o p b)) (option_map (core_contents path) o) ≡ option_map (whole_contents files w path) p
      go _ _ neither = refl
      go _ _ (both core x s) = ap Some (contents_alike path x core s)

  abbrev pub is_same : AreWidths files w → IsSame files (expanded_tree (tree_view tree))
  is_same are = record { widths = w; are_widths = are; never = never_at; is_never = never_is; same = same_at }

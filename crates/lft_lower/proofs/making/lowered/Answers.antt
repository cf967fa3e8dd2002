use Rattle.std.proofs.Common.{◌≡◌, ℕ, List, Option, None, subst}
use Rattle.std.specs.Prelude.{String}
use Rattle.lft_tree.specs.{Tree.ItemTree, View.file_view}
use Rattle.lft_elaborate.specs.declared.settings.Settings.{Settings}
use Rattle.lft_lower.{specs.inner.{Meanings.Names.texts, Reactors.AreReactors}, proofs.Names.has_identifiers}
use Rattle.lft_lower.proofs.making.lowered.Goals as goal

same_reactors : {Z : Type 0} (s : Settings) (names names_are : List (Option (String Z))) (used : List ℕ) (items : List ItemTree) → names ≡ names_are → AreReactors s (texts names) used items → AreReactors s (texts names_are) used items
same_reactors s names names_are used items n made = subst (λ ns. AreReactors s (texts ns) used items) n made

pub invariant_of-tree : goal.invariant_of-tree
invariant_of-tree c = record { identifiers = has_identifiers c.args.settings.now _ c.args.used.now (file_view None c.in_ok-items.items.items) c.in_ok-items.ensures.made }

pub returns : goal.returns
returns c = record {
  made = λ program. record {
    settings = c.args.settings.now;
    used = c.args.used.now;
    program = program;
    centralized = c.in_ok-notes.ensures.known;
    names = texts c.in_ok-names.names.items;
    apart = c.in_ok-names.ensures.apart;
    reactors = same_reactors _ _ _ _ _ c.deref-2.ensures.value c.in_ok-items.ensures.made;
    placed = c.in_ok-items.ensures.at;
  };
}

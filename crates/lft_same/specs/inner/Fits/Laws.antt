-- How what lowering finds out of files stands to what they mean.
use Rattle.std.specs.Prelude.{◌≡◌, ℕ, List, Some, option_map, slice_get}
use Rattle.lft_whole.specs.declared.{sources.source.SourceFile.SourceFile, tree.Instance.Instance}
use Rattle.lft_classes.specs.{declared.nesting.Nesting.Nesting, inner.{Nestings.IsNesting, Scopes.{AreScopes, number_in}}}
use Rattle.lft_elaborate.specs.inner.Values.{Valued, inside, main_setting}
use Rattle.lft_same.specs.Expanded.{Instances.{Inside, Widths, inside_of, main_class_instance}, Reactors.{Class, class_named, main_of, members_of}}
use Rattle.lft_same.specs.Expanded.Whole.{AreWidths}
use Rattle.lft_same.specs.inner.Fits.{Fits.{Fits, number_at}, Widths.{AreFound, AreThose}}
use Rattle.lft_whole.specs.declared.tree.Member.TheVariants as member

-- A name of a reactor means in the scopes what it means in the language.
abbrev pub NamesLaw : List SourceFile → Type 0
NamesLaw files = (scopes : _) → AreScopes files scopes → (file : ℕ) (q : List ℕ) → number_in scopes file q ≡ option_map (number_at files) (class_named files file q)

-- The setting of the main reactor fits the main instance.
abbrev pub MainLaw : List SourceFile → Type 0
MainLaw files = (scopes : _) (n : Nesting) (t : Valued) → IsNesting files scopes n → main_setting n.shapes.items ≡ Some t → (c : Class) × (main_of files ≡ Some c) × Fits files n.shapes.items t (main_class_instance files c)

-- Where a setting fits an instance, the setting in a member fits what its `new` makes.
abbrev pub InsideLaw : List SourceFile → Type 0
InsideLaw files = (scopes : _) (n : Nesting) (t u : Valued) (x : Inside) (m file : ℕ) (i : Instance) → IsNesting files scopes n → Fits files n.shapes.items t x → slice_get (members_of files x.class) m ≡ Some (file, member.Instance i) → inside n.shapes.items t m ≡ Some u → (y : Inside) × (inside_of files x (file, i) ≡ Some y) × Fits files n.shapes.items u y

-- Where each width is found, the whole program has widths, and they are those that are found.
abbrev pub WidthsLaw : List SourceFile → Type 0
WidthsLaw files = (scopes : _) (n : Nesting) (t : Valued) (depth : ℕ) → IsNesting files scopes n → main_setting n.shapes.items ≡ Some t → AreFound n.shapes.items depth → (w : Widths) × AreWidths files w × AreThose files n.shapes.items depth w

-- For what members name parameters: for widths, and for times.
use Rattle.std.specs.Prelude.{◌≡◌, ℕ, Contains, List, [], ◌∷◌, Option, Some, String, slice_get, string_bytes}
use Rattle.std.specs.Global.{Global}
use Rattle.lft_whole.specs.declared.tree.{Assignment.Assignment, Expression.Expression, Instance.Instance, Member.Member, Term.Term, Width.Width}
use Rattle.lft_classes.specs.Shapes.{width_of}
use Rattle.lft_whole.specs.declared.tree.Count.TheVariants as count
use Rattle.lft_whole.specs.declared.tree.Member.TheVariants as member
use Rattle.lft_whole.specs.declared.tree.WrittenValue.TheVariants as value

-- what a parameter is needed for
pub data Need : Type 0 where
  Widths : Need
  Times : Need

-- a term of the width is this name
pub record Names (width : Width) (q : List ℕ) : Type 0 where
  pub which : ℕ
  pub term : Term
  pub is_term : slice_get width.terms.items which ≡ Some term
  pub word : String Global
  pub is_word : term.count ≡ count.Word word
  pub is_name : string_bytes word ≡ q

-- the expression is this name
pub record IsWord (expression : Expression) (q : List ℕ) : Type 0 where
  pub word : String Global
  pub is_word : expression.value ≡ value.Word word
  pub is_name : string_bytes word ≡ q

-- what stands in a member where a time does
abbrev pub times_of_member : Member → List (Option Expression)
times_of_member (member.Timer timer) = timer.offset ∷ timer.period ∷ []
times_of_member (member.Action action) = action.min_delay ∷ []
times_of_member (member.Connection connection) = connection.delay ∷ []
times_of_member _ = []

-- a term of the member's width is this name, or one of its times is
abbrev pub NamedFor : Need → Member → List ℕ → Type 0
NamedFor Widths m q = (width : Width) × (width_of m ≡ Some width) × Names width q
NamedFor Times m q = (time : Expression) × Contains (times_of_member m) (Some time) × IsWord time q

-- the instance gives to the first name the second one
pub record Gives (instance : Instance) (p q : List ℕ) : Type 0 where
  pub which : ℕ
  pub assignment : Assignment
  pub is_given : slice_get instance.given.items which ≡ Some assignment
  pub has_name : string_bytes assignment.name.text ≡ p
  pub is_word : IsWord assignment.value q

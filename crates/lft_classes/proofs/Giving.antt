-- What an instance gives, in any order.
use Rattle.std.proofs.Common.{◌≡◌, ℕ, inl, inr, List, [], ◌∷◌, ◌++◌, Some, Contains, length, get_or, slice_get, sym, ap, subst, ◌∙◌, arith}
use Rattle.std.specs.Prelude.{All, Option}
use Rattle.std.specs.List.Sorted.{IsNonDecreasingBy, IsPermutation}
use Rattle.std.proofs.lemmas.List.{Elements.All-contains, Sorted.{All-permutation, Contains-permutation, length_permutation}}
use Rattle.std.proofs.lemmas.Option.{slice_get-get_or, slice_get_within}
use Rattle.lft_lists.proofs.Places.{at_contains, contains_at, get_push_cases, get_there, same_at}
use Rattle.lft_whole.specs.declared.tree.Assignment.{Assignment}
use Rattle.lft_classes.specs.{declared.shapes.{GivenValue.GivenValue, OwnThing.OwnThing}, inner.Built.{AreGiven, IsOf}}

-- one value more that is noted, behind those for what is written before it
pub noted_more : (things : List ℕ → Option OwnThing) (written : List Assignment) (given new : List GivenValue) (y : GivenValue) → new ≡ given ++ y ∷ [] → (a : Assignment) → slice_get written (length given) ≡ Some a → IsOf things a y → ((k : ℕ) (b : Assignment) (g : GivenValue) → slice_get written k ≡ Some b → slice_get given k ≡ Some g → IsOf things b g) → (k : ℕ) (b : Assignment) (g : GivenValue) → slice_get written k ≡ Some b → slice_get new k ≡ Some g → IsOf things b g
noted_more things written given new y pushed a at is before k b g here there = elim (get_push_cases given y k g (ap (λ l. slice_get l k) (sym pushed) ∙ there)) [
  | inl old ↦ before k b g here old
  | inr last ↦ subst (IsOf things b) last.1 (subst (λ x. IsOf things x y) (same_at written (length given) k a b at here (sym last.0)) is)
]

-- values that are noted one by one, and then in another order
pub given_moved : (things : List ℕ → Option OwnThing) (written : List Assignment) (given moved : List GivenValue) → length given ≡ length written → ((k : ℕ) (a : Assignment) (g : GivenValue) → slice_get written k ≡ Some a → slice_get given k ≡ Some g → IsOf things a g) → IsPermutation given moved → IsNonDecreasingBy (λ g. g.parameter) moved → AreGiven things written moved
given_moved things written given moved long are same sorted = record {
  count = length_permutation given moved same ∙ long;
  in_order = sorted;
  each = λ g has. All-contains Written moved g (All-permutation Written given moved same each) has;
  all = λ a has. (
      let at = at_contains written a has in
      let within = slice_get_within written at.0 a at.1 in
      let g = get_there given at.0 (omega (arith, within, long)) in
      (g.0, Contains-permutation given moved g.0 same (contains_at given at.0 g.0 g.1), are at.0 a g.0 at.1 g.1));
}
  where
    Written : GivenValue → Type 0
    Written g = (a : Assignment) × Contains written a × IsOf things a g

    each : All Written given
    each k d within =
        let a = get_there written k (omega (arith, within, long)) in
        (a.0, contains_at written k a.0 a.1, are k a.0 (get_or given k d) a.1 (slice_get-get_or given k d within))

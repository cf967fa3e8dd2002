-- Texts that grow by a line for each thing of a program, and what a graph's lists hold.
use Rattle.std.proofs.Common.{◌≡◌, ℕ, ◌+◌, ◌<◌, ◌≤◌, List, ◌++◌, length, take, flat_map, ap, ◌∙◌, arith, Some, slice_get}
use Rattle.std.{specs.List.enumerate_from, proofs.lemmas.List.FromFn.length-enumerate_from}
use Rattle.lft_lists.proofs.{Mapped.enumerate_at, Places.get_there}
use Rattle.lft_ir.proofs.WordsLemmas.Steps.{said_all, said_more}

pub placed_first : {X : Type 0} (xs : List X) (n : ℕ) (x : X) → slice_get xs n ≡ Some x → slice_get (enumerate_from 0 xs) n ≡ Some (n, x)
placed_first xs n x e = let j : 0 + n ≡ n = omega arith in enumerate_at 0 xs n x e ∙ ap (λ w. Some (w, x)) j

-- what is put at the end of a text for each thing of a list and its number: one more, and all
pub placed_more : {X : Type 0} (f : ℕ × X → List ℕ) (xs : List X) (n : ℕ) (start before after : List ℕ) → n < length xs → before ≡ start ++ flat_map f (take n (enumerate_from 0 xs)) → ((x : X) → slice_get xs n ≡ Some x → after ≡ before ++ f (n, x)) → after ≡ start ++ flat_map f (take (n + 1) (enumerate_from 0 xs))
placed_more f xs n start before after within so_far is =
    let x = get_there xs n within in
    said_more f (enumerate_from 0 xs) n (n, x.0) start before after (placed_first xs n x.0 x.1) so_far (is x.0 x.1)

pub placed_all : {X : Type 0} (f : ℕ × X → List ℕ) (xs : List X) (n : ℕ) (start text : List ℕ) → length xs ≤ n → text ≡ start ++ flat_map f (take n (enumerate_from 0 xs)) → text ≡ start ++ flat_map f (enumerate_from 0 xs)
placed_all f xs n start text l so_far = let e : length (enumerate_from 0 xs) ≡ length xs = length-enumerate_from 0 xs in said_all f (enumerate_from 0 xs) n start text (omega arith) so_far

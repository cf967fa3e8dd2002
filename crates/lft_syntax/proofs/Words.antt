-- The reserved words in parts.
use Rattle.std.proofs.Common.{◌≡◌, ℕ, Bool, true, false, List, [], ◌∷◌, ◌++◌, refl, sym, ap, ◌∙◌}
use Rattle.std.specs.Prelude.{◌||◌}
use Rattle.std.specs.Str.{bytes_eq}
use Rattle.lft_syntax.specs.{Lexeme.{is_one_of, is_reserved}, inner.Parsing.{outer_words, declaring_words, other_words}}

one_of : (a : Bool) (b c : Bool) → (a || (b || c)) ≡ ((a || b) || c)
one_of true b c = refl
one_of false b c = refl

one_of-append : (a b : List (List ℕ)) (x : List ℕ) → is_one_of (a ++ b) x ≡ (is_one_of a x || is_one_of b x)
one_of-append [] b x = refl
one_of-append (w ∷ a) b x = ap (λ (t : Bool). bytes_eq w x || t) (one_of-append a b x) ∙ one_of (bytes_eq w x) (is_one_of a x) (is_one_of b x)

parts : (x : List ℕ) → is_reserved x ≡ (is_one_of outer_words x || (is_one_of declaring_words x || is_one_of other_words x))
unfolding is_reserved
parts x = one_of-append outer_words (declaring_words ++ other_words) x ∙ ap (λ (t : Bool). is_one_of outer_words x || t) (one_of-append declaring_words other_words x)

pub reserved_outer : (x : List ℕ) → is_one_of outer_words x ≡ true → true ≡ is_reserved x
reserved_outer x e = sym (parts x ∙ ap (λ (t : Bool). t || (is_one_of declaring_words x || is_one_of other_words x)) e)

pub reserved_declaring : (x : List ℕ) → is_one_of outer_words x ≡ false → is_one_of declaring_words x ≡ true → true ≡ is_reserved x
reserved_declaring x n e = sym (parts x ∙ ap (λ (t : Bool). t || (is_one_of declaring_words x || is_one_of other_words x)) n ∙ ap (λ (t : Bool). t || is_one_of other_words x) e)

pub reserved_other : (x : List ℕ) → is_one_of outer_words x ≡ false → is_one_of declaring_words x ≡ false → is_one_of other_words x ≡ is_reserved x
reserved_other x n m = sym (parts x ∙ ap (λ (t : Bool). t || (is_one_of declaring_words x || is_one_of other_words x)) n ∙ ap (λ (t : Bool). t || is_one_of other_words x) m)

-- Tokens of files that are counted one behind another.
use Rattle.std.proofs.Common.{◌≡◌, ℕ, zero, suc, ◌+◌, ◌<◌, ◌≤◌, List, [], ◌∷◌, Option, Some, None, length, take, refl, sym, ap, ◌∙◌, zero-add, arith}
use Rattle.std.specs.Prelude.{IsSomeAnd, slice_get}
use Rattle.std.proofs.lemmas.List.Sums.{sum_by-append}
use Rattle.lft_whole.specs.{inner.Sources.Tokens.HasToken, declared.sources.{source.SourceFile.SourceFile, stop.Place.Place}}
use Rattle.lft_whole_parser.specs.inner.Imports.Files.{AreTokensApart, AreCounted, how_many_tokens}

-- so many tokens stand before these files
abbrev CountedFrom : List SourceFile → ℕ → Type 0
CountedFrom files offset = (k : ℕ) (file : SourceFile) → slice_get files k ≡ Some file → file.first ≡ offset + how_many_tokens (take k files)

-- the file has the token of this number
abbrev Has : List SourceFile → ℕ → ℕ → ℕ → Type 0
Has files number k token = IsSomeAnd (slice_get files k) (λ file. HasToken file number token)

one_first : (file : SourceFile) (files : List SourceFile) → how_many_tokens (file ∷ files) ≡ length file.spots.items + how_many_tokens files
one_first file files = sum_by-append (λ (x : SourceFile). length x.spots.items) (file ∷ []) files ∙ ap (λ n. n + how_many_tokens files) (zero-add (length file.spots.items))

counted_rest : (file : SourceFile) (files : List SourceFile) (offset : ℕ) → CountedFrom (file ∷ files) offset → CountedFrom files (offset + length file.spots.items)
counted_rest file files offset counted k other at = let here : other.first ≡ offset + (length file.spots.items + how_many_tokens (take k files)) = counted (suc k) other at ∙ ap (λ n. offset + n) (one_first file (take k files)) in omega (arith, here)

behind : (files : List SourceFile) (offset number k token : ℕ) → CountedFrom files offset → Has files number k token → offset ≤ number
behind files offset number k token counted has = of (slice_get files k) refl has
  where
    of : (o : Option SourceFile) → slice_get files k ≡ o → IsSomeAnd o (λ file. HasToken file number token) → offset ≤ number
    of None at h = absurd h
    of (Some file) at h = omega (arith, counted k file at, h.1)

first_ends : (file : SourceFile) (files : List SourceFile) (offset number token : ℕ) → CountedFrom (file ∷ files) offset → HasToken file number token → number < offset + length file.spots.items
first_ends file files offset number token counted h = let here : file.first ≡ offset + 0 = counted 0 file refl in omega (arith, here, h.0, h.1)

same : (files : List SourceFile) (offset number i j s t : ℕ) → CountedFrom files offset → Has files number i s → Has files number j t → (i ≡ j) × (s ≡ t)
same [] offset number i j s t counted one other = absurd one
same (file ∷ files) offset number zero zero s t counted one other = (refl, omega (arith, one.1, other.1))
same (file ∷ files) offset number zero (suc j) s t counted one other = absurd (omega (arith, first_ends file files offset number s counted one, behind files (offset + length file.spots.items) number j t (counted_rest file files offset counted) other))
same (file ∷ files) offset number (suc i) zero s t counted one other = absurd (omega (arith, first_ends file files offset number t counted other, behind files (offset + length file.spots.items) number i s (counted_rest file files offset counted) one))
same (file ∷ files) offset number (suc i) (suc j) s t counted one other = let rest = same files (offset + length file.spots.items) number i j s t (counted_rest file files offset counted) one other in (ap suc rest.0, rest.1)

abbrev at_place : ℕ → ℕ → Place
at_place file token = record { file = file; token = token }

same_place : (i j s t : ℕ) → (i ≡ j) × (s ≡ t) → at_place i s ≡ at_place j t
same_place i j s t (a, b) = ap (λ n. at_place n s) a ∙ ap (at_place j) b

-- no two tokens of such files have one number
pub are_apart : (files : List SourceFile) → AreCounted files → AreTokensApart files
are_apart files counted number one other a b = same_place one.file other.file one.token other.token (same files 0 number one.file other.file one.token other.token (λ k file at. counted k file at ∙ sym (zero-add (how_many_tokens (take k files)))) a b)

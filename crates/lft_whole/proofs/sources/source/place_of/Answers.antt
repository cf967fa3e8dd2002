use Rattle.std.proofs.Common.{◌≡◌, ℕ, ◌+◌, ◌<◌, ◌≤◌, inl, inr, List, Option, Some, None, length, slice_get, refl, sym, subst, ap, ◌∙◌, arith, rules}
use Rattle.std.specs.Prelude.{IfNone, IsSomeAnd}
use Rattle.std.proofs.{Math.Nat.eq-or-lt_of_le, lemmas.Option.{slice_get-get_or, slice_get_within}}
use Rattle.lft_whole.specs.{declared.sources.{source.SourceFile.SourceFile, stop.Place.Place}, inner.Sources.Tokens.{HasToken, StandsAt}}
use Rattle.lft_whole.proofs.sources.source.place_of.Goals as goal

-- such a place is in one of the files
within_files : (files : List SourceFile) (number : ℕ) (place : Place) → StandsAt files number place → place.file < length files
within_files files number place h = of (slice_get files place.file) refl h
  where
    of : (o : Option SourceFile) → slice_get files place.file ≡ o → IsSomeAnd o (λ file. HasToken file number place.token) → place.file < length files
    of None e stands = absurd stands
    of (Some file) e stands = slice_get_within files place.file file e

-- one more file has none
none_more : (files : List SourceFile) (number k : ℕ) (file : SourceFile) → slice_get files k ≡ Some file → ((token : ℕ) → HasToken file number token → ⊥) → ((place : Place) → place.file < k → StandsAt files number place → ⊥) → (place : Place) → place.file < k + 1 → StandsAt files number place → ⊥
none_more files number k file at none so_far place less stands =
    let low : place.file ≤ k = omega (arith, less) in
    elim (eq-or-lt_of_le low) [
      | inl same ↦ none place.token (subst (λ o. IsSomeAnd o (λ f. HasToken f number place.token)) (ap (slice_get files) same ∙ at) stands)
      | inr before ↦ so_far place before stands
    ]

pub loop-file-init : goal.loop-file-init
loop-file-init c = λ place less stands. absurd (omega (arith, less))

pub loop-file-preserved : goal.loop-file-preserved
loop-file-preserved c =
    let files = c.args.files.now in
    let k = c.loop-file.file in
    let file = c.index-files-file.result in
    let test = c.loop-file-test.true in
    let at : slice_get files k ≡ Some file = slice_get-get_or files k file (omega arith) ∙ ap Some (sym c.index-files-file.is) in
    let none : c.own.result ≡ None = search rules in
    none_more files c.args.number k file at (subst (λ o. IfNone o ((token : ℕ) → HasToken file c.args.number token → ⊥)) none c.own.ensures.none) c.loop-file.invariant

pub returns-clause-none : goal.returns-clause-none
returns-clause-none c = λ place stands. c.loop-file.invariant place (omega (arith, within_files c.args.files.now c.args.number place stands, c.loop-file-test.false)) stands

-- The names of a program's things are of letters, digits, `_`, brackets, dots and `#` alone.
use Rattle.std.proofs.Common.{◌≡◌, ℕ, ◌+◌, ◌<◌, zero, suc, true, List, [], ◌∷◌, ◌++◌, map, length, slice_index_or, All, codes, refl, sym, subst, arith}
use Rattle.std.specs.Fmt.{decimal}
use Rattle.std.proofs.lemmas.List.Elements.{All-nil, All-cons, All-head, All-tail, All-append, All-push, All-map, All-weaker, All-from_recursion}
use Rattle.lft_lists.specs.Bytes.{is_part}
use Rattle.lft_tree.specs.Identifiers.{IsName}
use Rattle.lft_program.specs.inner.{Extended.{Ending, dotted, hashed, endings, name_after, extended}, FullNames.{members, AreOfProgram, AreFew}}
use Rattle.lft_program.specs.declared.naming.{OwnName.OwnName, PlacedReaction.PlacedReaction}
use Rattle.lft_program.proofs.{Distinct.main, FullNames.all_at}
use Rattle.lft_ir.specs.{Names.{IsNameByte, AreWords}, inner.Places.{AreStarts, names_from}, declared.names.Starts.Starts}
use Rattle.lft_ir.proofs.{Ranges.each_named, Decimals.All-decimal}

-- what names are of may stand in a full name
part_fits : (b : ℕ) → is_part b ≡ true → IsNameByte b
part_fits b e = rw e refl

-- a name is of such bytes
All-name : (name : List ℕ) → IsName name → All IsNameByte name
All-name [] is = absurd is
All-name (c ∷ cs) is = All-cons IsNameByte c cs (rw is.0 refl) (All-weaker (λ b. is_part b ≡ true) IsNameByte part_fits cs is.1)

-- the text of the list at a place, or an empty one
fits_or_empty : (texts : List (List ℕ)) (i : ℕ) → All (All IsNameByte) texts → All IsNameByte (slice_index_or texts i [])
fits_or_empty [] i all = All-nil IsNameByte
fits_or_empty (x ∷ texts) zero all = All-head (All IsNameByte) x texts all
fits_or_empty (x ∷ texts) (suc i) all = fits_or_empty texts i (All-tail (All IsNameByte) x texts all)

-- what names and endings are of, the names that are made of them are of
extended_fits : (texts : List (List ℕ)) (es : List Ending) → All (All IsNameByte) texts → All (λ e. All IsNameByte e.1) es → All (All IsNameByte) (extended texts es)
extended_fits texts [] all ends = all
extended_fits texts (e ∷ es) all ends =
    let name = All-append IsNameByte (slice_index_or texts e.0 []) e.1 (fits_or_empty texts e.0 all) (All-head (λ x. All IsNameByte x.1) e es ends) in
    extended_fits (texts ++ name_after texts e ∷ []) es (All-push (All IsNameByte) texts (name_after texts e) all name) (All-tail (λ x. All IsNameByte x.1) e es ends)

-- the name of the main instance is of such bytes
main_fits : All (All IsNameByte) main
main_fits = All-cons (All IsNameByte) (codes "main") [] (All-from_recursion IsNameByte (codes "main") (refl, (refl, (refl, (refl, tt))))) (All-nil (All IsNameByte))

module _ (instances ports actions timers : List OwnName) (reactions : List PlacedReaction) (things : AreOfProgram instances ports actions timers reactions) (few : AreFew instances ports actions timers reactions) where
  -- a dot and a name
  dotted_fits : All (λ d. All IsNameByte (dotted d).1) (members instances ports actions timers)
  dotted_fits =
      All-weaker (λ d. IsName d.name.now) (λ d. All IsNameByte (dotted d).1)
      (λ d is. All-cons IsNameByte 46 d.name.now refl (All-name d.name.now is))
      (members instances ports actions timers) things.identifiers

  -- `#` and a number
  hashed_fits : All (λ r. All IsNameByte (hashed r).1) reactions
  hashed_fits =
      All-weaker (λ r. (r.instance < length instances) × (r.place < length reactions)) (λ r. All IsNameByte (hashed r).1)
      (λ r low.
      let place = low.1 in
      let count = few.few_reactions in
      All-cons IsNameByte 35 (decimal (r.place + 1)) refl (All-decimal (r.place + 1) (omega arith)))
      reactions things.placed

  -- what each name has after that of its instance
  endings_fit : All (λ e. All IsNameByte e.1) (endings instances ports actions timers reactions)
  endings_fit =
      All-append (λ e. All IsNameByte e.1) (map dotted (members instances ports actions timers)) (map hashed reactions)
      (All-map (λ e. All IsNameByte e.1) dotted (members instances ports actions timers) dotted_fits)
      (All-map (λ e. All IsNameByte e.1) hashed reactions hashed_fits)

  -- the names of all things
  pub AreWords-names_from : (texts : List (List ℕ)) → texts ≡ extended main (endings instances ports actions timers reactions) → (s : Starts) → AreStarts s (length texts) → AreWords (names_from texts s)
  AreWords-names_from texts is s starts =
      let all = subst (All (All IsNameByte)) (sym is) (extended_fits main (endings instances ports actions timers reactions) main_fits endings_fit) in
      each_named texts s starts (All IsNameByte) (all_at (All IsNameByte) texts all)

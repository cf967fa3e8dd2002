-- The runs at each tag, one row and one slice after another.
use Rattle.std.proofs.Common.{◌≡◌, ◌≢◌, ℕ, zero, suc, ◌+◌, ◌-◌, ◌<◌, ◌≤◌, ◌⊎◌, inl, inr, List, [], ◌∷◌, ◌++◌, length, length-append, refl, sym, ap, ◌∙◌, subst, arith, Some, slice_get, slice_set, slice_range, false, slice_index_or}
use Rattle.std.specs.{List.{swap, Sorted.{IsPermutation, IsSorted}}, Ordering.{nat_cmp, ordering_then, is_lt}, Cmp.IsTotalOrder}
use Rattle.std.proofs.lemmas.Cmp.{nat_cmp_total, then_total, on_total}
use Rattle.std.proofs.lemmas.List.{Sorted.{IsPermutation-sym, IsPermutation-keeps, Contains-permutation, sorted_far, ranks_by}, Edits.swap_is}
use Rattle.std.proofs.lemmas.{Bool.{cases_lt, Decides.nat_tests}, Option.{get_or_from_slice_get, slice_get-get_or}}
use native.Mathlib.Decide.{ℕ_discrete}
use Rattle.lft_tag.{specs.{declared.Tag.Tag, Tags.Before}, proofs.Order.{Before-irrefl, Before-trans}}
use Rattle.lft_ir.{proofs.Ranges.{range-get, range-within}, specs.declared.steps.row.{Row.Row, Step.{Step, TheVariants.{Start, End}}}}
use Rattle.lft_lists.proofs.Places.{get_there, same_at, get_write_cases, get_written, get_unwritten, get_push, get_last, get_push_cases, length_written, get_append_cases, get_left}
use Rattle.lft_lists.proofs.Members.{mem_get, get_mem, mem_contains, contains_mem}
use Rattle.lft_model.specs.{Plans.PlanParts, Runs.{start_row, end_row, Ran}, Accepted.AreTags}
use Rattle.lft_model.proofs.{Blocks.put_right, Ended.row_is, Legality.{four, one_start, one_end, ended, ran_at}, Places.slice_get_within}
use Rattle.lft_rows.specs.{declared.slices.Slice.Slice, inner.Slices.IsSlice}
use Rattle.lft_slices.specs.{declared.pieces.{Piece.Piece, Pieces.Pieces}, Pieces.{IsRunPiece, AreRuns, IsTagAt}}
use Rattle.lft_slices.specs.inner.Pieces.{AreEndsTo, AreStartsTo, AreRunsIn, ArePiecesTo, ArePieces}
use Rattle.lft_check.specs.inner.ByTag.Slices.{IsCuttable, AreSlices}

-- no two pieces of the list are of one reaction
abbrev AreApart : List Piece → Type 0
AreApart xs = (j k : ℕ) (x y : Piece) → slice_get xs j ≡ Some x → slice_get xs k ≡ Some y → x.reaction ≡ y.reaction → j ≡ k

-- j is where the element at place k stood before those at a and b changed places
abbrev IsFrom : ℕ → ℕ → ℕ → ℕ → Type 0
IsFrom a b k j = ((k ≡ b) × (j ≡ a)) ⊎ ((k ≢ b) × (k ≡ a) × (j ≡ b)) ⊎ ((k ≢ b) × (k ≢ a) × (j ≡ k))

swap_by : (xs ys : List Piece) (a b k : ℕ) (x : Piece) → a < length xs → b < length xs → ys ≡ slice_set xs a (slice_index_or xs b x) → slice_get (slice_set ys b (slice_index_or xs a x)) k ≡ Some x → (j : ℕ) × (slice_get xs j ≡ Some x) × IsFrom a b k j
swap_by xs ys a b k x l m is e = go (get_write_cases ys b k (slice_index_or xs a x) x (omega (arith, ap length is ∙ length_written xs a (slice_index_or xs b x))) e)
  where
    go : ((k ≡ b) × (slice_index_or xs a x ≡ x)) ⊎ ((k ≢ b) × (slice_get ys k ≡ Some x)) → (j : ℕ) × (slice_get xs j ≡ Some x) × IsFrom a b k j
    go (inl c) = (a, slice_get-get_or xs a x l ∙ ap Some c.1, inl (c.0, refl))
    go (inr c) = by (get_write_cases xs a k (slice_index_or xs b x) x l (ap (λ zs. slice_get zs k) (sym is) ∙ c.1))
      where
        by : ((k ≡ a) × (slice_index_or xs b x ≡ x)) ⊎ ((k ≢ a) × (slice_get xs k ≡ Some x)) → (j : ℕ) × (slice_get xs j ≡ Some x) × IsFrom a b k j
        by (inl d) = (b, slice_get-get_or xs b x m ∙ ap Some d.1, inr (inl (c.0, d.0, refl)))
        by (inr d) = (k, d.1, inr (inr (c.0, d.0, refl)))

swap_from : (xs : List Piece) (a b k : ℕ) (x : Piece) → a < length xs → b < length xs → slice_get (swap xs a b) k ≡ Some x → (j : ℕ) × (slice_get xs j ≡ Some x) × IsFrom a b k j
swap_from xs a b k x l m e = swap_by xs (slice_set xs a (slice_index_or xs b x)) a b k x l m refl (ap (λ zs. slice_get zs k) (swap_is xs a b x l m) ∙ e)

one_from : (a b j k i : ℕ) → IsFrom a b j i → IsFrom a b k i → j ≡ k
one_from a b j k i (inl p) (inl q) = p.0 ∙ sym q.0
one_from a b j k i (inl p) (inr (inl q)) = absurd (q.0 (q.1 ∙ sym p.1 ∙ q.2))
one_from a b j k i (inl p) (inr (inr q)) = absurd (q.1 (sym q.2 ∙ p.1))
one_from a b j k i (inr (inl p)) (inl q) = absurd (p.0 (p.1 ∙ sym q.1 ∙ p.2))
one_from a b j k i (inr (inl p)) (inr (inl q)) = p.1 ∙ sym q.1
one_from a b j k i (inr (inl p)) (inr (inr q)) = absurd (q.0 (sym q.2 ∙ p.2))
one_from a b j k i (inr (inr p)) (inl q) = absurd (p.1 (sym p.2 ∙ q.1))
one_from a b j k i (inr (inr p)) (inr (inl q)) = absurd (p.0 (sym p.2 ∙ q.2))
one_from a b j k i (inr (inr p)) (inr (inr q)) = sym p.2 ∙ q.2

apart_swap : (xs : List Piece) (a b : ℕ) → a < length xs → b < length xs → AreApart xs → AreApart (swap xs a b)
apart_swap xs a b l m apart j k x y p q same =
    let u = swap_from xs a b j x l m p in
    let v = swap_from xs a b k y l m q in
    let e : u.0 ≡ v.0 = apart u.0 v.0 x y u.1 v.1 same in
    one_from a b j k v.0 (subst (λ i. IsFrom a b j i) e u.2) v.2

-- the order of pieces
piece_cmp_total : IsTotalOrder (λ (x : Piece) y. ordering_then (nat_cmp x.reaction y.reaction) (ordering_then (nat_cmp x.start y.start) (nat_cmp x.end y.end)))
piece_cmp_total = then_total (on_total (λ (x : Piece). x.reaction) nat_cmp_total) (then_total (on_total (λ (x : Piece). x.start) nat_cmp_total) (on_total (λ (x : Piece). x.end) nat_cmp_total))

numbers_up : (a b c k l m : ℕ) → is_lt (ordering_then (nat_cmp k a) (ordering_then (nat_cmp l b) (nat_cmp m c))) ≡ false → a ≤ k
numbers_up a b c k l m e = grind (arith, nat_tests)

pieces_up : (xs : List Piece) → IsSorted (λ (x : Piece) y. ordering_then (nat_cmp x.reaction y.reaction) (ordering_then (nat_cmp x.start y.start) (nat_cmp x.end y.end))) xs → (j k : ℕ) (x y : Piece) → j < k → slice_get xs j ≡ Some x → slice_get xs k ≡ Some y → x.reaction ≤ y.reaction
pieces_up xs up j k x y l p q =
    let lt = λ (x : Piece) (y : Piece). is_lt (ordering_then (nat_cmp x.reaction y.reaction) (ordering_then (nat_cmp x.start y.start) (nat_cmp x.end y.end))) in
    let far = sorted_far lt (ranks_by piece_cmp_total (λ (x : Piece). x)) xs up j k x (omega arith) (slice_get_within xs k y q) in
    let a = get_or_from_slice_get xs j x x p in
    let b = get_or_from_slice_get xs k y x q in
    numbers_up x.reaction x.start x.end y.reaction y.start y.end (subst (λ (v : Piece). lt y v ≡ false) a (subst (λ (u : Piece). lt u (slice_index_or xs j x) ≡ false) b far))

module _ (plan : PlanParts) (t : List Row) (rules : IsCuttable (record { plan = plan; rows = t })) (s : Slice) (is_slice : IsSlice t s) where
  module _ (i : ℕ) (row : Row) (is_row : slice_get t i ≡ Some row) (from : s.first ≤ i) (before : i < s.end) where
    as_step : (z : Step) → row.step ≡ z → slice_get t i ≡ Some (record { worker = row.worker; tag = s.tag; reaction = row.reaction; step = z })
    as_step z e = is_row ∙ ap Some (row_is row row.worker s.tag row.reaction z refl (is_slice.at_tag i row is_row from before) refl e)

    last_or_before : (j : ℕ) (x : Row) → j < i + 1 → slice_get t j ≡ Some x → (j < i) ⊎ ((j ≡ i) × (row ≡ x))
    last_or_before j x l e = go (ℕ_discrete j i)
      where
        go : Dec (j ≡ i) → (j < i) ⊎ ((j ≡ i) × (row ≡ x))
        go (yes d) = inr (d, same_at t i j row x is_row e (sym d))
        go (no n) = inl (omega arith)

    -- the ends
    pub ends_stay : (ends : List ℕ) → ¬ (row.step ≡ End) → AreEndsTo t s i ends → AreEndsTo t s (i + 1) ends
    ends_stay ends n so_far j w r l m e = go (last_or_before j (end_row w s.tag r) m e)
      where
        go : (j < i) ⊎ ((j ≡ i) × (row ≡ end_row w s.tag r)) → slice_get ends r ≡ Some j
        go (inl k) = so_far j w r l k e
        go (inr k) = absurd (n (ap (λ (z : Row). z.step) k.1))

    pub ends_more : (ends : List ℕ) → row.reaction < length ends → row.step ≡ End → AreEndsTo t s i ends → AreEndsTo t s (i + 1) (slice_set ends row.reaction i)
    ends_more ends known d so_far j w r l m e = go (ℕ_discrete r row.reaction) (last_or_before j (end_row w s.tag r) m e)
      where
        go : Dec (r ≡ row.reaction) → (j < i) ⊎ ((j ≡ i) × (row ≡ end_row w s.tag r)) → slice_get (slice_set ends row.reaction i) r ≡ Some j
        go (yes q) k =
            let here : slice_get t i ≡ Some (end_row row.worker s.tag r) = as_step End d ∙ ap (λ c. Some (end_row row.worker s.tag c)) (sym q) in
            let same : i ≡ j = one_end plan t (four plan t rules.kept) i j row.worker w s.tag r here e in
            ap (λ c. slice_get (slice_set ends row.reaction i) c) q ∙ get_written ends row.reaction i known ∙ ap Some same
        go (no n) (inl k) = get_unwritten ends row.reaction r i n ∙ so_far j w r l k e
        go (no n) (inr k) = absurd (n (sym (ap (λ (z : Row). z.reaction) k.1)))

    -- the starts
    later : (xs : List Piece) → AreStartsTo t s i xs → (k : ℕ) (x : Piece) → slice_get xs k ≡ Some x → IsRunPiece t s.tag x × (x.start < i + 1)
    later xs so_far k x e = let p = so_far.is_run k x e in let l : x.start < i = p.1 in (p.0, omega arith)

    pub starts_stay : (xs : List Piece) → ¬ (row.step ≡ Start) → AreStartsTo t s i xs → AreStartsTo t s (i + 1) xs
    starts_stay xs n so_far = record { is_run = later xs so_far; each = λ j w r l m e. go j w r l e (last_or_before j (start_row w s.tag r) m e); apart = so_far.apart }
      where
        go : (j w r : ℕ) → s.first ≤ j → slice_get t j ≡ Some (start_row w s.tag r) → (j < i) ⊎ ((j ≡ i) × (row ≡ start_row w s.tag r)) → (k : ℕ) × (x : Piece) × (slice_get xs k ≡ Some x) × (x.reaction ≡ r)
        go j w r l e (inl k) = so_far.each j w r l k e
        go j w r l e (inr k) = absurd (n (ap (λ (z : Row). z.step) k.1))

    module _ (ends : List ℕ) (are_ends : AreEndsTo t s s.end ends) (e : ℕ) (is_end : slice_get ends row.reaction ≡ Some e) (begins : row.step ≡ Start) where
      piece : Piece
      piece = record { reaction = row.reaction; start = i; end = e }

      starts : slice_get t i ≡ Some (start_row row.worker s.tag row.reaction)
      starts = as_step Start begins

      is_piece : IsRunPiece t s.tag piece
      unfolding piece
      is_piece =
          let x : (k : ℕ) × (i < k) × (slice_get t k ≡ Some (end_row row.worker s.tag row.reaction)) = ended plan t rules.kept i row.worker s.tag row.reaction starts in
          let l = is_slice.all x.0 (end_row row.worker s.tag row.reaction) x.2 refl in
          let q : Some x.0 ≡ Some e = sym (are_ends x.0 row.worker row.reaction l.0 l.1 x.2) ∙ is_end in
          let z : x.0 ≡ e = cc in
          record { worker = row.worker; starts = starts; ends = ap (λ k. slice_get t k) (sym z) ∙ x.2 }

      pub starts_more : (xs : List Piece) → AreStartsTo t s i xs → AreStartsTo t s (i + 1) (xs ++ record { reaction = row.reaction; start = i; end = e } ∷ [])
      unfolding piece
      starts_more xs so_far = record { is_run = λ k x q. run x (get_push_cases xs piece k x q); each = λ j w r l m q. each j w r l q (last_or_before j (start_row w s.tag r) m q); apart = λ j k x y p q same. apart x y same (get_push_cases xs piece j x p) (get_push_cases xs piece k y q) }
        where
          run : (x : Piece) → {k : ℕ} → (slice_get xs k ≡ Some x) ⊎ ((k ≡ length xs) × (piece ≡ x)) → IsRunPiece t s.tag x × (x.start < i + 1)
          run x {k} (inl q) = later xs so_far k x q
          run x {k} (inr q) = subst (λ (z : Piece). IsRunPiece t s.tag z × (z.start < i + 1)) q.1 (is_piece, omega arith)

          each : (j w r : ℕ) → s.first ≤ j → slice_get t j ≡ Some (start_row w s.tag r) → (j < i) ⊎ ((j ≡ i) × (row ≡ start_row w s.tag r)) → (k : ℕ) × (x : Piece) × (slice_get (xs ++ piece ∷ []) k ≡ Some x) × (x.reaction ≡ r)
          each j w r l q (inl k) = let y = so_far.each j w r l k q in (y.0, y.1, get_push xs piece y.0 y.1 y.2, y.3)
          each j w r l q (inr k) = (length xs, piece, get_last xs piece, ap (λ (z : Row). z.reaction) k.1)

          -- an earlier piece is of another reaction
          other : (k : ℕ) (x : Piece) → slice_get xs k ≡ Some x → x.reaction ≢ row.reaction
          other k x q same =
              let p = so_far.is_run k x q in
              let l : x.start < i = p.1 in
              let a : slice_get t x.start ≡ Some (start_row p.0.worker s.tag row.reaction) = p.0.starts ∙ ap (λ c. Some (start_row p.0.worker s.tag c)) same in
              let b : x.start ≡ i = one_start plan t (four plan t rules.kept) x.start i p.0.worker row.worker s.tag row.reaction a starts in
              omega arith

          apart : (x y : Piece) → x.reaction ≡ y.reaction → {j k : ℕ} → (slice_get xs j ≡ Some x) ⊎ ((j ≡ length xs) × (piece ≡ x)) → (slice_get xs k ≡ Some y) ⊎ ((k ≡ length xs) × (piece ≡ y)) → j ≡ k
          apart x y same {j} {k} (inl p) (inl q) = so_far.apart j k x y p q same
          apart x y same {j} {k} (inl p) (inr q) = absurd (other j x p (same ∙ sym (ap (λ (z : Piece). z.reaction) q.1)))
          apart x y same {j} {k} (inr p) (inl q) = absurd (other k y q (sym same ∙ sym (ap (λ (z : Piece). z.reaction) p.1)))
          apart x y same {j} {k} (inr p) (inr q) = p.0 ∙ sym q.0

  pub starts_begin : AreStartsTo t s s.first []
  starts_begin = record { is_run = λ k x e. absurd (cc); each = λ j w r l m e. absurd (omega arith); apart = λ j k x y p q e. absurd (cc) }

  -- sorted by reaction
  module _ (xs ys : List Piece) (so_far : AreStartsTo t s s.end xs) (moves : IsPermutation xs ys) (up : IsSorted (λ (x : Piece) y. ordering_then (nat_cmp x.reaction y.reaction) (ordering_then (nat_cmp x.start y.start) (nat_cmp x.end y.end))) ys) where
    there : (k : ℕ) (x : Piece) → slice_get ys k ≡ Some x → (j : ℕ) × (slice_get xs j ≡ Some x)
    there k x e = get_mem x xs (contains_mem x xs (Contains-permutation ys xs x (IsPermutation-sym xs ys moves) (mem_contains x ys (mem_get ys k x e))))

    back : (k : ℕ) (x : Piece) → slice_get xs k ≡ Some x → (j : ℕ) × (slice_get ys j ≡ Some x)
    back k x e = get_mem x ys (contains_mem x ys (Contains-permutation xs ys x moves (mem_contains x xs (mem_get xs k x e))))

    pub runs_sorted : AreRuns t s.tag ys
    runs_sorted = record { ascending = ascending; is_run = λ k x e. let j = there k x e in (so_far.is_run j.0 x j.1).0; each = each }
      where
        apart : AreApart ys
        apart = IsPermutation-keeps xs AreApart so_far.apart apart_swap ys moves

        ascending : (j k : ℕ) (x y : Piece) → j < k → slice_get ys j ≡ Some x → slice_get ys k ≡ Some y → x.reaction < y.reaction
        ascending j k x y l p q = go (ℕ_discrete x.reaction y.reaction) (pieces_up ys up j k x y l p q)
          where
            go : Dec (x.reaction ≡ y.reaction) → x.reaction ≤ y.reaction → x.reaction < y.reaction
            go (yes e) m = let a : j ≡ k = apart j k x y p q e in absurd (omega arith)
            go (no n) m = omega arith

        each : (r : ℕ) → Ran t s.tag r → (k : ℕ) × (x : Piece) × (slice_get ys k ≡ Some x) × (x.reaction ≡ r)
        each r z =
            let l = is_slice.all z.place (start_row z.worker s.tag r) z.starts refl in
            let a = so_far.each z.place z.worker r l.0 l.1 z.starts in
            let b = back a.0 a.1 a.2 in
            (b.0, a.1, b.1, a.3)

-- more pieces behind those of a tag
runs_kept : (t : List Row) (g : Tag) (xs ys : List Piece) (a b : ℕ) → AreRunsIn t g xs a b → AreRunsIn t g (xs ++ ys) a b
runs_kept t g xs ys a b h = record { order = h.order; within = let l : b ≤ length xs = h.within in omega (arith, length-append xs ys); ascending = λ j k x y l m n p q. h.ascending j k x y l m n (old j x (omega arith) p) (old k y n q); is_run = λ k x l m e. h.is_run k x l m (old k x m e); each = λ r z. let y = h.each r z in (y.0, y.1, y.2, y.3, get_left xs ys y.0 y.1 y.4, y.5) }
  where
    old : (k : ℕ) (x : Piece) → k < b → slice_get (xs ++ ys) k ≡ Some x → slice_get xs k ≡ Some x
    old k x l e = go (get_append_cases xs ys k x e)
      where
        go : (slice_get xs k ≡ Some x) ⊎ ((j : ℕ) × (k ≡ length xs + j) × (slice_get ys j ≡ Some x)) → slice_get xs k ≡ Some x
        go (inl q) = q
        go (inr q) = let c : k ≡ length xs + q.0 = q.1 in let d : b ≤ length xs = h.within in absurd (omega arith)

-- the pieces of one tag more
runs_last : (t : List Row) (g : Tag) (xs ys : List Piece) → AreRuns t g ys → AreRunsIn t g (xs ++ ys) (length xs) (length (xs ++ ys))
runs_last t g xs ys h = record { order = omega (arith, length-append xs ys); within = omega arith; ascending = λ j k x y l m n p q. ascending j k x y l m (new j x l p) (new k y (omega arith) q); is_run = λ k x l m e. let j = new k x l e in h.is_run j.0 x j.2; each = each }
  where
    new : (k : ℕ) (x : Piece) → length xs ≤ k → slice_get (xs ++ ys) k ≡ Some x → (j : ℕ) × (k ≡ length xs + j) × (slice_get ys j ≡ Some x)
    new k x l e = go (get_append_cases xs ys k x e)
      where
        go : (slice_get xs k ≡ Some x) ⊎ ((j : ℕ) × (k ≡ length xs + j) × (slice_get ys j ≡ Some x)) → (j : ℕ) × (k ≡ length xs + j) × (slice_get ys j ≡ Some x)
        go (inl q) = let m : k < length xs = slice_get_within xs k x q in absurd (omega arith)
        go (inr q) = q

    ascending : (j k : ℕ) (x y : Piece) → length xs ≤ j → j < k → ((i : ℕ) × (j ≡ length xs + i) × (slice_get ys i ≡ Some x)) → ((i : ℕ) × (k ≡ length xs + i) × (slice_get ys i ≡ Some y)) → x.reaction < y.reaction
    ascending j k x y l m p q = let a : j ≡ length xs + p.0 = p.1 in let b : k ≡ length xs + q.0 = q.1 in h.ascending p.0 q.0 x y (omega arith) p.2 q.2

    each : (r : ℕ) → Ran t g r → (k : ℕ) × (x : Piece) × (length xs ≤ k) × (k < length (xs ++ ys)) × (slice_get (xs ++ ys) k ≡ Some x) × (x.reaction ≡ r)
    each r z =
        let y = h.each r z in
        let e : slice_get (xs ++ ys) (length xs + y.0) ≡ Some y.1 = put_right xs ys y.0 y.1 (length xs + y.0) refl y.2 in
        (length xs + y.0, y.1, omega arith, slice_get_within (xs ++ ys) (length xs + y.0) y.1 e, e, y.3)

pub pieces_more : (t : List Row) (slices : List Slice) (k : ℕ) (tags : List Tag) (firsts : List ℕ) (xs ys : List Piece) (s : Slice) → ArePiecesTo t slices k tags firsts xs → slice_get slices k ≡ Some s → AreRuns t s.tag ys → ArePiecesTo t slices (k + 1) (tags ++ s.tag ∷ []) (firsts ++ length (xs ++ ys) ∷ []) (xs ++ ys)
pieces_more t slices k tags firsts xs ys s h is_slice are = record { count = omega (arith, length-append tags (s.tag ∷ []), h.count); as_long = omega (arith, length-append firsts (n ∷ []), h.as_long); last = ap (λ i. slice_get (firsts ++ n ∷ []) i) (sym h.as_long) ∙ get_last firsts n; tagged = λ j g e. tagged j g (get_push_cases tags s.tag j g e); runs = λ j a b g e p q. runs j a b g (get_push_cases tags s.tag j g e) (get_push_cases firsts n j a p) (get_push_cases firsts n (j + 1) b q) }
  where
    n : ℕ
    n = length (xs ++ ys)

    tagged : (j : ℕ) (g : Tag) → (slice_get tags j ≡ Some g) ⊎ ((j ≡ length tags) × (s.tag ≡ g)) → (s : Slice) × (slice_get slices j ≡ Some s) × (s.tag ≡ g)
    tagged j g (inl e) = h.tagged j g e
    tagged j g (inr e) = (s, ap (λ i. slice_get slices i) (e.0 ∙ h.count) ∙ is_slice, e.1)

    runs : (j a b : ℕ) (g : Tag) → (slice_get tags j ≡ Some g) ⊎ ((j ≡ length tags) × (s.tag ≡ g)) → (slice_get firsts j ≡ Some a) ⊎ ((j ≡ length firsts) × (n ≡ a)) → (slice_get firsts (j + 1) ≡ Some b) ⊎ ((j + 1 ≡ length firsts) × (n ≡ b)) → AreRunsIn t g (xs ++ ys) a b
    runs j a b g (inl e) (inl p) (inl q) = runs_kept t g xs ys a b (h.runs j a b g e p q)
    runs j a b g (inl e) (inl p) (inr q) = let l : j < length tags = slice_get_within tags j g e in let c : length tags ≡ k = h.count in let d : length firsts ≡ k + 1 = h.as_long in let f : j + 1 ≡ length firsts = q.0 in absurd (omega arith)
    runs j a b g (inl e) (inr p) q = let l : j < length tags = slice_get_within tags j g e in let c : length tags ≡ k = h.count in let d : length firsts ≡ k + 1 = h.as_long in let f : j ≡ length firsts = p.0 in absurd (omega arith)
    runs j a b g (inr e) (inl p) (inl q) = let l : j + 1 < length firsts = slice_get_within firsts (j + 1) b q in let c : length tags ≡ k = h.count in let d : length firsts ≡ k + 1 = h.as_long in let f : j ≡ length tags = e.0 in absurd (omega arith)
    runs j a b g (inr e) (inr p) q = let c : length tags ≡ k = h.count in let d : length firsts ≡ k + 1 = h.as_long in let f : j ≡ length tags = e.0 in let i : j ≡ length firsts = p.0 in absurd (omega arith)
    runs j a b g (inr e) (inl p) (inr q) =
        let z : Some (length xs) ≡ Some a = sym h.last ∙ ap (λ i. slice_get firsts i) (sym (e.0 ∙ h.count)) ∙ p in
        let from : length xs ≡ a = cc in
        subst (λ (v : Tag). AreRunsIn t v (xs ++ ys) a b) e.1 (subst (λ i. AreRunsIn t s.tag (xs ++ ys) i b) from (subst (λ i. AreRunsIn t s.tag (xs ++ ys) (length xs) i) q.1 (runs_last t s.tag xs ys are)))

pub pieces_end : (plan : PlanParts) (t : List Row) → IsCuttable (record { plan = plan; rows = t }) → (slices : List Slice) → AreSlices t slices → (k : ℕ) (kept : Pieces) → length slices ≤ k → k ≤ length slices → ArePiecesTo t slices k kept.tags.items kept.firsts.items kept.list.items → ArePieces t kept
pieces_end plan t rules slices are k kept low high h = record { are_tags = record { ascending = ascending; ran = ran; each = each }; as_long = h.as_long ∙ ap (λ n. n + 1) (sym h.count); runs = h.runs }
  where
    tags : List Tag
    tags = kept.tags.items

    ascending : (i j : ℕ) (g f : Tag) → i < j → slice_get kept.tags.items i ≡ Some g → slice_get kept.tags.items j ≡ Some f → Before g f
    ascending i j g f l p q = let x = h.tagged i g p in let y = h.tagged j f q in subst (λ (z : Tag). Before z f) x.2 (subst (λ (z : Tag). Before x.0.tag z) y.2 (are.ascending i j x.0 y.0 l x.1 y.1))

    ran : (i : ℕ) (g : Tag) → slice_get kept.tags.items i ≡ Some g → (r : ℕ) × Ran t g r
    ran i g e =
        let x = h.tagged i g e in
        let s = are.is_slice i x.0 x.1 in
        let a : x.0.first < x.0.end = s.some in
        let b : x.0.end ≤ length t = s.within in
        let y : (row : Row) × (slice_get t x.0.first ≡ Some row) = get_there t x.0.first (omega arith) in
        (y.0.reaction, ran_at plan t (four plan t rules.kept) x.0.first y.0 g y.0.reaction y.1 (s.at_tag x.0.first y.0 y.1 (omega arith) a ∙ x.2) refl)

    each : (g : Tag) (r : ℕ) → Ran t g r → (i : ℕ) × (slice_get kept.tags.items i ≡ Some g)
    each g r z =
        let x = are.each z.place (start_row z.worker g r) z.starts in
        let l : x.0 < length slices = slice_get_within slices x.0 x.1 x.2 in
        let c : length kept.tags.items ≡ k = h.count in
        let y : (f : Tag) × (slice_get kept.tags.items x.0 ≡ Some f) = get_there kept.tags.items x.0 (omega arith) in
        let v = h.tagged x.0 y.0 y.1 in
        let same : v.0 ≡ x.1 = same_at slices x.0 x.0 v.0 x.1 v.1 x.2 refl in
        (x.0, y.1 ∙ ap Some (sym v.2 ∙ ap (λ (u : Slice). u.tag) same ∙ sym x.3))

-- a list of tags with a run has no more tags before one of them than another such list
no_later : (t : List Row) (xs ys : List Tag) → AreTags t xs → AreTags t ys → (j k : ℕ) (g : Tag) → slice_get xs j ≡ Some g → slice_get ys k ≡ Some g → j ≤ k
no_later t xs ys a b zero k g p q = omega arith
no_later t xs ys a b (suc j) k g p q = go (no_later t xs ys a b j i.0 before.0 before.1 i.1) (cases_lt i.0 k)
  where
    before : (h : Tag) × (slice_get xs j ≡ Some h)
    before = let l : suc j < length xs = slice_get_within xs (suc j) g p in get_there xs j (omega arith)

    i : (i : ℕ) × (slice_get ys i ≡ Some before.0)
    i = let r = a.ran j before.0 before.1 in b.each before.0 r.0 r.1

    rises : Before before.0 g
    rises = a.ascending j (suc j) before.0 g (omega arith) before.1 p

    go : j ≤ i.0 → (i.0 < k) ⊎ (k ≤ i.0) → suc j ≤ k
    go m (inl l) = omega arith
    go m (inr l) = by (ℕ_discrete k i.0)
      where
        by : Dec (k ≡ i.0) → suc j ≤ k
        by (yes e) = absurd (Before-irrefl g (subst (λ (z : Tag). Before z g) (same_at ys i.0 k before.0 g i.1 q (sym e)) rises))
        by (no n) = absurd (Before-irrefl g (Before-trans g before.0 g (b.ascending k i.0 g before.0 (omega arith) q i.1) rises))

-- the tag at a place is one
pub same_tags : (t : List Row) (xs ys : List Tag) → AreTags t xs → AreTags t ys → (k : ℕ) (g : Tag) → slice_get xs k ≡ Some g → slice_get ys k ≡ Some g
same_tags t xs ys a b k g e =
    let r = a.ran k g e in
    let j = b.each g r.0 r.1 in
    let l : k ≤ j.0 = no_later t xs ys a b k j.0 g e j.1 in
    let m : j.0 ≤ k = no_later t ys xs b a j.0 k g j.1 e in
    ap (λ i. slice_get ys i) (omega arith) ∙ j.1

-- the runs at the tag at a place
pub runs_at : (t : List Row) (kept : Pieces) → ArePieces t kept → (k a b : ℕ) (g : Tag) (xs : List Piece) → slice_get kept.tags.items k ≡ Some g → slice_get kept.firsts.items k ≡ Some a → slice_get kept.firsts.items (k + 1) ≡ Some b → xs ≡ slice_range kept.list.items a b → AreRuns t g xs
runs_at t kept are k a b g xs e p q is = subst (λ zs. AreRuns t g zs) (sym is) (record { ascending = λ i j x y l m n. ascending i j x y l (at i x m) (at j y n); is_run = λ j x m. let z = at j x m in h.is_run (a + j) x (omega arith) z.0 z.1; each = each })
  where
    h : AreRunsIn t g kept.list.items a b
    h = are.runs k a b g e p q

    at : (j : ℕ) (x : Piece) → slice_get (slice_range kept.list.items a b) j ≡ Some x → (a + j < b) × (slice_get kept.list.items (a + j) ≡ Some x)
    at j x m = let l : a + j < b = range-within kept.list.items a b j x h.within m in (l, sym (range-get kept.list.items a b j l) ∙ m)

    ascending : (i j : ℕ) (x y : Piece) → i < j → ((a + i < b) × (slice_get kept.list.items (a + i) ≡ Some x)) → ((a + j < b) × (slice_get kept.list.items (a + j) ≡ Some y)) → x.reaction < y.reaction
    ascending i j x y l u v = h.ascending (a + i) (a + j) x y (omega arith) (omega arith) v.0 u.1 v.1

    each : (r : ℕ) → Ran t g r → (j : ℕ) × (x : Piece) × (slice_get (slice_range kept.list.items a b) j ≡ Some x) × (x.reaction ≡ r)
    each r z =
        let y = h.each r z in
        let l : a ≤ y.0 = y.2 in
        let m : y.0 < b = y.3 in
        let c : a + (y.0 - a) ≡ y.0 = omega arith in
        (y.0 - a, y.1, range-get kept.list.items a b (y.0 - a) (omega arith) ∙ ap (λ i. slice_get kept.list.items i) c ∙ y.4, y.5)

-- a number of a tag of any list of the tags with a run is one of the list that is kept
pub tag_there : (t : List Row) (kept : Pieces) → ArePieces t kept → (k : ℕ) (tags : List Tag) → AreTags t tags → k < length tags → k < length kept.tags.items
tag_there t kept are k tags theirs l = let g = get_there tags k l in slice_get_within kept.tags.items k g.0 (same_tags t tags kept.tags.items theirs are.are_tags k g.0 g.1)

pub range_there : (t : List Row) (kept : Pieces) → ArePieces t kept → (k a b : ℕ) → k < length kept.tags.items → slice_get kept.firsts.items k ≡ Some a → slice_get kept.firsts.items (k + 1) ≡ Some b → (a ≤ b) × (b ≤ length kept.list.items)
range_there t kept are k a b l p q = let g = get_there kept.tags.items k l in let h = are.runs k a b g.0 g.1 p q in (h.order, h.within)

pub runs_there : (t : List Row) (kept : Pieces) → ArePieces t kept → (k : ℕ) (g : Tag) (xs : List Piece) → ((a b : ℕ) → slice_get kept.firsts.items k ≡ Some a → slice_get kept.firsts.items (k + 1) ≡ Some b → xs ≡ slice_range kept.list.items a b) → IsTagAt t k g → AreRuns t g xs
runs_there t kept are k g xs is (tags, theirs, e) =
    let mine : slice_get kept.tags.items k ≡ Some g = same_tags t tags kept.tags.items theirs are.are_tags k g e in
    let l : k < length kept.tags.items = slice_get_within kept.tags.items k g mine in
    let long : length kept.firsts.items ≡ length kept.tags.items + 1 = are.as_long in
    let a : (a : ℕ) × (slice_get kept.firsts.items k ≡ Some a) = get_there kept.firsts.items k (omega arith) in
    let b : (b : ℕ) × (slice_get kept.firsts.items (k + 1) ≡ Some b) = get_there kept.firsts.items (k + 1) (omega arith) in
    runs_at t kept are k a.0 b.0 g xs mine a.1 b.1 (is a.0 b.0 a.1 b.1)

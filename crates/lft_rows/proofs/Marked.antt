-- Seats of inputs, and what the marks tell after one more row.
use Rattle.std.proofs.Common.{◌≡◌, ◌≢◌, ℕ, zero, suc, ◌+◌, ◌<◌, ◌≤◌, ◌⊎◌, inl, inr, List, [], ◌∷◌, ◌++◌, length, length-append, refl, sym, ap, ◌∙◌, subst, arith, Some, slice_get, slice_set, Contains}
use Rattle.std.proofs.lemmas.Bool.{cases_lt}
use native.Mathlib.Decide.{ℕ_discrete}
use Rattle.lft_ir.specs.{Parts.{Parts, inputs}, Sound.IsSound}
use Rattle.lft_ir.specs.declared.{parts.{Name.Name, Reaction.Reaction, Value.Value}, steps.row.{Row.Row, Step.TheVariants.Read}}
use Rattle.lft_lists.proofs.Places.{at_contains, contains_at, get_there, get_write_cases, get_push, get_last, length_written, same_some, get_push_cases}
use Rattle.lft_lists.proofs.Members.{mem_get}
use Rattle.lft_model.proofs.{Counted.{NamesApart, names_apart}, Places.slice_get_within}
use Rattle.lft_rows.specs.declared.marks.Marks.{Marks}
use Rattle.lft_rows.specs.inner.Marks.{width, HasSeat, AreLaid, IsLaid, Mark, IsMarkedBy, AreNoneFrom, ReadsFor, NoneReads, IsMark, AreBefore, AreMarks}

-- a seat is one of the reaction's
pub seat_within : (x : Reaction) (n : Name) (k : ℕ) → HasSeat x n k → k < width x
seat_within x n k e = slice_get_within (inputs x) k n e

-- a name with a seat is an input
pub seat_input : (x : Reaction) (n : Name) (k : ℕ) → HasSeat x n k → Contains (inputs x) n
seat_input x n k e = contains_at (inputs x) k n e

-- an input has a seat
pub input_seat : (x : Reaction) (n : Name) → Contains (inputs x) n → (k : ℕ) × HasSeat x n k
input_seat x n c = at_contains (inputs x) n c

-- a name stands at one place of a list of different names
one_place : (us : List Name) → NamesApart us → (i j : ℕ) (n : Name) → slice_get us i ≡ Some n → slice_get us j ≡ Some n → i ≡ j
one_place [] a i j n p q = absurd (cc)
one_place (u ∷ us) a zero zero n p q = refl
one_place (u ∷ us) a zero (suc j) n p q = let e : u ≡ n = cc in absurd (a.0 n (mem_get us j n q) (sym e))
one_place (u ∷ us) a (suc i) zero n p q = let e : u ≡ n = cc in absurd (a.0 n (mem_get us i n p) (sym e))
one_place (u ∷ us) a (suc i) (suc j) n p q = ap suc (one_place us a.1 i j n p q)

-- where all inputs differ, one has one seat
one_seat : (x : Reaction) → NamesApart (inputs x) → (n : Name) (j k : ℕ) → HasSeat x n j → HasSeat x n k → j ≡ k
one_seat x a n j k p q = one_place (inputs x) a j k n p q

-- at one seat stands one name
seat_name : (x : Reaction) (m n : Name) (k : ℕ) → HasSeat x m k → HasSeat x n k → m ≡ n
seat_name x m n k p q = same_some (slice_get (inputs x) k) m n p q

pub same_here : {X : Type 0} (xs : List X) (i : ℕ) (x y : X) → slice_get xs i ≡ Some x → slice_get xs i ≡ Some y → x ≡ y
same_here xs i x y p q = let e : Some x ≡ Some y = sym p ∙ q in cc

-- seats of two reactions, or two seats of one, lie apart
seats_apart : (reactions : List Reaction) (firsts : List ℕ) (size : ℕ) → AreLaid reactions firsts size → (r s f g j k : ℕ) (x y : Reaction) → slice_get reactions r ≡ Some x → slice_get reactions s ≡ Some y → slice_get firsts r ≡ Some f → slice_get firsts s ≡ Some g → j < width x → k < width y → f + j ≡ g + k → (r ≡ s) × (j ≡ k)
seats_apart reactions firsts size laid r s f g j k x y ex ey ef eg lj lk q = go (cases_lt r s) (cases_lt s r)
  where
    go : (r < s) ⊎ (s ≤ r) → (s < r) ⊎ (r ≤ s) → (r ≡ s) × (j ≡ k)
    go (inl l) d = let a : f + width x ≤ g = laid.apart r s f g x l ex ef eg in absurd (omega arith)
    go (inr l) (inl m) = let a : g + width y ≤ f = laid.apart s r g f y m ey eg ef in absurd (omega arith)
    go (inr l) (inr m) =
        let e : r ≡ s = omega arith in
        let h : f ≡ g = same_here firsts s f g (ap (λ z. slice_get firsts z) (sym e) ∙ ef) eg in
        (e, omega arith)

-- the marks stay laid
pub laid_on : (program : Parts) (old new : Marks) (r k m f : ℕ) → IsLaid program old → IsMarkedBy old r k m new → slice_get old.firsts.items r ≡ Some f → IsLaid program new
laid_on program old new r k m f laid by e =
    let size : length new.places.items ≡ length old.places.items = ap length (by.places f e) ∙ length_written old.places.items (f + k) m in
    record {
      inputs_are = λ s x is. ap (λ (ns : List (List Name)). slice_get ns s) by.inputs ∙ laid.inputs_are s x is;
      as_long = ap length by.firsts ∙ laid.as_long;
      laid = subst (λ (fs : List ℕ). AreLaid program.reactions fs (length new.places.items)) (sym by.firsts) (subst (λ (z : ℕ). AreLaid program.reactions old.firsts.items z) (sym size) laid.laid);
    }

-- a row more that reads n for nobody changes no mark but by its place
none_more : (t : List Row) (low i r : ℕ) (n : Name) (row : Row) → slice_get t i ≡ Some row → ¬ ReadsFor r n row → NoneReads t low i r n → NoneReads t low (i + 1) r n
none_more t low i r n row e d none j x l m q z = go (ℕ_discrete j i)
  where
    go : Dec (j ≡ i) → ⊥
    go (yes s) = d (subst (λ (y : Row). ReadsFor r n y) (same_here t i x row (ap (λ y. slice_get t y) (sym s) ∙ q) e) z)
    go (no s) = none j x l (omega arith) q z

mark_stays : (t : List Row) (low i r : ℕ) (n : Name) (m : ℕ) (row : Row) → slice_get t i ≡ Some row → ¬ ReadsFor r n row → IsMark t low i r n m → IsMark t low (i + 1) r n m
mark_stays t low i r n m row e d (inl x) = inl (x.0, none_more t low i r n row e d x.1)
mark_stays t low i r n m row e d (inr (j, q, x)) = let l : j < i = x.before in inr (j, q, record { row = x.row; from = x.from; before = omega arith; is_row = x.is_row; reads = x.reads; none_after = none_more t (j + 1) i r n row e d x.none_after })

mark_new : (t : List Row) (low i r : ℕ) (n : Name) (row : Row) → low ≤ i → slice_get t i ≡ Some row → ReadsFor r n row → IsMark t low (i + 1) r n (i + 1)
mark_new t low i r n row l e x = inr (i, refl, record { row = row; from = l; before = omega arith; is_row = e; reads = x; none_after = λ j z a b q y. absurd (omega arith) })

-- a step that reads reads one name
one_name : (r : ℕ) (m n : Name) (row : Row) → ReadsFor r m row → (v : Value) → row.step ≡ Read n v → m ≡ n
one_name r m n row x v e = let q : Read m x.1.0 ≡ Read n v = sym x.1.1 ∙ e in cc

module _ (program : Parts) (t : List Row) (low i : ℕ) (row : Row) (is_row : slice_get t i ≡ Some row) (old : Marks) (so_far : AreMarks program t low i old) where
  -- a row that reads no input changes nothing
  marks_stay : ((r : ℕ) (x : Reaction) (n : Name) (k : ℕ) → slice_get program.reactions r ≡ Some x → HasSeat x n k → ¬ ReadsFor r n row) → AreMarks program t low (i + 1) old
  marks_stay d = record { are_before = record { is_laid = so_far.are_before.is_laid; none = λ k m e. let l : m ≤ i = so_far.are_before.none k m e in omega arith }; right = λ r k m x n ex seat mark. mark_stays t low i r n m row is_row (d r x n k ex seat) (so_far.right r k m x n ex seat mark) }

  pub other_step : ((n : Name) (v : Value) → ¬ (row.step ≡ Read n v)) → AreMarks program t low (i + 1) old
  other_step d = marks_stay (λ r x n k ex seat reads. d n reads.1.0 reads.1.1)

  pub no_input : (x : Reaction) (n : Name) (v : Value) → slice_get program.reactions row.reaction ≡ Some x → row.step ≡ Read n v → ((k : ℕ) → ¬ HasSeat x n k) → AreMarks program t low (i + 1) old
  no_input x n v ex step d = marks_stay (λ r y m k ey seat reads. let w : m ≡ n = one_name r m n row reads v step in let z : y ≡ x = same_here program.reactions r y x ey (ap (λ (a : ℕ). slice_get program.reactions a) (sym reads.0) ∙ ex) in d k (subst (λ (a : Name). HasSeat x a k) w (subst (λ (a : Reaction). HasSeat a m k) z seat)))

module _ (program : Parts) (sound : IsSound program) (t : List Row) (low i : ℕ) (row : Row) (is_row : slice_get t i ≡ Some row) (old : Marks) (so_far : AreMarks program t low i old) where
  -- a row that reads an input is kept at its seat
  marks_more : (x : Reaction) (n : Name) (v : Value) (k f : ℕ) (new : Marks) → low ≤ i → slice_get program.reactions row.reaction ≡ Some x → row.step ≡ Read n v → HasSeat x n k → slice_get old.firsts.items row.reaction ≡ Some f → IsMarkedBy old row.reaction k (i + 1) new → AreMarks program t low (i + 1) new
  marks_more x n v k f new l ex step seat ef by = record { are_before = record { is_laid = laid_on program old new row.reaction k (i + 1) f so_far.are_before.is_laid by ef; none = none }; right = right }
    where
      written : new.places.items ≡ slice_set old.places.items (f + k) (i + 1)
      written = by.places f ef

      within : f + k < length old.places.items
      within = let a : f + width x ≤ length old.places.items = so_far.are_before.is_laid.laid.within row.reaction f x ex ef in let b : k < width x = seat_within x n k seat in omega arith

      none : AreNoneFrom (i + 1) new.places.items
      none j m e = go (get_write_cases old.places.items (f + k) j (i + 1) m within (ap (λ (ps : List ℕ). slice_get ps j) (sym written) ∙ e))
        where
          go : ((j ≡ f + k) × (i + 1 ≡ m)) ⊎ ((j ≢ f + k) × (slice_get old.places.items j ≡ Some m)) → m ≤ i + 1
          go (inl q) = let z : i + 1 ≡ m = q.1 in omega arith
          go (inr q) = let z : m ≤ i = so_far.are_before.none j m q.1 in omega arith

      right : (s j m : ℕ) (y : Reaction) (o : Name) → slice_get program.reactions s ≡ Some y → HasSeat y o j → Mark new s j m → IsMark t low (i + 1) s o m
      right s j m y o ey other (g, eg, em) = go (get_write_cases old.places.items (f + k) (g + j) (i + 1) m within (ap (λ (ps : List ℕ). slice_get ps (g + j)) (sym written) ∙ em))
        where
          eh : slice_get old.firsts.items s ≡ Some g
          eh = ap (λ (fs : List ℕ). slice_get fs s) (sym by.firsts) ∙ eg

          go : ((g + j ≡ f + k) × (i + 1 ≡ m)) ⊎ ((g + j ≢ f + k) × (slice_get old.places.items (g + j) ≡ Some m)) → IsMark t low (i + 1) s o m
          go (inl q) =
              let same = seats_apart program.reactions old.firsts.items (length old.places.items) so_far.are_before.is_laid.laid s row.reaction g f j k y x ey ex eh ef (seat_within y o j other) (seat_within x n k seat) q.0 in
              let z : y ≡ x = same_here program.reactions row.reaction y x (ap (λ (a : ℕ). slice_get program.reactions a) (sym same.0) ∙ ey) ex in
              let w : o ≡ n = seat_name x o n k (subst (λ (a : ℕ). HasSeat x o a) same.1 (subst (λ (a : Reaction). HasSeat a o j) z other)) seat in
              subst (λ (a : ℕ). IsMark t low (i + 1) s o a) q.1 (mark_new t low i s o row l is_row (sym same.0, (v, step ∙ ap (λ (a : Name). Read a v) (sym w))))
          go (inr q) = mark_stays t low i s o m row is_row differs (so_far.right s j m y o ey other (g, eh, q.1))
            where
              -- it reads another input, since this one has one seat, which was written
              differs : ¬ ReadsFor s o row
              differs reads =
                  let w : o ≡ n = one_name s o n row reads v step in
                  let r : row.reaction ≡ s = reads.0 in
                  let z : y ≡ x = same_here program.reactions s y x ey (ap (λ (a : ℕ). slice_get program.reactions a) (sym r) ∙ ex) in
                  let apart : NamesApart (inputs x) = names_apart (inputs x) (sound.distinct row.reaction x ex).0 in
                  let c : j ≡ k = one_seat x apart n j k (subst (λ (a : Name). HasSeat x a j) w (subst (λ (a : Reaction). HasSeat a o j) z other)) seat in
                  let h : g ≡ f = same_here old.firsts.items s g f eh (ap (λ (a : ℕ). slice_get old.firsts.items a) (sym r) ∙ ef) in
                  q.0 (ap (λ (a : ℕ). a + j) h ∙ ap (λ (a : ℕ). f + a) c)

  pub marks_read : (x : Reaction) (n : Name) (v : Value) (k : ℕ) (new : Marks) → low ≤ i → slice_get program.reactions row.reaction ≡ Some x → row.step ≡ Read n v → HasSeat x n k → IsMarkedBy old row.reaction k (i + 1) new → AreMarks program t low (i + 1) new
  marks_read x n v k new l ex step seat by =
      let many : length old.firsts.items ≡ length program.reactions = so_far.are_before.is_laid.as_long in
      let within : row.reaction < length program.reactions = slice_get_within program.reactions row.reaction x ex in
      let f = get_there old.firsts.items row.reaction (omega arith) in
      marks_more x n v k f.0 new l ex step seat f.1 by

-- marks that tell of rows before a place alone tell of none from there on
pub marks_begin : (program : Parts) (t : List Row) (low : ℕ) (marks : Marks) → AreBefore program low marks → AreMarks program t low low marks
marks_begin program t low marks h = record { are_before = h; right = λ r k m x n ex seat mark. inl (h.none (mark.0 + k) m mark.2, λ j row a b e y. absurd (omega arith)) }

pub zeros_more : (places : List ℕ) (seat : ℕ) → seat < length places → ((k m : ℕ) → k < seat → slice_get places k ≡ Some m → m ≤ 0) → (k m : ℕ) → k < seat + 1 → slice_get (slice_set places seat 0) k ≡ Some m → m ≤ 0
zeros_more places seat room none k m low e = by (get_write_cases places seat k 0 m room e)
  where
    by : ((k ≡ seat) × (0 ≡ m)) ⊎ ((k ≢ seat) × (slice_get places k ≡ Some m)) → m ≤ 0
    by (inl a) = let z = a.1 in omega (arith, z)
    by (inr a) = elim (cases_lt k seat) [ inl l ↦ none k m l a.1 | inr l ↦ absurd (a.0 (omega arith)) ]

-- the same marks with 0 in place of each number tell of no row
pub all_cleared : (program : Parts) (old new : Marks) → IsLaid program old → new.inputs.items ≡ old.inputs.items → new.firsts.items ≡ old.firsts.items → length new.places.items ≡ length old.places.items → AreNoneFrom 0 new.places.items → AreBefore program 0 new
all_cleared program old new laid inputs firsts count none = record {
  is_laid = record {
    inputs_are = λ r x e. ap (λ (l : List (List Name)). slice_get l r) inputs ∙ laid.inputs_are r x e;
    as_long = ap length firsts ∙ laid.as_long;
    laid = subst (λ n. AreLaid program.reactions new.firsts.items n) (sym count) (subst (λ fs. AreLaid program.reactions fs (length old.places.items)) (sym firsts) laid.laid);
  };
  none = none;
}

pub before_on : (program : Parts) (i j : ℕ) (marks : Marks) → i ≤ j → AreBefore program i marks → AreBefore program j marks
before_on program i j marks l h = record { is_laid = h.is_laid; none = λ k m e. let a : m ≤ i = h.none k m e in omega arith }

-- the inputs and the seats of the reactions before some number
pub record AreLaidTo (reactions : List Reaction) (n : ℕ) (names : List (List Name)) (firsts places : List ℕ) : Type 0 where
  pub many : length names ≡ n
  pub inputs_are : (r : ℕ) (x : Reaction) → r < n → slice_get reactions r ≡ Some x → slice_get names r ≡ Some (inputs x)
  pub as_long : length firsts ≡ n
  pub laid : AreLaid reactions firsts (length places)
  pub none : AreNoneFrom 0 places

-- what is known of all reactions
pub laid_all : (program : Parts) (n : ℕ) (marks : Marks) → length program.reactions ≤ n → n ≤ length program.reactions → AreLaidTo program.reactions n marks.inputs.items marks.firsts.items marks.places.items → AreBefore program 0 marks
laid_all program n marks l m h = record { is_laid = record { inputs_are = λ r x e. h.inputs_are r x (let w : r < length program.reactions = slice_get_within program.reactions r x e in omega arith) e; as_long = (let w : length marks.firsts.items ≡ n = h.as_long in omega arith); laid = h.laid }; none = h.none }

pub laid_more : (reactions : List Reaction) (n : ℕ) (names : List (List Name)) (firsts places more : List ℕ) (x : Reaction) → slice_get reactions n ≡ Some x → AreLaidTo reactions n names firsts places → length more ≡ length places + width x → AreNoneFrom 0 more → AreLaidTo reactions (n + 1) (names ++ inputs x ∷ []) (firsts ++ length places ∷ []) more
laid_more reactions n names firsts places more x ex h size none = record { many = (let a : length names ≡ n = h.many in let b : length (names ++ inputs x ∷ []) ≡ length names + 1 = length-append names (inputs x ∷ []) in omega arith); inputs_are = λ r y l e. own r y l e (ℕ_discrete r n); as_long = let a : length firsts ≡ n = h.as_long in let b : length (firsts ++ length places ∷ []) ≡ length firsts + 1 = length-append firsts (length places ∷ []) in omega arith; laid = record { within = within; apart = apart }; none = none }
  where
    own : (r : ℕ) (y : Reaction) → r < n + 1 → slice_get reactions r ≡ Some y → Dec (r ≡ n) → slice_get (names ++ inputs x ∷ []) r ≡ Some (inputs y)
    own r y l e (no d) = get_push names (inputs x) r (inputs y) (h.inputs_are r y (omega arith) e)
    own r y l e (yes d) =
        let z : x ≡ y = same_here reactions n x y ex (ap (λ k. slice_get reactions k) (sym d) ∙ e) in
        ap (λ k. slice_get (names ++ inputs x ∷ []) k) (d ∙ sym h.many) ∙ get_last names (inputs x) ∙ ap (λ (v : Reaction). Some (inputs v)) z

    many : length firsts ≡ n
    many = h.as_long

    size_is : length more ≡ length places + width x
    size_is = size

    within : (r f : ℕ) (y : Reaction) → slice_get reactions r ≡ Some y → slice_get (firsts ++ length places ∷ []) r ≡ Some f → f + width y ≤ length more
    within r f y ey ef = go (get_push_cases firsts (length places) r f ef)
      where
        go : (slice_get firsts r ≡ Some f) ⊎ ((r ≡ length firsts) × (length places ≡ f)) → f + width y ≤ length more
        go (inl e) = let a : f + width y ≤ length places = h.laid.within r f y ey e in omega arith
        go (inr e) =
            let a : r ≡ n = e.0 ∙ many in
            let z : x ≡ y = same_here reactions n x y ex (ap (λ k. slice_get reactions k) (sym a) ∙ ey) in
            let w : width x ≡ width y = ap width z in
            let b : length places ≡ f = e.1 in
            omega arith

    apart : (r s f g : ℕ) (y : Reaction) → r < s → slice_get reactions r ≡ Some y → slice_get (firsts ++ length places ∷ []) r ≡ Some f → slice_get (firsts ++ length places ∷ []) s ≡ Some g → f + width y ≤ g
    apart r s f g y l ey ef eg = go (get_push_cases firsts (length places) r f ef) (get_push_cases firsts (length places) s g eg)
      where
        go : (slice_get firsts r ≡ Some f) ⊎ ((r ≡ length firsts) × (length places ≡ f)) → (slice_get firsts s ≡ Some g) ⊎ ((s ≡ length firsts) × (length places ≡ g)) → f + width y ≤ g
        go (inl d) (inl e) = h.laid.apart r s f g y l ey d e
        go (inl d) (inr e) = let a : f + width y ≤ length places = h.laid.within r f y ey d in let b : length places ≡ g = e.1 in omega arith
        go (inr d) (inl e) = let a : s < length firsts = slice_get_within firsts s g e in let b : r ≡ length firsts = d.0 in absurd (omega arith)
        go (inr d) (inr e) = let a : s ≡ length firsts = e.0 in let b : r ≡ length firsts = d.0 in absurd (omega arith)

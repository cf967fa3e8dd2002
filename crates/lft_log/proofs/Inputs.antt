-- External inputs told before the rows among which they stand are judged.
use Rattle.std.proofs.Common.{◌≡◌, ◌∙◌, ◌+◌, ◌-◌, ◌<◌, ◌≤◌, ◌⊎◌, ⊎_elim, inl, inr, ℕ, zero, suc, List, [], ◌∷◌, ◌++◌, Option, Some, None, length, take, drop, get_or, slice_range, refl, sym, ap, subst, arith, add-one, length-append}
use Rattle.std.proofs.{Math.Seq.{drop-append_seam, drop-cons, take-append_seam}, lemmas.List.{append_assoc, append-nil}}
use Rattle.lft_lists.proofs.Places.{get_append_cases, get_last, get_left, get_right}
use Rattle.lft_tag.{specs.{declared.Tag.Tag, Tags.Before}, proofs.Order.order_cases}
use Rattle.lft_ir.specs.{Parts.Parts, declared.steps.row.Row.Row as TheRow}
use Rattle.lft_model.specs.Plans.{PlanParts}
use Rattle.lft_monitor.specs.Follows.{IsPassed}
use Rattle.lft_trace.specs.{ExternalTables.IsEntry, inner.LogTables.{EntryFits, InputsFit, inputs_behind}}
use Rattle.lft_trace.specs.declared.{external_table.Entry.Entry, log_table.{Among.Among, Line.{Line, TheVariants.{Row, Input}}}}
use Rattle.lft_log.specs.declared.{fault.LogFault.{LogFault, TheVariants.LateInput}, front.LinesRead.LinesRead, telling.Taken.Taken}
use Rattle.lft_log.specs.{Logs.{AreTimely, inputs, rows, tag_of_entry}, Told.{HasTold, IsFaultOf, RecordStandsBehind}}
use Rattle.lft_log.specs.inner.Told.{IsBeforeLatest, IsInputFault, IsLatestTag, IsTaken}
use Rattle.lft_log.proofs.Behind.{inputs_both, length_inputs, rows_both, timely_both}

-- ---- rows that pass a tag

pub passed_left : (t u : List TheRow) (g : Tag) → IsPassed t g → IsPassed (t ++ u) g
passed_left t u g p = (p.0, p.1, get_left t u p.0 p.1 p.2, p.3)

pub passed_right : (t u : List TheRow) (g : Tag) → IsPassed u g → IsPassed (t ++ u) g
passed_right t u g p = (length t + p.0, p.1, get_right t u p.0 ∙ p.2, p.3)

pub passed_either : (t u : List TheRow) (g : Tag) → IsPassed (t ++ u) g → IsPassed t g ⊎ IsPassed u g
passed_either t u g p = ⊎_elim (λ q. inl (p.0, p.1, q, p.3)) (λ q. inr (q.0, p.1, q.2, p.3)) (get_append_cases t u p.0 p.1 p.2)

-- the latest tag of no rows, and of one row more
pub latest_none : IsLatestTag [] None
latest_none g = ((λ p. absurd (cc (p.2))), λ n. absurd n)

one_passed : (x : TheRow) (g : Tag) → IsPassed (x ∷ []) g → Before g x.tag
one_passed x g (zero, y, e, b) = let same : x ≡ y = cc e in subst (λ (z : TheRow). Before g z.tag) (sym same) b
one_passed x g (suc i, y, e, b) = absurd (cc e)

pub latest_higher : (t : List TheRow) (x : TheRow) (old : Option Tag) → IsLatestTag t old → ((g : Tag) → old ≡ Some g → Before g x.tag) → IsLatestTag (t ++ x ∷ []) (Some x.tag)
latest_higher t x old is higher g = (λ p. ⊎_elim (λ q. go old is higher q) (λ q. one_passed x g q) (passed_either t (x ∷ []) g p), λ b. (length t, x, get_last t x, b))
  where
    go : (old : Option Tag) → IsLatestTag t old → ((h : Tag) → old ≡ Some h → Before h x.tag) → IsPassed t g → Before g x.tag
    go None is higher p = absurd ((is g).0 p)
    go (Some h) is higher p = let b = (is g).0 p in let c = higher h refl in grind (arith, b, c)

pub latest_stays : (t : List TheRow) (x : TheRow) (h : Tag) → IsLatestTag t (Some h) → ¬ Before h x.tag → IsLatestTag (t ++ x ∷ []) (Some h)
latest_stays t x h is not g = (λ p. ⊎_elim (λ q. (is g).0 q) (λ q. up (one_passed x g q)) (passed_either t (x ∷ []) g p), λ b. passed_left t (x ∷ []) g ((is g).1 b))
  where
    up : Before g x.tag → Before g h
    up b = let n = not in grind (arith, order_cases h x.tag)

-- an external input is late where a row at a later tag stands before it
pub late_behind : (base : PlanParts) (bytes : List ℕ) (lines : List Line) (t u : List TheRow) (latest : Option Tag) (entry : Entry) (number : ℕ) → RecordStandsBehind base.program bytes lines (λ f. IsEntry base.program f entry) → IsLatestTag u latest → IsBeforeLatest (tag_of_entry entry) latest → rows lines ≡ t ++ u → number ≡ length (inputs lines) + 2 → IsFaultOf base bytes (LateInput number)
late_behind base bytes lines t u latest entry number stands is before same numbered = (lines, entry, stands, subst (λ (r : List TheRow). IsPassed r (tag_of_entry entry)) (sym same) (passed_right t u (tag_of_entry entry) ((is (tag_of_entry entry)).1 before)), numbered)

-- ---- lines gone over

-- what is told of the lines gone over: the others have the external inputs that are left
pub record IsGone (old now : PlanParts) (t : List TheRow) (lines : List Line) (left : List Among) (place gone : ℕ) (latest : Option Tag) : Type 0 where
  pub first : List Line
  pub others : List Line
  pub parted : lines ≡ first ++ others
  pub left_is : left ≡ inputs_behind gone others
  pub counted : place ≡ length (inputs first)
  pub gone_is : gone ≡ length (rows first)
  pub latest_is : IsLatestTag (rows first) latest
  pub timely : AreTimely t first
  pub told : (base : PlanParts) (earlier : List Entry) → HasTold base earlier old → HasTold base (earlier ++ inputs first) now

pub gone_none : (old : PlanParts) (t : List TheRow) (lines : List Line) (left : List Among) → left ≡ inputs_behind 0 lines → IsGone old old t lines left 0 0 None
gone_none old t lines left e = record {
  first = [];
  others = lines;
  parted = refl;
  left_is = e;
  counted = refl;
  gone_is = refl;
  latest_is = latest_none;
  timely = tt;
  told = λ base earlier told. subst (λ (l : List Entry). HasTold base l old) (sym (append-nil earlier)) told;
}

-- the rows before the next external input, and what stands behind it
record IsNext (n : ℕ) (lines : List Line) (a : Among) (more : List Among) : Type 0 where
  run : List Line
  behind : List Line
  parted : lines ≡ run ++ Input a.entry ∷ behind
  none : inputs run ≡ []
  rows_before : a.rows_before ≡ n + length (rows run)
  more_is : more ≡ inputs_behind a.rows_before behind
  timely : (t : List TheRow) → AreTimely t run

next_input : (n : ℕ) (lines : List Line) (a : Among) (more : List Among) → a ∷ more ≡ inputs_behind n lines → IsNext n lines a more
next_input n [] a more e = absurd (cc e)
next_input n (Row r ∷ lines) a more e =
    let s = next_input (n + 1) lines a more e in
    let b = s.rows_before in
    record {
      run = Row r ∷ s.run;
      behind = s.behind;
      parted = ap (λ (l : List Line). Row r ∷ l) s.parted;
      none = s.none;
      rows_before = omega (arith, b);
      more_is = s.more_is;
      timely = λ t. s.timely (t ++ r ∷ []);
    }
next_input n (Input x ∷ lines) a more e =
    let same : a ≡ record { rows_before = n; entry = x } = cc e in
    let rest : more ≡ inputs_behind n lines = cc e in
    record {
      run = [];
      behind = lines;
      parted = ap (λ (b : Among). Input b.entry ∷ lines) (sym same);
      none = refl;
      rows_before = ap (λ (b : Among). b.rows_before) same ∙ zero_right n;
      more_is = rest ∙ ap (λ (b : Among). inputs_behind b.rows_before lines) (sym same);
      timely = λ t. tt;
    }
  where
    zero_right : (n : ℕ) → n ≡ n + 0
    zero_right n = omega arith

-- a run in a list
pub mid_range : (xs ys zs : List TheRow) (a b : ℕ) → a ≡ length xs → b ≡ a + length ys → slice_range (xs ++ (ys ++ zs)) a b ≡ ys
mid_range xs ys zs a b e f =
    let n : b - a ≡ length ys = omega (arith, f) in
    ap (λ (k : ℕ). take (b - a) (drop k (xs ++ (ys ++ zs)))) e
    ∙ ap (λ (l : List TheRow). take (b - a) l) (drop-append_seam xs (ys ++ zs))
    ∙ ap (λ (k : ℕ). take k (ys ++ zs)) n
    ∙ take-append_seam ys zs

-- what is left begins with the next of them
pub gone_at : (old now : PlanParts) (t : List TheRow) (lines : List Line) (all inputs : List Among) (place gone : ℕ) (latest : Option Tag) (d : Among) → all ≡ inputs → place < length all → IsGone old now t lines (drop place inputs) place gone latest → IsGone old now t lines (get_or all place d ∷ drop (place + 1) inputs) place gone latest
gone_at old now t lines all inputs place gone latest d e within is = subst (λ (l : List Among). IsGone old now t lines l place gone latest) (ap (drop place) (sym e) ∙ drop-cons all place d within ∙ ap (λ (k : ℕ). get_or all place d ∷ drop k all) (sym (add-one place)) ∙ ap (λ (l : List Among). get_or all place d ∷ drop (place + 1) l) e) is

-- each fits
pub fits_at : (p q : Parts) (all inputs : List Among) (place : ℕ) (d : Among) → q ≡ p → all ≡ inputs → InputsFit p inputs → place < length all → EntryFits q (get_or all place d).entry
fits_at p q all inputs place d same e fit within = subst (λ (r : Parts). EntryFits r (get_or all place d).entry) (sym same) (subst (λ (l : List Among). InputsFit p l) (sym e) fit place d within)

-- the next line is the external input
pub record IsAt (old now : PlanParts) (t : List TheRow) (lines : List Line) (a : Among) (more : List Among) (place : ℕ) (latest : Option Tag) : Type 0 where
  pub gone : IsGone old now t lines (a ∷ more) place a.rows_before latest
  pub behind : List Line
  pub next : gone.others ≡ Input a.entry ∷ behind

module _ (old now : PlanParts) (t : List TheRow) (lines : List Line) (a : Among) (more : List Among) (place gone : ℕ) (latest : Option Tag) (is : IsGone old now t lines (a ∷ more) place gone latest) where
  n : IsNext gone is.others a more
  n = next_input gone is.others a more is.left_is

  rows_all : rows lines ≡ rows is.first ++ (rows n.run ++ rows n.behind)
  rows_all = ap rows is.parted ∙ rows_both is.first is.others ∙ ap (λ (u : List TheRow). rows is.first ++ u) (ap rows n.parted ∙ rows_both n.run (Input a.entry ∷ n.behind))

  pub gone_up : gone ≤ a.rows_before
  gone_up = let b = n.rows_before in omega (arith, b)

  pub gone_within : a.rows_before ≤ length (rows lines)
  gone_within =
      let b = n.rows_before in
      let g = is.gone_is in
      let l = ap (λ (u : List TheRow). length u) rows_all in
      let l1 = length-append (rows is.first) (rows n.run ++ rows n.behind) in
      let l2 = length-append (rows n.run) (rows n.behind) in
      omega (arith, b, g, l, l1, l2)

  pub gone_short : (all : List TheRow) → all ≡ rows lines → a.rows_before ≤ length all
  gone_short all e = let w = gone_within in let l = ap (λ (u : List TheRow). length u) e in omega (arith, w, l)

  -- the rows before it are gone over
  pub rows_gone : (all : List TheRow) → all ≡ rows lines → (after : Option Tag) → ((u : List TheRow) → IsLatestTag u latest → IsLatestTag (u ++ slice_range all gone a.rows_before) after) → IsAt old now t lines a more place after
  rows_gone all e after latest_after = record {
    gone = record {
      first = first;
      others = Input a.entry ∷ n.behind;
      parted = is.parted ∙ ap (λ (l : List Line). is.first ++ l) n.parted ∙ sym (append_assoc is.first n.run (Input a.entry ∷ n.behind));
      left_is = ap (λ (l : List Among). a ∷ l) n.more_is;
      counted = is.counted ∙ ap (λ (l : List Entry). length l) (sym same_inputs);
      gone_is = let b = n.rows_before in let g = is.gone_is in let l = ap (λ (u : List TheRow). length u) (rows_both is.first n.run) in let l1 = length-append (rows is.first) (rows n.run) in omega (arith, b, g, l, l1);
      latest_is = subst (λ (u : List TheRow). IsLatestTag u after) (ap (λ (u : List TheRow). rows is.first ++ u) run_is ∙ sym (rows_both is.first n.run)) (latest_after (rows is.first) is.latest_is);
      timely = timely_both t is.first n.run is.timely (n.timely (t ++ rows is.first));
      told = λ base earlier told. subst (λ (l : List Entry). HasTold base (earlier ++ l) now) (sym same_inputs) (is.told base earlier told);
    };
    behind = n.behind;
    next = refl;
  }
    where
      first : List Line
      first = is.first ++ n.run

      same_inputs : inputs first ≡ inputs is.first
      same_inputs = inputs_both is.first n.run ∙ ap (λ (l : List Entry). inputs is.first ++ l) n.none ∙ append-nil (inputs is.first)

      run_is : slice_range all gone a.rows_before ≡ rows n.run
      run_is = ap (λ (u : List TheRow). slice_range u gone a.rows_before) (e ∙ rows_all) ∙ mid_range (rows is.first) (rows n.run) (rows n.behind) gone a.rows_before is.gone_is n.rows_before

module _ (old now : PlanParts) (t : List TheRow) (lines : List Line) (a : Among) (more : List Among) (place : ℕ) (latest : Option Tag) (at : IsAt old now t lines a more place latest) where
  abbrev here : IsGone old now t lines (a ∷ more) place a.rows_before latest
  here = at.gone

  -- it is told
  pub input_gone : (new : PlanParts) → ((base : PlanParts) (before : List Entry) → HasTold base before now → HasTold base (before ++ a.entry ∷ []) new) → ((u : List TheRow) → IsLatestTag u latest → ¬ IsPassed (t ++ u) (tag_of_entry a.entry)) → IsGone old new t lines more (place + 1) a.rows_before latest
  input_gone new told timely = record {
    first = first;
    others = at.behind;
    parted = here.parted ∙ ap (λ (l : List Line). here.first ++ l) at.next ∙ sym (append_assoc here.first (Input a.entry ∷ []) at.behind);
    left_is = let e : a ∷ more ≡ a ∷ inputs_behind a.rows_before at.behind = here.left_is ∙ ap (λ (l : List Line). inputs_behind a.rows_before l) at.next in cc e;
    counted = let c = here.counted in let l = ap (λ (es : List Entry). length es) more_inputs in let l1 = length-append (inputs here.first) (a.entry ∷ []) in omega (arith, c, l, l1);
    gone_is = here.gone_is ∙ ap (λ (u : List TheRow). length u) (sym same_rows);
    latest_is = subst (λ (u : List TheRow). IsLatestTag u latest) (sym same_rows) here.latest_is;
    timely = timely_both t here.first (Input a.entry ∷ []) here.timely (timely (rows here.first) here.latest_is, tt);
    told = λ base earlier before. subst (λ (l : List Entry). HasTold base l new) (append_assoc earlier (inputs here.first) (a.entry ∷ []) ∙ ap (λ (l : List Entry). earlier ++ l) (sym more_inputs)) (told base (earlier ++ inputs here.first) (here.told base earlier before));
  }
    where
      first : List Line
      first = here.first ++ Input a.entry ∷ []

      more_inputs : inputs first ≡ inputs here.first ++ a.entry ∷ []
      more_inputs = inputs_both here.first (Input a.entry ∷ [])

      same_rows : rows first ≡ rows here.first
      same_rows = rows_both here.first (Input a.entry ∷ []) ∙ append-nil (rows here.first)

  -- it is refused
  pub input_refused : (before : ℕ) (new : PlanParts) (front : LinesRead) (taken : Taken) (f : LogFault) → new ≡ now → taken.rows ≡ a.rows_before → taken.inputs ≡ place → taken.fault ≡ Some f → ((u : List TheRow) → IsLatestTag u latest → IsInputFault now (t ++ u) a.entry (before + place + 2) f) → IsTaken old new t before front lines taken
  input_refused before new front taken f stays rows_are inputs_are named of = record {
    first = here.first;
    others = here.others;
    parted = here.parted;
    counted = rows_are ∙ here.gone_is;
    numbered = inputs_are ∙ here.counted;
    timely = here.timely;
    told = λ base earlier before. subst (λ (p : PlanParts). HasTold base (earlier ++ inputs here.first) p) (sym stays) (here.told base earlier before);
    ends = inr (a.entry, at.behind, at.next, (f, named, subst (λ (p : PlanParts). IsInputFault p (t ++ rows here.first) a.entry (before + taken.inputs + 2) f) (sym stays) (subst (λ (k : ℕ). IsInputFault now (t ++ rows here.first) a.entry (before + k + 2) f) (sym inputs_are) (of (rows here.first) here.latest_is))));
  }

-- none is left
no_inputs : (n : ℕ) (lines : List Line) → [] ≡ inputs_behind n lines → inputs lines ≡ []
no_inputs n [] e = refl
no_inputs n (Row r ∷ lines) e = no_inputs (n + 1) lines e
no_inputs n (Input x ∷ lines) e = absurd (cc e)

only_rows : (n : ℕ) (lines : List Line) (t : List TheRow) → [] ≡ inputs_behind n lines → AreTimely t lines
only_rows n [] t e = tt
only_rows n (Row r ∷ lines) t e = only_rows (n + 1) lines (t ++ r ∷ []) e
only_rows n (Input x ∷ lines) t e = absurd (cc e)

pub all_gone : (old now : PlanParts) (t : List TheRow) (before : ℕ) (lines : List Line) (left : List Among) (place gone : ℕ) (latest : Option Tag) (read : List TheRow) (front : LinesRead) (taken : Taken) → IsGone old now t lines left place gone latest → left ≡ [] → read ≡ rows lines → front.inputs.items ≡ inputs_behind 0 lines → taken.rows ≡ length read → taken.inputs ≡ length front.inputs.items → taken.fault ≡ front.fault → IsTaken old now t before front lines taken
all_gone old now t before lines left place gone latest read front taken is none rows_are inputs_are counted numbered same = record {
  first = lines;
  others = [];
  parted = sym (append-nil lines);
  counted = counted ∙ ap (λ (u : List TheRow). length u) rows_are;
  numbered = numbered ∙ ap (λ (l : List Among). length l) inputs_are ∙ length_inputs 0 lines;
  timely = subst (λ (l : List Line). AreTimely t l) (sym is.parted) (timely_both t is.first is.others is.timely (only_rows gone is.others (t ++ rows is.first) end));
  told = λ base earlier before. subst (λ (l : List Entry). HasTold base (earlier ++ l) now) (sym (ap inputs is.parted ∙ inputs_both is.first is.others ∙ ap (λ (l : List Entry). inputs is.first ++ l) (no_inputs gone is.others end) ∙ append-nil (inputs is.first))) (is.told base earlier before);
  ends = inl (refl, same);
}
  where
    end : [] ≡ inputs_behind gone is.others
    end = sym none ∙ is.left_is

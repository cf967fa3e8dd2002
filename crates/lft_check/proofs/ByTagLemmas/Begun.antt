-- The runs of each reaction, one row after another.
use Rattle.std.proofs.Common.{◌≡◌, ℕ, ◌+◌, ◌<◌, ◌⊎◌, inl, inr, List, [], ◌∷◌, ◌++◌, length, length-append, take, drop, replicate, refl, sym, ap, ◌∙◌, subst, arith, Bool, true, false, Option, Some, slice_get, slice_set}
use native.Mathlib.Decide.{ℕ_discrete}
use Rattle.lft_tag.{specs.{declared.Tag.Tag, Tags.{Before, UpTo}}, proofs.Order.{order_cases, UpTo_antisym, UpTo-not, from_first}}
use Rattle.lft_ir.{specs.declared.steps.row.{Row.Row, Step.TheVariants.Start}, proofs.Ranges.slice_get-drop}
use Rattle.lft_lists.proofs.Places.{get_there, same_at, get_write_cases, get_written, get_unwritten, get_push, get_last, get_push_cases, length_written, get_same, get_append_cases}
use Rattle.lft_model.specs.{Plans.PlanParts, Presence.Triggered, Runs.{start_row, Ran}, Accepted.AreTags}
use Rattle.lft_model.proofs.{Ended.row_is, Legality.{four, rising, one_start}, Places.{slice_get_within, slice_get_take}}
use Rattle.lft_rows.{specs.Presence.Traces.{TraceParts, LeastTag}, proofs.PresenceLemmas.Leasts.least_as}
use Rattle.lft_check.specs.declared.by_tag.started.Started.{Started}
use Rattle.lft_check.specs.inner.ByTag.{Slices.{IsCuttable, IsMissingRun}, Least.{HasTag, IsPassed, AreTriggered, Lacks}}
use Rattle.lft_check.specs.inner.ByTag.Indexes.{AreStartsOf, HasRunsTo, HasRuns, AreTriggeredRows, AreMarkedTo}
use Rattle.lft_check.specs.ByTag.Slices.{IsVacant}

pub starts_begin : (t : List Row) (n : ℕ) (tags : List (List Tag)) (places : List (List ℕ)) → length tags ≡ n → length places ≡ n → ((r : ℕ) (gs : List Tag) → slice_get tags r ≡ Some gs → gs ≡ []) → ((r : ℕ) (ps : List ℕ) → slice_get places r ≡ Some ps → ps ≡ []) → HasRunsTo t 0 n tags places
starts_begin t n tags places c d none none_too = record { many_tags = c; many_places = d; starts = λ r gs ps p q. subst (λ (xs : List Tag). AreStartsOf t 0 r xs ps) (sym (none r gs p)) (subst (λ (xs : List ℕ). AreStartsOf t 0 r [] xs) (sym (none_too r ps q)) (empty r)) }
  where
    empty : (r : ℕ) → AreStartsOf t 0 r [] []
    empty r = record { as_long = refl; ascending = λ j k g h l p q. absurd (cc); starts = λ k p g e q. absurd (cc); each = λ p w g l e. absurd (omega arith) }

module _ (plan : PlanParts) (t : List Row) (rules : IsCuttable (record { plan = plan; rows = t })) (i : ℕ) (row : Row) (is_row : slice_get t i ≡ Some row) where
  last_or_before : (j : ℕ) (x : Row) → j < i + 1 → slice_get t j ≡ Some x → (j < i) ⊎ ((j ≡ i) × (row ≡ x))
  last_or_before j x l e = go (ℕ_discrete j i)
    where
      go : Dec (j ≡ i) → (j < i) ⊎ ((j ≡ i) × (row ≡ x))
      go (yes d) = inr (d, same_at t i j row x is_row e (sym d))
      go (no n) = inl (omega arith)

  later : (r : ℕ) (gs : List Tag) (ps : List ℕ) → AreStartsOf t i r gs ps → (k p : ℕ) (g : Tag) → slice_get gs k ≡ Some g → slice_get ps k ≡ Some p → (p < i + 1) × ((w : ℕ) × (slice_get t p ≡ Some (start_row w g r)))
  later r gs ps h k p g e q = let x = h.starts k p g e q in let l : p < i = x.0 in (omega arith, x.1)

  -- the row starts no run of the reaction
  other : (r : ℕ) (gs : List Tag) (ps : List ℕ) → ¬ ((row.step ≡ Start) × (row.reaction ≡ r)) → AreStartsOf t i r gs ps → AreStartsOf t (i + 1) r gs ps
  other r gs ps n h = record { as_long = h.as_long; ascending = h.ascending; starts = later r gs ps h; each = λ p w g l e. go p w g e (last_or_before p (start_row w g r) l e) }
    where
      go : (p w : ℕ) (g : Tag) → slice_get t p ≡ Some (start_row w g r) → (p < i) ⊎ ((p ≡ i) × (row ≡ start_row w g r)) → (k : ℕ) × (slice_get gs k ≡ Some g)
      go p w g e (inl l) = h.each p w g l e
      go p w g e (inr x) = absurd (n (ap (λ (z : Row). z.step) x.1, ap (λ (z : Row). z.reaction) x.1))

  pub starts_stay : (n : ℕ) (tags : List (List Tag)) (places : List (List ℕ)) → ¬ (row.step ≡ Start) → HasRunsTo t i n tags places → HasRunsTo t (i + 1) n tags places
  starts_stay n tags places inner h = record { many_tags = h.many_tags; many_places = h.many_places; starts = λ r gs ps p q. other r gs ps (λ x. inner x.0) (h.starts r gs ps p q) }

  module _ (begins : row.step ≡ Start) where
    here : slice_get t i ≡ Some (start_row row.worker row.tag row.reaction)
    here = is_row ∙ ap Some (row_is row row.worker row.tag row.reaction Start refl refl refl begins)

    -- one run more of its reaction
    more : (gs : List Tag) (ps : List ℕ) → AreStartsOf t i row.reaction gs ps → AreStartsOf t (i + 1) row.reaction (gs ++ row.tag ∷ []) (ps ++ i ∷ [])
    more gs ps h = record { as_long = omega (arith, length-append gs (row.tag ∷ []), length-append ps (i ∷ []), h.as_long); ascending = λ j k g f l p q. ascending j k g f l (get_push_cases gs row.tag j g p) (get_push_cases gs row.tag k f q); starts = λ k p g e q. starts k p g (get_push_cases gs row.tag k g e) (get_push_cases ps i k p q); each = λ p w g l e. each p w g e (last_or_before p (start_row w g row.reaction) l e) }
      where
        before : (k : ℕ) (g : Tag) → slice_get gs k ≡ Some g → Before g row.tag
        before k g e =
            let l : k < length gs = slice_get_within gs k g e in
            let m : length ps ≡ length gs = h.as_long in
            let p : (p : ℕ) × (slice_get ps k ≡ Some p) = get_there ps k (omega arith) in
            let x = h.starts k p.0 g e p.1 in
            go p.0 x.0 x.1.0 x.1.1 (order_cases g row.tag)
          where
            go : (p : ℕ) → p < i → (w : ℕ) → slice_get t p ≡ Some (start_row w g row.reaction) → Before g row.tag ⊎ UpTo row.tag g → Before g row.tag
            go p l w x (inl b) = b
            go p l w x (inr u) =
                let same : g ≡ row.tag = UpTo_antisym g row.tag (rising plan t (four plan t rules.kept) p i (start_row w g row.reaction) row l x is_row) u in
                let q : p ≡ i = one_start plan t (four plan t rules.kept) p i w row.worker row.tag row.reaction (x ∙ ap (λ (z : Tag). Some (start_row w z row.reaction)) same) here in
                absurd (omega arith)

        ascending : (j k : ℕ) (g f : Tag) → j < k → (slice_get gs j ≡ Some g) ⊎ ((j ≡ length gs) × (row.tag ≡ g)) → (slice_get gs k ≡ Some f) ⊎ ((k ≡ length gs) × (row.tag ≡ f)) → Before g f
        ascending j k g f l (inl p) (inl q) = h.ascending j k g f l p q
        ascending j k g f l (inl p) (inr q) = subst (λ (z : Tag). Before g z) q.1 (before j g p)
        ascending j k g f l (inr p) (inl q) = let m : k < length gs = slice_get_within gs k f q in let d : j ≡ length gs = p.0 in absurd (omega arith)
        ascending j k g f l (inr p) (inr q) = let c : j ≡ length gs = p.0 in let d : k ≡ length gs = q.0 in absurd (omega arith)

        starts : (k p : ℕ) (g : Tag) → (slice_get gs k ≡ Some g) ⊎ ((k ≡ length gs) × (row.tag ≡ g)) → (slice_get ps k ≡ Some p) ⊎ ((k ≡ length ps) × (i ≡ p)) → (p < i + 1) × ((w : ℕ) × (slice_get t p ≡ Some (start_row w g row.reaction)))
        starts k p g (inl e) (inl q) = later row.reaction gs ps h k p g e q
        starts k p g (inl e) (inr q) = let l : k < length gs = slice_get_within gs k g e in let m : length ps ≡ length gs = h.as_long in let d : k ≡ length ps = q.0 in absurd (omega arith)
        starts k p g (inr e) (inl q) = let l : k < length ps = slice_get_within ps k p q in let m : length ps ≡ length gs = h.as_long in let d : k ≡ length gs = e.0 in absurd (omega arith)
        starts k p g (inr e) (inr q) = let d : i ≡ p = q.1 in (omega arith, (row.worker, ap (λ z. slice_get t z) (sym q.1) ∙ here ∙ ap (λ (z : Tag). Some (start_row row.worker z row.reaction)) e.1))

        each : (p w : ℕ) (g : Tag) → slice_get t p ≡ Some (start_row w g row.reaction) → (p < i) ⊎ ((p ≡ i) × (row ≡ start_row w g row.reaction)) → (k : ℕ) × (slice_get (gs ++ row.tag ∷ []) k ≡ Some g)
        each p w g e (inl l) = let x = h.each p w g l e in (x.0, get_push gs row.tag x.0 g x.1)
        each p w g e (inr x) = (length gs, get_last gs row.tag ∙ ap Some (ap (λ (z : Row). z.tag) x.1))

    pub starts_more : (n : ℕ) (tags new_tags : List (List Tag)) (places new_places : List (List ℕ)) → row.reaction < n → HasRunsTo t i n tags places → ((gs : List Tag) → slice_get tags row.reaction ≡ Some gs → new_tags ≡ slice_set tags row.reaction (gs ++ row.tag ∷ [])) → ((ps : List ℕ) → slice_get places row.reaction ≡ Some ps → new_places ≡ slice_set places row.reaction (ps ++ i ∷ [])) → HasRunsTo t (i + 1) n new_tags new_places
    starts_more n tags new_tags places new_places known h tag_more place_more = record { many_tags = ap length tags_are ∙ length_written tags row.reaction (old.0 ++ row.tag ∷ []) ∙ h.many_tags; many_places = ap length places_are ∙ length_written places row.reaction (olds.0 ++ i ∷ []) ∙ h.many_places; starts = λ r gs ps p q. starts r gs ps (get_write_cases tags row.reaction r (old.0 ++ row.tag ∷ []) gs in_tags (ap (λ l. slice_get l r) (sym tags_are) ∙ p)) (get_write_cases places row.reaction r (olds.0 ++ i ∷ []) ps in_places (ap (λ l. slice_get l r) (sym places_are) ∙ q)) }
      where
        in_tags : row.reaction < length tags
        in_tags = let e : length tags ≡ n = h.many_tags in omega arith

        in_places : row.reaction < length places
        in_places = let e : length places ≡ n = h.many_places in omega arith

        old : (gs : List Tag) × (slice_get tags row.reaction ≡ Some gs)
        old = get_there tags row.reaction in_tags

        olds : (ps : List ℕ) × (slice_get places row.reaction ≡ Some ps)
        olds = get_there places row.reaction in_places

        tags_are : new_tags ≡ slice_set tags row.reaction (old.0 ++ row.tag ∷ [])
        tags_are = tag_more old.0 old.1

        places_are : new_places ≡ slice_set places row.reaction (olds.0 ++ i ∷ [])
        places_are = place_more olds.0 olds.1

        starts : (r : ℕ) (gs : List Tag) (ps : List ℕ) → ((r ≡ row.reaction) × (old.0 ++ row.tag ∷ [] ≡ gs)) ⊎ ((¬ (r ≡ row.reaction)) × (slice_get tags r ≡ Some gs)) → ((r ≡ row.reaction) × (olds.0 ++ i ∷ [] ≡ ps)) ⊎ ((¬ (r ≡ row.reaction)) × (slice_get places r ≡ Some ps)) → AreStartsOf t (i + 1) r gs ps
        starts r gs ps (inl p) (inl q) = subst (λ a. AreStartsOf t (i + 1) a gs ps) (sym p.0) (subst (λ (xs : List Tag). AreStartsOf t (i + 1) row.reaction xs ps) p.1 (subst (λ (xs : List ℕ). AreStartsOf t (i + 1) row.reaction (old.0 ++ row.tag ∷ []) xs) q.1 (more old.0 olds.0 (h.starts row.reaction old.0 olds.0 old.1 olds.1))))
        starts r gs ps (inl p) (inr q) = absurd (q.0 p.0)
        starts r gs ps (inr p) (inl q) = absurd (p.0 q.0)
        starts r gs ps (inr p) (inr q) = other r gs ps (λ x. p.0 (sym x.1)) (h.starts r gs ps p.1 q.1)

-- a tag is that of a run of the reaction exactly where it is one of its tags
pub tag_ran : (t : List Row) (r : ℕ) (gs : List Tag) (ps : List ℕ) → AreStartsOf t (length t) r gs ps → (g : Tag) → HasTag gs g → Ran t g r
tag_ran t r gs ps h g x =
    let l : x.0 < length gs = slice_get_within gs x.0 g x.1 in
    let m : length ps ≡ length gs = h.as_long in
    let p : (p : ℕ) × (slice_get ps x.0 ≡ Some p) = get_there ps x.0 (omega arith) in
    let y = h.starts x.0 p.0 g x.1 p.1 in
    record { place = p.0; worker = y.1.0; starts = y.1.1 }

pub ran_tag : (t : List Row) (r : ℕ) (gs : List Tag) (ps : List ℕ) → AreStartsOf t (length t) r gs ps → (g : Tag) → Ran t g r → HasTag gs g
ran_tag t r gs ps h g x = h.each x.place x.worker g (slice_get_within t x.place (start_row x.worker g r) x.starts) x.starts

-- one more start row marked
pub due_more : (cut : TraceParts) (r : ℕ) (gs : List Tag) (ps : List ℕ) (known : List Bool) → AreStartsOf cut.rows (length cut.rows) r gs ps → AreTriggered cut r gs known → (k p : ℕ) → slice_get known k ≡ Some true → slice_get ps k ≡ Some p → (due new : List Bool) → new ≡ slice_set due p true → AreTriggeredRows cut due → AreTriggeredRows cut new
due_more cut r gs ps known starts triggered k p e q due new is so_far i row there is_row = go (ℕ_discrete i p)
  where
    tag : (g : Tag) × (slice_get gs k ≡ Some g)
    tag = let l : k < length ps = slice_get_within ps k p q in let m : length ps ≡ length gs = starts.as_long in get_there gs k (omega arith)

    at : (w : ℕ) × (slice_get cut.rows p ≡ Some (start_row w tag.0 r))
    at = (starts.starts k p tag.0 tag.1 q).1

    go : Dec (i ≡ p) → Triggered cut.plan cut.rows row.tag row.reaction
    go (yes x) = let same : start_row at.0 tag.0 r ≡ row = same_at cut.rows p i (start_row at.0 tag.0 r) row at.1 is_row (sym x) in subst (λ (z : Row). Triggered cut.plan cut.rows z.tag z.reaction) same (triggered k tag.0 e tag.1)
    go (no n) = so_far i row (sym (get_unwritten due p i true n) ∙ ap (λ bs. slice_get bs i) (sym is) ∙ there) is_row

-- the marks, one run more
module _ (places : List ℕ) (known : List Bool) (k : ℕ) (old due : List Bool) where
  pub marked_more : (new : List Bool) (p : ℕ) → slice_get places k ≡ Some p → new ≡ slice_set due p true → AreMarkedTo places known k old due → AreMarkedTo places known (k + 1) old new
  marked_more new p is e h = record { as_long = ap length e ∙ length_written due p true ∙ h.as_long; kept = λ i q. stays i (h.kept i q); marked = λ j r l q s w. marked j r q s w (ℕ_discrete j k) l }
    where
      stays : (i : ℕ) → slice_get due i ≡ Some true → slice_get new i ≡ Some true
      stays i q = go (ℕ_discrete i p)
        where
          go : Dec (i ≡ p) → slice_get new i ≡ Some true
          go (yes d) = ap (λ bs. slice_get bs i) e ∙ ap (λ z. slice_get (slice_set due p true) z) d ∙ get_written due p true (subst (λ z. z < length due) d (slice_get_within due i true q))
          go (no d) = ap (λ bs. slice_get bs i) e ∙ get_unwritten due p i true d ∙ q

      marked : (j r : ℕ) → slice_get known j ≡ Some true → slice_get places j ≡ Some r → r < length old → Dec (j ≡ k) → j < k + 1 → slice_get new r ≡ Some true
      marked j r q s w (no d) l = stays r (h.marked j r (omega arith) q s w)
      marked j r q s w (yes d) l =
          let a : p ≡ r = same_at places k j p r is s (sym d) in
          let long : length due ≡ length old = h.as_long in
          ap (λ bs. slice_get bs r) e ∙ ap (λ z. slice_get (slice_set due p true) z) (sym a) ∙ get_written due p true (omega arith)

  pub marked_stay : ((p : ℕ) → slice_get known k ≡ Some true → ¬ (slice_get places k ≡ Some p)) → AreMarkedTo places known k old due → AreMarkedTo places known (k + 1) old due
  marked_stay none h = record { as_long = h.as_long; kept = h.kept; marked = λ j r l q s w. marked j r q s w (ℕ_discrete j k) l }
    where
      marked : (j r : ℕ) → slice_get known j ≡ Some true → slice_get places j ≡ Some r → r < length old → Dec (j ≡ k) → j < k + 1 → slice_get due r ≡ Some true
      marked j r q s w (no d) l = h.marked j r (omega arith) q s w
      marked j r q s w (yes d) l = absurd (none r (ap (λ z. slice_get known z) (sym d) ∙ q) (ap (λ z. slice_get places z) (sym d) ∙ s))

-- the starts of one reaction
pub starts_of : (t : List Row) (n : ℕ) (started : Started) → HasRuns t n started → (r : ℕ) (gs : List Tag) → slice_get started.tags r ≡ Some gs → (ps : List ℕ) × (slice_get started.places r ≡ Some ps) × AreStartsOf t (length t) r gs ps
starts_of t n started h r gs e =
    let l : r < length started.tags = slice_get_within started.tags r gs e in
    let a : length started.tags ≡ n = h.lists.many_tags in
    let b : length started.places ≡ n = h.lists.many_places in
    let p : (ps : List ℕ) × (slice_get started.places r ≡ Some ps) = get_there started.places r (omega arith) in
    (p.0, p.1, h.lists.starts r gs p.0 e p.1)

from_low : (low : Tag) (gs : List Tag) (g : Tag) → ¬ IsPassed low gs g → UpTo low g
from_low low gs g n = go (order_cases g low)
  where
    go : Before g low ⊎ UpTo low g → UpTo low g
    go (inl b) = absurd (n (inl b))
    go (inr u) = u

-- what is lacked of the tags of its runs is missing, from the low tag on
pub missing_of : (cut : TraceParts) (r : ℕ) (low : Tag) (gs : List Tag) (ps : List ℕ) (o : Option Tag) → AreStartsOf cut.rows (length cut.rows) r gs ps → LeastTag (Lacks cut low gs r) o → LeastTag (λ g. IsMissingRun cut r g × UpTo low g) o
missing_of cut r low gs ps o starts h = least_as (Lacks cut low gs r) (λ g. IsMissingRun cut r g × UpTo low g) o h (λ g m. (record { triggered = m.triggered; in_time = m.in_time; no_run = λ ran. m.not_there (inr (ran_tag cut.rows r gs ps starts g ran)) }, from_low low gs g m.not_there)) (λ g m. record { triggered = m.0.triggered; in_time = m.0.in_time; not_there = not_there g m })
  where
    not_there : (g : Tag) → IsMissingRun cut r g × UpTo low g → ¬ IsPassed low gs g
    not_there g m (inl b) = UpTo-not low g m.1 b
    not_there g m (inr there) = m.0.no_run (tag_ran cut.rows r gs ps starts g there)

-- what is lacked of the tags with a run is vacant
pub vacant_of : (cut : TraceParts) (r : ℕ) (gs : List Tag) (o : Option Tag) → AreTags cut.rows gs → LeastTag (Lacks cut (record { time = 0; micro = 0 }) gs r) o → LeastTag (IsVacant cut r) o
vacant_of cut r gs o are h = least_as (Lacks cut (record { time = 0; micro = 0 }) gs r) (IsVacant cut r) o h (λ g m. record { triggered = m.triggered; in_time = m.in_time; no_run = λ a ran. m.not_there (inr (are.each g a ran)) }) (λ g m. record { triggered = m.triggered; in_time = m.in_time; not_there = not_there g m })
  where
    not_there : (g : Tag) → IsVacant cut r g → ¬ IsPassed (record { time = 0; micro = 0 }) gs g
    not_there g m (inl b) = UpTo-not (record { time = 0; micro = 0 }) g (from_first g) b
    not_there g m (inr there) = let x = are.ran there.0 g there.1 in m.no_run x.0 x.1

-- where the front of a list is written over, an item is one of those or an old one
written_over : (new old : List Bool) (n i : ℕ) → slice_get (take n (new ++ drop (length new) old)) i ≡ Some true → (slice_get new i ≡ Some true) ⊎ (slice_get old i ≡ Some true)
written_over new old n i e = go (get_append_cases new (drop (length new) old) i true (slice_get_take n (new ++ drop (length new) old) i true e).1)
  where
    go : (slice_get new i ≡ Some true) ⊎ ((j : ℕ) × (i ≡ length new + j) × (slice_get (drop (length new) old) j ≡ Some true)) → (slice_get new i ≡ Some true) ⊎ (slice_get old i ≡ Some true)
    go (inl p) = inl p
    go (inr p) = inr (ap (λ k. slice_get old k) p.1 ∙ sym (slice_get-drop old (length new) p.0) ∙ p.2)

-- nothing is marked
abbrev pub NoneMarked : List Bool → Type 0
NoneMarked bs = (k : ℕ) → ¬ (slice_get bs k ≡ Some true)

pub none_marked : (cut : TraceParts) (r : ℕ) (gs : List Tag) (known : List Bool) → NoneMarked known → AreTriggered cut r gs known
none_marked cut r gs known none k g p q = absurd (none k p)

pub marks_over : (cut : TraceParts) (r : ℕ) (gs : List Tag) (new old : List Bool) (n : ℕ) → NoneMarked old → AreTriggered cut r gs new → AreTriggered cut r gs (take n (new ++ drop (length new) old))
marks_over cut r gs new old n none h k g p q = go (written_over new old n k p)
  where
    go : (slice_get new k ≡ Some true) ⊎ (slice_get old k ≡ Some true) → Triggered cut.plan cut.rows g r
    go (inl e) = h k g e q
    go (inr e) = absurd (none k e)

pub due_over : (cut : TraceParts) (new old : List Bool) (n : ℕ) → NoneMarked old → AreTriggeredRows cut new → AreTriggeredRows cut (take n (new ++ drop (length new) old))
due_over cut new old n none due i row p q = go (written_over new old n i p)
  where
    go : (slice_get new i ≡ Some true) ⊎ (slice_get old i ≡ Some true) → Triggered cut.plan cut.rows row.tag row.reaction
    go (inl e) = due i row e q
    go (inr e) = absurd (none i e)

pub none_in : (n : ℕ) (bs : List Bool) → bs ≡ replicate n false → NoneMarked bs
none_in n bs e k p = let z : true ≡ false = get_same n k false true (ap (λ xs. slice_get xs k) (sym e) ∙ p) in absurd (cc)

-- Up to when names are absent, by their causes.
use Rattle.std.proofs.Common.{◌≡◌, ◌≢◌, ℕ, ◌+◌, ◌*◌, ◌/◌, ◌%◌, ◌<◌, ◌≤◌, ◌⊎◌, inl, inr, List, length, sym, ap, ◌∙◌, subst, arith, true, false, Option, Some, None, slice_get, slice_set}
use Rattle.std.proofs.{lemmas.{Bool.{cases_eq, cases_lt}, Nat.div-add-mod'}, Math.Nat.mod-lt}
use Rattle.lft_tag.specs.{declared.Tag.Tag, Tags.{Before, UpTo}, Shifts.{Folded, shifted}}
use Rattle.lft_tag.proofs.Order.{Before-UpTo, Before-weaken, UpTo-not, UpTo-trans, UpTo_antisym, Before-trans, order_cases}
use Rattle.lft_ir.specs.{Sound.IsSound, declared.{parts.{Name.Name, Reaction.Reaction}, steps.row.Row.Row}, Steps.Fits.RowsFit}
use Rattle.lft_lists.proofs.Places.{get_write_cases, length_written, same_at, get_there}
use Rattle.lft_model.{specs.{Plans.PlanParts, Presence.IsPresent}, proofs.Places.slice_get_within}
use Rattle.lft_rows.specs.inner.{Marks.HasSeat, Presence.{Causes.{tag_of, IsCause, AreCauses, Leads, LiesBelow, IsPosition}, Traces.IsSooner}, Slices.IsSlice}
use Rattle.lft_rows.specs.{declared.{presence.causes.EventCause.EventCause, slices.Slice.Slice}, Presence.Traces.TraceParts}
use Rattle.lft_rows.proofs.{PresenceLemmas.{Presences.{IsKey, present_cause}, Skips.{leads_up, names_up}}, Marked.before_on}
use Rattle.lft_check.specs.declared.by_tag.{absences.Absences.Absences, walk.Walk.Walk}
use Rattle.lft_check.specs.inner.ByTag.{Absences.{IsEarlier, IsAbsentUntil, AreAbsences, AreAbsentUntil, IsUnknown}, Slices.IsCuttable}
use Rattle.lft_check.specs.inner.ByTag.Walks.{IsTagPast, IsWalkBefore, HasWalked}
use Rattle.lft_check.proofs.ByTagLemmas.Indexed.{rises_of}

-- no tag is before the first one
none_earlier : (h : Tag) → ¬ Before h (record { time = 0; micro = 0 })
none_earlier h (inl l) = let q : h.time < 0 = l in absurd (omega arith)
none_earlier h (inr e) = let q : h.micro < 0 = e.1 in absurd (omega arith)

-- the causes that lead to a tag or past it stand from a place on
module _ (plan : PlanParts) (t : List Row) (causes : List EventCause) (are : AreCauses plan t causes) (key : ℕ) (s : Folded) (g : Tag) (place : ℕ) (is : IsPosition causes key s g false place) where
  stands : (h : Tag) (c : EventCause) → UpTo g h → IsCause plan t c → Leads key s h c → (k : ℕ) × (place ≤ k) × (slice_get causes k ≡ Some c)
  stands h c u i leads = go (are.just.each c i)
    where
      below : LiesBelow key s g false c → ⊥
      below (inl l) = let e : c.name ≡ key = leads.0 in absurd (omega arith)
      below (inr (e, inl b)) = UpTo-not g (shifted (tag_of c) s) (subst (λ (z : Tag). UpTo g z) (sym leads.1) u) b
      below (inr (e, inr p)) = let z : false ≡ true = p.0 in absurd (cc)

      go : (k : ℕ) × (slice_get causes k ≡ Some c) → (k : ℕ) × (place ≤ k) × (slice_get causes k ≡ Some c)
      go (k, e) = by (cases_lt k place)
        where
          by : (k < place) ⊎ (place ≤ k) → (k : ℕ) × (place ≤ k) × (slice_get causes k ≡ Some c)
          by (inl l) = absurd (below (is.below k c l e))
          by (inr l) = (k, l, e)

  pub led_by_none : place ≡ length causes → (h : Tag) (c : EventCause) → UpTo g h → IsCause plan t c → ¬ Leads key s h c
  led_by_none end h c u i leads = let k = stands h c u i leads in let w : k.0 < length causes = slice_get_within causes k.0 c k.2 in let l : place ≤ k.0 = k.1 in omega arith

  module _ (here : EventCause) (is_here : slice_get causes place ≡ Some here) where
    pub led_later : here.name ≡ key → (h : Tag) (c : EventCause) → UpTo g h → Before h (shifted (tag_of here) s) → IsCause plan t c → ¬ Leads key s h c
    led_later q h c u b i leads =
        let k = stands h c u i leads in
        let up = leads_up causes are.ascending s place k.0 here c k.1 is_here k.2 (q ∙ sym leads.0) in
        UpTo-not (shifted (tag_of here) s) h (subst (λ (z : Tag). UpTo (shifted (tag_of here) s) z) leads.1 up) b

    pub led_by_others : ¬ (here.name ≡ key) → (h : Tag) (c : EventCause) → UpTo g h → IsCause plan t c → ¬ Leads key s h c
    led_by_others d h c u i leads =
        let k = stands h c u i leads in
        let up : here.name ≤ c.name = names_up causes are.ascending place k.0 here c k.1 is_here k.2 in
        let e : c.name ≡ key = leads.0 in
        let not : ¬ (here.name < key) = λ l. is.rest place here (let z : place ≤ place = omega arith in z) is_here (inl l) in
        go not (cases_lt here.name key)
      where
        go : ¬ (here.name < key) → (here.name < key) ⊎ (key ≤ here.name) → ⊥
        go not (inl l) = not l
        go not (inr l) = d (let k = stands h c u i leads in let up : here.name ≤ c.name = names_up causes are.ascending place k.0 here c k.1 is_here k.2 in let e : c.name ≡ key = leads.0 in omega arith)

-- a name is absent where none of its causes leads
pub absent_by : (plan : PlanParts) (t : List Row) → IsSound plan.program → RowsFit plan.program t → (g : Tag) (n : Name) (key : ℕ) (s : Folded) → IsKey plan.program n key s → (until : Option Tag) → ((h : Tag) (c : EventCause) → UpTo g h → IsEarlier h until → IsCause plan t c → ¬ Leads key s h c) → IsAbsentUntil plan t n g until
absent_by plan t sound fit g n key s k until none h u e present = let c = present_cause plan t sound fit h n key s k present in none h c.0 u e c.1 c.2

-- of two tags the earlier one
sooner_first : (a b r : Option Tag) (h : Tag) → IsSooner a b r → IsEarlier h r → IsEarlier h a × IsEarlier h b
sooner_first None b r h is e = (tt, subst (λ (o : Option Tag). IsEarlier h o) is e)
sooner_first (Some a) None r h is e = (subst (λ (o : Option Tag). IsEarlier h o) is e, tt)
sooner_first (Some a) (Some b) r h (inl p) e = let q : Before h a = subst (λ (o : Option Tag). IsEarlier h o) p.0 e in (q, Before-UpTo h a b q p.1)
sooner_first (Some a) (Some b) r h (inr p) e = let q : Before h b = subst (λ (o : Option Tag). IsEarlier h o) p.0 e in (Before-trans h b a q p.1, q)

-- one name more
pub absent_more : (cut : TraceParts) (names : List Name) (from place : ℕ) (g : Tag) (n : Name) (old one new : Option Tag) → slice_get names place ≡ Some n → AreAbsentUntil cut names from place g old → IsAbsentUntil cut.plan cut.rows n g one → IsSooner old one new → AreAbsentUntil cut names from (place + 1) g new
absent_more cut names from place g n old one new here are is sooner k m f l e h u b = go (cases_eq k place)
  where
    both : IsEarlier h old × IsEarlier h one
    both = sooner_first old one new h sooner b

    go : (k ≡ place) ⊎ (k ≡ place → ⊥) → ¬ IsPresent cut.plan cut.rows h m
    go (inl q) = subst (λ (z : Name). ¬ IsPresent cut.plan cut.rows h z) (sym (same_at names k place m n e here q)) (is h u both.1)
    go (inr d) = are k m f (omega arith) e h u both.0

-- what is known holds from a later tag on
pub absences_on : (cut : TraceParts) (g h : Tag) (absences : List Absences) → UpTo g h → AreAbsences cut g absences → AreAbsences cut h absences
absences_on cut g h absences l are = record { as_long = are.as_long; each = λ r b k a until x n p q e s d z u y. are.each r b k a until x n p q e s d z (UpTo-trans g h z l u) y }

-- nothing is known at first
pub absences_begin : (cut : TraceParts) (g : Tag) (absences : List Absences) → length absences ≡ length cut.plan.program.reactions → ((r : ℕ) (a : Absences) → slice_get absences r ≡ Some a → IsUnknown a) → AreAbsences cut g absences
absences_begin cut g absences as_long none = record { as_long = as_long; each = λ r b k a until x n p q e s d h u y. absurd (none_earlier h (subst (λ (o : Option Tag). IsEarlier h o) (none r a p b until q) y)) }

-- one block is looked at
pub absences_put : (cut : TraceParts) (g : Tag) (old new : List Absences) (r b : ℕ) (was now : Absences) (until : Option Tag) → AreAbsences cut g old → slice_get old r ≡ Some was → new ≡ slice_set old r now → b < length was.until.items → now.until.items ≡ slice_set was.until.items b until → ((x : Reaction) (n : Name) (k : ℕ) → slice_get cut.plan.program.reactions r ≡ Some x → HasSeat x n k → k / 64 ≡ b → IsAbsentUntil cut.plan cut.rows n g until) → AreAbsences cut g new
absences_put cut g old new r b was now until are is_was is_new within is_now absent = record { as_long = ap length is_new ∙ length_written old r now ∙ are.as_long; each = each }
  where
    each : (s c k : ℕ) (a : Absences) (u : Option Tag) (x : Reaction) (n : Name) → slice_get new s ≡ Some a → slice_get a.until.items c ≡ Some u → slice_get cut.plan.program.reactions s ≡ Some x → HasSeat x n k → k / 64 ≡ c → IsAbsentUntil cut.plan cut.rows n g u
    each s c k a u x n p q e seat d = go (get_write_cases old r s now a (slice_get_within old r was is_was) (subst (λ (l : List Absences). slice_get l s ≡ Some a) is_new p))
      where
        go : ((s ≡ r) × (now ≡ a)) ⊎ ((s ≢ r) × (slice_get old s ≡ Some a)) → IsAbsentUntil cut.plan cut.rows n g u
        go (inr z) = are.each s c k a u x n z.1 q e seat d
        go (inl z) = by (get_write_cases was.until.items b c until u within (subst (λ (l : List (Option Tag)). slice_get l c ≡ Some u) is_now (subst (λ (y : Absences). slice_get y.until.items c ≡ Some u) (sym z.1) q)))
          where
            by : ((c ≡ b) × (until ≡ u)) ⊎ ((c ≢ b) × (slice_get was.until.items c ≡ Some u)) → IsAbsentUntil cut.plan cut.rows n g u
            by (inl y) = subst (λ (o : Option Tag). IsAbsentUntil cut.plan cut.rows n g o) y.1 (absent x n k (subst (λ (i : ℕ). slice_get cut.plan.program.reactions i ≡ Some x) z.0 e) seat (d ∙ y.0))
            by (inr y) = are.each r c k was u x n is_was y.1 (subst (λ (i : ℕ). slice_get cut.plan.program.reactions i ≡ Some x) z.0 e) seat d

-- the places of a block
pub in_block : (k b : ℕ) → k / 64 ≡ b → (b * 64 ≤ k) × (k < b * 64 + 64)
in_block k b e =
    let whole : k / 64 * 64 + k % 64 ≡ k = div-add-mod' k 64 in
    let rest : k % 64 < 64 = mod-lt k (omega arith) in
    (omega (arith, whole, e), omega (arith, whole, rest, e))

-- the tag of a slice is past the rows before it
pub slice_past : (cut : TraceParts) → IsCuttable cut → (s : Slice) → IsSlice cut.rows s → IsTagPast cut.rows s.first s.tag
slice_past cut rules s is j row l e = go (order_cases row.tag s.tag)
  where
    first : (row : Row) × (slice_get cut.rows s.first ≡ Some row) × (row.tag ≡ s.tag)
    first =
        let a : s.first < s.end = is.some in
        let b : s.end ≤ length cut.rows = is.within in
        let r = get_there cut.rows s.first (omega arith) in
        (r.0, r.1, is.at_tag s.first r.0 r.1 (let z : s.first ≤ s.first = omega arith in z) a)

    up : UpTo row.tag s.tag
    up = subst (λ (z : Tag). UpTo row.tag z) first.2 (rises_of cut.plan cut.rows rules.kept j s.first row first.0 l e first.1)

    go : Before row.tag s.tag ⊎ UpTo s.tag row.tag → Before row.tag s.tag
    go (inl b) = b
    go (inr u) = (let q : row.tag ≡ s.tag = UpTo_antisym row.tag s.tag up u in let w = is.all j row e q in let z : s.first ≤ j = w.0 in absurd (omega arith))

-- a walk that has gone over the rows of a slice knows of none but rows before its end
pub walked_before : (cut : TraceParts) (s : Slice) (walk : Walk) → IsSlice cut.rows s → HasWalked cut s walk → IsWalkBefore cut s.end walk
walked_before cut s walk is walked = record { marks = walked.marks.are_before; absences = λ h past. absences_on cut s.tag h walk.absences.items (up h past) walked.absences }
  where
    up : (h : Tag) → IsTagPast cut.rows s.end h → UpTo s.tag h
    up h past =
        let a : s.first < s.end = is.some in
        let b : s.end ≤ length cut.rows = is.within in
        let r = get_there cut.rows s.first (omega arith) in
        Before-weaken s.tag h (subst (λ (z : Tag). Before z h) (is.at_tag s.first r.0 r.1 (let z : s.first ≤ s.first = omega arith in z) a) (past s.first r.0 a r.1))

-- and of none but rows before a later place
pub before_later : (cut : TraceParts) (i k : ℕ) (walk : Walk) → i ≤ k → IsWalkBefore cut i walk → IsWalkBefore cut k walk
before_later cut i k walk l before = record { marks = before_on cut.plan.program i k walk.marks l before.marks; absences = λ h past. before.absences h (λ j row m e. past j row (omega (arith, l, m)) e) }

-- The tags to which the causes of a name lead, one after another.
use Rattle.std.proofs.Common.{◌≡◌, ℕ, ◌<◌, ◌≤◌, ◌⊎◌, inl, inr, List, length, refl, sym, ◌∙◌, subst, arith, Option, Some, None, slice_get}
use Rattle.std.proofs.lemmas.Bool.{cases_lt}
use Rattle.lft_tag.{specs.{declared.Tag.Tag, Tags.{Before, UpTo}, Shifts.{Folded, shifted}}, proofs.Order.{UpTo-not, UpTo-trans}}
use Rattle.lft_ir.specs.{Sound.IsSound, declared.parts.{Name.Name, Trigger.TheVariants.On}, Steps.Fits.RowsFit}
use Rattle.lft_model.{specs.Presence.stop, proofs.Places.slice_get_within}
use Rattle.lft_rows.specs.{declared.presence.causes.EventCause.EventCause, inner.Presence.Causes.{tag_of, AreCauses, IsSkip}}
use Rattle.lft_rows.specs.Presence.Traces.{TraceParts, LeastTag}
use Rattle.lft_rows.proofs.PresenceLemmas.{Skips.{leads_up, names_up}, Leasts.least_as, Presences.{IsKey, present_cause, cause_present}}
use Rattle.lft_check.specs.inner.ByTag.Least.{HasTag, IsPassed, LacksCause, LacksTriggerAt}

-- the tag of each cause of the name before a place is passed; from there on no name is lesser, and those of the name lead to the low tag or behind it
pub record IsWalked (cut : TraceParts) (causes : List EventCause) (name : ℕ) (s : Folded) (low : Tag) (tags : List Tag) (place : ℕ) : Type 0 where
  pub ran : (k : ℕ) (c : EventCause) → k < place → slice_get causes k ≡ Some c → c.name ≡ name → IsPassed low tags (shifted (tag_of c) s)
  pub least : (k : ℕ) (c : EventCause) → place ≤ k → slice_get causes k ≡ Some c → name ≤ c.name
  pub from : (k : ℕ) (c : EventCause) → place ≤ k → slice_get causes k ≡ Some c → c.name ≡ name → UpTo low (shifted (tag_of c) s)

module _ (cut : TraceParts) (causes : List EventCause) (are : AreCauses cut.plan cut.rows causes) (name : ℕ) (s : Folded) (low : Tag) (tags : List Tag) where
  module _ (place : ℕ) (h : IsWalked cut causes name s low tags place) where
    -- a lacked tag is that of a cause from the place on
    later : (g : Tag) (m : LacksCause cut name s low tags g) → (k : ℕ) × (place ≤ k) × (slice_get causes k ≡ Some m.cause)
    later g m = go (are.just.each m.cause m.is_cause)
      where
        go : (k : ℕ) × (slice_get causes k ≡ Some m.cause) → (k : ℕ) × (place ≤ k) × (slice_get causes k ≡ Some m.cause)
        go (k, e) = by (cases_lt k place)
          where
            by : (k < place) ⊎ (place ≤ k) → (k : ℕ) × (place ≤ k) × (slice_get causes k ≡ Some m.cause)
            by (inl l) = absurd (m.not_there (subst (λ (z : Tag). IsPassed low tags z) m.leads.1 (h.ran k m.cause l e m.leads.0)))
            by (inr l) = (k, l, e)

    pub walk_over : length causes ≤ place → LeastTag (LacksCause cut name s low tags) None
    walk_over l g m = let k = later g m in let a : k.0 < length causes = slice_get_within causes k.0 m.cause k.2 in let b : place ≤ k.0 = k.1 in omega arith

    module _ (here : EventCause) (is_here : slice_get causes place ≡ Some here) where
      pub walk_past : ¬ (here.name ≡ name) → LeastTag (LacksCause cut name s low tags) None
      walk_past n g m =
          let k = later g m in
          let a : here.name ≤ m.cause.name = names_up causes are.ascending place k.0 here m.cause k.1 is_here k.2 in
          let b : name ≤ here.name = h.least place here (omega arith) is_here in
          let d : m.cause.name ≡ name = m.leads.0 in
          n (omega arith)

      -- a lacked tag is at the one of this cause or after it
      up : here.name ≡ name → (g : Tag) → LacksCause cut name s low tags g → UpTo (shifted (tag_of here) s) g
      up q g m = let k = later g m in subst (λ (z : Tag). UpTo (shifted (tag_of here) s) z) m.leads.1 (leads_up causes are.ascending s place k.0 here m.cause k.1 is_here k.2 (q ∙ sym m.leads.0))

      pub walk_late : here.name ≡ name → Before (stop cut.plan cut.rows) (shifted (tag_of here) s) → LeastTag (LacksCause cut name s low tags) None
      walk_late q b g m = UpTo-not (shifted (tag_of here) s) (stop cut.plan cut.rows) (UpTo-trans (shifted (tag_of here) s) g (stop cut.plan cut.rows) (up q g m) m.in_time) b

      pub walk_finds : here.name ≡ name → UpTo (shifted (tag_of here) s) (stop cut.plan cut.rows) → ¬ HasTag tags (shifted (tag_of here) s) → LeastTag (LacksCause cut name s low tags) (Some (shifted (tag_of here) s))
      walk_finds q u n = (record { cause = here; is_cause = are.just.only place here is_here; leads = (q, refl); in_time = u; not_there = not_passed }, up q)
        where
          not_passed : ¬ IsPassed low tags (shifted (tag_of here) s)
          not_passed (inl b) = UpTo-not low (shifted (tag_of here) s) (h.from place here (omega arith) is_here q) b
          not_passed (inr t) = n t

      pub walk_goes_on : (next : ℕ) → HasTag tags (shifted (tag_of here) s) → IsSkip causes name s (shifted (tag_of here) s) place next → IsWalked cut causes name s low tags next
      walk_goes_on next ran skip = record { ran = all; least = λ k c l e. let m : place < next = skip.further in h.least k c (omega arith) e; from = λ k c l e. let m : place < next = skip.further in h.from k c (omega arith) e }
        where
          all : (k : ℕ) (c : EventCause) → k < next → slice_get causes k ≡ Some c → c.name ≡ name → IsPassed low tags (shifted (tag_of c) s)
          all k c l e q = go (cases_lt k place)
            where
              go : (k < place) ⊎ (place ≤ k) → IsPassed low tags (shifted (tag_of c) s)
              go (inl m) = h.ran k c m e q
              go (inr m) = subst (λ (z : Tag). IsPassed low tags z) (sym ((skip.same k c m l e).1)) (inr ran)

-- what is lacked of a name is what is lacked of its causes
pub lacked_key : (cut : TraceParts) → IsSound cut.plan.program → RowsFit cut.plan.program cut.rows → (n : Name) (key : ℕ) (s : Folded) (low : Tag) (tags : List Tag) (o : Option Tag) → IsKey cut.plan.program n key s → LeastTag (LacksCause cut key s low tags) o → LeastTag (LacksTriggerAt cut (On n) low tags) o
lacked_key cut sound fit n key s low tags o k h = least_as (LacksCause cut key s low tags) (LacksTriggerAt cut (On n) low tags) o h to from
  where
    to : (g : Tag) → LacksCause cut key s low tags g → LacksTriggerAt cut (On n) low tags g
    to g m = record { occurs = cause_present cut.plan cut.rows sound fit g n key s k m.cause m.is_cause m.leads; in_time = m.in_time; not_there = m.not_there }

    from : (g : Tag) → LacksTriggerAt cut (On n) low tags g → LacksCause cut key s low tags g
    from g m = let c = present_cause cut.plan cut.rows sound fit g n key s k m.occurs in record { cause = c.0; is_cause = c.1; leads = c.2; in_time = m.in_time; not_there = m.not_there }

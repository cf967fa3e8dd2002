-- What stays right of rows with other external inputs.
use Rattle.std.proofs.Common.{◌≡◌, ℕ, ◌⊎◌, inl, inr, List, Some, slice_get, filter_map}
use Rattle.lft_tag.{specs.{declared.Tag.Tag, Tags.{Before, UpTo, after_all}}, proofs.Order.UpTo-trans}
use Rattle.lft_ir.specs.declared.{parts.{Value.Value, Trigger.{Trigger, TheVariants.{Startup, Shutdown, Timer, On}}}, steps.row.Row.Row}
use Rattle.lft_ir.specs.Steps.Inputs.{ExternalInputs}
use Rattle.lft_model.specs.{declared.breach.Breach.Breach, Plans.PlanParts, Presence.{stop, written, IsWrittenFrom, PortClash}, Runs.Ran}
use Rattle.lft_model.specs.Breaches.{BreaksRowUntil, RowBreachUntil}
use Rattle.lft_queue.specs.{inner.Coming.{Listens.Listens, Listeners.AreNameListeners}, declared.coming.listeners.NameListeners.NameListeners}
use Rattle.lft_stream.specs.{declared.due.Due.{Due, TheVariants.{AtTag, AtStop, Never}}, inner.{Dues.{IsDue, AreDues}, Settled.IsRightRun}}
use Rattle.lft_monitor.{specs.{Sure.with_inputs, inner.Kept.{GoesUnheard, IsKept}}, proofs.Same.SameAt}

module _ (plan : PlanParts) (inputs : ExternalInputs) where
  abbrev other : PlanParts
  other = with_inputs plan inputs

  -- a row breaks no rule that it didn't break, where it was past the stop if it is now
  pub row_other : (last final : Tag) (t : List Row) (b : Breach) → ((i : ℕ) (x : Row) → slice_get t i ≡ Some x → Before final x.tag → Before last x.tag) → RowBreachUntil final other t b → RowBreachUntil last plan t b
  row_other last final t b past x = record { place = x.place; row = x.row; is_row = x.is_row; breaks = go b.rule x.breaks; tag_is = x.tag_is; reaction_is = x.reaction_is; row_is = x.row_is }
    where
      go : (k : ℕ) → BreaksRowUntil final other t x.place x.row k → BreaksRowUntil last plan t x.place x.row k
      go k (inl y) = inl y
      go k (inr (inl y)) = inr (inl (y.0, past x.place x.row x.is_row y.1))
      go k (inr (inr y)) = inr (inr y)

  pub listens_back : (r : ℕ) (x : Trigger) → Listens other r x → Listens plan r x
  listens_back r x l = record { reaction = l.reaction; is_reaction = l.is_reaction; is_trigger = l.is_trigger }

  pub listeners_other : (l : NameListeners) → AreNameListeners plan l → AreNameListeners other l
  listeners_other l are = record { ports = are.ports; actions = are.actions; each = λ n r list x. are.each n r list (listens_back r (On n) x) }

  -- what is due is so still, where whoever ran at the stop runs at the stop now
  module _ (t : List Row) (last : (r : ℕ) → Ran t (stop plan t) r → Ran t (stop other t) r) where
    due_other : (r : ℕ) (x : Trigger) (due : Due) → IsDue plan t r x due → IsDue other t r x due
    due_other r Startup (AtTag g period) y = y
    due_other r Startup AtStop y = y
    due_other r Startup Never y = y
    due_other r Shutdown (AtTag g period) y = y
    due_other r Shutdown AtStop y = y
    due_other r Shutdown Never y = last r y
    due_other r (Timer n) due y = y
    due_other r (On n) (AtTag g period) y = y
    due_other r (On n) AtStop y = y
    due_other r (On n) Never y = y

    pub dues_other : (dues : List (List Due)) → AreDues plan t dues → AreDues other t dues
    dues_other dues are = record {
      as_long = are.as_long;
      each = λ r list at. let old = are.each r list at in (old.0, old.1, record { as_long = old.2.as_long; each = λ k x due p q. due_other r x due (old.2.each k x due p q) });
    }

  -- a run of which the same is asked is right still
  pub right_other : (t : List Row) (g : Tag) (r : ℕ) → SameAt other plan (stop other t) (stop plan t) t t g → IsRightRun plan t g r → IsRightRun other t g r
  right_other t g r same old = record { triggered = same.triggered_back r old.triggered; in_order = λ e. old.in_order (same.early r e); reads = same.reads_back r old.reads }

  -- what is kept is so still, with a nearer stop
  pub kept_other : (t kept : List Row) (low : Tag) → UpTo (stop other t) (stop plan t) → IsKept (stop plan t) plan t t kept low → IsKept (stop other t) other t t kept low
  kept_other t kept low near is = record { same = record { scheduled_same = is.same.scheduled_same; written_alike = λ h p o delays way up. go h p (after_all h delays) o (is.same.written_alike h p o delays way up) }; asks = is.asks; own = is.own }
    where
      from : (g : Tag) (p : ℕ) (h : Tag) (v : Value) → IsWrittenFrom other t g p h v → IsWrittenFrom plan t g p h v
      from g p h v x = record { origin = x.origin; delays = x.delays; is_origin = x.is_origin; arrives = x.arrives; is_last = x.is_last }

      clash : (g : Tag) (p : ℕ) → PortClash other t g p → PortClash plan t g p
      clash g p c = record { first = c.first; second = c.second; first_value = c.first_value; second_value = c.second_value; is_first = from g p c.first c.first_value c.is_first; is_second = from g p c.second c.second_value c.is_second; differ = c.differ }

      go : (h : Tag) (p : ℕ) (g : Tag) (o : ℕ) → (filter_map (written h o) t ≡ filter_map (written h o) kept) ⊎ GoesUnheard (stop plan t) plan t low h p g → (filter_map (written h o) t ≡ filter_map (written h o) kept) ⊎ GoesUnheard (stop other t) other t low h p g
      go h p g o (inl q) = inl q
      go h p g o (inr m) = inr (record { unread = m.unread; over = m.over; apart = λ l c. m.apart (UpTo-trans g (stop other t) (stop plan t) l near) (clash g p c) })

-- What rows give a port at a tag: the last of them is its event, and two from different tags clash.
use Rattle.std.proofs.Common.{◌≡◌, ℕ, ◌+◌, ◌<◌, List, length, take, refl, sym, ap, ◌∙◌, subst, arith, Option, Some, None, Bool, true, false, cond, is_some, IfSome, IfNone, slice_get, filter_map}
use Rattle.std.{specs.List.last_or, proofs.lemmas.List.take_all}
use native.Mathlib.Decide.{ℕ_discrete}
use Rattle.lft_ir.proofs.Origins.{origin_unique}
use Rattle.lft_ir.specs.{Parts.Parts, Origins.Origin, declared.{parts.{Port.Port as PortOf, Value.Value, Name.TheVariants.Port}, steps.row.Row.Row}}
use Rattle.lft_tag.{specs.{declared.Tag.Tag, Tags.{after_all, same_tag}, Shifts.shifted}, proofs.{Chains.shifted_chain, Order.{same_tag_refl, same_tag_true}}}
use Rattle.lft_lists.proofs.Members.{Mem, LastAt, mem_get, get_mem, mem_filter, mem_from_filter, last_mem, last_of_mem, last_at, last_by_place, last_more_none, last_more_some}
use Rattle.lft_model.specs.{Plans.{PlanParts, IsSoundPlan}, Presence.{value_written, written, IsWrittenFrom, At, IsPresent, PortClash}}
use Rattle.lft_model.proofs.{Places.slice_get_within, Counted.get_or_get, Ended.{written_by, by_written}}

-- the value that a row gives the port at tag g
abbrev pub arriving : Tag → PortOf → Row → Option Value
arriving g port row = cond (same_tag g (shifted row.tag (port.shift.time, port.shift.steps))) (value_written port.origin row.step) None

-- a value that is kept under a test
kept_if : (b : Bool) (o : Option Value) (v : Value) → cond b o None ≡ Some v → (b ≡ true) × (o ≡ Some v)
kept_if true o v e = (refl, e)
kept_if false o v e = absurd (cc)

-- a row that arrives leads to the tag and writes the origin
arriving_parts : (g : Tag) (port : PortOf) (row : Row) (v : Value) → arriving g port row ≡ Some v → (shifted row.tag (port.shift.time, port.shift.steps) ≡ g) × (value_written port.origin row.step ≡ Some v)
arriving_parts g port row v e =
    let to = shifted row.tag (port.shift.time, port.shift.steps) in
    let q = kept_if (same_tag g to) (value_written port.origin row.step) v e in
    (sym (same_tag_true g to q.0), q.1)

-- a value that is there
value_of : (o : Option Value) → is_some o ≡ true → (v : Value) × (o ≡ Some v)
value_of None e = absurd (cc)
value_of (Some v) e = (v, refl)

-- the last value that arrives from the first i rows
abbrev pub last_before : Tag → PortOf → List Row → ℕ → Option Value
last_before g port t i = last_or None (filter_map (arriving g port) (take i t))

-- the last value that arrives, over one more row
module _ (g : Tag) (port : PortOf) (t : List Row) (i : ℕ) (row : Row) (is_row : slice_get t i ≡ Some row) where
  -- it gives none
  pub value_stays : (o now : Option Value) → o ≡ last_before g port t i → now ≡ arriving g port row → is_some now ≡ false → o ≡ last_before g port t (i + 1)
  value_stays o (Some v) so_far e s = absurd (cc)
  value_stays o None so_far e s =
      let at = get_or_get t i row row is_row in
      so_far ∙ sym (last_more_none (arriving g port) t i row at.0 (ap (arriving g port) at.1 ∙ sym e))

  -- it gives one
  pub value_changes : (now : Option Value) → now ≡ arriving g port row → is_some now ≡ true → now ≡ last_before g port t (i + 1)
  value_changes None e s = absurd (cc)
  value_changes (Some v) e s =
      let at = get_or_get t i row row is_row in
      sym (last_more_some (arriving g port) t i row v at.0 (ap (arriving g port) at.1 ∙ sym e))

-- after all rows it is the last value of all
value_ends : (g : Tag) (port : PortOf) (t : List Row) (i : ℕ) (o : Option Value) → i ≡ length t → o ≡ last_before g port t i → o ≡ last_or None (filter_map (arriving g port) t)
value_ends g port t i o e so_far = so_far ∙ ap (λ (s : List Row). last_or None (filter_map (arriving g port) s)) (take_all i t (omega arith))

-- the delays of the chain of a port, and that the shift kept with it leads where they do
pub record ChainOf (program : Parts) (p : ℕ) (port : PortOf) : Type 0 where
  delays : List ℕ
  is_origin : Origin program p port.origin delays
  leads : (h : Tag) → shifted h (port.shift.time, port.shift.steps) ≡ after_all h delays

-- every port of a plan has such a chain
pub chain_of : (plan : PlanParts) → IsSoundPlan plan → (program : Parts) → program ≡ plan.program → (p : ℕ) (port : PortOf) → slice_get program.ports p ≡ Some port → ChainOf plan.program p port
chain_of plan sound program same p port is_port =
    let o = sound.sound.origins p port (ap (λ (z : Parts). slice_get z.ports p) (sym same) ∙ is_port) in
    record { delays = o.0; is_origin = o.1; leads = λ h. ap (λ s. shifted h s) (sym o.2) ∙ shifted_chain h o.0 }

-- a row of t that gives the port something at g from tag h
record RowFrom (t : List Row) (g : Tag) (port : PortOf) (h : Tag) : Type 0 where
  row : Row
  value : Value
  is_row : Mem row t
  is_tag : row.tag ≡ h
  arrives : arriving g port row ≡ Some value

-- the tag from which the rows before place i arrive, if some do: all that do arrive from it
pub record IsTagBefore (t : List Row) (g : Tag) (port : PortOf) (i : ℕ) (first : Option Tag) : Type 0 where
  is_one : (h : Tag) → first ≡ Some h → RowFrom t g port h
  all : (j : ℕ) (row : Row) (v : Value) → j < i → slice_get t j ≡ Some row → arriving g port row ≡ Some v → first ≡ Some row.tag

-- before the first row there is none
pub tag_begins : (t : List Row) (g : Tag) (port : PortOf) → IsTagBefore t g port 0 None
tag_begins t g port = record { is_one = λ h e. absurd (cc); all = λ j row v l e a. absurd (omega arith) }

-- the tag from which rows arrive, over one more row
module _ (t : List Row) (g : Tag) (port : PortOf) (i : ℕ) (row : Row) (is_row : slice_get t i ≡ Some row) where
  -- what holds of the rows before a place and of the row there holds of the rows up to it
  one_more : (first : Option Tag) → ((j : ℕ) (x : Row) (v : Value) → j < i → slice_get t j ≡ Some x → arriving g port x ≡ Some v → first ≡ Some x.tag) → ((v : Value) → arriving g port row ≡ Some v → first ≡ Some row.tag) → (j : ℕ) (x : Row) (v : Value) → j < i + 1 → slice_get t j ≡ Some x → arriving g port x ≡ Some v → first ≡ Some x.tag
  one_more first below here j x v l e a = go (ℕ_discrete j i)
    where
      go : Dec (j ≡ i) → first ≡ Some x.tag
      go (yes q) =
          let z : Some row ≡ Some x = sym is_row ∙ ap (λ k. slice_get t k) (sym q) ∙ e in
          let same : x ≡ row = cc in
          here v (ap (arriving g port) (sym same) ∙ a) ∙ ap (λ (y : Row). Some y.tag) (sym same)
      go (no n) = below j x v (omega arith) e a

  -- a row that doesn't arrive
  pub tag_without : (first : Option Tag) → IsTagBefore t g port i first → is_some (arriving g port row) ≡ false → IsTagBefore t g port (i + 1) first
  tag_without first so_far none = record { is_one = so_far.is_one; all = one_more first so_far.all (λ v e. let z : true ≡ false = ap is_some (sym e) ∙ none in absurd (cc)) }

  -- a row that arrives from the tag
  pub tag_again : IsTagBefore t g port i (Some row.tag) → IsTagBefore t g port (i + 1) (Some row.tag)
  tag_again so_far = record { is_one = so_far.is_one; all = one_more (Some row.tag) so_far.all (λ v e. refl) }

  -- a row that arrives does so from its own tag
  from_row : is_some (arriving g port row) ≡ true → RowFrom t g port row.tag
  from_row some = let a = value_of (arriving g port row) some in record { row = row; value = a.0; is_row = mem_get t i row is_row; is_tag = refl; arrives = a.1 }

  -- the first row that arrives
  pub tag_found : IsTagBefore t g port i None → is_some (arriving g port row) ≡ true → IsTagBefore t g port (i + 1) (Some row.tag)
  tag_found so_far some = record { is_one = found; all = one_more (Some row.tag) (λ j x v l e a. let n : None ≡ Some x.tag = so_far.all j x v l e a in absurd (cc)) (λ v e. refl) }
    where
      found : (h : Tag) → Some row.tag ≡ Some h → RowFrom t g port h
      found h e = let same : row.tag ≡ h = cc in subst (λ (k : Tag). RowFrom t g port k) same (from_row some)

-- rows that arrive and events of the port
module _ (plan : PlanParts) (t : List Row) (g : Tag) (p : ℕ) (port : PortOf) (chain : ChainOf plan.program p port) where
  -- a row that arrives writes the origin at its tag, and the delays lead to g
  written_there : (row : Row) (v : Value) → arriving g port row ≡ Some v → (after_all row.tag chain.delays ≡ g) × (written row.tag port.origin row ≡ Some v)
  written_there row v e =
      let q = arriving_parts g port row v e in
      (sym (chain.leads row.tag) ∙ q.0, by_written row.tag port.origin row v refl q.1)

  -- a row that writes the origin at a tag from which the delays lead to g arrives
  arrives_there : (h : Tag) (row : Row) (v : Value) → after_all h chain.delays ≡ g → written h port.origin row ≡ Some v → (row.tag ≡ h) × (arriving g port row ≡ Some v)
  arrives_there h row v leads e =
      let q = written_by h port.origin row v e in
      let to : shifted row.tag (port.shift.time, port.shift.steps) ≡ g = chain.leads row.tag ∙ ap (λ (k : Tag). after_all k chain.delays) q.0 ∙ leads in
      let same : same_tag g (shifted row.tag (port.shift.time, port.shift.steps)) ≡ true = same_tag_refl g (shifted row.tag (port.shift.time, port.shift.steps)) (sym to) in
      (q.0, rw same q.1)

  -- an event of the port comes from a row that arrives
  row_from : (h : Tag) (v : Value) → IsWrittenFrom plan t g p h v → RowFrom t g port h
  row_from h v w =
      let same = origin_unique w.is_origin chain.is_origin in
      let last : last_or None (filter_map (written h port.origin) t) ≡ Some v = subst (λ (o : ℕ). last_or None (filter_map (written h o) t) ≡ Some v) same.0 w.is_last in
      let m = mem_from_filter (written h port.origin) t v (last_mem (filter_map (written h port.origin) t) v last) in
      let a = arrives_there h m.0 v (ap (λ ds. after_all h ds) (sym same.1) ∙ w.arrives) m.2 in
      record { row = m.0; value = v; is_row = m.1; is_tag = a.0; arrives = a.1 }

  -- a row that arrives makes an event of the port, by the last write at its tag
  event_from : (h : Tag) → RowFrom t g port h → (v : Value) × IsWrittenFrom plan t g p h v
  event_from h r =
      let q = written_there r.row r.value r.arrives in
      let w : written h port.origin r.row ≡ Some r.value = subst (λ (k : Tag). written k port.origin r.row ≡ Some r.value) r.is_tag q.1 in
      let l = last_of_mem r.value (filter_map (written h port.origin) t) (mem_filter (written h port.origin) r.row r.value t r.is_row w) in
      let leads : after_all h chain.delays ≡ g = ap (λ (k : Tag). after_all k chain.delays) (sym r.is_tag) ∙ q.0 in
      (l.0, record { origin = port.origin; delays = chain.delays; is_origin = chain.is_origin; arrives = leads; is_last = l.1 })

  -- the last row that arrives is the last write of the origin at its tag
  last_arriving : (v : Value) → LastAt (arriving g port) t v → (h : Tag) × IsWrittenFrom plan t g p h v
  last_arriving v r = (h, record { origin = port.origin; delays = chain.delays; is_origin = chain.is_origin; arrives = q.0; is_last = last_by_place (written h port.origin) t v (record { place = r.place; item = r.item; is_item = r.is_item; gives = q.1; none_after = none_after }) })
    where
      h : Tag
      h = r.item.tag

      q : (after_all h chain.delays ≡ g) × (written h port.origin r.item ≡ Some v)
      q = written_there r.item v r.gives

      none_after : (j : ℕ) (y : Row) → r.place < j → slice_get t j ≡ Some y → written h port.origin y ≡ None
      none_after j y l e = go (written h port.origin y) refl
        where
          go : (o : Option Value) → written h port.origin y ≡ o → written h port.origin y ≡ None
          go None z = z
          go (Some w) z = let n : None ≡ Some w = sym (r.none_after j y l e) ∙ (arrives_there h y w q.0 z).1 in absurd (cc)

  -- the last value that arrives is that of an event of the port
  pub event_is : (i : ℕ) (o : Option Value) → i ≡ length t → o ≡ last_before g port t i → IfSome o (λ v. At plan t g (Port p) v)
  event_is i None e so_far = tt
  event_is i (Some v) e so_far = last_arriving v (last_at (arriving g port) t v (sym (value_ends g port t i (Some v) e so_far)))

  -- without a value that arrives the port is absent
  pub is_absent : (i : ℕ) (o : Option Value) → i ≡ length t → o ≡ last_before g port t i → IfNone o (IsPresent plan t g (Port p) → ⊥)
  is_absent i (Some v) e so_far = tt
  is_absent i None e so_far = λ q.
      let r = row_from q.1.0 q.0 q.1.1 in
      let l = last_of_mem r.value (filter_map (arriving g port) t) (mem_filter (arriving g port) r.row r.value t r.is_row r.arrives) in
      let n : None ≡ Some l.0 = value_ends g port t i None e so_far ∙ l.1 in
      absurd (cc)

  -- a row that arrives from another tag
  pub tag_clashes : (i : ℕ) (row : Row) → slice_get t i ≡ Some row → (h : Tag) → IsTagBefore t g port i (Some h) → is_some (arriving g port row) ≡ true → ¬ (h ≡ row.tag) → PortClash plan t g p
  tag_clashes i row is_row h so_far some n =
      let x = event_from h (so_far.is_one h refl) in
      let y = event_from row.tag (from_row t g port i row is_row some) in
      record { first = h; second = row.tag; first_value = x.0; second_value = y.0; is_first = x.1; is_second = y.1; differ = n }

  -- all rows arrive from one tag
  pub tag_ends : (i : ℕ) (first : Option Tag) → i ≡ length t → IsTagBefore t g port i first → ¬ PortClash plan t g p
  tag_ends i first e so_far c = c.differ (let q : Some c.first ≡ Some c.second = sym (is_that c.first (row_from c.first c.first_value c.is_first)) ∙ is_that c.second (row_from c.second c.second_value c.is_second) in cc)
    where
      is_that : (h : Tag) → RowFrom t g port h → first ≡ Some h
      is_that h r =
          let k = get_mem r.row t r.is_row in
          let l : k.0 < length t = slice_get_within t k.0 r.row k.1 in
          let m : k.0 < i = omega arith in
          so_far.all k.0 r.row r.value m k.1 r.arrives ∙ ap Some r.is_tag

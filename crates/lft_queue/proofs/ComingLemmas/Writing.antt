-- The last writes of ports, over the rows of a tag.
use Rattle.std.proofs.Common.{◌≡◌, ◌≢◌, ℕ, ◌<◌, ◌⊎◌, inl, inr, Bool, true, false, ◌==◌, cond, eqb-true, eq-eqb, List, [], ◌∷◌, ◌++◌, length, refl, sym, ap, ◌∙◌, subst, Option, Some, None, slice_get, slice_set, filter_map}
use Rattle.std.{specs.List.last_or, proofs.lemmas.List.Elements.filter_map-append}
use Rattle.lft_tag.specs.{declared.Tag.Tag, Tags.{Before, UpTo, same_tag}}
use Rattle.lft_tag.proofs.Order.{Before-irrefl, Before-weaken, Before-UpTo, UpTo-refl, same_tag_refl, same_tag_true}
use Rattle.lft_lists.proofs.{Members.{last-append_nil, last-append_some}, Places.{get_write_cases, length_written}}
use Rattle.lft_ir.specs.{Parts.Parts, declared.{parts.{Value.Value, Name.TheVariants.Port}, steps.row.{Row.Row, Step.{Step, TheVariants.Write}}}}
use Rattle.lft_model.{specs.Presence.{value_written, written}, proofs.Ended.by_written}
use Rattle.lft_queue.specs.{declared.coming.writes.Written.Written, inner.Coming.Writes.{value_at_tag, AreWrites, AreEarlierWrites}}

-- what is of earlier tags than one is so of a later one, and says nothing of its rows
pub earlier_on : (program : Parts) (g h : Tag) (writes : List (Option Written)) → UpTo g h → AreEarlierWrites program g writes → AreEarlierWrites program h writes
earlier_on program g h writes up are = record { as_long = are.as_long; each = λ p w e. Before-UpTo w.tag g h (are.each p w e) up }

pub none_yet : (program : Parts) (g : Tag) (writes : List (Option Written)) → AreEarlierWrites program g writes → AreWrites program [] g writes
none_yet program g writes are = record { as_long = are.as_long; up_to = λ p w e. Before-weaken w.tag g (are.each p w e); each = each }
  where
    each : (p : ℕ) (w : Option Written) → slice_get writes p ≡ Some w → value_at_tag g w ≡ None
    each p None e = refl
    each p (Some w) e = go (same_tag g w.tag) refl
      where
        go : (b : Bool) → same_tag g w.tag ≡ b → cond b (Some w.value) None ≡ None
        go false f = refl
        go true f = absurd (Before-irrefl g (subst (λ (k : Tag). Before k g) (sym (same_tag_true g w.tag f)) (are.each p w e)))

module _ {X Y : Type 0} (f : X → Option Y) (xs : List X) (x : X) where
  -- a last item that gives something, and one that gives nothing
  last_given : (y : Y) → f x ≡ Some y → last_or None (filter_map f (xs ++ x ∷ [])) ≡ Some y
  last_given y e = ap (λ zs. last_or None zs) (filter_map-append f xs (x ∷ [])) ∙ last-append_some None (filter_map f xs) (filter_map f (x ∷ [])) y (let a : filter_map f (x ∷ []) ≡ y ∷ [] = rw e refl in rw a refl)

  last_ungiven : f x ≡ None → last_or None (filter_map f (xs ++ x ∷ [])) ≡ last_or None (filter_map f xs)
  last_ungiven e = ap (λ zs. last_or None zs) (filter_map-append f xs (x ∷ [])) ∙ last-append_nil None (filter_map f xs) (filter_map f (x ∷ [])) (rw e refl)

-- a row that doesn't write a port
unwritten : (g : Tag) (p : ℕ) (row : Row) → value_written p row.step ≡ None → written g p row ≡ None
unwritten g p row e = go (same_tag g row.tag) (value_written p row.step) e
  where
    go : (b : Bool) (o : Option Value) → o ≡ None → cond b o None ≡ None
    go true o q = q
    go false o q = refl

-- a row that writes no port leaves the last writes, and one that writes a port is its last
pub writes_stay : (program : Parts) (t : List Row) (row : Row) (writes : List (Option Written)) → ((p : ℕ) → value_written p row.step ≡ None) → AreWrites program t row.tag writes → AreWrites program (t ++ row ∷ []) row.tag writes
writes_stay program t row writes none are = record { as_long = are.as_long; up_to = are.up_to; each = λ p w e. are.each p w e ∙ sym (last_ungiven (written row.tag p) t row (unwritten row.tag p row (none p))) }

other_port : (p q : ℕ) (v : Value) → p ≢ q → value_written p (Write (Port q) v) ≡ None
other_port p q v n = go (p == q) refl
  where
    go : (b : Bool) → (p == q) ≡ b → cond b (Some v) None ≡ None
    go true e = absurd (n (eqb-true p q e))
    go false e = refl

module _ (program : Parts) (t : List Row) (row : Row) (writes : List (Option Written)) (q : ℕ) (v : Value) (within : q < length writes) (step : row.step ≡ Write (Port q) v) (are : AreWrites program t row.tag writes) where
  abbrev newest : Written
  newest = record { tag = row.tag; value = v }

  own : value_written q row.step ≡ Some v
  own = ap (λ (s : Step). value_written q s) step ∙ ap (λ b. cond b (Some v) None) (eq-eqb q q refl)

  up_to : (p : ℕ) (w : Written) → slice_get (slice_set writes q (Some newest)) p ≡ Some (Some w) → UpTo w.tag row.tag
  up_to p w f = go (get_write_cases writes q p (Some newest) (Some w) within f)
    where
      go : ((p ≡ q) × (Some newest ≡ Some w)) ⊎ ((p ≢ q) × (slice_get writes p ≡ Some (Some w))) → UpTo w.tag row.tag
      go (inl (s, h)) = let e : newest ≡ w = cc in subst (λ (x : Written). UpTo x.tag row.tag) e (UpTo-refl row.tag)
      go (inr (n, h)) = are.up_to p w h

  each : (p : ℕ) (w : Option Written) → slice_get (slice_set writes q (Some newest)) p ≡ Some w → value_at_tag row.tag w ≡ last_or None (filter_map (written row.tag p) (t ++ row ∷ []))
  each p w f = go (get_write_cases writes q p (Some newest) w within f)
    where
      here : value_at_tag row.tag (Some newest) ≡ Some v
      here = ap (λ b. cond b (Some v) None) (same_tag_refl row.tag row.tag refl)

      go : ((p ≡ q) × (Some newest ≡ w)) ⊎ ((p ≢ q) × (slice_get writes p ≡ Some w)) → value_at_tag row.tag w ≡ last_or None (filter_map (written row.tag p) (t ++ row ∷ []))
      go (inl (s, h)) = ap (value_at_tag row.tag) (sym h) ∙ here ∙ sym (subst (λ (k : ℕ). last_or None (filter_map (written row.tag k) (t ++ row ∷ [])) ≡ Some v) (sym s) (last_given (written row.tag q) t row v (by_written row.tag q row v refl own)))
      go (inr (n, h)) = are.each p w h ∙ sym (last_ungiven (written row.tag p) t row (unwritten row.tag p row (ap (λ (s : Step). value_written p s) step ∙ other_port p q v n)))

  pub writes_set : AreWrites program (t ++ row ∷ []) row.tag (slice_set writes q (Some (record { tag = row.tag; value = v })))
  writes_set = record { as_long = length_written writes q (Some newest) ∙ are.as_long; up_to = up_to; each = each }

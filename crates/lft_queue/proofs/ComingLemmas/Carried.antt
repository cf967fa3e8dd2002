-- What a write carries to the ports behind delays.
use Rattle.std.proofs.Common.{◌≡◌, ℕ, ◌+◌, List, [], ◌∷◌, ◌++◌, take, refl, sym, ap, ◌∙◌, Option, Some, None, Bool, true, false, cond, ◌&&◌, slice_get, filter_map, option_map, unwrap_or, append_assoc}
use Rattle.std.{specs.List.cons_option, proofs.lemmas.List.append-nil}
use Rattle.lft_tag.specs.{declared.Tag.Tag, Shifts.shifted}
use Rattle.lft_lists.proofs.Picked.{kept_more}
use Rattle.lft_ir.specs.{Parts.Parts, declared.parts.{Port.Port as PortOf, Value.Value, Name.{Name, TheVariants.Port}}}
use Rattle.lft_queue.specs.{Pending.same_key, inner.Coming.{Coming.put_at, Channels.{is_behind, arrives_at, value_at_arrival}}}

module _ (program : Parts) (o : ℕ) (g : Tag) (v : Value) (targets : List ℕ) (i p : ℕ) (is : slice_get targets i ≡ Some p) (h : Tag) (n : Name) (old mid new : List Value) (so_far : mid ≡ old ++ filter_map (value_at_arrival program o g v h n) (take i targets)) where
  -- the values so far with that of one more port
  more : (e : List Value) → new ≡ mid ++ e → cons_option (value_at_arrival program o g v h n p) [] ≡ e → new ≡ old ++ filter_map (value_at_arrival program o g v h n) (take (i + 1) targets)
  more e step same = step ∙ ap (λ (vs : List Value). vs ++ e) so_far ∙ append_assoc old (filter_map (value_at_arrival program o g v h n) (take i targets)) e ∙ ap (λ (vs : List Value). old ++ vs) (ap (λ (vs : List Value). filter_map (value_at_arrival program o g v h n) (take i targets) ++ vs) (sym same) ∙ sym (kept_more (value_at_arrival program o g v h n) targets i p (value_at_arrival program o g v h n p) is refl))

  pub carried_on : (x : PortOf) → slice_get program.ports p ≡ Some x → is_behind program o p ≡ true → new ≡ mid ++ put_at (shifted g (x.shift.time, x.shift.steps)) (Port p) v h n → new ≡ old ++ filter_map (value_at_arrival program o g v h n) (take (i + 1) targets)
  carried_on x at behind put = more (put_at (shifted g (x.shift.time, x.shift.steps)) (Port p) v h n) put (ap (λ (b : Bool). cons_option (cond (b && same_key (arrives_at program g p) (Port p) h n) (Some v) None) []) behind ∙ ap (λ (k : Tag). cons_option (cond (same_key k (Port p) h n) (Some v) None) []) there ∙ either (same_key (shifted g (x.shift.time, x.shift.steps)) (Port p) h n))
    where
      there : arrives_at program g p ≡ shifted g (x.shift.time, x.shift.steps)
      there = ap (λ (e : Option PortOf). unwrap_or (option_map (λ (y : PortOf). shifted g (y.shift.time, y.shift.steps)) e) g) at

      either : (b : Bool) → cons_option (cond b (Some v) None) [] ≡ cond b (v ∷ []) []
      either true = refl
      either false = refl

  pub passed_by : is_behind program o p ≡ false → new ≡ mid → new ≡ old ++ filter_map (value_at_arrival program o g v h n) (take (i + 1) targets)
  passed_by apart same = more [] (same ∙ sym (append-nil mid)) (ap (λ (b : Bool). cons_option (cond (b && same_key (arrives_at program g p) (Port p) h n) (Some v) None) []) apart)

-- What steps read last, one step after another.
use Rattle.std.proofs.Common.{◌≡◌, ℕ, ◌+◌, List, take, refl, sym, ap, ◌∙◌, Some, None, Bool, true, false, cond, slice_get}
use Rattle.lft_ir.specs.{declared.{parts.{Name.Name, Value.Value}, steps.row.Step.Step}, Naming.same_name}
use Rattle.lft_model.specs.Runs.{value_read, read_of}
use Rattle.lft_rows.specs.{inner.Answers.Readings.{last_of, read_as, AreReadBy, IsPut}, declared.answers.readings.Readings.Readings}
use Rattle.lft_rows.proofs.AnswersLemmas.Stepping.{last_stays, last_changes}

-- one step more, which reads or doesn't
module _ (steps : List Step) (i : ℕ) (s : Step) (here : slice_get steps i ≡ Some s) where
  pub read_none : (readings : Readings) → ((n : Name) → value_read n s ≡ read_as n None) → AreReadBy (take i steps) readings → AreReadBy (take (i + 1) steps) readings
  read_none readings is_none so_far n = last_stays (value_read n) steps i s (last_of readings n) None here (sym (is_none n)) refl (so_far n)

  pub read_put : (name : Name) (v : Value) (old new : Readings) → ((n : Name) → value_read n s ≡ read_as n (Some (name, v))) → IsPut name v old new → AreReadBy (take i steps) old → AreReadBy (take (i + 1) steps) new
  read_put name v old new is_read put so_far n = go (same_name n name) refl
    where
      go : (b : Bool) → same_name n name ≡ b → last_of new n ≡ read_of (take (i + 1) steps) n
      go true e = put n ∙ ap (λ (c : Bool). cond c (Some v) (last_of old n)) e ∙ last_changes (value_read n) steps i s (Some v) here (sym (is_read n ∙ ap (λ (c : Bool). cond c (Some v) None) e)) refl
      go false e = put n ∙ ap (λ (c : Bool). cond c (Some v) (last_of old n)) e ∙ last_stays (value_read n) steps i s (last_of old n) None here (sym (is_read n ∙ ap (λ (c : Bool). cond c (Some v) None) e)) refl (so_far n)

-- Which port of a reaction is fed at once.
use Rattle.std.proofs.Common.{◌≡◌, ℕ, ◌<◌, ◌⊎◌, inl, inr, List, length, sym, ap, ◌∙◌, subst, Option, Some, None, IfSome, slice_get, Contains, filter_map}
use Rattle.std.proofs.lemmas.List.Elements.{Contains-append_left, Contains-append_right, Contains-append_cases}
use Rattle.lft_lists.proofs.Places.{contains_at, at_contains}
use Rattle.lft_model.proofs.Places.{slice_get_within}
use Rattle.lft_ir.specs.{Parts.{Parts, inputs}, Naming.named, Sound.{IsSound, IsNameOf, IsTriggerOf as IsKnown}}
use Rattle.lft_ir.specs.declared.parts.{Reaction.Reaction, Name.{Name, TheVariants.Port}, Trigger.{Trigger, TheVariants.On}}
use Rattle.lft_graph.{specs.Precedence.Feeds, proofs.Feeding.{from_trigger, to_trigger}}
use Rattle.lft_facts.{specs.{Facts.FeedsBy, inner.Ways.IsFedUndelayed}, proofs.Giving.same_reaction}
use Rattle.lft_races.specs.Hints.Hints.{HasTrigger}

-- a reaction that may write and one that may read
module _ (program : Parts) (sound : IsSound program) (a b : ℕ) (writer reader : Reaction) (is_writer : slice_get program.reactions a ≡ Some writer) (is_reader : slice_get program.reactions b ≡ Some reader) (effects : List Name) (are_effects : effects ≡ writer.effects) where
  -- what was found of an input
  pub fed_by : (name : Name) → Contains (inputs reader) name → (o : Option ℕ) → IfSome o (λ p. (name ≡ Port p) × IsFedUndelayed program effects name) → IfSome o (λ p. FeedsBy program a b p)
  fed_by name m None f = f
  fed_by name m (Some p) f =
      let fed : IsFedUndelayed program effects (Port p) = subst (λ (n : Name). IsFedUndelayed program effects n) f.0 f.1 in
      record { writer = writer; reader = reader; is_writer = is_writer; is_reader = is_reader; origin = fed.0; is_effect = subst (λ (ns : List Name). Contains ns (Port fed.0)) are_effects fed.2; is_input = subst (λ (n : Name). Contains (inputs reader) n) f.0 m; undelayed = fed.1 }

  -- an input among the triggers
  pub trigger_input : (triggers : List Trigger) → triggers ≡ reader.triggers → (k : ℕ) (x : Trigger) (n : Name) → slice_get triggers k ≡ Some x → x ≡ On n → Contains (inputs reader) n
  trigger_input triggers are k x n e q = Contains-append_left (filter_map named reader.triggers) reader.uses n (from_trigger reader.triggers n (contains_at reader.triggers k (On n) (ap (λ (xs : List Trigger). slice_get xs k) (sym are) ∙ e ∙ ap Some q)))

  pub trigger_known : (triggers : List Trigger) → triggers ≡ reader.triggers → (k : ℕ) (x : Trigger) (n : Name) → slice_get triggers k ≡ Some x → x ≡ On n → IsNameOf program n
  trigger_known triggers are k x n e q = (sound.exist b reader is_reader).triggers (On n) (contains_at reader.triggers k (On n) (ap (λ (xs : List Trigger). slice_get xs k) (sym are) ∙ e ∙ ap Some q))

  -- an input among the uses
  pub use_input : (uses : List Name) → uses ≡ reader.uses → (k : ℕ) (n : Name) → slice_get uses k ≡ Some n → Contains (inputs reader) n
  use_input uses are k n e = Contains-append_right (filter_map named reader.triggers) reader.uses n (contains_at reader.uses k n (ap (λ (xs : List Name). slice_get xs k) (sym are) ∙ e))

  pub use_known : (uses : List Name) → uses ≡ reader.uses → (k : ℕ) (n : Name) → slice_get uses k ≡ Some n → IsNameOf program n
  use_known uses are k n e = (sound.exist b reader is_reader).uses n (contains_at reader.uses k n (ap (λ (xs : List Name). slice_get xs k) (sym are) ∙ e))

  -- no input is fed by the writer
  pub not_fed : (triggers : List Trigger) → triggers ≡ reader.triggers → ((k : ℕ) (n : Name) → k < length triggers → slice_get triggers k ≡ Some (On n) → ¬ IsFedUndelayed program effects n) → (uses : List Name) → uses ≡ reader.uses → ((k : ℕ) (n : Name) → k < length uses → slice_get uses k ≡ Some n → ¬ IsFedUndelayed program effects n) → ¬ Feeds program a b
  not_fed triggers are none uses are_uses none_used f = go (Contains-append_cases (filter_map named reader.triggers) reader.uses (Port f.port) input)
    where
      input : Contains (inputs reader) (Port f.port)
      input = subst (λ (x : Reaction). Contains (inputs x) (Port f.port)) (same_reaction program.reactions b f.reader reader f.is_reader is_reader) f.is_input

      effect : Contains effects (Port f.origin)
      effect = subst (λ (ns : List Name). Contains ns (Port f.origin)) (ap (λ (x : Reaction). x.effects) (same_reaction program.reactions a f.writer writer f.is_writer is_writer) ∙ sym are_effects) f.is_effect

      go : Contains (filter_map named reader.triggers) (Port f.port) ⊎ Contains reader.uses (Port f.port) → ⊥
      go (inl m) =
          let k = to_trigger reader.triggers (Port f.port) m in
          let e : slice_get triggers k.0 ≡ Some (On (Port f.port)) = ap (λ (xs : List Trigger). slice_get xs k.0) are ∙ k.1 in
          none k.0 (Port f.port) (slice_get_within triggers k.0 (On (Port f.port)) e) e (f.origin, f.undelayed, effect)
      go (inr m) =
          let k = at_contains reader.uses (Port f.port) m in
          let e : slice_get uses k.0 ≡ Some (Port f.port) = ap (λ (xs : List Name). slice_get xs k.0) are_uses ∙ k.1 in
          none_used k.0 (Port f.port) (slice_get_within uses k.0 (Port f.port) e) e (f.origin, f.undelayed, effect)

-- a trigger of a reaction of a program that is the plan's
module _ (own program : Parts) (same : program ≡ own) (sound : IsSound program) (r : ℕ) (x : Reaction) (is_reaction : slice_get program.reactions r ≡ Some x) (xs : List Trigger) (are : xs ≡ x.triggers) where
  own_reaction : slice_get own.reactions r ≡ Some x
  own_reaction = subst (λ (z : Parts). slice_get z.reactions r ≡ Some x) same is_reaction

  its : (k : ℕ) (y : Trigger) → slice_get xs k ≡ Some y → slice_get x.triggers k ≡ Some y
  its k y e = ap (λ (ys : List Trigger). slice_get ys k) (sym are) ∙ e

  pub any_trigger_known : (k : ℕ) (y : Trigger) → slice_get xs k ≡ Some y → IsKnown own y
  any_trigger_known k y e = subst (λ (z : Parts). IsKnown z y) same ((sound.exist r x is_reaction).triggers y (contains_at x.triggers k y (its k y e)))

  pub is_trigger_of : (k : ℕ) (y : Trigger) → slice_get xs k ≡ Some y → HasTrigger own r y
  is_trigger_of k y e = record { reaction = x; is_reaction = own_reaction; is_trigger = contains_at x.triggers k y (its k y e) }

  pub triggered_at : (z : Reaction) → slice_get own.reactions r ≡ Some z → (y : Trigger) → Contains z.triggers y → (k : ℕ) × (k < length xs) × (slice_get xs k ≡ Some y)
  triggered_at z e y m =
      let k = at_contains z.triggers y m in
      let q : z ≡ x = same_reaction own.reactions r z x e own_reaction in
      let f : slice_get xs k.0 ≡ Some y = ap (λ (ys : List Trigger). slice_get ys k.0) (are ∙ ap (λ (v : Reaction). v.triggers) (sym q)) ∙ k.1 in
      (k.0, slice_get_within xs k.0 y f, f)

-- What a reaction reads, made one input after another.
use Rattle.std.proofs.Common.{◌≡◌, ℕ, ◌+◌, List, [], ◌∷◌, ◌++◌, length, take, take_all, filter_map, append_assoc, append-nil, add-one, refl, sym, ap, ◌∙◌, subst, Option, Some, None, IfSome, IfNone, ◌≤◌, slice_get}
use Rattle.std.{specs.List.AllZip, proofs.lemmas.Slice.Zip.all_zipped_more}
use Rattle.lft_tag.specs.declared.Tag.{Tag}
use Rattle.lft_ir.proofs.Naming.{named_none}
use Rattle.lft_ir.specs.{Parts.Parts, Naming.named}
use Rattle.lft_ir.specs.declared.{parts.{Reaction.Reaction, Value.Value, Name.Name, Trigger.{Trigger, TheVariants.On}}, steps.row.Row.Row}
use Rattle.lft_model.specs.{Plans.PlanParts, Presence.{At, IsPresent, Shows, Inputs}}
use Rattle.lft_lists.proofs.Picked.{kept_more, take_next}

-- one more element of a list
taken : {X : Type 0} (xs : List X) (i : ℕ) (x : X) → slice_get xs i ≡ Some x → take (i + 1) xs ≡ take i xs ++ x ∷ []
taken xs i x e = ap (λ n. take n xs) (add-one i) ∙ take_next xs i x e

module _ (plan : PlanParts) (t : List Row) (g : Tag) where
  -- a value that was found of a name, or that none was, is what the name shows
  pub found_shown : (n : Name) (o : Option Value) → IfSome o (λ v. At plan t g n v) → IfNone o (¬ IsPresent plan t g n) → Shows plan t g n o
  found_shown n None some none = none
  found_shown n (Some v) some none = some

  -- a trigger that names a port or an action
  pub read_trigger : (xs : List Trigger) (i : ℕ) (n : Name) (os : List (Option Value)) (o : Option Value) → slice_get xs i ≡ Some (On n) → Shows plan t g n o → AllZip (Shows plan t g) (filter_map named (take i xs)) os → AllZip (Shows plan t g) (filter_map named (take (i + 1) xs)) (os ++ o ∷ [])
  read_trigger xs i n os o e s h = subst (λ (ns : List Name). AllZip (Shows plan t g) ns (os ++ o ∷ [])) (sym (kept_more named xs i (On n) (Some n) e refl)) (all_zipped_more (Shows plan t g) (filter_map named (take i xs)) os n o h s)

  -- a trigger that names none
  pub read_nothing : (xs : List Trigger) (i : ℕ) (x : Trigger) (os : List (Option Value)) → slice_get xs i ≡ Some x → ((n : Name) → ¬ (x ≡ On n)) → AllZip (Shows plan t g) (filter_map named (take i xs)) os → AllZip (Shows plan t g) (filter_map named (take (i + 1) xs)) os
  read_nothing xs i x os e other h = subst (λ (ns : List Name). AllZip (Shows plan t g) ns os) (sym (kept_more named xs i x None e (sym (named_none x other)) ∙ append-nil (filter_map named (take i xs)))) h

  -- a use
  pub read_use : (front ns : List Name) (i : ℕ) (n : Name) (os : List (Option Value)) (o : Option Value) → slice_get ns i ≡ Some n → Shows plan t g n o → AllZip (Shows plan t g) (front ++ take i ns) os → AllZip (Shows plan t g) (front ++ take (i + 1) ns) (os ++ o ∷ [])
  read_use front ns i n os o e s h = subst (λ (ms : List Name). AllZip (Shows plan t g) ms (os ++ o ∷ [])) (append_assoc front (take i ns) (n ∷ []) ∙ ap (λ ms. front ++ ms) (sym (taken ns i n e))) (all_zipped_more (Shows plan t g) (front ++ take i ns) os n o h s)

-- the reads of a reaction, of a program that is the plan's and by rows that are those of the trace
module _ (plan : PlanParts) (s t : List Row) (same : s ≡ t) (g : Tag) (r : ℕ) (program : Parts) (is_program : program ≡ plan.program) (x : Reaction) (is_reaction : slice_get program.reactions r ≡ Some x) (ns : List Name) (are : ns ≡ x.uses) where
  -- after all triggers and uses they are the inputs
  pub all_read : (i : ℕ) (os : List (Option Value)) → length ns ≤ i → ((y : Reaction) → slice_get plan.program.reactions r ≡ Some y → AllZip (Shows plan s g) (filter_map named y.triggers ++ take i ns) os) → Inputs plan t g r os
  all_read i os l h = subst (λ z. Inputs plan z g r os) same (record { reaction = x; is_reaction = own; each = subst (λ (ms : List Name). AllZip (Shows plan s g) (filter_map named x.triggers ++ ms) os) (take_all i ns l ∙ are) (h x own) })
    where
      own : slice_get plan.program.reactions r ≡ Some x
      own = subst (λ (z : Parts). slice_get z.reactions r ≡ Some x) is_program is_reaction

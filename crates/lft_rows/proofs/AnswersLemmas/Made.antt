-- What is made of names, one after another, and of which run it is.
use Rattle.std.proofs.Common.{◌≡◌, ℕ, List, [], ◌∷◌, ◌++◌, map, sym, ap, ◌∙◌, subst, Option, Some, slice_get, unwrap_or, option_map}
use Rattle.std.proofs.lemmas.List.{map-append}
use Rattle.lft_tag.specs.declared.Tag.{Tag}
use Rattle.lft_ir.specs.{Parts.{Parts, inputs}, declared.{parts.{Name.Name, Reaction.Reaction}, steps.row.{Row.Row, Step.Step}}}
use Rattle.lft_model.specs.{Plans.PlanParts, Runs.{steps_of, reads_at, answer_at}}
use Rattle.lft_rows.specs.inner.Answers.Answers.{reads_of, answer_of}

-- what is made of a list with one element more
pub made_more : {X Y : Type 0} (f : X → Y) (xs more : List X) (x : X) (ys : List Y) (y : Y) → more ≡ xs ++ x ∷ [] → y ≡ f x → ys ≡ map f xs → ys ++ y ∷ [] ≡ map f more
made_more f xs more x ys y e q so_far = ap (λ zs. zs ++ y ∷ []) so_far ∙ ap (λ z. map f xs ++ z ∷ []) q ∙ sym (ap (λ zs. map f zs) e ∙ map-append f xs (x ∷ []))

-- what the steps of a reaction's run read and answered, the run read and answered
module _ (plan : PlanParts) (t : List Row) (g : Tag) (r : ℕ) (program : Parts) (is_program : program ≡ plan.program) (x : Reaction) (is_reaction : slice_get program.reactions r ≡ Some x) (steps : List Step) (are_steps : steps ≡ steps_of t g r) where
  own : slice_get plan.program.reactions r ≡ Some x
  own = subst (λ (p : Parts). slice_get p.reactions r ≡ Some x) is_program is_reaction

  pub run_reads : reads_of (inputs x) steps ≡ reads_at plan t g r
  run_reads = ap (λ (ss : List Step). reads_of (inputs x) ss) are_steps ∙ ap (λ (ns : List Name). reads_of ns (steps_of t g r)) (sym (ap (λ (o : Option Reaction). unwrap_or (option_map inputs o) []) own))

  pub run_answer : (effects : List Name) → effects ≡ x.effects → answer_of effects steps ≡ answer_at plan t g r
  run_answer effects e = ap (λ (ss : List Step). answer_of effects ss) are_steps ∙ ap (λ (ns : List Name). answer_of ns (steps_of t g r)) (e ∙ sym (ap (λ (o : Option Reaction). unwrap_or (option_map (λ y. y.effects) o) []) own))

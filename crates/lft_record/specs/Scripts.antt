-- Scripts by reaction: what cards add to them, and what they answer.
use Rattle.std.specs.Prelude.{◌≡◌, ℕ, ℤ, List, map, slice_get, option_and_then, option_map, unwrap_or, Option, None, []}
use Rattle.lft_tag.specs.declared.Tag.{Tag}
use Rattle.lft_ir.specs.declared.{parts.Value.{Value, TheVariants.{Bare, Int}}, steps.row.Step.Step}
use Rattle.lft_pool.specs.declared.bodies.done.Done.{Done}
use Rattle.lft_record.specs.{Expressions.expression_value, declared.cards.{card.{CardStep.CardStep, CardValue.CardValue}, Script.Script}}
use Rattle.lft_ir.specs.declared.steps.row.Step.TheVariants as row
use Rattle.lft_record.specs.declared.cards.card.CardStep.TheVariants as step
use Rattle.lft_record.specs.declared.cards.card.CardValue.TheVariants as content

-- a script of a reaction without cards
abbrev pub blank : Script
blank = record { bodies = None; steps = []; state = None }

-- how many bodies a reaction has
abbrev pub bodies_at : List Script → ℕ → ℕ
bodies_at scripts r = unwrap_or (option_and_then (λ script. script.bodies) (slice_get scripts r)) 0

-- what is written or scheduled in a run at a tag, with the state word before it and what it reads
abbrev pub content_value : Tag → ℤ → List (Option Value) → CardValue → Value
content_value g word reads content.Bare = Bare
content_value g word reads (content.Int terms) = Int (expression_value g word reads terms)

-- a step in such a run, with its value
abbrev pub step_done : Tag → ℤ → List (Option Value) → CardStep → Step
step_done g word reads (step.Write n v) = row.Write n (content_value g word reads v)
step_done g word reads (step.Schedule n v d) = row.Schedule n (content_value g word reads v) d
step_done g word reads step.Stop = row.Stop

-- the word that a body leaves: what its script gives, or the word before
abbrev pub script_word : Script → Tag → ℤ → List (Option Value) → ℤ
script_word script g word reads = unwrap_or (option_map (expression_value g word reads) script.state) word

-- what a body answers: the word that it leaves, and its steps in order (ours)
abbrev pub script_done : Script → Tag → ℤ → List (Option Value) → Done
script_done script g word reads = record {
  state = script_word script g word reads;
  steps = map (step_done g word reads) script.steps;
}

-- what a body of reaction r answers by the cards
abbrev pub card_done : List Script → ℕ → Tag → ℤ → List (Option Value) → Done
card_done scripts r g word reads = script_done (unwrap_or (slice_get scripts r) blank) g word reads

-- the law that an answer is what these scripts say
abbrev pub card_law : List Script → ℕ → Tag → ℤ → List (Option Value) → Done → Type 0
card_law scripts r g word reads done = done ≡ card_done scripts r g word reads

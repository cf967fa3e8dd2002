-- Inside: scripts by reaction: what cards add to them, and what they answer.
use Rattle.std.specs.Prelude.{◌≡◌, ◌≢◌, ◌++◌, ◌∷◌, ℕ, Bool, false, true, not, is_some, List, length, slice_get, Some, []}
use Rattle.lft_ir.specs.declared.steps.row.Step.{Step}
use Rattle.lft_record.specs.declared.cards.{card.{Card.Card, CardEntry.CardEntry}, Script.Script}
use Rattle.lft_record.specs.declared.cards.card.CardEntry.TheVariants as entry

-- whether the script has a number of bodies, or a word, where the entry tells one
abbrev pub is_taken : Script → CardEntry → Bool
is_taken script (entry.Bodies n) = is_some script.bodies
is_taken script (entry.Step s) = false
is_taken script (entry.State terms) = is_some script.state

-- the script with one more entry
abbrev pub with_entry : Script → CardEntry → Script
with_entry script (entry.Bodies n) = record script { bodies = Some n }
with_entry script (entry.Step s) = record script { steps = script.steps ++ (s ∷ []) }
with_entry script (entry.State terms) = record script { state = Some terms }

-- the card is added to the script of its reaction, if that hasn't got what it tells; the others stay
pub record Adds (old new : List Script) (card : Card) (is_new : Bool) : Type 0 where
  pub free : (script : Script) → slice_get old card.reaction ≡ Some script → is_new ≡ not (is_taken script card.entry)
  pub added : (script : Script) → slice_get old card.reaction ≡ Some script → is_new ≡ true → slice_get new card.reaction ≡ Some (with_entry script card.entry)
  pub others : (r : ℕ) → r ≢ card.reaction → slice_get new r ≡ slice_get old r
  pub long : length new ≡ length old

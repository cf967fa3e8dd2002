-- What may be read at the tag at hand, by what is kept.
use Rattle.std.specs.Prelude.{◌≡◌, ◌⊎◌, ℕ, true, List, ◌++◌, Option, Some, None, Contains, slice_get}
use Rattle.lft_tag.specs.declared.Tag.{Tag}
use Rattle.lft_ir.specs.{Sound.IsNameOf, declared.{parts.{Name.Name, Value.Value}, steps.row.{Row.Row, Step.TheVariants.Read}}}
use Rattle.lft_model.specs.{Plans.PlanParts, Presence.Shows}
use Rattle.lft_queue.specs.{Pending.{Pending, value_of}, declared.coming.writes.Written.Written}
use Rattle.lft_queue.specs.{inner.Coming.{AtOnce.{MayHaveEvents, IsAwaited}, Writes.AreWrites}, Coming.AtTag.{AreBefore, AreAt}}
use Rattle.lft_stream.specs.declared.presence.PresentNames.{PresentNames}

-- of the rows u at g behind rows d, the last writes are kept, and the queue has what each name with events that somebody waits for shows at g
pub record AreShown (plan : PlanParts) (d u : List Row) (g : Tag) (writes : List (Option Written)) (queue : List Pending) : Type 0 where
  pub earlier : AreBefore d g
  pub at_tag : AreAt u g
  pub written : AreWrites plan.program u g writes
  pub queued : (n : Name) → MayHaveEvents plan.program n → IsAwaited plan.program n → Shows plan (d ++ u) g n (value_of g n queue)

-- each name that somebody waits for is in the list, or absent at g, the tag of the rows u
abbrev pub AreAllPresent : PlanParts → List Row → Tag → List Pending → List Name → Type 0
AreAllPresent plan u g queue names = (d : List Row) (writes : List (Option Written)) (n : Name) → AreShown plan d u g writes queue → IsNameOf plan.program n → IsAwaited plan.program n → Contains names n ⊎ Shows plan (d ++ u) g n None

-- if it is known which names are present at g, these are all
abbrev pub IsKnown : PlanParts → List Row → Tag → List Pending → PresentNames → Type 0
IsKnown plan u g queue presence = presence.is_known ≡ true → AreAllPresent plan u g queue presence.names.items

-- what the rows at g read is present there
abbrev pub AreReadsShown : PlanParts → List Row → Tag → List Row → Type 0
AreReadsShown plan t g rows = (i : ℕ) (x : Row) (n : Name) (v : Value) → slice_get rows i ≡ Some x → x.tag ≡ g → x.step ≡ Read n v → Shows plan t g n (Some v)

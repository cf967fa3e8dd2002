-- A tag among ascending ones, and the marks of those at which a reaction is triggered.
use Rattle.std.proofs.Common.{◌≡◌, ℕ, ◌<◌, ◌≤◌, List, length, sym, ap, ◌∙◌, subst, Bool, true, Some, slice_get, slice_set}
use native.Mathlib.Decide.{ℕ_discrete}
use Rattle.lft_tag.specs.{declared.Tag.Tag, Tags.{Before, UpTo}}
use Rattle.lft_lists.proofs.Places.{same_at, get_unwritten}
use Rattle.lft_model.specs.Presence.{Triggered}
use Rattle.lft_rows.specs.Presence.Traces.{TraceParts}
use Rattle.lft_check.specs.inner.ByTag.Least.{AreTriggered}

-- the tags before place low are before g, and those from place high on are not
pub record IsSearched (tags : List Tag) (g : Tag) (low high : ℕ) : Type 0 where
  pub order : low ≤ high
  pub within : high ≤ length tags
  pub below : (k : ℕ) (h : Tag) → k < low → slice_get tags k ≡ Some h → Before h g
  pub rest : (k : ℕ) (h : Tag) → high ≤ k → slice_get tags k ≡ Some h → UpTo g h

-- one more mark
pub mark_more : (cut : TraceParts) (r : ℕ) (tags : List Tag) (old new : List Bool) (k : ℕ) (g : Tag) → AreTriggered cut r tags old → new ≡ slice_set old k true → slice_get tags k ≡ Some g → Triggered cut.plan cut.rows g r → AreTriggered cut r tags new
mark_more cut r tags old new k g so_far is e triggered j h p q = go (ℕ_discrete j k)
  where
    go : Dec (j ≡ k) → Triggered cut.plan cut.rows h r
    go (yes x) = subst (λ (z : Tag). Triggered cut.plan cut.rows z r) (same_at tags k j g h e q (sym x)) triggered
    go (no n) = so_far j h (sym (get_unwritten old k j true n) ∙ ap (λ bs. slice_get bs j) (sym is) ∙ p) q

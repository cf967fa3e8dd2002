-- The runs of a reaction that are nearest to a tag.
use Rattle.std.proofs.Common.{◌≡◌, ◌⊎◌, inl, inr, ℕ, ◌+◌, ◌<◌, ◌≤◌, List, length, sym, ap, ◌∙◌, subst, arith, Option, Some, None, slice_get, IfSome, IfNone}
use native.Mathlib.Decide.{ℕ_discrete}
use Rattle.lft_tag.{specs.{declared.Tag.Tag, Tags.{Before, UpTo}}, proofs.Order.{UpTo-not, order_cases, split_up}}
use Rattle.lft_lists.proofs.Places.{Some_same}
use Rattle.lft_ir.specs.declared.steps.row.Row.{Row}
use Rattle.lft_model.{specs.Runs.{start_row, Ran}, proofs.Places.slice_get_within}
use Rattle.lft_races.specs.Runs.{StartsAt}
use Rattle.lft_facts.specs.{Reasons.{IsRunBefore, IsRunAfter}, inner.Neighbours.IsNearestStart}

module _ (Kind : Tag → Type 0) (UpToIt : Tag → Tag → Type 0) (t : List Row) (r i : ℕ) (row : Row) (is : slice_get t i ≡ Some row) where
  pub tag_here : (k : Tag) → StartsAt t k r i → k ≡ row.tag
  tag_here k s = ap (λ (x : Row). x.tag) (Some_same (start_row s.0 k r) row (sym s.1 ∙ is))

  pub start_stays : (o : Option (Tag × ℕ)) → ((k : Tag) → StartsAt t k r i → ¬ Kind k) → IsNearestStart Kind UpToIt t r i o → IsNearestStart Kind UpToIt t r (i + 1) o
  start_stays None none so_far = λ j k l s q. go j k l s q (ℕ_discrete j i)
    where
      go : (j : ℕ) (k : Tag) → j < i + 1 → StartsAt t k r j → Kind k → Dec (j ≡ i) → ⊥
      go j k l s q (yes e) = none k (subst (λ n. StartsAt t k r n) e s) q
      go j k l s q (no d) = so_far j k (omega arith) s q
  start_stays (Some run) none so_far = (so_far.0, so_far.1, λ j k l s q. go j k l s q (ℕ_discrete j i))
    where
      go : (j : ℕ) (k : Tag) → j < i + 1 → StartsAt t k r j → Kind k → Dec (j ≡ i) → UpToIt k run.0
      go j k l s q (yes e) = absurd (none k (subst (λ n. StartsAt t k r n) e s) q)
      go j k l s q (no d) = so_far.2 j k (omega arith) s q

  pub start_kept : (run : Tag × ℕ) → UpToIt row.tag run.0 → IsNearestStart Kind UpToIt t r i (Some run) → IsNearestStart Kind UpToIt t r (i + 1) (Some run)
  start_kept run up so_far = (so_far.0, so_far.1, λ j k l s q. go j k l s q (ℕ_discrete j i))
    where
      go : (j : ℕ) (k : Tag) → j < i + 1 → StartsAt t k r j → Kind k → Dec (j ≡ i) → UpToIt k run.0
      go j k l s q (yes e) = subst (λ (h : Tag). UpToIt h run.0) (sym (tag_here k (subst (λ n. StartsAt t k r n) e s))) up
      go j k l s q (no d) = so_far.2 j k (omega arith) s q

  pub start_first : ((h : Tag) → UpToIt h h) → StartsAt t row.tag r i → Kind row.tag → IsNearestStart Kind UpToIt t r i None → IsNearestStart Kind UpToIt t r (i + 1) (Some (row.tag, i))
  start_first self starts kind so_far = (starts, kind, λ j k l s q. go j k l s q (ℕ_discrete j i))
    where
      go : (j : ℕ) (k : Tag) → j < i + 1 → StartsAt t k r j → Kind k → Dec (j ≡ i) → UpToIt k row.tag
      go j k l s q (yes e) = subst (λ (h : Tag). UpToIt h row.tag) (sym (tag_here k (subst (λ n. StartsAt t k r n) e s))) (self row.tag)
      go j k l s q (no d) = absurd (so_far j k (omega arith) s q)

  pub start_here : ((h : Tag) → UpToIt h h) → ((f g h : Tag) → UpToIt f g → UpToIt g h → UpToIt f h) → StartsAt t row.tag r i → Kind row.tag → (run : Tag × ℕ) → UpToIt run.0 row.tag → IsNearestStart Kind UpToIt t r i (Some run) → IsNearestStart Kind UpToIt t r (i + 1) (Some (row.tag, i))
  start_here self trans starts kind run up so_far = (starts, kind, λ j k l s q. go j k l s q (ℕ_discrete j i))
    where
      go : (j : ℕ) (k : Tag) → j < i + 1 → StartsAt t k r j → Kind k → Dec (j ≡ i) → UpToIt k row.tag
      go j k l s q (yes e) = subst (λ (h : Tag). UpToIt h row.tag) (sym (tag_here k (subst (λ n. StartsAt t k r n) e s))) (self row.tag)
      go j k l s q (no d) = trans k run.0 row.tag (so_far.2 j k (omega arith) s q) up

-- after all rows
module _ (t : List Row) (g : Tag) (r i : ℕ) (all : length t ≤ i) where
  within : (k : Tag) (x : Ran t k r) → x.place < i
  within k x = let l : x.place < length t = slice_get_within t x.place (start_row x.worker k r) x.starts in omega arith

  pub before_some : (o : Option (Tag × ℕ)) → IsNearestStart (λ (k : Tag). Before k g) UpTo t r i o → IfSome o (λ run. IsRunBefore t g r run.0 run.1)
  before_some None h = tt
  before_some (Some run) h = record { starts = h.0; before = h.1; none_between = λ k a b x. UpTo-not k run.0 (h.2 x.place k (within k x) (x.worker, x.starts) b) a }

  pub before_none : (o : Option (Tag × ℕ)) → IsNearestStart (λ (k : Tag). Before k g) UpTo t r i o → IfNone o ((k : Tag) → Before k g → ¬ Ran t k r)
  before_none (Some run) h = tt
  before_none None h = λ k b x. h x.place k (within k x) (x.worker, x.starts) b

  pub after_some : (o : Option (Tag × ℕ)) → IsNearestStart (λ (k : Tag). Before g k) (λ (k h : Tag). UpTo h k) t r i o → IfSome o (λ run. IsRunAfter t g r run.0 run.1)
  after_some None h = tt
  after_some (Some run) h = record { starts = h.0; after = h.1; none_between = λ k a b x. UpTo-not run.0 k (h.2 x.place k (within k x) (x.worker, x.starts) a) b }

  pub after_none : (o : Option (Tag × ℕ)) → IsNearestStart (λ (k : Tag). Before g k) (λ (k h : Tag). UpTo h k) t r i o → IfNone o ((k : Tag) → Before g k → ¬ Ran t k r)
  after_none (Some run) h = tt
  after_none None h = λ k b x. h x.place k (within k x) (x.worker, x.starts) b

-- without a run before, at and after a tag there is none
pub never_runs : (t : List Row) (g : Tag) (r : ℕ) → ¬ Ran t g r → ((k : Tag) → Before k g → ¬ Ran t k r) → ((k : Tag) → Before g k → ¬ Ran t k r) → (k : Tag) → ¬ Ran t k r
never_runs t g r here before after k x = go (order_cases k g)
  where
    go : Before k g ⊎ UpTo g k → ⊥
    go (inl b) = before k b x
    go (inr u) = by (split_up g k u)
      where
        by : Before g k ⊎ (g ≡ k) → ⊥
        by (inl b) = after k b x
        by (inr e) = here (subst (λ (z : Tag). Ran t z r) (sym e) x)

-- What the rows of a tag ask for.
use Rattle.std.specs.Prelude.{◌≡◌, ℕ, ◌<◌, ◌≤◌, Bool, true, false, cond, List, length, take, Option, Some, None, slice_get, slice_range, filter_map}
use Rattle.lft_ir.specs.declared.{parts.{Name.Name, Value.Value}, steps.row.{Row.Row, Step.{Step, TheVariants.{Start, Read, Write, Schedule, Stop, End}}}}
use Rattle.lft_model.specs.Accepted.{begins, runs_in}
use Rattle.lft_stream.specs.declared.outline.{PlaceRange.PlaceRange, Outline.Outline}

-- the reaction that the row starts, if it starts one
abbrev pub started_by : Row → Option ℕ
started_by row = cond (begins row.step) (Some row.reaction) None

-- the reactions that start in the rows, in order
abbrev pub starters : List Row → List ℕ
starters u = filter_map started_by u

-- the test of a step that has an effect: it writes, schedules or asks for the stop
abbrev pub has_effect : Step → Bool
has_effect Start = false
has_effect (Read n v) = false
has_effect (Write n v) = true
has_effect (Schedule n v d) = true
has_effect Stop = true
has_effect End = false

-- the row, where it has an effect
abbrev pub effect_of : Row → Option Row
effect_of row = cond (has_effect row.step) (Some row) None

-- the rows that have an effect, in order
abbrev pub effect_rows : List Row → List Row
effect_rows u = filter_map effect_of u

-- of the first n rows those that have an effect stand in the span
pub record IsSpan (u : List Row) (n : ℕ) (span : PlaceRange) : Type 0 where
  pub in_order : span.first ≤ span.end
  pub within : span.end ≤ n
  pub each : (i : ℕ) (x : Row) → i < n → slice_get u i ≡ Some x → has_effect x.step ≡ true → (span.first ≤ i) × (i < span.end)

-- of the first n rows those that read stand before the place
pub record AreReadsBefore (u : List Row) (n place : ℕ) : Type 0 where
  pub within : place ≤ n
  pub each : (i : ℕ) (x : Row) (m : Name) (v : Value) → i < n → slice_get u i ≡ Some x → x.step ≡ Read m v → i < place

-- what is found is so of the first n rows: which reactions start, up to where they read, and where they have effects
pub record IsOutlineTo (u : List Row) (n : ℕ) (o : Outline) : Type 0 where
  pub started : o.started.items ≡ starters (take n u)
  pub runs : length o.started.items ≡ runs_in (take n u)
  pub reads : AreReadsBefore u n o.reads
  pub effects : IsSpan u n o.effects

-- it is so of all rows
abbrev pub IsOutline : List Row → Outline → Type 0
IsOutline u o = IsOutlineTo u (length u) o

-- these are the rows from one place up to another, and they have all effects
pub record AreEffectsOf (u effects : List Row) : Type 0 where
  pub first : ℕ
  pub end : ℕ
  pub in_order : first ≤ end
  pub within : end ≤ length u
  pub is_part : effects ≡ slice_range u first end
  pub same : effect_rows effects ≡ effect_rows u

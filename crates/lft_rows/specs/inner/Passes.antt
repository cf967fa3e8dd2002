-- What a pass over the rows knows after some of them. This serves the proof of the pass alone.
use Rattle.std.specs.Prelude.{◌≡◌, ℕ, ◌<◌, ◌≤◌, ◌⊎◌, List, ◌++◌, length, Option, Some, MatchOption, slice_get, Contains}
use Rattle.lft_tag.specs.{declared.Tag.Tag, Tags.UpTo}
use Rattle.lft_ir.specs.{Parts.Parts, declared.{parts.Name.Name, steps.row.Row.Row}}
use Rattle.lft_model.specs.{Plans.PlanParts, Runs.{start_row, end_row, inputs_of}, Breaches.{BreaksRowUntil, IsUnended, WasRead}}
use Rattle.lft_rows.specs.declared.open.OpenRuns.{OpenRuns}
use Rattle.lft_rows.specs.declared.pass.{Known.Known, Early.Early, Pass.Pass}
use Rattle.lft_rows.specs.inner.{Effects.AreEffects, Marks.{AreMarks, IsLaid}, Places.{place_of, last_of}}

-- the row at place j starts a run of r at g by worker w, which has no end row from there up to place i
pub record Unended (t : List Row) (i j w : ℕ) (g : Tag) (r : ℕ) : Type 0 where
  pub starts : slice_get t j ≡ Some (start_row w g r)
  pub not_ended : (k : ℕ) → j < k → k < i → ¬ (slice_get t k ≡ Some (end_row w g r))

-- of the start rows of worker w before place p, the one at place s alone has no end row before place i
pub record IsOnlyOpen (t : List Row) (p i w s : ℕ) : Type 0 where
  pub tag : Tag
  pub reaction : ℕ
  pub before : s < p
  pub unended : Unended t i s w tag reaction
  pub only : (j : ℕ) (g : Tag) (r : ℕ) → j < p → Unended t i j w g r → j ≡ s

-- the place of the one start row of worker w before place p without an end row before place i, if any
abbrev pub OpenPlace : List Row → ℕ → ℕ → ℕ → Option ℕ → Type 0
OpenPlace t p i w o = MatchOption o ((j : ℕ) (g : Tag) (r : ℕ) → j < p → ¬ Unended t i j w g r) (IsOnlyOpen t p i w)

-- what is kept of open runs is right for the starts before place p and the ends before place i
abbrev pub Holds : List Row → ℕ → ℕ → OpenRuns → Type 0
Holds t p i runs = (w : ℕ) → OpenPlace t p i w (place_of runs w)

-- the least of the rules 1 to 4 that a row breaks, if any
abbrev pub EarlyRule : Tag → PlanParts → List Row → ℕ → Row → Option ℕ → Type 0
EarlyRule stop plan t i row o = MatchOption o ((k : ℕ) → k < 5 → ¬ BreaksRowUntil stop plan t i row k) (λ k. BreaksRowUntil stop plan t i row k × (k < 5) × ((m : ℕ) → m < k → ¬ BreaksRowUntil stop plan t i row m))

-- no row before place i breaks one of the rules 1 to 4
abbrev pub KeepsEarly : Tag → PlanParts → List Row → ℕ → Type 0
KeepsEarly stop plan t i = (j : ℕ) (row : Row) (k : ℕ) → j < i → slice_get t j ≡ Some row → k < 5 → ¬ BreaksRowUntil stop plan t j row k

-- the tag is that of a row before place i, and none before it has a greater one; at the head (0, 0)
pub record IsLatest (t : List Row) (i : ℕ) (last : Tag) : Type 0 where
  pub each : (j : ℕ) (row : Row) → j < i → slice_get t j ≡ Some row → UpTo row.tag last
  pub is_one : ((j : ℕ) × (row : Row) × (j < i) × (slice_get t j ≡ Some row) × (row.tag ≡ last)) ⊎ (last ≡ record { time = 0; micro = 0 })

-- the tag at which reaction r started last before place i, if it did
abbrev pub LastStart : List Row → ℕ → ℕ → Option Tag → Type 0
LastStart t i r o = MatchOption o ((j w : ℕ) (g : Tag) → j < i → ¬ (slice_get t j ≡ Some (start_row w g r))) (λ last. ((j w : ℕ) × (j < i) × (slice_get t j ≡ Some (start_row w last r))) × ((j w : ℕ) (g : Tag) → j < i → slice_get t j ≡ Some (start_row w g r) → UpTo g last))

-- the open run of the row's worker is one of the row's tag and reaction
abbrev pub HasOpen : List Row → OpenRuns → Row → Type 0
HasOpen t runs row = (s : ℕ) × (place_of runs row.worker ≡ Some s) × (slice_get t s ≡ Some (start_row row.worker row.tag row.reaction))

-- what is kept is right for the rows before place i
pub record IsKnown (program : Parts) (t : List Row) (i : ℕ) (known : Known) : Type 0 where
  pub many : length known.starts.tags.items ≡ length program.reactions
  pub latest : IsLatest t i known.last
  pub started : (r : ℕ) → LastStart t i r (last_of known.starts r)
  pub held : Holds t i i known.runs
  pub marked : AreMarks program t 0 i known.marks

-- the pass ended at the first row that breaks one of the rules 1 to 4, or past the last row
pub record IsEarly (stop : Tag) (plan : PlanParts) (t : List Row) (runs : OpenRuns) (early : Early) : Type 0 where
  pub within : early.place ≤ length t
  pub kept : KeepsEarly stop plan t early.place
  pub held : Holds t early.place early.place runs
  pub rule : MatchOption early.rule (early.place ≡ length t) (λ k. (row : Row) × (slice_get t early.place ≡ Some row) × BreaksRowUntil stop plan t early.place row k × (k < 5) × ((m : ℕ) → m < k → ¬ BreaksRowUntil stop plan t early.place row m))

-- what passes go by is of this program
pub record IsPass (program : Parts) (pass : Pass) : Type 0 where
  pub effects : AreEffects program pass.effects
  pub laid : IsLaid program pass.known.marks

-- the row at place s is the first before place p that breaks rule 5, if any
abbrev pub FirstUnended : List Row → ℕ → Option ℕ → Type 0
FirstUnended t p o = MatchOption o ((j : ℕ) (row : Row) → j < p → slice_get t j ≡ Some row → ¬ IsUnended t j row) (λ s. (row : Row) × (s < p) × (slice_get t s ≡ Some row) × IsUnended t s row × ((j : ℕ) (x : Row) → j < s → slice_get t j ≡ Some x → ¬ IsUnended t j x))

-- tags don't fall from row to row up to place i, at which the tag is g
pub record RisesTo (t : List Row) (i : ℕ) (g : Tag) : Type 0 where
  pub rows : (j k : ℕ) (x y : Row) → j < k → k < i → slice_get t j ≡ Some x → slice_get t k ≡ Some y → UpTo x.tag y.tag
  pub last : (j : ℕ) (x : Row) → j < i → slice_get t j ≡ Some x → UpTo x.tag g

-- the name isn't among the inputs of the row's reaction, or a row of its run before place i reads it
abbrev pub IsBadRead : Parts → List Row → ℕ → Row → Name → Type 0
IsBadRead program t i row n = (¬ Contains (inputs_of program row.reaction) n) ⊎ WasRead t i row.tag row.reaction n

-- the pass has gone over the rows before place i, none of which breaks one of the rules 1 to 4
pub record HasPassed (stop : Tag) (plan : PlanParts) (t : List Row) (i : ℕ) (pass : Pass) : Type 0 where
  pub effects : AreEffects plan.program pass.effects
  pub known : IsKnown plan.program t i pass.known
  pub kept : KeepsEarly stop plan t i

-- the pass has gone over all rows, or up to the first that breaks one of the rules 1 to 4, with the least of these
abbrev pub HasGoneOn : Tag → PlanParts → List Row → Pass → Option (ℕ × ℕ) → Type 0
HasGoneOn stop plan t pass o = MatchOption o (HasPassed stop plan t (length t) pass) (λ x. (row : Row) × (slice_get t x.0 ≡ Some row) × HasPassed stop plan t x.0 pass × EarlyRule stop plan t x.0 row (Some x.1))

-- what a pass has gone over it has gone over still when more rows come behind
abbrev pub GrownLaw : PlanParts → Type 0
GrownLaw plan = (stop : Tag) (t u : List Row) (i : ℕ) (pass : Pass) → i ≤ length t → HasPassed stop plan t i pass → HasPassed stop plan (t ++ u) i pass

-- what a pass has gone over it has gone over still with another stop, where none of these rows is behind that
abbrev pub NearerLaw : PlanParts → Type 0
NearerLaw plan = (stop other : Tag) (t : List Row) (i : ℕ) (pass : Pass) → ((j : ℕ) (x : Row) → j < i → slice_get t j ≡ Some x → UpTo x.tag other) → HasPassed stop plan t i pass → HasPassed other plan t i pass

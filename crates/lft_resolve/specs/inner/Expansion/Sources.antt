-- Chains of sources: ports by number, and for each the port before it, if it has one.
use Rattle.std.specs.Prelude.{◌≡◌, ℕ, ◌<◌, List, [], ◌++◌, Option, Some, None, IfSome, slice_get, length, option_map, option_to_list, sum, unwrap_or}
use Rattle.lft_tag.specs.{Shifts.{join_all, none}, declared.{Shift.Shift, Source.Source}}
use Rattle.lft_resolve.specs.declared.expansion.origins.Reached.{Reached}

-- each source is a port of the list
abbrev pub AreInside : List (Option Source) → Type 0
AreInside sources = (p : ℕ) (s : Source) → slice_get sources p ≡ Some (Some s) → s.port < length sources

-- the port before port p, if it has one
abbrev pub ports_before : List (Option Source) → ℕ → List ℕ
ports_before sources p = option_to_list (option_map (λ s. s.port) (unwrap_or (slice_get sources p) None))

-- the chain into port p, walked backwards, ends at port o; the delays are those of the chain from o on
pub data ChainOrigin (sources : List (Option Source)) : ℕ → ℕ → List ℕ → Type 0 where
  itself : {p : ℕ} → slice_get sources p ≡ Some None → ChainOrigin sources p p []
  over : {p o : ℕ} {delays : List ℕ} (source : Source) (first : List ℕ) → slice_get sources p ≡ Some (Some source) → ChainOrigin sources source.port o first → delays ≡ first ++ option_to_list source.delay → ChainOrigin sources p o delays

-- from port p backwards one comes to port q, in one or more steps
pub data LeadsBackwards (sources : List (Option Source)) : ℕ → ℕ → Type 0 where
  one : {p q : ℕ} (source : Source) → slice_get sources p ≡ Some (Some source) → source.port ≡ q → LeadsBackwards sources p q
  more : {p q : ℕ} (source : Source) → slice_get sources p ≡ Some (Some source) → LeadsBackwards sources source.port q → LeadsBackwards sources p q

-- the shift is the delays folded; none is for delays that sum to more than 10^18 nanoseconds
abbrev pub IsFolded : List ℕ → Option Shift → Type 0
IsFolded delays None = 1000000000000000000 < sum delays
IsFolded delays (Some s) = join_all none delays ≡ (s.time, s.steps)

-- the origin is the end of the port's chain, and the shift is the chain's delays folded
pub record IsReached (sources : List (Option Source)) (p : ℕ) (r : Reached) : Type 0 where
  pub delays : List ℕ
  pub origin : ChainOrigin sources p r.origin delays
  pub folded : IsFolded delays r.shift

-- for each port in order the end of its chain and the folded delays, or none where they sum past 10^18
pub record AreReached (sources : List (Option Source)) (all : List Reached) : Type 0 where
  pub as_long : length all ≡ length sources
  pub each : (p : ℕ) (r : Reached) → slice_get all p ≡ Some r → IsReached sources p r

-- of the source of port p the end of its chain is known, and leaves room for a microstep more
abbrev pub IsSourceReached : List (Option Source) → List Reached → ℕ → Type 0
IsSourceReached sources all p = (s : Source) → slice_get sources p ≡ Some (Some s) → (r : Reached) × (slice_get all s.port ≡ Some r) × IsReached sources s.port r × IfSome r.shift (λ x. x.steps < 100000)

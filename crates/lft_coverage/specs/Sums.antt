-- The line of sums that people read first.
use Rattle.std.specs.Prelude.{◌≡◌, ◌≢◌, ℕ, List, ◌++◌, length, slice_get, unwrap_or, option_map, codes, decimal}
use Rattle.lft_ir.specs.{Parts.Parts, declared.steps.row.Row.Row}
use Rattle.lft_counts.specs.{declared.cover.Cover.Cover, Counts.IsOver, Orders.{Stands, IsApart}, Overlaps.Overlap}
use Rattle.lft_graph.specs.{Counts.{Count, CountPairs}, Precedence.HaveOrder}
use Rattle.lft_coverage.specs.Pairs.{AreOpenTogether}

-- a word, a count, a word between, and the number that it is of
abbrev pub share_words : List ℕ → ℕ → List ℕ → ℕ → List ℕ
share_words word count between whole = (word ++ decimal count) ++ (between ++ decimal whole)

-- `reactions=R/N ports=F/N orders=A/N pairs=P/N`
abbrev pub sum_line : ℕ → ℕ → ℕ → ℕ → ℕ → ℕ → ℕ → ℕ → List ℕ
sum_line ran reactions fed ports apart orders together pairs =
    share_words (codes "reactions=") ran (codes "/") reactions ++ share_words (codes " ports=") fed (codes "/") ports
    ++ share_words (codes " orders=") apart (codes "/") orders ++ share_words (codes " pairs=") together (codes "/") pairs ++ codes "\n"

-- the origin of port p
abbrev pub origin_of : Parts → ℕ → ℕ
origin_of program p = unwrap_or (option_map (λ x. x.origin) (slice_get program.ports p)) p

-- a connection feeds port p: its origin is another port
abbrev pub IsFed : Parts → ℕ → Type 0
IsFed program p = origin_of program p ≢ p

-- a connection feeds port p, and its origin was written
abbrev pub IsReached : Parts → List ℕ → ℕ → Type 0
IsReached program writes p = IsFed program p × IsOver writes (origin_of program p)

-- a text begins with the line of sums: R is how many reactions have a run, F how many of the fed ports have an origin that was written, A how many of the orders were met on two workers, and P how many pairs of reactions had open runs together, where so many pairs have no order
pub record TellsSums (program : Parts) (cover : Cover) (told : List ℕ) : Type 0 where
  pub ran : ℕ
  pub fed : ℕ
  pub ports : ℕ
  pub apart : ℕ
  pub together : ℕ
  pub pairs : ℕ
  pub more : List ℕ
  pub ran_is : Count (IsOver cover.counting.runs) (length cover.counting.runs) ran
  pub fed_is : Count (IsReached program cover.counting.writes) (length program.ports) fed
  pub ports_are : Count (IsFed program) (length program.ports) ports
  pub apart_is : (t : List Row) (n i : ℕ) → Stands t n i cover.orders → Count (IsApart t i cover.orders.all.items) (length cover.orders.all.items) apart
  pub together_is : (t : List Row) (i : ℕ) → Overlap t (length program.reactions) i cover.overlaps → CountPairs (AreOpenTogether t i) (length program.reactions) together
  pub pairs_are : CountPairs (λ a b. HaveOrder program a b → ⊥) (length program.reactions) pairs
  pub text : told ≡ sum_line ran (length program.reactions) fed ports apart (length cover.orders.all.items) together pairs ++ more

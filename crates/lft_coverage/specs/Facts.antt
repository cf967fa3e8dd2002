-- The facts of `--list`, one a line.
use Rattle.std.specs.Prelude.{ℕ, ◌/◌, ◌%◌, ◌==◌, Bool, false, List, ◌++◌, slice_get, unwrap_or, option_map, codes, decimal, nat_eq, if◌then◌else◌, flat_map, slice_index, []}
use Rattle.std.specs.{List.enumerate_from, Int.bit_at}
use Rattle.lft_ir.specs.{Parts.Parts, Words.Words.{port_words, reaction_words}}
use Rattle.lft_counts.specs.{declared.{orders.Order.Order, cover.Cover.Cover, overlaps.Overlaps.Overlaps}, Overlaps.met_by, Workers.by_number}

-- `reaction X runs=N`: a reaction's number, and how many runs it has
abbrev pub run_line : Parts → ℕ × ℕ → List ℕ
run_line program d = codes "reaction " ++ reaction_words program d.0 ++ codes " runs=" ++ decimal d.1 ++ codes "\n"

-- the test of a port being its own origin, which no connection feeds
abbrev pub is_origin : Parts → ℕ → Bool
is_origin program p = unwrap_or (option_map (λ x. x.origin == p) (slice_get program.ports p)) false

-- `port P writes=N`: a port's number, and how many rows write it; nothing of a port that a connection feeds
abbrev pub write_line : Parts → ℕ × ℕ → List ℕ
write_line program d = if is_origin program d.0 then codes "port " ++ port_words program d.0 ++ codes " writes=" ++ decimal d.1 ++ codes "\n" else []

-- `order X Y both=N apart=M`: X comes before Y; at N tags both ran, at M of these on two workers
abbrev pub order_line : Parts → Order → List ℕ
order_line program x = codes "order " ++ reaction_words program x.first ++ codes " " ++ reaction_words program x.then ++ codes " both=" ++ decimal x.both ++ codes " apart=" ++ decimal x.apart ++ codes "\n"

-- `open N starts=M`: behind M starts so many reactions had an open run; nothing where there is none
abbrev pub width_line : ℕ × ℕ → List ℕ
width_line d = if nat_eq d.1 0 then [] else codes "open " ++ decimal d.0 ++ codes " starts=" ++ decimal d.1 ++ codes "\n"

-- `worker W runs=N`: a worker's number, and how many runs it starts
abbrev pub worker_line : ℕ × ℕ → List ℕ
worker_line d = codes "worker " ++ decimal d.0 ++ codes " runs=" ++ decimal d.1 ++ codes "\n"

-- the test of reaction a being in the set of these words
abbrev pub has : List ℕ → ℕ → Bool
has set a = bit_at (slice_index set (a / 64)) (a % 64) == 1

-- `pair X Y`: X had an open run when a run of Y started; nothing where that never was
abbrev pub pair_words : Parts → Bool → ℕ → ℕ → List ℕ
pair_words program met a b = if met then codes "pair " ++ reaction_words program a ++ codes " " ++ reaction_words program b ++ codes "\n" else []

-- the pairs with Y the reaction of this number, in the order of X
abbrev pub pair_lines : Parts → Overlaps → ℕ → List ℕ
pair_lines program overlaps b = flat_map (λ d. pair_words program (has (met_by overlaps b) d.0) d.0 b) (enumerate_from 0 program.reactions)

-- the facts of a cover: of each reaction, of each port that no connection feeds, of each order, of each two reactions that met, of each number of open runs, and of each worker
abbrev pub fact_lines : Parts → Cover → List ℕ
fact_lines program cover =
    flat_map (run_line program) (enumerate_from 0 cover.counting.runs) ++ flat_map (write_line program) (enumerate_from 0 cover.counting.writes)
    ++ flat_map (order_line program) cover.orders.all.items ++ flat_map (λ d. pair_lines program cover.overlaps d.0) (enumerate_from 0 program.reactions)
    ++ flat_map width_line (enumerate_from 0 cover.overlaps.widths) ++ flat_map worker_line (by_number cover.counting.workers)

-- The definitions on small programs and traces.
use Rattle.std.proofs.Common.{◌≡◌, ℕ, zero, suc, ◌<◌, inl, inr, List, [], ◌∷◌, refl, ap, arith, true, false, Some, None, slice_get, pos, lit≤, lit<}
use Rattle.lft_tag.specs.{declared.{Tag.Tag, Shift.Shift}, Tags.after_all}
use Rattle.lft_ir.specs.{Names.ThingNames, Origins.{Origin, Origin.{itself, over}}}
use Rattle.lft_ir.specs.declared.parts.{Port.Port as PortOf, Reaction.Reaction, Value.TheVariants.{Bare, Int}, Name.TheVariants.{Port, Action}}
use Rattle.lft_ir.specs.declared.parts.Trigger.TheVariants.{Startup, Shutdown, Timer, On}
use Rattle.lft_ir.specs.declared.steps.row.{Row.Row, Step.{Step, TheVariants.{Start, Read, Write, Schedule, Stop, End}}}
use Rattle.lft_model.specs.{Plans.PlanParts, Presence.{stop, Last, Triggered, Inputs, Collision, events_of}, Runs.{by_ends, reads_at, Outcome.Written}}
use Rattle.lft_model.specs.Breaches.{TagBreach}
use Rattle.lft_graph.specs.Precedence.{Precedes, Precedes.one}

abbrev g00 : Tag
g00 = record { time = 0; micro = 0 }

abbrev row : ℕ → Tag → ℕ → Step → Row
row w g r s = record { worker = w; tag = g; reaction = r; step = s }

abbrev no_shift : Shift
no_shift = record { time = 0; steps = 0; in_time = lit≤ tt; in_steps = lit≤ tt }

abbrev later_shift : Shift
later_shift = record { time = 5000000; steps = 0; in_time = lit≤ tt; in_steps = lit≤ tt }

abbrev deep_shift : Shift
deep_shift = record { time = 5000000; steps = 1; in_time = lit≤ tt; in_steps = lit≤ tt }

abbrev own_port : PortOf
own_port = record { instance = 1; is_input = false; source = None; origin = 0; shift = no_shift }

abbrev linked_port : PortOf
linked_port = record { instance = 2; is_input = true; source = Some (record { port = 0; delay = None }); origin = 0; shift = no_shift }

abbrev writer : Reaction
writer = record { instance = 1; place = 0; triggers = Timer 0 ∷ []; uses = []; effects = Port 0 ∷ [] }

abbrev reader : Reaction
reader = record { instance = 2; place = 0; triggers = On (Port 1) ∷ []; uses = []; effects = [] }

-- names play no part here
abbrev no_names : ThingNames
no_names = record { instances = []; ports = []; actions = []; timers = []; reactions = [] }

-- the pipe program with the stop at the start: a timer's reaction writes a port that another reaction reads without a delay
abbrev pipe : PlanParts
pipe = record {
  program = record {
    ports = own_port ∷ linked_port ∷ [];
    actions = [];
    timers = record { instance = 1; offset = 0; period = 10000000 } ∷ [];
    reactions = writer ∷ reader ∷ [];
    names = no_names;
  };
  externals = record { stop = g00; events = [] };
}

-- a trace of it in which the port is written twice
abbrev twice : List Row
twice = row 0 g00 0 Start ∷ row 0 g00 0 (Write (Port 0) (Int (pos 1))) ∷ row 0 g00 0 (Write (Port 0) (Int (pos 2))) ∷ row 0 g00 0 End ∷ row 1 g00 1 Start ∷ row 1 g00 1 (Read (Port 1) (Int (pos 2))) ∷ row 1 g00 1 End ∷ []

-- the last value is the one that the reader reads
twice_last : Last twice g00 0 (Int (pos 2))
twice_last = refl

twice_reads : Inputs pipe twice g00 1 (reads_at pipe twice g00 1)
twice_reads = record { reaction = reader; is_reaction = refl; each = ((g00, record { origin = 0; delays = []; is_origin = over linked_port (record { port = 0; delay = None }) [] refl refl (itself own_port refl refl) refl; arrives = refl; is_last = refl }), tt) }

-- the writer is triggered by its timer, the reader by the port
twice_writer : Triggered pipe twice g00 0
twice_writer = record { reaction = writer; trigger = Timer 0; is_reaction = refl; is_trigger = (0, lit< tt, refl); occurs = (record { instance = 1; offset = 0; period = 10000000 }, refl, (0, refl, λ e. refl)) }

-- the runs in order of their ends
twice_runs : by_ends pipe twice ≡ record { tag = g00; reaction = 0; reads = []; answer = record { outcomes = Written (Some (Int (pos 2))) ∷ []; stops = false } } ∷ record { tag = g00; reaction = 1; reads = Some (Int (pos 2)) ∷ []; answer = record { outcomes = []; stops = false } } ∷ []
twice_runs = refl

no_row : (x y : Row) → ¬ (x.step ≡ y.step) → Some x ≡ Some y → ⊥
no_row x y n e = let q : x ≡ y = cc in n (ap (λ (z : Row). z.step) q)

-- the same with the writer's end after the reader's read breaks rule 9 at the reader
abbrev crossed : List Row
crossed = row 0 g00 0 Start ∷ row 0 g00 0 (Write (Port 0) (Int (pos 1))) ∷ row 1 g00 1 Start ∷ row 1 g00 1 (Read (Port 1) (Int (pos 1))) ∷ row 0 g00 0 End ∷ row 1 g00 1 End ∷ []

feeds : Precedes pipe.program 0 1
feeds = one (inr (record { writer = writer; reader = reader; is_writer = refl; is_reader = refl; origin = 0; port = 1; is_effect = (0, lit< tt, refl); is_input = (0, lit< tt, refl); undelayed = over linked_port (record { port = 0; delay = None }) [] refl refl (itself own_port refl refl) refl }))

crossed_early : TagBreach pipe crossed (record { rule = 9; tag = g00; reaction = Some 1; row = 0 })
crossed_early = record { in_time = inr (refl, lit≤ tt); breaks = inr (inr (inl (refl, record { place = 2; worker = 1; starts = refl }, record { earlier = 0; precedes = feeds; earlier_ran = record { place = 0; worker = 0; starts = refl }; not_ended = λ e. late e.ended_at e.started_at e.worker e.other e.ends e.starts e.before }))); row_is = refl }
  where
    late : (i j w v : ℕ) → slice_get crossed i ≡ Some (row w g00 0 End) → slice_get crossed j ≡ Some (row v g00 1 Start) → i < j → ⊥
    late zero j w v e f l = no_row (row 0 g00 0 Start) (row w g00 0 End) (λ q. cc) e
    late (suc zero) j w v e f l = no_row (row 0 g00 0 (Write (Port 0) (Int (pos 1)))) (row w g00 0 End) (λ q. cc) e
    late (suc (suc zero)) j w v e f l = no_row (row 1 g00 1 Start) (row w g00 0 End) (λ q. cc) e
    late (suc (suc (suc zero))) j w v e f l = no_row (row 1 g00 1 (Read (Port 1) (Int (pos 1)))) (row w g00 0 End) (λ q. cc) e
    late (suc (suc (suc (suc i)))) zero w v e f l = omega arith
    late (suc (suc (suc (suc i)))) (suc zero) w v e f l = omega arith
    late (suc (suc (suc (suc i)))) (suc (suc zero)) w v e f l = omega arith
    late (suc (suc (suc (suc i)))) (suc (suc (suc zero))) w v e f l = omega arith
    late (suc (suc (suc (suc i)))) (suc (suc (suc (suc zero)))) w v e f l = omega arith
    late (suc (suc (suc (suc i)))) (suc (suc (suc (suc (suc zero))))) w v e f l = no_row (row 1 g00 1 End) (row v g00 1 Start) (λ q. cc) f
    late (suc (suc (suc (suc i)))) (suc (suc (suc (suc (suc (suc j)))))) w v e f l = absurd (cc)

-- delays are applied in turn: 5 ms and then 0 from (0, 3)
superdense : after_all (record { time = 0; micro = 3 }) (5000000 ∷ 0 ∷ []) ≡ record { time = 5000000; micro = 1 }
superdense = refl

-- two writes at (0, 0) and (0, 1) over a delay of 5 ms come to one tag and clash there
abbrev delayed_port : PortOf
delayed_port = record { instance = 2; is_input = true; source = Some (record { port = 0; delay = Some 5000000 }); origin = 0; shift = later_shift }

abbrev slow : PlanParts
slow = record { program = record { ports = own_port ∷ delayed_port ∷ []; actions = []; timers = []; reactions = []; names = no_names }; externals = record { stop = record { time = 5000000; micro = 0 }; events = [] } }

abbrev g01 : Tag
g01 = record { time = 0; micro = 1 }

abbrev two_writes : List Row
two_writes = row 0 g00 0 (Write (Port 0) (Int (pos 1))) ∷ row 0 g01 0 (Write (Port 0) (Int (pos 2))) ∷ []

two_clash : Collision slow two_writes (record { time = 5000000; micro = 0 })
two_clash = (Port 1, record { first = g00; second = g01; first_value = Int (pos 1); second_value = Int (pos 2); is_first = record { origin = 0; delays = 5000000 ∷ []; is_origin = way; arrives = refl; is_last = refl }; is_second = record { origin = 0; delays = 5000000 ∷ []; is_origin = way; arrives = refl; is_last = refl }; differ = λ e. let q : 0 ≡ 1 = ap (λ g. g.micro) e in cc })
  where
    way : Origin slow.program 1 0 (5000000 ∷ [])
    way = over delayed_port (record { port = 0; delay = Some 5000000 }) [] refl refl (itself own_port refl refl) refl

-- an action scheduled with a delay of 0 has its event one microstep later
abbrev again : PlanParts
again = record { program = record { ports = []; actions = record { instance = 0; physical = false; min_delay = 0 } ∷ []; timers = []; reactions = []; names = no_names }; externals = record { stop = g01; events = [] } }

again_event : events_of again (row 0 g00 0 (Schedule (Action 0) Bare 0) ∷ []) g01 0 ≡ Bare ∷ []
again_event = refl

-- shutdown is present at the stop, here also the start
abbrev ends_now : PlanParts
ends_now = record { program = record { ports = []; actions = []; timers = []; reactions = record { instance = 0; place = 0; triggers = Startup ∷ Shutdown ∷ []; uses = []; effects = [] } ∷ []; names = no_names }; externals = record { stop = g00; events = [] } }

ends_triggered : Triggered ends_now [] g00 0
ends_triggered = record { reaction = record { instance = 0; place = 0; triggers = Startup ∷ Shutdown ∷ []; uses = []; effects = [] }; trigger = Shutdown; is_reaction = refl; is_trigger = (1, lit< tt, refl); occurs = refl }

-- a stop request at the start: the stop is one microstep later, shutdown is present there, and a row after it breaks rule 2
abbrev later_stop : PlanParts
later_stop = record { program = ends_now.program; externals = record { stop = record { time = 5; micro = 0 }; events = [] } }

abbrev asks : List Row
asks = row 0 g00 0 Start ∷ row 0 g00 0 Stop ∷ row 0 g00 0 End ∷ row 0 g01 0 Start ∷ row 0 g01 0 End ∷ []

asks_stop : stop later_stop asks ≡ g01
asks_stop = refl

asks_shutdown : Triggered later_stop asks g01 0
asks_shutdown = record { reaction = record { instance = 0; place = 0; triggers = Startup ∷ Shutdown ∷ []; uses = []; effects = [] }; trigger = Shutdown; is_reaction = refl; is_trigger = (1, lit< tt, refl); occurs = refl }

asks_runs : by_ends later_stop asks ≡ record { tag = g00; reaction = 0; reads = []; answer = record { outcomes = []; stops = true } } ∷ record { tag = g01; reaction = 0; reads = []; answer = record { outcomes = []; stops = false } } ∷ []
asks_runs = refl

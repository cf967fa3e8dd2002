-- The line of a hint.
use Rattle.std.specs.Prelude.{ℕ, ◌+◌, List, ◌++◌, codes, decimal}
use Rattle.lft_races.specs.declared.hints.hint.Hint.{Hint}
use Rattle.lft_races.specs.declared.hints.hint.Hint.TheVariants as hint

-- what holds, and what to look at
abbrev pub hint_words : Hint → List ℕ
hint_words hint.Scheduler = codes "\n  A guess: look at the scheduler first. By the rows it starts a run before all that precede it have ended.\n"
hint_words hint.NextTag = codes "\n  A guess: the next tag began before all runs had ended, which is a race, or this row is written late.\n"
hint_words hint.FirstOfWorker = codes "\n  A guess: that is the first row of its worker. Were the rows of workers put one after another? They stand in the order in which they happened.\n"
hint_words hint.LateRow = codes "\n  A guess: look at the recorder first. Is a row written later than it happens, or were the rows sorted?\n"
hint_words hint.FirstRow = codes "\n  A guess: that is the first row. Were the rows sorted? They stand in the order in which they happened.\n"
hint_words hint.StartedTwice = codes "\n  A guess: look at the scheduler first. Was it taken twice, or triggered again by a value that came late?\n"
hint_words hint.OneNumber = codes "\n  A guess: look at the recorder first. Have two threads one worker number, or were the rows sorted?\n"
hint_words hint.TraceEnds = codes "\n  A guess: no row is so late. If the execution ended before, the stop of the external inputs is too late.\n"
hint_words hint.Thousandfold = codes "\n  A guess: at a thousand times that time it is triggered. Are the times in microseconds? They are wanted in nanoseconds.\n"
hint_words (hint.WholeDelay i) = codes "\n  A guess: line " ++ decimal (i + 2) ++ codes " gives the whole delay. The field delay is what comes on top of the least delay of the action.\n"
hint_words hint.RunsAtStop = codes "\n  A guess: it is triggered by shutdown. Is the stop of the external inputs the tag at which the execution ended?\n"
hint_words hint.NoWrites = codes "\n  A guess: no row of the trace writes. Are writes recorded?\n"
hint_words hint.NoReads = codes "\n  A guess: no row of the trace reads. Are reads recorded?\n"
hint_words hint.NoRows = codes "\n  A guess: the trace has no row. Is the recorder on?\n"
hint_words hint.NoEnds = codes "\n  A guess: no row of the trace ends a run. Are ends recorded?\n"
hint_words hint.LateEnd = codes "\n  A guess: the next tag began before all runs had ended, which is a race, or the end row is written late or not at all.\n"
hint_words hint.SmallStop = codes "\n  A guess: that is over a hundred times as late as the stop. Is the stop in milliseconds or microseconds? It is wanted in nanoseconds.\n"

-- Which rows facts name, and what each is to them.
use Rattle.std.specs.Prelude.{ℕ, List, [], ◌∷◌, ◌++◌, codes}
use Rattle.lft_facts.specs.declared.facts.{Cause.Cause, Reason.Reason, Fact.Fact, RowFact.RowFact}
use Rattle.lft_report.specs.declared.quotes.marks.{RowMark.RowMark, Quote.Quote}
use Rattle.lft_facts.specs.declared.facts.Cause.TheVariants as cause
use Rattle.lft_facts.specs.declared.facts.Reason.TheVariants as reason
use Rattle.lft_facts.specs.declared.facts.Fact.TheVariants as fact
use Rattle.lft_facts.specs.declared.facts.RowFact.TheVariants as row_fact
use Rattle.lft_report.specs.declared.quotes.marks.RowMark.TheVariants as mark

-- the row at a place, with a mark
abbrev pub marked : ℕ → RowMark → List Quote
marked i m = (record { row = i; mark = m }) ∷ []

-- the row that makes something present
abbrev pub cause_names : Cause → List Quote
cause_names (cause.Written g p i) = marked i mark.Cause
cause_names (cause.Scheduled g a i) = marked i mark.Cause
cause_names (cause.AtStartup g) = []
cause_names (cause.AtShutdown g) = []
cause_names (cause.Fires g n count) = []
cause_names (cause.Given g a i) = []

-- the rows beside one that is wrong
abbrev pub row_fact_names : RowFact → List Quote
row_fact_names (row_fact.Late i j) = marked j mark.Greater
row_fact_names (row_fact.StartsAgain i j) = marked j mark.FirstStart
row_fact_names (row_fact.Busy i j) = marked j mark.OpenStart
row_fact_names (row_fact.ReadAgain i j) = marked j mark.FirstRead
row_fact_names (row_fact.AfterStop i) = []
row_fact_names (row_fact.NotOpen i) = []
row_fact_names (row_fact.NotInput i) = []
row_fact_names (row_fact.NotEffect i) = []
row_fact_names (row_fact.Unended i) = []

-- the rows that a reason names
abbrev pub reason_names : Reason → List Quote
reason_names (reason.Nearest g x h) = []
reason_names (reason.PassedBy g r next) = []
reason_names (reason.NeverRuns r) = []
reason_names (reason.RunBefore g r h start) = []
reason_names (reason.RunAfter g r h start) = []
reason_names (reason.LastRow i g s) = marked i mark.TraceEnd
reason_names (reason.StopGiven g) = []
reason_names (reason.StopAsked g i) = marked i mark.AsksStop
reason_names (reason.EndedIn i k) = marked k mark.EarlierEnd
reason_names (reason.HasOpen i j) = marked j mark.OpenStart
reason_names (reason.OpenOn i j) = marked j mark.OpenStart
reason_names (reason.StartsIn i j) = marked j mark.LaterStart
reason_names (reason.Inputs r) = []
reason_names (reason.Effects r) = []
reason_names (reason.KindOf n k) = []
reason_names (reason.FedBy p o) = []
reason_names (reason.EndsOther i k) = marked k mark.OtherEnd
reason_names (reason.LastOfWorker i k) = marked k mark.LastRow
reason_names (reason.OpenAcross i j k) = (record { row = j; mark = mark.OpenStart }) ∷ marked k mark.Greater
reason_names (reason.LaterTag i k) = marked k mark.Greater

-- the rows that a fact names
abbrev pub named_rows : Fact → List Quote
named_rows (fact.RowIs g r i) = marked i mark.Here
named_rows (fact.Row f) = row_fact_names f
named_rows (fact.Cause c) = cause_names c
named_rows (fact.Clash g c d) = cause_names c ++ cause_names d
named_rows (fact.Runs g r start) = marked start mark.Here
named_rows (fact.StartsEarly g a r start end) = (record { row = start; mark = mark.Here }) ∷ marked end mark.LateEnd
named_rows (fact.Race g a r start end) = (record { row = start; mark = mark.EarlyStart }) ∷ marked end mark.LateEnd
named_rows (fact.Reason x) = reason_names x
named_rows _ = []

-- what stands behind a row
abbrev pub mark_words : RowMark → List ℕ
mark_words mark.Here = codes "<- here"
mark_words mark.Greater = codes "already at a greater tag"
mark_words mark.FirstStart = codes "its first start"
mark_words mark.OpenStart = codes "the run that is open"
mark_words mark.FirstRead = codes "its first read"
mark_words mark.Cause = codes "a cause"
mark_words mark.LateEnd = codes "has to end first"
mark_words mark.EarlyStart = codes "starts too early"
mark_words mark.TraceEnd = codes "the last row"
mark_words mark.AsksStop = codes "asks for the stop"
mark_words mark.EarlierEnd = codes "ends that run"
mark_words mark.LaterStart = codes "starts that run"
mark_words mark.OtherEnd = codes "another end"
mark_words mark.LastRow = codes "the last row of its worker"

-- What some facts give, of whatever plan and rows show them.
use Rattle.std.specs.Prelude.{◌≡◌, ℕ, ◌+◌, ◌<◌, List, ◌∷◌, ◌++◌, take, Option, Some, MatchOption, All}
use Rattle.lft_tag.specs.{declared.Tag.Tag, Tags.UpTo}
use Rattle.lft_ir.specs.{Parts.Parts, declared.steps.row.Row.Row}
use Rattle.lft_graph.specs.Precedence.{Precedes}
use Rattle.lft_model.specs.{declared.breach.Breach.Breach, Plans.PlanParts, Presence.stop, Breaches.{RowBreach, TagBreach}}
use Rattle.lft_rows.specs.Answers.Answers.{KeepsRows}
use Rattle.lft_races.specs.Races.{EndLater, IsFirstRace, StandBefore}
use Rattle.lft_facts.specs.{declared.facts.{Fact.Fact, Cause.Cause, Reason.Reason, RowFact.RowFact}, Facts.{IsChosen, AreShown}}
use Rattle.lft_facts.specs.declared.facts.Fact.TheVariants as fact
use Rattle.lft_facts.specs.declared.facts.Reason.TheVariants as reason
use Rattle.lft_facts.specs.declared.facts.RowFact.TheVariants as row_fact

-- the row that is wrong
abbrev pub wrong_row : RowFact → ℕ
wrong_row (row_fact.Late i j) = i
wrong_row (row_fact.AfterStop i) = i
wrong_row (row_fact.StartsAgain i j) = i
wrong_row (row_fact.Busy i j) = i
wrong_row (row_fact.NotOpen i) = i
wrong_row (row_fact.NotInput i) = i
wrong_row (row_fact.ReadAgain i j) = i
wrong_row (row_fact.NotEffect i) = i
wrong_row (row_fact.Unended i) = i

-- the breach is of r at g
abbrev pub IsOf : Breach → Tag → ℕ → Type 0
IsOf b g r = (b.tag ≡ g) × (b.reaction ≡ Some r)

-- where the words of a reason leave out a tag, a run or a row, it is that of the breach
abbrev pub IsOwnReason : Breach → Reason → Type 0
IsOwnReason b (reason.Nearest g x h) = b.tag ≡ g
IsOwnReason b (reason.PassedBy g r next) = b.tag ≡ g
IsOwnReason b (reason.RunBefore g r h start) = IsOf b g r
IsOwnReason b (reason.RunAfter g r h start) = IsOf b g r
IsOwnReason b (reason.EndedIn i k) = b.row ≡ i + 2
IsOwnReason b (reason.HasOpen i j) = b.row ≡ i + 2
IsOwnReason b (reason.OpenOn i j) = b.row ≡ i + 2
IsOwnReason b (reason.StartsIn i j) = b.row ≡ i + 2
IsOwnReason b (reason.EndsOther i k) = b.row ≡ i + 2
IsOwnReason b (reason.LastOfWorker i k) = b.row ≡ i + 2
IsOwnReason b (reason.OpenAcross i j k) = b.row ≡ i + 2
IsOwnReason b (reason.LaterTag i k) = b.row ≡ i + 2
IsOwnReason b (reason.NeverRuns r) = Unit {0}
IsOwnReason b (reason.LastRow i g s) = Unit {0}
IsOwnReason b (reason.StopGiven g) = Unit {0}
IsOwnReason b (reason.StopAsked g i) = Unit {0}
IsOwnReason b (reason.Inputs r) = Unit {0}
IsOwnReason b (reason.Effects r) = Unit {0}
IsOwnReason b (reason.KindOf n k) = Unit {0}
IsOwnReason b (reason.FedBy p o) = Unit {0}

-- a run that starts at g in the row at place i does so before the breach: in a row before its own, or where it has none, at a tag up to its own
pub record StartsBeforeBreach (b : Breach) (g : Tag) (i : ℕ) : Type 0 where
  pub of_row : 0 < b.row → i + 2 < b.row
  pub of_tag : b.row ≡ 0 → UpTo g b.tag

-- the same of a fact: what is wrong is so with the row of the breach, or with its reaction at its tag; causes and steps name all that they speak of, and a race is before the breach
abbrev pub IsOwn : Breach → Fact → Type 0
IsOwn b (fact.RowIs g r i) = b.row ≡ i + 2
IsOwn b (fact.Row f) = b.row ≡ wrong_row f + 2
IsOwn b (fact.Clash g c d) = b.tag ≡ g
IsOwn b (fact.NoRun g r) = IsOf b g r
IsOwn b (fact.HasTrigger r x) = b.reaction ≡ Some r
IsOwn b (fact.Runs g r start) = IsOf b g r
IsOwn b (fact.TriggerCount r count) = b.reaction ≡ Some r
IsOwn b (fact.Untriggered g r k x) = IsOf b g r
IsOwn b (fact.StartsEarly g a r start end) = IsOf b g r
IsOwn b (fact.Race g a r start end) = StartsBeforeBreach b g start
IsOwn b (fact.Reads g r k n read present) = IsOf b g r
IsOwn b (fact.DeclaredFirst a c) = Unit {0}
IsOwn b (fact.Feeds a c p) = Unit {0}
IsOwn b (fact.Cause c) = Unit {0}
IsOwn b (fact.Reason x) = IsOwnReason b x

-- all of the facts are of the breach where their words need it
abbrev pub AreOwn : Breach → List Fact → Type 0
AreOwn b facts = All (IsOwn b) facts

-- of whatever plan and rows show the facts, they give the breach of a rule by a row
abbrev pub ProvesRow : List Fact → Breach → Type 0
ProvesRow facts b = (plan : PlanParts) (t : List Row) → AreShown plan t facts → RowBreach plan t b

-- of whatever plan and rows show the facts, they give the breach of a rule at a tag: where no row breaks one of the rules 1 to 5 and the tag is up to the stop
abbrev pub ProvesTag : List Fact → Breach → Type 0
ProvesTag facts b = (plan : PlanParts) (t : List Row) → AreShown plan t facts → KeepsRows plan t → UpTo b.tag (stop plan t) → TagBreach plan t b

-- the facts give the breach: of a row where it has one, else of a tag
pub record Proves (facts : List Fact) (b : Breach) : Type 0 where
  pub row : 0 < b.row → ProvesRow facts b
  pub tag : b.row ≡ 0 → ProvesTag facts b

-- of whatever plan and rows show the facts: a precedes b
abbrev pub GivesChain : List Fact → ℕ → ℕ → Type 0
GivesChain facts a b = (plan : PlanParts) (t : List Row) → AreShown plan t facts → Precedes plan.program a b

-- the last of the facts are a race that starts in the row at place i, and the steps from the one reaction to the other; of those that hadn't ended by these rows the one to name is named
pub record EndWithRace (program : Parts) (rows : List Row) (facts : List Fact) (i : ℕ) : Type 0 where
  pub tag : Tag
  pub earlier : ℕ
  pub later : ℕ
  pub end : ℕ
  pub before : List Fact
  pub steps : List Fact
  pub are : facts ≡ before ++ (fact.Race tag earlier later i end ∷ steps)
  pub chain : GivesChain steps earlier later
  pub chosen : IsChosen program rows tag earlier later i

-- of a breach of one of the rules 1 to 8 the first race among the rows before it is told, if there is one and all runs that start before it end
abbrev pub TellsRace : PlanParts → List Row → Breach → List Fact → Type 0
TellsRace plan t b facts = b.rule < 9 → (n : ℕ) × (o : Option ℕ) × StandBefore t b n × IsFirstRace plan.program (take n t) o × MatchOption o (Unit {0}) (λ i. EndLater t n → EndWithRace plan.program (take n t) facts i)

-- Why what is written isn't lowered.
use Rattle.std.specs.Prelude.{◌≡◌, ◌<◌, ◌⊎◌, ℕ, Bool, true, false, List, IsSomeAnd, Option, None, slice_get}
use Rattle.lft_resolve.specs.Causes.{longest}
use Rattle.lft_tree.specs.Tree.{nanoseconds}
use Rattle.lft_whole.specs.declared.sources.{source.SourceFile.SourceFile, stop.FileRefusal.FileRefusal, why.Why.Why}
use Rattle.lft_whole.specs.declared.tree.{Action.Action, Connection.Connection, Effect.Effect, Expression.Expression, Timer.Timer, Trigger.Trigger}
use Rattle.lft_whole.specs.declared.tree.WrittenValue.{WrittenValue}
use Rattle.lft_classes.specs.declared.shapes.{GivenValue.GivenValue, InheritedParameter.InheritedParameter, Shape.Shape}
use Rattle.lft_elaborate.specs.{declared.settings.Settings.Settings, inner.{Settings.shape_at, Refused.IsAt}, Values.is_forever}
use Rattle.lft_lower.specs.inner.{Meanings.{Meanings.Here, Refused.{IsOfOne, IsOfReference}}, Lowered.is_spaced, Needed.is_timed, Programs.decentralized_in}
use Rattle.lft_lower.specs.inner.Times.{named_by, time_of_value}
use Rattle.lft_whole.specs.declared.sources.why.Why.TheVariants as why
use Rattle.lft_whole.specs.declared.tree.Effect.TheVariants as effects
use Rattle.lft_whole.specs.declared.tree.Trigger.TheVariants as triggers
use Rattle.lft_whole.specs.declared.tree.WrittenValue.TheVariants as value

-- ---- times

-- the value writes out no time, or one past the greatest
abbrev pub IsNoWritten : WrittenValue → Why → Type 0
IsNoWritten v w = ((w ≡ why.NoTime) × (time_of_value v ≡ None)) ⊎ ((w ≡ why.TimeTooLong) × IsSomeAnd (time_of_value v) (λ time. longest < nanoseconds time))

-- the value is a parameter that is no time; or it is no parameter, and writes out no time
abbrev pub IsNoTime : Shape → WrittenValue → Why → Type 0
IsNoTime shape v w = ((w ≡ why.NotOfTypeTime) × IsSomeAnd (named_by shape v) (λ p. p.parameter.now.is_time ≡ false)) ⊎ ((named_by shape v ≡ None) × IsNoWritten v w)

-- the refusal is of a time that is written there and is none
abbrev pub IsOfTime : Shape → ℕ → Option Expression → FileRefusal → Type 0
IsOfTime shape file value r = IsSomeAnd value (λ e. IsAt file e.at r × IsNoTime shape e.value r.why)

-- the refusal is of a period that isn't `forever`
abbrev pub IsOfPeriod : Shape → ℕ → Option Expression → FileRefusal → Type 0
IsOfPeriod shape file value r = IsSomeAnd value (λ e. (is_forever e.value ≡ false) × IsAt file e.at r × IsNoTime shape e.value r.why)

-- the refusal is of the offset or the period of a timer
abbrev pub IsOfTimer : Shape → ℕ → Timer → FileRefusal → Type 0
IsOfTimer shape file t r = IsOfTime shape file t.offset r ⊎ IsOfPeriod shape file t.period r

-- the refusal is of a least spacing that isn't 0 of a logical action, or of an action's delay
abbrev pub IsOfAction : Shape → ℕ → Action → FileRefusal → Type 0
IsOfAction shape file a r = ((is_spaced a ≡ true) × (r.why ≡ why.Spacing) × IsSomeAnd a.spacing (λ e. IsAt file e.at r)) ⊎ IsOfTime shape file a.min_delay r

-- the value is a word
abbrev pub is_word : WrittenValue → Bool
is_word (value.Word word) = true
is_word _ = false

-- the value is a name; or it is none, and writes out no time
abbrev pub IsNoDefault : WrittenValue → Why → Type 0
IsNoDefault v w = ((w ≡ why.DefaultByName) × (is_word v ≡ true)) ⊎ ((is_word v ≡ false) × IsNoWritten v w)

-- a parameter from which a time is read isn't of type `time`; or it is of the main reactor and has no default
abbrev pub LacksTime : Bool → InheritedParameter → Why → Type 0
LacksTime main p w = ((w ≡ why.StandsForTime) × (p.parameter.now.is_time ≡ false)) ⊎ ((w ≡ why.MissingInMain) × (main ≡ true) × (p.parameter.now.default ≡ None))

-- the refusal is of such a parameter, or of its default
abbrev pub IsOfDefault : Bool → InheritedParameter → FileRefusal → Type 0
IsOfDefault main p r = (IsAt p.file p.parameter.now.name.at r × LacksTime main p r.why) ⊎ IsSomeAnd p.parameter.now.default (λ e. IsAt p.file e.at r × IsNoDefault e.value r.why)

-- the refusal is of the parameter of this number, from which a time is read
abbrev pub IsOfParameter : Bool → Shape → ℕ → FileRefusal → Type 0
IsOfParameter main shape n r = (is_timed shape n ≡ true) × IsSomeAnd (slice_get shape.parameters.items n) (λ p. IsOfDefault main p r)

-- the refusal is of a value for a parameter from which a time is read: it is no time around, or there is no such parameter
abbrev pub IsOfGiven : Shape → ℕ → Shape → GivenValue → FileRefusal → Type 0
IsOfGiven outer file inner g r = (is_timed inner g.parameter ≡ true) × IsAt file g.value.now.at r × (IsNoTime outer g.value.now.value r.why ⊎ ((r.why ≡ why.MissingTime) × (slice_get inner.parameters.items g.parameter ≡ None)))

-- ---- reactions

-- the refusal is of a trigger: it is of a mode, or means nothing
abbrev pub IsOfTrigger : Here → ℕ → Trigger → FileRefusal → Type 0
IsOfTrigger h file (triggers.Reset at) refusal = IsAt file at refusal × (refusal.why ≡ why.Mode)
IsOfTrigger h file (triggers.Reference r) refusal = IsOfReference h file r refusal
IsOfTrigger h file _ refusal = ⊥

-- the refusal is of an effect: it is of a mode, or means nothing
abbrev pub IsEffectRefused : Here → ℕ → Effect → FileRefusal → Type 0
IsEffectRefused h file (effects.Mode at) refusal = IsAt file at refusal × (refusal.why ≡ why.Mode)
IsEffectRefused h file (effects.Reference r) refusal = IsOfReference h file r refusal

-- ---- connections

-- the refusal is of a reference on one of the sides
abbrev pub IsOfSides : Here → ℕ → Connection → FileRefusal → Type 0
IsOfSides h file c r = IsOfOne h file c.sources.items r ⊎ IsOfOne h file c.destinations.items r

-- the refusal is of a physical connection, of its delay, or of a reference in it
abbrev pub IsOfConnection : Here → ℕ → Connection → FileRefusal → Type 0
IsOfConnection h file c r = ((c.is_physical ≡ true) × IsAt file c.arrow r × (r.why ≡ why.PhysicalConnection)) ⊎ IsOfTime h.shape file c.delay r ⊎ IsOfSides h file c r

-- ---- programs

-- the refusal is of the word that the coordination is decentralized, in the first file
abbrev pub IsDecentralized : List SourceFile → FileRefusal → Type 0
IsDecentralized files r = IsSomeAnd (decentralized_in files) (λ token. IsAt 0 token r × (r.why ≡ why.Decentralized))

-- the refusal is of that word, of a program whose main reactor is federated
abbrev pub IsOfFederation : List SourceFile → Settings → FileRefusal → Type 0
IsOfFederation files s r = IsSomeAnd (shape_at s 0) (λ main. (main.class.reactor.now.is_federated ≡ true) × IsDecentralized files r)

-- At which tokens of all files core reactors, their members and the parts of these stand.
use Rattle.std.specs.Prelude.{◌≡◌, ◌⊎◌, ℕ, Bool, List, [], ◌∷◌, ◌++◌, Option, Some, None, filter_map, flat_map, if◌then◌else◌, length, map, option_map, slice_get, slice_index, unwrap_or}
use Rattle.std.specs.{List.All, Option.option_and_then}
use Rattle.lft_tree.specs.Tree.{TriggerTree}
use Rattle.lft_tree.specs.declared.tree.{Assignment.Assignment, Item.Item, Member.Member as Core, Reactor.Reactor as CoreReactor, TimeExpression.TimeExpression}
use Rattle.lft_tree.specs.declared.tree.Trigger.{Trigger as CoreTrigger}
use Rattle.lft_whole.specs.declared.tree.{Effect.Effect, Expression.Expression, Instance.Instance, Member.Member, Reaction.Reaction, Reactor.Reactor}
use Rattle.lft_whole.specs.declared.tree.Trigger.{Trigger}
use Rattle.lft_whole.specs.declared.sources.source.SourceFile.{SourceFile}
use Rattle.lft_whole.specs.inner.Sources.Tokens.{number_at}
use Rattle.lft_classes.specs.{inner.Shapes.{child_at, name_token}, declared.shapes.{GivenValue.GivenValue, Inherited.Inherited, Shape.Shape}}
use Rattle.lft_elaborate.specs.{Channels.Channels.below, inner.{Channels.Channels.{joined, left_channel}, Meanings.shape_inside, Settings.shape_at}}
use Rattle.lft_elaborate.specs.{declared.settings.Settings.Settings, Values.is_forever}
use Rattle.lft_lower.specs.inner.{Meanings.{Meanings.Here, Standing.{all_tokens, ref_tokens, tokens_of}}, Lowered.{all_triggers, time_given}, Needed.is_timed}
use Rattle.lft_tree.specs.declared.tree.Item.TheVariants as items
use Rattle.lft_tree.specs.declared.tree.Member.TheVariants as kinds
use Rattle.lft_tree.specs.declared.tree.TimeExpression.TheVariants as times
use Rattle.lft_tree.specs.declared.tree.Trigger.TheVariants as core_triggers
use Rattle.lft_whole.specs.declared.tree.Effect.TheVariants as effects
use Rattle.lft_whole.specs.declared.tree.Member.TheVariants as member
use Rattle.lft_whole.specs.declared.tree.Trigger.TheVariants as triggers

-- ---- core members

-- the token at which a core member stands: that of its name, of the word `reaction`, or of the arrow of a connection
abbrev pub stands_at : Core → ℕ
stands_at (kinds.Port x) = x.at
stands_at (kinds.Timer x) = x.at
stands_at (kinds.Action x) = x.at
stands_at (kinds.State x) = x.start
stands_at (kinds.Preamble x) = x.start
stands_at (kinds.Reaction x) = x.at
stands_at (kinds.Instance x) = x.at
stands_at (kinds.Connection x) = x.arrow

-- the token of a time
abbrev pub time_token : TimeExpression → ℕ
time_token (times.Written time at) = at
time_token (times.Parameter name at) = at

-- the same, where there is a time
abbrev pub time_tokens : Option TimeExpression → List ℕ
time_tokens None = []
time_tokens (Some time) = time_token time ∷ []

-- the token of a trigger that is a reference
abbrev pub token_of_trigger : CoreTrigger → List ℕ
token_of_trigger (core_triggers.Reference r) = r.at ∷ []
token_of_trigger t = []

-- the tokens of a value that is given and of its time
abbrev pub given_tokens : Assignment → List ℕ
given_tokens a = a.at ∷ time_token a.value ∷ []

-- the tokens of the parts of a core member, in order: its references and times; of an instance its reactor and what it gives
abbrev pub parts_at : Core → List ℕ
parts_at (kinds.Timer t) = time_tokens t.offset ++ time_tokens t.period
parts_at (kinds.Action a) = time_tokens a.min_delay
parts_at (kinds.Reaction r) = flat_map token_of_trigger r.triggers.items ++ (ref_tokens r.uses.items ++ ref_tokens r.effects.items)
parts_at (kinds.Instance i) = i.reactor_at ∷ flat_map given_tokens i.given.items
parts_at (kinds.Connection c) = ref_tokens c.sources.items ++ (ref_tokens c.destinations.items ++ time_tokens c.delay)
parts_at m = []

-- ---- what they stand for: the tokens of a file have these numbers

-- the token of a time, where one is written
abbrev pub written_tokens : (ℕ → ℕ) → Option Expression → List ℕ
written_tokens number None = []
written_tokens number (Some e) = number e.at ∷ []

-- the token of a period that isn't `forever`
abbrev pub period_tokens : (ℕ → ℕ) → Option Expression → List ℕ
period_tokens number None = []
period_tokens number (Some e) = if is_forever e.value then [] else number e.at ∷ []

-- the tokens of the places of a trigger
abbrev pub tokens_of_trigger : (ℕ → ℕ) → Here → Trigger → List ℕ
tokens_of_trigger number h (triggers.Reference r) = tokens_of number h r
tokens_of_trigger number h t = []

-- the tokens of the places of an effect
abbrev pub tokens_of_effect : (ℕ → ℕ) → Here → Effect → List ℕ
tokens_of_effect number h (effects.Mode at) = []
tokens_of_effect number h (effects.Reference r) = tokens_of number h r

-- where there are no triggers, the action without events stands in their place at this token
abbrev pub or_at : ℕ → List TriggerTree → List ℕ → List ℕ
or_at at [] tokens = at ∷ []
or_at at (t ∷ ts) tokens = tokens

-- the tokens of the triggers of a reaction; the action without events stands at the word `reaction`
abbrev pub all_trigger_tokens : (ℕ → ℕ) → Here → Reaction → List ℕ
all_trigger_tokens number h r = or_at (number r.at) (all_triggers h r) (flat_map (tokens_of_trigger number h) r.triggers.items)

-- the tokens of all that a reaction names
abbrev pub reaction_tokens : (ℕ → ℕ) → Here → Reaction → List ℕ
reaction_tokens number h r = all_trigger_tokens number h r ++ (all_tokens number h r.uses.items ++ flat_map (tokens_of_effect number h) r.effects.items)

-- what is given to a parameter from which a time is read stands at the value
abbrev pub given_token : (ℕ → ℕ) → Shape → GivenValue → List ℕ
given_token number shape g = unwrap_or (option_map (λ _. number g.value.now.at ∷ number g.value.now.at ∷ []) (time_given shape g)) []

-- the tokens of what the instance of this number gives
abbrev pub tokens_of_given : (ℕ → ℕ) → Here → ℕ → List ℕ
tokens_of_given number h n = unwrap_or (option_and_then (λ child. option_map (λ shape. flat_map (given_token number shape) child.given.items) (shape_inside h.settings.shapes.items h.shape n)) (child_at h.shape.children.items n)) []

-- an instance, or each of a bank, names its reactor behind `new`
abbrev pub instance_tokens : (ℕ → ℕ) → Here → ℕ → Instance → List ℕ
instance_tokens number h n i = number i.reactor.at ∷ tokens_of_given number h n

-- the tokens of a pair of two sides, and of the delay
abbrev pub pair_tokens : List ℕ → List ℕ → Bool → List ℕ → ℕ → List ℕ
pair_tokens left right broadcast delay k = slice_index left (left_channel (length left) broadcast k) ∷ slice_index right k ∷ delay

-- the same of each pair
abbrev pub pairs_tokens : List ℕ → List ℕ → Bool → List ℕ → List (List ℕ)
pairs_tokens left right broadcast delay = map (pair_tokens left right broadcast delay) (below (joined (length left) (length right) broadcast))

-- each pair is a connection of its own; or one joins them all
abbrev pub AreSidesAt : List ℕ → List ℕ → Bool → List ℕ → List (List ℕ) → Type 0
AreSidesAt left right broadcast delay parts = (parts ≡ pairs_tokens left right broadcast delay) ⊎ (parts ≡ (left ++ (right ++ delay)) ∷ [])

-- The parts of what the member of this number becomes stand at the tokens of what they are made of: a reference at its first name, a time where it is written, the reactor of an instance behind `new`.
abbrev pub ArePartsAt : (ℕ → ℕ) → Here → ℕ → Member → List (List ℕ) → Type 0
ArePartsAt number h n (member.Timer timer) parts = parts ≡ (written_tokens number timer.offset ++ period_tokens number timer.period) ∷ []
ArePartsAt number h n (member.Action action) parts = parts ≡ written_tokens number action.min_delay ∷ []
ArePartsAt number h n (member.Reaction reaction) parts = flat_map (λ tokens. tokens) parts ≡ reaction_tokens number h reaction
ArePartsAt number h n (member.Instance instance) parts = All (λ tokens. tokens ≡ instance_tokens number h n instance) parts
ArePartsAt number h n (member.Connection c) parts = AreSidesAt (all_tokens number h c.sources.items) (all_tokens number h c.destinations.items) c.is_broadcast (written_tokens number c.delay) parts
ArePartsAt number h n m parts = Unit {0}

-- ---- members

-- the token at which a member of the source stands: that of its name, of the word `reaction`, or of the arrow of a connection
abbrev pub declared_at : Member → ℕ
declared_at (member.Reaction x) = x.at
declared_at (member.Connection x) = x.arrow
declared_at m = name_token m

-- the number of a token of this file, among those of all files
abbrev pub number_in : List SourceFile → ℕ → ℕ → ℕ
number_in files file token = number_at files (record { file = file; token = token })

-- core members, which stand at this token, are put behind those that there were, and their parts stand so
pub record AddsAt (old new : List Core) (at : ℕ) (Are : List (List ℕ) → Type 0) : Type 0 where
  pub more : List Core
  pub stand : All (λ m. stands_at m ≡ at) more
  pub parts : Are (map parts_at more)
  pub put : new ≡ old ++ more

-- the core members are what these members become, one after another; each stands at the token of its member, and its parts at those of theirs
pub data StandAtTokens (files : List SourceFile) (h : Here) : List Inherited → List Core → Type 0 where
  none_at : StandAtTokens files h [] []
  more_at : (front : List Inherited) (m : Inherited) (old new : List Core) → StandAtTokens files h front old → AddsAt old new (number_in files m.file (declared_at m.member.now)) (ArePartsAt (number_in files m.file) h (length front) m.member.now) → StandAtTokens files h (front ++ m ∷ []) new

-- ---- reactors

-- the token of a reactor's name, or of the word at which one without a name begins
abbrev pub head_at : Reactor → ℕ
head_at r = unwrap_or (option_map (λ name. name.at) r.name) r.at

-- the token of the parameter of this number, if a time is read from it
abbrev pub parameter_token : List SourceFile → Shape → ℕ → Option ℕ
parameter_token files shape n = if is_timed shape n then option_map (λ p. number_in files p.file p.parameter.now.name.at) (slice_get shape.parameters.items n) else None

-- the core reactor of a setting stands at the name of its reactor, its parameters at theirs, and its members with their parts where those of the source do
pub record IsPlaced (files : List SourceFile) (s : Settings) (setting : ℕ) (shape : Shape) (r : CoreReactor) : Type 0 where
  pub reactor : r.at ≡ number_in files shape.class.file (head_at shape.class.reactor.now)
  pub parameters : map (λ p. p.at) r.parameters.items ≡ filter_map (parameter_token files shape) (below (length shape.parameters.items))
  pub members : StandAtTokens files (record { settings = s; setting = setting; shape = shape }) shape.members.items r.members.items

-- the core reactor of each setting and all that is in it stand at the tokens of the source that they come from
pub data ArePlaced (files : List SourceFile) (s : Settings) : List ℕ → List Item → Type 0 where
  none_placed : ArePlaced files s [] []
  more_placed : (front : List ℕ) (setting : ℕ) (shape : Shape) (old : List Item) (r : CoreReactor) → ArePlaced files s front old → shape_at s setting ≡ Some shape → IsPlaced files s setting shape r → ArePlaced files s (front ++ setting ∷ []) (old ++ items.Reactor r ∷ [])

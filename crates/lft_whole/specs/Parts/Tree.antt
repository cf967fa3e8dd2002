-- The tree of a whole text, as contracts see it: a text is a list of bytes, a place the number of a token.
use Rattle.std.specs.Prelude.{ℕ, Bool, List, Option}
use Rattle.lft_tree.specs.declared.tree.TimeUnit.{TimeUnit}
use Rattle.lft_whole.specs.declared.tree.{Foreign.Foreign, Timeout.Timeout}

-- a name: its letters and its place
pub record NameTree : Type 0 where
  pub text : List ℕ
  pub at : ℕ

-- a name, or a port of what it names
pub record ReferenceTree : Type 0 where
  pub head : NameTree
  pub port : Option NameTree
  pub is_interleaved : Bool

-- of a number: whether it is negative, its value and unit
pub data ValueTree : Type 0 where
  NumberValue : Bool → ℕ → Option TimeUnit → ValueTree
  WordValue : List ℕ → ValueTree
  CodeValue : ValueTree
  OtherValue : ValueTree

-- a value and its place
pub record ExpressionTree : Type 0 where
  pub value : ValueTree
  pub at : ℕ

-- what a term of a width counts
pub data CountTree : Type 0 where
  NumberCount : ℕ → CountTree
  WordCount : List ℕ → CountTree
  WidthOf : ReferenceTree → CountTree
  CodeCount : CountTree
  OpenCount : CountTree

-- a term of a width and its place
pub record TermTree : Type 0 where
  pub count : CountTree
  pub at : ℕ

-- a parameter: whether it is a time, by its type or, without one, by its default; and the value it has by default
pub record ParameterTree : Type 0 where
  pub name : NameTree
  pub is_time : Bool
  pub default : Option ExpressionTree

-- a width is the list of its terms
pub record PortTree : Type 0 where
  pub name : NameTree
  pub is_input : Bool
  pub width : Option (List TermTree)

-- a timer
pub record TimerTree : Type 0 where
  pub name : NameTree
  pub offset : Option ExpressionTree
  pub period : Option ExpressionTree

-- an action
pub record ActionTree : Type 0 where
  pub name : NameTree
  pub is_physical : Bool
  pub min_delay : Option ExpressionTree
  pub spacing : Option ExpressionTree

-- what triggers a reaction
pub data TriggerTree : Type 0 where
  AtStartup : TriggerTree
  AtShutdown : TriggerTree
  AtReset : ℕ → TriggerTree
  OnReference : ReferenceTree → TriggerTree

-- what a reaction may write
pub data EffectTree : Type 0 where
  ToMode : ℕ → EffectTree
  ToReference : ReferenceTree → EffectTree

-- a reaction: its place is that of its first word
pub record ReactionTree : Type 0 where
  pub triggers : List TriggerTree
  pub uses : List ReferenceTree
  pub effects : List EffectTree
  pub at : ℕ

-- a value that an instance gives a parameter
pub record AssignmentTree : Type 0 where
  pub name : NameTree
  pub value : ExpressionTree

-- an instance
pub record InstanceTree : Type 0 where
  pub name : NameTree
  pub width : Option (List TermTree)
  pub reactor : NameTree
  pub given : List AssignmentTree
  pub is_enclave : Bool

-- a connection: its place and that of its arrow
pub record ConnectionTree : Type 0 where
  pub sources : List ReferenceTree
  pub is_broadcast : Bool
  pub is_physical : Bool
  pub destinations : List ReferenceTree
  pub delay : Option ExpressionTree
  pub at : ℕ
  pub arrow : ℕ

-- a member of a reactor
pub data MemberTree : Type 0 where
  PortMember : PortTree → MemberTree
  TimerMember : TimerTree → MemberTree
  ActionMember : ActionTree → MemberTree
  ReactionMember : ReactionTree → MemberTree
  InstanceMember : InstanceTree → MemberTree
  ConnectionMember : ConnectionTree → MemberTree
  ForeignMember : Foreign → ℕ → MemberTree

-- a reactor
pub record ReactorTree : Type 0 where
  pub is_main : Bool
  pub is_federated : Bool
  pub name : Option NameTree
  pub parameters : List ParameterTree
  pub bases : List NameTree
  pub members : List MemberTree
  pub at : ℕ

-- a name that is imported, and the one that stands for it here
pub record ImportedTree : Type 0 where
  pub name : NameTree
  pub alias : NameTree

-- an import: the path is without its quotes
pub record ImportTree : Type 0 where
  pub names : List ImportedTree
  pub path : List ℕ
  pub at : ℕ

-- a file
pub record FileTree : Type 0 where
  pub target : Option NameTree
  pub timeouts : List Timeout
  pub decentralized : Option ℕ
  pub imports : List ImportTree
  pub reactors : List ReactorTree

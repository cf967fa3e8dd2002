-- The first cause of refusal among lists of causes one after another.
use Rattle.std.proofs.Common.{◌≡◌, ◌≢◌, ℕ, List, [], ◌∷◌, ◌++◌, Any, inl, inr, Result, Ok, Err, IfErr, refl, sym, subst}
use Rattle.std.specs.Result.{IsErrAnd}
use Rattle.lft_tree.specs.{Tree.{FileTree, reactors_of}, View.tree_view, declared.ast.Ast.Ast}
use Rattle.lft_resolve.specs.Causes.{IsFirst, NoneHolds, TooMany, HasLongTime, DelayTooLong, causes}
use Rattle.lft_program.specs.inner.{Links.last_causes, Tables.IsLawful, Faults.reactor_causes, Refusals.{Tells, cause_of, of_nest}, Limits.IsExcess}
use Rattle.lft_program.specs.declared.nesting.{limits.Excess.Excess, nest.NestFault.NestFault}
use Rattle.lft_program.proofs.Excesses.{excess_is_cause}
use Rattle.lft_program.specs.declared.nesting.nest.NestFault.TheVariants as nests
use Rattle.lft_program.specs.declared.refusal.Refusal.TheVariants as refusals

pub IsFirst-left : (xs ys : List (ℕ × Type 0)) (n : ℕ) → IsFirst xs n → IsFirst (xs ++ ys) n
IsFirst-left [] ys n f = absurd f
IsFirst-left ((k, C) ∷ xs) ys n (inl here) = inl here
IsFirst-left ((k, C) ∷ xs) ys n (inr (none, later)) = inr (none, IsFirst-left xs ys n later)

pub IsFirst-right : (xs ys : List (ℕ × Type 0)) (n : ℕ) → NoneHolds xs → IsFirst ys n → IsFirst (xs ++ ys) n
IsFirst-right [] ys n none f = f
IsFirst-right ((k, C) ∷ xs) ys n (not, none) f = inr (not, IsFirst-right xs ys n none f)

pub NoneHolds-both : (xs ys : List (ℕ × Type 0)) → NoneHolds xs → NoneHolds ys → NoneHolds (xs ++ ys)
NoneHolds-both [] ys none more = more
NoneHolds-both ((k, C) ∷ xs) ys (not, none) more = (not, NoneHolds-both xs ys none more)

pub NoneHolds-left : (xs ys : List (ℕ × Type 0)) → NoneHolds (xs ++ ys) → NoneHolds xs
NoneHolds-left [] ys none = tt
NoneHolds-left ((k, C) ∷ xs) ys (not, none) = (not, NoneHolds-left xs ys none)

-- a first cause is one that holds
pub first_holds : (xs : List (ℕ × Type 0)) (n : ℕ) → IsFirst xs n → NoneHolds xs → ⊥
first_holds [] n f none = f
first_holds ((k, C) ∷ xs) n (inl here) none = none.0 here.1
first_holds ((k, C) ∷ xs) n (inr later) none = first_holds xs n later.1 none.1

-- the causes that are looked for once none holds in a reactor alone
abbrev pub rest : FileTree → List (ℕ × Type 0)
rest tree = (15, TooMany tree) ∷ last_causes tree

pub first_of_reactors : (tree : FileTree) (n : ℕ) → IsFirst (reactor_causes tree) n → IsFirst (causes tree) n
first_of_reactors tree n f = IsFirst-left (reactor_causes tree) (rest tree) n f

pub first_of_links : (tree : FileTree) (n : ℕ) → NoneHolds (reactor_causes tree) → (TooMany tree → ⊥) → IsFirst (last_causes tree) n → IsFirst (causes tree) n
first_of_links tree n none few f = IsFirst-right (reactor_causes tree) (rest tree) n none (inr (few, f))

pub none_of_all : (tree : FileTree) → NoneHolds (reactor_causes tree) → (TooMany tree → ⊥) → NoneHolds (last_causes tree) → NoneHolds (causes tree)
none_of_all tree none few last = NoneHolds-both (reactor_causes tree) (rest tree) none (few, last)

pub lawful : (tree : FileTree) → NoneHolds (reactor_causes tree) → IsLawful tree
lawful tree none = record { first = (none.0, (none.1.0, (none.1.1.0, (none.1.1.1.0, tt)))); later = none.1.1.1.1.1 }

pub in_time : (tree : FileTree) → NoneHolds (last_causes tree) → Any HasLongTime (reactors_of tree) → ⊥
unfolding DelayTooLong
in_time tree none long = none.1.0 (inl long)

-- what holds of an error holds of it as it is handed on
pub handed_on : {A E : Type 0} (P : E → Type 0) (e : E) (r : Result A E) → P e → IsErrAnd r (λ x. x ≡ e) → IfErr r P
handed_on P e (Ok v) p h = tt
handed_on P e (Err x) p h = subst P (sym h) p

-- a limit that is passed comes behind the causes of reactors
pub nest_first : (tree : FileTree) (f : NestFault) → NoneHolds (reactor_causes tree) → ((e : Excess) → f ≡ nests.TooMany e → IsExcess tree e) → of_nest f ≢ refusals.NoMemory → IsFirst (causes tree) (cause_of (of_nest f))
nest_first tree (nests.TooMany e) none many other = IsFirst-right (reactor_causes tree) (rest tree) 15 none (inl (refl, excess_is_cause tree e (many e refl)))
nest_first tree nests.NoMemory none many other = absurd (other refl)

-- ---- what faults tell

pub nest_tells : (ast : Ast) (f : NestFault) → ((e : Excess) → f ≡ nests.TooMany e → IsExcess (tree_view ast) e) → Tells ast (of_nest f)
nest_tells ast (nests.TooMany e) many = many e refl
nest_tells ast nests.NoMemory many = tt

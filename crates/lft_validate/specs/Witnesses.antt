-- What each witness shows of the reactors of a file.
use Rattle.std.specs.Prelude.{◌≡◌, ◌<◌, List, true, map, filter_map, Any, Contains}
use Rattle.lft_tree.specs.{Tree.{ReactorTree, nanoseconds}, View.{reactor_view, ref_view}, declared.tree.Reactor.Reactor}
use Rattle.lft_resolve.specs.{Causes.{NoMain, longest}, declared.{causes.ProgramFault.ProgramFault, kinds.Role.TheVariants.{Effect, Destination}}}
use Rattle.lft_validate.specs.{Members.{all_names, declarations, own_name}, Findings.{IsBefore, IsFinding, StandsTwice, fault_found, name_at}}
use Rattle.lft_validate.specs.declared.{finding.Finding.Finding, witness.Witness.Witness}
use Rattle.lft_resolve.specs.declared.causes.ProgramFault.TheVariants as faults
use Rattle.lft_validate.specs.declared.witness.Witness.TheVariants as witness

-- the finding is true of some member of the reactor
abbrev pub HasFinding : List ReactorTree → Reactor → Finding → Type 0
HasFinding reactors r f = Any (λ m. IsFinding reactors (reactor_view r) m f) r.members.items

-- what the witness shows of a file that has these reactors
abbrev pub Shows : List Reactor → Witness → Type 0
Shows reactors witness.NoMain = NoMain (map reactor_view reactors)
Shows reactors (witness.TwoMains first second) = IsBefore reactors first.now second.now × (first.now.is_main ≡ true) × (second.now.is_main ≡ true)
Shows reactors (witness.SameReactors first second) = StandsTwice (λ p. p.0) (filter_map own_name reactors) (name_at first) (name_at second)
Shows reactors (witness.DeclaredTwice r first second) = Contains reactors r.now × StandsTwice (λ p. p.0) (declarations r.now) (name_at first) (name_at second)
Shows reactors (witness.Member r f) = Contains reactors r.now × HasFinding (map reactor_view reactors) r.now f
Shows reactors (witness.JoinedTwice r first second) = Contains reactors r.now × StandsTwice ref_view (all_names Destination r.now) first.now second.now
Shows reactors (witness.JoinedAndWritten r joined written) = Contains reactors r.now × Contains (all_names Destination r.now) joined.now × Contains (all_names Effect r.now) written.now × (ref_view joined.now ≡ ref_view written.now)
Shows reactors (witness.LongDefault r p) = Contains reactors r.now × Contains r.now.parameters.items p.now × (longest < nanoseconds p.now.default)

-- the cause that a witness shows
abbrev pub fault_shown : Witness → ProgramFault
fault_shown witness.NoMain = faults.NoMain
fault_shown (witness.TwoMains first second) = faults.TwoMains
fault_shown (witness.SameReactors first second) = faults.DuplicateName
fault_shown (witness.DeclaredTwice r first second) = faults.DuplicateName
fault_shown (witness.Member r f) = fault_found f
fault_shown (witness.JoinedTwice r first second) = faults.TwoSources
fault_shown (witness.JoinedAndWritten r joined written) = faults.TwoSources
fault_shown (witness.LongDefault r p) = faults.DelayTooLong

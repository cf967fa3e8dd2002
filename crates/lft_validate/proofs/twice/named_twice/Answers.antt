use Rattle.std.proofs.Common.{⊎_elim, IsSomeAnd, map, subst}
use Rattle.lft_tree.specs.{Tree.reaction_in, View.{member_view, ref_view}, declared.tree.Member.Member}
use Rattle.lft_resolve.specs.{Causes.{IsTwice, NamesTwice}, declared.kinds.Role.TheVariants.{Read, Effect}}
use Rattle.lft_validate.{specs.{Findings.IsFinding, Members.names_of}, proofs.InMembers.reading}
use Rattle.lft_lists.proofs.Options.{found, lacking, ok_none}
use Rattle.lft_tree.specs.declared.tree.Member.TheVariants as members
use Rattle.lft_validate.proofs.twice.named_twice.Goals as goal

twice_named : (m : Member) → (IsTwice (map ref_view (names_of Read m)) → ⊥) → (IsTwice (map ref_view (names_of Effect m)) → ⊥) → IsSomeAnd (reaction_in (member_view m)) NamesTwice → ⊥
twice_named (members.Reaction x) reads effects two = ⊎_elim (λ a. reads (subst IsTwice (reading x) a)) (λ b. effects b) two
twice_named _ reads effects two = absurd two

pub returns-in-Some-clause-some : goal.returns-in-Some-clause-some
returns-in-Some-clause-some c rs r = found (IsFinding rs r c.args.member.now) c.in_ok-found-in-Reaction.field-0 c.in-Some.found (c.in_ok-found-in-Reaction.ensures.some rs r) c.in-Some.is

pub returns-in_default-clause-none : goal.returns-in_default-clause-none
returns-in_default-clause-none c =
    let member = c.args.member.now in
    let reads = lacking (IsTwice (map ref_view (names_of Read member)) → ⊥) c.in_ok-found-in-Reaction.field-0 c.in_ok-found-in-Reaction.ensures.none c.in_default.is in
    ok_none (IsTwice (map ref_view (names_of Effect member)) → ⊥) (IsSomeAnd (reaction_in (member_view member)) NamesTwice → ⊥) c.twice_in_role-in-Reaction.result (λ effects. twice_named member reads effects) c.twice_in_role-in-Reaction.ensures.none

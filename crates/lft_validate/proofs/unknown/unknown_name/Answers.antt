use Rattle.std.proofs.Common.{◌≡◌, inl, inr, Any, get_or, arith}
use Rattle.std.proofs.lemmas.Bool.{cases_lt}
use Rattle.lft_resolve.specs.declared.kinds.Role.TheVariants.{Read}
use Rattle.lft_validate.{specs.{Findings.IsNothing, Members.names_of}, proofs.Roles.{roles, place_of_role, role_there, place_within, last}}
use Rattle.lft_lists.proofs.Options.{lacking}
use Rattle.lft_validate.proofs.unknown.unknown_name.Goals as goal

pub loop-role-preserved : goal.loop-role-preserved
loop-role-preserved c rs r file own k role lt at some =
    let member = c.args.member.now in
    elim (cases_lt k c.loop-role.role-index) [
      | inl l ↦ c.loop-role.invariant rs r file own k role l at some
      | inr g ↦ (
          let e : k ≡ c.loop-role.role-index = omega (arith, g, lt) in
          let none = lacking (Any (IsNothing rs r) (names_of (get_or roles c.loop-role.role-index Read) member) → ⊥) c.in_ok-found.field-0 (c.in_ok-found.ensures.none rs r file own) c.in_default.is in
          last (λ role. Any (IsNothing rs r) (names_of role member)) k c.loop-role.role-index role e at none some
          )
    ]

pub returns-clause-none : goal.returns-clause-none
returns-clause-none c rs r file own (role, some) = (let past = c.loop-role-test.false in let low = place_within role in c.loop-role.invariant rs r file own (place_of_role role) role (omega (arith, past, low)) (role_there role) some)

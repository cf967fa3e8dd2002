use Rattle.std.proofs.Common.{◌≡◌, Bool, true, false, not, IsTrue, ◌↔◌, Option, Some, None, find, is_some, string_bytes, bytes_eq, refl, subst}
use Rattle.lft_tree.specs.Tree.{ParameterTree}
use Rattle.lft_validate.proofs.unknown.is_for_none.Goals as goal

lacks : (b : Bool) (o : Option ParameterTree) → b ≡ is_some o → IsTrue (not b) ↔ (o ≡ None)
lacks true None e = absurd (cc)
lacks true (Some x) e = (λ t. absurd (cc), λ n. absurd (cc))
lacks false None e = (λ t. refl, λ n. refl)
lacks false (Some x) e = absurd (cc)

pub returns : goal.returns
returns c r is =
    let name = string_bytes c.args.assignment.now.name in
    lacks c.has_parameter.result (find (λ p. bytes_eq name p.name) r.parameters) (subst (λ n. c.has_parameter.result ≡ is_some (find (λ p. bytes_eq n p.name) r.parameters)) c.as_str.ensures.value (c.has_parameter.ensures r is))

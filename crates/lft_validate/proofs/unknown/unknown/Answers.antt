use Rattle.std.proofs.Common.{◌≡◌, List, None, Any, IfNone, IsSomeAnd, ⊎_elim}
use Rattle.lft_tree.specs.{Tree.{ReactorTree, instance_in}, View.{member_view, time_view}}
use Rattle.lft_resolve.specs.{Causes.{GivesUnknown, IsUnknownTime}, Kinds.kind_of, inner.Tables.{IsFile, IsOwn}}
use Rattle.lft_validate.{specs.{Members.times_of, inner.Shown.{ShowsUnknown, SomeName}}, proofs.Turns.{both, none_both, weaker}}
use Rattle.lft_lists.proofs.Options.{lacking, none_weaker}
use Rattle.lft_validate.proofs.unknown.unknown.Goals as goal

pub returns-in-None-clause-none : goal.returns-in-None-clause-none
returns-in-None-clause-none c =
    let member = c.args.member.now in
    let result = c.unknown_value_or_time.result in
    weaker
    (λ found. ((rs : List ReactorTree) (r : ReactorTree) → IsFile rs c.args.file.now → IsOwn r c.args.own.now → IfNone found (Any (λ t. IsUnknownTime r (time_view t)) (times_of member) → ⊥)) × ((rs : List ReactorTree) (r : ReactorTree) → IsFile rs c.args.file.now → IsOwn r c.args.own.now → IfNone found (IsSomeAnd (instance_in (member_view member)) (GivesUnknown rs) → ⊥)))
    (λ found. (rs : List ReactorTree) (r : ReactorTree) → IsFile rs c.args.file.now → IsOwn r c.args.own.now → IfNone found (ShowsUnknown rs r member → ⊥))
    result
    (λ found none rs r file own. (
    let names = lacking (SomeName (λ n. kind_of rs r n.1 ≡ None) member → ⊥) c.in_ok-found.field-0 (c.in_ok-found.ensures.none rs r file own) c.in-None.is in
    none_weaker ((Any (λ t. IsUnknownTime r (time_view t)) (times_of member) → ⊥) × (IsSomeAnd (instance_in (member_view member)) (GivesUnknown rs) → ⊥)) (ShowsUnknown rs r member → ⊥) found (λ p shows. ⊎_elim (λ n. names n) (λ b. ⊎_elim (λ t. p.0 t) (λ g. p.1 g) b) shows) (none_both (Any (λ t. IsUnknownTime r (time_view t)) (times_of member) → ⊥) (IsSomeAnd (instance_in (member_view member)) (GivesUnknown rs) → ⊥) found (none.0 rs r file own) (none.1 rs r file own))
    ))
    (both (λ found. (rs : List ReactorTree) (r : ReactorTree) → IsFile rs c.args.file.now → IsOwn r c.args.own.now → IfNone found (Any (λ t. IsUnknownTime r (time_view t)) (times_of member) → ⊥)) (λ found. (rs : List ReactorTree) (r : ReactorTree) → IsFile rs c.args.file.now → IsOwn r c.args.own.now → IfNone found (IsSomeAnd (instance_in (member_view member)) (GivesUnknown rs) → ⊥)) result c.unknown_value_or_time.ensures.none c.unknown_value_or_time.ensures.none_given)

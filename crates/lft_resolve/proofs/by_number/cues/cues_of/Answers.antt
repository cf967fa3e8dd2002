use Rattle.std.proofs.Common.{Any, IsSomeAnd, map, filter_map, subst}
use Rattle.std.proofs.lemmas.Result.{err_from_is_err_and}
use Rattle.lft_tree.specs.View.{reaction_view, ref_views, trigger_view}
use Rattle.lft_resolve.specs.{inner.Lost.IsLost, Kinds.{in_role, names_read, ref_in}, declared.kinds.Role.TheVariants.{Effect, Read}}
use Rattle.lft_resolve.proofs.{Joined.Any-role, Somes.{Any-left, Any-right, picked}}
use Rattle.lft_resolve.proofs.by_number.cues.cues_of.Goals as goal

pub returns-in_err-triggers-clause-lost : goal.returns-in_err-triggers-clause-lost
returns-in_err-triggers-clause-lost c =
    let x = reaction_view c.args.reaction.now in
    let p = err_from_is_err_and c.from_residual.result c.from_residual.ensures.1 in
    rw (p.1, p.2)
    (λ other rs r file own. Any-left (IsLost rs r) (in_role Read (names_read x)) (in_role Effect x.effects)
    (Any-role rs r Read (names_read x) (Any-left (λ ref. IsLost rs r (Read, ref)) (filter_map ref_in x.triggers) x.uses
    (picked ref_in (λ ref. IsLost rs r (Read, ref)) x.triggers (subst (λ l. Any (λ t. IsSomeAnd (ref_in t) (λ ref. IsLost rs r (Read, ref))) (map trigger_view l)) c.deref.ensures.value (c.in_err-triggers.ensures.lost other rs r file own))))))

pub returns-in_err-uses-clause-lost : goal.returns-in_err-uses-clause-lost
returns-in_err-uses-clause-lost c =
    let x = reaction_view c.args.reaction.now in
    let p = err_from_is_err_and c.from_residual-in_err-uses.result c.from_residual-in_err-uses.ensures.1 in
    rw (p.1, p.2)
    (λ other rs r file own. Any-left (IsLost rs r) (in_role Read (names_read x)) (in_role Effect x.effects)
    (Any-role rs r Read (names_read x) (Any-right (λ ref. IsLost rs r (Read, ref)) (filter_map ref_in x.triggers) x.uses
    (subst (λ l. Any (λ ref. IsLost rs r (Read, ref)) (ref_views l)) c.deref-2.ensures.value (c.in_err-uses.ensures.lost other rs r file own)))))

pub returns-in_err-effects-clause-lost : goal.returns-in_err-effects-clause-lost
returns-in_err-effects-clause-lost c =
    let x = reaction_view c.args.reaction.now in
    let p = err_from_is_err_and c.from_residual-in_err-effects.result c.from_residual-in_err-effects.ensures.1 in
    rw (p.1, p.2)
    (λ other rs r file own. Any-right (IsLost rs r) (in_role Read (names_read x)) (in_role Effect x.effects)
    (Any-role rs r Effect x.effects (subst (λ l. Any (λ ref. IsLost rs r (Effect, ref)) (ref_views l)) c.deref-3.ensures.value (c.in_err-effects.ensures.lost other rs r file own))))

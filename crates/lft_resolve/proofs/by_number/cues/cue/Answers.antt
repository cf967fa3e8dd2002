use Rattle.std.proofs.Common.{IsSomeAnd, Some, ap, subst, sym, ◌∙◌}
use Rattle.lft_tree.specs.View.{ref_view, trigger_view}
use Rattle.lft_resolve.specs.{inner.{Lost.IsLost, Sheets.IsCue}, Kinds.ref_in, declared.{by_number.sheets.Cue.TheVariants.Timer, kinds.Role.TheVariants.Read}}
use Rattle.lft_resolve.proofs.Lost.{lost_read}
use Rattle.lft_resolve.proofs.by_number.cues.cue.Goals as goal

pub returns-in_ok-narrow-in-Some-clause-ok : goal.returns-in_ok-narrow-in-Some-clause-ok
returns-in_ok-narrow-in-Some-clause-ok c rs r file own =
    let timer = c.in-Some.ensures r own in
    subst (λ t. IsCue rs r (trigger_view t) (Timer c.in_ok-narrow-in-Some.field-0)) (sym c.in-Reference.is) (timer.is_plain, timer.is_place ∙ ap Some (sym c.in_ok-narrow-in-Some.ensures))

pub returns-in-Err-clause-lost : goal.returns-in-Err-clause-lost
returns-in-Err-clause-lost c other rs r file own =
    subst (λ t. IsSomeAnd (ref_in (trigger_view t)) (λ ref. IsLost rs r (Read, ref))) (sym c.in-Reference.is)
    (lost_read rs r (ref_view c.in-Reference.reference) (c.in-None.ensures r own) (c.in-Err.ensures.lost other rs r file own))

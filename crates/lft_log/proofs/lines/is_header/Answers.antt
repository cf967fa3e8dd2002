use Rattle.std.proofs.Common.{◌∷◌, ◌++◌, [], ⊎_elim, inl, inr, subst}
use Rattle.lft_log.{specs.Logs.IsHeaderThen, proofs.Heads.{no_header, rest_of_header, then_more}}
use Rattle.lft_log.proofs.lines.is_header.Goals as goal

pub returns-in-Some : goal.returns-in-Some
returns-in-Some c =
    let line = c.args.line.now in
    let rest = c.in-Some.rest.now in
    let more = then_more rest line (10 ∷ []) c.in-Some.ensures in (
      λ yes. ⊎_elim (λ e. inl (subst (λ x. IsHeaderThen (x ++ 10 ∷ []) (line ++ 10 ∷ [])) e more)) (λ e. inr (subst (λ x. IsHeaderThen (x ++ 10 ∷ []) (line ++ 10 ∷ [])) e more)) (c.is_end.ensures.0 yes),
      λ head. c.is_end.ensures.1 (rest_of_header rest line c.in-Some.ensures head),
    )

pub returns-in-None : goal.returns-in-None
returns-in-None c = ((λ yes. absurd (cc yes)), λ head. absurd (no_header c.args.line.now c.in-None.ensures head))

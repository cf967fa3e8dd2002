use Rattle.std.proofs.Common.{◌≡◌, List, ◌∷◌, ◌++◌, codes, string_bytes, flat_map, sym, ap, ◌∙◌}
use Rattle.lft_ir.proofs.WordsLemmas.Steps.{also}
use Rattle.lft_text_diagnostics.specs.{Candidates.{could_words, other_candidate_words, candidate_words}, inner.Candidates.few}
use Rattle.lft_text_diagnostics.specs.declared.candidate.Candidate.{Candidate}
use Rattle.lft_text_diagnostics.proofs.Helping.{few_all}
use Rattle.lft_text_diagnostics.proofs.candidates.push_candidates.Goals as goal

pub returns : goal.returns
returns c =
    let first = candidate_words c.in-Some.first.now in
    let others = flat_map other_candidate_words c.in-Some.others.now in
    let head = codes "  There could stand: " in
    let parts : c.args.found.now ≡ c.in-Some.first.now ∷ c.in-Some.others.now = let cases = c.in-Some.ensures.cases in cases.0 in
    let all : few c.args.most c.args.found.now ≡ c.in-Some.first.now ∷ c.in-Some.others.now = few_all c.args.most c.args.found.now c.if-found-most.false ∙ parts in
    also _ _ _ (head ++ first ++ others) (codes ".\n")
    (also _ _ _ (head ++ first) others
    (also _ _ _ head first c.in_ok-push_str.ensures.bytes c.in_ok-push_words.ensures) c.in_ok-push_others.ensures)
    c.in_ok-push_str-2.ensures.bytes
    ∙ ap (λ (candidates : List Candidate). string_bytes c.args.out.now ++ could_words candidates) (sym all)

use Rattle.std.proofs.Common.{◌≡◌, ◌≢◌, ◌++◌, ◌∷◌, [], inl, inr, ⊎_elim, Bor, ℕ, IfNone, IfSome, List, Option, Some, None}
use Rattle.std.specs.Prelude.{MatchOption}
use Rattle.std.proofs.lemmas.{Bool.Decides.Decides-eqb, Slice.Eq.strip_prefix_is}
use Rattle.lft_log.{specs.Logs.{IsHead, IsHeaderThen}, proofs.Heads.{head_of, head_then, if_none, none_head}}
use Rattle.lft_log.proofs.lines.below_header.Goals as goal

below : (text rest : List ℕ) (r : Option (Bor (List ℕ))) → IsHeaderThen rest text → MatchOption r ((more : List ℕ) → rest ≢ (13 ∷ 10 ∷ []) ++ more) (λ x. rest ≡ (13 ∷ 10 ∷ []) ++ x.now) → IfSome r (λ x. (head : List ℕ) × (text ≡ head ++ x.now) × IsHead head)
below text rest None is h = tt
below text rest (Some x) is h = let p = head_of text rest (13 ∷ 10 ∷ []) x.now is h in (p.0, p.1, inr p.2)

pub returns-in-Some-clause-some : goal.returns-in-Some-clause-some
returns-in-Some-clause-some c = let p = head_of c.args.lines.now c.in_ok-rest.rest.now (10 ∷ []) c.in-Some.below.now c.in_ok-rest.ensures (strip_prefix_is Decides-eqb c.in_ok-rest.rest.now (10 ∷ []) (Some c.in-Some.below) c.in-Some.ensures.cases) in (p.0, p.1, inl p.2)

pub returns-clause-some : goal.returns-clause-some
returns-clause-some c = below c.args.lines.now c.in_ok-rest.rest.now c.strip_prefix-2.result c.in_ok-rest.ensures (strip_prefix_is Decides-eqb c.in_ok-rest.rest.now (13 ∷ 10 ∷ []) c.strip_prefix-2.result c.strip_prefix-2.ensures.cases)

pub returns-in_err-rest-clause-none : goal.returns-in_err-rest-clause-none
returns-in_err-rest-clause-none c = if_none c.from_residual.result _ (none_head c.args.lines.now c.in_err-rest.ensures)

none : (text rest : List ℕ) (r : Option (Bor (List ℕ))) → IsHeaderThen rest text → ((more : List ℕ) → rest ≢ (10 ∷ []) ++ more) → MatchOption r ((more : List ℕ) → rest ≢ (13 ∷ 10 ∷ []) ++ more) (λ x. rest ≡ (13 ∷ 10 ∷ []) ++ x.now) → IfNone r ((head more : List ℕ) → text ≡ head ++ more → ¬ IsHead head)
none text rest None is line h = λ head more e head_is. ⊎_elim (line more) (h more) (head_then rest text head more is e head_is)
none text rest (Some x) is line h = tt

pub returns-clause-none : goal.returns-clause-none
returns-clause-none c = none c.args.lines.now c.in_ok-rest.rest.now c.strip_prefix-2.result c.in_ok-rest.ensures (strip_prefix_is Decides-eqb c.in_ok-rest.rest.now (10 ∷ []) None c.in_default.ensures.cases) (strip_prefix_is Decides-eqb c.in_ok-rest.rest.now (13 ∷ 10 ∷ []) c.strip_prefix-2.result c.strip_prefix-2.ensures.cases)

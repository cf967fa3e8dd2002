use Rattle.std.proofs.Common.{◌≡◌, ◌≤◌, ◌+◌, ◌⊎◌, ℕ, suc, inl, inr, Some, None, arith, sym, ◌∙◌}
use Rattle.std.proofs.lemmas.{Bool.cases_eq, Option.{MatchOption-at_none, MatchOption-at_some}}
use Rattle.lft_classes.specs.{declared.chains.Base.Base, inner.{Chains.{base_of, bases_from}, Walks.is_done}}
use Rattle.lft_classes.proofs.{Listing.{base_more, no_base, one_done}, Walking.one_passed}
use Rattle.lft_classes.proofs.chains.step.Goals as goal

pub returns-in_default-2-clause-walk : goal.returns-in_default-2-clause-walk
returns-in_default-2-clause-walk c first s =
    let next = base_of c.args.scopes.now in
    let visit = c.in-Some.visit in
    let none = MatchOption-at_none ((k : ℕ) → visit.next ≤ k → next visit.node k ≡ None) (λ (b : Base). next visit.node visit.next ≡ Some b.class) c.in_default-2.is c.in_ok-base.ensures.base in
    c.in_ok-end.ensures.walk next first (visit, c.in-Some.ensures.some, none) s

pub returns-then-is_done-clause-walk : goal.returns-then-is_done-clause-walk
returns-then-is_done-clause-walk c first s =
    let next = base_of c.args.scopes.now in
    let visit = c.in-Some.visit in
    let base = c.in-Some-2.base in
    let at = MatchOption-at_some ((k : ℕ) → visit.next ≤ k → next visit.node k ≡ None) (λ (b : Base). next visit.node visit.next ≡ Some b.class) base c.in-Some-2.is c.in_ok-base.ensures.base in
    let low : c.saturating_add.result ≤ visit.next + 1 = omega arith in
    c.in_ok-pass.ensures.walk next first (visit, c.in-Some.ensures.some, one_passed next (is_done c.args.walk.now) visit.node visit.next c.saturating_add.result base.class at (sym c.is_done.ensures ∙ c.if-is_done.true) low) s

pub returns-then-branch-clause-walk : goal.returns-then-branch-clause-walk
returns-then-branch-clause-walk c first s =
    let next = base_of c.args.scopes.now in
    let visit = c.in-Some.visit in
    let base = c.in-Some-2.base in
    let at = MatchOption-at_some ((k : ℕ) → visit.next ≤ k → next visit.node k ≡ None) (λ (b : Base). next visit.node visit.next ≡ Some b.class) base c.in-Some-2.is c.in_ok-base.ensures.base in
    c.in_ok-enter.ensures.new c.if-branch.true next first (visit, c.in-Some.ensures.some, (visit.next, at)) s

pub returns-in_default-2-clause-order : goal.returns-in_default-2-clause-order
returns-in_default-2-clause-order c first s is =
    let next = base_of c.args.scopes.now in
    let visit = c.in-Some.visit in
    let none = MatchOption-at_none ((k : ℕ) → visit.next ≤ k → next visit.node k ≡ None) (λ (b : Base). next visit.node visit.next ≡ Some b.class) c.in_default-2.is c.in_ok-base.ensures.base in
    c.in_ok-end.ensures.order (bases_from c.args.scopes.now) first (visit, c.in-Some.ensures.some, no_base c.args.scopes.now visit.node visit.next none) is

pub returns-then-is_done-clause-order : goal.returns-then-is_done-clause-order
returns-then-is_done-clause-order c first s is =
    let next = base_of c.args.scopes.now in
    let visit = c.in-Some.visit in
    let base = c.in-Some-2.base in
    let at = MatchOption-at_some ((k : ℕ) → visit.next ≤ k → next visit.node k ≡ None) (λ (b : Base). next visit.node visit.next ≡ Some b.class) base c.in-Some-2.is c.in_ok-base.ensures.base in
    let number : (c.saturating_add.result ≡ suc visit.next) ⊎ (c.saturating_add.result ≡ visit.next) = elim (cases_eq c.saturating_add.result (suc visit.next)) [ inl e ↦ inl e | inr d ↦ inr (let low : visit.next ≤ c.saturating_add.result = omega arith in let high : c.saturating_add.result ≤ visit.next + 1 = omega arith in omega (arith, d, low, high)) ] in
    c.in_ok-pass.ensures.order next (bases_from c.args.scopes.now) first (visit, c.in-Some.ensures.some, one_done c.args.scopes.now (is_done c.args.walk.now) visit.node visit.next c.saturating_add.result base.class at (sym c.is_done.ensures ∙ c.if-is_done.true) number) s is

pub returns-then-branch-clause-order : goal.returns-then-branch-clause-order
returns-then-branch-clause-order c first s is =
    let next = base_of c.args.scopes.now in
    let visit = c.in-Some.visit in
    let base = c.in-Some-2.base in
    let at = MatchOption-at_some ((k : ℕ) → visit.next ≤ k → next visit.node k ≡ None) (λ (b : Base). next visit.node visit.next ≡ Some b.class) base c.in-Some-2.is c.in_ok-base.ensures.base in
    c.in_ok-enter.ensures.order c.if-branch.true next (bases_from c.args.scopes.now) first (visit, c.in-Some.ensures.some, (bases_from c.args.scopes.now visit.node (suc visit.next), base_more c.args.scopes.now visit.node visit.next base.class at)) s is

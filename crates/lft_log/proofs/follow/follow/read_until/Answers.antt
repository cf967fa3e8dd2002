use Rattle.std.proofs.Common.{◌≡◌, ◌≤◌, ◌+◌, ◌∙◌, ℕ, List, Some, length, slice_range, sym, ap, subst}
use Rattle.lft_trace.specs.Numbers.{number}
use Rattle.lft_log.proofs.{Heads.if_none, FollowLemmas.Words.{no_comma, parts_at, parts_same}}
use Rattle.lft_log.proofs.follow.follow.read_until.Goals as goal

pub returns-clause-tag : goal.returns-clause-tag
returns-clause-tag c =
    let words = c.args.words.now in
    let comma = c.in_ok-comma.comma in
    let micro = c.in_ok-micro.micro in
    let behind = slice_range words (comma + 1) (length words) in
    let within = subst (λ (most : ℕ). micro ≤ most) c.from.ensures c.in_ok-micro.ensures.within in
    let value = subst (λ (most : ℕ). number most behind ≡ Some micro) c.from.ensures (sym c.in_ok-micro.ensures.value) in
    ((c.in_ok-time.ensures.within, within), (slice_range words 0 comma, behind, parts_at words 44 comma c.in_ok-comma.ensures, sym c.in_ok-time.ensures.value, value))

pub returns-in_err-comma-clause-none : goal.returns-in_err-comma-clause-none
returns-in_err-comma-clause-none c = if_none c.from_residual.result _ (λ g u. no_comma c.args.words.now u.0 u.1 u.2 c.in_err-comma.ensures)

pub returns-in_err-time-clause-none : goal.returns-in_err-time-clause-none
returns-in_err-time-clause-none c = if_none c.from_residual-in_err-time.result _ (λ g u.
    let parts = parts_same c.args.words.now u.0 u.1 1000000000000000000 g.time c.in_ok-comma.comma u.2 u.3 c.in_ok-comma.ensures in
    let none = c.in_err-time.ensures.value ∙ ap (λ (x : List ℕ). number 1000000000000000000 x) parts.0 ∙ u.3 in
    absurd (cc))

pub returns-in_err-micro-clause-none : goal.returns-in_err-micro-clause-none
returns-in_err-micro-clause-none c = if_none c.from_residual-in_err-micro.result _ (λ g u.
    let parts = parts_same c.args.words.now u.0 u.1 1000000000000000000 g.time c.in_ok-comma.comma u.2 u.3 c.in_ok-comma.ensures in
    let words = c.args.words.now in
    let behind = slice_range words (c.in_ok-comma.comma + 1) (length words) in
    let none = c.in_err-micro.ensures.value ∙ ap (λ (most : ℕ). number most behind) c.from.ensures ∙ ap (λ (x : List ℕ). number 1000000000 x) parts.1 ∙ u.4 in
    absurd (cc))

use Rattle.std.proofs.Common.{◌≡◌, ◌<◌, ℕ, refl, subst, arith, Option, None, Some, IfNone}
use native.Mathlib.Decide.{dec_lt}
use Rattle.lft_lists.proofs.Places.{same_at}
use Rattle.lft_tag.specs.Tags.{Before}
use Rattle.lft_ir.specs.declared.steps.row.Row.{Row}
use Rattle.lft_races.specs.Across.{IsAcross, IsOpenAcross}
use Rattle.lft_races.proofs.across.open_across.Goals as goal

-- where nothing is answered, or something is
if_none : {X P : Type 0} (o : Option X) → P → IfNone o P
if_none None p = p
if_none (Some x) p = tt

pub returns-in_err-start-clause-none : goal.returns-in_err-start-clause-none
returns-in_err-start-clause-none c = if_none c.from_residual-in_err-start.result none
  where
    none : IsAcross c.args.rows.now c.args.row → ⊥
    none x = c.in_err-start.ensures.none x.0 (let a = x.2.behind in let b = x.2.before in omega arith) (record { row = x.2.row; is_row = x.2.is_row; starts = x.2.starts; open_since = x.2.open_since })

-- the first row at a later tag is that one, and the first start of the run is up to that of it
pub returns-else-start-later-clause-none : goal.returns-else-start-later-clause-none
returns-else-start-later-clause-none c = λ x. go x.0 x.1 x.2 (dec_lt x.0 c.in_ok-start.start) (dec_lt c.in_ok-later.later x.1)
  where
    go : (j k : ℕ) → IsOpenAcross c.args.rows.now c.args.row j k → Dec (j < c.in_ok-start.start) → Dec (c.in_ok-later.later < k) → ⊥
    go j k o (yes l) d = c.in_ok-start.ensures.first j l (record { row = o.row; is_row = o.is_row; starts = o.starts; open_since = o.open_since })
    go j k o (no n) (yes l) =
        let g = c.in_ok-later.ensures.greater in
        let same : c.row_at-own.result ≡ o.row = same_at c.args.rows.now c.args.row c.args.row c.row_at-own.result o.row c.row_at-own.ensures o.is_row refl in
        o.first c.in_ok-later.later g.0 l g.1 (subst (λ (y : Row). Before y.tag g.0.tag) same g.2)
    go j k o (no n) (no m) = let f = c.if-start-later.false in let b = o.behind in absurd (omega arith)

use Rattle.std.proofs.Common.{◌≡◌, ℕ, List, Bool, false, true, sym, ◌∙◌, arith, below_more}
use Rattle.lft_tag.specs.declared.Tag.{Tag}
use Rattle.lft_ir.specs.declared.steps.row.Row.{Row}
use Rattle.lft_model.specs.Breaches.{IsOpen}
use Rattle.lft_races.specs.Runs.{IsOpenSince}
use Rattle.lft_races.proofs.ordering.open_start.Goals as goal

-- a run that is open is one that its row started
open_since : (t : List Row) (i w : ℕ) (g : Tag) (r : ℕ) (o : IsOpen t i w g r) → IsOpenSince t i w o.start
open_since t i w g r o = record { tag = g; reaction = r; before = o.before; starts = o.starts; not_ended = o.not_ended }

pub loop-start-preserved : goal.loop-start-preserved
loop-start-preserved c = below_more (λ k. ¬ IsOpenSince c.args.rows.now c.args.place c.args.worker k) c.loop-start.start c.loop-start.invariant (λ s. let z : ◌≡◌ {A = Bool} false true = sym c.if-is_open_since.false ∙ c.is_open_since.ensures.1 s in absurd (cc))

pub unreachable-requires : goal.unreachable-requires
unreachable-requires c =
    let o = c.requires.open in
    let n = c.loop-start-test.false in
    let l = o.2.before in
    c.loop-start.invariant o.2.start (omega arith) (open_since c.args.rows.now c.args.place c.args.worker o.0 o.1 o.2)

use Rattle.std.proofs.Common.{◌∙◌, ◌+◌, ◌++◌, ◌∷◌, [], List, sym, subst, ap, arith}
use Rattle.std.{specs.Global.Vec, proofs.lemmas.Bool.false≢true}
use Rattle.lft_lists.proofs.Places.{get_there}
use Rattle.lft_monitor.specs.declared.open.StillOpen.{StillOpen}
use Rattle.lft_monitor.proofs.Opened.{AreOpenTo, open_all, open_more, open_none, open_same}
use Rattle.lft_monitor.proofs.open.open_among.Goals.{then-is_open+in_ok-push, else-is_open}
use Rattle.lft_monitor.proofs.open.open_among.Goals as goal

pub loop-place-init : goal.loop-place-init
loop-place-init c = subst (λ (runs : List StillOpen). AreOpenTo c.args.before c.args.rows.now 0 runs) (sym c.new-runs.ensures.items) (open_none c.args.before c.args.rows.now)

pub loop-place-preserved : goal.loop-place-preserved
loop-place-preserved c =
    let before = c.args.before in
    let t = c.args.rows.now in
    let place = c.loop-place.place in
    let runs = c.loop-place.runs.items in
    let is = c.loop-place.invariant in
    let row = get_there t place c.loop-place-test.true in
    let exact = c.is_open.ensures row.0 row.1 in
    elim c.if-is_open.branch [
      | then-is_open+in_ok-push w ↦
          let all = ap (λ (v : Vec StillOpen). v.items) w.runs-is ∙ w.in_ok-push.ensures.items ∙ ap (λ (run : StillOpen). runs ++ run ∷ []) (w.run_at.ensures row.0 row.1) in
          subst (λ (xs : List StillOpen). AreOpenTo before t (place + 1) xs) (sym all) (open_more before t place runs is row.0 row.1 (exact.0 w.if-is_open.true))
      | else-is_open w ↦ subst (λ (v : Vec StillOpen). AreOpenTo before t (place + 1) v.items) (sym w.runs-is) (open_same before t place runs is row.0 row.1 (λ o. false≢true (sym w.if-is_open.false ∙ exact.1 o)))
    ]

pub returns : goal.returns
returns c = open_all c.args.before c.args.rows.now c.loop-place.place c.loop-place.runs.items (let n = c.loop-place-test.false in omega arith) c.loop-place.invariant

use Rattle.std.proofs.Common.{◌≡◌, ◌+◌, ℕ, Option, Some, length, sym, ap, ◌∙◌, subst, refl, arith, false, true}
use Rattle.lft_tag.specs.declared.Tag.{Tag}
use Rattle.lft_ir.specs.Parts.{Parts}
use Rattle.lft_pair.specs.declared.difference.Carried.{Carried}
use Rattle.lft_pair.proofs.Odd.{Compared, compared_begin, compared_on, compared_run, odd_stays, odd_agrees, odd_more, odd_over, odd_end, known_level}
use Rattle.lft_pair.proofs.difference.first_odd.Goals.{then-is_start+in_ok-same+then-not-same, then-is_start+in_ok-same+else-not-same, else-is_start}
use Rattle.lft_pair.proofs.difference.first_odd.Goals as goal

pub loop-place-init : goal.loop-place-init
loop-place-init c = compared_begin c.args.plan.now c.graph-graph.result.now.levels c.args.rows.now c.args.others.now c.in_ok-starts.starts.read c.in_ok-starts.starts.places.items c.in_ok-starts.ensures.none_read (c.in_ok-starts.ensures.as_long ∙ c.reactions.ensures.count ∙ ap (λ (p : Parts). length p.reactions) c.program.ensures.value) (c.in_ok-starts.ensures.kept c.args.others.now)

pub returns-then-is_over : goal.returns-then-is_over
returns-then-is_over c = (c.graph-graph.result.now, c.graph-graph.ensures.graph, odd_over c.args.plan.now c.graph-graph.result.now.levels c.args.rows.now c.args.others.now c.requires.legal c.loop-place.place c.row_at-row.result c.row_at-row.ensures c.loop-place.least (c.if-is_over.ensures.0 refl) c.loop-place.invariant.odd)

pub loop-place-preserved : goal.loop-place-preserved
loop-place-preserved c =
    let plan = c.args.plan.now in
    let levels = c.graph-graph.result.now.levels in
    let t = c.args.rows.now in
    let s = c.args.others.now in
    let i = c.loop-place.place in
    let row = c.row_at-row.result in
    let is_row = c.row_at-row.ensures in
    let least = c.loop-place.least in
    let now = c.if-is_start.kept in
    let was = c.loop-place.invariant in
    elim c.if-is_start.branch [
      | then-is_start+in_ok-same+then-not-same w ↦
          let seen = w.in_ok-same.ensures in
          let odd = odd_more plan levels t s i row is_row (w.if-is_start.ensures.0 refl) (known_level plan c.graph-graph.result.now t i row c.graph-graph.ensures.graph c.requires.fit is_row) (λ a. let z : ◌≡◌ false true = sym w.if-not-same.true ∙ seen.same.1 a in absurd (cc)) least w.first_of.result w.first_of.ensures was.odd in
          subst (λ (o : Option (Tag × ℕ)). Compared plan levels t s (i + 1) now.starts.read now.starts.places.items o) (sym w.least-is) (subst (λ (k : Carried). Compared plan levels t s (i + 1) k.starts.read k.starts.places.items (Some w.first_of.result)) (sym w.kept-is) (compared_run plan levels t s i _ _ (Some w.first_of.result) odd row c.requires.legal is_row (seen.as_long ∙ was.as_long) seen.starts seen.read))
      | then-is_start+in_ok-same+else-not-same w ↦
          let seen = w.in_ok-same.ensures in
          let odd = odd_agrees plan levels t s i row is_row least (seen.same.0 w.if-not-same.false) was.odd in
          subst (λ (o : Option (Tag × ℕ)). Compared plan levels t s (i + 1) now.starts.read now.starts.places.items o) (sym w.least-is) (subst (λ (k : Carried). Compared plan levels t s (i + 1) k.starts.read k.starts.places.items least) (sym w.kept-is) (compared_run plan levels t s i _ _ least odd row c.requires.legal is_row (seen.as_long ∙ was.as_long) seen.starts seen.read))
      | else-is_start w ↦
          let odd = odd_stays plan levels t s i row is_row least (λ e. let z : ◌≡◌ false true = w.if-is_start.ensures.1 e in absurd (cc)) was.odd in
          subst (λ (o : Option (Tag × ℕ)). Compared plan levels t s (i + 1) now.starts.read now.starts.places.items o) (sym w.least-is) (subst (λ (k : Carried). Compared plan levels t s (i + 1) k.starts.read k.starts.places.items least) (sym w.kept-is) (compared_on plan levels t s i _ _ least odd least was))
    ]

pub returns : goal.returns
returns c = (c.graph-graph.result.now, c.graph-graph.ensures.graph, odd_end c.args.plan.now c.graph-graph.result.now.levels c.args.rows.now c.args.others.now c.loop-place.place c.loop-place.least (omega arith) c.loop-place.invariant.odd)

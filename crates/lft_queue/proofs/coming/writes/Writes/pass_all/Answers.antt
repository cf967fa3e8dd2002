use Rattle.std.proofs.Common.{◌≡◌, ◌+◌, ◌++◌, ◌∷◌, [], take, List, sym, subst}
use Rattle.std.proofs.lemmas.Option.{get_or_from_slice_get}
use Rattle.lft_tag.specs.declared.Tag.{Tag}
use Rattle.lft_lists.proofs.Picked.{take_one_more}
use Rattle.lft_ir.specs.declared.steps.row.Row.{Row}
use Rattle.lft_queue.{specs.inner.Coming.Writes.AreWrites, proofs.ComingLemmas.Writing.none_yet}
use Rattle.lft_queue.proofs.coming.writes.Writes.pass_all.Goals as goal

pub loop-place-init : goal.loop-place-init
loop-place-init c =
    let are = none_yet c.args.program.now c.args.tag c.args.self.now c.requires.writes in
    record { ports = are.as_long; passed = are }

pub loop-place-preserved : goal.loop-place-preserved
loop-place-preserved c =
    let t = c.args.more.now in
    let i = c.loop-place.place in
    let row = c.row_at.result in
    let program = c.args.program.now in
    let here : row.tag ≡ c.args.tag = c.requires.at i row c.row_at.ensures in
    let next : take (i + 1) t ≡ take i t ++ row ∷ [] = take_one_more t i row c.loop-place-test.true (get_or_from_slice_get t i row row c.row_at.ensures) in
    let passed : AreWrites program (take i t ++ row ∷ []) row.tag c.pass.new.self = c.pass.ensures.passed (take i t) (subst (λ (g : Tag). AreWrites program (take i t) g c.loop-place.self) (sym here) c.loop-place.invariant.passed) in
    record { ports = c.pass.ensures.ports; passed = subst (λ (rows : List Row). AreWrites program rows c.args.tag c.pass.new.self) (sym next) (subst (λ (g : Tag). AreWrites program (take i t ++ row ∷ []) g c.pass.new.self) here passed) }

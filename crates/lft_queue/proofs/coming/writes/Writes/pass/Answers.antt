use Rattle.std.proofs.Common.{◌≡◌, ◌∷◌, ◌++◌, [], ◌<◌, length, List, Option, Some, sym, subst, arith, slice_set}
use Rattle.lft_ir.specs.{declared.steps.row.Step.Step, Steps.Fits.StepFits}
use Rattle.lft_queue.{specs.{declared.coming.writes.Written.Written, inner.Coming.Writes.AreWrites}, proofs.ComingLemmas.Writing.{writes_stay, writes_set}}
use Rattle.lft_queue.proofs.coming.writes.Writes.pass.Goals as goal

pub returns-in-Some-clause-passed : goal.returns-in-Some-clause-passed
returns-in-Some-clause-passed c = λ rows are.
    let program = c.args.program.now in
    let row = c.args.row in
    let view : c.self.inside.last.items ≡ c.args.self.now = c.self.view_is in
    let there : c.in-Some.port < length program.ports = subst (λ (s : Step). StepFits program s) c.in-Some.ensures c.requires.fits.step in
    let port : c.in-Some.port < length c.args.self.now = let a = c.requires.ports in omega arith in
    subst (λ (writes : List (Option Written)). AreWrites program (rows ++ row ∷ []) row.tag (slice_set writes c.in-Some.port (Some (record { tag = row.tag; value = c.in-Some.value })))) (sym view) (writes_set program rows row c.args.self.now c.in-Some.port c.in-Some.value port c.in-Some.ensures are)

pub returns-in_default-clause-passed : goal.returns-in_default-clause-passed
returns-in_default-clause-passed c = λ rows are. writes_stay c.args.program.now rows c.args.row c.args.self.now c.in_default.ensures are

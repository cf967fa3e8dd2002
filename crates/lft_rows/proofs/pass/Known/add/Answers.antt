use Rattle.std.proofs.Common.{◌≡◌, ◌+◌, inl, inr, sym, subst, refl, arith, ◌∙◌, ℕ, List}
use Rattle.lft_tag.specs.declared.Tag.{Tag}
use Rattle.lft_ir.specs.{Parts.Parts, declared.{parts.{Name.Name, Value.Value}, steps.row.{Row.Row, Step.TheVariants.{Start, Read, End}}}}
use Rattle.lft_model.specs.Plans.{PlanParts}
use Rattle.lft_rows.specs.declared.marks.Marks.{Marks}
use Rattle.lft_rows.specs.declared.open.OpenRuns.{OpenRuns}
use Rattle.lft_rows.specs.declared.pass.Known.{Known}
use Rattle.lft_rows.specs.inner.{Marks.AreMarks, Passes.{IsKnown, Holds, HasOpen, KeepsEarly}}
use Rattle.lft_rows.proofs.{Marked.other_step, Steps.{close_then, close_else, is_inside}, Whole.{add_start, add_inner}}
use Rattle.lft_rows.proofs.pass.Known.add.Goals.{in-Start+in_ok-begin-in-Start, in-Read, in-End, in-Write, in-Schedule, in-Stop}
use Rattle.lft_rows.proofs.pass.Known.add.Goals as goal

pub returns : goal.returns
returns c = elim c.match-row.branch [
  | in-Start+in_ok-begin-in-Start w ↦ of_known (sym w.self-is) (add_start stop plan t i row c.row_at-row.ensures kept program known c.requires.known known.marks (unread (λ n v e. let q : Start ≡ Read n v = sym w.in-Start.is ∙ e in absurd (cc))) known.runs (still (λ e. let q : Start ≡ End = sym w.in-Start.is ∙ e in absurd (cc))) _ _ w.begin-in-Start.ensures.count w.in-Start.is w.in_ok-begin-in-Start.ensures w.begin-in-Start.ensures.last)
  | in-Read w ↦ of_known (sym w.self-is) (inner w.pass.new.self (w.pass.ensures 0 (omega arith) c.requires.known.marked) known.runs (still (λ e. absurd (cc w.in-Read.is))) (λ e. absurd (cc w.in-Read.is)))
  | in-End w ↦ of_known (sym w.self-is) (inner known.marks (unread (λ n v e. absurd (cc w.in-End.is))) w.end.new.self (close_then t i i row c.row_at-row.ensures known.runs w.end.new.self (omega arith) w.in-End.is (inside (λ e. absurd (cc w.in-End.is))) c.requires.known.held w.end.ensures) (λ e. absurd (cc w.in-End.is)))
  | in-Write w ↦ of_known (sym w.self-is) (inner known.marks (unread (λ n v e. absurd (cc w.in-Write.is))) known.runs (still (λ e. absurd (cc w.in-Write.is))) (λ e. absurd (cc w.in-Write.is)))
  | in-Schedule w ↦ of_known (sym w.self-is) (inner known.marks (unread (λ n v e. absurd (cc w.in-Schedule.is))) known.runs (still (λ e. absurd (cc w.in-Schedule.is))) (λ e. absurd (cc w.in-Schedule.is)))
  | in-Stop w ↦ of_known (sym w.self-is) (inner known.marks (unread (λ n v e. absurd (cc w.in-Stop.is))) known.runs (still (λ e. absurd (cc w.in-Stop.is))) (λ e. absurd (cc w.in-Stop.is)))
]
  where
    stop : Tag
    stop = c.requires.kept.0

    plan : PlanParts
    plan = c.requires.kept.1

    kept : KeepsEarly stop plan c.args.rows.now (c.args.place + 1)
    kept = c.requires.kept.2

    t : List Row
    t = c.args.rows.now

    i : ℕ
    i = c.args.place

    row : Row
    row = c.row_at-row.result

    known : Known
    known = c.args.self.now

    program : Parts
    program = c.args.program.now

    of_known : {z y : Known} → z ≡ y → IsKnown program t (i + 1) (record { last = row.tag; starts = z.starts; runs = z.runs; marks = z.marks }) → IsKnown program t (i + 1) (record { last = row.tag; starts = y.starts; runs = y.runs; marks = y.marks })
    of_known e k = subst (λ (z : Known). IsKnown program t (i + 1) (record { last = row.tag; starts = z.starts; runs = z.runs; marks = z.marks })) e k

    -- a row that reads nothing leaves the marks
    unread : ((n : Name) (v : Value) → ¬ (row.step ≡ Read n v)) → AreMarks program t 0 (i + 1) known.marks
    unread n = other_step program t 0 i row c.row_at-row.ensures known.marks c.requires.known.marked n

    -- one that is no end row leaves the open runs
    still : ¬ (row.step ≡ End) → Holds t i (i + 1) known.runs
    still n = close_else t i i row c.row_at-row.ensures known.runs (λ e h. n e) c.requires.known.held

    inside : ¬ (row.step ≡ Start) → HasOpen t known.runs row
    inside n = is_inside t i row known.runs c.requires.known.held n (λ o. kept i row 3 (omega arith) c.row_at-row.ensures (omega arith) (inr (inr (inl (refl, o)))))

    inner : (marks : Marks) → AreMarks program t 0 (i + 1) marks → (runs : OpenRuns) → Holds t i (i + 1) runs → ¬ (row.step ≡ Start) → IsKnown program t (i + 1) (record { last = row.tag; starts = known.starts; runs = runs; marks = marks })
    inner marks marked runs held n = add_inner stop plan t i row c.row_at-row.ensures kept program known c.requires.known marks marked runs held n

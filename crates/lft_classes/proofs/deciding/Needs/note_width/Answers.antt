use Rattle.std.proofs.Common.{◌≡◌, ◌↔◌, ◌<◌, ℕ, List, Some, length, slice_get, string_bytes, refl, sym, subst, arith}
use Rattle.std.proofs.lemmas.Option.{slice_get_read}
use Rattle.lft_whole.specs.declared.tree.Term.{Term}
use Rattle.lft_classes.specs.inner.Needs.{IsParameter, NamesParameter}
use Rattle.lft_classes.proofs.{Marking.{below_all, below_more, marks_as, marks_none}, Passing.{IsTermIn, term_one, terms_name}}
use Rattle.lft_classes.proofs.deciding.Needs.note_width.Goals.{in-Word+in-Some-parameter, in_default-count}
use Rattle.lft_classes.proofs.deciding.Needs.note_width.Goals as goal

pub loop-term-preserved : goal.loop-term-preserved
loop-term-preserved c =
    let shape = c.args.shape.now in
    let items = c.deref-term-items.result.now in
    let i = c.loop-term.term-index in
    let term = c.term-item.result in
    let within : i < length items = omega arith in
    let there : slice_get items i ≡ Some term = slice_get_read items (length items) i term refl within c.term-item.is in
    let was = c.loop-term.invariant in
    elim c.match-term.branch [
      | in-Word+in-Some-parameter w ↦ (
          let n = w.in-Some-parameter.parameter in
          let is : IsParameter shape (string_bytes w.in-Word.word) n = subst (λ t. IsParameter shape t n) w.as_str.ensures.value w.in-Some-parameter.ensures.some in
          let one = marks_as (λ k. k ≡ n) (IsTermIn shape i term) _ _ w.mark.ensures (term_one shape i term w.in-Word.word n w.in-Word.is is) in
          rw w.self-is (record { sized = below_more (IsTermIn shape) items i term _ _ _ there was.sized one; timed = was.timed })
          )
      | in_default-count w ↦ (
          let none = marks_none (IsTermIn shape i term) c.loop-term.self.sized.items (λ n h. w.in_default-count.not-Word h.0 h.1) in
          rw w.self-is (record { sized = below_more (IsTermIn shape) items i term _ _ _ there was.sized none; timed = was.timed })
          )
    ]

pub returns-clause-sized : goal.returns-clause-sized
returns-clause-sized c =
    let shape = c.args.shape.now in
    let width = c.in-Some.width in
    let items = c.deref-term-items.result.now in
    below_all (IsTermIn shape) items c.loop-term.term-index (NamesParameter shape c.args.width.now) _ _ (omega arith) c.loop-term.invariant.sized (subst (λ (l : List Term). (n : ℕ) → ((i : ℕ) × ((term : Term) × (slice_get l i ≡ Some term) × IsTermIn shape i term n)) ↔ NamesParameter shape c.args.width.now n) (sym c.deref-term-items.ensures.value) (terms_name shape c.args.width.now width c.in-Some.is))

pub returns-in_default-clause-sized : goal.returns-in_default-clause-sized
returns-in_default-clause-sized c = marks_none (NamesParameter c.args.shape.now c.args.width.now) c.args.self.now.sized.items (λ n h. (let e = h.1 in let f = c.in_default.is in absurd (cc)))

use Rattle.std.proofs.Common.{◌≡◌, ◌↔◌, ◌<◌, ℕ, Some, true, length, slice_get, refl, sym, subst, arith}
use Rattle.std.proofs.lemmas.Option.{slice_get_read}
use Rattle.lft_lists.proofs.Places.{same_some}
use Rattle.lft_classes.specs.{declared.shapes.Shape.Shape, inner.{Built.{core, cores}, Needs.{IsIndexFree, IsReadyToDecide, NeedsNumber}, Shapes.tables}}
use Rattle.lft_classes.specs.Needs.{Times, Widths}
use Rattle.lft_classes.proofs.{Rows.map_set, Decided.{both_decided, decided_but, decided_by, decided_none, decided_one, index_free, index_none}}
use Rattle.lft_classes.proofs.deciding.decide.Goals as goal

pub returns-clause-tables : goal.returns-clause-tables
returns-clause-tables c =
    let within : c.args.number < length c.args.shapes.now.items = omega arith in
    map_set (λ (s : Shape). s.children.items) c.args.shapes.now.items c.args.number c.index_mut-shape.result.now _ within c.index_mut-shape.ensures.value refl

pub returns-clause-cores : goal.returns-clause-cores
returns-clause-cores c =
    let within : c.args.number < length c.args.shapes.now.items = omega arith in
    map_set core c.args.shapes.now.items c.args.number c.index_mut-shape.result.now _ within c.index_mut-shape.ensures.value refl

pub returns-clause-decided : goal.returns-clause-decided
returns-clause-decided c scopes first ready =
    let shapes = c.args.shapes.now.items in
    let number = c.args.number in
    let within : number < length shapes = omega arith in
    let same = sym c.deref.ensures.value in
    let before = slice_get_read shapes (length shapes) number c.index.result.now refl within c.index.ensures in
    let after = slice_get_read shapes (length shapes) number c.index_mut-shape.result.now refl within c.index_mut-shape.ensures.value in
    let one = same_some (slice_get shapes number) c.index.result.now c.index_mut-shape.result.now before after in
    let found = c.in_ok-sized.ensures in
    let at = subst (λ l. IsReadyToDecide scopes first l number) same ready in
    let is = subst (λ l. slice_get l number ≡ Some c.index.result.now) same before in
    let sized = decided_by scopes first c.deref.result.now number c.index.result.now Widths c.in_ok-sized.field-0.sized.items at is found.sized in
    let timed = decided_by scopes first c.deref.result.now number c.index.result.now Times c.in_ok-sized.field-0.timed.items at is found.timed in
    decided_one scopes shapes number _ within (both_decided scopes c.index_mut-shape.result.now c.in_ok-sized.field-0.sized c.in_ok-sized.field-0.timed (subst (λ x. (n : ℕ) → (slice_get c.in_ok-sized.field-0.sized.items n ≡ Some true) ↔ NeedsNumber scopes Widths x n) one sized) (subst (λ x. (n : ℕ) → (slice_get c.in_ok-sized.field-0.timed.items n ≡ Some true) ↔ NeedsNumber scopes Times x n) one timed))

pub returns-clause-index : goal.returns-clause-index
returns-clause-index c scopes first ready =
    let shapes = c.args.shapes.now.items in
    let number = c.args.number in
    let within : number < length shapes = omega arith in
    let same = sym c.deref.ensures.value in
    let at = subst (λ l. IsReadyToDecide scopes first l number) same ready in
    let is = subst (λ l. slice_get l number ≡ Some c.index.result.now) same (slice_get_read shapes (length shapes) number c.index.result.now refl within c.index.ensures) in
    subst (λ l. IsIndexFree scopes (cores l) (tables l) number) (sym same) (index_free scopes first c.deref.result.now number c.index.result.now at is c.in_ok-sized.ensures.index)

pub returns-clause-kept : goal.returns-clause-kept
returns-clause-kept c scopes s apart = decided_but scopes c.args.shapes.now.items c.args.number _ s apart

pub returns-then-number-len-clause-decided : goal.returns-then-number-len-clause-decided
returns-then-number-len-clause-decided c scopes first ready = decided_none scopes c.args.shapes.now.items c.args.number (λ within. omega arith)

pub returns-then-number-len-clause-index : goal.returns-then-number-len-clause-index
returns-then-number-len-clause-index c scopes first ready = index_none scopes c.args.shapes.now.items c.args.number (λ within. omega arith)

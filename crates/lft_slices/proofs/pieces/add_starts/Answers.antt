use Rattle.std.proofs.Common.{◌≡◌, ◌+◌, List, refl, sym, ap, ◌∙◌, subst, arith}
use Rattle.lft_rows.proofs.PresenceLemmas.Lists.{not_true}
use Rattle.lft_slices.specs.{declared.pieces.Piece.Piece, inner.Pieces.AreStartsTo}
use Rattle.lft_slices.proofs.{Piecing.{starts_begin, starts_stay, starts_more}, pieces.add_starts.Goals.{then-is_start+in_ok-push, else-is_start}}
use Rattle.lft_slices.proofs.pieces.add_starts.Goals as goal

pub loop-place-init : goal.loop-place-init
loop-place-init c = subst (λ xs. AreStartsTo c.args.rows.now c.args.slice c.args.slice.first xs) (sym c.requires.empty) (starts_begin c.requires.rules.0 c.args.rows.now c.requires.rules.1 c.args.slice c.requires.slice)

pub loop-place-preserved : goal.loop-place-preserved
loop-place-preserved c =
    let t = c.args.rows.now in
    let s = c.args.slice in
    let i = c.loop-place.place in
    let row = c.row_at-row.result in
    let rules = c.requires.rules in
    elim c.if-is_start.branch [
      | then-is_start+in_ok-push w ↦ subst (λ (xs : List Piece). AreStartsTo t s (i + 1) xs) (sym (ap (λ v. v.items) w.found-is ∙ w.in_ok-push.ensures.items)) (starts_more rules.0 t rules.1 s c.requires.slice i row c.row_at-row.ensures (omega arith) (omega arith) c.args.ends.now c.requires.ends w.end_of.result w.end_of.ensures (w.if-is_start.ensures.0 refl) c.loop-place.found.items c.loop-place.invariant)
      | else-is_start w ↦ subst (λ (xs : List Piece). AreStartsTo t s (i + 1) xs) (sym (ap (λ v. v.items) w.found-is)) (starts_stay rules.0 t rules.1 s c.requires.slice i row c.row_at-row.ensures (omega arith) (omega arith) c.loop-place.found.items (λ e. not_true (w.if-is_start.ensures.1 e)) c.loop-place.invariant)
    ]

pub returns : goal.returns
returns c = let e : c.loop-place.place ≡ c.args.slice.end = omega arith in subst (λ i. AreStartsTo c.args.rows.now c.args.slice i c.loop-place.found.items) e c.loop-place.invariant

use Rattle.std.proofs.Common.{◌≡◌, ◌<◌, true, Some, length, slice_get, sym, ap, ◌∙◌, arith}
use Rattle.lft_tree.specs.View.{ref_view}
use Rattle.lft_resolve.{specs.inner.References.ref_trees, proofs.Somes.none_more}
use Rattle.lft_lists.proofs.Mapped.{mapped_at}
use Rattle.lft_validate.proofs.twice.name_before.Goals as goal

pub returns-then-is_same-clause-some : goal.returns-then-is_same-clause-some
returns-then-is_same-clause-some c =
    let names = c.args.names.now in
    let lt = c.loop-before-test.true in
    let end = c.requires in
    let within : c.loop-before.before < length names = omega (arith, lt, end) in
    let one = c.index-names-before.result in
    let other = c.index-names-place.result in
    let same : ref_view one.now ≡ ref_view other.now = c.is_same.ensures.0 c.if-is_same.true in
    (ref_view one.now, lt, mapped_at (λ r. ref_view r.now) names c.loop-before.before one within (sym c.index-names-before.is), mapped_at (λ r. ref_view r.now) names c.args.place other end (sym c.index-names-place.is) ∙ ap Some (sym same))

pub loop-before-preserved : goal.loop-before-preserved
loop-before-preserved c x at =
    let names = c.args.names.now in
    let lt = c.loop-before-test.true in
    let end = c.requires in
    let within : c.loop-before.before < length names = omega (arith, lt, end) in
    let other = c.index-names-place.result in
    let there : slice_get (ref_trees names) c.args.place ≡ Some (ref_view other.now) = mapped_at (λ r. ref_view r.now) names c.args.place other end (sym c.index-names-place.is) in
    let named : ref_view other.now ≡ x = (let e : Some (ref_view other.now) ≡ Some x = sym there ∙ at in cc) in
    none_more (λ r. ref_view r.now) (λ y. y ≡ x) names c.loop-before.before c.index-names-before.result within (sym c.index-names-before.is) (c.loop-before.invariant x at) (λ e. (
    let t : c.is_same.result ≡ true = c.is_same.ensures.1 (e ∙ sym named) in
    absurd (cc)
    ))

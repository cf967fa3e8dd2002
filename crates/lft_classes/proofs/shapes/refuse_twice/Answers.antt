use Rattle.std.proofs.Common.{◌≡◌, ℕ, sym, ap, ◌∙◌, arith}
use Rattle.std.specs.Prelude.{unwrap_or}
use Rattle.std.proofs.lemmas.Option.{slice_get_within}
use Rattle.lft_resolve.specs.inner.Places.{place_in}
use Rattle.lft_classes.{specs.declared.shapes.Named.Named, proofs.{Building.below_one, Naming.once}}
use Rattle.lft_classes.proofs.shapes.refuse_twice.Goals as goal

pub loop-place-preserved : goal.loop-place-preserved
loop-place-preserved c =
    let k = c.loop-place.place in
    let n = c.item_at-found.result in
    let first = c.unwrap_or.ensures in
    let same = c.if-unwrap_or-place.false in
    let P : ℕ → Named → Type 0 = λ j m. unwrap_or (place_in c.args.index.now m.name.now) j ≡ j in
    let e : unwrap_or c.get.result k ≡ k = omega (arith, first, same) in
    below_one P c.args.named.now k n c.item_at-found.ensures c.loop-place.invariant (ap (λ o. unwrap_or o k) (sym c.get.ensures) ∙ e)

pub returns : goal.returns
returns c = record {
  once = λ is k n at.
      let within = slice_get_within c.args.named.now k n at in
      once (λ (m : Named). m.name.now) c.args.named.now (place_in c.args.index.now n.name.now) k n at (is n.name.now) (c.loop-place.invariant k n (omega (arith, within)) at);
}

use Rattle.std.proofs.Common.{◌≡◌, ℕ, ◌+◌, Some, ap, sym, subst, ◌∙◌, arith, get_or, length}
use Rattle.std.specs.Prelude.{slice_get}
use Rattle.std.proofs.lemmas.{List.length_push, Option.slice_get-get_or}
use Rattle.lft_syntax.specs.declared.token.TokenKind.TheVariants.{Code}
use Rattle.lft_whole_parser.{specs.Imports.Places.AreSpots, proofs.ImportsLemmas.Columns.{SoFar, more, next, spots_all}}
use Rattle.lft_whole_parser.proofs.imports.spots.spots.Goals as goal

pub loop-place-preserved : goal.loop-place-preserved
loop-place-preserved c =
    let text = c.args.text.now in
    let tokens = c.args.tokens.now in
    let place = c.loop-place.place in
    let token = get_or tokens place (record { kind = Code; start = 0; end = 0 }) in
    let test = c.loop-place-test.true in
    let there : slice_get tokens place ≡ Some token = slice_get-get_or tokens place (record { kind = Code; start = 0; end = 0 }) (omega arith) in
    let then = next text tokens place token c.loop-place.from there c.loop-place.invariant.rest in
    record {
      is_spot = c.spot_at-spot.ensures;
      inside = then.inside;
      rest = then.rest;
      many = ap length c.in_ok-push.ensures.items ∙ length_push c.loop-place.spots.items c.spot_at-spot.result ∙ ap (λ (n : ℕ). n + 1) c.loop-place.invariant.many;
      so_far = subst (SoFar text tokens (place + 1)) (sym c.in_ok-push.ensures.items) (more text tokens place token c.loop-place.spots.items c.spot_at-spot.result there c.loop-place.invariant.many c.spot_at-spot.ensures c.loop-place.invariant.so_far);
    }

pub returns : goal.returns
returns c = subst (AreSpots c.args.text.now c.args.tokens.now) (sym c.in_ok-push-2.ensures.items) (spots_all c.args.text.now c.args.tokens.now c.loop-place.place c.loop-place.spots.items _ c.loop-place-test.false c.loop-place.auto.place-end c.loop-place.invariant.many c.spot_at.ensures c.loop-place.invariant.so_far)

use Rattle.std.proofs.Common.{Bool, true, false, not, refl, ◌≡◌, ◌++◌, ◌∷◌, [], take, sym, ap, ◌∙◌}
use Rattle.std.{proofs.lemmas.{Option.{slice_get_within, get_or_from_slice_get}, Slice.Eq.bytes_eq-Decides}, specs.Str.bytes_eq}
use Rattle.lft_lists.proofs.Picked.{take_one_more}
use Rattle.lft_ir.proofs.texts.Texts.same.Goals as goal

not_is_false : (b : Bool) → false ≡ not b → b ≡ true
not_is_false true e = refl
not_is_false false e = (cc)

pub loop-i-preserved : goal.loop-i-preserved
loop-i-preserved c =
    let x = c.get.result.now in
    let y = c.get-in-loop-i.result.now in
    let a = take_one_more c.args.self.now c.loop-i.i x (slice_get_within c.args.self.now c.loop-i.i x c.get.ensures) (get_or_from_slice_get c.args.self.now c.loop-i.i x x c.get.ensures) in
    let b = take_one_more c.args.other.now c.loop-i.i y (slice_get_within c.args.other.now c.loop-i.i y c.get-in-loop-i.ensures) (get_or_from_slice_get c.args.other.now c.loop-i.i y y c.get-in-loop-i.ensures) in
    let e : x ≡ y = (bytes_eq-Decides x y).0 (not_is_false (bytes_eq x y) (sym c.if-ne.false ∙ c.ne.ensures)) in
    a ∙ ap (λ l. l ++ x ∷ []) c.loop-i.invariant ∙ ap (λ z. take c.loop-i.i c.args.other.now ++ z ∷ []) e ∙ sym b

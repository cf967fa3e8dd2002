use Rattle.std.proofs.Common.{◌≡◌, ◌⊎◌, ℕ, ◌+◌, ◌*◌, ◌/◌, ◌<◌, List, refl, subst, sym, ap, ◌∙◌, arith, Some, length, slice_get, inl, inr}
use Rattle.std.proofs.lemmas.Option.{slice_get_read}
use Rattle.lft_ir.specs.{Parts.{Parts, inputs}, declared.parts.{Name.Name, Reaction.Reaction}}
use Rattle.lft_tag.proofs.Order.{UpTo-refl}
use Rattle.lft_lists.proofs.Places.{same_some}
use Rattle.lft_model.proofs.Places.{slice_get_within}
use Rattle.lft_rows.specs.inner.Marks.{HasSeat}
use Rattle.lft_check.specs.{declared.by_tag.absences.Absences.Absences, inner.ByTag.Absences.IsAbsentUntil}
use Rattle.lft_check.proofs.{ByTagLemmas.{RightReads.input_at, Absent.{absences_put, in_block}}, by_tag.sliced.Sliced.is_quiet.Goals.After-is_earlier}
use Rattle.lft_check.proofs.by_tag.sliced.Sliced.is_quiet.Goals as goal

pub returns-then-has-clause-quiet : goal.returns-then-has-clause-quiet
returns-then-has-clause-quiet c y x n k e seat d =
    let known = c.has.ensures c.if-has.true in
    let as_long = c.requires.walked.absences.as_long in
    let l = c.requires.reaction in
    let there = slice_get_read c.args.walk.now.absences.items (length c.args.walk.now.absences.items) c.args.reaction c.index.result.now refl (omega (arith, as_long, l)) c.index.ensures in
    c.requires.walked.absences.each c.args.reaction c.args.block k c.index.result.now known.0 x n there known.1 e seat d c.args.slice.tag (UpTo-refl c.args.slice.tag) known.2

pub first_of-until-requires-clause-names : goal.first_of-until-requires-clause-names
first_of-until-requires-clause-names c k n q = input_at c.args.self.now.plan.program c.program.ensures.rules.sound.sound c.args.reaction c.inputs-names.ensures.0 (subst (λ (p : Parts). slice_get p.reactions c.args.reaction ≡ Some c.inputs-names.ensures.0) c.program.ensures.value c.inputs-names.ensures.1) c.inputs-names.result.now c.inputs-names.ensures.2 k n q

absent : (c : After-is_earlier) (x : Reaction) (n : Name) (k : ℕ) → slice_get c.args.self.now.plan.program.reactions c.args.reaction ≡ Some x → HasSeat x n k → k / 64 ≡ c.args.block → IsAbsentUntil c.args.self.now.plan c.args.self.now.rows n c.args.slice.tag c.first_of-until.result
absent c x n k e seat d =
    let own = subst (λ (p : Parts). slice_get p.reactions c.args.reaction ≡ Some c.inputs-names.ensures.0) c.program.ensures.value c.inputs-names.ensures.1 in
    let same : c.inputs-names.ensures.0 ≡ x = same_some (slice_get c.args.self.now.plan.program.reactions c.args.reaction) c.inputs-names.ensures.0 x own e in
    let names : c.inputs-names.result.now ≡ inputs x = c.inputs-names.ensures.2 ∙ ap inputs same in
    let at : slice_get c.inputs-names.result.now k ≡ Some n = subst (λ (ns : List Name). slice_get ns k ≡ Some n) (sym names) seat in
    let inside = in_block k c.args.block d in
    c.first_of-until.ensures k n inside.0 (before (slice_get_within c.inputs-names.result.now k n at) inside.1 c.end_of-to.ensures.whole) at
  where
    before : k < length c.inputs-names.result.now → k < c.args.block * 64 + 64 → (c.end_of-to.result ≡ length c.inputs-names.result.now) ⊎ (c.end_of-to.result ≡ c.args.block * 64 + 64) → k < c.end_of-to.result
    before l m (inl z) = omega (arith, l, z)
    before l m (inr z) = omega (arith, m, z)

pub returns-clause-walked : goal.returns-clause-walked
returns-clause-walked c =
    let as_long = c.requires.walked.absences.as_long in
    let l = c.requires.reaction in
    let there = slice_get_read c.args.walk.now.absences.items (length c.args.walk.now.absences.items) c.args.reaction c.index_mut.result.now refl (omega (arith, as_long, l)) c.index_mut.ensures.value in
    let at = slice_get_read c.args.walk.now.absences.items (length c.args.walk.now.absences.items) c.args.reaction c.index-2.result.now refl (omega (arith, as_long, l)) c.index-2.ensures in
    let one : c.index-2.result.now ≡ c.index_mut.result.now = same_some (slice_get c.args.walk.now.absences.items c.args.reaction) c.index-2.result.now c.index_mut.result.now at there in
    record { marks = c.requires.walked.marks; absences = absences_put c.args.self.now c.args.slice.tag c.args.walk.now.absences.items _ c.args.reaction c.args.block c.index_mut.result.now c.put.new.self c.first_of-until.result c.requires.walked.absences there refl (let z = c.if-block-len.false in let e = c.len.ensures in omega (arith, z, e, ap (λ (a : Absences). length a.until.items) one)) c.put.ensures (λ x n k e seat d. absent c x n k e seat d) }

pub returns-clause-quiet : goal.returns-clause-quiet
returns-clause-quiet c y x n k e seat d = absent c x n k e seat d c.args.slice.tag (UpTo-refl c.args.slice.tag) (c.is_earlier.ensures.0 y)

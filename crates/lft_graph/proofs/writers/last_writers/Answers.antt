use Rattle.std.proofs.Common.{◌≡◌, ℕ, ◌<◌, ◌⊎◌, ◌∙◌, ap, sym, subst, length, Some, slice_get, arith, List, Option, ◌++◌, take, drop, Contains}
use Rattle.lft_ir.specs.declared.parts.Name.{Name, TheVariants.Port}
use Rattle.lft_lists.proofs.Places.{written_back}
use Rattle.lft_graph.proofs.Writing.{writers_more}
use Rattle.lft_graph.proofs.writers.last_writers.Goals as goal

pub note_effects-requires : goal.note_effects-requires
note_effects-requires c p m =
    let e : Contains c.reaction-reaction.result.now.effects (Port p) = subst (λ (l : List Name). Contains l (Port p)) c.as_slice.ensures m in
    let l : p < length c.args.program.now.ports = (c.reaction-reaction.ensures.sound.exist c.reactions.number c.reaction-reaction.result.now c.reaction-reaction.ensures.value).effects (Port p) e in
    let s = c.reactions.invariant.as_long in
    let d : length c.deref_mut.result.now ≡ length c.reactions.writers.items = ap length c.deref_mut.ensures.value in
    omega arith

pub reactions-preserved : goal.reactions-preserved
reactions-preserved c =
    let d : length c.deref_mut.result.now ≡ length c.reactions.writers.items = ap length c.deref_mut.ensures.value in
    let a : length c.note_effects.new.writers ≡ length c.deref_mut.result.now = c.note_effects.auto.writers in
    let n : length c.deref_mut.result.now ≡ c.reactions.writers.len = c.deref_mut.ensures.len in
    let b : take c.reactions.writers.len (c.note_effects.new.writers ++ drop (length c.note_effects.new.writers) c.reactions.writers.items) ≡ c.note_effects.new.writers = written_back c.note_effects.new.writers (drop (length c.note_effects.new.writers) c.reactions.writers.items) c.reactions.writers.len (omega arith) in
    rw b (writers_more c.args.program.now c.reactions.writers.items c.note_effects.new.writers c.reactions.number c.reaction-reaction.result.now c.reactions.invariant c.reaction-reaction.ensures.value (a ∙ d) noted others)
  where
    noted : (p : ℕ) → Contains c.reaction-reaction.result.now.effects (Port p) → slice_get c.note_effects.new.writers p ≡ Some (Some c.reactions.number)
    noted p m = c.note_effects.ensures.noted p (subst (λ (l : List Name). Contains l (Port p)) (sym c.as_slice.ensures) m)

    others : (p : ℕ) → (slice_get c.note_effects.new.writers p ≡ slice_get c.reactions.writers.items p) ⊎ (Contains c.reaction-reaction.result.now.effects (Port p) × (slice_get c.note_effects.new.writers p ≡ Some (Some c.reactions.number)))
    others p = subst (λ (l : List Name). (slice_get c.note_effects.new.writers p ≡ slice_get c.reactions.writers.items p) ⊎ (Contains l (Port p) × (slice_get c.note_effects.new.writers p ≡ Some (Some c.reactions.number)))) c.as_slice.ensures (subst (λ (l : List (Option ℕ)). (slice_get c.note_effects.new.writers p ≡ slice_get l p) ⊎ (Contains c.as_slice.result.now (Port p) × (slice_get c.note_effects.new.writers p ≡ Some (Some c.reactions.number)))) c.deref_mut.ensures.value (c.note_effects.ensures.others p))

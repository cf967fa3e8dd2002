use Rattle.std.proofs.Common.{◌≡◌, ℕ, ◌+◌, ◌∙◌, ◌∷◌, [], ◌++◌, ap, subst, length, Some, slice_get, arith}
use Rattle.lft_ir.specs.declared.parts.{Name.Name, Trigger.TheVariants.On}
use Rattle.lft_graph.specs.{Before.{Writes, IsLastWriter}, inner.Walks.{NotesBelow, IsUndelayed, IsFeeder}}
use Rattle.lft_graph.proofs.{Feeding.{notes_feeder, notes_none}, before.note_triggers.Goals.{in-On+in-Some+in_ok-push, in-On+in_default-feeder, in_default}}
use Rattle.lft_graph.proofs.before.note_triggers.Goals as goal

pub triggers-preserved : goal.triggers-preserved
triggers-preserved c =
    elim c.match-item_at.branch [
      | in-On+in-Some+in_ok-push w ↦ (rw w.found-is (rw w.in_ok-push.ensures.items (some w.in-On.name w.in-Some.writer w.in-On.is (w.feeder.ensures.found w.in-Some.writer w.in-Some.is) (λ b o v u. (let r = w.feeder.ensures.covers b o v u in let e = w.in-Some.is in let f = r.2 in let q : w.in-Some.writer ≡ r.0 = cc in (r.0, r.1, q))))))
      | in-On+in_default-feeder w ↦ (rw w.found-is (none (λ m b o e v u. (let r = w.feeder.ensures.covers b o v (subst (λ k. IsUndelayed c.args.program.now k o) (one w.in-On.name m w.in-On.is e) u) in w.in_default-feeder.not-Some r.0 r.2))))
      | in_default w ↦ (rw w.found-is (none (λ m b o e v u. w.in_default.not-On m (let d = c.item_at.ensures in cc))))
    ]
  where
    one : (n m : Name) → c.item_at.result ≡ On n → slice_get c.args.triggers.now c.triggers.place ≡ Some (On m) → m ≡ n
    one n m q e = let d = c.item_at.ensures in cc

    some : (n : Name) (a : ℕ) → c.item_at.result ≡ On n → IsFeeder c.args.program.now n a → ((b o : ℕ) → Writes c.args.program.now b o → IsUndelayed c.args.program.now n o → (d : ℕ) × IsLastWriter c.args.program.now d o × (a ≡ d)) → NotesBelow c.args.program.now (λ i n. slice_get c.args.triggers.now i ≡ Some (On n)) (c.triggers.place + 1) c.args.found.now.items (c.triggers.found.items ++ a ∷ [])
    some n a q f covers = notes_feeder c.args.program.now (λ i n. slice_get c.args.triggers.now i ≡ Some (On n)) c.triggers.place a n c.args.found.now.items c.triggers.found.items c.triggers.invariant (c.item_at.ensures ∙ ap Some q) (λ m e. one n m q e) f covers

    none : ((m : Name) (b o : ℕ) → slice_get c.args.triggers.now c.triggers.place ≡ Some (On m) → Writes c.args.program.now b o → IsUndelayed c.args.program.now m o → ⊥) → NotesBelow c.args.program.now (λ i n. slice_get c.args.triggers.now i ≡ Some (On n)) (c.triggers.place + 1) c.args.found.now.items c.triggers.found.items
    none n = notes_none c.args.program.now (λ i n. slice_get c.args.triggers.now i ≡ Some (On n)) c.triggers.place c.args.found.now.items c.triggers.found.items c.triggers.invariant n

pub returns : goal.returns
returns c = let l : c.triggers.place ≡ length c.args.triggers.now = (let a = c.triggers-test.false in let b = c.triggers.auto.place-end in omega arith) in subst (λ k. NotesBelow c.args.program.now (λ i n. slice_get c.args.triggers.now i ≡ Some (On n)) k c.args.found.now.items c.triggers.found.items) l c.triggers.invariant

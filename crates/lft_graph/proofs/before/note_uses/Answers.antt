use Rattle.std.proofs.Common.{◌≡◌, ℕ, ◌+◌, ◌∷◌, [], ◌++◌, subst, length, Some, slice_get, arith}
use Rattle.lft_ir.specs.declared.parts.Name.{Name}
use Rattle.lft_graph.specs.inner.Walks.{NotesBelow, IsUndelayed}
use Rattle.lft_graph.proofs.{Feeding.{notes_feeder, notes_none}, before.note_uses.Goals.{in-Some+in_ok-push, in_default}}
use Rattle.lft_graph.proofs.before.note_uses.Goals as goal

pub uses-preserved : goal.uses-preserved
uses-preserved c = elim c.match-feeder.branch [ in-Some+in_ok-push w ↦ (rw w.found-is (rw w.in_ok-push.ensures.items (some w.in-Some.writer w.in-Some.is))) | in_default w ↦ (rw w.found-is (none w.in_default.not-Some)) ]
  where
    one : (m : Name) → slice_get c.args.uses.now c.uses.place ≡ Some m → m ≡ c.item_at.result
    one m e = let d = c.item_at.ensures in cc

    some : (a : ℕ) → c.feeder.result ≡ Some a → NotesBelow c.args.program.now (λ i n. slice_get c.args.uses.now i ≡ Some n) (c.uses.place + 1) c.args.found.now.items (c.uses.found.items ++ a ∷ [])
    some a e = notes_feeder c.args.program.now (λ i n. slice_get c.args.uses.now i ≡ Some n) c.uses.place a c.item_at.result c.args.found.now.items c.uses.found.items c.uses.invariant c.item_at.ensures one (c.feeder.ensures.found a e) (λ b o w u. (let r = c.feeder.ensures.covers b o w u in let f = r.2 in let q : a ≡ r.0 = cc in (r.0, r.1, q)))

    none : ((a : ℕ) → c.feeder.result ≡ Some a → ⊥) → NotesBelow c.args.program.now (λ i n. slice_get c.args.uses.now i ≡ Some n) (c.uses.place + 1) c.args.found.now.items c.uses.found.items
    none n = notes_none c.args.program.now (λ i n. slice_get c.args.uses.now i ≡ Some n) c.uses.place c.args.found.now.items c.uses.found.items c.uses.invariant (λ m b o e w u. (let r = c.feeder.ensures.covers b o w (subst (λ k. IsUndelayed c.args.program.now k o) (one m e) u) in n r.0 r.2))

pub returns : goal.returns
returns c = let l : c.uses.place ≡ length c.args.uses.now = (let a = c.uses-test.false in let b = c.uses.auto.place-end in omega arith) in subst (λ k. NotesBelow c.args.program.now (λ i n. slice_get c.args.uses.now i ≡ Some n) k c.args.found.now.items c.uses.found.items) l c.uses.invariant

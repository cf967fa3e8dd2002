use Rattle.std.proofs.Common.{◌≡◌, ℕ, inl, inr, Contains, refl, sym, subst, arith}
use Rattle.std.proofs.lemmas.Bool.{cases_eq}
use Rattle.lft_ir.specs.declared.parts.Name.TheVariants.{Port}
use Rattle.lft_lists.proofs.Places.{same_at, at_contains}
use Rattle.lft_model.proofs.Places.{slice_get_within}
use Rattle.lft_stream.proofs.Meeting.{still_listed, now_listed}
use Rattle.lft_stream.proofs.presence.add_ports.Goals as goal

pub loop-place-preserved : goal.loop-place-preserved
loop-place-preserved c =
    let old = c.loop-place.names.items in
    let new = c.add.new.names.items in
    let name = Port c.item_at.result in
    let more = c.if-not-add.ensures refl in
    record {
      kept = λ n m. still_listed old new name more n (c.loop-place.invariant.kept n m);
      added = λ k p l e. elim (cases_eq k c.loop-place.place) [
        | inl q ↦
            let same : p ≡ c.item_at.result = same_at c.args.ports.now k c.loop-place.place p c.item_at.result e c.item_at.ensures q in
            subst (λ (z : ℕ). Contains new (Port z)) (sym same) (now_listed old new name more)
        | inr d ↦ still_listed old new name more (Port p) (c.loop-place.invariant.added k p (omega (arith, l, d)) e)
      ];
    }

pub returns-clause-added : goal.returns-clause-added
returns-clause-added c = λ z p m.
    let k = at_contains c.args.ports.now p m in
    let a = slice_get_within c.args.ports.now k.0 p k.1 in
    let b = c.loop-place-test.false in
    c.loop-place.invariant.added k.0 p (omega arith) k.1

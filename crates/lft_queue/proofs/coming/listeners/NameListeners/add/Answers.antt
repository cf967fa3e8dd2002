use Rattle.std.proofs.Common.{◌≡◌, inl, inr, sym, ap, ◌∙◌, arith}
use Rattle.std.proofs.lemmas.Bool.{cases_eq}
use Rattle.lft_ir.specs.{Sound.IsNameOf, declared.parts.Name.{Name, TheVariants.{Port, Action}}}
use Rattle.lft_lists.proofs.Places.{same_at}
use Rattle.lft_model.proofs.Places.{slice_get_within}
use Rattle.lft_queue.{specs.inner.Coming.Listeners.{list_of, heard_at, HasListOf}, proofs.ComingLemmas.AtOnce.{both_on, both_there}}
use Rattle.lft_queue.proofs.coming.listeners.NameListeners.add.Goals as goal

pub push-requires : goal.push-requires
push-requires c = within c.heard_at.result c.heard_at.ensures.known
  where
    within : (n : Name) → IsNameOf c.args.program.now n → HasListOf c.loop-place.self n
    within (Port p) l = let a = c.loop-place.invariant.grown.0.as_long in let d = c.requires.ports in omega arith
    within (Action a) l = let b = c.loop-place.invariant.grown.1.as_long in let d = c.requires.actions in omega arith

pub loop-place-preserved : goal.loop-place-preserved
loop-place-preserved c = record {
  grown = both_on c.args.self.now c.loop-place.self c.push.new.self c.loop-place.invariant.grown c.in_ok-push.ensures.grown;
  listed = λ k n list l e f. elim (cases_eq k c.loop-place.place) [
    | inl q ↦
        let same : n ≡ c.item_at.result = same_at c.args.names.now k c.loop-place.place n c.item_at.result e c.item_at.ensures q in
        c.in_ok-push.ensures.listed list (ap (λ (m : Name). list_of c.push.new.self m) (c.heard_at.ensures.is ∙ ap (λ (m : Name). heard_at c.args.program.now m) (sym same)) ∙ f)
    | inr d ↦ both_there c.loop-place.self c.push.new.self c.in_ok-push.ensures.grown (heard_at c.args.program.now n) c.args.reaction list f (λ own h. c.loop-place.invariant.listed k n own (omega (arith, l, d)) e h)
  ];
}

pub returns-clause-listed : goal.returns-clause-listed
returns-clause-listed c = λ k n list e f. let a = slice_get_within c.args.names.now k n e in let b = c.loop-place-test.false in c.loop-place.invariant.listed k n list (omega arith) e f

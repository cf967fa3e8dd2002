use Rattle.std.proofs.Common.{◌≡◌, inl, inr, ℕ, List, length, Contains, slice_get, filter_map, sym, ap, ◌∙◌, subst, arith}
use Rattle.std.proofs.lemmas.Bool.{cases_eq}
use Rattle.lft_ir.{specs.{Naming.named, Parts.Parts, declared.parts.{Name.Name, Reaction.Reaction}}, proofs.Naming.input_known}
use Rattle.lft_lists.proofs.{Members.{Mem, mem_get, mem_left}, Places.same_at}
use Rattle.lft_model.proofs.Places.{slice_get_within}
use Rattle.lft_queue.{specs.inner.Coming.Listeners.{heard_at, IsListed}, proofs.ComingLemmas.AtOnce.{both_there, listeners_of}}
use Rattle.lft_queue.proofs.coming.listeners.NameListeners.new.Goals as goal

pub add-requires-clause-names : goal.add-requires-clause-names
add-requires-clause-names c k n e =
    let x = c.reaction.result.now in
    input_known c.program-program.result.now c.reaction.ensures.sound c.loop-number.number x c.reaction.ensures.value n (mem_left n (filter_map named x.triggers) x.uses (subst (λ (ns : List Name). Mem n ns) c.names-names.ensures (mem_get c.names-names.result.now k n e)))

pub loop-number-preserved : goal.loop-number-preserved
loop-number-preserved c = record {
  ports = c.in_ok-add.ensures.grown.0.as_long ∙ c.loop-number.invariant.ports;
  actions = c.in_ok-add.ensures.grown.1.as_long ∙ c.loop-number.invariant.actions;
  listed = λ r x l e. elim (cases_eq r c.loop-number.number) [
    | inl q ↦
        let own = c.reaction.result.now in
        let same : x ≡ own = same_at c.program-program.result.now.reactions r c.loop-number.number x own e c.reaction.ensures.value q in
        λ k n list at there. subst (λ (a : ℕ). Contains list a) (sym q) (c.in_ok-add.ensures.listed k n list (ap (λ (ns : List Name). slice_get ns k) (c.names-names.ensures ∙ ap (λ (y : Reaction). filter_map named y.triggers) (sym same)) ∙ at) there)
    | inr d ↦ λ k n list at there. both_there c.loop-number.listeners c.add.new.self c.in_ok-add.ensures.grown (heard_at c.program-program.result.now n) r list there (λ old h. c.loop-number.invariant.listed r x (omega (arith, l, d)) e k n old at h)
  ];
}

pub returns : goal.returns
returns c =
    let is = c.program-program.ensures.value in
    listeners_of c.args.plan.now c.loop-number.listeners (c.loop-number.invariant.ports ∙ ap (λ (p : Parts). length p.ports) is) (c.loop-number.invariant.actions ∙ ap (λ (p : Parts). length p.actions) is) (λ r x e.
    let q = ap (λ (p : Parts). slice_get p.reactions r) is ∙ e in
    let a = slice_get_within c.program-program.result.now.reactions r x q in
    let b = c.reactions-number-end.ensures.count in
    subst (λ (p : Parts). IsListed p (filter_map named x.triggers) r c.loop-number.listeners) is (c.loop-number.invariant.listed r x (omega arith) q))

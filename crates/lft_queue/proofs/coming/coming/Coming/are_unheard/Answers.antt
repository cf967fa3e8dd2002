use Rattle.std.proofs.Common.{◌≡◌, ◌⊎◌, inl, inr, List, [], ◌∷◌, Option, Some, None, IsSome, refl, sym, subst, rules}
use Rattle.lft_lists.proofs.Members.{Mem, contains_mem}
use Rattle.lft_ir.specs.declared.parts.{Value.Value, Name.Name}
use Rattle.lft_queue.specs.{Pending.value_of, inner.Coming.Listeners.IsUnheard}
use Rattle.lft_queue.proofs.coming.coming.Coming.are_unheard.Goals as goal

pub loop-name-init : goal.loop-name-init
loop-name-init c = λ n m. inr m

pub loop-name-preserved : goal.loop-name-preserved
loop-name-preserved c = λ n m. go n (c.loop-name.invariant n m)
  where
    steps : c.loop-name.name-iterator ≡ c.in-Some.name ∷ c.next.new.self
    steps = search rules

    here : IsUnheard c.args.listeners.now c.in-Some.name
    here = search rules

    by : (n : Name) → Mem n (c.in-Some.name ∷ c.next.new.self) → IsUnheard c.args.listeners.now n ⊎ Mem n c.next.new.self
    by n (inl e) = inl (subst (λ (k : Name). IsUnheard c.args.listeners.now k) e here)
    by n (inr m) = inr m

    go : (n : Name) → IsUnheard c.args.listeners.now n ⊎ Mem n c.loop-name.name-iterator → IsUnheard c.args.listeners.now n ⊎ Mem n c.next.new.self
    go n (inl u) = inl u
    go n (inr m) = by n (subst (λ (ns : List Name). Mem n ns) steps m)

pub returns : goal.returns
returns c = λ z n. go n (value_of c.args.tag n c.args.self.now.queue) refl
  where
    none : c.loop-name.name-iterator ≡ []
    none = search rules

    items : c.into_iter-name-iterator.result ≡ c.names_at-name-items.result
    items = search rules

    left : (n : Name) → IsUnheard c.args.listeners.now n ⊎ Mem n c.loop-name.name-iterator → IsUnheard c.args.listeners.now n
    left n (inl u) = u
    left n (inr m) = absurd (subst (λ (ns : List Name). Mem n ns) none m)

    go : (n : Name) (o : Option Value) → value_of c.args.tag n c.args.self.now.queue ≡ o → IsUnheard c.args.listeners.now n ⊎ (value_of c.args.tag n c.args.self.now.queue ≡ None)
    go n None e = inr e
    go n (Some v) e = inl (left n (c.loop-name.invariant n (subst (λ (ns : List Name). Mem n ns) (sym items) (contains_mem n c.names_at-name-items.result ((c.names_at-name-items.ensures n).1 (subst (λ (o : Option Value). IsSome o) (sym e) refl))))))

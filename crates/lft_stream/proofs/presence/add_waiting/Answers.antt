use Rattle.std.proofs.Common.{◌≡◌, ◌⊎◌, inl, inr, ◌++◌, ◌∷◌, [], List, Contains, refl, sym, subst, rules}
use Rattle.lft_lists.proofs.Members.{Mem, contains_mem}
use Rattle.lft_ir.specs.declared.parts.Name.{Name}
use Rattle.lft_stream.proofs.Meeting.{still_listed, now_listed, first_done}
use Rattle.lft_stream.proofs.presence.add_waiting.Goals as goal

pub loop-name-init : goal.loop-name-init
loop-name-init c = record { kept = λ n m. m; added = λ n m. inr m }

pub loop-name-preserved : goal.loop-name-preserved
loop-name-preserved c = record {
  kept = λ n m. still_listed old new c.in-Some.name more n (c.loop-name.invariant.kept n m);
  added = λ n m. first_done (λ k. Contains new k) c.in-Some.name c.loop-name.name-iterator c.next.new.self n steps (now_listed old new c.in-Some.name more) (lift n (c.loop-name.invariant.added n m));
}
  where
    old : List Name
    old = c.loop-name.names.items

    new : List Name
    new = c.add.new.names.items

    more : new ≡ old ++ c.in-Some.name ∷ []
    more = c.if-not-add.ensures refl

    steps : c.loop-name.name-iterator ≡ c.in-Some.name ∷ c.next.new.self
    steps = search rules

    lift : (n : Name) → Contains old n ⊎ Mem n c.loop-name.name-iterator → Contains new n ⊎ Mem n c.loop-name.name-iterator
    lift n (inl k) = inl (still_listed old new c.in-Some.name more n k)
    lift n (inr k) = inr k

pub returns-clause-added : goal.returns-clause-added
returns-clause-added c = λ z n some. go n (c.loop-name.invariant.added n (subst (λ (ns : List Name). Mem n ns) (sym items) (contains_mem n c.names_at-name-items.result ((c.names_at-name-items.ensures n).1 some))))
  where
    none : c.loop-name.name-iterator ≡ []
    none = search rules

    items : c.into_iter-name-iterator.result ≡ c.names_at-name-items.result
    items = search rules

    go : (n : Name) → Contains c.loop-name.names.items n ⊎ Mem n c.loop-name.name-iterator → Contains c.loop-name.names.items n
    go n (inl k) = k
    go n (inr m) = absurd (subst (λ (ns : List Name). Mem n ns) none m)

use Rattle.std.proofs.Common.{◌≡◌, ◌⊎◌, inl, inr, ℕ, List, [], ◌∷◌, Some, None, Contains, refl, sym, ◌∙◌, subst, rules}
use Rattle.std.proofs.lemmas.Option.{none-some}
use Rattle.lft_lists.proofs.{Members.{Mem, contains_mem}, Places.same_some}
use Rattle.lft_ir.specs.declared.{parts.Name.Name, steps.row.Row.Row}
use Rattle.lft_queue.specs.inner.Coming.Listeners.{list_of, AreStarted}
use Rattle.lft_stream.proofs.Meeting.{first_done}
use Rattle.lft_stream.proofs.hearing.are_met.Goals as goal

pub loop-name-init : goal.loop-name-init
loop-name-init c = λ whole starts n m. inr m

pub loop-name-preserved : goal.loop-name-preserved
loop-name-preserved c = λ whole starts n m.
    let steps : c.loop-name.name-iterator ≡ c.in-Some.name ∷ c.next.new.self = search rules in
    let none : list_of c.args.listeners.now c.in-Some.name ≡ None = c.in_default.ensures.none in
    first_done (λ k. AreStarted whole c.args.tag c.args.listeners.now k) c.in-Some.name c.loop-name.name-iterator c.next.new.self n steps (λ list r e k. absurd (none-some list (sym none ∙ e))) (c.loop-name.invariant whole starts n m)

pub loop-name-preserved-else-not-have_started : goal.loop-name-preserved-else-not-have_started
loop-name-preserved-else-not-have_started c = λ whole starts n m.
    let steps : c.loop-name.name-iterator ≡ c.in-Some.name ∷ c.next.new.self = search rules in
    let is : list_of c.args.listeners.now c.in-Some.name ≡ Some c.in-Some-get.list.now = c.in-Some-get.ensures.some in
    first_done (λ k. AreStarted whole c.args.tag c.args.listeners.now k) c.in-Some.name c.loop-name.name-iterator c.next.new.self n steps (λ list r e k. c.if-not-have_started.ensures refl whole starts r (subst (λ (xs : List ℕ). Contains xs r) (same_some (list_of c.args.listeners.now c.in-Some.name) list c.in-Some-get.list.now e is) k)) (c.loop-name.invariant whole starts n m)

pub returns : goal.returns
returns c = λ z whole starts n some. go whole n (c.loop-name.invariant whole starts n (subst (λ (ns : List Name). Mem n ns) (sym items) (contains_mem n c.names_at-name-items.result ((c.names_at-name-items.ensures n).1 some))))
  where
    none : c.loop-name.name-iterator ≡ []
    none = search rules

    items : c.into_iter-name-iterator.result ≡ c.names_at-name-items.result
    items = search rules

    go : (whole : List Row) (n : Name) → AreStarted whole c.args.tag c.args.listeners.now n ⊎ Mem n c.loop-name.name-iterator → AreStarted whole c.args.tag c.args.listeners.now n
    go whole n (inl u) = u
    go whole n (inr m) = absurd (subst (λ (ns : List Name). Mem n ns) none m)

use Rattle.std.proofs.Common.{rules, ◌≡◌, ◌∙◌, ◌<◌, ◌++◌, ◌∷◌, [], List, map, length, append-nil, append_assoc, ap, arith, refl, subst, sym}
use Rattle.std.{specs.List.Sorted.IsPermutation, proofs.lemmas.List.Sorted.{IsPermutation-cons, IsPermutation-middle, IsPermutation-sym, IsPermutation-trans}}
use Rattle.lft_ir.specs.{declared.{parts.Value.Value, steps.externals.Event.Event}, Steps.Inputs.ComesBefore}
use Rattle.lft_trace.specs.{ExternalTables.Has, inner.Keys.event_at}
use Rattle.lft_trace.proofs.{EventFacts.Key, EventLists.{in_order_push, no_clash}, Members.{has_permuted, has_permuted_back}}
use Rattle.lft_trace.proofs.event_map.EventMap.insert.Goals.{In_ok-values}
use Rattle.lft_trace.proofs.event_map.EventMap.insert.Goals as goal

no_entries : (es : List (Key × Value)) → length es ≡ 0 → map event_at es ≡ []
no_entries [] none = refl
no_entries (e ∷ es) none = absurd (omega arith)

-- where the map has no entries, the list has all events
only_list : (list all : List Event) (es : List (Key × Value)) → list ++ map event_at es ≡ all → length es ≡ 0 → all ≡ list
only_list list all es is none = sym is ∙ ap (λ (xs : List Event). list ++ xs) (no_entries es none) ∙ append-nil list

pushed : (list rest : List Event) (event : Event) → IsPermutation (event ∷ (list ++ rest)) ((list ++ event ∷ []) ++ rest)
pushed list rest event = IsPermutation-sym ((list ++ event ∷ []) ++ rest) (event ∷ (list ++ rest)) (rw append_assoc (IsPermutation-middle list event rest))

pub returns-then-not-is_empty-clause-apart : goal.returns-then-not-is_empty-clause-apart
returns-then-not-is_empty-clause-apart c = λ new d has clash.
    let entries = c.self.inside.values.entries in
    let some : 0 < length entries = search rules in
    let none : c.self.inside.list.items ≡ [] = c.self.invariant.one some in
    let is = sym c.self.view_is ∙ ap (λ (xs : List Event). xs ++ map event_at entries) none in
    c.in_ok-new.ensures.apart new d (subst (λ (xs : List Event). Has xs d) is has) clash

pub invariant_of-self-then-comes_last : goal.invariant_of-self-then-comes_last
invariant_of-self-then-comes_last c =
    let list = c.self.inside.list.items in
    let items : c.push.new.self.items ≡ list ++ c.args.event ∷ [] = search rules in
    let none : length c.self.inside.values.entries ≡ 0 = search rules in
    let all = subst (λ (xs : List Event). (other : Event) → Has xs other → ComesBefore other c.args.event) c.as_slice.ensures.value (c.if-comes_last.ensures refl) in
    record { order = rw items (in_order_push list c.args.event c.self.invariant.order all); one = λ some. absurd (omega arith) }

pub returns-then-comes_last-clause-apart : goal.returns-then-comes_last-clause-apart
returns-then-comes_last-clause-apart c = λ new d has clash.
    let list = c.self.inside.list.items in
    let none : length c.self.inside.values.entries ≡ 0 = search rules in
    let all = subst (λ (xs : List Event). (other : Event) → Has xs other → ComesBefore other c.args.event) c.as_slice.ensures.value (c.if-comes_last.ensures refl) in
    let is = only_list list c.args.self.now c.self.inside.values.entries c.self.view_is none in
    no_clash d c.args.event (all d (subst (λ (xs : List Event). Has xs d) is has)) clash

pub returns-then-comes_last-clause-added : goal.returns-then-comes_last-clause-added
returns-then-comes_last-clause-added c = λ new.
    let list = c.self.inside.list.items in
    let rest = map event_at c.self.inside.values.entries in
    let event = c.args.event in
    let items : c.push.new.self.items ≡ list ++ event ∷ [] = search rules in
    subst (λ (xs : List Event). IsPermutation (event ∷ xs) (c.push.new.self.items ++ rest)) c.self.view_is
    (subst (λ (xs : List Event). IsPermutation (event ∷ (list ++ rest)) (xs ++ rest)) (sym items) (pushed list rest event))

same : (c : In_ok-values) → IsPermutation c.args.self.now (map event_at c.in_ok-values.values.entries)
same c =
    let list = c.self.inside.list.items in
    let moved = map event_at c.in_ok-values.values.entries in
    let none : length c.self.inside.values.entries ≡ 0 = search rules in
    let is = only_list list c.args.self.now c.self.inside.values.entries c.self.view_is none in
    subst (λ (xs : List Event). IsPermutation xs moved) (c.as_slice-2.ensures.value ∙ sym is) c.in_ok-values.ensures

pub returns-clause-there : goal.returns-clause-there
returns-clause-there c = λ old.
    let t = c.in_ok-new-2.ensures.there old in
    (t.0, has_permuted_back c.args.self.now (map event_at c.in_ok-values.values.entries) t.0 (same (goal.at.returns-clause-there c).In_ok-values) t.1, t.2)

pub returns-clause-apart : goal.returns-clause-apart
returns-clause-apart c = λ new d has clash.
    c.in_ok-new-2.ensures.apart new d (has_permuted c.args.self.now (map event_at c.in_ok-values.values.entries) d (same (goal.at.returns-clause-apart c).In_ok-values) has) clash

pub returns-clause-added : goal.returns-clause-added
returns-clause-added c = λ new.
    let event = c.args.event in
    let moved = map event_at c.in_ok-values.values.entries in
    let all = map event_at c.put-2.new.values.entries in
    let more = IsPermutation-trans (event ∷ c.args.self.now) (event ∷ moved) all (IsPermutation-cons event c.args.self.now moved (same (goal.at.returns-clause-added c).In_ok-values)) (c.in_ok-new-2.ensures.added new) in
    subst (λ (xs : List Event). IsPermutation (event ∷ c.args.self.now) (xs ++ all)) (sym c.new.ensures.items) more

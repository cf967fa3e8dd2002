use Rattle.std.proofs.Common.{rules, ◌≡◌, ◌∙◌, ◌<◌, ◌++◌, [], List, ap, length, map, sym}
use Rattle.std.specs.{Map.keys_of, List.Sorted.IsStrictlySortedBy}
use Rattle.lft_ir.specs.declared.steps.externals.Event.{Event}
use Rattle.lft_trace.{specs.inner.Keys.event_at, proofs.EventFacts.{key_cmp, ordered}}
use Rattle.lft_trace.proofs.event_map.EventMap.into_vec.Goals as goal

pub loop-time-init : goal.loop-time-init
loop-time-init c =
    let s : IsStrictlySortedBy key_cmp (keys_of c.self.inside.values.entries) = search rules in
    let some : 0 < length c.self.inside.values.entries = search rules in
    let none : c.self.inside.list.items ≡ [] = c.self.invariant.one some in
    let v : map event_at c.self.inside.values.entries ≡ c.args.self = ap (λ (xs : List Event). xs ++ map event_at c.self.inside.values.entries) (sym none) ∙ c.self.view_is in
    let o = ordered c.self.inside.values.entries s in
    (search rules, rw (← v) o)

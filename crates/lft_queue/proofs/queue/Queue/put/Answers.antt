use Rattle.std.proofs.Common.{◌≡◌, ◌∙◌, ◌+◌, List, length, arith, Bool, true, false, Option, Some, None, IsSome, map, sym, ap, subst, cond, rules, if◌then◌else◌}
use Rattle.std.specs.{BTreeMap.{insert_entry, is_at}, Map.lookup, Option.is_some}
use Rattle.lft_ir.specs.declared.parts.Value.{Value}
use Rattle.lft_queue.{specs.inner.Keys.{Key, key_cmp, pending_at}, proofs.Entries.{found_at, becomes_at, inserted, put_back}}
use Rattle.lft_queue.proofs.queue.Queue.put.Goals as goal

-- where a value was, one is left
not_none : (o : Option Value) (b : Bool) (v w : Value) → o ≡ cond b (Some v) (Some w) → o ≡ None → ⊥
not_none o true v w is none = cc (is, none)
not_none o false v w is none = cc (is, none)

pub returns-in-Ok-None-clause-absent : goal.returns-in-Ok-None-clause-absent
returns-in-Ok-None-clause-absent c = sym (found_at c.key-key.result c.args.tag c.args.name c.key-key.ensures c.self.inside.values.entries c.args.self.now c.self.view_is) ∙ sym c.in-Ok-None.ensures.old ∙ c.in-Ok-None.field-0-is

pub returns-in-Ok-None-clause-ok : goal.returns-in-Ok-None-clause-ok
returns-in-Ok-None-clause-ok c = becomes_at c.key-key.result c.args.tag c.args.name c.key-key.ensures c.self.inside.values.entries c.args.self.now c.self.view_is c.insert.new.self.entries (Some c.args.value) c.in-Ok-None.ensures.updates.0

pub returns-in-Ok-Some-clause-err : goal.returns-in-Ok-Some-clause-err
returns-in-Ok-Some-clause-err c =
    let es = c.self.inside.values.entries in
    let key = c.key-key.result in
    let first = c.in-Ok-Some.first in
    let there : lookup (is_at (key_cmp key)) es ≡ Some first = sym c.in-Ok-Some.ensures.old ∙ c.in-Ok-Some.field-0-is in
    let updated : (q : Key) → lookup (is_at (key_cmp q)) c.insert.new.self.entries ≡ cond (is_at (key_cmp key) q) (Some c.args.value) (lookup (is_at (key_cmp q)) es) = c.in-Ok-Some.ensures.updates.0 in
    let is = updated key ∙ ap (λ (o : Option Value). cond (is_at (key_cmp key) key) (Some c.args.value) o) there in
    let back = inserted c.insert-second.result c.insert-second.ensures.entries c.insert-second.ensures.absent (not_none _ (is_at (key_cmp key) key) c.args.value first is) in
    let long = subst (λ (o : Option Value). length c.insert.new.self.entries ≡ length es + (if is_some o then 0 else 1)) c.in-Ok-Some.field-0-is c.in-Ok-Some.ensures.len in
    let same : length (insert_entry key_cmp es key c.args.value) ≡ length es = subst (λ (xs : List (Key × Value)). length xs ≡ length es) c.in-Ok-Some.ensures.entries (omega (arith, long)) in
    ap (λ (xs : List (Key × Value)). map pending_at xs) (back ∙ ap (λ (xs : List (Key × Value)). insert_entry key_cmp xs key first) c.in-Ok-Some.ensures.entries ∙ put_back key_cmp es key c.args.value first there same) ∙ c.self.view_is

pub returns-in-Ok-Some-clause-collision : goal.returns-in-Ok-Some-clause-collision
returns-in-Ok-Some-clause-collision c = λ same.
    let there : lookup (is_at (key_cmp c.key-key.result)) c.self.inside.values.entries ≡ Some c.in-Ok-Some.first = sym c.in-Ok-Some.ensures.old ∙ c.in-Ok-Some.field-0-is in
    subst (λ (o : Option Value). IsSome o) (sym there ∙ found_at c.key-key.result c.args.tag c.args.name c.key-key.ensures c.self.inside.values.entries c.args.self.now c.self.view_is) (search rules)

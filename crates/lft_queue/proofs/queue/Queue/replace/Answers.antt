use Rattle.std.proofs.Common.{◌≡◌, ◌∙◌, Option, Some, None, IsSome, sym, rules}
use Rattle.std.specs.{BTreeMap.is_at, Map.lookup}
use Rattle.lft_ir.specs.declared.parts.Value.{Value}
use Rattle.lft_queue.{specs.{Pending.value_of, inner.Keys.key_cmp}, proofs.Entries.{found_at, becomes_at, inserted}}
use Rattle.lft_queue.proofs.queue.Queue.replace.Goals as goal

not_none : (o : Option Value) → IsSome o → o ≡ None → ⊥
not_none (Some v) s e = cc (e)
not_none None s e = search rules

pub returns : goal.returns
returns c =
    let es = c.self.inside.values.entries in
    let there : lookup (is_at (key_cmp c.key.result)) es ≡ None → ⊥ = λ e. not_none (value_of c.args.tag c.args.name c.args.self.now) c.requires (sym (found_at c.key.result c.args.tag c.args.name c.key.ensures es c.args.self.now c.self.view_is) ∙ e) in
    becomes_at c.key.result c.args.tag c.args.name c.key.ensures es c.args.self.now c.self.view_is c.insert-there.new.self.entries (Some c.args.value) (inserted c.insert-there.result c.insert-there.ensures.updates c.insert-there.ensures.absent there).0

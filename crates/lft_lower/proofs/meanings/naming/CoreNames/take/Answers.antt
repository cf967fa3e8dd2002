use Rattle.std.proofs.Common.{cond, true, ap, ◌∙◌, string_bytes}
use Rattle.std.{specs.{BTreeSet.contains_text, Str.bytes_eq}, proofs.lemmas.Map.Text.btree_set_updates_text}
use Rattle.lft_lower.proofs.meanings.naming.CoreNames.take.Goals as goal

pub returns-clause-taken : goal.returns-clause-taken
returns-clause-taken c = λ q.
    btree_set_updates_text (string_bytes c.in_ok-clone.field-0) c.args.self.now.taken c.insert.new.self true c.in_ok-insert.ensures.updates q
    ∙ ap (λ bs. cond (bytes_eq bs q) true (contains_text c.args.self.now.taken q)) c.in_ok-clone.ensures.cases

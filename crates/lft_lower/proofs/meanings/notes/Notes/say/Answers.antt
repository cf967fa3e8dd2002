use Rattle.std.proofs.Common.{◌∙◌, ap, bytes_eq, cond, inl, inr, map, refl, rules, string_bytes, true}
use Rattle.std.{proofs.lemmas.{List.map_push, Map.Text.btree_set_updates_text}, specs.BTreeSet.contains_text}
use Rattle.lft_lower.proofs.meanings.notes.Notes.say.Goals as goal

pub returns-in_ok-push : goal.returns-in_ok-push
returns-in_ok-push c =
    let said = c.args.self.now.said in
    let lines = ap (map (λ line. string_bytes line)) c.in_ok-push.ensures.items ∙ map_push (λ line. string_bytes line) c.args.self.now.lines.items c.args.line in
    inl (
      search rules,
      refl,
      lines,
      λ other. btree_set_updates_text (string_bytes c.in_ok-clone.field-0) said c.insert.new.self true c.in_ok-insert.ensures.updates other ∙ ap (λ line. cond (bytes_eq line other) true (contains_text said other)) c.in_ok-clone.ensures.cases,
    )

pub returns-else-not-contains : goal.returns-else-not-contains
returns-else-not-contains c = inr (search rules, refl)

use Rattle.std.proofs.Common.{◌≡◌, ℕ, true, cond, ◌&&◌, List, Option, Some, None, string_bytes, option_map, refl, sym, ap, subst, ◌∙◌, Bor, bytes_eq}
use Rattle.lft_validate.specs.{inner.Seen.{has_seen, has_inside, same_inside}, declared.seen.SeenNames.SeenNames}
use Rattle.lft_validate.proofs.seen.SeenNames.add.Goals as goal

abbrev text : List ℕ → Bor (List ℕ)
text q = record { ref_ptr = (0, 0); now = q }

pub returns-in_ok-insert-in-None-clause-added : goal.returns-in_ok-insert-in-None-clause-added
returns-in_ok-insert-in-None-clause-added c q =
    let new : SeenNames = record { own = c.insert.new.self; inner = c.args.self.now.inner } in
    let name = string_bytes c.args.reference.now.head in
    subst (λ o. has_seen new q ≡ cond (same_inside name (option_map string_bytes o) q.head q.port) true (has_seen c.args.self.now q)) (sym c.in-None.is) (by q.port)
  where
    by : (port : Option (List ℕ)) → has_inside (record { own = c.insert.new.self; inner = c.args.self.now.inner }) q.head port ≡ cond (same_inside (string_bytes c.args.reference.now.head) None q.head port) true (has_inside c.args.self.now q.head port)
    by None = c.in_ok-insert-in-None.ensures.updates.0 (text q.head) ∙ ap (λ n. cond (bytes_eq n q.head) true (has_inside c.args.self.now q.head None)) c.as_str.ensures.value
    by (Some p) = refl

pub returns-in_ok-insert-in-Some-clause-added : goal.returns-in_ok-insert-in-Some-clause-added
returns-in_ok-insert-in-Some-clause-added c q =
    let new : SeenNames = record { own = c.args.self.now.own; inner = c.insert-in-Some.new.self } in
    let name = string_bytes c.args.reference.now.head in
    subst (λ o. has_seen new q ≡ cond (same_inside name (option_map string_bytes o) q.head q.port) true (has_seen c.args.self.now q)) (sym c.in-Some.is) (by q.port)
  where
    by : (port : Option (List ℕ)) → has_inside (record { own = c.args.self.now.own; inner = c.insert-in-Some.new.self }) q.head port ≡ cond (same_inside (string_bytes c.args.reference.now.head) (Some (string_bytes c.in-Some.port)) q.head port) true (has_inside c.args.self.now q.head port)
    by None = refl
    by (Some p) =
        c.in_ok-insert-in-Some.ensures.updates.0 (text q.head, text p)
        ∙ ap (λ n. cond (bytes_eq n q.head && bytes_eq c.as_str-in-Some-2.result.now p) true (has_inside c.args.self.now q.head (Some p))) c.as_str-in-Some.ensures.value
        ∙ ap (λ n. cond (bytes_eq (string_bytes c.args.reference.now.head) q.head && bytes_eq n p) true (has_inside c.args.self.now q.head (Some p))) c.as_str-in-Some-2.ensures.value

use Rattle.std.proofs.Common.{◌≡◌, ◌↔◌, ◌∙◌, List, IsSome, map, sym, ap, subst, Contains, ◌&&◌, true}
use Rattle.std.specs.{List.{filter, Sorted.IsStrictlySortedBy}, Map.keys_of, Ordering.is_le}
use Rattle.lft_ir.specs.declared.parts.{Value.Value, Name.Name}
use Rattle.lft_queue.specs.{Pending.{Pending, value_of}, inner.{Pending.names_at, Keys.{Key, pending_at, key_cmp, AreFrom}}}
use Rattle.lft_queue.proofs.Named.{from_on, are_from, names_from, named}
use Rattle.lft_queue.proofs.queue.Queue.names_at.Goals as goal

pub new-requires : goal.new-requires
new-requires c =
    let es = c.self.inside.values.entries in
    let s : IsStrictlySortedBy key_cmp (keys_of es) = c.range.ensures.ordered in
    let r : c.range.result ≡ from_on c.args.tag es = c.range.ensures.between tt ∙ ap (λ (k : Key). filter (λ (e : Key × Value). is_le (key_cmp k e.0) && true) es) c.key.ensures in
    subst (λ (fs : List (Key × Value)). AreFrom c.args.tag fs) (sym r) (are_from c.args.tag es s)

pub returns : goal.returns
returns c = λ n.
    let es = c.self.inside.values.entries in
    let r : c.range.result ≡ from_on c.args.tag es = c.range.ensures.between tt ∙ ap (λ (k : Key). filter (λ (e : Key × Value). is_le (key_cmp k e.0) && true) es) c.key.ensures in
    let names : c.new.result ≡ names_at c.args.tag c.args.self.now = c.new.ensures ∙ ap (λ (fs : List (Key × Value)). names_at c.args.tag (map pending_at fs)) r ∙ names_from c.args.tag es ∙ ap (λ (ps : List Pending). names_at c.args.tag ps) c.self.view_is in
    subst (λ (ns : List Name). Contains ns n ↔ IsSome (value_of c.args.tag n c.args.self.now)) (sym names) (named c.args.tag n c.args.self.now)

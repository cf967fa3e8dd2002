-- Entries of a map, one of which gets a value.
use Rattle.std.proofs.Common.{ℕ, List, [], ◌∷◌}
use Rattle.std.specs.{BTreeMap.insert_entry, List.AllByRecursion, Ordering.{nat_cmp, match_ordering}}
use Rattle.std.specs.declared.cmp.Ordering.{Ordering, TheVariants.{Less, Equal, Greater}}

-- what holds of the new value holds of all, where it held of the others
pub all_inserted : (P : ℕ × ℕ → Type 0) (k v : ℕ) → ((q : ℕ) → P (q, v)) → (es : List (ℕ × ℕ)) → AllByRecursion P es → AllByRecursion P (insert_entry nat_cmp es k v)
all_inserted P k v new [] all = (new k, tt)
all_inserted P k v new (e ∷ es) all = go (nat_cmp k e.0) (all_inserted P k v new es all.1)
  where
    go : (o : Ordering) → AllByRecursion P (insert_entry nat_cmp es k v) → AllByRecursion P (match_ordering o ((k, v) ∷ e ∷ es) ((e.0, v) ∷ es) (e ∷ insert_entry nat_cmp es k v))
    go Less rest = (new k, all)
    go Equal rest = (new e.0, all.1)
    go Greater rest = (all.0, rest)

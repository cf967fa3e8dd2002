use Rattle.std.proofs.Common.{◌≡◌, ℕ, sym, subst, Contains, eqb, arith}
use Rattle.std.proofs.lemmas.Cmp.{nat_cmp_total}
use Rattle.std.proofs.lemmas.List.{Filters.dedup_is, Kept.{IsStrictlySortedBy-dedup, Contains-dedup_nat, Contains-from_dedup, AllPairs-from_increasing}}
use Rattle.std.proofs.lemmas.List.Sorted.{Contains-permutation, IsPermutation-sym}
use Rattle.std.proofs.lemmas.{Map.Keys.IsStrictlyIncreasing-from_sorted, Bool.Decides.nat_tests}
use Rattle.std.specs.{List.{dedup, Sorted.IsStrictlyIncreasing}, Ordering.{nat_cmp, eq_by_cmp}}
use Rattle.lft_graph.proofs.before.ascending.Goals as goal

ties : (x y : ℕ) → eqb x y ≡ eq_by_cmp nat_cmp x y
ties x y = grind (arith, nat_tests)

pub returns-clause-ascends : goal.returns-clause-ascends
returns-clause-ascends c =
    let e : c.dedup.new.self.items ≡ dedup eqb c.sort_unstable.new.self.items = dedup_is eqb c.sort_unstable.new.self.items c.dedup.new.self.items c.dedup.ensures.filtered in
    AllPairs-from_increasing c.dedup.new.self.items (subst IsStrictlyIncreasing (sym e) (IsStrictlyIncreasing-from_sorted (dedup eqb c.sort_unstable.new.self.items) (IsStrictlySortedBy-dedup nat_cmp_total ties c.sort_unstable.new.self.items c.sort_unstable.ensures.sorted)))

pub returns-clause-members : goal.returns-clause-members
returns-clause-members c a =
    let e : c.dedup.new.self.items ≡ dedup eqb c.sort_unstable.new.self.items = dedup_is eqb c.sort_unstable.new.self.items c.dedup.new.self.items c.dedup.ensures.filtered in
    let p = c.sort_unstable.ensures.permutation in
    let q = IsPermutation-sym c.args.found.items c.sort_unstable.new.self.items p in
    (λ m. Contains-permutation c.sort_unstable.new.self.items c.args.found.items a q (Contains-from_dedup eqb c.sort_unstable.new.self.items a (subst (λ l. Contains l a) e m)), λ m. subst (λ l. Contains l a) (sym e) (Contains-dedup_nat c.sort_unstable.new.self.items a (Contains-permutation c.args.found.items c.sort_unstable.new.self.items a p m)))

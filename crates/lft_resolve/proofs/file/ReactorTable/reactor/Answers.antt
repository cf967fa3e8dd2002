use Rattle.std.proofs.Common.{◌≡◌, ℕ, List, slice_get, Option, Some, None, MatchOption, IsSomeAnd, Bor, ap, ◌∙◌}
use Rattle.lft_tree.specs.Tree.{ReactorTree}
use Rattle.lft_resolve.{specs.{Instances.reactor_named, inner.Tables.IsOwn, declared.own.Own.Own}, proofs.{Directed.AllZip-there, Placing.lent}}
use Rattle.lft_resolve.proofs.file.ReactorTable.reactor.Goals as goal

-- the table of a reactor that is there
lent_own : (rs : List ReactorTree) (q : List ℕ) (r : ReactorTree) (o : Option (Bor Own)) → reactor_named rs q ≡ Some r → IsSomeAnd o (λ b. IsOwn r b.now) → MatchOption o (reactor_named rs q ≡ None) (λ b. (r : ReactorTree) × (reactor_named rs q ≡ Some r) × IsOwn r b.now)
lent_own rs q r None named own = absurd own
lent_own rs q r (Some b) named own = (r, named, own)

pub returns-in-Some : goal.returns-in-Some
returns-in-Some c rs is =
    let there = c.in-Some.ensures rs is in
    lent_own rs c.args.name.now there.0 c.get.result there.1 (AllZip-there IsOwn rs c.args.self.now.owns.items c.get.result c.in-Some.number there.0 is.owns there.2 (lent c.deref.result.now c.in-Some.number c.get.result c.get.ensures.lookup ∙ ap (λ l. slice_get l c.in-Some.number) c.deref.ensures.value))

-- A cycle of sources is a cycle of connections, and the other way round.
use Rattle.std.proofs.Common.{◌≡◌, ℕ, List, ◌++◌, refl, sym, ◌∙◌, subst, Option, Some, slice_get, option_to_list, arith}
use Rattle.std.proofs.lemmas.Option.{slice_get_within}
use Rattle.lft_lists.proofs.Places.{get_there}
use Rattle.lft_tree.specs.Tree.{FileTree}
use Rattle.lft_resolve.specs.{inner.Expansion.Sources.{LeadsBackwards, one, more}, Causes.ConnectionCycle}
use Rattle.lft_resolve.specs.Instances.{Thing, Chain, one as one_step, more as more_steps}
use Rattle.lft_tag.specs.declared.Source.{Source}
use Rattle.lft_program.proofs.Connected.{TreeSources}

module _ (tree : FileTree) (ports : List Thing) (sources : List (Option Source)) (w : TreeSources tree ports sources) where
  -- the port of a number that has an entry
  pub within : (p : ℕ) (o : Option Source) → slice_get sources p ≡ Some o → (t : Thing) × (slice_get ports p ≡ Some t)
  within p o e = get_there ports p (let l = slice_get_within sources p o e in let s = w.as_long in omega arith)

  chain_of : (p q : ℕ) (t : Thing) → LeadsBackwards sources p q → slice_get ports p ≡ Some t → (u : Thing) × (delays : List ℕ) × (slice_get ports q ≡ Some u) × Chain tree u t delays
  chain_of p q t (one s a e) f =
      let j = w.joined p t s f a in
      (j.0, option_to_list j.1, subst (λ k. slice_get ports k ≡ Some j.0) e j.2, one_step j.1 j.3 refl)
  chain_of p q t (more s a r) f =
      let j = w.joined p t s f a in
      let c = chain_of s.port q j.0 r j.2 in
      (c.0, c.1 ++ option_to_list j.1, c.2, more_steps c.1 j.1 c.3 j.3 refl)

  -- a cycle of sources is the cause
  pub cycle_is_cause : (p : ℕ) → LeadsBackwards sources p p → ConnectionCycle tree
  unfolding ConnectionCycle
  cycle_is_cause p l =
      let t = here l in
      let c = chain_of p p t.0 l t.1 in
      let e : Some c.0 ≡ Some t.0 = sym c.2 ∙ t.1 in
      let f : c.0 ≡ t.0 = cc in
      (t.0, c.1, subst (λ u. Chain tree u t.0 c.1) f c.3)
    where
      here : LeadsBackwards sources p p → (t : Thing) × (slice_get ports p ≡ Some t)
      here (one s a e) = within p (Some s) a
      here (more s a r) = within p (Some s) a

  leads_of : (a t : Thing) (delays : List ℕ) → Chain tree a t delays → (p : ℕ) × (q : ℕ) × (slice_get ports p ≡ Some t) × (slice_get ports q ≡ Some a) × LeadsBackwards sources p q
  leads_of a t delays (one_step d c e) =
      let j = w.complete a t d c in (j.0, j.1.port, j.2, j.4, one j.1 j.3 refl)
  leads_of a t delays (more_steps {b = b} first d rest c e) =
      let j = w.complete b t d c in
      let r = leads_of a b first rest in
      let same : j.1.port ≡ r.0 = w.distinct j.1.port r.0 b j.4 r.2 in
      (j.0, r.1, j.2, r.3, more j.1 j.3 (subst (λ k. LeadsBackwards sources k r.1) (sym same) r.4))

  -- where no source leads back, the cause is absent
  pub no_cycle_no_cause : ((p : ℕ) → LeadsBackwards sources p p → ⊥) → ConnectionCycle tree → ⊥
  unfolding ConnectionCycle
  no_cycle_no_cause n c =
      let l = leads_of c.0 c.0 c.1 c.2 in
      let same : l.1 ≡ l.0 = w.distinct l.1 l.0 c.0 l.3 l.2 in
      n l.0 (subst (λ k. LeadsBackwards sources l.0 k) same l.4)

-- The way back by number is one along connections of the tree.
use Rattle.std.proofs.Common.{◌≡◌, ℕ, ◌<◌, List, [], ◌∷◌, ◌++◌, refl, sym, ap, ◌∙◌, subst, arith, sum, Option, Some, None, slice_get, option_to_list, length}
use Rattle.std.proofs.lemmas.Option.{slice_get_within}
use Rattle.lft_lists.proofs.Places.{get_there, same_some}
use Rattle.lft_tree.specs.Tree.{FileTree}
use Rattle.lft_tag.specs.declared.Source.{Source}
use Rattle.lft_resolve.specs.declared.expansion.{joins.{Connections.Connections, Site.Site, PortSources.PortSources}, origins.Reached.Reached}
use Rattle.lft_resolve.specs.declared.expansion.walk.Instance.{Instance}
use Rattle.lft_resolve.specs.inner.Expansion.Joins.{AreSites, AreSources}
use Rattle.lft_resolve.specs.inner.Expansion.Sources.{AreReached, IsFolded, IsReached, LeadsBackwards, ChainOrigin, itself, over}
use Rattle.lft_resolve.specs.inner.Expansion.Ways.{HaveSites, IsWayBack, LeadsBack}
use Rattle.lft_resolve.specs.{Causes.longest, Instances.Thing}
use Rattle.lft_resolve.proofs.ExpansionLemmas.{Chains.leads_from, Backwards.{end_back, ring_back}}
use Rattle.lft_program.specs.inner.{Linking.IsTooLong, Nests.IsNest, Tables.{AreTables, IsLawful}, Ways.{IsJoined, IsLongChain, IsRing, LeadBack}}
use Rattle.lft_program.specs.{Located.ports_in, declared.nesting.{linking.Way.Way, nest.Nest.Nest, tables.Tables.Tables}}
use Rattle.lft_program.proofs.{Connected.{NoLongTime, TreeSources, joined_by, tree_sources}, Lengths.last_of}

-- nothing delays what no join leads into
no_delays : (sources : List (Option Source)) (p o : ℕ) (all : List ℕ) → ChainOrigin sources p o all → slice_get sources p ≡ Some None → [] ≡ all
no_delays sources p o all (itself e) f = refl
no_delays sources p o all (over source first e rest d) f = absurd (cc)

module _ (tree : FileTree) (tables : Tables) (nest : Nest) (made : AreTables tree tables) (lawful : IsLawful tree) (n : IsNest tree tables nest) (sources : List (Option Source)) (w : AreSources nest.ports.counts.items tables.connections.items nest.instances.items nest.ports.firsts.items nest.children nest.values sources) (sites : List Site) (beside : AreSites tables.connections.items nest.instances.items nest.ports.firsts.items nest.children nest.values sources sites) where
  abbrev ports : List Thing
  ports = ports_in n.located

  of_tree : TreeSources tree ports sources
  of_tree = tree_sources tree tables nest made lawful n sources w

  -- the port of a number
  port : (p : ℕ) → p < length sources → (t : Thing) × (slice_get ports p ≡ Some t)
  port p low = get_there ports p (let s = of_tree.as_long in omega (arith, low, s))

  -- the source of a port is joined to it at the site beside it
  joined_at : (p : ℕ) (t : Thing) (s : Source) (x : Site) → slice_get ports p ≡ Some t → slice_get sources p ≡ Some (Some s) → slice_get sites p ≡ Some x → (from : Thing) × (delay : Option ℕ) × (slice_get ports s.port ≡ Some from) × IsJoined tree nest.instances.items x from t delay × (NoLongTime tree → delay ≡ s.delay)
  joined_at p t s x e f g =
      let y = beside p s f in
      let r = joined_by tree tables nest made lawful n sources w p t s e y.2.0 in
      let here : y.0 ≡ x = same_some (slice_get sites p) y.0 x y.1 g in
      let at = y.2.1 in
      let site : ℕ → ℕ → Site = λ number place. record { number = number; place = place } in
      let same : site y.2.0.number y.2.0.place ≡ x = ap (λ k. site k y.2.0.place) (sym at.0) ∙ ap (λ k. site y.0.number k) (sym at.1) ∙ here in
      (r.0, r.1, r.2, subst (λ z. IsJoined tree nest.instances.items z r.0 t r.1) same r.3, r.4)

  -- with its delays, if no time is too long
  back : (p : ℕ) (t : Thing) (way : List Site) (q : ℕ) → slice_get ports p ≡ Some t → LeadsBack sources sites p way q → (a : Thing) × (ds : List ℕ) × (slice_get ports q ≡ Some a) × LeadBack tree nest.instances.items t way a ds × (NoLongTime tree → (o : ℕ) (all : List ℕ) → slice_get sources q ≡ Some None → ChainOrigin sources p o all → ds ≡ all)
  back p t [] q e l = (t, [], subst (λ k. slice_get ports k ≡ Some t) l e, (refl, refl), λ short o all none g. no_delays sources p o all g (subst (λ k. slice_get sources k ≡ Some None) (sym l) none))
  back p t (x ∷ way) q e l =
      let j = joined_at p t l.0 x e l.1 l.2 in
      let r = back l.0.port j.0 way q j.2 l.3 in (
        r.0,
        r.1 ++ option_to_list j.1,
        r.2,
        (j.0, j.1, r.1, j.3, r.3, refl),
        λ short o all none g.
            let d = last_of tree ports sources of_tree short p o l.0 all l.1 g in
            ap (λ ds. ds ++ option_to_list j.1) (r.4 short o d.0 none d.1) ∙ ap (λ k. d.0 ++ option_to_list k) (j.4 short) ∙ sym d.2,
      )

  pub ring : (p : ℕ) → LeadsBackwards sources p p → (told : Way) → told.instances.items ≡ nest.instances.items → IsWayBack sources sites p told.joins.items → IsRing tree told
  ring p l told same is =
      let t = port p (leads_from sources p p l) in
      let way = told.joins.items in
      let r = ring_back sources sites p way is l in
      let b = back p t.0 way p t.1 r.0 in
      let here : b.0 ≡ t.0 = same_some (slice_get ports p) b.0 t.0 b.2 t.1 in
      (t.0, b.1, subst (λ i. LeadBack tree i t.0 way t.0 b.1) (sym same) (subst (λ a. LeadBack tree nest.instances.items t.0 way a b.1) here b.3), r.1)

  pub long : ((p : ℕ) → LeadsBackwards sources p p → ⊥) → NoLongTime tree → (all : List Reached) → AreReached sources all → (p : ℕ) → IsTooLong all p → (told : Way) → told.instances.items ≡ nest.instances.items → IsWayBack sources sites p told.joins.items → IsLongChain tree told
  long none short all reached p (r, e, no_shift) told same is = (t.0, b.0, b.1, subst (λ i. LeadBack tree i t.0 way b.0 b.1) (sym same) b.3, subst (λ ds. longest < sum ds) (sym delays) (subst (IsFolded i.delays) no_shift i.folded))
    where
      way : List Site
      way = told.joins.items

      i : IsReached sources p r
      i = reached.each p r e

      t : (t : Thing) × (slice_get ports p ≡ Some t)
      t = port p (let l = slice_get_within all p r e in let s = reached.as_long in omega (arith, l, s))

      b : (a : Thing) × (ds : List ℕ) × (slice_get ports is.last ≡ Some a) × LeadBack tree nest.instances.items t.0 way a ds × (NoLongTime tree → (o : ℕ) (all : List ℕ) → slice_get sources is.last ≡ Some None → ChainOrigin sources p o all → ds ≡ all)
      b = back p t.0 way is.last t.1 is.leads

      delays : b.1 ≡ i.delays
      delays = b.4 short r.origin i.delays (end_back sources sites p way is (none p)) i.origin

-- the same of lists that are read from the tables and the nest
module _ {tree : FileTree} {tables : Tables} {nest : Nest} (made : AreTables tree tables) (n : IsNest tree tables nest) (lawful : IsLawful tree) {counts : List ℕ} {table : List Connections} {instances : List Instance} {firsts : List ℕ} (as_counts : counts ≡ nest.ports.counts.items) (as_table : table ≡ tables.connections.items) (as_instances : instances ≡ nest.instances.items) (as_firsts : firsts ≡ nest.ports.firsts.items) (found : PortSources) (w : AreSources counts table instances firsts nest.children nest.values found.sources.items) (beside : AreSites table instances firsts nest.children nest.values found.sources.items found.sites.items) where
  pub sites_read : HaveSites found.sources.items found.sites.items
  sites_read p s e = let y = beside p s e in (y.0, y.1)

  by_nest : AreSources nest.ports.counts.items tables.connections.items nest.instances.items nest.ports.firsts.items nest.children nest.values found.sources.items
  by_nest = rw (← as_counts, ← as_table, ← as_instances, ← as_firsts) w

  beside_nest : AreSites tables.connections.items nest.instances.items nest.ports.firsts.items nest.children nest.values found.sources.items found.sites.items
  beside_nest = rw (← as_table, ← as_instances, ← as_firsts) beside

  pub ring_read : (p : ℕ) → LeadsBackwards found.sources.items p p → (told : Way) → told.instances.items ≡ nest.instances.items → IsWayBack found.sources.items found.sites.items p told.joins.items → IsRing tree told
  ring_read = ring tree tables nest made lawful n found.sources.items by_nest found.sites.items beside_nest

  pub long_read : ((p : ℕ) → LeadsBackwards found.sources.items p p → ⊥) → NoLongTime tree → (all : List Reached) → AreReached found.sources.items all → (p : ℕ) → IsTooLong all p → (told : Way) → told.instances.items ≡ nest.instances.items → IsWayBack found.sources.items found.sites.items p told.joins.items → IsLongChain tree told
  long_read = long tree tables nest made lawful n found.sources.items by_nest found.sites.items beside_nest

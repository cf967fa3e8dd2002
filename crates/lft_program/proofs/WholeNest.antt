-- The nest of a tree, and the limits that it keeps.
use Rattle.std.proofs.Common.{◌≡◌, ℕ, ◌-◌, ◌<◌, ◌≤◌, arith, inl, inr, List, length, refl, sym, ◌∙◌, subst, Result, Err, IsErrAnd, map}
use Rattle.lft_tree.specs.Tree.{FileTree, ReactorTree, actions_of, ports_of, reactions_of, reactors_of, timers_of}
use Rattle.lft_resolve.specs.inner.Expansion.{Children.AreChildren, Contents.{IsWalk, contained}, Numbers.{AreFirstNumbers, HasMoreThings, things}}
use Rattle.lft_resolve.specs.inner.Expansion.Values.{HaveValues, LeadToValues}
use Rattle.lft_resolve.specs.{Expansion.Paths.{Exists, IsMoreThan}, declared.expansion.walk.{Contents.Contents, Instance.Instance}}
use Rattle.lft_resolve.specs.Causes.{IsDeclaredAt, TooMany, joins_of}
use Rattle.lft_resolve.proofs.ExpansionLemmas.Things.{walk_more_things}
use Rattle.lft_program.specs.inner.{Limits.{HasMoreThan, IsExcess, IsFull, IsPassed, limit_of}, Nests.{IsNest, IsNumbering}, Tables.{AreTables, IsLawful}}
use Rattle.lft_program.specs.declared.nesting.limits.{Excess.Excess, LimitedKind.{LimitedKind, TheVariants.{Reactions, Ports, Connections, Actions, Timers}}}
use Rattle.lft_program.specs.declared.nesting.{nest.{Nest.Nest, Numbering.Numbering}, tables.Tables.Tables}
use Rattle.lft_program.proofs.Counted.{actions_counted, joins_counted, ports_counted, reactions_counted, timers_counted}
use Rattle.lft_program.proofs.Limiting.{more_declared, more_instances, more_numbers, more_things}
use Rattle.lft_program.proofs.Locating.{all_located, are_instances, are_located, are_values, located_paths}

-- ---- what the tables count of each kind

abbrev pub reaction_counts : Tables → List ℕ
reaction_counts tables = map (λ x. length x.reactions.items) tables.reactions.items

abbrev pub port_counts : Tables → List ℕ
port_counts tables = map (λ x. length x.inputs.items) tables.declarations.items

abbrev pub join_counts : Tables → List ℕ
join_counts tables = map (λ x. length x.joins.items) tables.connections.items

abbrev pub action_counts : Tables → List ℕ
action_counts tables = map (λ x. length x.actions.items) tables.declarations.items

abbrev pub timer_counts : Tables → List ℕ
timer_counts tables = map (λ x. length x.timers.items) tables.declarations.items

-- what a call numbered
pub record WasNumbered (counts : List ℕ) (instances : List Instance) (limit : ℕ) (n : Numbering) : Type 0 where
  pub same : n.counts.items ≡ counts
  pub firsts : AreFirstNumbers counts instances n.firsts.items
  pub few : things counts instances ≤ limit

pub numbering_is : {X : Type 0} (kind : ReactorTree → List X) (rs : List ReactorTree) (counts : List ℕ) (instances : List Instance) (limit : ℕ) (n : Numbering) → counts ≡ map (λ r. length (kind r)) rs → WasNumbered counts instances limit n → IsNumbering kind rs instances limit n
numbering_is kind rs counts instances limit n e w = record {
  counts = w.same ∙ e;
  firsts = subst (λ l. AreFirstNumbers l instances n.firsts.items) (sym w.same) w.firsts;
  few = subst (λ l. things l instances ≤ limit) (sym w.same) w.few;
}

-- ---- what calls answered of these lists

-- the fault of a failed call is that of what it called
pub same_fault : {X F : Type 0} (r : Result X F) (f g : F) → IsErrAnd r (λ e. e ≡ f) → r ≡ Err g → f ≡ g
same_fault r f g is e = sym (subst (λ r. IsErrAnd r (λ e. e ≡ f)) e is)

pub passed_here : (kind : LimitedKind) (instances theirs : List Instance) (counts counted : List ℕ) (x : Excess) → theirs ≡ instances → counted ≡ counts → IsPassed kind (things counted theirs) x → IsPassed kind (things counts instances) x
passed_here kind instances theirs counts counted x e f w = subst (λ l. IsPassed kind (things l instances) x) f (subst (λ l. IsPassed kind (things counted l) x) e w)

pub none_here : (contents : List Contents) (main limit : ℕ) (instances theirs : List Instance) (counts counted : List ℕ) → IsWalk contents main instances → theirs ≡ instances → counted ≡ counts → ((table : List Contents) → (main : ℕ) → IsWalk table main theirs → HasMoreThings table main counted limit → ⊥) → HasMoreThings contents main counts limit → ⊥
none_here contents main limit instances theirs counts counted w e f none more = none contents main (subst (IsWalk contents main) (sym e) w) (subst (λ l. HasMoreThings contents main l limit) (sym f) more)

pub numbered_here : (instances theirs : List Instance) (counts counted : List ℕ) (limit : ℕ) (n : Numbering) → theirs ≡ instances → counted ≡ counts → n.counts.items ≡ counted → AreFirstNumbers counted theirs n.firsts.items → things counted theirs ≤ limit → WasNumbered counts instances limit n
numbered_here instances theirs counts counted limit n e f same firsts few = record {
  same = same ∙ f;
  firsts = subst (λ l. AreFirstNumbers l instances n.firsts.items) f (subst (λ l. AreFirstNumbers counted l n.firsts.items) e firsts);
  few = subst (λ l. things l instances ≤ limit) f (subst (λ l. things counted l ≤ limit) e few);
}

-- ---- the nest

module _ (tree : FileTree) (tables : Tables) (are : AreTables tree tables) (lawful : IsLawful tree) where
  pub is_nest : (nest : Nest) → IsWalk tables.contents.items tables.main nest.instances.items → length nest.instances.items ≤ 10000 → AreChildren nest.instances.items nest.children → HaveValues tables.parameters.items nest.instances.items nest.values → LeadToValues tables.contents.items tables.parameters.items tables.main nest.instances.items nest.values → WasNumbered (port_counts tables) nest.instances.items 100000 nest.ports → WasNumbered (timer_counts tables) nest.instances.items 100000 nest.timers → WasNumbered (action_counts tables) nest.instances.items 100000 nest.actions → WasNumbered (reaction_counts tables) nest.instances.items 10000 nest.reactions → IsNest tree tables nest
  is_nest nest walk few children have lead ports timers actions reactions =
      let rs = reactors_of tree in
      let instances = nest.instances.items in
      let contents = tables.contents.items in
      record {
        located = all_located tree contents tables.main are.main instances are.contents are.is_main are.main_number walk;
        are_located = are_located tree contents tables.main are.main instances are.contents are.is_main are.main_number walk;
        walk = walk;
        paths = located_paths tree contents tables.main are.main instances are.contents are.is_main are.main_number walk;
        instances = are_instances tree contents tables.main are.main instances are.contents are.is_main are.main_number walk;
        few = few;
        children = children;
        values = are_values tree contents tables.main are.main instances are.contents are.is_main are.main_number walk tables.parameters.items nest.values are.parameters lawful.first have lead;
        ports = numbering_is ports_of rs (port_counts tables) instances 100000 nest.ports (ports_counted rs tables.declarations.items are.declarations) ports;
        timers = numbering_is timers_of rs (timer_counts tables) instances 100000 nest.timers (timers_counted rs tables.declarations.items are.declarations) timers;
        actions = numbering_is actions_of rs (action_counts tables) instances 100000 nest.actions (actions_counted rs tables.declarations.items are.declarations) actions;
        reactions = numbering_is reactions_of rs (reaction_counts tables) instances 10000 nest.reactions (reactions_counted rs tables.reactions.items are.reactions) reactions;
      }

  -- ---- the limits

  -- more of a kind by number than the limit
  abbrev pub MoreByNumber : List ℕ → ℕ → Type 0
  MoreByNumber counts limit = HasMoreThings tables.contents.items tables.main counts limit

  more_of : {X : Type 0} (kind : ReactorTree → List X) (counts : List ℕ) (limit : ℕ) → counts ≡ map (λ r. length (kind r)) (reactors_of tree) → MoreByNumber counts limit → IsMoreThan (IsDeclaredAt tree kind) limit
  more_of kind counts limit e = more_declared tree tables.contents.items tables.main are.main are.contents are.is_main are.main_number kind counts e limit

  more_by : {X : Type 0} (kind : ReactorTree → List X) (counts : List ℕ) (limit : ℕ) → counts ≡ map (λ r. length (kind r)) (reactors_of tree) → IsMoreThan (IsDeclaredAt tree kind) limit → MoreByNumber counts limit
  more_by kind counts limit e = more_things tree tables.contents.items tables.main are.main are.contents are.is_main are.main_number kind counts e limit

  pub excess_of_instances : (x : Excess) → IsFull tables.contents.items tables.main x → IsExcess tree x
  excess_of_instances x w =
      let more : (n : ℕ) → IsMoreThan (Exists (contained tables.contents.items) tables.main) n → HasMoreThan tree x.kind n = λ n m. subst (λ k. HasMoreThan tree k n) (sym w.is_kind) (more_instances tree tables.contents.items tables.main are.main are.contents are.is_main are.main_number n m) in
      record {
        passed = subst (λ k. limit_of k < x.count) (sym w.is_kind) w.passed;
        has = more (x.count - 1) w.has;
        more = λ is. more x.count (w.more is);
      }

  module _ (instances : List Instance) (walk : IsWalk tables.contents.items tables.main instances) where
    more_in : {X : Type 0} (kind : ReactorTree → List X) (counts : List ℕ) → counts ≡ map (λ r. length (kind r)) (reactors_of tree) → (n : ℕ) → n < things counts instances → IsMoreThan (IsDeclaredAt tree kind) n
    more_in kind counts e n l = more_of kind counts n e (walk_more_things counts tables.contents.items tables.main instances n walk l)

    excess : (kind : LimitedKind) (all : ℕ) → ((n : ℕ) → n < all → HasMoreThan tree kind n) → (x : Excess) → IsPassed kind all x → IsExcess tree x
    excess kind all more x w = record {
      passed = subst (λ k. limit_of k < x.count) (sym w.is_kind) w.passed;
      has = subst (λ k. HasMoreThan tree k (x.count - 1)) (sym w.is_kind) (more (x.count - 1) (let p = w.passed in let c = w.counted in omega arith));
      more = λ is. absurd (let whole = w.whole in cc);
    }

    pub excess_of_reactions : (x : Excess) → IsPassed Reactions (things (reaction_counts tables) instances) x → IsExcess tree x
    excess_of_reactions x w = excess Reactions (things (reaction_counts tables) instances) (more_in reactions_of (reaction_counts tables) (reactions_counted (reactors_of tree) tables.reactions.items are.reactions)) x w

    pub excess_of_ports : (x : Excess) → IsPassed Ports (things (port_counts tables) instances) x → IsExcess tree x
    excess_of_ports x w = excess Ports (things (port_counts tables) instances) (more_in ports_of (port_counts tables) (ports_counted (reactors_of tree) tables.declarations.items are.declarations)) x w

    pub excess_of_joins : (x : Excess) → IsPassed Connections (things (join_counts tables) instances) x → IsExcess tree x
    excess_of_joins x w = excess Connections (things (join_counts tables) instances) (more_in joins_of (join_counts tables) (joins_counted (reactors_of tree) tables.connections.items lawful.later are.connections)) x w

    pub excess_of_actions : (x : Excess) → IsPassed Actions (things (action_counts tables) instances) x → IsExcess tree x
    excess_of_actions x w = excess Actions (things (action_counts tables) instances) (more_in actions_of (action_counts tables) (actions_counted (reactors_of tree) tables.declarations.items are.declarations)) x w

    pub excess_of_timers : (x : Excess) → IsPassed Timers (things (timer_counts tables) instances) x → IsExcess tree x
    excess_of_timers x w = excess Timers (things (timer_counts tables) instances) (more_in timers_of (timer_counts tables) (timers_counted (reactors_of tree) tables.declarations.items are.declarations)) x w

  pub not_too_many : (IsMoreThan (Exists (contained tables.contents.items) tables.main) 10000 → ⊥) → (MoreByNumber (reaction_counts tables) 10000 → ⊥) → (MoreByNumber (port_counts tables) 100000 → ⊥) → (MoreByNumber (join_counts tables) 100000 → ⊥) → (MoreByNumber (action_counts tables) 100000 → ⊥) → (MoreByNumber (timer_counts tables) 100000 → ⊥) → TooMany tree → ⊥
  unfolding TooMany
  not_too_many i r p j a t (inl w) = i (more_numbers tree tables.contents.items tables.main are.main are.contents are.is_main are.main_number 10000 w)
  not_too_many i r p j a t (inr (inl w)) = r (more_by reactions_of (reaction_counts tables) 10000 (reactions_counted (reactors_of tree) tables.reactions.items are.reactions) w)
  not_too_many i r p j a t (inr (inr (inl w))) = p (more_by ports_of (port_counts tables) 100000 (ports_counted (reactors_of tree) tables.declarations.items are.declarations) w)
  not_too_many i r p j a t (inr (inr (inr (inl w)))) = j (more_by joins_of (join_counts tables) 100000 (joins_counted (reactors_of tree) tables.connections.items lawful.later are.connections) w)
  not_too_many i r p j a t (inr (inr (inr (inr (inl w))))) = a (more_by actions_of (action_counts tables) 100000 (actions_counted (reactors_of tree) tables.declarations.items are.declarations) w)
  not_too_many i r p j a t (inr (inr (inr (inr (inr w))))) = t (more_by timers_of (timer_counts tables) 100000 (timers_counted (reactors_of tree) tables.declarations.items are.declarations) w)

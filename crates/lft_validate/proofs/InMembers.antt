-- What some member of a reactor has, the reactor has, and the other way.
use Rattle.std.proofs.Common.{◌≡◌, List, [], ◌∷◌, ◌++◌, map, flat_map, filter_map, option_to_list, option_map, Option, Some, None, Any, IsSomeAnd, ◌⊎◌, inl, inr, ⊎_elim, refl, sym, ap, subst, ◌∙◌}
use Rattle.std.proofs.lemmas.{List.map-append, Simd.map-map}
use Rattle.lft_tree.specs.Tree.{RefTree, TimeTree, timer_in, action_in, instance_in, reaction_in, connection_in, timers_of, actions_of, instances_of, reactions_of, connections_of}
use Rattle.lft_tree.specs.View.{assignment_view, member_view, reactor_view, reaction_view, ref_view, time_view, trigger_view}
use Rattle.lft_tree.specs.declared.tree.{Assignment.Assignment, Member.Member, Reaction.Reaction, Reactor.Reactor, Reference.Reference}
use Rattle.lft_tree.specs.declared.tree.{TimeExpression.TimeExpression, Trigger.Trigger}
use Rattle.lft_resolve.specs.Kinds.{names_read, reaction_refs, connection_refs, ref_in, refs_in, in_role, timer_times, times_in}
use Rattle.lft_resolve.specs.declared.kinds.Role.{Role, TheVariants.{Read, Effect, Source, Destination}}
use Rattle.lft_resolve.proofs.Somes.{Any-nil, Any-head, Any-tail, Any-append_cases, Any-left, Any-right, Any-weaker}
use Rattle.lft_resolve.proofs.Lacking.{Any-either, Any-flat_map, Any-map}
use Rattle.lft_validate.{specs.{Members.{name_among, names_of, times_of}, inner.Shown.SomeName}, proofs.Listing.{of_kind, to_kind, unmapped}}
use Rattle.lft_tree.specs.declared.tree.Member.TheVariants as members
use Rattle.lft_tree.specs.declared.tree.Trigger.TheVariants as triggers

-- ---- lists

unflat : {X Y : Type 0} (P : Y → Type 0) (f : X → List Y) (xs : List X) → Any P (flat_map f xs) → Any (λ x. Any P (f x)) xs
unflat P f [] a = absurd (Any-nil P a)
unflat P f (x ∷ xs) a = ⊎_elim (λ p. Any-head (λ y. Any P (f y)) x xs p) (λ r. Any-tail (λ y. Any P (f y)) x xs (unflat P f xs r)) (Any-append_cases P (f x) (flat_map f xs) a)

-- ---- names

-- the trees of the names that a reaction reads
triggering : (ts : List Trigger) → filter_map ref_in (map trigger_view ts) ≡ map ref_view (filter_map name_among ts)
triggering [] = refl
triggering (triggers.Startup ∷ ts) = triggering ts
triggering (triggers.Shutdown ∷ ts) = triggering ts
triggering (triggers.Reference x ∷ ts) = ap (λ l. ref_view x ∷ l) (triggering ts)

pub reading : (x : Reaction) → names_read (reaction_view x) ≡ map ref_view (names_of Read (members.Reaction x))
reading x = ap (λ l. l ++ map ref_view x.uses.items) (triggering x.triggers.items) ∙ sym (map-append ref_view (filter_map name_among x.triggers.items) x.uses.items)

module _ (P : Role × RefTree → Type 0) where
  abbrev InReaction : Member → Type 0
  InReaction m = IsSomeAnd (reaction_in (member_view m)) (λ x. Any P (reaction_refs x))

  abbrev InConnection : Member → Type 0
  InConnection m = IsSomeAnd (connection_in (member_view m)) (λ x. Any P (connection_refs x))

  -- names with their role
  roled : (role : Role) (xs : List Reference) → Any P (in_role role (map ref_view xs)) → Any (λ x. P (role, ref_view x)) xs
  roled role xs a = unmapped (λ ref. P (role, ref)) ref_view xs (unmapped P (λ ref. (role, ref)) (map ref_view xs) a)

  with_role : (role : Role) (xs : List Reference) → Any (λ x. P (role, ref_view x)) xs → Any P (in_role role (map ref_view xs))
  with_role role xs a = Any-map P (λ ref. (role, ref)) (map ref_view xs) (Any-map (λ ref. P (role, ref)) ref_view xs a)

  in_reaction : (m : Member) → InReaction m → SomeName P m
  in_reaction (members.Reaction x) a = ⊎_elim
      (λ l. (Read, roled Read (names_of Read (members.Reaction x)) (subst (λ l. Any P (in_role Read l)) (reading x) l)))
      (λ r. (Effect, roled Effect x.effects.items r))
      (Any-append_cases P (in_role Read (names_read (reaction_view x))) (in_role Effect (map ref_view x.effects.items)) a)
  in_reaction _ a = absurd a

  in_connection : (m : Member) → InConnection m → SomeName P m
  in_connection (members.Connection x) a = ⊎_elim (λ l. (Source, roled Source x.sources.items l)) (λ r. (Destination, roled Destination x.destinations.items r)) (Any-append_cases P (in_role Source (map ref_view x.sources.items)) (in_role Destination (map ref_view x.destinations.items)) a)
  in_connection _ a = absurd a

  in_either : (role : Role) (m : Member) → Any (λ x. P (role, ref_view x)) (names_of role m) → InReaction m ⊎ InConnection m
  in_either Read (members.Reaction x) a = inl (Any-left P (in_role Read (names_read (reaction_view x))) (in_role Effect (map ref_view x.effects.items)) (subst (λ l. Any P (in_role Read l)) (sym (reading x)) (with_role Read (names_of Read (members.Reaction x)) a)))
  in_either Effect (members.Reaction x) a = inl (Any-right P (in_role Read (names_read (reaction_view x))) (in_role Effect (map ref_view x.effects.items)) (with_role Effect x.effects.items a))
  in_either Source (members.Connection x) a = inr (Any-left P (in_role Source (map ref_view x.sources.items)) (in_role Destination (map ref_view x.destinations.items)) (with_role Source x.sources.items a))
  in_either Destination (members.Connection x) a = inr (Any-right P (in_role Source (map ref_view x.sources.items)) (in_role Destination (map ref_view x.destinations.items)) (with_role Destination x.destinations.items a))
  in_either role _ a = absurd (Any-nil (λ x. P (role, ref_view x)) a)

  module _ (r : Reactor) where
    abbrev reads : List (Role × RefTree)
    reads = flat_map reaction_refs (reactions_of (reactor_view r))

    abbrev joins : List (Role × RefTree)
    joins = flat_map connection_refs (connections_of (reactor_view r))

    pub some_name : Any P (refs_in (reactor_view r)) → Any (SomeName P) r.members.items
    some_name a = ⊎_elim
        (λ l. Any-weaker InReaction (SomeName P) in_reaction r.members.items (of_kind reaction_in (λ x. Any P (reaction_refs x)) r.members.items (unflat P reaction_refs (reactions_of (reactor_view r)) l)))
        (λ l. Any-weaker InConnection (SomeName P) in_connection r.members.items (of_kind connection_in (λ x. Any P (connection_refs x)) r.members.items (unflat P connection_refs (connections_of (reactor_view r)) l)))
        (Any-append_cases P reads joins a)

    pub its_name : Any (SomeName P) r.members.items → Any P (refs_in (reactor_view r))
    its_name a = ⊎_elim
        (λ l. Any-left P reads joins (Any-flat_map P reaction_refs (reactions_of (reactor_view r)) (to_kind reaction_in (λ x. Any P (reaction_refs x)) r.members.items l)))
        (λ l. Any-right P reads joins (Any-flat_map P connection_refs (connections_of (reactor_view r)) (to_kind connection_in (λ x. Any P (connection_refs x)) r.members.items l)))
        (Any-either InReaction InConnection r.members.items (Any-weaker (SomeName P) (λ m. InReaction m ⊎ InConnection m) (λ m n. in_either n.0 m n.1) r.members.items a))

-- ---- times

-- the trees of times that may be left out
listed : (o : Option TimeExpression) → option_to_list (option_map time_view o) ≡ map time_view (option_to_list o)
listed None = refl
listed (Some t) = refl

-- the trees of the times of a member, by what it is
timing : (o p : Option TimeExpression) → option_to_list (option_map time_view o) ++ option_to_list (option_map time_view p) ≡ map time_view (option_to_list o ++ option_to_list p)
timing o p = ap (λ l. l ++ option_to_list (option_map time_view p)) (listed o) ∙ ap (λ l. map time_view (option_to_list o) ++ l) (listed p) ∙ sym (map-append time_view (option_to_list o) (option_to_list p))

giving : (values : List Assignment) → map (λ a. a.value) (map assignment_view values) ≡ map time_view (map (λ a. a.value) values)
giving values = map-map (λ a. a.value) assignment_view values ∙ sym (map-map time_view (λ (a : Assignment). a.value) values)

module _ (P : TimeTree → Type 0) where
  abbrev pub HasTime : Member → Type 0
  HasTime m = Any (λ t. P (time_view t)) (times_of m)

  abbrev InTimer : Member → Type 0
  InTimer m = IsSomeAnd (timer_in (member_view m)) (λ x. Any P (timer_times x))

  abbrev InAction : Member → Type 0
  InAction m = IsSomeAnd (action_in (member_view m)) (λ x. Any P (option_to_list x.min_delay))

  abbrev InInstance : Member → Type 0
  InInstance m = IsSomeAnd (instance_in (member_view m)) (λ x. Any P (map (λ a. a.value) x.given))

  abbrev InDelay : Member → Type 0
  InDelay m = IsSomeAnd (connection_in (member_view m)) (λ x. Any P (option_to_list x.delay))

  -- the trees of these times, and the times
  timed : (ts : List TimeTree) (xs : List TimeExpression) → ts ≡ map time_view xs → Any P ts → Any (λ t. P (time_view t)) xs
  timed ts xs e a = unmapped P time_view xs (subst (Any P) e a)

  untimed : (ts : List TimeTree) (xs : List TimeExpression) → ts ≡ map time_view xs → Any (λ t. P (time_view t)) xs → Any P ts
  untimed ts xs e a = subst (Any P) (sym e) (Any-map P time_view xs a)

  at_timer : (m : Member) → InTimer m → HasTime m
  at_timer (members.Timer x) a = timed _ (times_of (members.Timer x)) (timing x.offset x.period) a
  at_timer _ a = absurd a

  at_action : (m : Member) → InAction m → HasTime m
  at_action (members.Action x) a = timed _ (times_of (members.Action x)) (listed x.min_delay) a
  at_action _ a = absurd a

  at_instance : (m : Member) → InInstance m → HasTime m
  at_instance (members.Instance x) a = timed _ (times_of (members.Instance x)) (giving x.given.items) a
  at_instance _ a = absurd a

  at_connection : (m : Member) → InDelay m → HasTime m
  at_connection (members.Connection x) a = timed _ (times_of (members.Connection x)) (listed x.delay) a
  at_connection _ a = absurd a

  of_member : (m : Member) → HasTime m → InTimer m ⊎ (InAction m ⊎ (InInstance m ⊎ InDelay m))
  of_member (members.Timer x) a = inl (untimed _ (times_of (members.Timer x)) (timing x.offset x.period) a)
  of_member (members.Action x) a = inr (inl (untimed _ (times_of (members.Action x)) (listed x.min_delay) a))
  of_member (members.Instance x) a = inr (inr (inl (untimed _ (times_of (members.Instance x)) (giving x.given.items) a)))
  of_member (members.Connection x) a = inr (inr (inr (untimed _ (times_of (members.Connection x)) (listed x.delay) a)))
  of_member _ a = absurd (Any-nil (λ t. P (time_view t)) a)

  module _ (r : Reactor) where
    abbrev timers : List TimeTree
    timers = flat_map timer_times (timers_of (reactor_view r))

    abbrev actions : List TimeTree
    actions = flat_map (λ a. option_to_list a.min_delay) (actions_of (reactor_view r))

    abbrev values : List TimeTree
    values = flat_map (λ i. map (λ a. a.value) i.given) (instances_of (reactor_view r))

    abbrev delays : List TimeTree
    delays = flat_map (λ c. option_to_list c.delay) (connections_of (reactor_view r))

    pub some_time : Any P (times_in (reactor_view r)) → Any HasTime r.members.items
    some_time a = ⊎_elim
        (λ b. ⊎_elim
        (λ c. ⊎_elim
        (λ d. Any-weaker InTimer HasTime at_timer r.members.items (of_kind timer_in (λ x. Any P (timer_times x)) r.members.items (unflat P timer_times (timers_of (reactor_view r)) d)))
        (λ d. Any-weaker InAction HasTime at_action r.members.items (of_kind action_in (λ x. Any P (option_to_list x.min_delay)) r.members.items (unflat P (λ a. option_to_list a.min_delay) (actions_of (reactor_view r)) d)))
        (Any-append_cases P timers actions c))
        (λ c. Any-weaker InInstance HasTime at_instance r.members.items (of_kind instance_in (λ x. Any P (map (λ a. a.value) x.given)) r.members.items (unflat P (λ x. map (λ a. a.value) x.given) (instances_of (reactor_view r)) c)))
        (Any-append_cases P (timers ++ actions) values b))
        (λ b. Any-weaker InDelay HasTime at_connection r.members.items (of_kind connection_in (λ x. Any P (option_to_list x.delay)) r.members.items (unflat P (λ c. option_to_list c.delay) (connections_of (reactor_view r)) b)))
        (Any-append_cases P (timers ++ actions ++ values) delays a)

    pub its_time : Any HasTime r.members.items → Any P (times_in (reactor_view r))
    its_time a =
        let split = Any-either InTimer (λ m. InAction m ⊎ (InInstance m ⊎ InDelay m)) r.members.items (Any-weaker HasTime (λ m. InTimer m ⊎ (InAction m ⊎ (InInstance m ⊎ InDelay m))) of_member r.members.items a) in
        ⊎_elim (λ t. Any-left P (timers ++ actions ++ values) delays (Any-left P (timers ++ actions) values (Any-left P timers actions (Any-flat_map P timer_times (timers_of (reactor_view r)) (to_kind timer_in (λ x. Any P (timer_times x)) r.members.items t)))))
        (λ b. ⊎_elim (λ t. Any-left P (timers ++ actions ++ values) delays (Any-left P (timers ++ actions) values (Any-right P timers actions (Any-flat_map P (λ a. option_to_list a.min_delay) (actions_of (reactor_view r)) (to_kind action_in (λ x. Any P (option_to_list x.min_delay)) r.members.items t)))))
        (λ d. ⊎_elim (λ t. Any-left P (timers ++ actions ++ values) delays (Any-right P (timers ++ actions) values (Any-flat_map P (λ x. map (λ a. a.value) x.given) (instances_of (reactor_view r)) (to_kind instance_in (λ x. Any P (map (λ a. a.value) x.given)) r.members.items t))))
        (λ t. Any-right P (timers ++ actions ++ values) delays (Any-flat_map P (λ c. option_to_list c.delay) (connections_of (reactor_view r)) (to_kind connection_in (λ x. Any P (option_to_list x.delay)) r.members.items t)))
        (Any-either InInstance InDelay r.members.items d))
        (Any-either InAction (λ m. InInstance m ⊎ InDelay m) r.members.items b))
        split

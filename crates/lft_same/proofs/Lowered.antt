-- What holds of what each member of a shape becomes holds of what all become.
use Rattle.std.proofs.Common.{◌≡◌, ℕ, suc, ◌+◌, inl, inr, ⊎_elim, Bool, List, [], ◌∷◌, ◌++◌, length, filter_map, Option, Some, None, slice_get, refl, sym, ap, subst, ◌∙◌, arith}
use Rattle.std.{specs.List.{cons_option, enumerate_from}, proofs.lemmas.List.{length-map, map-append, Elements.filter_map-append}}
use Rattle.lft_lists.proofs.{Mapped.{enumerate_at, mapped}, Members.{Mem, mem_cases, mem_get, mem_left, mem_right}}
use Rattle.lft_lists.proofs.Places.{Some_same, get_last, get_push, same_some}
use Rattle.lft_tree.specs.Identifiers.{IsName}
use Rattle.lft_tree.specs.Tree.{ConnectionMember, ConnectionTree, InstanceMember, InstanceTree, MemberTree, ReactionMember, RefTree, TimeTree, TriggerTree}
use Rattle.lft_whole.specs.declared.tree.{Member.Member, Reaction.Reaction}
use Rattle.lft_classes.specs.{declared.shapes.Inherited.Inherited, inner.{Built.located, Shapes.thing_named}}
use Rattle.lft_lower.specs.inner.Meanings.{Meanings.{Here, named_in}, Places.names_of}
use Rattle.lft_lower.specs.inner.Lowered.{AreConnected, AreInstances, AreLowered, AreTriggers, IsAsleep, IsLowered, IsMeasured, IsLoweredReaction, added, asleep, each_pair, known, more_members, no_instances, no_members, reaction_tree, runs, sleeps, some_instances, whole}
use Rattle.lft_same.proofs.Listed.{none_mapped}
use Rattle.lft_whole.specs.declared.tree.Member.TheVariants as member

-- what holds of no items, and of two lists one behind the other where it holds of each
pub record Appends {X Y : Type 0} (R : List X → List Y → Type 0) : Type 0 where
  pub nothing : R [] []
  pub append : (a b : List X) (c d : List Y) → R a c → R b d → R (a ++ b) (c ++ d)

enumerate_last : {X : Type 0} (i : ℕ) (xs : List X) (x : X) → enumerate_from i (xs ++ x ∷ []) ≡ enumerate_from i xs ++ (i + length xs, x) ∷ []
enumerate_last {X} i [] x = let e : i ≡ i + 0 = omega arith in ap (λ k. pair k x ∷ []) e
  where
    pair : ℕ → X → ℕ × X
    pair k y = (k, y)
enumerate_last {X} i (y ∷ xs) x =
    let e : (i + 1) + length xs ≡ i + suc (length xs) = omega arith in
    ap (λ (l : List (ℕ × X)). (i, y) ∷ l) (enumerate_last (i + 1) xs x ∙ ap (λ k. enumerate_from (i + 1) xs ++ (k, x) ∷ []) e)

-- ---- what is of no kind that is asked for

-- what a reaction becomes: itself, behind an action that may be added
pub of_reaction : {K : Type 0} (kind : MemberTree → Option K) → ((q : List ℕ) → kind (asleep q) ≡ None) → (h : Here) (r : Reaction) (before : Option (List ℕ)) (new : List MemberTree) (after : Option (List ℕ)) → IsLoweredReaction h r before new after → (triggers : List TriggerTree) × (filter_map kind new ≡ cons_option (kind (ReactionMember (reaction_tree h r triggers))) [])
of_reaction {K} kind lost h r before new after (triggers, more, are, is) =
    (triggers, ap (filter_map kind) is ∙ filter_map-append kind more (ReactionMember (reaction_tree h r triggers) ∷ []) ∙ ap (λ (l : List K). l ++ cons_option (kind (ReactionMember (reaction_tree h r triggers))) []) (behind before more after triggers are))
  where
    woken : (name : List ℕ) (before : Option (List ℕ)) (more : List MemberTree) → IsAsleep h name before more → filter_map kind more ≡ []
    woken name _ _ known = refl
    woken name _ _ (added new is_name) = ap (λ o. cons_option o []) (lost name)

    behind : (before : Option (List ℕ)) (more : List MemberTree) (after : Option (List ℕ)) (triggers : List TriggerTree) → AreTriggers h r before more after triggers → filter_map kind more ≡ []
    behind _ _ _ _ (runs before some) = refl
    behind _ _ _ _ (sleeps name before more written none asleep) = woken name before more asleep

-- what an instance becomes: instances
pub of_instance : {K : Type 0} (kind : MemberTree → Option K) → ((i : InstanceTree) → kind (InstanceMember i) ≡ None) → (names : List (Option (List ℕ))) (h : Here) (n : ℕ) (q : List ℕ) (new : List MemberTree) → AreInstances names h n q new → filter_map kind new ≡ []
of_instance kind lost names h n q _ (no_instances none) = refl
of_instance kind lost names h n q _ (some_instances reactor given named are) = none_mapped kind (λ name. InstanceMember (record { name = name; reactor = reactor; given = given })) (λ name. lost (record { name = name; reactor = reactor; given = given })) (names_of (named_in h q n))

-- what a connection becomes: connections
pub of_connection : {K : Type 0} (kind : MemberTree → Option K) → ((c : ConnectionTree) → kind (ConnectionMember c) ≡ None) → (left right : List RefTree) (broadcast : Bool) (delay : Option TimeTree) (new : List MemberTree) → AreConnected left right broadcast delay new → filter_map kind new ≡ []
of_connection kind lost left right broadcast delay _ (each_pair ms each) = ap (filter_map kind) each.2 ∙ none_mapped kind ConnectionMember lost each.0
of_connection kind lost left right broadcast delay _ (whole one long) = ap (λ o. cons_option o []) (lost (record { sources = left; destinations = right; delay = delay }))

-- ---- all members

-- members with their numbers and the numbers of their files
abbrev pub numbered : List Inherited → List (ℕ × (ℕ × Member))
numbered ms = enumerate_from 0 (located ms)

numbered_last : (front : List Inherited) (m : Inherited) → numbered (front ++ m ∷ []) ≡ numbered front ++ (length front, (m.file, m.member.now)) ∷ []
numbered_last front m =
    ap (enumerate_from 0) (map-append (λ (m : Inherited). (m.file, m.member.now)) front (m ∷ []))
    ∙ enumerate_last 0 (located front) (m.file, m.member.now)
    ∙ ap (λ k. numbered front ++ (k, (m.file, m.member.now)) ∷ []) (let l : length (located front) ≡ length front = length-map front (λ (m : Inherited). (m.file, m.member.now)) in let e : 0 + length (located front) ≡ length (located front) = omega arith in e ∙ l)

module _ (names : List (Option (List ℕ))) (h : Here) where
  -- the action without events stays, once there is one
  stays : (r : Reaction) (before : Option (List ℕ)) (more : List MemberTree) (after : Option (List ℕ)) (triggers : List TriggerTree) → AreTriggers h r before more after triggers → (q : List ℕ) → before ≡ Some q → after ≡ Some q
  stays r _ _ _ _ (runs before some) q e = e
  stays r _ _ _ _ (sleeps name before more written none asleep) q e = same before more asleep e
    where
      same : (before : Option (List ℕ)) (more : List MemberTree) → IsAsleep h name before more → before ≡ Some q → Some name ≡ Some q
      same _ _ known e = e
      same _ _ (added new is) e = absurd (cc)

  keeps : (n : ℕ) (y : Member) (before : Option (List ℕ)) (new : List MemberTree) (after : Option (List ℕ)) → IsLowered names h n before new after y → (q : List ℕ) → before ≡ Some q → after ≡ Some q
  keeps n (member.Port p) before new after low q e = low.0 ∙ e
  keeps n (member.Timer t) before new after low q e = low.0 ∙ e
  keeps n (member.Action a) before new after low q e = low.0 ∙ e
  keeps n (member.Reaction r) before new after low q e = stays r before low.1.1 after low.1.0 low.1.2 q e
  keeps n (member.Instance i) before new after low q e = low.0 ∙ e
  keeps n (member.Connection c) before new after low q e = low.0 ∙ e
  keeps n (member.Foreign what at) before new after low q e = absurd low

  -- what a member of the shape becomes, among all that its members become; the action without events is known
  pub record Becomes (all : List MemberTree) (never : Option (List ℕ)) (n : ℕ) (m : Inherited) (new : List MemberTree) : Type 0 where
    pub at : slice_get h.shape.members.items n ≡ Some m
    pub before : Option (List ℕ)
    pub after : Option (List ℕ)
    pub measured : IsMeasured h n m.member.now
    pub lowered : IsLowered names h n before new after m.member.now
    pub among : (y : MemberTree) → Mem y new → Mem y all
    pub leads : (q : List ℕ) → after ≡ Some q → never ≡ Some q

  module _ (all : List MemberTree) (never : Option (List ℕ)) (R : List MemberTree → List (ℕ × (ℕ × Member)) → Type 0) (appends : Appends R) (each : (n : ℕ) (m : Inherited) (new : List MemberTree) → Becomes all never n m new → R new ((n, (m.file, m.member.now)) ∷ [])) where
    front_becomes : (front : List Inherited) (done : List MemberTree) (after : Option (List ℕ)) → AreLowered names h front done after → ((k : ℕ) (m : Inherited) → slice_get front k ≡ Some m → slice_get h.shape.members.items k ≡ Some m) → ((y : MemberTree) → Mem y done → Mem y all) → ((q : List ℕ) → after ≡ Some q → never ≡ Some q) → R done (numbered front)
    front_becomes _ _ _ no_members at among leads = appends.nothing
    front_becomes _ _ _ (more_members front m done new before after old measured lowered) at among leads =
        let one : Becomes all never (length front) m new = record { at = at (length front) m (get_last front m); before = before; after = after; measured = measured; lowered = lowered; among = λ y k. among y (mem_right y done new k); leads = leads } in
        let rest = front_becomes front done before old (λ k x e. at k x (get_push front m k x e)) (λ y k. among y (mem_left y done new k)) (λ q e. leads q (keeps (length front) m.member.now before new after lowered q e)) in
        subst (R (done ++ new)) (sym (numbered_last front m)) (appends.append done new (numbered front) ((length front, (m.file, m.member.now)) ∷ []) rest (each (length front) m new one))

    -- so of all
    pub all_become : AreLowered names h h.shape.members.items all never → R all (numbered h.shape.members.items)
    all_become lowered = front_becomes h.shape.members.items all never lowered (λ k m e. e) (λ y k. k) (λ q e. e)

  module _ (all : List MemberTree) (never : Option (List ℕ)) (are : AreLowered names h h.shape.members.items all never) where
    abbrev MadeAt : List MemberTree → List (ℕ × (ℕ × Member)) → Type 0
    MadeAt some members = (n : ℕ) (y : ℕ × Member) → Mem (n, y) members → (m : Inherited) × (new : List MemberTree) × Becomes all never n m new

    made_each : (n : ℕ) (y : ℕ × Member) → Mem (n, y) (numbered h.shape.members.items) → (m : Inherited) × (new : List MemberTree) × Becomes all never n m new
    made_each = all_become all never MadeAt (record { nothing = λ n y k. absurd k; append = λ some more left right before behind n y k. ⊎_elim (before n y) (behind n y) (mem_cases (n, y) left right k) }) one are
      where
        one : (n : ℕ) (m : Inherited) (new : List MemberTree) → Becomes all never n m new → MadeAt new ((n, (m.file, m.member.now)) ∷ [])
        one n m new made k y (inl e) = (m, new, subst (λ k. Becomes all never k m new) (ap (λ (p : ℕ × (ℕ × Member)). p.0) e) made)
        one n m new made k y (inr e) = absurd e

    -- what the member of a number becomes
    pub made_at : (n : ℕ) (m : Inherited) → slice_get h.shape.members.items n ≡ Some m → (new : List MemberTree) × Becomes all never n m new
    made_at n m at =
        let e = enumerate_at 0 (located h.shape.members.items) n (m.file, m.member.now) (mapped (λ (m : Inherited). (m.file, m.member.now)) h.shape.members.items n m at) in
        let made = made_each (0 + n) (m.file, m.member.now) (mem_get (numbered h.shape.members.items) n (0 + n, (m.file, m.member.now)) e) in
        let zero_more : 0 + n ≡ n = omega arith in
        let here = subst (λ k. Becomes all never k made.0 made.1) zero_more made.2 in
        (made.1, subst (λ m. Becomes all never n m made.1) (same_some (slice_get h.shape.members.items n) made.0 m here.at at) here)

  -- the action of this name is added, and nothing else has the name
  pub record IsAdded (all : List MemberTree) (q : List ℕ) : Type 0 where
    pub unnamed : thing_named h.shape q ≡ None
    pub is_name : IsName q
    pub stands : Mem (asleep q) all

  further : (done new : List MemberTree) (q : List ℕ) → IsAdded done q → IsAdded (done ++ new) q
  further done new q a = record { unnamed = a.unnamed; is_name = a.is_name; stands = mem_left (asleep q) done new a.stands }

  -- the action without events is added
  pub never_added : (front : List Inherited) (done : List MemberTree) (never : Option (List ℕ)) → AreLowered names h front done never → (q : List ℕ) → never ≡ Some q → IsAdded done q
  never_added _ _ _ no_members q e = absurd (cc)
  never_added _ _ _ (more_members front m done new before after old measured lowered) q e = of m.member.now lowered (λ f. further done new q (never_added front done before old q f))
    where
      triggered : (r : Reaction) (before : Option (List ℕ)) (more : List MemberTree) (after : Option (List ℕ)) (triggers : List TriggerTree) → AreTriggers h r before more after triggers → after ≡ Some q → (before ≡ Some q → IsAdded (done ++ new) q) → ((y : MemberTree) → Mem y more → Mem y new) → IsAdded (done ++ new) q
      triggered r _ _ _ _ (runs before some) e rest among = rest e
      triggered r _ _ _ _ (sleeps name before more written none is) e rest among = by before more is rest among
        where
          same : name ≡ q
          same = Some_same name q e

          by : (before : Option (List ℕ)) (more : List MemberTree) → IsAsleep h name before more → (before ≡ Some q → IsAdded (done ++ new) q) → ((y : MemberTree) → Mem y more → Mem y new) → IsAdded (done ++ new) q
          by _ _ known rest among = rest e
          by _ _ (added unnamed is_name) rest among = subst (IsAdded (done ++ new)) same (record { unnamed = unnamed; is_name = is_name; stands = mem_right (asleep name) done new (among (asleep name) (inl refl)) })

      of : (y : Member) → IsLowered names h (length front) before new after y → (before ≡ Some q → IsAdded (done ++ new) q) → IsAdded (done ++ new) q
      of (member.Port p) low rest = rest (sym low.0 ∙ e)
      of (member.Timer t) low rest = rest (sym low.0 ∙ e)
      of (member.Action a) low rest = rest (sym low.0 ∙ e)
      of (member.Reaction r) low rest = triggered r before low.1.1 after low.1.0 low.1.2 e rest (λ y k. subst (Mem y) (sym low.1.3) (mem_left y low.1.1 _ k))
      of (member.Instance i) low rest = rest (sym low.0 ∙ e)
      of (member.Connection c) low rest = rest (sym low.0 ∙ e)
      of (member.Foreign what at) low rest = absurd low

-- Members that stand behind those that there were.
use Rattle.std.proofs.Common.{◌≡◌, ◌≢◌, ℕ, List, [], ◌∷◌, ◌++◌, Option, Some, None, sym, subst, ◌∙◌, ap, append_assoc}
use Rattle.std.proofs.lemmas.List.{append-nil, map-append}
use Rattle.lft_tree.specs.{Identifiers.IsName, Tree.{TriggerTree, OnRef, AssignmentTree, MemberTree, ReactionMember}, View.{member_view, member_views}}
use Rattle.lft_tree.specs.declared.tree.Member.{Member as Core}
use Rattle.lft_whole.specs.declared.tree.{Member.Member, Reaction.Reaction}
use Rattle.lft_elaborate.specs.inner.Channels.Lowered.{own}
use Rattle.lft_lower.specs.inner.Meanings.{Meanings.{Here, named_in}, Places.{Several, count_of}}
use Rattle.lft_lower.specs.inner.Lowered.{Adds, AreTimesGiven, AreInstances, AreTriggers, IsAsleep, IsLowered, IsLoweredReaction, added, all_triggers, asleep, instances, known, no_instances, reaction_tree, reactor_at, runs, sleeps, some_instances}
use Rattle.lft_classes.specs.inner.Shapes.{thing_named}

-- none
pub adds_none : (old : List Core) (Are : List MemberTree → Type 0) → Are [] → Adds old old Are
adds_none old Are are = ([], are, sym (append-nil (member_views old)))

one_view : (old now : List Core) (x : Core) → now ≡ old ++ x ∷ [] → member_views now ≡ member_views old ++ member_view x ∷ []
one_view old now x one = ap member_views one ∙ map-append member_view old (x ∷ [])

-- one behind others
pub adds_then : (old mid now : List Core) (x : Core) (A B : List MemberTree → Type 0) → Adds old mid A → now ≡ mid ++ x ∷ [] → ((more : List MemberTree) → A more → B (more ++ member_view x ∷ [])) → Adds old now B
adds_then old mid now x A B (more, are, made) one next = (more ++ member_view x ∷ [], next more are, one_view mid now x one ∙ ap (λ ms. ms ++ member_view x ∷ []) made ∙ append_assoc (member_views old) more (member_view x ∷ []))

-- the same members, as something else
pub adds_as : (old now : List Core) (A B : List MemberTree → Type 0) → Adds old now A → ((more : List MemberTree) → A more → B more) → Adds old now B
adds_as old now A B (more, are, made) next = (more, next more are, made)

-- ---- reactions

-- the action without events stands already
pub asleep_known : (h : Here) (name : List ℕ) (before : Option (List ℕ)) (old : List Core) → before ≡ Some name → Adds old old (IsAsleep h name before)
asleep_known h name before old is = adds_none old (IsAsleep h name before) (subst (λ b. IsAsleep h name b []) (sym is) known)

-- or it is added
pub asleep_added : (h : Here) (name : List ℕ) (before : Option (List ℕ)) (old now : List Core) → before ≡ None → thing_named h.shape name ≡ None → IsName name → member_views now ≡ member_views old ++ asleep name ∷ [] → Adds old now (IsAsleep h name before)
asleep_added h name before old now none free is made = (asleep name ∷ [], subst (λ b. IsAsleep h name b (asleep name ∷ [])) (sym none) (added free is), made)

-- triggers that have places stay
pub triggers_run : (h : Here) (r : Reaction) (before : Option (List ℕ)) (old : List Core) (ts : List TriggerTree) → ts ≡ all_triggers h r → ts ≢ [] → Adds old old (λ more. AreTriggers h r before more before ts)
triggers_run h r before old ts is some = adds_none old (λ more. AreTriggers h r before more before ts) (subst (AreTriggers h r before [] before) (sym is) (runs before (λ e. some (is ∙ e))))

-- where they have none the trigger is the action without events
pub triggers_sleep : (h : Here) (r : Reaction) (name : List ℕ) (before after : Option (List ℕ)) (old now : List Core) (ts : List TriggerTree) → r.triggers.items ≢ [] → all_triggers h r ≡ [] → Adds old now (IsAsleep h name before) → after ≡ Some name → ts ≡ OnRef (own name) ∷ [] → Adds old now (λ more. AreTriggers h r before more after ts)
triggers_sleep h r name before after old now ts some none adds is one = adds_as old now (IsAsleep h name before) (λ more. AreTriggers h r before more after ts) adds (λ more are. subst (λ a. AreTriggers h r before more a ts) (sym is) (subst (AreTriggers h r before more (Some name)) (sym one) (sleeps name before more some none are)))

-- a reaction stands behind what its triggers add
pub reaction_stands : (h : Here) (r : Reaction) (before after : Option (List ℕ)) (old mid now : List Core) (x : Core) (ts : List TriggerTree) → Adds old mid (λ more. AreTriggers h r before more after ts) → now ≡ mid ++ x ∷ [] → member_view x ≡ ReactionMember (reaction_tree h r ts) → Adds old now (λ more. IsLoweredReaction h r before more after)
reaction_stands h r before after old mid now x ts adds one is = adds_then old mid now x (λ more. AreTriggers h r before more after ts) (λ more. IsLoweredReaction h r before more after) adds one (λ more are. (ts, more, are, ap (λ m. more ++ m ∷ []) is))

-- ---- instances

-- a bank without members
pub instances_none : (names : List (Option (List ℕ))) (h : Here) (n : ℕ) (name : List ℕ) (old : List Core) → count_of (named_in h name n) ≡ 0 → Adds old old (AreInstances names h n name)
instances_none names h n name old none = adds_none old (AreInstances names h n name) (no_instances none)

-- an instance, or those of a bank
pub instances_some : (names : List (Option (List ℕ))) (h : Here) (n : ℕ) (name : List ℕ) (old now : List Core) (thing : Several) (reactor : List ℕ) (given : List AssignmentTree) → thing ≡ named_in h name n → reactor_at names h n ≡ Some reactor → AreTimesGiven h n given → member_views now ≡ member_views old ++ instances thing reactor given → Adds old now (AreInstances names h n name)
instances_some names h n name old now thing reactor given is named gives made = (instances (named_in h name n) reactor given, some_instances reactor given named gives, made ∙ ap (λ t. member_views old ++ instances t reactor given) is)

-- ---- members

-- what a member becomes, if it is this one
pub lowered_as : (names : List (Option (List ℕ))) (h : Here) (n : ℕ) (before after : Option (List ℕ)) (old now : List Core) (m this : Member) → m ≡ this → Adds old now (λ more. IsLowered names h n before more after this) → Adds old now (λ more. IsLowered names h n before more after m)
lowered_as names h n before after old now m this is adds = subst (λ x. Adds old now (λ more. IsLowered names h n before more after x)) (sym is) adds

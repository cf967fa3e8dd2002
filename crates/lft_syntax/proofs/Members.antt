-- Members of a reactor.
use Rattle.std.proofs.Common.{◌≡◌, ℕ, ◌+◌, ◌≤◌, Bool, true, false, List, [], ◌∷◌, Option, Some, None, refl, subst, arith, inl, inr}
use Rattle.std.specs.Prelude.{slice_get, codes}
use Rattle.lft_syntax.specs.Lexeme.{Lexeme, Letters, Arrow, Symbol, is, is_name, is_reserved, is_one_of, negated}
use Rattle.lft_syntax.specs.inner.Tests.{is_word_of, is_follower, port_keys, action_keys, preamble_keys, member_keys, closes_at}
use Rattle.lft_syntax.specs.inner.Reading.{Reading, apply, choice, choice_next, instance_at, connection_at, member_at, is_inside, members_at}
use Rattle.lft_syntax.specs.Language.{Spelling, one, ◌&◌, ◌>>◌, ◌<<◌, ◌or◌, optional, many, made}
use Rattle.lft_syntax.specs.Grammar.{key, symbol, name, ptime, ref, refs, listed, enclosed, assign, port, timer, action, state, preamble, reaction, instance, connection, member, or_empty, instance_of, connection_of}
use Rattle.lft_syntax.proofs.Algebra.{Follow, near, Right, Test, Starts, StartsNext, right_choice, right_choice_next, starts_one, loosen}
use Rattle.lft_syntax.proofs.Rules.{making, Here, here, starts_skip, starts_made, starts_or, repeat, ended}
use Rattle.lft_syntax.proofs.Lookahead.{far, past_name, Ends, AllOf, Reserved, far_looks, far_near, far_past, past_looks, past_two, no_symbol, bracket_ends, named, no_key, no_word, key_no_name, word_no_name}
use Rattle.lft_syntax.proofs.Types.{ends_type}
use Rattle.lft_syntax.proofs.Declarations.{starts_input, starts_output, right_port, starts_timer, right_timer, starts_action, right_action, starts_state, right_state, starts_preamble, right_preamble}
use Rattle.lft_syntax.proofs.{Reactions.{starts_reaction, right_reaction}, Instances.{starts_instance, right_instance}}
use Rattle.lft_syntax.proofs.Connections.{starts_connection, right_connection}
use Rattle.lft_tree.specs.Tree.{RefTree, MemberTree, PortMember, TimerMember, ActionMember, StateMember, PreambleMember, ReactionMember, InstanceMember, ConnectionMember}

-- ---- the token after a name

next_before : {A : Type 0} {P : Spelling A} (Q : Spelling (Unit {0})) {go : Test} {b : Bool} → StartsNext P go b → StartsNext (P << Q) go b
next_before Q next = record { at = λ vs i j y s. next.at vs i s.0 y s.1 }

next_and : {A B : Type 0} {P : Spelling A} (Q : Spelling B) {go : Test} {b : Bool} → StartsNext P go b → StartsNext (P & Q) go b
next_and Q next = record { at = λ vs i j y s. next.at vs i s.0 y.0 s.1 }

next_made : {A B : Type 0} (f : A → B) {P : Spelling A} {go : Test} {b : Bool} → StartsNext P go b → StartsNext (made f P) go b
next_made f next = record { at = λ vs i j y s. next.at vs i j s.0 s.1 }

next_name : {Q : Spelling (Unit {0})} {go : Test} {b : Bool} → Starts Q go b → StartsNext (name << Q) go b
next_name {go = go} {b = b} starts = record { at = λ vs i j y s. subst (λ (k : ℕ). go (slice_get vs k) ≡ b) s.1.1 (starts.at vs s.0 j tt s.2) }

next_instance : (go : Test) (b : Bool) → go (Some (Symbol 61)) ≡ b → StartsNext (made InstanceMember instance) go b
next_instance go b e = next_made InstanceMember (next_made instance_of (next_and (made or_empty (enclosed (listed assign))) (next_and name (next_before (key (codes "new")) (next_name (starts_one (Symbol 61) go b e))))))

module _ (go : Test) (b : Bool) (dot : go (Some (Symbol 46)) ≡ b) (comma : go (Some (Symbol 44)) ≡ b) (arrow : go (Some Arrow) ≡ b) where
  next_refs : (vs : List Lexeme) (m j k : ℕ) (xs : List RefTree) → many (symbol 44 >> ref) vs m j xs → one Arrow vs j k tt → go (slice_get vs m) ≡ b
  next_refs vs m j k [] s t = subst (λ (o : ℕ). go (slice_get vs o) ≡ b) s ((starts_one Arrow go b arrow).at vs j k tt t)
  next_refs vs m j k (x ∷ xs) s t = (starts_skip {P = symbol 44} ref (starts_one (Symbol 44) go b comma)).at vs m s.0 x s.1

  next_ref : (vs : List Lexeme) (i m j k : ℕ) (o : Option (List ℕ)) (xs : List RefTree) → optional (symbol 46 >> name) vs i m o → many (symbol 44 >> ref) vs m j xs → one Arrow vs j k tt → go (slice_get vs i) ≡ b
  next_ref vs i m j k None xs s r t = subst (λ (o : ℕ). go (slice_get vs o) ≡ b) s (next_refs vs m j k xs r t)
  next_ref vs i m j k (Some x) xs s r t = (starts_skip {P = symbol 46} name (starts_one (Symbol 46) go b dot)).at vs i m x s

  next_sources : StartsNext (refs << one Arrow) go b
  next_sources = record {
    at = λ vs i j y s.
        let both = s.1.1 in
        let head = both.1.1 in
        subst (λ (o : ℕ). go (slice_get vs o) ≡ b) head.1.1 (next_ref vs head.0 both.0 s.0 j both.1.0.1 s.1.0.1 head.2 both.2 s.2);
  }

  next_connection : StartsNext (made ConnectionMember connection) go b
  next_connection = next_made ConnectionMember (next_made connection_of (next_and (optional (key (codes "after") >> ptime)) (next_and refs next_sources)))

-- ---- what begins with a name

abbrev others : Spelling MemberTree
others = made InstanceMember instance or made ConnectionMember connection

starts_others : Starts others is_name true
starts_others = starts_or (starts_made InstanceMember starts_instance) (starts_made ConnectionMember starts_connection)

right_others : Right others Ends far far 1 (choice_next (is (Symbol 61)) (apply InstanceMember instance_at) (apply ConnectionMember connection_at))
right_others = loosen Ends far far 1 (λ vs i h. h) far_past (λ ws i. omega arith) (omega arith)
    (right_choice_next (made InstanceMember instance) (made ConnectionMember connection) Ends past_name far 3 is_name (is (Symbol 61)) past_looks past_two
    (starts_made InstanceMember starts_instance) (starts_made ConnectionMember starts_connection) (next_instance (is (Symbol 61)) true refl) (next_connection (is (Symbol 61)) false refl refl refl)
    (apply InstanceMember instance_at) (apply ConnectionMember connection_at)
    (loosen Ends past_name far 3 (λ vs i h. tt) (λ ws i. omega arith) far_looks (omega arith) (making InstanceMember right_instance)) (making ConnectionMember right_connection))

-- ---- what begins with a reserved word

-- these words decide
by_keys : {P Q : Spelling MemberTree} {p q : Reading MemberTree} (ks : List (List ℕ)) → AllOf Reserved ks → Starts P (is_word_of ks) true → Starts Q (is_word_of ks) false → Right P Ends near far 1 p → Right Q Ends far far 1 q
    → Right (P or Q) Ends far far 1 (choice (is_word_of ks) p q)
by_keys {P = P} {Q = Q} {p = p} {q = q} ks each starts rest one two =
    right_choice P Q Ends far near far far 1 (is_word_of ks) far_looks (λ ws i e. far_near ws i (key_no_name ks each (slice_get ws i) e)) (λ ws i e. omega arith) starts rest p q one two

-- this word decides
by_word : {P Q : Spelling MemberTree} {p q : Reading MemberTree} (w : List ℕ) → Reserved w → Starts P (is (Letters w)) true → Starts Q (is (Letters w)) false → Right P Ends near far 1 p → Right Q Ends far far 1 q
    → Right (P or Q) Ends far far 1 (choice (is (Letters w)) p q)
by_word {P = P} {Q = Q} {p = p} {q = q} w r starts rest one two =
    right_choice P Q Ends far near far far 1 (is (Letters w)) far_looks (λ ws i e. far_near ws i (word_no_name w r (slice_get ws i) e)) (λ ws i e. omega arith) starts rest p q one two

port_reserved : AllOf Reserved port_keys
unfolding is_reserved
port_reserved = (refl, (refl, (refl, tt)))

timer_reserved : Reserved (codes "timer")
unfolding is_reserved
timer_reserved = refl

action_reserved : AllOf Reserved action_keys
unfolding is_reserved
action_reserved = (refl, (refl, tt))

state_reserved : Reserved (codes "state")
unfolding is_reserved
state_reserved = refl

preamble_reserved : AllOf Reserved preamble_keys
unfolding is_reserved
preamble_reserved = (refl, (refl, (refl, tt)))

reaction_reserved : Reserved (codes "reaction")
unfolding is_reserved
reaction_reserved = refl

starts_port : (go : Test) (b : Bool) → go (Some (Letters (codes "mutable"))) ≡ b → go (Some (Letters (codes "input"))) ≡ b → go (Some (Letters (codes "output"))) ≡ b → Starts (made PortMember port) go b
starts_port go b change inward outward = starts_made PortMember (starts_or (starts_input go b change inward) (starts_output go b outward))

abbrev after_preamble : Spelling MemberTree
after_preamble = made ReactionMember reaction or made InstanceMember instance or made ConnectionMember connection

abbrev after_state : Spelling MemberTree
after_state = made PreambleMember preamble or made ReactionMember reaction or made InstanceMember instance or made ConnectionMember connection

abbrev after_action : Spelling MemberTree
after_action = made StateMember state or made PreambleMember preamble or made ReactionMember reaction or made InstanceMember instance or made ConnectionMember connection

abbrev after_timer : Spelling MemberTree
after_timer = made ActionMember action or made StateMember state or made PreambleMember preamble or made ReactionMember reaction or made InstanceMember instance or made ConnectionMember connection

abbrev after_port : Spelling MemberTree
after_port = made TimerMember timer or made ActionMember action or made StateMember state or made PreambleMember preamble or made ReactionMember reaction or made InstanceMember instance or made ConnectionMember connection

module _ (go : Test) (b : Bool) (rest : Starts others go b) (reacts : go (Some (Letters (codes "reaction"))) ≡ b) where
  from_reaction : Starts after_preamble go b
  from_reaction = starts_or (starts_made ReactionMember (starts_reaction go b reacts)) rest

  module _ (hidden : go (Some (Letters (codes "private"))) ≡ b) (shown : go (Some (Letters (codes "public"))) ≡ b) (plain : go (Some (Letters (codes "preamble"))) ≡ b) where
    from_preamble : Starts after_state go b
    from_preamble = starts_or (starts_made PreambleMember (starts_preamble go b hidden shown plain)) from_reaction

    module _ (states : go (Some (Letters (codes "state"))) ≡ b) where
      from_state : Starts after_action go b
      from_state = starts_or (starts_made StateMember (starts_state go b states)) from_preamble

      module _ (logic : go (Some (Letters (codes "logical"))) ≡ b) (physics : go (Some (Letters (codes "physical"))) ≡ b) where
        from_action : Starts after_timer go b
        from_action = starts_or (starts_made ActionMember (starts_action go b logic physics)) from_state

        from_timer : go (Some (Letters (codes "timer"))) ≡ b → Starts after_port go b
        from_timer times = starts_or (starts_made TimerMember (starts_timer go b times)) from_action

        from_port : go (Some (Letters (codes "timer"))) ≡ b → go (Some (Letters (codes "mutable"))) ≡ b → go (Some (Letters (codes "input"))) ≡ b → go (Some (Letters (codes "output"))) ≡ b → Starts member go b
        from_port times change inward outward = starts_or (starts_port go b change inward outward) (from_timer times)

-- ---- a member

after_end : {P : Spelling MemberTree} {F : Follow} {n : ℕ} {p : Reading MemberTree} → ((vs : List Lexeme) (i : ℕ) → Ends vs i → F vs i) → 1 ≤ n → Right P F near near n p → Right P Ends near far 1 p
after_end leads le right = ended Ends far 1 leads far_looks le right

pub right_member : Right member Ends far far 1 member_at
unfolding member_at
right_member =
    by_keys port_keys port_reserved (starts_port (is_word_of port_keys) true refl refl refl) (from_timer (is_word_of port_keys) false (no_key port_keys port_reserved starts_others) refl refl refl refl refl refl refl refl)
    (after_end ends_type (omega arith) (making PortMember right_port))
    (by_word (codes "timer") timer_reserved (starts_made TimerMember (starts_timer (is (Letters (codes "timer"))) true refl)) (from_action (is (Letters (codes "timer"))) false (no_word (codes "timer") timer_reserved starts_others) refl refl refl refl refl refl refl)
    (after_end (no_symbol 40 refl) (omega arith) (making TimerMember right_timer))
    (by_keys action_keys action_reserved (starts_made ActionMember (starts_action (is_word_of action_keys) true refl refl)) (from_state (is_word_of action_keys) false (no_key action_keys action_reserved starts_others) refl refl refl refl refl)
    (after_end (λ vs m h. (ends_type vs m h, no_symbol 40 refl vs m h)) (omega arith) (making ActionMember right_action))
    (by_word (codes "state") state_reserved (starts_made StateMember (starts_state (is (Letters (codes "state"))) true refl)) (from_preamble (is (Letters (codes "state"))) false (no_word (codes "state") state_reserved starts_others) refl refl refl refl)
    (loosen Ends near far 1 (λ vs i h. h) (λ ws i. omega arith) (λ ws i. omega arith) (omega arith) (making StateMember right_state))
    (by_keys preamble_keys preamble_reserved (starts_made PreambleMember (starts_preamble (is_word_of preamble_keys) true refl refl refl)) (from_reaction (is_word_of preamble_keys) false (no_key preamble_keys preamble_reserved starts_others) refl)
    (after_end (λ vs m h. tt) (omega arith) (making PreambleMember right_preamble))
    (by_word (codes "reaction") reaction_reserved (starts_made ReactionMember (starts_reaction (is (Letters (codes "reaction"))) true refl)) (no_word (codes "reaction") reaction_reserved starts_others)
    (after_end (λ vs m h. tt) (omega arith) (making ReactionMember right_reaction))
    right_others)))))

-- ---- the members of a body

shut_no_name : (o : Option Lexeme) → is_inside o ≡ false → is_name o ≡ false
shut_no_name (Some (Letters x)) e = absurd cc
shut_no_name _ e = refl

pub starts_member : Starts member is_inside true
starts_member = from_port is_inside true (named is_inside true (λ x. refl) starts_others) refl refl refl refl refl refl refl refl refl refl refl

name_closes_with : (x : List ℕ) (q : Option Lexeme) (a b : Bool) → is_one_of member_keys x ≡ a → is_reserved x ≡ b → negated b ≡ true → is_follower q ≡ true → closes_at (Some (Letters x)) q ≡ true
name_closes_with x q true b e f n h = rw e refl
name_closes_with x q false true e f n h = absurd cc
name_closes_with x q false false e f n h = rw (e, f, h) refl

name_closes : (o q : Option Lexeme) → is_name o ≡ true → is_follower q ≡ true → closes_at o q ≡ true
name_closes (Some (Letters x)) q e h = name_closes_with x q (is_one_of member_keys x) (is_reserved x) refl refl e h
name_closes _ q e h = absurd cc

others_end : (vs : List Lexeme) (i j : ℕ) (x : MemberTree) → others vs i j x → Ends vs i
others_end vs i j x s = name_closes (slice_get vs i) (slice_get vs (i + 1)) (starts_others.at vs i j x s)
    (elim s [ inl p ↦ (next_instance is_follower true refl).at vs i j x p | inr q ↦ (next_connection is_follower true refl refl refl).at vs i j x q ])

key_closes : (o q : Option Lexeme) → is_word_of member_keys o ≡ true → closes_at o q ≡ true
key_closes (Some (Letters x)) q e = rw e refl
key_closes _ q e = absurd cc

-- a member that begins with one of its words
keyed : {P : Spelling MemberTree} → Starts P (is_word_of member_keys) true → (vs : List Lexeme) (i j : ℕ) (x : MemberTree) → P vs i j x → Ends vs i
keyed starts vs i j x s = key_closes (slice_get vs i) (slice_get vs (i + 1)) (starts.at vs i j x s)

pub member_begins : (vs : List Lexeme) (i j : ℕ) (x : MemberTree) → member vs i j x → Ends vs i
member_begins vs i j x s = elim s [
  | inl p ↦ keyed (starts_port (is_word_of member_keys) true refl refl refl) vs i j x p
  | inr a ↦ elim a [
    | inl p ↦ keyed (starts_made TimerMember (starts_timer (is_word_of member_keys) true refl)) vs i j x p
    | inr b ↦ elim b [
      | inl p ↦ keyed (starts_made ActionMember (starts_action (is_word_of member_keys) true refl refl)) vs i j x p
      | inr c ↦ elim c [
        | inl p ↦ keyed (starts_made StateMember (starts_state (is_word_of member_keys) true refl)) vs i j x p
        | inr d ↦ elim d [
          | inl p ↦ keyed (starts_made PreambleMember (starts_preamble (is_word_of member_keys) true refl refl refl)) vs i j x p
          | inr e ↦ elim e [
            | inl p ↦ keyed (starts_made ReactionMember (starts_reaction (is_word_of member_keys) true refl)) vs i j x p
            | inr f ↦ others_end vs i j x f
          ]
        ]
      ]
    ]
  ]
]

pub right_members : Right (many member) (Here (Symbol 125)) far near 0 members_at
unfolding members_at
right_members = repeat (Here (Symbol 125)) near is_inside far_looks (λ ws i e. far_near ws i (shut_no_name (slice_get ws i) e)) starts_member (here (Symbol 125) is_inside false refl) bracket_ends member_begins right_member

-- What tokens spell has its names from them, and these are identifiers.
use Rattle.std.proofs.Common.{◌≡◌, ℕ, Bool, true, false, List, [], ◌∷◌, length, Option, Some, None, refl, subst, inl, inr, cond}
use Rattle.std.specs.Prelude.{slice_get, map, codes, IfSome}
use Rattle.std.specs.List.{All, cons_option, filter_map}
use Rattle.std.proofs.lemmas.List.Elements.{All-nil, All-cons, All-head, All-tail, All-append, All-map, All-get_or}
use Rattle.std.proofs.lemmas.Option.{slice_get_within, get_or_from_slice_get}
use Rattle.lft_syntax.specs.{declared.token.Token.Token, Language.{Spelling, look, ◌&◌, ◌>>◌, ◌<<◌, ◌or◌, optional, many, made, ignored}}
use Rattle.lft_syntax.specs.{Lexeme.{Lexeme, Letters, is_reserved, name_in}, Lexes.Lexes}
use Rattle.lft_syntax.specs.Grammar.{Spells, key, symbol, name, typed, input_of, output_of, timer_of, action_of, instance_of, reactor_of, main_of, file_of, port, timer, action, state, preamble, reaction, instance, connection, member, body, reactor, file}
use Rattle.lft_syntax.specs.View.{lexemes}
use Rattle.lft_syntax.proofs.Identifiers.{IsWord, words_of_text}
use Rattle.lft_tree.specs.Identifiers.{IsName, declared_names, HasIdentifiers}
use Rattle.lft_tree.specs.Tree.{TimeTree, MemberTree, PortMember, TimerMember, ActionMember, StateMember, PreambleMember, ReactionMember, InstanceMember, ConnectionMember, ReactorTree, ItemTree, PreambleItem, ReactorItem, FileTree, port_in, timer_in, action_in, instance_in, reactor_in}
use Rattle.lft_tree.proofs.Names.{IsName-identifier}

-- what of the tokens spells a value, spells one that P holds of
pub record Keeps {A : Type 0} (ws : List Lexeme) (S : Spelling A) (P : A → Type 0) : Type 0 where
  pub at : (i j : ℕ) (x : A) → S ws i j x → P x

-- ---- the words of grammars

module _ {ws : List Lexeme} where
  in_first : {A B : Type 0} {S : Spelling A} {P : A → Type 0} (R : Spelling B) → Keeps ws S P → Keeps ws (S & R) (λ x. P x.0)
  in_first R s = record { at = λ i j x h. s.at i h.0 x.0 h.1 }

  in_second : {A B : Type 0} {R : Spelling B} {Q : B → Type 0} (S : Spelling A) → Keeps ws R Q → Keeps ws (S & R) (λ x. Q x.1)
  in_second S r = record { at = λ i j x h. r.at h.0 j x.1 h.2 }

  after : {B : Type 0} {R : Spelling B} {Q : B → Type 0} (S : Spelling (Unit {0})) → Keeps ws R Q → Keeps ws (S >> R) Q
  after S r = record { at = λ i j x h. r.at h.0 j x h.2 }

  before : {A : Type 0} {S : Spelling A} {P : A → Type 0} (R : Spelling (Unit {0})) → Keeps ws S P → Keeps ws (S << R) P
  before R s = record { at = λ i j x h. s.at i h.0 x h.1 }

  either : {A : Type 0} {S R : Spelling A} {P : A → Type 0} → Keeps ws S P → Keeps ws R P → Keeps ws (S or R) P
  either s r = record { at = λ i j x h. elim h [ inl a ↦ s.at i j x a | inr b ↦ r.at i j x b ] }

  making : {A B : Type 0} {S : Spelling A} {P : A → Type 0} {Q : B → Type 0} (f : A → B) → ((x : A) → P x → Q (f x)) → Keeps ws S P → Keeps ws (made f S) Q
  making {Q = Q} f so s = record { at = λ i j y h. subst Q h.2 (so h.0 (s.at i j h.0 h.1)) }

  each_of : {A : Type 0} {S : Spelling A} {P : A → Type 0} → Keeps ws S P → (i j : ℕ) (xs : List A) → many S ws i j xs → All P xs
  each_of {P = P} s i j [] h = All-nil P
  each_of {P = P} s i j (x ∷ xs) h = All-cons P x xs (s.at i h.0 x h.1) (each_of s h.0 j xs h.2)

  repeated : {A : Type 0} {S : Spelling A} {P : A → Type 0} → Keeps ws S P → Keeps ws (many S) (All P)
  repeated s = record { at = each_of s }

-- what declares no name
any : {A : Type 0} {ws : List Lexeme} (S : Spelling A) → Keeps ws S (λ x. Unit {0})
any S = record { at = λ i j x h. tt }

-- ---- names

name_is : (x y : List ℕ) (b : Bool) → cond b None (Some x) ≡ Some y → IsName x → IsName y
name_is x y true e h = absurd cc
name_is x y false e h = let same : x ≡ y = cc in subst IsName same h

name_seen : (w : Lexeme) (x : List ℕ) → name_in w ≡ Some x → IsWord w → IsName x
name_seen (Letters y) x e h = name_is y x (is_reserved y) e (IsName-identifier y h)
name_seen _ x e h = absurd cc

name_looked : (o : Option Lexeme) (x : List ℕ) → look name_in o ≡ Some x → ((w : Lexeme) → o ≡ Some w → IsWord w) → IsName x
name_looked None x e words = absurd cc
name_looked (Some w) x e words = name_seen w x e (words w refl)

word_at : (ws : List Lexeme) → All IsWord ws → (i : ℕ) (w : Lexeme) → slice_get ws i ≡ Some w → IsWord w
word_at ws words i w there = subst IsWord (get_or_from_slice_get ws i w w there) (All-get_or IsWord ws i w (slice_get_within ws i w there) words)

-- ---- the productions that declare names

-- the name that a member declares is a name
abbrev Named : MemberTree → Type 0
Named (PortMember x) = IsName x.name
Named (TimerMember x) = IsName x.name
Named (ActionMember x) = IsName x.name
Named (InstanceMember x) = IsName x.name
Named _ = Unit {0}

-- the names that an item's members declare are names
abbrev AllNamed : ItemTree → Type 0
AllNamed (PreambleItem x) = Unit {0}
AllNamed (ReactorItem x) = All Named x.members

timer_named : (x : List ℕ × Option (Option (TimeTree × Option TimeTree))) → IsName x.0 → IsName (timer_of x).name
timer_named (n, None) h = h
timer_named (n, Some None) h = h
timer_named (n, Some (Some (o, p))) h = h

module _ (ws : List Lexeme) (words : All IsWord ws) where
  keeps_name : Keeps ws name IsName
  keeps_name = record { at = λ i j x h. name_looked (slice_get ws i) x h.0 (word_at ws words i) }

  keeps_port : Keeps ws port (λ x. IsName x.name)
  keeps_port =
      either (making input_of (λ x h. h) (before typed (after (ignored (optional (key (codes "mutable"))) >> key (codes "input")) keeps_name)))
      (making output_of (λ x h. h) (before typed (after (key (codes "output")) keeps_name)))

  keeps_timer : Keeps ws timer (λ x. IsName x.name)
  keeps_timer = making timer_of timer_named (in_first _ (after (key (codes "timer")) keeps_name))

  keeps_action : Keeps ws action (λ x. IsName x.name)
  keeps_action = making action_of (λ x h. h) (before typed (in_first _ (in_second _ keeps_name)))

  keeps_instance : Keeps ws instance (λ x. IsName x.name)
  keeps_instance = making instance_of (λ x h. h) (in_first _ (in_first _ (before (key (codes "new")) (before (symbol 61) keeps_name))))

  keeps_member : Keeps ws member Named
  keeps_member =
      either (making PortMember (λ x h. h) keeps_port) (either (making TimerMember (λ x h. h) keeps_timer) (either (making ActionMember (λ x h. h) keeps_action)
      (either (making StateMember (λ x h. tt) (any state)) (either (making PreambleMember (λ x h. tt) (any preamble)) (either (making ReactionMember (λ x h. tt) (any reaction))
      (either (making InstanceMember (λ x h. h) keeps_instance) (making ConnectionMember (λ x h. tt) (any connection))))))))

  keeps_body : Keeps ws body (All Named)
  keeps_body = before (symbol 125) (after (symbol 123) (repeated keeps_member))

  keeps_reactor : Keeps ws reactor (λ x. All Named x.members)
  keeps_reactor = either (making reactor_of (λ x h. h) (in_second _ keeps_body)) (making main_of (λ x h. h) (in_second _ keeps_body))

  keeps_item : Keeps ws (made PreambleItem preamble or made ReactorItem reactor) AllNamed
  keeps_item = either (making PreambleItem (λ x h. tt) (any preamble)) (making ReactorItem (λ x h. h) keeps_reactor)

  keeps_file : Keeps ws file (λ x. All AllNamed x.items)
  keeps_file = making file_of (λ x h. h) (in_second _ (repeated keeps_item))

-- ---- from the members to the declared names

seen_in_front : {A : Type 0} (P : A → Type 0) (o : Option A) (xs : List A) → IfSome o P → All P xs → All P (cons_option o xs)
seen_in_front P None xs h rest = rest
seen_in_front P (Some x) xs h rest = All-cons P x xs h rest

all_seen : {A B : Type 0} (see : A → Option B) (P : A → Type 0) (Q : B → Type 0) → ((x : A) → P x → IfSome (see x) Q) → (xs : List A) → All P xs → All Q (filter_map see xs)
all_seen see P Q so [] h = All-nil Q
all_seen see P Q so (x ∷ xs) h = seen_in_front Q (see x) (filter_map see xs) (so x (All-head P x xs h)) (all_seen see P Q so xs (All-tail P x xs h))

port_named : (m : MemberTree) → Named m → IfSome (port_in m) (λ x. IsName x.name)
port_named (PortMember x) h = h
port_named _ h = tt

timer_in_named : (m : MemberTree) → Named m → IfSome (timer_in m) (λ x. IsName x.name)
timer_in_named (TimerMember x) h = h
timer_in_named _ h = tt

action_named : (m : MemberTree) → Named m → IfSome (action_in m) (λ x. IsName x.name)
action_named (ActionMember x) h = h
action_named _ h = tt

instance_named : (m : MemberTree) → Named m → IfSome (instance_in m) (λ x. IsName x.name)
instance_named (InstanceMember x) h = h
instance_named _ h = tt

-- one kind of member, and the names of those
names_of : {B : Type 0} (see : MemberTree → Option B) (name_of : B → List ℕ) → ((m : MemberTree) → Named m → IfSome (see m) (λ x. IsName (name_of x))) → (members : List MemberTree) → All Named members → All IsName (map name_of (filter_map see members))
names_of see name_of so members h = All-map IsName name_of (filter_map see members) (all_seen see Named (λ x. IsName (name_of x)) so members h)

reactor_named : (r : ReactorTree) → All Named r.members → All IsName (declared_names r)
reactor_named r h =
    All-append IsName _ _ (All-append IsName _ _ (All-append IsName _ _
    (names_of port_in (λ x. x.name) port_named r.members h)
    (names_of timer_in (λ x. x.name) timer_in_named r.members h))
    (names_of action_in (λ x. x.name) action_named r.members h))
    (names_of instance_in (λ x. x.name) instance_named r.members h)

item_named : (item : ItemTree) → AllNamed item → IfSome (reactor_in item) (λ r. All IsName (declared_names r))
item_named (PreambleItem x) h = tt
item_named (ReactorItem r) h = reactor_named r h

-- the names that a tree declares are such, if a text's tokens spell it
pub has_identifiers : (text : List ℕ) (tokens : List Token) (tree : FileTree) → Lexes text tokens → Spells tree (lexemes text tokens) → HasIdentifiers tree
has_identifiers text tokens tree whole spelled =
    all_seen reactor_in AllNamed (λ r. All IsName (declared_names r)) item_named tree.items
    ((keeps_file (lexemes text tokens) (words_of_text text tokens whole)).at 0 (length (lexemes text tokens)) tree spelled)

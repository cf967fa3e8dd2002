-- Names, two tokens ahead, and what ends a member.
use Rattle.std.proofs.Common.{◌≡◌, ℕ, suc, ◌+◌, ◌≤◌, Bool, true, false, List, [], ◌∷◌, length, Option, Some, None, refl, ap, subst, ◌∙◌, arith, cond, eqb}
use Rattle.std.specs.Prelude.{slice_get, ◌||◌}
use Rattle.std.{specs.Str.bytes_eq, proofs.lemmas.{Slice.Eq.bytes_eq-Decides, Bool.eqb-true}}
use Rattle.lft_syntax.proofs.{Options.some, Algebra.{Follow, Horizon, near, Known, Refused, Outcome, Right, Any, Test, Starts, starts_token}}
use Rattle.lft_syntax.proofs.Rules.{starts_by, Here, right_name}
use Rattle.lft_syntax.specs.Lexeme.{Lexeme, Letters, Symbol, is, is_name, is_reserved, is_one_of, negated, name_in, unit_in, unit_of}
use Rattle.lft_syntax.specs.{inner.{Tests.{is_word_of, is_follower, member_keys, closes_at}, Reading.{seen_at, name_at}}, Language.{Spelling, look}}
use Rattle.lft_syntax.specs.Grammar.{name}
use Rattle.lft_tree.specs.declared.tree.TimeUnit.{TimeUnit}

-- ---- two tokens ahead

pub far : Horizon
far ws i = cond (is_name (slice_get ws i)) (cond (is_follower (slice_get ws (i + 1))) (i + 1 + 1) (i + 1)) (i + 1)

-- where a reading that begins with a name can be refused
pub past_name : Horizon
past_name ws i = cond (is_name (slice_get ws i)) (i + 1 + 1) (i + 1)

-- a member or the end of a body begins there
abbrev pub Ends : Follow
Ends vs m = closes_at (slice_get vs m) (slice_get vs (m + 1)) ≡ true

far_from : (a b : Bool) (i : ℕ) → i + 1 ≤ cond a (cond b (i + 1 + 1) (i + 1)) (i + 1)
far_from true true i = omega arith
far_from true false i = omega arith
far_from false b i = omega arith

pub far_looks : (ws : List Lexeme) (i : ℕ) → i + 1 ≤ far ws i
unfolding far
far_looks ws i = far_from (is_name (slice_get ws i)) (is_follower (slice_get ws (i + 1))) i

past_from : (a : Bool) (i : ℕ) → i + 1 ≤ cond a (i + 1 + 1) (i + 1)
past_from true i = omega arith
past_from false i = omega arith

pub past_looks : (ws : List Lexeme) (i : ℕ) → i + 1 ≤ past_name ws i
unfolding past_name
past_looks ws i = past_from (is_name (slice_get ws i)) i

far_past_from : (a b : Bool) (i : ℕ) → cond a (cond b (i + 1 + 1) (i + 1)) (i + 1) ≤ cond a (i + 1 + 1) (i + 1)
far_past_from true true i = omega arith
far_past_from true false i = omega arith
far_past_from false b i = omega arith

pub far_past : (ws : List Lexeme) (i : ℕ) → far ws i ≤ past_name ws i
unfolding far past_name
far_past ws i = far_past_from (is_name (slice_get ws i)) (is_follower (slice_get ws (i + 1))) i

-- where no name stands, one token is seen
pub far_near : (ws : List Lexeme) (i : ℕ) → is_name (slice_get ws i) ≡ false → far ws i ≤ near ws i
unfolding far
far_near ws i e = rw e (omega arith)

pub far_two : (ws : List Lexeme) (i : ℕ) → is_name (slice_get ws i) ≡ true → is_follower (slice_get ws (i + 1)) ≡ true → far ws i ≡ i + 1 + 1
unfolding far
far_two ws i e f = rw (e, f) refl

pub past_two : (ws : List Lexeme) (i : ℕ) → is_name (slice_get ws i) ≡ true → past_name ws i ≡ i + 1 + 1
unfolding past_name
past_two ws i e = rw e refl

-- ---- a name at the beginning

not_name : (x : List ℕ) (b : Bool) → is_reserved x ≡ b → cond b None (some x) ≡ None → negated (is_reserved x) ≡ false
not_name x true e s = rw e refl
not_name x false e s = absurd cc

is_a_name : (x y : List ℕ) (b : Bool) → is_reserved x ≡ b → cond b None (some x) ≡ Some y → negated (is_reserved x) ≡ true
is_a_name x y true e s = absurd cc
is_a_name x y false e s = rw e refl

no_name : (o : Option Lexeme) → look name_in o ≡ None → is_name o ≡ false
no_name (Some (Letters x)) e = not_name x (is_reserved x) refl e
no_name _ e = refl

name_seen : (w : Lexeme) (y : List ℕ) → name_in w ≡ Some y → is_name (Some w) ≡ true
name_seen (Letters x) y e = is_a_name x y (is_reserved x) refl e
name_seen _ y e = absurd cc

pub starts_name : Starts name is_name true
starts_name = starts_token name_in is_name true name_seen

past_near_from : (a : Bool) (i : ℕ) → cond a (i + 1 + 1) (i + 1) ≤ i + 1 + 1
past_near_from true i = omega arith
past_near_from false i = omega arith

pub past_near : (ws : List Lexeme) (i : ℕ) → past_name ws i ≤ near ws (i + 1)
unfolding past_name
past_near ws i = past_near_from (is_name (slice_get ws i)) i

past_none : (ws : List Lexeme) (i : ℕ) → is_name (slice_get ws i) ≡ false → past_name ws i ≤ suc i
unfolding past_name
past_none ws i e = rw e (omega arith)

name_first_at : (ws : List Lexeme) (i : ℕ) → i ≤ length ws → (o : Option (List ℕ)) → look name_in (slice_get ws i) ≡ o → Outcome name Any past_name near 1 ws i (seen_at i o)
name_first_at ws i le (Some x) e =
    let k : Known name Any near near 1 ws i x (i + 1) = subst (λ (o : Option (List ℕ)). Outcome name Any near near 1 ws i (seen_at i o)) e (right_name.at ws i le) in
    record { further = k.further; within = k.within; seen = past_near ws i; found = k.found; forced = k.forced }
name_first_at ws i le None e =
    let k : Refused name Any near ws i i = subst (λ (o : Option (List ℕ)). Outcome name Any near near 1 ws i (seen_at i o)) e (right_name.at ws i le) in
    record { seen = past_none ws i (no_name (slice_get ws i) e); within = k.within; begun = k.begun; none = k.none }

-- a name, where a member begins with it
pub name_first : Right name Any past_name near 1 name_at
name_first = record { regular = right_name.regular; at = λ ws i le. name_first_at ws i le (look name_in (slice_get ws i)) refl }

-- ---- what ends a member

pub ends_symbol : (b : ℕ) → eqb b 125 ≡ false → (o q : Option Lexeme) → closes_at o q ≡ true → is (Symbol b) o ≡ false
ends_symbol b e (Some (Symbol s)) q h = let s-is : s ≡ 125 = eqb-true s 125 h in rw s-is e
ends_symbol b e _ q h = refl

ends_word_is : (w x : List ℕ) (q : Option Lexeme) → closes_at (Some (Letters w)) q ≡ false → closes_at (Some (Letters x)) q ≡ true → (b : Bool) → bytes_eq w x ≡ b → b ≡ false
ends_word_is w x q never ends true e = let same_word : w ≡ x = (bytes_eq-Decides w x).0 e in absurd (cc (ap (λ (y : List ℕ). closes_at (Some (Letters y)) q) same_word, never, ends))
ends_word_is w x q never ends false e = refl

pub ends_word : (w : List ℕ) → ((q : Option Lexeme) → closes_at (Some (Letters w)) q ≡ false) → (o q : Option Lexeme) → closes_at o q ≡ true → is (Letters w) o ≡ false
ends_word w never (Some (Letters x)) q h = ends_word_is w x q (never q) h (bytes_eq w x) refl
ends_word w never _ q h = refl

abbrev pub AllOf : (List ℕ → Type 0) → List (List ℕ) → Type 0
AllOf P [] = Unit {0}
AllOf P (k ∷ ks) = P k × AllOf P ks

one_of_either : (k x : List ℕ) (P : List ℕ → Type 0) (ks : List (List ℕ)) → P k → AllOf P ks → (is_one_of ks x ≡ true → P x) → (b : Bool) → bytes_eq k x ≡ b → (b || is_one_of ks x) ≡ true → P x
one_of_either k x P ks first others later true e h = subst P ((bytes_eq-Decides k x).0 e) first
one_of_either k x P ks first others later false e h = later h

pub one_of : (P : List ℕ → Type 0) (ks : List (List ℕ)) (x : List ℕ) → AllOf P ks → is_one_of ks x ≡ true → P x
one_of P [] x each h = absurd cc
one_of P (k ∷ ks) x each h = one_of_either k x P ks each.0 each.1 (one_of P ks x each.1) (bytes_eq k x) refl h

NoUnitWord : List ℕ → Type 0
NoUnitWord x = unit_of x ≡ None

keys_no_units : AllOf NoUnitWord member_keys
unfolding unit_of NoUnitWord
keys_no_units = (refl, (refl, (refl, (refl, (refl, (refl, (refl, (refl, (refl, (refl, (refl, tt)))))))))))

follows_if : (x : List ℕ) (q : Option Lexeme) (a b : Bool) → is_one_of member_keys x ≡ a → is_reserved x ≡ b → (a ≡ true → ⊥) → cond a true (cond b false (is_follower q)) ≡ true → (negated (is_reserved x) ≡ true) × (is_follower q ≡ true)
follows_if x q true b e f never h = absurd (never refl)
follows_if x q false true e f never h = absurd cc
follows_if x q false false e f never h = (rw f refl, h)

-- a unit that begins a member is a name, and what stands after a member's name stands after it
pub ends_unit : (o q : Option Lexeme) (u : TimeUnit) → closes_at o q ≡ true → look unit_in o ≡ Some u → (is_name o ≡ true) × (is_follower q ≡ true)
unfolding NoUnitWord
ends_unit (Some (Letters x)) q u h e = follows_if x q (is_one_of member_keys x) (is_reserved x) refl refl (λ t. let none = one_of NoUnitWord member_keys x keys_no_units t in cc (none, e)) h
ends_unit _ q u h e = absurd cc

follower_symbol : (s : ℕ) → eqb s 125 ≡ true → (eqb s 61 || eqb s 46 || eqb s 44) ≡ true → ⊥
follower_symbol s e h = let s-is : s ≡ 125 = eqb-true s 125 e in let f = rw s-is at h in cc f

-- what stands after a member's name ends no member
pub ends_follower : (o q : Option Lexeme) → closes_at o q ≡ true → is_follower o ≡ true → ⊥
ends_follower (Some (Symbol s)) q h e = follower_symbol s h e
ends_follower _ q h e = cc

-- no member, and no end of a body, begins with this symbol
pub no_symbol : (b : ℕ) → eqb b 125 ≡ false → (vs : List Lexeme) (m : ℕ) → Ends vs m → is (Symbol b) (slice_get vs m) ≡ false
no_symbol b e vs m h = ends_symbol b e (slice_get vs m) (slice_get vs (m + 1)) h

pub bracket_ends : (vs : List Lexeme) (m : ℕ) → Here (Symbol 125) vs m → Ends vs m
bracket_ends vs m h = ap (λ (o : Option Lexeme). closes_at o (slice_get vs (m + 1))) h ∙ refl

-- ---- names and other words

name_so_at : (go : Test) (b : Bool) → ((x : List ℕ) → negated (is_reserved x) ≡ true → go (Some (Letters x)) ≡ b) → (o : Option Lexeme) → is_name o ≡ true → go o ≡ b
name_so_at go b so (Some (Letters x)) e = so x e
name_so_at go b so _ e = absurd cc

-- what begins with a name begins as names do
pub named : {A : Type 0} {P : Spelling A} (go : Test) (b : Bool) → ((x : List ℕ) → go (Some (Letters x)) ≡ b) → Starts P is_name true → Starts P go b
named go b so starts = starts_by (name_so_at go b (λ x e. so x)) starts

abbrev pub Reserved : List ℕ → Type 0
Reserved w = is_reserved w ≡ true

reserved_word : (ks : List (List ℕ)) (x : List ℕ) → AllOf Reserved ks → negated (is_reserved x) ≡ true → (b : Bool) → is_one_of ks x ≡ b → b ≡ false
reserved_word ks x each e true h = let r = one_of Reserved ks x each h in absurd (cc (ap negated r, e))
reserved_word ks x each e false h = refl

-- a name is none of these words
pub no_key : {A : Type 0} {P : Spelling A} (ks : List (List ℕ)) → AllOf Reserved ks → Starts P is_name true → Starts P (is_word_of ks) false
no_key ks each starts = starts_by (name_so_at (is_word_of ks) false (λ x e. reserved_word ks x each e (is_one_of ks x) refl)) starts

word_differs : (w x : List ℕ) → Reserved w → negated (is_reserved x) ≡ true → (b : Bool) → bytes_eq w x ≡ b → b ≡ false
word_differs w x r e true h = let same_word : w ≡ x = (bytes_eq-Decides w x).0 h in absurd (let t : is_reserved x ≡ true = subst Reserved same_word r in cc (ap negated t, e))
word_differs w x r e false h = refl

-- a name isn't this word
pub no_word : {A : Type 0} {P : Spelling A} (w : List ℕ) → Reserved w → Starts P is_name true → Starts P (is (Letters w)) false
no_word w r starts = starts_by (name_so_at (is (Letters w)) false (λ x e. word_differs w x r e (bytes_eq w x) refl)) starts

-- one of these words is no name
pub key_no_name : (ks : List (List ℕ)) → AllOf Reserved ks → (o : Option Lexeme) → is_word_of ks o ≡ true → is_name o ≡ false
key_no_name ks each (Some (Letters x)) e = ap negated (one_of Reserved ks x each e)
key_no_name ks each _ e = refl

pub word_no_name : (w : List ℕ) → Reserved w → (o : Option Lexeme) → is (Letters w) o ≡ true → is_name o ≡ false
word_no_name w r (Some (Letters x)) e = let same_word : w ≡ x = (bytes_eq-Decides w x).0 e in ap negated (subst Reserved same_word r)
word_no_name w r _ e = refl

-- where a member begins with a name, one of the four signs follows
ends_name_at : (x : List ℕ) (q : Option Lexeme) (a b : Bool) → is_one_of member_keys x ≡ a → is_reserved x ≡ b → (a ≡ true → is_reserved x ≡ true) → negated (is_reserved x) ≡ true → cond a true (cond b false (is_follower q)) ≡ true → is_follower q ≡ true
ends_name_at x q true b e f key_reserved n h = absurd (let r = key_reserved refl in cc (ap negated r, n))
ends_name_at x q false true e f key_reserved n h = absurd cc
ends_name_at x q false false e f key_reserved n h = h

pub member_reserved : AllOf Reserved member_keys
unfolding is_reserved
member_reserved = (refl, (refl, (refl, (refl, (refl, (refl, (refl, (refl, (refl, (refl, (refl, tt)))))))))))

pub ends_name : (o q : Option Lexeme) → is_name o ≡ true → closes_at o q ≡ true → is_follower q ≡ true
ends_name (Some (Letters x)) q e h = ends_name_at x q (is_one_of member_keys x) (is_reserved x) refl refl (one_of Reserved member_keys x member_reserved) e h
ends_name _ q e h = absurd cc

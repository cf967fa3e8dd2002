-- Members and parts that stand at a token.
use Rattle.std.proofs.Common.{◌≡◌, ℕ, ◌+◌, ◌≤◌, List, [], ◌∷◌, ◌++◌, Some, length, map, take, sym, subst, ◌∙◌, ap, append_assoc, arith}
use Rattle.std.specs.Prelude.{flat_map, slice_get}
use Rattle.std.proofs.lemmas.{Grind.flat_map-append, List.{append-nil, length-take-le, map-append, Elements.{All-append, All-cons, All-nil}}}
use Rattle.std.proofs.lemmas.Option.{slice_get_within}
use Rattle.lft_tree.specs.declared.tree.{Item.Item, Member.Member as Core, Reactor.Reactor}
use Rattle.lft_whole.specs.declared.sources.source.SourceFile.{SourceFile}
use Rattle.lft_classes.specs.declared.shapes.{Inherited.Inherited, Shape.Shape}
use Rattle.lft_elaborate.specs.{inner.Settings.shape_at, declared.settings.Settings.Settings}
use Rattle.lft_lower.specs.inner.Meanings.Meanings.{Here}
use Rattle.lft_lower.specs.inner.Standing.{AddsAt, StandAtTokens, ArePartsAt, ArePlaced, IsPlaced, declared_at, more_at, more_placed, number_in, parts_at, stands_at}
use Rattle.lft_lower.proofs.MeaningsLemmas.Growing.{one_more}
use Rattle.lft_tree.specs.declared.tree.Item.TheVariants as items

abbrev At : ℕ → Core → Type 0
At at m = stands_at m ≡ at

-- the tokens are these
abbrev pub AreThese : List ℕ → List ℕ → Type 0
AreThese these tokens = tokens ≡ these

-- none
pub at_none : (old : List Core) (at : ℕ) (Are : List (List ℕ) → Type 0) → Are [] → AddsAt old old at Are
at_none old at Are are = record { more = []; stand = All-nil (At at); parts = are; put = sym (append-nil old) }

-- one more
pub at_more : (old mid now : List Core) (x : Core) (at : ℕ) (A B : List (List ℕ) → Type 0) → AddsAt old mid at A → now ≡ mid ++ x ∷ [] → stands_at x ≡ at → ((parts : List (List ℕ)) → A parts → B (parts ++ parts_at x ∷ [])) → AddsAt old now at B
at_more old mid now x at A B adds one is next = record {
  more = adds.more ++ x ∷ [];
  stand = All-append (At at) adds.more (x ∷ []) adds.stand (All-cons (At at) x [] is (All-nil (At at)));
  parts = subst B (sym (map-append parts_at adds.more (x ∷ []))) (next (map parts_at adds.more) adds.parts);
  put = one ∙ ap (λ ms. ms ++ x ∷ []) adds.put ∙ append_assoc old adds.more (x ∷ []);
}

-- one
pub at_one : (old now : List Core) (x : Core) (at : ℕ) (Are : List (List ℕ) → Type 0) → now ≡ old ++ x ∷ [] → stands_at x ≡ at → Are (parts_at x ∷ []) → AddsAt old now at Are
at_one old now x at Are one is are = record { more = x ∷ []; stand = All-cons (At at) x [] is (All-nil (At at)); parts = are; put = one }

-- parts of one kind are of the other
pub at_as : (old now : List Core) (at : ℕ) (A B : List (List ℕ) → Type 0) → AddsAt old now at A → ((parts : List (List ℕ)) → A parts → B parts) → AddsAt old now at B
at_as old now at A B adds next = record { more = adds.more; stand = adds.stand; parts = next (map parts_at adds.more) adds.parts; put = adds.put }

-- the token by another name
pub at_this : (old now : List Core) (at this : ℕ) (Are : List (List ℕ) → Type 0) → at ≡ this → AddsAt old now at Are → AddsAt old now this Are
at_this old now at this Are is adds = subst (λ n. AddsAt old now n Are) is adds

-- the parts of one member behind those that have none
pub flat_one : (parts : List (List ℕ)) (one all : List ℕ) → one ≡ all → flat_map (λ (tokens : List ℕ). tokens) parts ≡ [] → flat_map (λ (tokens : List ℕ). tokens) (parts ++ one ∷ []) ≡ all
flat_one parts one all is none = flat_map-append (λ (tokens : List ℕ). tokens) parts (one ∷ []) ∙ ap (λ ts. ts ++ (one ++ [])) none ∙ append-nil one ∙ is

-- what one more member becomes
pub at_next : (files : List SourceFile) (h : Here) (members : List Inherited) (n : ℕ) (m : Inherited) (old new : List Core) → slice_get members n ≡ Some m → StandAtTokens files h (take n members) old → AddsAt old new (number_in files m.file (declared_at m.member.now)) (ArePartsAt (number_in files m.file) h n m.member.now) → StandAtTokens files h (take (n + 1) members) new
at_next files h members n m old new at so_far adds =
    let within = slice_get_within members n m at in
    let low : n ≤ length members = omega (arith, within) in
    let long : length (take n members) ≡ n = length-take-le n members low in
    let last = subst (λ k. AddsAt old new (number_in files m.file (declared_at m.member.now)) (ArePartsAt (number_in files m.file) h k m.member.now)) (sym long) adds in
    subst (λ ms. StandAtTokens files h ms new) (sym (one_more members n m at)) (more_at (take n members) m old new so_far last)

-- one more reactor
pub placed_next : (files : List SourceFile) (s : Settings) (settings : List ℕ) (n k : ℕ) (shape : Shape) (old now : List Item) (r : Reactor) → slice_get settings n ≡ Some k → ArePlaced files s (take n settings) old → shape_at s k ≡ Some shape → IsPlaced files s k shape r → now ≡ old ++ items.Reactor r ∷ [] → ArePlaced files s (take (n + 1) settings) now
placed_next files s settings n k shape old now r at so_far here is one =
    subst (λ ks. ArePlaced files s ks now) (sym (one_more settings n k at)) (subst (λ is. ArePlaced files s (take n settings ++ k ∷ []) is) (sym one) (more_placed (take n settings) k shape old r so_far here is))

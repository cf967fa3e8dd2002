-- A text spells one term, and one expression.
use Rattle.std.proofs.Common.{◌≡◌, ◌≢◌, ◌∙◌, inl, inr, ◌<◌, ℕ, zero, suc, List, [], ◌∷◌, length, Some, get_or, refl, sym, ap, arith}
use Rattle.std.specs.Prelude.{codes, slice_get, AllPairs}
use Rattle.std.{specs.List.AllZip, proofs.lemmas.{Bool.cases_lt, Option.{get_or_from_slice_get, slice_get_within}}}
use Rattle.lft_ir.specs.{Names.AreDistinct, Parts.{Parts, inputs}, Sound.IsSound, declared.parts.{Name.Name, Value.TheVariants.Int}}
use Rattle.lft_trace.{specs.Traces.{IsThing, thing}, proofs.RowsDiffer.same_thing}
use Rattle.lft_lists.proofs.Zips.{same}
use Rattle.lft_record.specs.{Expressions.{IsExpression, IsInput, IsLiteral, IsTerm}, declared.cards.expression.Summand.Summand}
use Rattle.lft_record.specs.declared.cards.expression.Summand.TheVariants as term

pub one_thing : (program : Parts) (text : List ℕ) (m n : Name) → AreDistinct program.names → IsThing program text m → IsThing program text n → m ≡ n
one_thing program text m n distinct a b = same_thing m n (distinct (thing m) (thing n) text a b)

-- a name stands once in a list in which no two are the same
once : (ns : List Name) (i j : ℕ) (n : Name) → AllPairs (λ m o. m ≢ o) ns → slice_get ns i ≡ Some n → slice_get ns j ≡ Some n → i < j → ⊥
once ns i j n apart h k below =
    let w : j < length ns = slice_get_within ns j n k in
    apart i j n below w (get_or_from_slice_get ns i n n h ∙ sym (get_or_from_slice_get ns j n n k))

pub one_place : (ns : List Name) (i j : ℕ) (n : Name) → AllPairs (λ m o. m ≢ o) ns → slice_get ns i ≡ Some n → slice_get ns j ≡ Some n → i ≡ j
one_place ns i j n apart h k = elim (cases_lt i j) [
  | inl l ↦ absurd (once ns i j n apart h k l)
  | inr g ↦ elim (cases_lt j i) [
    | inl l ↦ absurd (once ns j i n apart k h l)
    | inr f ↦ omega arith
  ]
]

one_input : (program : Parts) (r : ℕ) (text : List ℕ) (i j : ℕ) → IsSound program → IsInput program r text i → IsInput program r text j → i ≡ j
one_input program r text i j sound a b =
    let x : Some a.0 ≡ Some b.0 = sym a.2 ∙ b.2 in
    let e : a.0 ≡ b.0 = cc x in
    let n : a.1 ≡ b.1 = one_thing program text a.1 b.1 sound.well_named.distinct a.4 b.4 in
    let here : slice_get (inputs b.0) i ≡ Some b.1 = rw (← e, ← n) a.3 in
    one_place (inputs b.0) i j b.1 (sound.distinct r b.0 b.2).0 here b.3

one_literal : (text : List ℕ) (s t : Summand) → IsLiteral text s → IsLiteral text t → s ≡ t
one_literal text (term.Number n) (term.Number m) a b = let e : Some (Int n) ≡ Some (Int m) = sym a ∙ b in let q : n ≡ m = cc e in ap term.Number q
one_literal text (term.Number n) term.State a b = absurd (let e = rw b at a in cc e)
one_literal text (term.Number n) term.Time a b = absurd (let e = rw b at a in cc e)
one_literal text (term.Number n) (term.Input i) a b = absurd b
one_literal text term.State (term.Number m) a b = absurd (let e = rw a at b in cc e)
one_literal text term.State term.State a b = refl
one_literal text term.State term.Time a b = absurd (let e : codes "state" ≡ codes "time" = sym a ∙ b in cc e)
one_literal text term.State (term.Input i) a b = absurd b
one_literal text term.Time (term.Number m) a b = absurd (let e = rw a at b in cc e)
one_literal text term.Time term.State a b = absurd (let e : codes "time" ≡ codes "state" = sym a ∙ b in cc e)
one_literal text term.Time term.Time a b = refl
one_literal text term.Time (term.Input i) a b = absurd b
one_literal text (term.Input i) t a b = absurd a

pub one_term : (program : Parts) (r : ℕ) (text : List ℕ) (s t : Summand) → IsSound program → IsTerm program r text s → IsTerm program r text t → s ≡ t
one_term program r text (term.Input i) (term.Input j) sound a b = ap term.Input (one_input program r text i j sound a.1 b.1)
one_term program r text (term.Input i) (term.Number m) sound a b = absurd (a.0 (term.Number m) b)
one_term program r text (term.Input i) term.State sound a b = absurd (a.0 term.State b)
one_term program r text (term.Input i) term.Time sound a b = absurd (a.0 term.Time b)
one_term program r text (term.Number n) (term.Input j) sound a b = absurd (b.0 (term.Number n) a)
one_term program r text term.State (term.Input j) sound a b = absurd (b.0 term.State a)
one_term program r text term.Time (term.Input j) sound a b = absurd (b.0 term.Time a)
one_term program r text (term.Number n) (term.Number m) sound a b = one_literal text (term.Number n) (term.Number m) a b
one_term program r text (term.Number n) term.State sound a b = one_literal text (term.Number n) term.State a b
one_term program r text (term.Number n) term.Time sound a b = one_literal text (term.Number n) term.Time a b
one_term program r text term.State (term.Number m) sound a b = one_literal text term.State (term.Number m) a b
one_term program r text term.State term.State sound a b = refl
one_term program r text term.State term.Time sound a b = one_literal text term.State term.Time a b
one_term program r text term.Time (term.Number m) sound a b = one_literal text term.Time (term.Number m) a b
one_term program r text term.Time term.State sound a b = one_literal text term.Time term.State a b
one_term program r text term.Time term.Time sound a b = refl

pub one_expression : (program : Parts) (r : ℕ) (text : List ℕ) (a b : List Summand) → IsSound program → IsExpression program r text a → IsExpression program r text b → a ≡ b
one_expression program r text a b sound h k = same (IsTerm program r) (λ piece s t p q. one_term program r piece s t sound p q) _ a b h k

-- a piece that spells no term leaves the text without an expression
pub no_term : (program : Parts) (r : ℕ) (pieces : List (List ℕ)) (at : ℕ) (piece : List ℕ) → (at < length pieces) × (piece ≡ get_or pieces at piece) → ((t : Summand) → IsTerm program r piece t → ⊥) → (terms : List Summand) → AllZip (IsTerm program r) pieces terms → ⊥
no_term program r [] at piece here none terms h = let l = here.0 in absurd (omega (arith, l))
no_term program r (p ∷ pieces) zero piece here none [] h = absurd h
no_term program r (p ∷ pieces) zero piece here none (t ∷ terms) h = none t (rw here.1 h.0)
no_term program r (p ∷ pieces) (suc at) piece here none [] h = absurd h
no_term program r (p ∷ pieces) (suc at) piece here none (t ∷ terms) h = no_term program r pieces at piece (let l = here.0 in omega (arith, l), here.1) none terms h.1

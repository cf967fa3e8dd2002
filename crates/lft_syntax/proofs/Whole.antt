-- What reading a whole text says of all other texts.
use Rattle.std.proofs.Common.{◌≡◌, ℕ, zero, suc, ◌+◌, ◌≤◌, ◌<◌, Bool, true, false, List, [], ◌∷◌, ◌++◌, length, length-take-le, take, take-append-drop, drop, Option, Result, Ok, Err, refl, sym, ap, subst, ◌∙◌, arith, cond, inl, inr}
use Rattle.std.specs.Prelude.{slice_get, codes}
use Rattle.std.proofs.lemmas.Option.{slice_get_cases, slice_get_past}
use Rattle.lft_syntax.specs.{declared.fault.SyntaxFault.SyntaxFault, Lexeme.{Lexeme, Letters, is, is_there}}
use Rattle.lft_syntax.specs.inner.Reading.{Reading, ◌>>=◌, maybe, many_at, target_at, item_at, items_at, file_at, whole_at}
use Rattle.lft_syntax.specs.Grammar.{file, file_of, Spells, BeginsTree}
use Rattle.lft_syntax.proofs.{Options.some_is, Begun.{Agree, Begun}, Algebra.{near, Outcome, Test}, Files.{AtEnd, right_file}, Loop.all_read}
use Rattle.lft_tree.specs.{declared.ast.Ast.Ast, Tree.{FileTree, ItemTree, Range}}
use Rattle.lft_syntax.specs.declared.fault.SyntaxFault.TheVariants as faults

-- ---- the items end where the text ends

abbrev Stops : {A : Type 0} → Test → List Lexeme → Result (A × ℕ) ℕ → Type 0
Stops go ws (Ok r) = go (slice_get ws r.1) ≡ false
Stops go ws (Err k) = Unit {0}

stops_with : {A B : Type 0} (go : Test) (ws : List Lexeme) (f : A → B) (r : Result (A × ℕ) ℕ) → Stops go ws r → Stops go ws (r >>= λ a. Ok (f a.0, a.1))
stops_with go ws f (Ok a) s = s
stops_with go ws f (Err k) s = tt

module _ {A : Type 0} (go : Test) (p : Reading A) (ws : List Lexeme) where
  stops_more : (n : ℕ) (r : Result (A × ℕ) ℕ) → ((j : ℕ) → Stops go ws (many_at go p n ws j)) → Stops go ws (r >>= λ a. many_at go p n ws a.1 >>= λ b. Ok (a.0 ∷ b.0, b.1))
  stops_more n (Ok a) rest = stops_with go ws (λ xs. a.0 ∷ xs) (many_at go p n ws a.1) (rest a.1)
  stops_more n (Err k) rest = tt

  stops_case : (n i : ℕ) (b : Bool) → go (slice_get ws i) ≡ b → ((j : ℕ) → Stops go ws (many_at go p n ws j))
      → Stops go ws (cond b (p ws i >>= λ a. many_at go p n ws a.1 >>= λ b. Ok (a.0 ∷ b.0, b.1)) (Ok ([], i)))
  stops_case n i true e rest = stops_more n (p ws i) rest
  stops_case n i false e rest = e

  many_stops : (n i : ℕ) → Stops go ws (many_at go p n ws i)
  unfolding many_at
  many_stops zero i = tt
  many_stops (suc n) i = stops_case n i (go (slice_get ws i)) refl (many_stops n)

items_stop : (ws : List Lexeme) (i : ℕ) → Stops is_there ws (items_at ws i)
unfolding items_at
items_stop ws i = many_stops is_there item_at ws (suc (length ws)) i

file_stops_at : (ws : List Lexeme) (r : Result (Option Range × ℕ) ℕ) → Stops is_there ws (◌>>=◌ {A = (Option Range × List ItemTree) × ℕ} (r >>= λ a. items_at ws a.1 >>= λ b. Ok ((a.0, b.0), b.1)) (λ a. Ok (file_of a.0, a.1)))
file_stops_at ws (Ok a) = stops_with is_there ws file_of (items_at ws a.1 >>= λ b. Ok ((a.0, b.0), b.1)) (stops_with is_there ws (λ xs. (a.0, xs)) (items_at ws a.1) (items_stop ws a.1))
file_stops_at ws (Err k) = tt

file_stops : (ws : List Lexeme) → Stops is_there ws (file_at ws 0)
unfolding file_at
file_stops ws = file_stops_at ws (maybe (is (Letters (codes "target"))) target_at ws 0)

-- ---- the whole text

-- what a reading of the whole text says
abbrev pub Whole : List Lexeme → Result FileTree ℕ → Type 0
Whole ws (Ok tree) = Spells tree ws × ((other : FileTree) → Spells other ws → other ≡ tree)
Whole ws (Err k) = (k ≤ length ws) × ((vs : List Lexeme) (other : FileTree) → Agree (suc k) ws vs → Spells other vs → ⊥) × BeginsTree (take k ws)

take_keeps : {A : Type 0} (k : ℕ) (xs : List A) (i : ℕ) → i < k → slice_get (take k xs) i ≡ slice_get xs i
take_keeps zero xs i lt = absurd (omega arith)
take_keeps (suc k) [] i lt = refl
take_keeps (suc k) (x ∷ xs) zero lt = refl
take_keeps (suc k) (x ∷ xs) (suc i) lt = take_keeps k xs i (omega arith)

take_same : (k : ℕ) (ws vs : List Lexeme) → k ≤ length ws → k ≤ length vs → Agree k ws vs → take k ws ≡ take k vs
take_same zero ws vs le within agree = refl
take_same (suc k) [] vs le within agree = absurd (omega arith)
take_same (suc k) (w ∷ ws) [] le within agree = absurd (omega arith)
take_same (suc k) (w ∷ ws) (v ∷ vs) le within agree =
    let head : w ≡ v = some_is w v (agree 0 (omega arith)) in
    rw (head, take_same k ws vs (omega arith) (omega arith) (λ i lt. agree (suc i) (omega arith))) refl

-- what begins a file is ended by the tokens of some text
begun_text : (ws : List Lexeme) (k : ℕ) → k ≤ length ws → Begun file ws 0 k → BeginsTree (take k ws)
begun_text ws k le b =
    let us = take b.end b.text in
    let long : length us ≡ b.end = length-take-le b.end b.text b.within in
    let begins : take k ws ≡ take k us = take_same k ws us le (omega (arith, b.past)) (λ i lt. b.same i lt ∙ sym (take_keeps b.end b.text i (omega (arith, b.past)))) in
    let whole : take k ws ++ drop k us ≡ us = ap (λ (l : List Lexeme). l ++ drop k us) begins ∙ take-append-drop k us in
    let spelled : file us 0 b.end b.value = right_file.regular.local b.text us 0 b.end b.value (λ i lt. sym (take_keeps b.end b.text i lt)) b.spelled in
    (drop k us, b.value, rw (whole, long) spelled)

outcome_whole : (ws : List Lexeme) (r : Result (FileTree × ℕ) ℕ) → Outcome file AtEnd near near 0 ws 0 r → Stops is_there ws r → Whole ws (r >>= λ a. Ok a.0)
outcome_whole ws (Ok a) k stops =
    let whole : a.1 ≡ length ws = all_read ws a.1 k.within stops in
    (subst (λ (n : ℕ). file ws 0 n a.0) whole k.found, λ other s. (k.forced ws (length ws) other (λ i lt. refl) s (slice_get_past ws (length ws) (omega arith))).0)
outcome_whole ws (Err t) k stops = (k.within, λ vs other agree s. k.none vs (length vs) other agree s (slice_get_past vs (length vs) (omega arith)), begun_text ws t k.within k.begun)

pub whole_right : (ws : List Lexeme) → Whole ws (whole_at ws)
unfolding whole_at
whole_right ws = outcome_whole ws (file_at ws 0) (right_file.at ws 0 (omega arith)) (file_stops ws)

-- ---- the clauses of the parser

agree_take : (k : ℕ) (ws vs : List Lexeme) → take k vs ≡ take k ws → Agree k ws vs
agree_take k ws vs e i lt = sym (take_keeps k ws i lt) ∙ ap (λ (l : List Lexeme). slice_get l i) (sym e) ∙ take_keeps k vs i lt

-- a tree that is read is the only one
pub read_tree : (ws : List Lexeme) (tree : FileTree) → whole_at ws ≡ Ok tree → Spells tree ws × ((other : FileTree) → Spells other ws → other ≡ tree)
read_tree ws tree e = subst (Whole ws) e (whole_right ws)

-- where a reading stops, no tree's tokens begin so
pub read_fault : (ws : List Lexeme) (k : ℕ) → whole_at ws ≡ Err k
    → (0 < k + 1) × (k + 1 ≤ length ws + 1) × ((others : List Lexeme) (tree : FileTree) → take (k + 1) others ≡ take (k + 1) ws → Spells tree others → ⊥)
read_fault ws k e =
    let w : Whole ws (Err k) = subst (Whole ws) e (whole_right ws) in
    (omega arith, omega (arith, w.0), λ others tree same s. w.1 others tree (λ i lt. agree_take (k + 1) ws others same i (omega arith)) s)

-- and before that, some tree's do
pub read_begun : (ws : List Lexeme) (k : ℕ) → whole_at ws ≡ Err k → BeginsTree (take k ws)
read_begun ws k e = let w : Whole ws (Err k) = subst (Whole ws) e (whole_right ws) in w.2

-- what the parser ensures of a text that no tree spells
abbrev UnexpectedClause : List Lexeme → Result Ast SyntaxFault → Type 0
UnexpectedClause words result = (k : ℕ) → result ≡ Err (faults.Unexpected k)
    → (0 < k) × (k ≤ length words + 1) × ((others : List Lexeme) (tree : FileTree) → take k others ≡ take k words → Spells tree others → ⊥)

pub fault_given : (words : List Lexeme) (at : ℕ) → whole_at words ≡ Err at → UnexpectedClause words (Err (faults.Unexpected (at + 1)))
fault_given words at e k same = let k-is : at + 1 ≡ k = cc in rw (← k-is) (read_fault words at e)

abbrev BegunClause : List Lexeme → Result Ast SyntaxFault → Type 0
BegunClause words result = (before : ℕ) → result ≡ Err (faults.Unexpected (before + 1)) → BeginsTree (take before words)

pub begun_given : (words : List Lexeme) (at : ℕ) → whole_at words ≡ Err at → BegunClause words (Err (faults.Unexpected (at + 1)))
begun_given words at e before same = let same_number : at + 1 ≡ before + 1 = cc in let before-is : at ≡ before = omega (arith, same_number) in rw (← before-is) (read_begun words at e)

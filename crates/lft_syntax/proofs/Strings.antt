-- The bytes of a string, one at a time.
use Rattle.std.proofs.Common.{◌≡◌, ℕ, ◌+◌, ◌<◌, ◌≤◌, ◌≢◌, List, length, get_or, Option, Some, refl, ap, ◌∙◌, arith}
use Rattle.std.specs.Prelude.{slice_get}
use Rattle.std.proofs.lemmas.Option.{slice_get_within, slice_get-get_or}
use Rattle.lft_syntax.{specs.Lexes.{Quoted, ends, escaped, plain}, proofs.Once.{at_slash, at_plain}}

abbrev some : ℕ → Option ℕ
some x = Some x

pub read : (t : List ℕ) (i b : ℕ) → i < length t → get_or t i 0 ≡ b → slice_get t i ≡ Some b
read t i b lt e = slice_get-get_or t i 0 lt ∙ ap some e

pub string_past : (t : List ℕ) {i j : ℕ} → Quoted t i j → length t ≤ i → ⊥
string_past t (ends {i = i} a e) le = let lt = slice_get_within t i 34 a in omega arith
string_past t (escaped {i = i} a more) le = let lt = slice_get_within t i 92 a in omega arith
string_past t (plain {i = i} {b = b} a x y more) le = let lt = slice_get_within t i b a in omega arith

pub slash_on : (t : List ℕ) (i j : ℕ) → i < length t → get_or t i 0 ≡ 92 → Quoted t (i + 2) j → Quoted t i j
slash_on t i j lt e more = escaped (read t i 92 lt e) more

pub slash_off : (t : List ℕ) (i j : ℕ) → i < length t → get_or t i 0 ≡ 92 → Quoted t i j → Quoted t (i + 2) j
slash_off t i j lt e all = at_slash t all (read t i 92 lt e)

pub plain_on : (t : List ℕ) (i j : ℕ) → i < length t → get_or t i 0 ≢ 34 → get_or t i 0 ≢ 92 → Quoted t (i + 1) j → Quoted t i j
plain_on t i j lt a b more = plain (read t i (get_or t i 0) lt refl) a b more

pub plain_off : (t : List ℕ) (i j : ℕ) → i < length t → get_or t i 0 ≢ 34 → get_or t i 0 ≢ 92 → Quoted t i j → Quoted t (i + 1) j
plain_off t i j lt a b all = at_plain t (get_or t i 0) all (read t i (get_or t i 0) lt refl) a b

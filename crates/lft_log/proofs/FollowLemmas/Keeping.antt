-- What is kept of a log, over more bytes.
use Rattle.std.proofs.Common.{◌≡◌, ◌<◌, ◌^◌, ◌+◌, ◌∙◌, inl, inr, ℕ, List, [], ◌++◌, Option, length, length-append, append-nil, append_assoc, refl, sym, ap, subst, arith}
use Rattle.std.specs.Global.{Vec}
use Rattle.lft_tag.specs.declared.Tag.{Tag}
use Rattle.lft_ir.specs.Parts.{Parts}
use Rattle.lft_model.specs.Plans.{PlanParts}
use Rattle.lft_log.specs.{Logs.HasManyRows, inner.Told.IsLog, declared.{log.Log.Log, follow.kept.Kept.{Kept, TheVariants.{All, Nothing, TooLong}}}}
use Rattle.lft_log.specs.Follow.Kept.{IsKeptOn}
use Rattle.lft_log.proofs.{Holding.hold_longer, FollowLemmas.Reaching.is_begun}

abbrev items_of : Kept → List ℕ
items_of (All v) = v.items
items_of Nothing = []
items_of TooLong = []

-- nothing is read yet
pub kept_none : (M : Type 0) (o : Kept) → IsKeptOn M o o []
kept_none M (All v) = (v, refl, sym (append-nil v.items))
kept_none M Nothing = tt
kept_none M TooLong = inl refl

-- more bytes have many rows too
pub many_longer : (program : Parts) (bytes more : List ℕ) → HasManyRows program bytes → HasManyRows program (bytes ++ more)
many_longer program bytes more (lines, others, rest, held, many) = (lines, others, rest ++ more, hold_longer program bytes rest more lines others held, many)

-- so many rows came
many_rows : (base plan : PlanParts) (until : Option Tag) (bytes more : List ℕ) (log : Log) → IsLog base plan until bytes log → 4000000 < log.rows → HasManyRows base.program (bytes ++ more)
many_rows base plan until bytes more log is many = many_longer base.program bytes more (is.kept.lines, [], log.rest.items, is.kept.begun (is_begun base plan until bytes log is (omega (arith, many))), let n = is.kept.counted in omega (arith, n, many))

-- some bytes and then others
module _ (M N O : Type 0) (left : M → O) (right : N → O) (old : Kept) (a b : List ℕ) where
  joined : (x u w : Vec ℕ) → All x ≡ All w → x.items ≡ u.items ++ a → w.items ++ b ≡ u.items ++ (a ++ b)
  joined x u w is begins = ap (λ (s : List ℕ). s ++ b) (sym (ap items_of is) ∙ begins) ∙ append_assoc u.items a b

  longer : (u : Vec ℕ) → 2 ^ 30 < length (u.items ++ a) → 2 ^ 30 < length (u.items ++ (a ++ b))
  longer u long = let e : length (u.items ++ (a ++ b)) ≡ length (u.items ++ a) + length b = ap (λ (s : List ℕ). length s) (sym (append_assoc u.items a b)) ∙ length-append (u.items ++ a) b in omega (arith, long, e)

  kept_both : (mid new : Kept) → IsKeptOn M old mid a → IsKeptOn N mid new b → IsKeptOn O old new (a ++ b)
  kept_both mid Nothing h k = tt
  kept_both Nothing (All v) h (w, is, same) = cc
  kept_both TooLong (All v) h (w, is, same) = cc
  kept_both (All x) (All v) (u, first, begins) (w, is, same) = (u, first, same ∙ joined x u w is begins)
  kept_both Nothing TooLong h (inl is) = cc
  kept_both Nothing TooLong h (inr (w, is, why)) = cc
  kept_both (All x) TooLong h (inl is) = cc
  kept_both (All x) TooLong (u, first, begins) (inr (w, is, inl long)) = inr (u, first, inl (subst (λ (s : List ℕ). 2 ^ 30 < length s) (joined x u w is begins) long))
  kept_both (All x) TooLong (u, first, begins) (inr (w, is, inr n)) = inr (u, first, inr (right n))
  kept_both TooLong TooLong (inl is) k = inl is
  kept_both TooLong TooLong (inr (u, first, inl long)) k = inr (u, first, inl (longer u long))
  kept_both TooLong TooLong (inr (u, first, inr m)) k = inr (u, first, inr (left m))

-- a piece more of a log
pub kept_more : (base plan : PlanParts) (until : Option Tag) (bytes piece : List ℕ) (log : Log) (rows : ℕ) (old mid new : Kept) → IsLog base plan until bytes log → rows ≡ log.rows → IsKeptOn (HasManyRows base.program bytes) old mid bytes → IsKeptOn (4000000 < rows) mid new piece → IsKeptOn (HasManyRows base.program (bytes ++ piece)) old new (bytes ++ piece)
kept_more base plan until bytes piece log rows old mid new is counted before kept = kept_both (HasManyRows base.program bytes) (4000000 < rows) (HasManyRows base.program (bytes ++ piece)) (many_longer base.program bytes piece) (λ many. many_rows base plan until bytes piece log is (omega (arith, many, counted))) old bytes piece mid new before kept

-- Tags that are clear of a clash.
use Rattle.std.proofs.Common.{◌≡◌, ◌≢◌, ℕ, ◌+◌, ◌<◌, ◌⊎◌, inl, inr, List, length, refl, sym, ◌∙◌, subst, arith, Option, Some, None, slice_get, slice_set}
use Rattle.std.proofs.lemmas.Option.{none-some}
use Rattle.lft_lists.proofs.Places.{get_write_cases, length_written}
use Rattle.lft_ir.specs.{Parts.Parts, declared.steps.row.Row.Row}
use Rattle.lft_tag.{specs.{declared.Tag.Tag, Tags.{UpTo, after}}, proofs.Order.{UpTo-Before, after_past}}
use Rattle.lft_queue.specs.inner.Reading.{is_read}
use Rattle.lft_queue.specs.inner.Coming.{AtOnce.origin_of, Channels.{AreCarried, AreCarriedClear}, Coming.{IsClear, IsNoLater}}
use Rattle.lft_queue.specs.inner.Coming.Writes.{AreWrites, AreEarlierWrites, AreFewer}
use Rattle.lft_queue.specs.declared.coming.{coming.Coming.Coming, writes.Written.Written}

-- a tag up to a clear one is clear
pub clear_up : (clash : Option Tag) (k h : Tag) → UpTo k h → IsClear clash h → IsClear clash k
clear_up None k h up clear = clear
clear_up (Some c) k h up clear = UpTo-Before k h c up clear

pub fewer_same : (writes : List (Option Written)) → AreFewer writes writes
fewer_same writes = record { as_long = refl; each = λ p w e. e }

pub fewer_set : (writes : List (Option Written)) (o : ℕ) → o < length writes → AreFewer writes (slice_set writes o None)
fewer_set writes o l = record { as_long = length_written writes o None; each = each }
  where
    each : (p : ℕ) (w : Written) → slice_get (slice_set writes o None) p ≡ Some (Some w) → slice_get writes p ≡ Some (Some w)
    each p w e = go (get_write_cases writes o p None (Some w) l e)
      where
        go : ((p ≡ o) × (None ≡ Some w)) ⊎ ((p ≢ o) × (slice_get writes p ≡ Some (Some w))) → slice_get writes p ≡ Some (Some w)
        go (inl x) = absurd (none-some w x.1)
        go (inr x) = x.1

pub clear_first : (program : Parts) (u : List Row) (g last : Tag) (start : Coming) (writes : List (Option Written)) → AreWrites program u g writes → AreCarriedClear program u g last 0 start start writes
clear_first program u g last start writes are = record {
  as_long = are.as_long;
  up_to = are.up_to;
  no_later = λ h clear. clear;
  carried = λ h up clear. record { as_long = are.as_long; up_to = are.up_to; actions = λ events k a below. refl; ports = λ p k. inr (record { same = λ events k below. refl; kept = λ w e. are.each (origin_of program p) w e; unwritten = λ i x v l. absurd (omega (arith, l)) }) };
}

-- one more row has carried what it writes
pub clear_more : (program : Parts) (u : List Row) (g last : Tag) (count : ℕ) (row : Row) (start old new : Coming) (writes rest : List (Option Written)) → slice_get u count ≡ Some row → row.tag ≡ g → IsNoLater old.clash new.clash → AreFewer writes rest → ((h : Tag) → UpTo h last → IsClear new.clash h → AreCarried program (is_read program) u row.tag h count start old writes → AreCarried program (is_read program) u row.tag h (count + 1) start new rest) → AreCarriedClear program u g last count start old writes → AreCarriedClear program u g last (count + 1) start new rest
clear_more program u g last count row start old new writes rest is at no_later fewer step are = record {
  as_long = fewer.as_long ∙ are.as_long;
  up_to = λ p w e. are.up_to p w (fewer.each p w e);
  no_later = λ h clear. are.no_later h (no_later h clear);
  carried = λ h up clear. subst (λ (k : Tag). AreCarried program (is_read program) u k h (count + 1) start new rest) at (step h up clear (subst (λ (k : Tag). AreCarried program (is_read program) u k h count start old writes) (sym at) (are.carried h up (no_later h clear))));
}

pub clear_earlier : (program : Parts) (u : List Row) (g last : Tag) (count : ℕ) (start new : Coming) (writes : List (Option Written)) → AreCarriedClear program u g last count start new writes → AreEarlierWrites program (after g 0) writes
clear_earlier program u g last count start new writes are = record { as_long = are.as_long; each = λ p w e. UpTo-Before w.tag g (after g 0) (are.up_to p w e) (after_past g 0) }

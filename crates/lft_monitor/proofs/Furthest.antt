-- How far writes of a port are carried.
use Rattle.std.proofs.Common.{◌≡◌, ℕ, ◌+◌, ◌<◌, ◌≤◌, ◌⊎◌, inl, inr, Bool, true, false, cond, refl, List, length, sym, ap, ◌∙◌, subst, arith, Some, slice_get, slice_set}
use native.Mathlib.Decide.{ℕ_discrete}
use Rattle.lft_tag.specs.{declared.{Tag.Tag, Shift.Shift}, Tags.{Before, UpTo, after_all}, Shifts.{Folded, join_all, none, shifted}}
use Rattle.lft_tag.proofs.{Order.UpTo-Before, Chains.shifted_chain}
use Rattle.lft_ir.{specs.{Parts.Parts, Sound.IsSound, Origins.Origin, declared.parts.Port.Port}, proofs.Origins.{origin_unique, origin_within}}
use Rattle.lft_lists.proofs.Places.{get_there, get_written, get_unwritten, same_at, same_some}
use Rattle.lft_model.proofs.Places.{slice_get_within}
use Rattle.lft_queue.{specs.inner.{Reading.is_read, Coming.Unread.GoesAsFar}, proofs.ComingLemmas.Ways.{moved_up, far_trans}}
use Rattle.lft_monitor.specs.{inner.Kept.{AreFurthest, AreWaysOfWrites}, declared.kept.CarriedWrites.CarriedWrites}

-- a port is marked
abbrev pub IsMarked : List Bool → ℕ → Type 0
IsMarked marked p = slice_get marked p ≡ Some true

-- the ways of the ports before a number that pass the test go no further than those at the places of their origins
pub record AreFar (program : Parts) (Passes : ℕ → Type 0) (furthest : List Shift) (n : ℕ) : Type 0 where
  pub as_long : length furthest ≡ length program.ports
  pub each : (p : ℕ) (port : Port) → p < n → Passes p → slice_get program.ports p ≡ Some port → (f : Shift) × (slice_get furthest port.origin ≡ Some f) × GoesAsFar port.shift f

pub far_more : (program : Parts) (Passes : ℕ → Type 0) (old new : List Shift) (n : ℕ) (port : Port) (f far : Shift) → slice_get program.ports n ≡ Some port → slice_get old port.origin ≡ Some f → new ≡ slice_set old port.origin far → length new ≡ length old → GoesAsFar f far → GoesAsFar port.shift far → AreFar program Passes old n → AreFar program Passes new (n + 1)
far_more program Passes old new n port f far is there writes long over own are = record { as_long = long ∙ are.as_long; each = λ p x l passes e. go p x l passes e (ℕ_discrete p n) }
  where
    written : slice_get new port.origin ≡ Some far
    written = ap (λ (xs : List Shift). slice_get xs port.origin) writes ∙ get_written old port.origin far (slice_get_within old port.origin f there)

    goes : (x : Port) (h : Shift) → slice_get old x.origin ≡ Some h → GoesAsFar x.shift h → Dec (x.origin ≡ port.origin) → (z : Shift) × (slice_get new x.origin ≡ Some z) × GoesAsFar x.shift z
    goes x h at goes_far (yes q) = (far, ap (λ (k : ℕ). slice_get new k) q ∙ written, far_trans x.shift h far goes_far (subst (λ (z : Shift). GoesAsFar z far) (same_at old port.origin x.origin f h there at (sym q)) over))
    goes x h at goes_far (no m) = (h, ap (λ (xs : List Shift). slice_get xs x.origin) writes ∙ get_unwritten old port.origin x.origin far m ∙ at, goes_far)

    go : (p : ℕ) (x : Port) → p < n + 1 → Passes p → slice_get program.ports p ≡ Some x → Dec (p ≡ n) → (z : Shift) × (slice_get new x.origin ≡ Some z) × GoesAsFar x.shift z
    go p x l passes e (yes q) = let same : port ≡ x = same_at program.ports n p port x is e (sym q) in subst (λ (y : Port). (z : Shift) × (slice_get new y.origin ≡ Some z) × GoesAsFar y.shift z) same (far, written, own)
    go p x l passes e (no m) = let h = are.each p x (omega arith) passes e in goes x h.0 h.1 h.2 (ℕ_discrete x.origin port.origin)

-- a port that doesn't pass the test
pub far_less : (program : Parts) (Passes : ℕ → Type 0) (furthest : List Shift) (n : ℕ) → ¬ Passes n → AreFar program Passes furthest n → AreFar program Passes furthest (n + 1)
far_less program Passes furthest n fails are = record { as_long = are.as_long; each = λ p x l passes e. are.each p x (under p l passes (ℕ_discrete p n)) passes e }
  where
    under : (p : ℕ) → p < n + 1 → Passes p → Dec (p ≡ n) → p < n
    under p l passes (yes q) = absurd (fails (subst (λ (k : ℕ). Passes k) q passes))
    under p l passes (no m) = omega arith

pub far_all : (program : Parts) (Passes : ℕ → Type 0) (furthest : List Shift) (n : ℕ) → length program.ports ≤ n → AreFar program Passes furthest n → AreFurthest program Passes furthest
far_all program Passes furthest n all are = record { as_long = are.as_long; each = λ p port passes e. are.each p port (let l : p < length program.ports = slice_get_within program.ports p port e in omega arith) passes e }

-- where the furthest way from a tag ends before low, all do
pub leads_before : (program : Parts) → IsSound program → (Passes : ℕ → Type 0) (furthest : List Shift) → AreFurthest program Passes furthest → (origin : ℕ) (f : Shift) (tag low : Tag) → slice_get furthest origin ≡ Some f → Before (shifted tag (f.time, f.steps)) low → (p : ℕ) (delays : List ℕ) → Passes p → Origin program p origin delays → Before (after_all tag delays) low
leads_before program sound Passes furthest are origin f tag low there before p delays passes o = UpTo-Before (after_all tag delays) (shifted tag (f.time, f.steps)) low (subst (λ (k : Tag). UpTo k (shifted tag (f.time, f.steps))) lands up) before
  where
    at : (port : Port) × (slice_get program.ports p ≡ Some port)
    at = get_there program.ports p (origin_within o)

    port : Port
    port = at.0

    chain : (ds : List ℕ) × Origin program p port.origin ds × (join_all none ds ≡ (port.shift.time, port.shift.steps))
    chain = sound.origins p port at.1

    same : (port.origin ≡ origin) × (chain.0 ≡ delays)
    same = origin_unique chain.1 o

    far : (h : Shift) × (slice_get furthest port.origin ≡ Some h) × GoesAsFar port.shift h
    far = are.each p port passes at.1

    goes : GoesAsFar port.shift f
    goes = subst (λ (z : Shift). GoesAsFar port.shift z) (same_some (slice_get furthest origin) far.0 f (ap (λ (k : ℕ). slice_get furthest k) (sym same.0) ∙ far.1) there) far.2

    up : UpTo (shifted tag (port.shift.time, port.shift.steps)) (shifted tag (f.time, f.steps))
    up = moved_up tag port.shift.time port.shift.steps f.time f.steps goes

    lands : shifted tag (port.shift.time, port.shift.steps) ≡ after_all tag delays
    lands = ap (λ (s : Folded). shifted tag s) (sym chain.2) ∙ shifted_chain tag chain.0 ∙ ap (λ (ds : List ℕ). after_all tag ds) same.1

-- so where a write that is heard of nowhere ends is before low, or no reaction reads the port
pub heard_before : (program : Parts) → IsSound program → (heard : List Shift) → AreFurthest program (λ p. is_read program p ≡ true) heard → (origin : ℕ) (f : Shift) (tag low : Tag) → slice_get heard origin ≡ Some f → Before (shifted tag (f.time, f.steps)) low → (p : ℕ) (delays : List ℕ) → Origin program p origin delays → Before (after_all tag delays) low ⊎ (is_read program p ≡ false)
heard_before program sound heard are origin f tag low there before p delays way = go (is_read program p) refl
  where
    go : (b : Bool) → is_read program p ≡ b → Before (after_all tag delays) low ⊎ (is_read program p ≡ false)
    go true e = inl (leads_before program sound (λ k. is_read program k ≡ true) heard are origin f tag low there before p delays e way)
    go false e = inr e

-- so each way of a write arrives before low, or no reaction reads the port; that is said only where the time is over
pub leads_of : (program : Parts) → IsSound program → (ways : CarriedWrites) → AreWaysOfWrites program ways → (over : Bool) (P Q : Type 0) → (over ≡ true → P × Q) → (list : List Shift) → list ≡ cond over ways.heard.items ways.furthest.items → (origin : ℕ) (f : Shift) (tag low : Tag) → slice_get list origin ≡ Some f → Before (shifted tag (f.time, f.steps)) low → (p : ℕ) (delays : List ℕ) → Origin program p origin delays → Before (after_all tag delays) low ⊎ (is_read program p ≡ false) × P × Q
leads_of program sound ways are true P Q apart list same origin f tag low there before p delays way = go (heard_before program sound ways.heard.items are.heard origin f tag low (subst (λ (xs : List Shift). slice_get xs origin ≡ Some f) same there) before p delays way)
  where
    go : Before (after_all tag delays) low ⊎ (is_read program p ≡ false) → Before (after_all tag delays) low ⊎ (is_read program p ≡ false) × P × Q
    go (inl b) = inl b
    go (inr e) = inr (e, (apart refl).0, (apart refl).1)
leads_of program sound ways are false P Q apart list same origin f tag low there before p delays way = inl (leads_before program sound (λ k. Unit {0}) ways.furthest.items are.furthest origin f tag low (subst (λ (xs : List Shift). slice_get xs origin ≡ Some f) same there) before p delays tt way)

pub ways_long : (program : Parts) (ways : CarriedWrites) → AreWaysOfWrites program ways → (over : Bool) (list : List Shift) → list ≡ cond over ways.heard.items ways.furthest.items → length list ≡ length program.ports
ways_long program ways are true list same = ap (λ (xs : List Shift). length xs) same ∙ are.heard.as_long
ways_long program ways are false list same = ap (λ (xs : List Shift). length xs) same ∙ are.furthest.as_long

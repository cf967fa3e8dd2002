-- What several workers find together is what one finds.
use Rattle.std.proofs.Common.{◌≡◌, ℕ, zero, suc, ◌+◌, ◌/◌, ◌<◌, ◌≤◌, ◌⊎◌, inl, inr, List, length, refl, sym, ap, ◌∙◌, subst, arith, Option, Some, None, Result, Ok, IfOk, slice_get}
use Rattle.std.proofs.{Math.Nat.{zero-mul, zero-div, mul-div_cancel_left}, lemmas.{Option.get_or_from_slice_get, Bool.cases_lt}}
use native.Mathlib.Decide.{ℕ_discrete}
use Rattle.lft_tag.specs.declared.{Tag.Tag, NoMemory.NoMemory}
use Rattle.lft_model.{specs.{declared.breach.Breach.Breach, Breaches.TagOrder}, proofs.Places.slice_get_within}
use Rattle.lft_rows.specs.{declared.slices.Slice.Slice, Presence.Traces.TraceParts}
use Rattle.lft_check.specs.inner.{Verdicts.{LeastOf, BreachIn}, Least.IsLesser, Shares.{share_start, IsLeastOfShare, AreShares, IsFound, AreOk}}
use Rattle.lft_check.proofs.Whole.{Under, under_first, under_second, pick, least_under, order_trans}

-- each place below the start of the k-th share is in the share of one of the first k workers
in_share : (n workers place k : ℕ) → place < share_start n workers k → (j : ℕ) × (j < k) × (share_start n workers j ≤ place) × (place < share_start n workers (j + 1))
in_share n workers place zero l = let e : share_start n workers 0 ≡ 0 = ap (λ z. z / workers) (zero-mul n) ∙ zero-div workers in let m : place < 0 = subst (λ z. place < z) e l in absurd (omega arith)
in_share n workers place (suc k) l = elim (cases_lt place (share_start n workers k)) [
  | inl m ↦ let x = in_share n workers place k m in (x.0, (let y : x.0 < k = x.1 in omega arith), x.2, x.3)
  | inr m ↦ let e : suc k ≡ k + 1 = omega arith in (k, omega arith, m, subst (λ z. place < share_start n workers z) e l)
]

least_from : (P : Breach → Type 0) (r : Option Breach) → ((b : Breach) → r ≡ Some b → P b) → ((c : Breach) → P c → Under r c) → LeastOf P r
least_from P None sound covered = λ c p. covered c p
least_from P (Some b) sound covered = (sound b refl, λ c p. covered c p)

-- the least of what one worker more found
module _ (found : List (Result (Option Breach) NoMemory)) (k : ℕ) (o : Option Breach) (is_next : slice_get found k ≡ Some (Ok o)) where
  pub next_found : (a r : Option Breach) → LeastOf (IsFound found k) a → IsLesser a o r → LeastOf (IsFound found (k + 1)) r
  next_found a r least lesser = least_from (IsFound found (k + 1)) r sound covered
    where
      sound : (b : Breach) → r ≡ Some b → IsFound found (k + 1) b
      sound b e = by (pick a o r lesser)
        where
          by : (r ≡ a) ⊎ (r ≡ o) → IsFound found (k + 1) b
          by (inl q) = let x = (subst (λ z. LeastOf (IsFound found k) z) (sym q ∙ e) least).0 in (x.0, (let y : x.0 < k = x.1 in omega arith), x.2)
          by (inr q) = (k, omega arith, is_next ∙ ap (λ (z : Option Breach). let x : Result (Option Breach) NoMemory = Ok z in Some x) (sym q ∙ e))

      covered : (c : Breach) → IsFound found (k + 1) c → Under r c
      covered c x = by (ℕ_discrete x.0 k)
        where
          by : Dec (x.0 ≡ k) → Under r c
          by (yes q) =
              let both : Some (Ok o) ≡ Some (Ok (Some c)) = sym is_next ∙ ap (λ i. slice_get found i) (sym q) ∙ x.2 in
              let same : o ≡ Some c = cc in
              under_second a o r lesser c (subst (λ z. Under z c) (sym same) (inr (refl, inr (refl, omega arith))))
          by (no q) = let l : x.0 < k + 1 = x.1 in under_first a o r lesser c (least_under (IsFound found k) a least c (x.0, omega arith, x.2))

  pub next_ok : AreOk found k → AreOk found (k + 1)
  next_ok all j l = by (ℕ_discrete j k)
    where
      by : Dec (j ≡ k) → (o : Option Breach) × (slice_get found j ≡ Some (Ok o))
      by (yes q) = (o, ap (λ i. slice_get found i) q ∙ is_next)
      by (no q) = all j (omega arith)

module _ (cut : TraceParts) (slices : List Slice) (bound : Option Tag) (workers : ℕ) (some : 0 < workers) (found : List (Result (Option Breach) NoMemory)) (shares : AreShares cut slices bound workers found) where
  share_of : (k : ℕ) (o : Option Breach) → k < workers → slice_get found k ≡ Some (Ok o) → IsLeastOfShare cut slices bound workers k o
  share_of k o l e = subst (λ r. IfOk r (IsLeastOfShare cut slices bound workers k)) (get_or_from_slice_get found k (Ok o) (Ok o) e) (shares.each k (Ok o) l)

  abbrev Inside : ℕ → Breach → Type 0
  Inside k = BreachIn cut slices bound (share_start (length slices) workers k) (share_start (length slices) workers (k + 1))

  -- a breach in a share is one of all
  widen : (k : ℕ) (c : Breach) → Inside k c → BreachIn cut slices bound 0 (length slices) c
  widen k c x = record { place = x.place; slice = x.slice; is_slice = x.is_slice; from = omega arith; before = slice_get_within slices x.place x.slice x.is_slice; within = x.within; breach = x.breach }

  -- each breach is one in a share, and so comes after one that was found, or is of its rank
  covering : AreOk found workers → (c : Breach) → BreachIn cut slices bound 0 (length slices) c → (b : Breach) × IsFound found workers b × TagOrder b c
  covering all c x = by (all share.0 share.1)
    where
      whole : share_start (length slices) workers workers ≡ length slices
      whole = mul-div_cancel_left (length slices) some

      share : (j : ℕ) × (j < workers) × (share_start (length slices) workers j ≤ x.place) × (x.place < share_start (length slices) workers (j + 1))
      share = in_share (length slices) workers x.place workers (subst (λ z. x.place < z) (sym whole) x.before)

      inside : BreachIn cut slices bound (share_start (length slices) workers share.0) (share_start (length slices) workers (share.0 + 1)) c
      inside = record { place = x.place; slice = x.slice; is_slice = x.is_slice; from = share.2; before = share.3; within = x.within; breach = x.breach }

      by : (o : Option Breach) × (slice_get found share.0 ≡ Some (Ok o)) → (b : Breach) × IsFound found workers b × TagOrder b c
      by (None, e) = absurd (share_of share.0 None share.1 e c inside)
      by (Some b, e) = (b, (share.0, share.1, e), (share_of share.0 (Some b) share.1 e).1 c inside)

  least_of_those : AreOk found workers → (o : Option Breach) → LeastOf (IsFound found workers) o → LeastOf (BreachIn cut slices bound 0 (length slices)) o
  least_of_those all None h = λ c x. let y = covering all c x in h y.0 y.1
  least_of_those all (Some b) h = (widen h.0.0 b (share_of h.0.0 (Some b) h.0.1 h.0.2).0, λ c x. let y = covering all c x in order_trans b y.0 c (h.1 y.0 y.1) y.2)

  pub least_of_all : (o : Option Breach) → AreOk found (length found) → LeastOf (IsFound found (length found)) o → LeastOf (BreachIn cut slices bound 0 (length slices)) o
  least_of_all o all h = least_of_those (subst (λ n. AreOk found n) shares.count all) o (subst (λ n. LeastOf (IsFound found n) o) shares.count h)

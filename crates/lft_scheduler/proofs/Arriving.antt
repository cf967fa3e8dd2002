-- Lists by origin on the way to those of a program.
use Rattle.std.proofs.Common.{◌≡◌, ◌⊎◌, inl, inr, ◌<◌, ◌≤◌, ◌+◌, ℕ, List, [], ◌∷◌, ◌++◌, length, sym, ap, ◌∙◌, subst, arith, Some, slice_get, slice_set, slice_index_or, Contains, AllPairs}
use Rattle.std.proofs.lemmas.{Bool.cases_eq, Option.slice_get_within, List.{Elements.Contains-get_or, Quantifiers.all_pairs_push}}
use Rattle.lft_ir.specs.{Parts.Parts, declared.parts.Port.Port as PortOf}
use Rattle.lft_lists.proofs.Places.{length_written, same_at}
use Rattle.lft_queue.specs.inner.Coming.NumberLists.{list_at}
use Rattle.lft_scheduler.specs.inner.{Listeners.{IsArrival, IsWatched, AreArrivals}, Filling.AreArriving}
use Rattle.lft_scheduler.proofs.{Pushing.{list_pushed, same_pushed, at_unwritten}, Filling.empty_contained}

-- no port yet
pub arriving_start : (program : Parts) (lists : List (List ℕ)) → length lists ≡ length program.ports → ((n : ℕ) → list_at lists n ≡ []) → AreArriving program 0 lists
arriving_start program lists as_long empty = record {
  as_long = as_long;
  each = λ o p. (λ c. absurd (empty_contained (list_at lists o) p (empty o) c), λ w. (let l : p < 0 = w.0 in absurd (omega arith)));
  ascends = λ o i j d l m. (let e : length (list_at lists o) ≡ 0 = ap length (empty o) in absurd (omega arith));
}

-- one watched port more
module _ (program : Parts) (n : ℕ) (port : PortOf) (here : slice_get program.ports n ≡ Some port) (lists : List (List ℕ)) (before : AreArriving program n lists) (within : port.origin < length lists) (watched : IsWatched program n) where
  pub arriving_more : AreArriving program (n + 1) (slice_set lists port.origin (list_at lists port.origin ++ n ∷ []))
  arriving_more = record { as_long = length_written lists port.origin (list_at lists port.origin ++ n ∷ []) ∙ before.as_long; each = λ o p. (λ c. to o p ((list_pushed lists port.origin n within o p).0 c), λ w. (list_pushed lists port.origin n within o p).1 (from o p w (cases_eq p n))); ascends = λ o. ascends o (cases_eq o port.origin) }
    where
      to : (o p : ℕ) → Contains (list_at lists o) p ⊎ ((o ≡ port.origin) × (p ≡ n)) → (p < n + 1) × IsArrival program o p × IsWatched program p
      to o p (inl c) = let w = (before.each o p).0 c in let l : p < n = w.0 in (omega arith, w.1, w.2)
      to o p (inr w) = let e : p ≡ n = w.1 in (omega arith, (port, subst (λ (i : ℕ). slice_get program.ports i ≡ Some port) (sym w.1) here, sym w.0), subst (λ (i : ℕ). IsWatched program i) (sym w.1) watched)

      from : (o p : ℕ) → (p < n + 1) × IsArrival program o p × IsWatched program p → (p ≡ n) ⊎ (p ≡ n → ⊥) → Contains (list_at lists o) p ⊎ ((o ≡ port.origin) × (p ≡ n))
      from o p w (inl e) = inr (sym w.1.2 ∙ ap (λ (z : PortOf). z.origin) (same_at program.ports p n w.1.0 port w.1.1 here e), e)
      from o p w (inr d) = inl ((before.each o p).1 ((let l : p < n + 1 = w.0 in omega arith), w.1, w.2))

      ascends : (o : ℕ) → (o ≡ port.origin) ⊎ (o ≡ port.origin → ⊥) → AllPairs (λ p q. p < q) (list_at (slice_set lists port.origin (list_at lists port.origin ++ n ∷ [])) o)
      ascends o (inl e) = subst (λ (xs : List ℕ). AllPairs (λ p q. p < q) xs) (sym (same_pushed lists port.origin n within o e)) (all_pairs_push (λ p q. p < q) (list_at lists o) n (before.ascends o) (λ k d l. ((before.each o (slice_index_or (list_at lists o) k d)).0 (Contains-get_or (list_at lists o) k d l)).0))
      ascends o (inr f) = subst (λ (xs : List ℕ). AllPairs (λ p q. p < q) xs) (sym (at_unwritten lists port.origin o (list_at lists port.origin ++ n ∷ []) f)) (before.ascends o)

-- a port that isn't watched
pub arriving_same : (program : Parts) (n : ℕ) (lists : List (List ℕ)) → AreArriving program n lists → ¬ IsWatched program n → AreArriving program (n + 1) lists
arriving_same program n lists before not = record { as_long = before.as_long; each = λ o p. (λ c. (let w = (before.each o p).0 c in let l : p < n = w.0 in (omega arith, w.1, w.2)), λ w. from o p w (cases_eq p n)); ascends = before.ascends }
  where
    from : (o p : ℕ) → (p < n + 1) × IsArrival program o p × IsWatched program p → (p ≡ n) ⊎ (p ≡ n → ⊥) → Contains (list_at lists o) p
    from o p w (inl e) = absurd (not (subst (λ (i : ℕ). IsWatched program i) e w.2))
    from o p w (inr d) = (before.each o p).1 ((let l : p < n + 1 = w.0 in omega arith), w.1, w.2)

-- all ports
pub all_arriving : (program : Parts) (n : ℕ) (lists : List (List ℕ)) → length program.ports ≤ n → AreArriving program n lists → AreArrivals program lists
all_arriving program n lists enough is = record { each = λ o p. (λ c. (let k = (is.each o p).0 c in (k.1, k.2)), λ w. (is.each o p).1 ((let l : p < length program.ports = slice_get_within program.ports p w.0.0 w.0.1 in omega arith), w.0, w.1)); once = λ o i j d l m e. (let z : slice_index_or (list_at lists o) i d < slice_index_or (list_at lists o) j d = is.ascends o i j d l m in omega (arith, e)) }

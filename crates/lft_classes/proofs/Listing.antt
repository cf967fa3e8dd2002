-- In which order a walk lists, and the bases of a reactor.
use Rattle.std.proofs.Common.{◌≡◌, ℕ, zero, suc, ◌≤◌, ◌⊎◌, inl, inr, Bool, true, List, [], ◌∷◌, ◌++◌, Option, Some, None, drop, filter_map, reverse, slice_get, refl, sym, ap, subst, ◌∙◌, arith}
use Rattle.std.{specs.{List.cons_option, Option.option_and_then}, proofs.lemmas.List.reverse-append}
use Rattle.lft_lists.proofs.Places.{get_last, get_push_cases}
use Rattle.lft_classes.specs.declared.{scopes.{Class.Class, ReactorNames.ReactorNames}, walk.Visit.Visit}
use Rattle.lft_classes.specs.inner.{Chains.{base_in, base_of, bases_from, bases_in, extended_reactor}, Scopes.class_at}
use Rattle.lft_classes.specs.inner.Walks.{EndsIn, Has, Lists, again, new, no_more}
use Rattle.lft_classes.proofs.Walking.{same_last}

-- one that stands already adds nothing
stands : (ways : ℕ → List ℕ) (before todo after : List ℕ) → Lists ways before todo after → (x : ℕ) (xs : List ℕ) → todo ≡ x ∷ xs → Has before x → Lists ways before xs after
stands ways _ _ _ (no_more before) x xs e has = absurd (cc)
stands ways _ _ _ (again before after y ys had rest) x xs e has = let same : ys ≡ xs = cc in subst (λ zs. Lists ways before zs after) same rest
stands ways _ _ _ (new before inner after y ys none first rest) x xs e has = let same : x ≡ y = cc in absurd (none (subst (Has before) same has))

-- nor do several
stand : (ways : ℕ → List ℕ) (before after xs passed : List ℕ) → ((r : ℕ) → Has passed r → Has before r) → Lists ways before xs after → Lists ways before (passed ++ xs) after
stand ways before after xs [] known rest = rest
stand ways before after xs (y ∷ ys) known rest = again before after y (ys ++ xs) (known y (0, refl)) (stand ways before after xs ys (λ r h. known r (suc h.0, h.1)) rest)

module _ (from : ℕ → ℕ → List ℕ) where
  -- nothing is listed yet
  pub begun_ordered : (first : ℕ) (listed : List ℕ) (path : List Visit) → listed ≡ [] → path ≡ record { node = first; next = 0 } ∷ [] → (list : List ℕ) → EndsIn from listed (reverse path) list → Lists (λ r. from r 0) [] (first ∷ []) list
  begun_ordered first listed path empty start list ends =
      let one = subst (λ p. EndsIn from [] (reverse p) list) start (subst (λ l. EndsIn from l (reverse path) list) empty ends) in
      subst (Lists (λ r. from r 0) [] (first ∷ [])) one.2 (new [] one.0 (one.0 ++ first ∷ []) first [] (λ h. absurd (let e = h.1 in cc)) one.1 (no_more (one.0 ++ first ∷ [])))

  -- the last one of the path comes first
  turned : (front : List Visit) (v : Visit) (listed list : List ℕ) → EndsIn from listed (v ∷ reverse front) list → EndsIn from listed (reverse (front ++ v ∷ [])) list
  turned front v listed list ends = subst (λ p. EndsIn from listed p list) (sym (reverse-append front (v ∷ []))) ends

  turned_back : (front : List Visit) (v : Visit) (listed list : List ℕ) → EndsIn from listed (reverse (front ++ v ∷ [])) list → EndsIn from listed (v ∷ reverse front) list
  turned_back front v listed list ends = subst (λ p. EndsIn from listed p list) (reverse-append front (v ∷ [])) ends

  -- it leads to no more
  pub ended_ordered : (front : List Visit) (v : Visit) (listed list : List ℕ) → from v.node v.next ≡ [] → EndsIn from (listed ++ v.node ∷ []) (reverse front) list → EndsIn from listed (reverse (front ++ v ∷ [])) list
  ended_ordered front v listed list none ends = turned front v listed list (listed, subst (λ xs. Lists (λ r. from r 0) listed xs listed) (sym none) (no_more listed), ends)

  -- it goes on to a place
  pub moved_ordered : (front : List Visit) (v w : Visit) (listed list passed : List ℕ) → w.node ≡ v.node → from v.node v.next ≡ passed ++ from v.node w.next → ((r : ℕ) → Has passed r → Has listed r) → EndsIn from listed (reverse (front ++ w ∷ [])) list → EndsIn from listed (reverse (front ++ v ∷ [])) list
  moved_ordered front v w listed list passed same is known ends =
      let e = turned_back front w listed list ends in
      let rest = stand (λ r. from r 0) listed e.0 (from v.node w.next) passed known (subst (λ n. Lists (λ r. from r 0) listed (from n w.next) e.0) same e.1) in
      turned front v listed list (e.0, subst (λ xs. Lists (λ r. from r 0) listed xs e.0) (sym is) rest, subst (λ n. EndsIn from (e.0 ++ n ∷ []) (reverse front) list) same e.2)

  -- the same as the code has it
  pub ended_as_ordered : (path rest : List Visit) (top : Visit) (listed longer list : List ℕ) → path ≡ rest ++ top ∷ [] → longer ≡ listed ++ top.node ∷ [] → (v : Visit) × ((front : List Visit) × (path ≡ front ++ v ∷ [])) × (from v.node v.next ≡ []) → EndsIn from longer (reverse rest) list → EndsIn from listed (reverse path) list
  ended_as_ordered path rest top listed longer list popped pushed ends now =
      let same : ends.0 ≡ top = same_last ends.1.0 rest ends.0 top (sym ends.1.1 ∙ popped) in
      let none : from top.node top.next ≡ [] = subst (λ (v : Visit). from v.node v.next ≡ []) same ends.2 in
      subst (λ p. EndsIn from listed (reverse p) list) (sym popped) (ended_ordered rest top listed list none (subst (λ l. EndsIn from l (reverse rest) list) pushed now))

  pub moved_as_ordered : (path rest after : List Visit) (top fresh : Visit) (number : ℕ) (listed list : List ℕ) (done : ℕ → Bool) → path ≡ rest ++ top ∷ [] → fresh ≡ record { node = top.node; next = number } → after ≡ rest ++ fresh ∷ [] → ((r : ℕ) → done r ≡ true → Has listed r) → (v : Visit) × ((front : List Visit) × (path ≡ front ++ v ∷ [])) × ((passed : List ℕ) × (from v.node v.next ≡ passed ++ from v.node number) × ((r : ℕ) → Has passed r → done r ≡ true)) → EndsIn from listed (reverse after) list → EndsIn from listed (reverse path) list
  moved_as_ordered path rest after top fresh number listed list done popped is pushed known passes now =
      let same : passes.0 ≡ top = same_last passes.1.0 rest passes.0 top (sym passes.1.1 ∙ popped) in
      let split : from top.node top.next ≡ passes.2.0 ++ from top.node number = subst (λ (v : Visit). from v.node v.next ≡ passes.2.0 ++ from v.node number) same passes.2.1 in
      let onward : Visit = record { node = top.node; next = number } in
      let all : after ≡ rest ++ onward ∷ [] = pushed ∙ ap (λ w. rest ++ w ∷ []) is in
      subst (λ p. EndsIn from listed (reverse p) list) (sym popped) (moved_ordered rest top onward listed list passes.2.0 refl split (λ r h. known r (passes.2.2 r h)) (subst (λ p. EndsIn from listed (reverse p) list) all now))

  -- one that isn't listed is gone over next
  pub entered_ordered : (front : List Visit) (v : Visit) (listed list more : List ℕ) (node : ℕ) → from v.node v.next ≡ node ∷ more → (Has listed node → ⊥) → EndsIn from listed (reverse ((front ++ v ∷ []) ++ record { node = node; next = 0 } ∷ [])) list → EndsIn from listed (reverse (front ++ v ∷ [])) list
  entered_ordered front v listed list more node leads left ends =
      let inner = turned_back (front ++ v ∷ []) (record { node = node; next = 0 }) listed list ends in
      let outer = turned_back front v (inner.0 ++ node ∷ []) list inner.2 in
      let rest = stands (λ r. from r 0) (inner.0 ++ node ∷ []) (from v.node v.next) outer.0 outer.1 node more leads (_, get_last inner.0 node) in
      turned front v listed list (outer.0, subst (λ xs. Lists (λ r. from r 0) listed xs outer.0) (sym leads) (new listed inner.0 outer.0 node more left inner.1 rest), outer.2)

  -- at the end all is listed
  pub over_ordered : (first : ℕ) (listed : List ℕ) (path : List Visit) → path ≡ [] → ((list : List ℕ) → EndsIn from listed (reverse path) list → Lists (λ r. from r 0) [] (first ∷ []) list) → Lists (λ r. from r 0) [] (first ∷ []) listed
  over_ordered first listed path empty is = is listed (subst (λ p. EndsIn from listed (reverse p) listed) (sym empty) refl)

-- ---- the bases of a reactor

one_more : {X : Type 0} (f : X → Option ℕ) (xs : List X) (k b : ℕ) → option_and_then f (slice_get xs k) ≡ Some b → filter_map f (drop k xs) ≡ b ∷ filter_map f (drop (suc k) xs)
one_more f [] k b e = absurd (cc)
one_more f (x ∷ xs) zero b e = ap (λ o. cons_option o (filter_map f xs)) e
one_more f (x ∷ xs) (suc k) b e = one_more f xs k b e

none_more : {X : Type 0} (f : X → Option ℕ) (xs : List X) (k : ℕ) → ((j : ℕ) → k ≤ j → option_and_then f (slice_get xs j) ≡ None) → filter_map f (drop k xs) ≡ []
none_more f [] zero none = refl
none_more f [] (suc k) none = refl
none_more f (x ∷ xs) zero none = ap (λ o. cons_option o (filter_map f xs)) (none 0 (omega arith)) ∙ none_more f xs 0 (λ j le. none (suc j) (omega arith))
none_more f (x ∷ xs) (suc k) none = none_more f xs k (λ j le. none (suc j) (omega (arith, le)))

-- there is a base at the place
pub base_more : (scopes : ReactorNames) (r k b : ℕ) → base_of scopes r k ≡ Some b → bases_from scopes r k ≡ b ∷ bases_from scopes r (suc k)
base_more scopes r k b e = of (class_at scopes r) e
  where
    of : (o : Option Class) → option_and_then (λ c. base_in scopes c k) o ≡ Some b → bases_in scopes o k ≡ b ∷ bases_in scopes o (suc k)
    of None e = absurd (cc)
    of (Some c) e = one_more (extended_reactor scopes c.file) c.reactor.now.bases.items k b e

-- there is none from the place on
pub no_base : (scopes : ReactorNames) (r k : ℕ) → ((j : ℕ) → k ≤ j → base_of scopes r j ≡ None) → bases_from scopes r k ≡ []
no_base scopes r k none = of (class_at scopes r) none
  where
    of : (o : Option Class) → ((j : ℕ) → k ≤ j → option_and_then (λ c. base_in scopes c j) o ≡ None) → bases_in scopes o k ≡ []
    of None none = refl
    of (Some c) none = none_more (extended_reactor scopes c.file) c.reactor.now.bases.items k none

-- what a reactor extends up to the next place is done
pub one_done : (scopes : ReactorNames) (done : ℕ → Bool) (r k number b : ℕ) → base_of scopes r k ≡ Some b → done b ≡ true → (number ≡ suc k) ⊎ (number ≡ k) → (passed : List ℕ) × (bases_from scopes r k ≡ passed ++ bases_from scopes r number) × ((x : ℕ) → Has passed x → done x ≡ true)
one_done scopes done r k number b at is (inl next) = (b ∷ [], base_more scopes r k b at ∙ ap (λ n. b ∷ bases_from scopes r n) (sym next), λ x h. (elim (get_push_cases [] b h.0 x h.1) [ inl old ↦ absurd (cc) | inr last ↦ subst (λ y. done y ≡ true) last.1 is ]))
one_done scopes done r k number b at is (inr here) = ([], ap (bases_from scopes r) (sym here), λ x h. absurd (let e = h.1 in cc))

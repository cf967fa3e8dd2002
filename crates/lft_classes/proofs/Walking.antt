-- What a walk keeps.
use Rattle.std.proofs.Common.{◌≡◌, ℕ, suc, ◌+◌, ◌-◌, ◌<◌, ◌≤◌, ◌⊎◌, inl, inr, Bool, true, false, List, [], ◌∷◌, ◌++◌, length, Option, Some, None, IfSome, IfNone, slice_get, refl, sym, ap, subst, ◌∙◌, arith}
use Rattle.std.proofs.lemmas.{Bool.cases_lt, List.length_push, Option.slice_get_within}
use Rattle.lft_lists.proofs.Places.{get_there, get_push, get_last, get_push_cases, same_some, Some_same}
use Rattle.lft_classes.specs.{inner.Walks.{Ways, Has, IsReachable, itself, further, nothing, one, IsList, IsVisitOfNode, Walking}, declared.walk.Visit.Visit}

abbrev at_first : ℕ → Visit
at_first node = record { node = node; next = 0 }

has_push : (xs : List ℕ) (y r : ℕ) → Has xs r → Has (xs ++ y ∷ []) r
has_push xs y r (i, at) = (i, get_push xs y i r at)

has_cases : (xs : List ℕ) (y r : ℕ) → Has (xs ++ y ∷ []) r → Has xs r ⊎ (y ≡ r)
has_cases xs y r (i, at) = elim (get_push_cases xs y i r at) [ inl old ↦ inl (i, old) | inr last ↦ inr last.1 ]

-- the last one of a list is one
pub same_last : (xs ys : List Visit) (x y : Visit) → xs ++ x ∷ [] ≡ ys ++ y ∷ [] → x ≡ y
same_last xs ys x y e =
    let longs : length xs ≡ length ys = (let a = length_push xs x in let b = length_push ys y in let c = ap length e in omega (arith, a, b, c)) in
    let there : slice_get (ys ++ y ∷ []) (length ys) ≡ Some x = subst (λ l. slice_get l (length ys) ≡ Some x) e (subst (λ n. slice_get (xs ++ x ∷ []) n ≡ Some x) longs (get_last xs x)) in
    same_some (slice_get (ys ++ y ∷ []) (length ys)) x y there (get_last ys y)

nothing_there : (r : ℕ) → Has [] r → ⊥
nothing_there r (i, at) = absurd (cc)

-- nothing is listed yet
pub begun : (next : Ways) (first : ℕ) (done met : ℕ → Bool) → ((r : ℕ) → done r ≡ true → ⊥) → met first ≡ true → ((r : ℕ) → met r ≡ true → r ≡ first) → Walking next first [] done met (at_first first ∷ [])
begun next first done met none known alone = record {
  behind = nothing;
  in_list = λ r d. absurd (none r d);
  met_list = λ r h. absurd (nothing_there r h);
  met_path = λ i v at. subst (λ x. met x ≡ true) (node i v at) known;
  left = λ i v at h. nothing_there v.node h;
  apart = λ i j v w a b e. (let p = slice_get_within (at_first first ∷ []) i v a in let q = slice_get_within (at_first first ∷ []) j w b in omega (arith, p, q));
  passed = λ i v at k r lt is. (let e : v.next ≡ 0 = ap (λ x. x.next) (only i v at) in absurd (omega (arith, e, lt)));
  reached_list = λ r h. absurd (nothing_there r h);
  reached_path = λ i v at. subst (IsReachable next first) (node i v at) itself;
  held = inr (0, (at_first first, refl, refl));
  met_is = λ r m. inr (0, (at_first first, refl, sym (alone r m)));
  leads = λ i j v w a b le. subst (λ n. IsReachable next n w.node) (node i v a) (subst (IsReachable next first) (node j w b) itself);
}
  where
    only : (i : ℕ) (v : Visit) → slice_get (at_first first ∷ []) i ≡ Some v → v ≡ at_first first
    only i v at = elim (get_push_cases [] (at_first first) i v at) [ inl old ↦ absurd (cc) | inr last ↦ sym last.1 ]

    node : (i : ℕ) (v : Visit) → slice_get (at_first first ∷ []) i ≡ Some v → first ≡ v.node
    node i v at = sym (ap (λ x. x.node) (only i v at))

-- the last one of the path leads to no more
module _ (next : Ways) (first : ℕ) (listed : List ℕ) (done met more : ℕ → Bool) (front : List Visit) (top : Visit) (s : Walking next first listed done met (front ++ top ∷ [])) (none : (k : ℕ) → top.next ≤ k → next top.node k ≡ None) (only : (r : ℕ) → more r ≡ true → (r ≡ top.node) ⊎ (done r ≡ true)) (kept : (r : ℕ) → done r ≡ true → more r ≡ true) (known : more top.node ≡ true) where
  top_at : slice_get (front ++ top ∷ []) (length front) ≡ Some top
  top_at = get_last front top

  older : (i : ℕ) (v : Visit) → slice_get front i ≡ Some v → slice_get (front ++ top ∷ []) i ≡ Some v
  older i v at = get_push front top i v at

  all_listed : (k r : ℕ) → next top.node k ≡ Some r → Has listed r
  all_listed k r is = elim (cases_lt k top.next) [
    | inl l ↦ s.passed (length front) top top_at k r l is
    | inr g ↦ (let h : top.next ≤ k = omega (arith, g) in let e : None ≡ Some r = sym (none k h) ∙ is in absurd (cc))
  ]

  still_left : (i : ℕ) (v : Visit) → slice_get front i ≡ Some v → Has (listed ++ top.node ∷ []) v.node → ⊥
  still_left i v at h = elim (has_cases listed top.node v.node h) [
    | inl o ↦ s.left i v (older i v at) o
    | inr e ↦ (let same = s.apart (length front) i top v top_at (older i v at) e in let l = slice_get_within front i v at in absurd (omega (arith, same, l)))
  ]

  still_held : Has (listed ++ top.node ∷ []) first ⊎ ((i : ℕ) × IsVisitOfNode front i first)
  still_held = elim s.held [
    | inl h ↦ inl (has_push listed top.node first h)
    | inr on ↦ (elim (get_push_cases front top on.0 on.1.0 on.1.1) [
      | inl old ↦ inr (on.0, (on.1.0, old, on.1.2))
      | inr last ↦ inl (length listed, get_last listed top.node ∙ ap Some (ap (λ x. x.node) last.1 ∙ on.1.2))
    ])
  ]

  still_met : (r : ℕ) → met r ≡ true → (more r ≡ true) ⊎ ((i : ℕ) × IsVisitOfNode front i r)
  still_met r m = elim (s.met_is r m) [
    | inl d ↦ inl (kept r d)
    | inr on ↦ (elim (get_push_cases front top on.0 on.1.0 on.1.1) [
      | inl old ↦ inr (on.0, (on.1.0, old, on.1.2))
      | inr last ↦ inl (subst (λ x. more x ≡ true) (ap (λ x. x.node) last.1 ∙ on.1.2) known)
    ])
  ]

  pub ended : Walking next first (listed ++ top.node ∷ []) more met front
  ended = record {
    behind = one listed top.node s.behind (s.left (length front) top top_at) all_listed;
    in_list = λ r d. elim (only r d) [ inl e ↦ (length listed, get_last listed top.node ∙ ap Some (sym e)) | inr o ↦ has_push listed top.node r (s.in_list r o) ];
    met_list = λ r h. elim (has_cases listed top.node r h) [ inl o ↦ s.met_list r o | inr e ↦ subst (λ x. met x ≡ true) e (s.met_path (length front) top top_at) ];
    met_path = λ i v at. s.met_path i v (older i v at);
    left = still_left;
    apart = λ i j v w a b e. s.apart i j v w (older i v a) (older j w b) e;
    passed = λ i v at k r lt is. has_push listed top.node r (s.passed i v (older i v at) k r lt is);
    reached_list = λ r h. elim (has_cases listed top.node r h) [ inl o ↦ s.reached_list r o | inr e ↦ subst (IsReachable next first) e (s.reached_path (length front) top top_at) ];
    reached_path = λ i v at. s.reached_path i v (older i v at);
    held = still_held;
    met_is = still_met;
    leads = λ i j v w a b le. s.leads i j v w (older i v a) (older j w b) le;
  }

-- the last one of the path goes on to a place
module _ (next : Ways) (first : ℕ) (listed : List ℕ) (done met : ℕ → Bool) (front : List Visit) (top again : Visit) (s : Walking next first listed done met (front ++ top ∷ [])) (same : again.node ≡ top.node) (between : (k r : ℕ) → top.next ≤ k → k < again.next → next top.node k ≡ Some r → done r ≡ true) where
  before : (i : ℕ) (v : Visit) → slice_get (front ++ again ∷ []) i ≡ Some v → (w : Visit) × (slice_get (front ++ top ∷ []) i ≡ Some w) × (w.node ≡ v.node)
  before i v at = elim (get_push_cases front again i v at) [
    | inl old ↦ (v, get_push front top i v old, refl)
    | inr last ↦ (top, ap (slice_get (front ++ top ∷ [])) last.0 ∙ get_last front top, sym same ∙ ap (λ x. x.node) last.1)
  ]

  all_passed : (i : ℕ) (v : Visit) → slice_get (front ++ again ∷ []) i ≡ Some v → (k r : ℕ) → k < v.next → next v.node k ≡ Some r → Has listed r
  all_passed i v at k r lt is = elim (get_push_cases front again i v at) [
    | inl old ↦ s.passed i v (get_push front top i v old) k r lt is
    | inr last ↦ (
        let there : next top.node k ≡ Some r = ap (λ n. next n k) (sym same ∙ ap (λ x. x.node) last.1) ∙ is in
        let low : k < again.next = (let e : again.next ≡ v.next = ap (λ x. x.next) last.1 in omega (arith, lt, e)) in
        elim (cases_lt k top.next) [
          | inl l ↦ s.passed (length front) top (get_last front top) k r l there
          | inr g ↦ (let h : top.next ≤ k = omega (arith, g) in s.in_list r (between k r h low there))
        ]
        )
  ]

  pub moved : Walking next first listed done met (front ++ again ∷ [])
  moved = record {
    behind = s.behind;
    in_list = s.in_list;
    met_list = s.met_list;
    met_path = λ i v at. (let w = before i v at in subst (λ x. met x ≡ true) w.2 (s.met_path i w.0 w.1));
    left = λ i v at h. (let w = before i v at in s.left i w.0 w.1 (subst (Has listed) (sym w.2) h));
    apart = λ i j v u a b e. (let w = before i v a in let x = before j u b in s.apart i j w.0 x.0 w.1 x.1 (w.2 ∙ e ∙ sym x.2));
    passed = all_passed;
    reached_list = s.reached_list;
    reached_path = λ i v at. (let w = before i v at in subst (IsReachable next first) w.2 (s.reached_path i w.0 w.1));
    held = elim s.held [
      | inl h ↦ inl h
      | inr on ↦ (elim (get_push_cases front top on.0 on.1.0 on.1.1) [
        | inl old ↦ inr (on.0, (on.1.0, get_push front again on.0 on.1.0 old, on.1.2))
        | inr last ↦ inr (length front, (again, get_last front again, same ∙ ap (λ x. x.node) last.1 ∙ on.1.2))
      ])
    ];
    met_is = λ r m. elim (s.met_is r m) [
      | inl d ↦ inl d
      | inr on ↦ (elim (get_push_cases front top on.0 on.1.0 on.1.1) [
        | inl old ↦ inr (on.0, (on.1.0, get_push front again on.0 on.1.0 old, on.1.2))
        | inr last ↦ inr (length front, (again, get_last front again, same ∙ ap (λ x. x.node) last.1 ∙ on.1.2))
      ])
    ];
    leads = λ i j v u a b le. (let w = before i v a in let x = before j u b in subst (λ n. IsReachable next n u.node) w.2 (subst (IsReachable next w.0.node) x.2 (s.leads i j w.0 x.0 w.1 x.1 le)));
  }

-- one that wasn't met is gone over next
module _ (next : Ways) (first : ℕ) (listed : List ℕ) (done met more : ℕ → Bool) (path : List Visit) (node : ℕ) (s : Walking next first listed done met path) (new : met node ≡ false) (reached : IsReachable next first node) (onto : (i : ℕ) (v : Visit) → slice_get path i ≡ Some v → IsReachable next v.node node) (now : more node ≡ true) (kept : (r : ℕ) → met r ≡ true → more r ≡ true) (only : (r : ℕ) → more r ≡ true → (r ≡ node) ⊎ (met r ≡ true)) where
  not_met : (r : ℕ) → node ≡ r → met r ≡ true → ⊥
  not_met r e h = let f : false ≡ true = sym new ∙ ap met e ∙ h in absurd (cc)

  split : (i : ℕ) (v : Visit) → slice_get (path ++ at_first node ∷ []) i ≡ Some v → (slice_get path i ≡ Some v) ⊎ ((i ≡ length path) × (at_first node ≡ v))
  split i v at = get_push_cases path (at_first node) i v at

  new_apart : (i j : ℕ) (v w : Visit) → slice_get (path ++ at_first node ∷ []) i ≡ Some v → slice_get (path ++ at_first node ∷ []) j ≡ Some w → v.node ≡ w.node → i ≡ j
  new_apart i j v w a b e = elim (split i v a) [
    | inl old ↦ (elim (split j w b) [
      | inl older ↦ s.apart i j v w old older e
      | inr last ↦ absurd (not_met v.node (ap (λ x. x.node) last.1 ∙ sym e) (s.met_path i v old))
    ])
    | inr last ↦ (elim (split j w b) [
      | inl older ↦ absurd (not_met w.node (ap (λ x. x.node) last.1 ∙ e) (s.met_path j w older))
      | inr also ↦ last.0 ∙ sym also.0
    ])
  ]

  new_met : (r : ℕ) → more r ≡ true → (done r ≡ true) ⊎ ((i : ℕ) × IsVisitOfNode (path ++ at_first node ∷ []) i r)
  new_met r m = elim (only r m) [
    | inl e ↦ inr (length path, (at_first node, get_last path (at_first node), sym e))
    | inr o ↦ (elim (s.met_is r o) [
      | inl d ↦ inl d
      | inr on ↦ inr (on.0, (on.1.0, get_push path (at_first node) on.0 on.1.0 on.1.1, on.1.2))
    ])
  ]

  new_leads : (i j : ℕ) (v w : Visit) → slice_get (path ++ at_first node ∷ []) i ≡ Some v → slice_get (path ++ at_first node ∷ []) j ≡ Some w → i ≤ j → IsReachable next v.node w.node
  new_leads i j v w a b le = elim (split i v a) [
    | inl old ↦ (elim (split j w b) [
      | inl older ↦ s.leads i j v w old older le
      | inr last ↦ subst (IsReachable next v.node) (ap (λ x. x.node) last.1) (onto i v old)
    ])
    | inr last ↦ (elim (split j w b) [
      | inl older ↦ absurd (let l = slice_get_within path j w older in let e = last.0 in omega (arith, l, e, le))
      | inr also ↦ subst (λ n. IsReachable next n w.node) (ap (λ x. x.node) last.1) (subst (IsReachable next node) (ap (λ x. x.node) also.1) itself)
    ])
  ]

  pub entered : Walking next first listed done more (path ++ at_first node ∷ [])
  entered = record {
    behind = s.behind;
    in_list = s.in_list;
    met_list = λ r h. kept r (s.met_list r h);
    met_path = λ i v at. elim (split i v at) [ inl old ↦ kept v.node (s.met_path i v old) | inr last ↦ subst (λ x. more x ≡ true) (ap (λ x. x.node) last.1) now ];
    left = λ i v at h. elim (split i v at) [ inl old ↦ s.left i v old h | inr last ↦ not_met v.node (ap (λ x. x.node) last.1) (s.met_list v.node h) ];
    apart = new_apart;
    passed = λ i v at k r lt is. elim (split i v at) [ inl old ↦ s.passed i v old k r lt is | inr last ↦ absurd (let e : 0 ≡ v.next = ap (λ x. x.next) last.1 in omega (arith, lt, e)) ];
    reached_list = s.reached_list;
    reached_path = λ i v at. elim (split i v at) [ inl old ↦ s.reached_path i v old | inr last ↦ subst (IsReachable next first) (ap (λ x. x.node) last.1) reached ];
    held = elim s.held [ inl h ↦ inl h | inr on ↦ inr (on.0, (on.1.0, get_push path (at_first node) on.0 on.1.0 on.1.1, on.1.2)) ];
    met_is = new_met;
    leads = new_leads;
  }

-- at the end all is listed
pub over : (next : Ways) (first : ℕ) (listed : List ℕ) (done met : ℕ → Bool) (path : List Visit) → path ≡ [] → Walking next first listed done met path → IsList next first listed
over next first listed done met path empty s = record {
  behind = s.behind;
  has_first = elim s.held [ inl h ↦ h | inr on ↦ (let e : None ≡ Some on.1.0 = ap (λ l. slice_get l on.0) (sym empty) ∙ on.1.1 in absurd (cc)) ];
  reached = s.reached_list;
}

-- ---- the same as the code has it

pub some_of : {X : Type 0} (P : X → Type 0) (o : Option X) → ((x : X) → o ≡ Some x → P x) → IfSome o P
some_of P None f = tt
some_of P (Some x) f = f x refl

pub none_of : {X : Type 0} (P : Type 0) (o : Option X) → (o ≡ None → P) → IfNone o P
none_of P None f = f refl
none_of P (Some x) f = tt

pub last_some : (xs : List Visit) (v : Visit) → slice_get xs (length xs - 1) ≡ Some v → (front : List Visit) × (xs ≡ front ++ v ∷ [])
last_some [] v at = absurd (cc)
last_some (x ∷ []) v at = let e : x ≡ v = Some_same x v at in ([], ap (λ y. y ∷ []) e)
last_some (x ∷ y ∷ ys) v at =
    let e : length (x ∷ y ∷ ys) - 1 ≡ suc (length (y ∷ ys) - 1) = omega arith in
    let rest = last_some (y ∷ ys) v (subst (λ n. slice_get (x ∷ y ∷ ys) n ≡ Some v) e at) in
    (x ∷ rest.0, ap (λ l. x ∷ l) rest.1)

pub last_none : (xs : List Visit) → slice_get xs (length xs - 1) ≡ None → xs ≡ []
last_none [] at = refl
last_none (x ∷ xs) at =
    let within : length (x ∷ xs) - 1 < length (x ∷ xs) = omega arith in
    let there = get_there (x ∷ xs) (length (x ∷ xs) - 1) within in
    let e : None ≡ Some there.0 = sym at ∙ there.1 in
    absurd (cc)

pub begun_as : (next : Ways) (first : ℕ) (listed : List ℕ) (done met : ℕ → Bool) (path : List Visit) → listed ≡ [] → path ≡ record { node = first; next = 0 } ∷ [] → ((r : ℕ) → done r ≡ true → ⊥) → met first ≡ true → ((r : ℕ) → met r ≡ true → r ≡ first) → Walking next first listed done met path
begun_as next first listed done met path empty start none known alone = subst (λ l. Walking next first l done met path) (sym empty) (subst (Walking next first [] done met) (sym start) (begun next first done met none known alone))

pub ended_as : (next : Ways) (first : ℕ) (listed : List ℕ) (done met more : ℕ → Bool) (path rest : List Visit) (top : Visit) (longer : List ℕ) → (v : Visit) × ((front : List Visit) × (path ≡ front ++ v ∷ [])) × ((k : ℕ) → v.next ≤ k → next v.node k ≡ None) → Walking next first listed done met path → path ≡ rest ++ top ∷ [] → longer ≡ listed ++ top.node ∷ [] → ((r : ℕ) → more r ≡ true → (r ≡ top.node) ⊎ (done r ≡ true)) → ((r : ℕ) → done r ≡ true → more r ≡ true) → more top.node ≡ true → Walking next first longer more met rest
ended_as next first listed done met more path rest top longer ends s popped pushed only kept known =
    let same : ends.0 ≡ top = same_last ends.1.0 rest ends.0 top (sym ends.1.1 ∙ popped) in
    let none : (k : ℕ) → top.next ≤ k → next top.node k ≡ None = subst (λ (w : Visit). (k : ℕ) → w.next ≤ k → next w.node k ≡ None) same ends.2 in
    subst (λ l. Walking next first l more met rest) (sym pushed) (ended next first listed done met more rest top (subst (Walking next first listed done met) popped s) none only kept known)

pub moved_as : (next : Ways) (first : ℕ) (listed : List ℕ) (done met : ℕ → Bool) (path rest now : List Visit) (top again : Visit) (number : ℕ) → (v : Visit) × ((front : List Visit) × (path ≡ front ++ v ∷ [])) × ((k r : ℕ) → v.next ≤ k → k < number → next v.node k ≡ Some r → done r ≡ true) → Walking next first listed done met path → path ≡ rest ++ top ∷ [] → again ≡ record { node = top.node; next = number } → now ≡ rest ++ again ∷ [] → Walking next first listed done met now
moved_as next first listed done met path rest now top again number passes s popped new pushed =
    let same : passes.0 ≡ top = same_last passes.1.0 rest passes.0 top (sym passes.1.1 ∙ popped) in
    let between : (k r : ℕ) → top.next ≤ k → k < number → next top.node k ≡ Some r → done r ≡ true = subst (λ (w : Visit). (k r : ℕ) → w.next ≤ k → k < number → next w.node k ≡ Some r → done r ≡ true) same passes.2 in
    let onward : Visit = record { node = top.node; next = number } in
    let all : now ≡ rest ++ onward ∷ [] = pushed ∙ ap (λ w. rest ++ w ∷ []) new in
    subst (Walking next first listed done met) (sym all) (moved next first listed done met rest top onward (subst (Walking next first listed done met) popped s) refl between)

pub entered_as : (next : Ways) (first : ℕ) (listed : List ℕ) (done met more : ℕ → Bool) (path now : List Visit) (node : ℕ) → (v : Visit) × ((front : List Visit) × (path ≡ front ++ v ∷ [])) × ((k : ℕ) × (next v.node k ≡ Some node)) → Walking next first listed done met path → met node ≡ false → now ≡ path ++ record { node = node; next = 0 } ∷ [] → more node ≡ true → ((r : ℕ) → met r ≡ true → more r ≡ true) → ((r : ℕ) → more r ≡ true → (r ≡ node) ⊎ (met r ≡ true)) → Walking next first listed done more now
entered_as next first listed done met more path now node leads s new pushed known kept only =
    let at : slice_get path (length leads.1.0) ≡ Some leads.0 = ap (λ l. slice_get l (length leads.1.0)) leads.1.1 ∙ get_last leads.1.0 leads.0 in
    let reached : IsReachable next first node = further leads.2.0 (s.reached_path (length leads.1.0) leads.0 at) leads.2.1 in
    let onto : (i : ℕ) (v : Visit) → slice_get path i ≡ Some v → IsReachable next v.node node = λ i v is. (
    let within = slice_get_within path i v is in
    let long = length_push leads.1.0 leads.0 in
    let same = ap length leads.1.1 in
    further leads.2.0 (s.leads i (length leads.1.0) v leads.0 is at (omega (arith, within, long, same))) leads.2.1) in
    subst (Walking next first listed done more) (sym pushed) (entered next first listed done met more path node s new reached onto known kept only)

-- what it leads to at one place is done
pub one_passed : (next : Ways) (done : ℕ → Bool) (node from to base : ℕ) → next node from ≡ Some base → done base ≡ true → to ≤ from + 1 → (k r : ℕ) → from ≤ k → k < to → next node k ≡ Some r → done r ≡ true
one_passed next done node from to base at is le k r low high there =
    let e : k ≡ from = omega (arith, le, low, high) in
    let same : base ≡ r = same_some (next node from) base r at (subst (λ j. next node j ≡ Some r) e there) in
    subst (λ x. done x ≡ true) same is

-- and before that it leads to nothing
pub gap_passed : (next : Ways) (done : ℕ → Bool) (node from member to inner : ℕ) → next node member ≡ Some inner → ((k : ℕ) → from ≤ k → k < member → next node k ≡ None) → done inner ≡ true → to ≤ member + 1 → (k r : ℕ) → from ≤ k → k < to → next node k ≡ Some r → done r ≡ true
gap_passed next done node from member to inner at gap is le k r low high there = elim (cases_lt k member) [
  | inl l ↦ (let e : None ≡ Some r = sym (gap k low l) ∙ there in absurd (cc))
  | inr g ↦ one_passed next done node member to inner at is le k r g high there
]

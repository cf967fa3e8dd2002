-- What a walk keeps.
use Rattle.std.proofs.Common.{◌≡◌, ◌≢◌, ℕ, zero, suc, ◌+◌, ◌-◌, ◌<◌, ◌⊎◌, inl, inr, List, [], ◌∷◌, ◌++◌, length, drop, replicate, refl, sym, ap, ◌∙◌, subst, arith, Some, slice_get, slice_set, length-append}
use Rattle.std.proofs.lemmas.{Bool.cases_lt, Option.slice_get_within, List.length-drop}
use Rattle.lft_lists.specs.{Walks.{StandOnce, IsCircle}, inner.Walking.{IsOrder, Leads, Has, IsPassed, WaysPassed, IsWalk, news, one_new}}
use Rattle.lft_lists.specs.declared.walk.Stage.{Stage, TheVariants.{New, Open, Done}}
use Rattle.lft_lists.proofs.Places.{get_there, get_written, get_unwritten, get_write_cases, length_written, get_push, get_last, get_push_cases, get_same, length_same, same_some}

news_written : (ms : List Stage) (i : ℕ) (x y : Stage) → slice_get ms i ≡ Some x → news (slice_set ms i y) + one_new x ≡ news ms + one_new y
news_written [] i x y at = absurd (cc)
news_written (m ∷ ms) zero x y at = let e : one_new m ≡ one_new x = (let f : m ≡ x = cc in ap one_new f) in omega arith
news_written (m ∷ ms) (suc i) x y at = let rest = news_written ms i x y at in omega arith

news_same : (n : ℕ) → news (replicate n New) ≡ n
news_same zero = refl
news_same (suc n) = let rest = news_same n in omega arith

news_none : (ms : List Stage) → ((i : ℕ) → slice_get ms i ≢ Some New) → news ms ≡ 0
news_none [] none = refl
news_none (New ∷ ms) none = absurd (none 0 refl)
news_none (Open ∷ ms) none = let rest = news_none ms (λ i. none (suc i)) in omega arith
news_none (Done ∷ ms) none = let rest = news_none ms (λ i. none (suc i)) in omega arith

length_push : {X : Type 0} (xs : List X) (x : X) → length (xs ++ x ∷ []) ≡ length xs + 1
length_push xs x = length-append xs (x ∷ [])

-- what is passed stays so, where a mark that isn't done is written
passed_written : (ms : List Stage) (i : ℕ) (x y : Stage) (b : ℕ) → slice_get ms i ≡ Some x → x ≢ Done → IsPassed ms b → IsPassed (slice_set ms i y) b
passed_written ms i x y b at left passed m there = elim (get_write_cases ms i b y m (slice_get_within ms i x at) there) [
  | inl q ↦ absurd (left (passed x (subst (λ k. slice_get ms k ≡ Some x) (sym q.0) at)))
  | inr q ↦ passed m q.1
]

-- one that isn't passed has a mark, and is open where it isn't new
pub left_within : (ms : List Stage) (b : ℕ) → (IsPassed ms b → ⊥) → b < length ms
left_within ms b left = elim (cases_lt b (length ms)) [ inl l ↦ l | inr g ↦ absurd (left (λ m at. absurd (let l = slice_get_within ms b m at in omega arith))) ]

pub left_is_open : (ms : List Stage) (b : ℕ) (m : Stage) → slice_get ms b ≡ Some m → (IsPassed ms b → ⊥) → m ≢ New → slice_get ms b ≡ Some Open
left_is_open ms b New at left n = absurd (n refl)
left_is_open ms b Open at left n = at
left_is_open ms b Done at left n = absurd (left (λ m there. same_some (slice_get ms b) m Done there at))

once_push : (xs : List ℕ) (x : ℕ) → StandOnce xs → ((i : ℕ) → slice_get xs i ≢ Some x) → StandOnce (xs ++ x ∷ [])
once_push xs x once new i j a f g = by (get_push_cases xs x i a f) (get_push_cases xs x j a g)
  where
    by : (slice_get xs i ≡ Some a) ⊎ ((i ≡ length xs) × (x ≡ a)) → (slice_get xs j ≡ Some a) ⊎ ((j ≡ length xs) × (x ≡ a)) → i ≡ j
    by (inl p) (inl q) = once i j a p q
    by (inl p) (inr q) = absurd (new i (p ∙ ap Some (sym q.1)))
    by (inr p) (inl q) = absurd (new j (q ∙ ap Some (sym p.1)))
    by (inr p) (inr q) = p.0 ∙ sym q.0

-- what each leads to, it leads to by other ways too
pub circle_along : (S T : ℕ → ℕ → Type 0) (circle : List ℕ) → ((a b : ℕ) → S a b → T a b) → IsCircle S circle → IsCircle T circle
circle_along S T circle f w = record { some = w.some; steps = λ i a b e g. f a b (w.steps i a b e g); closes = λ i a b e g h. f a b (w.closes i a b e g h); once = w.once }

-- what stands on a circle leads to something
pub circle_leads : (S : ℕ → ℕ → Type 0) (circle : List ℕ) → IsCircle S circle → (i a : ℕ) → slice_get circle i ≡ Some a → (b : ℕ) × S a b
circle_leads S circle is i a at = elim (cases_lt (i + 1) (length circle)) [
  | inl l ↦ (let b = get_there circle (i + 1) l in (b.0, is.steps i a b.0 at b.1))
  | inr g ↦ (let l = slice_get_within circle i a at in let b = get_there circle 0 is.some in (b.0, is.closes i a b.0 (omega arith) at b.1))
]

-- from the last number of a circle back to itself, where what leads on leads on further
pub circle_back : (S T : ℕ → ℕ → Type 0) (circle : List ℕ) → ((a b : ℕ) → S a b → T a b) → ((a b c : ℕ) → T a b → S b c → T a c) → IsCircle S circle → (last : ℕ) → slice_get circle (length circle - 1) ≡ Some last → T last last
circle_back S T circle one more is last at = to (length circle - 1) last at
  where
    to : (i b : ℕ) → slice_get circle i ≡ Some b → T last b
    to zero b f = one last b (is.closes (length circle - 1) last b (let some = is.some in omega arith) at f)
    to (suc i) b f =
        let l = slice_get_within circle (suc i) b f in
        let m = get_there circle i (omega arith) in
        let e : suc i ≡ i + 1 = omega arith in
        more last m.0 b (to i m.0 m.1) (is.steps i m.0 b m.1 (subst (λ k. slice_get circle k ≡ Some b) e f))

module _ (ways : ℕ → List ℕ) where
  -- what the last number of a path leads to
  pub last_leads : (path : List ℕ) (top x : ℕ) → Leads ways top x → (i a : ℕ) → i + 1 ≡ length (path ++ top ∷ []) → slice_get (path ++ top ∷ []) i ≡ Some a → Leads ways a x
  last_leads path top x leads i a last at = elim (get_push_cases path top i a at) [
    | inl old ↦ absurd (let l = slice_get_within path i a old in let p = length_push path top in omega arith)
    | inr here ↦ subst (λ k. Leads ways k x) here.1 leads
  ]

  -- before the walk
  pub walk_start : (n : ℕ) → IsWalk ways 0 (replicate n New) (replicate n 0) [] []
  walk_start n = record {
    as_long = length_same n 0 ∙ sym (length_same n New);
    counted = (let c = news_same n in let l = length_same n New in omega arith);
    looked = λ a lt. absurd (omega arith);
    on_path = λ a at. absurd (let e : Open ≡ New = get_same n a New Open at in cc);
    in_order = λ a at. absurd (let e : Done ≡ New = get_same n a New Done at in cc);
    are_open = λ i a at. absurd (cc);
    are_done = λ i a at. absurd (cc);
    passed = λ a m at k b low lt is. absurd (let e : m ≡ 0 = get_same n a 0 m at in omega arith);
    path_once = λ i j a f g. absurd (cc);
    links = λ i a b f g. absurd (cc);
    order_once = λ i j a f g. absurd (cc);
    behind = λ i a b f g lt. absurd (cc);
  }

  -- at its end
  pub walk_end : (marks : List Stage) (nexts order : List ℕ) → IsWalk ways (length marks) marks nexts [] order → IsOrder (Leads ways) (length marks) order
  walk_end marks nexts order w = record {
    as_long = (let c = w.counted in let n = news_none marks none in omega arith);
    within = λ i a at. slice_get_within marks a Done (w.are_done i a at);
    all = λ a lt. (let m = get_there marks a lt in all a m.0 m.1);
    once = w.order_once;
    behind = w.behind;
  }
    where
      none : (i : ℕ) → slice_get marks i ≢ Some New
      none i at = w.looked i (slice_get_within marks i New at) at

      all : (a : ℕ) (m : Stage) → slice_get marks a ≡ Some m → Has order a
      all a New at = absurd (none a at)
      all a Open at = absurd (let p = w.on_path a at in let q = p.1 in cc)
      all a Done at = w.in_order a at

  module _ (start : ℕ) (marks : List Stage) (nexts path order : List ℕ) where
    -- a new number, to which the last one of the path leads, comes behind it
    pub walk_enter : (x limit : ℕ) → ((a : ℕ) → a < limit → (a < start) ⊎ (a ≡ x)) → IsWalk ways start marks nexts path order → slice_get marks x ≡ Some New → ((i a : ℕ) → i + 1 ≡ length path → slice_get path i ≡ Some a → Leads ways a x) → IsWalk ways limit (slice_set marks x Open) nexts (path ++ x ∷ []) order
    walk_enter x limit below w new leads = record {
      as_long = w.as_long ∙ sym (length_written marks x Open);
      counted = (let c = w.counted in let n = news_written marks x New Open new in let l = length_written marks x Open in let p = length_push path x in omega arith);
      looked = λ a lt at. elim (cases a New at) [ inl q ↦ absurd (let e = q.1 in cc) | inr q ↦ elim (below a lt) [ inl l ↦ w.looked a l q.1 | inr e ↦ q.0 e ] ];
      on_path = λ a at. elim (cases a Open at) [ inl q ↦ (length path, get_last path x ∙ ap Some (sym q.0)) | inr q ↦ (let p = w.on_path a q.1 in (p.0, get_push path x p.0 a p.1)) ];
      in_order = λ a at. elim (cases a Done at) [ inl q ↦ absurd (let e = q.1 in cc) | inr q ↦ w.in_order a q.1 ];
      are_open = λ i a at. elim (get_push_cases path x i a at) [
        | inl old ↦ get_unwritten marks x a Open (λ e. open_not_new a (w.are_open i a old) (ap (slice_get marks) e ∙ new)) ∙ w.are_open i a old
        | inr last ↦ subst (λ k. slice_get (slice_set marks x Open) k ≡ Some Open) last.1 (get_written marks x Open within)
      ];
      are_done = λ i a at. get_unwritten marks x a Open (λ e. done_not_new a (w.are_done i a at) (ap (slice_get marks) e ∙ new)) ∙ w.are_done i a at;
      passed = λ a n at k b low lt is. passed_written marks x New Open b new (λ e. cc) (w.passed a n at k b low lt is);
      path_once = once_push path x w.path_once (λ i at. open_not_new x (w.are_open i x at) new);
      links = λ i a b f g. elim (get_push_cases path x (i + 1) b g) [
        | inl old ↦ w.links i a b (earlier i a f (let l = slice_get_within path (i + 1) b old in omega arith)) old
        | inr last ↦ subst (Leads ways a) last.1 (leads i a last.0 (earlier i a f (let l = last.0 in omega arith)))
      ];
      order_once = w.order_once;
      behind = λ i a b f g lt. w.behind i a b f g (let l = length_written marks x Open in omega arith);
    }
      where
        within : x < length marks
        within = slice_get_within marks x New new

        cases : (a : ℕ) (m : Stage) → slice_get (slice_set marks x Open) a ≡ Some m → ((a ≡ x) × (Open ≡ m)) ⊎ ((a ≢ x) × (slice_get marks a ≡ Some m))
        cases a m at = get_write_cases marks x a Open m within at

        open_not_new : (a : ℕ) → slice_get marks a ≡ Some Open → slice_get marks a ≡ Some New → ⊥
        open_not_new a f g = cc

        done_not_new : (a : ℕ) → slice_get marks a ≡ Some Done → slice_get marks a ≡ Some New → ⊥
        done_not_new a f g = cc

        earlier : (i a : ℕ) → slice_get (path ++ x ∷ []) i ≡ Some a → i < length path → slice_get path i ≡ Some a
        earlier i a f lt = elim (get_push_cases path x i a f) [ inl old ↦ old | inr last ↦ absurd (let e = last.0 in omega arith) ]

  module _ (start : ℕ) (marks : List Stage) (nexts path order : List ℕ) (top : ℕ) (w : IsWalk ways start marks nexts (path ++ top ∷ []) order) where
    top_open : slice_get marks top ≡ Some Open
    top_open = w.are_open (length path) top (get_last path top)

    pub top_within : top < length nexts
    top_within = let l = w.as_long in let m = slice_get_within marks top Open top_open in omega arith

    -- the last number of the path leads to no more
    pub walk_done : (from : ℕ) → slice_get nexts top ≡ Some from → WaysPassed marks (ways top) from (length (ways top)) → IsWalk ways start (slice_set marks top Done) nexts path (order ++ top ∷ [])
    walk_done from next rest = record {
      as_long = w.as_long ∙ sym (length_written marks top Done);
      counted = (let c = w.counted in let n = news_written marks top Open Done top_open in let l = length_written marks top Done in let p = length_push path top in let o = length_push order top in omega arith);
      looked = λ a lt at. elim (cases a New at) [ inl q ↦ absurd (let e = q.1 in cc) | inr q ↦ w.looked a lt q.1 ];
      on_path = λ a at. elim (cases a Open at) [
        | inl q ↦ absurd (let e = q.1 in cc)
        | inr q ↦ (let p = w.on_path a q.1 in elim (get_push_cases path top p.0 a p.1) [ inl old ↦ (p.0, old) | inr last ↦ absurd (q.0 (sym last.1)) ])
      ];
      in_order = λ a at. elim (cases a Done at) [ inl q ↦ (length order, get_last order top ∙ ap Some (sym q.0)) | inr q ↦ (let p = w.in_order a q.1 in (p.0, get_push order top p.0 a p.1)) ];
      are_open = λ i a at. get_unwritten marks top a Done (λ e. apart i (at ∙ ap Some e)) ∙ w.are_open i a (get_push path top i a at);
      are_done = λ i a at. elim (get_push_cases order top i a at) [
        | inl old ↦ get_unwritten marks top a Done (λ e. not_done i (old ∙ ap Some e)) ∙ w.are_done i a old
        | inr last ↦ subst (λ k. slice_get (slice_set marks top Done) k ≡ Some Done) last.1 (get_written marks top Done within)
      ];
      passed = λ a n at k b low lt is. passed_written marks top Open Done b top_open (λ e. cc) (w.passed a n at k b low lt is);
      path_once = λ i j a f g. w.path_once i j a (get_push path top i a f) (get_push path top j a g);
      links = λ i a b f g. w.links i a b (get_push path top i a f) (get_push path top (i + 1) b g);
      order_once = once_push order top w.order_once not_done;
      behind = λ i a b f g lt. behind i a b g (let l = length_written marks top Done in omega arith) (get_push_cases order top i a f);
    }
      where
        within : top < length marks
        within = slice_get_within marks top Open top_open

        cases : (a : ℕ) (m : Stage) → slice_get (slice_set marks top Done) a ≡ Some m → ((a ≡ top) × (Done ≡ m)) ⊎ ((a ≢ top) × (slice_get marks a ≡ Some m))
        cases a m at = get_write_cases marks top a Done m within at

        apart : (i : ℕ) → slice_get path i ≢ Some top
        apart i at = let e = w.path_once i (length path) top (get_push path top i top at) (get_last path top) in let l = slice_get_within path i top at in absurd (omega arith)

        not_done : (i : ℕ) → slice_get order i ≢ Some top
        not_done i at = let d = w.are_done i top at in let o = top_open in absurd (cc)

        -- what the number leads to is in the order
        passed : (b : ℕ) → Leads ways top b → IsPassed marks b
        passed b (k, is) = elim (cases_lt k from) [ inl l ↦ w.passed top from next k b (omega arith) l is | inr g ↦ rest k b g (slice_get_within (ways top) k b is) is ]

        behind : (i a b : ℕ) → Leads ways a b → b < length marks → (slice_get order i ≡ Some a) ⊎ ((i ≡ length order) × (top ≡ a)) → (j : ℕ) × (j < i) × (slice_get (order ++ top ∷ []) j ≡ Some b)
        behind i a b g lt (inl old) = let j = w.behind i a b old g lt in (j.0, j.1, get_push order top j.0 b j.2)
        behind i a b g lt (inr last) =
            let m = get_there marks b lt in
            let done : m.0 ≡ Done = passed b (subst (λ k. Leads ways k b) (sym last.1) g) m.0 m.1 in
            let j = w.in_order b (m.1 ∙ ap Some done) in
            let l = slice_get_within order j.0 b j.1 in
            let e = last.0 in
            (j.0, omega arith, get_push order top j.0 b j.1)

    -- it leads to one that isn't passed, and to none such before
    pub walk_on : (from place : ℕ) → slice_get nexts top ≡ Some from → WaysPassed marks (ways top) from place → IsWalk ways start marks (slice_set nexts top place) (path ++ top ∷ []) order
    walk_on from place next between = record {
      as_long = length_written nexts top place ∙ w.as_long;
      counted = w.counted;
      looked = w.looked;
      on_path = w.on_path;
      in_order = w.in_order;
      are_open = w.are_open;
      are_done = w.are_done;
      path_once = w.path_once;
      links = w.links;
      order_once = w.order_once;
      behind = w.behind;
      passed = λ a n at. elim (get_write_cases nexts top a place n top_within at) [ inl q ↦ up a n q.0 q.1 | inr q ↦ w.passed a n q.1 ];
    }
      where
        up : (a n : ℕ) → a ≡ top → place ≡ n → WaysPassed marks (ways a) 0 n
        up a n e f k b low lt is =
            let here : slice_get (ways top) k ≡ Some b = subst (λ t. slice_get (ways t) k ≡ Some b) e is in
            elim (cases_lt k from) [ inl l ↦ w.passed top from next k b low l here | inr g ↦ between k b g (omega arith) here ]

    -- it leads to one of the path
    pub walk_circle : (inner n : ℕ) (circle : List ℕ) → Leads ways top inner → slice_get (path ++ top ∷ []) n ≡ Some inner → circle ≡ drop n (path ++ top ∷ []) → IsCircle (Leads ways) circle
    walk_circle inner n circle leads there is = record {
      some = (let l = as_many in let m = inside in omega arith);
      steps = λ i a b f g. w.links (n + i) a b (on_path i a f) (let e : n + (i + 1) ≡ n + i + 1 = omega arith in subst (λ k. slice_get whole k ≡ Some b) e (on_path (i + 1) b g));
      closes = λ i a b last f g. (
          let l = as_many in
          let m = inside in
          let p = length_push path top in
          let e : n + i ≡ length path = omega arith in
          let z : n + 0 ≡ n = omega arith in
          let top_is : top ≡ a = same_some (slice_get whole (length path)) top a (get_last path top) (subst (λ k. slice_get whole k ≡ Some a) e (on_path i a f)) in
          let first_is : inner ≡ b = same_some (slice_get whole n) inner b there (subst (λ k. slice_get whole k ≡ Some b) z (on_path 0 b g)) in
          subst (Leads ways a) first_is (subst (λ k. Leads ways k inner) top_is leads)
          );
      once = λ i j a f g. (let e = w.path_once (n + i) (n + j) a (on_path i a f) (on_path j a g) in omega arith);
    }
      where
        whole : List ℕ
        whole = path ++ top ∷ []

        at_drop : (k : ℕ) (xs : List ℕ) (i : ℕ) → slice_get (drop k xs) i ≡ slice_get xs (k + i)
        at_drop zero xs i = (let e : i ≡ 0 + i = omega arith in ap (slice_get xs) e)
        at_drop (suc k) [] i = refl
        at_drop (suc k) (x ∷ xs) i = at_drop k xs i ∙ (let e : suc k + i ≡ suc (k + i) = omega arith in sym (ap (slice_get (x ∷ xs)) e))

        on_path : (i a : ℕ) → slice_get circle i ≡ Some a → slice_get (path ++ top ∷ []) (n + i) ≡ Some a
        on_path i a f = sym (at_drop n (path ++ top ∷ []) i) ∙ ap (λ l. slice_get l i) (sym is) ∙ f

        as_many : length circle ≡ length (path ++ top ∷ []) - n
        as_many = ap length is ∙ length-drop n (path ++ top ∷ [])

        inside : n < length (path ++ top ∷ [])
        inside = slice_get_within (path ++ top ∷ []) n inner there

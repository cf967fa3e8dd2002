-- What the walk keeps: the stack against the paths yet to come.
use Rattle.std.proofs.Common.{◌≡◌, ℕ, zero, suc, ◌+◌, ◌-◌, ◌<◌, ◌≤◌, ◌⊎◌, inl, inr, List, [], ◌∷◌, ◌++◌, length, refl, sym, ap, ◌∙◌, subst, arith, Option, Some, None, slice_get, append_assoc, length-append, add-one, append-nil}
use Rattle.std.{specs.Option.option_and_then, proofs.lemmas.{Bool.cases_lt, Option.slice_get_within}}
use Rattle.lft_lists.proofs.{Places.{get_there, get_push, get_last, get_push_cases}, Members.{Mem, mem_get, mem_left, mem_right, mem_cases}}
use Rattle.lft_resolve.specs.declared.expansion.walk.{Contents.Contents, Instance.Instance, Frame.Frame}
use Rattle.lft_resolve.specs.{Expansion.Paths.{along, PathBefore, Exists, IsMoreThan}, inner.Expansion.Contents.{contained, IsInstanceAtPath, IsWalk}}
use Rattle.lft_resolve.proofs.ExpansionLemmas.Orders.{Halfway, HasKids, kids, halfway_start, halfway_turn, halfway_end, before_itself, along_kid}
use Rattle.lft_resolve.proofs.ExpansionLemmas.Pairs.{pairs_at}

-- how many instances a reactor has
abbrev pub count_of : Option Contents → ℕ
count_of None = 0
count_of (Some s) = length s.instances.items

abbrev pub count : List Contents → ℕ → ℕ
count table r = count_of (slice_get table r)

pub has_kids : (table : List Contents) (r : ℕ) → HasKids (contained table) r (count table r)
has_kids table r = go (slice_get table r) refl
  where
    go : (o : Option Contents) → slice_get table r ≡ o → HasKids (contained table) r (count table r)
    go None e = record {
      there = λ k l. let f : count table r ≡ 0 = ap count_of e in absurd (omega arith);
      within = λ k y f. let g : contained table r k ≡ None = ap (option_and_then (λ s. slice_get s.instances.items k)) e in cc;
    }
    go (Some s) e = record {
      there = λ k l. let f : count table r ≡ length s.instances.items = ap count_of e in let y = get_there s.instances.items k (omega arith) in (y.0, ap (option_and_then (λ s. slice_get s.instances.items k)) e ∙ y.1);
      within = λ k y f. let g : count table r ≡ length s.instances.items = ap count_of e in let h : slice_get s.instances.items k ≡ Some y = sym (ap (option_and_then (λ s. slice_get s.instances.items k)) e) ∙ f in let l = slice_get_within s.instances.items k y h in omega arith;
    }

abbrev pub path_of : Option (List ℕ) → List ℕ
path_of None = []
path_of (Some p) = p

-- what an instance on the stack has yet to make
abbrev pub rest_of : List Contents → List (List ℕ) → Frame → List (List ℕ)
rest_of table paths f = kids (path_of (slice_get paths f.number)) f.next (count table f.reactor - f.next)

-- what the stack has yet to make, its top first
abbrev pub pending : List Contents → List (List ℕ) → List Frame → List (List ℕ)
pending table paths [] = []
pending table paths (f ∷ fs) = pending table paths fs ++ rest_of table paths f

abbrev pub IsOpen : List Contents → ℕ → List (List ℕ) → Frame → Type 0
IsOpen table main paths f = (p : List ℕ) × (slice_get paths f.number ≡ Some p) × (along (contained table) main p ≡ Some f.reactor)

pub record Walking (table : List Contents) (main : ℕ) (made : List Instance) (frames : List Frame) : Type 0 where
  pub paths : List (List ℕ)
  pub as_long : length made ≡ length paths
  pub each : (n : ℕ) (m : Instance) (p : List ℕ) → slice_get made n ≡ Some m → slice_get paths n ≡ Some p → IsInstanceAtPath table main paths n m p
  pub are_open : (f : Frame) → Mem f frames → IsOpen table main paths f
  pub halfway : Halfway (contained table) main paths (pending table paths frames)

sub-zero : (n : ℕ) → n - 0 ≡ n
sub-zero n = omega arith

pub pending_push : (table : List Contents) (paths : List (List ℕ)) (fs : List Frame) (f : Frame) → pending table paths (fs ++ f ∷ []) ≡ rest_of table paths f ++ pending table paths fs
pending_push table paths [] f = sym (append-nil (rest_of table paths f))
pending_push table paths (g ∷ fs) f = ap (λ l. l ++ rest_of table paths g) (pending_push table paths fs f) ∙ append_assoc (rest_of table paths f) (pending table paths fs) (rest_of table paths g)

-- a path more changes nothing for the instances on the stack
pub pending_grows : (table : List Contents) (main : ℕ) (paths : List (List ℕ)) (q : List ℕ) (fs : List Frame) → ((f : Frame) → Mem f fs → IsOpen table main paths f) → pending table (paths ++ q ∷ []) fs ≡ pending table paths fs
pending_grows table main paths q [] a = refl
pending_grows table main paths q (f ∷ fs) a =
    let o = a f (inl refl) in
    let e : path_of (slice_get (paths ++ q ∷ []) f.number) ≡ path_of (slice_get paths f.number) = ap path_of (get_push paths q f.number o.0 o.1) ∙ sym (ap path_of o.1) in
    let r : rest_of table (paths ++ q ∷ []) f ≡ rest_of table paths f = ap (λ p. kids p f.next (count table f.reactor - f.next)) e in
    let i : pending table (paths ++ q ∷ []) fs ≡ pending table paths fs = pending_grows table main paths q fs (λ g m. a g (inr m)) in
    cc

abbrev pub root_instance : ℕ → Instance
root_instance main = record { reactor = main; parent = 0; place = 0 }

abbrev pub root_frame : ℕ → Frame
root_frame main = record { number = 0; reactor = main; next = 0 }

pub walking_start : (table : List Contents) (main : ℕ) → Walking table main (root_instance main ∷ []) (root_frame main ∷ [])
walking_start table main = record {
  paths = [] ∷ [];
  as_long = refl;
  each = λ n m p a b. at n m p a b;
  are_open = λ f m. elim m [ inl e ↦ ([], ap (λ g. slice_get ([] ∷ []) g.number) (sym e), ap (λ g. Some g.reactor) e) | inr z ↦ absurd z ];
  halfway = subst (λ l. Halfway (contained table) main ([] ∷ []) l) (append-nil (kids [] 0 (count table main)) ∙ ap (kids [] 0) (sym (sub-zero (count table main)))) (halfway_turn (contained table) main main [] [] [] (count table main) (halfway_start (contained table) main) refl (has_kids table main));
}
  where
    at : (n : ℕ) (m : Instance) (p : List ℕ) → slice_get (root_instance main ∷ []) n ≡ Some m → slice_get ([] ∷ []) n ≡ Some p → IsInstanceAtPath table main ([] ∷ []) n m p
    at zero m p a b = let e : root_instance main ≡ m = cc in let f : [] ≡ p = cc in record { leads = subst (λ w. along (contained table) main p ≡ Some w.reactor) e (ap (along (contained table) main) (sym f)); first = λ z. sym f; later = λ l. absurd (omega arith) }
    at (suc n) m p a b = absurd (cc)

-- the top has made all of its own
pub walking_pop : (table : List Contents) (main : ℕ) (made : List Instance) (fs : List Frame) (f : Frame) → Walking table main made (fs ++ f ∷ []) → contained table f.reactor f.next ≡ None → Walking table main made fs
walking_pop table main made fs f w e = record {
  paths = w.paths;
  as_long = w.as_long;
  each = w.each;
  are_open = λ g m. w.are_open g (mem_left g fs (f ∷ []) m);
  halfway = subst (λ l. Halfway (contained table) main w.paths l) (pending_push table w.paths fs f ∙ ap (λ n. kids (path_of (slice_get w.paths f.number)) f.next n ++ pending table w.paths fs) none) w.halfway;
}
  where
    ended : (count table f.reactor ≤ f.next)
    ended = elim (cases_lt f.next (count table f.reactor)) [ inl l ↦ (let t = (has_kids table f.reactor).there f.next l in absurd (let z : Some t.0 ≡ None = sym t.1 ∙ e in cc)) | inr g ↦ g ]

    none : count table f.reactor - f.next ≡ 0
    none = omega (arith, ended)

-- the top makes its next one
pub walking_make : (table : List Contents) (main : ℕ) (made : List Instance) (fs : List Frame) (f again inner : Frame) (m : Instance) → Walking table main made (fs ++ f ∷ []) → contained table f.reactor f.next ≡ Some m.reactor → m.parent ≡ f.number → m.place ≡ f.next → again ≡ record { number = f.number; reactor = f.reactor; next = f.next + 1 } → inner ≡ record { number = length made; reactor = m.reactor; next = 0 } → Walking table main (made ++ m ∷ []) ((fs ++ again ∷ []) ++ inner ∷ [])
walking_make table main made fs f again inner m w e parent place again_is inner_is = record {
  paths = paths2;
  as_long = length-append made (m ∷ []) ∙ ap (λ n. n + 1) w.as_long ∙ sym (length-append w.paths (q ∷ []));
  each = λ n x y a b. at n x y (get_push_cases made m n x a) (get_push_cases w.paths q n y b);
  are_open = λ g a. opened g (mem_cases g (fs ++ again ∷ []) (inner ∷ []) a);
  halfway = subst (λ l. Halfway (contained table) main paths2 l) (sym total) turned;
}
  where
    open_f : IsOpen table main w.paths f
    open_f = w.are_open f (mem_right f fs (f ∷ []) (inl refl))

    p : List ℕ
    p = open_f.0

    q : List ℕ
    q = open_f.0 ++ f.next ∷ []

    paths2 : List (List ℕ)
    paths2 = w.paths ++ q ∷ []

    more : f.next < count table f.reactor
    more = (has_kids table f.reactor).within f.next m.reactor e

    n : ℕ
    n = count table f.reactor - (f.next + 1)

    one_more : count table f.reactor - f.next ≡ suc n
    one_more = omega (arith, more)

    leads_q : along (contained table) main q ≡ Some m.reactor
    leads_q = along_kid (contained table) main f.reactor m.reactor p f.next open_f.2 e

    here : rest_of table w.paths f ≡ q ∷ kids p (suc f.next) n
    here = ap (λ k. kids (path_of (slice_get w.paths f.number)) f.next k) one_more ∙ ap (λ o. kids (path_of o) f.next (suc n)) open_f.1

    before : Halfway (contained table) main w.paths (q ∷ (kids p (suc f.next) n ++ pending table w.paths fs))
    before = subst (λ l. Halfway (contained table) main w.paths l) (pending_push table w.paths fs f ∙ ap (λ l. l ++ pending table w.paths fs) here) w.halfway

    turned : Halfway (contained table) main paths2 (kids q 0 (count table m.reactor) ++ (kids p (suc f.next) n ++ pending table w.paths fs))
    turned = halfway_turn (contained table) main m.reactor w.paths (kids p (suc f.next) n ++ pending table w.paths fs) q (count table m.reactor) before leads_q (has_kids table m.reactor)

    number_q : slice_get paths2 (length made) ≡ Some q
    number_q = subst (λ k. slice_get paths2 k ≡ Some q) (sym w.as_long) (get_last w.paths q)

    number_p : slice_get paths2 f.number ≡ Some p
    number_p = get_push w.paths q f.number p open_f.1

    of_inner : rest_of table paths2 inner ≡ kids q 0 (count table m.reactor)
    of_inner = ap (rest_of table paths2) inner_is ∙ ap (λ o. kids (path_of o) 0 (count table m.reactor - 0)) number_q ∙ ap (kids q 0) (sub-zero (count table m.reactor))

    of_again : rest_of table paths2 again ≡ kids p (suc f.next) n
    of_again = ap (rest_of table paths2) again_is ∙ ap (λ o. kids (path_of o) (f.next + 1) n) number_p ∙ ap (λ k. kids p k n) (add-one f.next)

    of_fs : pending table paths2 fs ≡ pending table w.paths fs
    of_fs = pending_grows table main w.paths q fs (λ g a. w.are_open g (mem_left g fs (f ∷ []) a))

    total : pending table paths2 ((fs ++ again ∷ []) ++ inner ∷ []) ≡ kids q 0 (count table m.reactor) ++ (kids p (suc f.next) n ++ pending table w.paths fs)
    total = let a = pending_push table paths2 (fs ++ again ∷ []) inner in let b = pending_push table paths2 fs again in cc (of_inner, of_again, of_fs, a, b)

    opened : (g : Frame) → Mem g (fs ++ again ∷ []) ⊎ Mem g (inner ∷ []) → IsOpen table main paths2 g
    opened g (inr (inl a)) = (q, subst (λ h. slice_get paths2 h.number ≡ Some q) (sym inner_is ∙ a) number_q, subst (λ h. along (contained table) main q ≡ Some h.reactor) (sym inner_is ∙ a) leads_q)
    opened g (inr (inr z)) = absurd z
    opened g (inl a) = of_older g (mem_cases g fs (again ∷ []) a)
      where
        of_older : (g : Frame) → Mem g fs ⊎ Mem g (again ∷ []) → IsOpen table main paths2 g
        of_older g (inl b) = let o = w.are_open g (mem_left g fs (f ∷ []) b) in (o.0, get_push w.paths q g.number o.0 o.1, o.2)
        of_older g (inr (inl b)) = (p, subst (λ h. slice_get paths2 h.number ≡ Some p) (sym again_is ∙ b) number_p, subst (λ h. along (contained table) main p ≡ Some h.reactor) (sym again_is ∙ b) open_f.2)
        of_older g (inr (inr z)) = absurd z

    wider : (k : ℕ) (x : Instance) (y : List ℕ) → IsInstanceAtPath table main w.paths k x y → IsInstanceAtPath table main paths2 k x y
    wider k x y i = record { leads = i.leads; first = i.first; later = λ l. let r = i.later l in (r.0, r.1, get_push w.paths q x.parent r.0 r.2, r.3) }

    new : IsInstanceAtPath table main paths2 (length made) m q
    new = record {
      leads = leads_q;
      first = λ z. let l = slice_get_within w.paths f.number p open_f.1 in let s = w.as_long in absurd (omega arith);
      later = λ l. (p, (let a = slice_get_within w.paths f.number p open_f.1 in let s = w.as_long in omega arith), subst (λ k. slice_get paths2 k ≡ Some p) (sym parent) number_p, ap (λ k. p ++ k ∷ []) place);
    }

    at : (k : ℕ) (x : Instance) (y : List ℕ) → (slice_get made k ≡ Some x) ⊎ ((k ≡ length made) × (m ≡ x)) → (slice_get w.paths k ≡ Some y) ⊎ ((k ≡ length w.paths) × (q ≡ y)) → IsInstanceAtPath table main paths2 k x y
    at k x y (inl a) (inl b) = wider k x y (w.each k x y a b)
    at k x y (inl a) (inr b) = let l = slice_get_within made k x a in let s = w.as_long in let z = b.0 in absurd (omega arith)
    at k x y (inr a) (inl b) = let l = slice_get_within w.paths k y b in let s = w.as_long in let z = a.0 in absurd (omega arith)
    at k x y (inr a) (inr b) = subst (λ v. IsInstanceAtPath table main paths2 k x v) b.1 (subst (λ u. IsInstanceAtPath table main paths2 k u q) a.1 (subst (λ j. IsInstanceAtPath table main paths2 j m q) (sym a.0) new))

pub walking_end : (table : List Contents) (main : ℕ) (made : List Instance) → Walking table main made [] → IsWalk table main made
walking_end table main made w = record { paths = w.paths; in_order = halfway_end (contained table) main w.paths w.halfway; as_long = w.as_long; each = w.each }

-- what is made are as many paths that exist
pub walking_more : (table : List Contents) (main : ℕ) (made : List Instance) (frames : List Frame) (limit : ℕ) → Walking table main made frames → limit < length made → IsMoreThan (Exists (contained table) main) limit
walking_more table main made frames limit w l = record {
  some = w.paths;
  more = let s = w.as_long in omega arith;
  each = λ i x e. w.halfway.made_exist x (mem_get w.paths i x e);
  distinct = λ i j x a b. same i j x a b (cases_lt i j) (cases_lt j i);
}
  where
    same : (i j : ℕ) (x : List ℕ) → slice_get w.paths i ≡ Some x → slice_get w.paths j ≡ Some x → (i < j) ⊎ (j ≤ i) → (j < i) ⊎ (i ≤ j) → i ≡ j
    same i j x a b (inl k) r = absurd (before_itself x (pairs_at PathBefore w.paths w.halfway.order i j x x a b k))
    same i j x a b (inr k) (inl r) = absurd (before_itself x (pairs_at PathBefore w.paths w.halfway.order j i x x b a r))
    same i j x a b (inr k) (inr r) = omega arith

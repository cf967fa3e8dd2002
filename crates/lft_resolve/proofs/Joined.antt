-- What connections join, as lists of joins grow, and where names are lost among them.
use Rattle.std.proofs.Common.{◌≡◌, ℕ, ◌+◌, ◌<◌, zero, suc, min, List, [], ◌∷◌, ◌++◌, map, flat_map, take, length, get_or, Option, None, Any, ◌⊎◌, inl, inr, ⊎_elim, append_assoc, option_to_list, refl, sym, ap, subst, ◌∙◌, arith}
use Rattle.std.specs.List.{AllZip, zip}
use Rattle.lft_resolve.proofs.{Lacking.Any-flat_map, Files.AllZip-last, Somes.{Any-nil, Any-head, Any-tail, Any-cases, Any-right, some_here}}
use Rattle.lft_resolve.specs.Causes.{IsMisplaced, IsMisplacedTime, IsUnknownTime, UnknownName, WrongPlace}
use Rattle.lft_resolve.specs.inner.{Lost.{HasLost, IsLost, IsLostTime, LosesIn}, Sheets.Single}
use Rattle.lft_resolve.specs.{Kinds.{connection_refs, in_role, kind_of, reaction_refs, refs_in, timer_times, times_in}, declared.kinds.Role.Role}
use Rattle.lft_tree.specs.Tree.{ReactorTree, ConnectionTree, RefTree, TimeTree, actions_of, connections_of, instances_of, reactions_of, timers_of}

-- the single connections of two lists of names, seen by view
module _ {A : Type 0} (view : A → RefTree) (delay : Option TimeTree) where
  abbrev pub single : A → A → Single
  single a b = record { from = view a; to = view b; delay = delay }

  abbrev pub singles : List A → List A → List Single
  singles fs ts = map (λ p. record { from = p.0; to = p.1; delay = delay }) (zip (map view fs) (map view ts))

  pub singles_more : (fs ts : List A) (n : ℕ) (a b : A) → n < length fs → n < length ts → ((d : A) → a ≡ get_or fs n d) → ((d : A) → b ≡ get_or ts n d) → take (n + 1) (singles fs ts) ≡ take n (singles fs ts) ++ single a b ∷ []
  singles_more [] ts n a b lt less is same = absurd (omega arith)
  singles_more (x ∷ fs) [] n a b lt less is same = absurd (omega arith)
  singles_more (x ∷ fs) (y ∷ ts) zero a b lt less is same = let e : x ≡ a = sym (is a) in let f : y ≡ b = sym (same b) in ap (λ z. single z y ∷ []) e ∙ ap (λ z. single a z ∷ []) f
  singles_more (x ∷ fs) (y ∷ ts) (suc n) a b lt less is same =
      let next : suc n + 1 ≡ suc (n + 1) = omega arith in
      ap (λ k. take k (singles (x ∷ fs) (y ∷ ts))) next ∙ ap (λ l. single x y ∷ l) (singles_more fs ts n a b (omega arith) (omega arith) is same)

  pub singles_all : (fs ts : List A) (n : ℕ) → n ≡ min (length fs) (length ts) → take n (singles fs ts) ≡ singles fs ts
  singles_all [] ts n is = by n
    where
      by : (n : ℕ) → take n (singles [] ts) ≡ singles [] ts
      by zero = refl
      by (suc n) = refl
  singles_all (x ∷ fs) [] n is = by n
    where
      by : (n : ℕ) → take n (singles (x ∷ fs) []) ≡ singles (x ∷ fs) []
      by zero = refl
      by (suc n) = refl
  singles_all (x ∷ fs) (y ∷ ts) zero is = absurd (omega arith)
  singles_all (x ∷ fs) (y ∷ ts) (suc n) is = ap (λ l. single x y ∷ l) (singles_all fs ts n (omega arith))

-- one more join behind what stood there
pub joined_more : {A B : Type 0} (R : A → B → Type 0) (front so_far next : List A) (x : A) (ys : List B) (y : B) → next ≡ so_far ++ x ∷ [] → AllZip R (front ++ so_far) ys → R x y → AllZip R (front ++ next) (ys ++ y ∷ [])
joined_more R front so_far next x ys y is all one = subst (λ l. AllZip R l (ys ++ y ∷ [])) (append_assoc front so_far (x ∷ []) ∙ ap (λ l. front ++ l) (sym is)) (AllZip-last R (front ++ so_far) ys x y all one)

-- a name that is lost in its role
pub Any-role : (rs : List ReactorTree) (r : ReactorTree) (role : Role) (refs : List RefTree) → Any (λ ref. IsLost rs r (role, ref)) refs → Any (IsLost rs r) (in_role role refs)
Any-role rs r role [] a = absurd (Any-nil (λ ref. IsLost rs r (role, ref)) a)
Any-role rs r role (x ∷ refs) a = ⊎_elim (λ p. Any-head (IsLost rs r) (role, x) (in_role role refs) p) (λ rest. Any-tail (IsLost rs r) (role, x) (in_role role refs) (Any-role rs r role refs rest)) (Any-cases (λ ref. IsLost rs r (role, ref)) x refs a)

-- the element at an index
pub some_at : {A B : Type 0} (view : A → B) (P : B → Type 0) (xs : List A) (n : ℕ) (x : A) → n < length xs → ((d : A) → x ≡ get_or xs n d) → P (view x) → Any P (map view xs)
some_at view P xs n x within is p = some_here view P xs n x within (sym (is x)) p

-- what is lost in a connection is lost in its reactor
pub lost_among : (rs : List ReactorTree) (r : ReactorTree) → Any (LosesIn rs r) (connections_of r) → HasLost rs r
lost_among rs r a = ⊎_elim
    (λ p. inl (Any-right (IsLost rs r) (flat_map reaction_refs (reactions_of r)) (flat_map connection_refs (connections_of r)) (Any-flat_map (IsLost rs r) connection_refs (connections_of r) p)))
    (λ t. inr (Any-right (IsLostTime r) (flat_map timer_times (timers_of r) ++ flat_map (λ a. option_to_list a.min_delay) (actions_of r) ++ flat_map (λ i. map (λ a. a.value) i.given) (instances_of r)) (flat_map (λ c. option_to_list c.delay) (connections_of r)) (Any-flat_map (IsLostTime r) (λ c. option_to_list c.delay) (connections_of r) t)))
    (parted (connections_of r) a)
  where
    parted : (cs : List ConnectionTree) → Any (LosesIn rs r) cs → Any (λ c. Any (IsLost rs r) (connection_refs c)) cs ⊎ Any (λ c. Any (IsLostTime r) (option_to_list c.delay)) cs
    parted cs (k, c, within, is, lost) = ⊎_elim (λ p. inl (k, c, within, is, p)) (λ t. inr (k, c, within, is, t)) lost

-- a reactor in which something is lost is one of cause 6 or 7
pub lost_nowhere : (rs : List ReactorTree) → (UnknownName rs → ⊥) → (WrongPlace rs → ⊥) → Any (HasLost rs) rs → ⊥
unfolding UnknownName WrongPlace
lost_nowhere rs known placed (k, r, within, is, lost) = ⊎_elim (λ refs. by_ref (refs_in r) refs (λ a. known (k, r, within, is, inl a)) (λ a. placed (k, r, within, is, inl a))) (λ times. by_time (times_in r) times (λ a. known (k, r, within, is, inr (inl a))) (λ a. placed (k, r, within, is, inr a))) lost
  where
    by_ref : (refs : List (Role × RefTree)) → Any (IsLost rs r) refs → (Any (λ n. kind_of rs r n.1 ≡ None) refs → ⊥) → (Any (IsMisplaced rs r) refs → ⊥) → ⊥
    by_ref refs (j, n, low, at, one) known placed = ⊎_elim (λ e. known (j, n, low, at, e)) (λ e. placed (j, n, low, at, e)) one

    by_time : (times : List TimeTree) → Any (IsLostTime r) times → (Any (IsUnknownTime r) times → ⊥) → (Any (IsMisplacedTime r) times → ⊥) → ⊥
    by_time times (j, n, low, at, one) known placed = ⊎_elim (λ e. known (j, n, low, at, e)) (λ e. placed (j, n, low, at, e)) one

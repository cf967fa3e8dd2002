-- The full names of a program's things: none stands twice in the list of all, and what the list has at each place.
use Rattle.std.proofs.Common.{◌≡◌, ℕ, ◌+◌, ◌-◌, ◌<◌, ◌^◌, List, [], ◌∷◌, ◌++◌, map, take, drop, length, get_or, slice_get, Some, All, AllPairs, codes, refl, sym, ap, subst, ◌∙◌, arith, ◌⊎◌, ⊎_elim, inl, inr, length-append, length-drop, append_assoc, append-nil}
use Rattle.std.specs.Fmt.{decimal}
use Rattle.std.proofs.lemmas.{Bool.cases_order, Fmt.decimal_injective, Grind.common_steps, List.{map-append, length-map}}
use Rattle.std.proofs.lemmas.Option.{slice_get_within, get_or_from_slice_get}
use Rattle.lft_lists.proofs.{Mapped.mapped_from, Places.{get_left, get_right, get_append_cases}}
use Rattle.lft_ir.{specs.inner.Names.HasNoTwice, proofs.Ranges.slice_get-drop}
use Rattle.lft_program.specs.inner.{Extended.{Ending, dotted, hashed, endings, extended, AreAfter}, FullNames.{members, AreOfProgram, AreFew}}
use Rattle.lft_program.specs.declared.naming.{OwnName.OwnName, PlacedReaction.PlacedReaction}
use Rattle.lft_program.proofs.{Distinct.{main, ArePaths, HasNoTwice-extended}, Extending.{extended-append, length-extended, extended-keeps}}
use Rattle.lft_program.proofs.Separators.{IsEnding, HasNoSeparator-name, HasNoSeparator-decimal}
use Rattle.lft_tree.specs.Identifiers.{IsName}

module _ {X : Type 0} where
  pub all_at : (P : X → Type 0) (xs : List X) → All P xs → (k : ℕ) (x : X) → slice_get xs k ≡ Some x → P x
  all_at P xs all k x at = subst P (get_or_from_slice_get xs k x x at) (all k x (slice_get_within xs k x at))

  pub pairs_at : (R : X → X → Type 0) (xs : List X) → AllPairs R xs → (i j : ℕ) (x y : X) → i < j → slice_get xs i ≡ Some x → slice_get xs j ≡ Some y → R x y
  pairs_at R xs all i j x y low at_x at_y =
      let h = all i j x low (slice_get_within xs j y at_y) in
      let e : get_or xs j x ≡ y = get_or_from_slice_get xs j y x at_y in
      subst (R x) e (subst (λ z. R z (get_or xs j x)) (get_or_from_slice_get xs i x x at_x) h)

  -- where no element is as a later one, two places of elements that are alike are one
  pub one_place : (R : X → X → Type 0) (xs : List X) → AllPairs (λ a b. R a b → ⊥) xs → (i j : ℕ) (x y : X) → slice_get xs i ≡ Some x → slice_get xs j ≡ Some y → R x y → R y x → i ≡ j
  one_place R xs all i j x y at_x at_y alike back =
      ⊎_elim (λ e. e)
      (λ h. ⊎_elim (λ low. absurd (pairs_at (λ a b. R a b → ⊥) xs all i j x y low at_x at_y alike)) (λ low. absurd (pairs_at (λ a b. R a b → ⊥) xs all j i y x low at_y at_x back)) h)
      (cases_order i j)

differ : (a b : ℕ) → a ≡ 46 → b ≡ 35 → a ≡ b → ⊥
differ a b x y same = omega arith

-- the endings that are still to come may be added to the names so far
pub record IsReady (t : List (List ℕ)) (es : List Ending) : Type 0 where
  pub after : AreAfter (length t) es
  pub distinct : HasNoTwice (extended t es)

ready : (front middle back all : List Ending) → all ≡ front ++ (middle ++ back) → ArePaths all → (t : List (List ℕ)) → t ≡ extended main front → IsReady t middle
ready front middle back all parts paths t so_far =
    let long : length t ≡ 1 + length front = ap length so_far ∙ length-extended main front in
    record {
      after = λ k e at.
          let here : slice_get all (length front + k) ≡ Some e = ap (λ l. slice_get l (length front + k)) parts ∙ get_right front (middle ++ back) k ∙ get_left middle back k e at in
          let low = paths.after (length front + k) e here in
          omega arith;
      distinct = λ i j text at_i at_j.
          HasNoTwice-extended all paths i j text (whole i text at_i) (whole j text at_j);
    }
  where
    whole : (i : ℕ) (text : List ℕ) → slice_get (extended t middle) i ≡ Some text → slice_get (extended main all) i ≡ Some text
    whole i text at =
        let e : extended main all ≡ extended (extended t middle) back =
        ap (extended main) parts ∙ extended-append main front (middle ++ back) ∙ sym (ap (λ l. extended l (middle ++ back)) so_far) ∙ extended-append t middle back in
        rw e (extended-keeps (extended t middle) back i text at)

module _ (instances ports actions timers : List OwnName) (reactions : List PlacedReaction) (things : AreOfProgram instances ports actions timers reactions) (few : AreFew instances ports actions timers reactions) where
  long_all : length (members instances ports actions timers) ≡ (length instances - 1) + length (ports ++ actions ++ timers)
  long_all = length-append (drop 1 instances) (ports ++ actions ++ timers) ∙ ap (λ n. n + length (ports ++ actions ++ timers)) (length-drop 1 instances)

  -- an instance stands before what it declares
  pub before_member : (k : ℕ) (d : OwnName) → slice_get (members instances ports actions timers) k ≡ Some d → (d.instance < 1 + k) × (d.instance < length instances)
  before_member k d at = ⊎_elim inner other (get_append_cases (drop 1 instances) (ports ++ actions ++ timers) k d at)
    where
      some : 0 < length instances
      some = things.nested.main

      inner : slice_get (drop 1 instances) k ≡ Some d → (d.instance < 1 + k) × (d.instance < length instances)
      inner here =
          let there = sym (slice_get-drop instances 1 k) ∙ here in
          let low = things.nested.order (1 + k) d there (omega arith) in
          let within = slice_get_within instances (1 + k) d there in
          (low, omega arith)

      other : (j : ℕ) × (k ≡ length (drop 1 instances) + j) × (slice_get (ports ++ actions ++ timers) j ≡ Some d) → (d.instance < 1 + k) × (d.instance < length instances)
      other (j, e, here) =
          let low = all_at (λ x. x.instance < length instances) (ports ++ actions ++ timers) things.declared j d here in
          let front = length-drop 1 instances in
          let main = some in
          (omega arith, low)

  small : (r : PlacedReaction) (k : ℕ) → slice_get reactions k ≡ Some r → r.place + 1 < 2 ^ 64
  small r k at =
      let low = (all_at (λ x. (x.instance < length instances) × (x.place < length reactions)) reactions things.placed k r at).1 in
      let count = few.few_reactions in
      omega arith

  -- where an ending is from
  data_of : (k : ℕ) (e : Ending) → slice_get (endings instances ports actions timers reactions) k ≡ Some e
      → ((d : OwnName) × (slice_get (members instances ports actions timers) k ≡ Some d) × (dotted d ≡ e)) ⊎ ((j : ℕ) × (r : PlacedReaction) × (k ≡ length (members instances ports actions timers) + j) × (slice_get reactions j ≡ Some r) × (hashed r ≡ e))
  data_of k e at =
      ⊎_elim
      (λ h. inl (mapped_from dotted (members instances ports actions timers) k e h))
      (λ h. let from = mapped_from hashed reactions h.0 e h.2 in inr (h.0, from.0, h.1 ∙ ap (λ n. n + h.0) (length-map (members instances ports actions timers) dotted), from.1, from.2))
      (get_append_cases (map dotted (members instances ports actions timers)) (map hashed reactions) k e at)

  after : AreAfter 1 (endings instances ports actions timers reactions)
  after k e at =
      ⊎_elim
      (λ h. let low = (before_member k h.0 h.1).0 in subst (λ x. x.0 < 1 + k) h.2 low)
      (λ h.
      let low = (all_at (λ x. (x.instance < length instances) × (x.place < length reactions)) reactions things.placed h.0 h.1 h.3).0 in
      let long = long_all in
      let place = h.2 in
      let main = things.nested.main in
      let inside : h.1.instance < 1 + k = omega arith in
      subst (λ x. x.0 < 1 + k) h.4 inside)
      (data_of k e at)

  dotted_ends : (k : ℕ) (d : OwnName) → slice_get (members instances ports actions timers) k ≡ Some d → IsEnding (dotted d).1
  dotted_ends k d at = record {
    separator = 46;
    rest = d.name.now;
    whole = refl;
    separates = inl refl;
    last = HasNoSeparator-name d.name.now (all_at (λ x. IsName x.name.now) (members instances ports actions timers) things.identifiers k d at);
  }

  hashed_ends : (k : ℕ) (r : PlacedReaction) → slice_get reactions k ≡ Some r → IsEnding (hashed r).1
  hashed_ends k r at = record {
    separator = 35;
    rest = decimal (r.place + 1);
    whole = refl;
    separates = inr refl;
    last = HasNoSeparator-decimal (r.place + 1) (small r k at);
  }

  same_dotted : (i j : ℕ) (a b : OwnName) → slice_get (members instances ports actions timers) i ≡ Some a → slice_get (members instances ports actions timers) j ≡ Some b → dotted a ≡ dotted b → i ≡ j
  same_dotted i j a b at_a at_b same =
      let instance : a.instance ≡ b.instance = ap (λ (e : Ending). e.0) same in
      let ends : codes "." ++ a.name.now ≡ codes "." ++ b.name.now = ap (λ (e : Ending). e.1) same in
      let name : a.name.now ≡ b.name.now = cc in
      one_place (λ x y. (x.instance ≡ y.instance) × (x.name.now ≡ y.name.now)) (members instances ports actions timers)
      (λ k l d low high both. things.names_once k l d low high both.0 both.1)
      i j a b at_a at_b (instance, name) (sym instance, sym name)

  same_hashed : (i j : ℕ) (a b : PlacedReaction) → slice_get reactions i ≡ Some a → slice_get reactions j ≡ Some b → hashed a ≡ hashed b → i ≡ j
  same_hashed i j a b at_a at_b same =
      let instance : a.instance ≡ b.instance = ap (λ (e : Ending). e.0) same in
      let ends : codes "#" ++ decimal (a.place + 1) ≡ codes "#" ++ decimal (b.place + 1) = ap (λ (e : Ending). e.1) same in
      let written : decimal (a.place + 1) ≡ decimal (b.place + 1) = cc in
      let next = decimal_injective (a.place + 1) (b.place + 1) (small a i at_a) (small b j at_b) written in
      let place : a.place ≡ b.place = omega arith in
      one_place (λ x y. (x.instance ≡ y.instance) × (x.place ≡ y.place)) reactions
      (λ k l d low high both. things.places_once k l d low high both.0 both.1)
      i j a b at_a at_b (instance, place) (sym instance, sym place)

  never_both : (d : OwnName) (r : PlacedReaction) → dotted d ≡ hashed r → ⊥
  never_both d r same =
      let ends : codes "." ++ d.name.now ≡ codes "#" ++ decimal (r.place + 1) = ap (λ (e : Ending). e.1) same in
      differ 46 35 refl refl (ap (λ (l : List ℕ). get_or l 0 0) ends)

  once : (i j : ℕ) (e : Ending) → slice_get (endings instances ports actions timers reactions) i ≡ Some e → slice_get (endings instances ports actions timers reactions) j ≡ Some e → i ≡ j
  once i j e at_i at_j =
      ⊎_elim
      (λ a. ⊎_elim
      (λ b. same_dotted i j a.0 b.0 a.1 b.1 (a.2 ∙ sym b.2))
      (λ b. absurd (never_both a.0 b.1 (a.2 ∙ sym b.4)))
      (data_of j e at_j))
      (λ a. ⊎_elim
      (λ b. absurd (never_both b.0 a.1 (b.2 ∙ sym a.4)))
      (λ b.
      let k = same_hashed a.0 b.0 a.1 b.1 a.3 b.3 (a.4 ∙ sym b.4) in
      a.2 ∙ ap (λ n. length (members instances ports actions timers) + n) k ∙ sym b.2)
      (data_of j e at_j))
      (data_of i e at_i)

  pub are_paths : ArePaths (endings instances ports actions timers reactions)
  are_paths = record {
    after = after;
    endings = λ k e at.
        ⊎_elim
        (λ h. subst (λ x. IsEnding x.1) h.2 (dotted_ends k h.0 h.1))
        (λ h. subst (λ x. IsEnding x.1) h.4 (hashed_ends h.0 h.1 h.3))
        (data_of k e at);
    once = once;
  }

  pub parts : endings instances ports actions timers reactions ≡ map dotted (drop 1 instances) ++ (map dotted ports ++ (map dotted actions ++ (map dotted timers ++ map hashed reactions)))
  parts = simp (map-append, append_assoc)

  pub parts2 : endings instances ports actions timers reactions ≡ (map dotted (drop 1 instances) ++ map dotted ports) ++ (map dotted actions ++ (map dotted timers ++ map hashed reactions))
  parts2 = parts ∙ sym (append_assoc (map dotted (drop 1 instances)) (map dotted ports) _)

  pub parts3 : endings instances ports actions timers reactions ≡ ((map dotted (drop 1 instances) ++ map dotted ports) ++ map dotted actions) ++ (map dotted timers ++ map hashed reactions)
  parts3 = parts2 ∙ sym (append_assoc (map dotted (drop 1 instances) ++ map dotted ports) (map dotted actions) _)

  pub parts4 : endings instances ports actions timers reactions ≡ (((map dotted (drop 1 instances) ++ map dotted ports) ++ map dotted actions) ++ map dotted timers) ++ map hashed reactions
  parts4 = parts3 ∙ sym (append_assoc ((map dotted (drop 1 instances) ++ map dotted ports) ++ map dotted actions) (map dotted timers) _)

  module _ (t0 : List (List ℕ)) (is0 : t0 ≡ main) where
    pub ready_instances : IsReady t0 (map dotted (drop 1 instances))
    ready_instances = ready [] (map dotted (drop 1 instances)) _ _ parts are_paths t0 is0

    module _ (t1 : List (List ℕ)) (is1 : t1 ≡ extended t0 (map dotted (drop 1 instances))) where
      so_far1 : t1 ≡ extended main (map dotted (drop 1 instances))
      so_far1 = is1 ∙ ap (λ t. extended t (map dotted (drop 1 instances))) is0

      pub ready_ports : IsReady t1 (map dotted ports)
      ready_ports = ready (map dotted (drop 1 instances)) (map dotted ports) _ _ parts are_paths t1 so_far1

      module _ (t2 : List (List ℕ)) (is2 : t2 ≡ extended t1 (map dotted ports)) where
        so_far2 : t2 ≡ extended main (map dotted (drop 1 instances) ++ map dotted ports)
        so_far2 = is2 ∙ ap (λ t. extended t (map dotted ports)) so_far1 ∙ sym (extended-append main (map dotted (drop 1 instances)) (map dotted ports))

        pub ready_actions : IsReady t2 (map dotted actions)
        ready_actions = ready (map dotted (drop 1 instances) ++ map dotted ports) (map dotted actions) _ _ parts2 are_paths t2 so_far2

        module _ (t3 : List (List ℕ)) (is3 : t3 ≡ extended t2 (map dotted actions)) where
          so_far3 : t3 ≡ extended main ((map dotted (drop 1 instances) ++ map dotted ports) ++ map dotted actions)
          so_far3 = is3 ∙ ap (λ t. extended t (map dotted actions)) so_far2 ∙ sym (extended-append main (map dotted (drop 1 instances) ++ map dotted ports) (map dotted actions))

          pub ready_timers : IsReady t3 (map dotted timers)
          ready_timers = ready ((map dotted (drop 1 instances) ++ map dotted ports) ++ map dotted actions) (map dotted timers) _ _ parts3 are_paths t3 so_far3

          module _ (t4 : List (List ℕ)) (is4 : t4 ≡ extended t3 (map dotted timers)) where
            so_far4 : t4 ≡ extended main (((map dotted (drop 1 instances) ++ map dotted ports) ++ map dotted actions) ++ map dotted timers)
            so_far4 = is4 ∙ ap (λ t. extended t (map dotted timers)) so_far3 ∙ sym (extended-append main ((map dotted (drop 1 instances) ++ map dotted ports) ++ map dotted actions) (map dotted timers))

            pub ready_reactions : IsReady t4 (map hashed reactions)
            ready_reactions = ready (((map dotted (drop 1 instances) ++ map dotted ports) ++ map dotted actions) ++ map dotted timers) (map hashed reactions) [] _ (parts4 ∙ ap (λ l. (((map dotted (drop 1 instances) ++ map dotted ports) ++ map dotted actions) ++ map dotted timers) ++ l) (sym (append-nil _))) are_paths t4 so_far4

            pub all_named : (t5 : List (List ℕ)) → t5 ≡ extended t4 (map hashed reactions) → t5 ≡ extended main (endings instances ports actions timers reactions)
            all_named t5 is5 =
                is5 ∙ ap (λ t. extended t (map hashed reactions)) so_far4
                ∙ sym (extended-append main (((map dotted (drop 1 instances) ++ map dotted ports) ++ map dotted actions) ++ map dotted timers) (map hashed reactions))
                ∙ ap (extended main) (sym parts4)

pub rest_of : {X : Type 0} (xs : List X) → take (length xs - 1) (drop 1 xs) ≡ drop 1 xs
rest_of [] = grind (arith, common_steps)
rest_of (x ∷ xs) = grind (arith, common_steps)

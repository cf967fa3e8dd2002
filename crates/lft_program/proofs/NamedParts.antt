-- The list of all names, cut where the kinds begin, has the full name of each thing.
use Rattle.std.proofs.Common.{◌≡◌, ℕ, ◌+◌, ◌-◌, ◌<◌, ◌≤◌, suc, List, [], ◌∷◌, ◌++◌, map, drop, length, slice_get, slice_range, Some, codes, refl, sym, ap, subst, ◌∙◌, arith, length-append, length-drop, append_assoc, append-nil, zero-add}
use Rattle.std.{specs.{Fmt.decimal, List.AllZip}, proofs.lemmas.List.length-map}
use Rattle.lft_lists.proofs.{Places.{Some_same, get_left, get_right}, Mapped.mapped}
use Rattle.lft_ir.specs.{inner.Places.{names_from, AreStarts}, declared.names.Starts.Starts}
use Rattle.lft_ir.proofs.Ranges.{slice_get-drop, range-get, range-within, length-range}
use Rattle.lft_program.specs.inner.{Extended.{Ending, dotted, hashed, endings, extended}, FullNames.{IsDotted, IsHashed, AreFullNames, AreOfProgram, AreFew}}
use Rattle.lft_program.specs.declared.naming.{OwnName.OwnName, PlacedReaction.PlacedReaction}
use Rattle.lft_program.proofs.{Distinct.{main, ArePaths}, Extending.{StandsAt, length-extended, extended-keeps, extended-at}}
use Rattle.lft_program.proofs.FullNames.{all_at, are_paths, before_member, parts, parts2, parts3, parts4}

AllZip-from_at : {X Y : Type 0} (R : X → Y → Type 0) (xs : List X) (ys : List Y) → length ys ≡ length xs → ((k : ℕ) (x : X) (y : Y) → slice_get xs k ≡ Some x → slice_get ys k ≡ Some y → R x y) → AllZip R xs ys
AllZip-from_at R [] [] long each = tt
AllZip-from_at R [] (y ∷ ys) long each = absurd (omega arith)
AllZip-from_at R (x ∷ xs) [] long each = absurd (omega arith)
AllZip-from_at R (x ∷ xs) (y ∷ ys) long each = (each 0 x y refl refl, AllZip-from_at R xs ys (omega arith) (λ k. each (suc k)))

-- the names of one kind, whose endings have these before and after them, made from the first n names
module _ (all : List Ending) (paths : ArePaths all) (texts : List (List ℕ)) (is : texts ≡ extended main all) (n : ℕ) where
  stands : (k : ℕ) (e : Ending) → slice_get all k ≡ Some e → StandsAt texts e (1 + k)
  stands k e at = subst (λ t. StandsAt t e (1 + k)) (sym is) (extended-at main all paths.after k e at)

  module _ {X : Type 0} (v : X → Ending) (xs : List X) (front back : List Ending) (whole : all ≡ front ++ (map v xs ++ back)) (R : X → List ℕ → Type 0)
      (inside : (k : ℕ) (x : X) → slice_get xs k ≡ Some x → (v x).0 < n)
      (made : (x : X) (c : List ℕ) → slice_get (slice_range texts 0 n) (v x).0 ≡ Some c → R x (c ++ (v x).1)) where
    named : (names : List (List ℕ)) → length names ≡ length xs → ((k : ℕ) (y : List ℕ) → slice_get names k ≡ Some y → slice_get texts (1 + (length front + k)) ≡ Some y) → AllZip R xs names
    named names long placed = AllZip-from_at R xs names long each
      where
        each : (k : ℕ) (x : X) (y : List ℕ) → slice_get xs k ≡ Some x → slice_get names k ≡ Some y → R x y
        each k x y at_x at_y =
            let here : slice_get all (length front + k) ≡ Some (v x) = ap (λ l. slice_get l (length front + k)) whole ∙ get_right front (map v xs ++ back) k ∙ get_left (map v xs) back k (v x) (mapped v xs k x at_x) in
            let s = stands (length front + k) (v x) here in
            let same : s.container ++ (v x).1 ≡ y = Some_same _ _ (sym s.name ∙ placed k y at_y) in
            let low = inside k x at_x in
            let there : slice_get (slice_range texts 0 n) (v x).0 ≡ Some s.container = range-get texts 0 n (v x).0 (omega arith) ∙ ap (slice_get texts) (zero-add (v x).0) ∙ s.there in
            subst (R x) same (made x s.container there)

    -- of a part of the list
    named_range : (a b : ℕ) → a ≡ 1 + length front → b ≡ a + length xs → b ≤ length texts → AllZip R xs (slice_range texts a b)
    named_range a b begins ends within =
        let long : length (slice_range texts a b) ≡ length xs = let h = length-range texts a b within in omega arith in
        named (slice_range texts a b) long placed
      where
        placed : (k : ℕ) (y : List ℕ) → slice_get (slice_range texts a b) k ≡ Some y → slice_get texts (1 + (length front + k)) ≡ Some y
        placed k y at =
            let low = range-within texts a b k y within at in
            let place : 1 + (length front + k) ≡ a + k = omega arith in
            ap (slice_get texts) place ∙ sym (range-get texts a b k low) ∙ at

module _ (instances ports actions timers : List OwnName) (reactions : List PlacedReaction) (things : AreOfProgram instances ports actions timers reactions) (few : AreFew instances ports actions timers reactions)
    (texts : List (List ℕ)) (is : texts ≡ extended main (endings instances ports actions timers reactions)) where
  -- where the kinds begin
  abbrev pub starts : Starts
  starts = record {
    ports = length instances;
    actions = length instances + length ports;
    timers = (length instances + length ports) + length actions;
    reactions = ((length instances + length ports) + length actions) + length timers;
  }

  some : 0 < length instances
  some = things.nested.main

  long : length texts ≡ (((length instances + length ports) + length actions) + length timers) + length reactions
  long =
      let count = ap length is ∙ length-extended main (endings instances ports actions timers reactions) in
      let each : length (endings instances ports actions timers reactions) ≡ (length instances - 1) + (length ports + (length actions + (length timers + length reactions))) =
      ap length (parts instances ports actions timers reactions things few) ∙ simp (length-append, length-map, length-drop) in
      let first = some in
      omega arith

  pub are_starts : AreStarts starts (length texts)
  are_starts =
      let count = long in
      let a = few.few_instances in
      let b = few.few_ports in
      let c = few.few_actions in
      let d = few.few_timers in
      let e = few.few_reactions in
      record { ports = omega arith; actions = omega arith; timers = omega arith; reactions = omega arith; total_fits = omega arith }

  made_dotted : (d : OwnName) (c : List ℕ) → slice_get (slice_range texts 0 (length instances)) d.instance ≡ Some c → IsDotted (slice_range texts 0 (length instances)) d (c ++ (dotted d).1)
  made_dotted d c there = (c, there, sym (append_assoc c (codes ".") d.name.now))

  made_hashed : (r : PlacedReaction) (c : List ℕ) → slice_get (slice_range texts 0 (length instances)) r.instance ≡ Some c → IsHashed (slice_range texts 0 (length instances)) r (c ++ (hashed r).1)
  made_hashed r c there = (c, there, sym (append_assoc c (codes "#") (decimal (r.place + 1))))

  inside_inner : (k : ℕ) (d : OwnName) → slice_get (drop 1 instances) k ≡ Some d → d.instance < length instances
  inside_inner k d at =
      (before_member instances ports actions timers reactions things few k d (get_left (drop 1 instances) (ports ++ actions ++ timers) k d at)).1

  inside_declared : (k : ℕ) (d : OwnName) → slice_get (ports ++ actions ++ timers) k ≡ Some d → d.instance < length instances
  inside_declared = all_at (λ d. d.instance < length instances) (ports ++ actions ++ timers) things.declared

  inside_ports : (k : ℕ) (d : OwnName) → slice_get ports k ≡ Some d → d.instance < length instances
  inside_ports k d at = inside_declared k d (get_left (ports ++ actions) timers k d (get_left ports actions k d at))

  inside_actions : (k : ℕ) (d : OwnName) → slice_get actions k ≡ Some d → d.instance < length instances
  inside_actions k d at = inside_declared (length ports + k) d (get_left (ports ++ actions) timers (length ports + k) d (get_right ports actions k ∙ at))

  inside_timers : (k : ℕ) (d : OwnName) → slice_get timers k ≡ Some d → d.instance < length instances
  inside_timers k d at = inside_declared (length (ports ++ actions) + k) d (get_right (ports ++ actions) timers k ∙ at)

  inside_reactions : (k : ℕ) (r : PlacedReaction) → slice_get reactions k ≡ Some r → r.instance < length instances
  inside_reactions k r at = (all_at (λ x. (x.instance < length instances) × (x.place < length reactions)) reactions things.placed k r at).0

  paths : ArePaths (endings instances ports actions timers reactions)
  paths = are_paths instances ports actions timers reactions things few

  main_named : slice_get (slice_range texts 0 (length instances)) 0 ≡ Some (codes "main")
  main_named =
      let first = some in
      range-get texts 0 (length instances) 0 (omega arith) ∙ ap (λ t. slice_get t 0) is ∙ extended-keeps main (endings instances ports actions timers reactions) 0 (codes "main") refl

  instances_named : AllZip (IsDotted (slice_range texts 0 (length instances))) (drop 1 instances) (drop 1 (slice_range texts 0 (length instances)))
  instances_named =
      let total = long in
      named (endings instances ports actions timers reactions) paths texts is (length instances) dotted (drop 1 instances) [] _ (parts instances ports actions timers reactions things few) (IsDotted (slice_range texts 0 (length instances))) inside_inner made_dotted
      (drop 1 (slice_range texts 0 (length instances)))
      same_length
      placed
    where
      same_length : length (drop 1 (slice_range texts 0 (length instances))) ≡ length (drop 1 instances)
      same_length =
          let total = long in
          let a = length-drop 1 (slice_range texts 0 (length instances)) in
          let b = length-range texts 0 (length instances) (omega arith) in
          let c = length-drop 1 instances in
          omega arith

      placed : (k : ℕ) (y : List ℕ) → slice_get (drop 1 (slice_range texts 0 (length instances))) k ≡ Some y → slice_get texts (1 + (0 + k)) ≡ Some y
      placed k y at =
          let total = long in
          let here = sym (slice_get-drop (slice_range texts 0 (length instances)) 1 k) ∙ at in
          let low = range-within texts 0 (length instances) (1 + k) y (omega arith) here in
          let place : 1 + (0 + k) ≡ 0 + (1 + k) = omega arith in
          ap (slice_get texts) place ∙ sym (range-get texts 0 (length instances) (1 + k) low) ∙ here

  -- how many endings come before each kind
  length_inner : 1 + length (map dotted (drop 1 instances)) ≡ length instances
  length_inner = let h : length (map dotted (drop 1 instances)) ≡ length instances - 1 = simp (length-map, length-drop) in let first = some in omega arith

  pub full : AreFullNames instances ports actions timers reactions (names_from texts starts)
  full =
      let total = long in
      let one = length_inner in
      let p : length (map dotted ports) ≡ length ports = length-map ports dotted in
      let a : length (map dotted actions) ≡ length actions = length-map actions dotted in
      let t : length (map dotted timers) ≡ length timers = length-map timers dotted in
      let two : length (map dotted (drop 1 instances) ++ map dotted ports) ≡ length (map dotted (drop 1 instances)) + length (map dotted ports) = length-append (map dotted (drop 1 instances)) (map dotted ports) in
      let three : length ((map dotted (drop 1 instances) ++ map dotted ports) ++ map dotted actions) ≡ length (map dotted (drop 1 instances) ++ map dotted ports) + length (map dotted actions) = length-append (map dotted (drop 1 instances) ++ map dotted ports) (map dotted actions) in
      let four : length (((map dotted (drop 1 instances) ++ map dotted ports) ++ map dotted actions) ++ map dotted timers) ≡ length ((map dotted (drop 1 instances) ++ map dotted ports) ++ map dotted actions) + length (map dotted timers) = length-append ((map dotted (drop 1 instances) ++ map dotted ports) ++ map dotted actions) (map dotted timers) in
      let all = endings instances ports actions timers reactions in
      let kind = IsDotted (slice_range texts 0 (length instances)) in
      let last = ap (λ l. (((map dotted (drop 1 instances) ++ map dotted ports) ++ map dotted actions) ++ map dotted timers) ++ l) (sym (append-nil (map hashed reactions))) in
      record {
        main_name = main_named;
        instance_names = instances_named;
        port_names = named_range all paths texts is (length instances) dotted ports _ _ (parts instances ports actions timers reactions things few) kind inside_ports made_dotted _ _ (omega arith) refl (omega arith);
        action_names = named_range all paths texts is (length instances) dotted actions _ _ (parts2 instances ports actions timers reactions things few) kind inside_actions made_dotted _ _ (omega arith) refl (omega arith);
        timer_names = named_range all paths texts is (length instances) dotted timers _ _ (parts3 instances ports actions timers reactions things few) kind inside_timers made_dotted _ _ (omega arith) refl (omega arith);
        reaction_names = named_range all paths texts is (length instances) hashed reactions _ [] (parts4 instances ports actions timers reactions things few ∙ last) (IsHashed (slice_range texts 0 (length instances))) inside_reactions made_hashed _ _ (omega arith) total (omega arith);
      }

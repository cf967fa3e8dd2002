-- How many channels a reference has.
use Rattle.std.proofs.Common.{◌≡◌, inl, inr, ℕ, suc, ◌+◌, ◌*◌, Bool, true, false, List, [], ◌∷◌, ◌++◌, length, length-append, map, flat_map, filter_map, Option, Some, None, option_map, option_to_list, slice_get, refl, ap, subst, ◌∙◌, arith}
use Rattle.std.specs.Prelude.{bytes_eq, string_bytes}
use Rattle.std.specs.{List.{cons_option, enumerate_from, position}, Option.{option_and_then, option_map_or}}
use Rattle.std.proofs.lemmas.{List.{append-nil, length-map}, Slice.Eq.bytes_eq-Decides}
use Rattle.lft_lists.proofs.{Mapped.enumerate_at, Members.{Mem, mem_flat, mem_from_flat, mem_from_map, mem_get, get_mem, mem_map}}
use Rattle.lft_resolve.specs.Instances.{thing_at}
use Rattle.lft_whole.specs.declared.{sources.source.SourceFile.SourceFile, tree.Instance.Instance}
use Rattle.lft_same.specs.Expanded.Instances.{Inner, Inside, Widths, inners, inners_at, inside_of, numbers, numbers_at, numbers_named, place_named, name_with_number}
use Rattle.lft_same.specs.Expanded.{Reactors.members_of, Whole.{crossed, inner_thing, inside_named, new_in, things_named}}
use Rattle.lft_same.proofs.FitsLemmas.ClassNames.{position_lost}
use Rattle.lft_classes.specs.Shapes.{width_of}
use Rattle.lft_whole.specs.declared.tree.Member.TheVariants as member

-- crossed lists have as many pairs as their lengths make
pub crossed_length : {X Y : Type 0} (interleaved : Bool) (xs : List X) (ys : List Y) → length (crossed interleaved xs ys) ≡ length xs * length ys
crossed_length {X} {Y} false xs ys = rows xs
  where
    rows : (zs : List X) → length (flat_map (λ x. map {B = X × Y} (λ y. (x, y)) ys) zs) ≡ length zs * length ys
    rows [] = omega arith
    rows (z ∷ zs) =
        let one : length (map {B = X × Y} (λ y. (z, y)) ys) ≡ length ys = length-map ys (λ y. (z, y)) in
        let rest : length (flat_map (λ x. map {B = X × Y} (λ y. (x, y)) ys) zs) ≡ length zs * length ys = rows zs in
        let both = length-append (map {B = X × Y} (λ y. (z, y)) ys) (flat_map (λ x. map {B = X × Y} (λ y. (x, y)) ys) zs) in
        grind (arith, one, rest, both)
crossed_length {X} {Y} true xs ys = columns ys
  where
    columns : (zs : List Y) → length (flat_map (λ y. map {B = X × Y} (λ x. (x, y)) xs) zs) ≡ length xs * length zs
    columns [] = omega arith
    columns (z ∷ zs) =
        let one : length (map {B = X × Y} (λ x. (x, z)) xs) ≡ length xs = length-map xs (λ x. (x, z)) in
        let rest : length (flat_map (λ y. map {B = X × Y} (λ x. (x, y)) xs) zs) ≡ length xs * length zs = columns zs in
        let both = length-append (map {B = X × Y} (λ x. (x, z)) xs) (flat_map (λ y. map {B = X × Y} (λ x. (x, y)) xs) zs) in
        grind (arith, one, rest, both)

-- the first of a pair of crossed lists is of the first list
pub crossed_first : {X Y : Type 0} (interleaved : Bool) (xs : List X) (ys : List Y) (p : X × Y) → Mem p (crossed interleaved xs ys) → Mem p.0 xs
crossed_first {X} {Y} false xs ys p m =
    let x = mem_from_flat (λ x. map {B = X × Y} (λ y. (x, y)) ys) xs p m in
    let y = mem_from_map (λ (y : Y). pair x.0 y) ys p x.2 in
    subst (λ z. Mem z xs) (ap (λ (q : X × Y). q.0) y.2) x.1
  where
    pair : X → Y → X × Y
    pair x y = (x, y)
crossed_first {X} {Y} true xs ys p m =
    let y = mem_from_flat (λ y. map {B = X × Y} (λ x. (x, y)) xs) ys p m in
    let x = mem_from_map (λ (x : X). pair x y.0) xs p y.2 in
    subst (λ z. Mem z xs) (ap (λ (q : X × Y). q.0) x.2) x.1
  where
    pair : X → Y → X × Y
    pair x y = (x, y)

-- where each one is kept, none is lost
pub all_kept : {X Y : Type 0} (f : X → Option Y) (xs : List X) → ((x : X) → Mem x xs → f x ≡ None → ⊥) → length (filter_map f xs) ≡ length xs
all_kept f [] kept = refl
all_kept {X} {Y} f (x ∷ xs) kept = go (f x) refl (all_kept f xs (λ z m. kept z (inr m)))
  where
    go : (o : Option Y) → f x ≡ o → length (filter_map f xs) ≡ length xs → length (cons_option (f x) (filter_map f xs)) ≡ suc (length xs)
    go None e rest = absurd (kept x (inl refl) e)
    go (Some y) e rest = ap (λ o. length (cons_option o (filter_map f xs))) e ∙ ap suc rest

module _ (files : List SourceFile) (w : Widths) (x : Inside) (m file : ℕ) (i : Instance) (is_member : slice_get (members_of files x.class) m ≡ Some (file, member.Instance i)) where
  abbrev pub inner_at : Option ℕ → Inner
  inner_at n = record { name = name_with_number (string_bytes i.name.text) n; new = (file, i) }

  -- each one of a bank stands among the instances
  pub is_inner : (n : Option ℕ) → Mem n (numbers i.width (w x m)) → Mem (inner_at n) (inners files w x)
  is_inner n k =
      let e : slice_get (enumerate_from 0 (members_of files x.class)) m ≡ Some (0 + m, (file, member.Instance i)) = enumerate_at 0 (members_of files x.class) m (file, member.Instance i) is_member in
      let z : 0 + m ≡ m = omega arith in
      let here : Mem (m, (file, member.Instance i)) (enumerate_from 0 (members_of files x.class)) = mem_get (enumerate_from 0 (members_of files x.class)) m (m, (file, member.Instance i)) (e ∙ ap (λ j. Some (j, (file, member.Instance i))) z) in
      mem_flat (inners_at w x) (m, (file, member.Instance i)) (inner_at n) (enumerate_from 0 (members_of files x.class)) here (mem_map inner_at n (numbers i.width (w x m)) k)

  -- so a port of it is found
  pub is_found : (path p : List ℕ) (n : Option ℕ × Option ℕ) → Mem n.0 (numbers i.width (w x m)) → inner_thing files w path x (string_bytes i.name.text) p n ≡ None → ⊥
  is_found path p n k none =
      let at = get_mem (inner_at n.0) (inners files w x) (is_inner n.0 k) in
      position_lost (λ (j : Inner). bytes_eq (name_with_number (string_bytes i.name.text) n.0) j.name) (inners files w x) at.0 (inner_at n.0) at.1 ((bytes_eq-Decides (name_with_number (string_bytes i.name.text) n.0) (name_with_number (string_bytes i.name.text) n.0)).1 refl) (unmapped (position (λ (j : Inner). bytes_eq (name_with_number (string_bytes i.name.text) n.0) j.name) (inners files w x)) none)
    where
      unmapped : (o : Option ℕ) → option_map (λ k. thing_at (path ++ k ∷ []) (name_with_number p n.1)) o ≡ None → o ≡ None
      unmapped None e = refl
      unmapped (Some y) e = absurd (cc)

-- a reference to a port of an instance has as many channels as the instances and the ports in one of them make
pub channels_length : (files : List SourceFile) (w : Widths) (x : Inside) (m file : ℕ) (i : Instance) → slice_get (members_of files x.class) m ≡ Some (file, member.Instance i) → place_named files x (string_bytes i.name.text) ≡ Some m → (path p : List ℕ) (interleaved : Bool) (y : Inside) → inside_of files x (file, i) ≡ Some y → length (things_named files w path x interleaved (string_bytes i.name.text) (Some p)) ≡ length (numbers i.width (w x m)) * length (numbers_named files w y p)
channels_length files w x m file i is_member is_place path p interleaved y is_inside =
    all_kept (inner_thing files w path x b p) (crossed interleaved (numbers_named files w x b) ports) (λ n k. is_found files w x m file i is_member path p n (subst (λ l. Mem n.0 l) own (crossed_first interleaved (numbers_named files w x b) ports n k)))
    ∙ crossed_length interleaved (numbers_named files w x b) ports
    ∙ ap (λ l. length l * length ports) own
    ∙ ap (λ l. length (numbers i.width (w x m)) * length l) inner
  where
    b : List ℕ
    b = string_bytes i.name.text

    ports : List (Option ℕ)
    ports = flat_map (λ y. numbers_named files w y p) (option_to_list (inside_named files x b))

    own : numbers_named files w x b ≡ numbers i.width (w x m)
    own = ap (λ o. option_map_or (numbers_at files w x) o (None ∷ [])) is_place ∙ ap (λ o. option_map_or (λ m'. numbers (width_of m'.1) (w x m)) o (None ∷ [])) is_member

    inner : ports ≡ numbers_named files w y p
    inner =
        ap (λ o. flat_map (λ y. numbers_named files w y p) (option_to_list (option_and_then (λ k. option_and_then (λ m. option_and_then (inside_of files x) (new_in m)) (slice_get (members_of files x.class) k)) o))) is_place
        ∙ ap (λ o. flat_map (λ y. numbers_named files w y p) (option_to_list (option_and_then (λ m. option_and_then (inside_of files x) (new_in m)) o))) is_member
        ∙ ap (λ o. flat_map (λ y. numbers_named files w y p) (option_to_list o)) is_inside
        ∙ append-nil (numbers_named files w y p)

-- The numbers of reactors among those of all files.
use Rattle.std.proofs.Common.{◌≡◌, ℕ, suc, ◌+◌, ◌<◌, ◌≤◌, inl, inr, List, [], ◌∷◌, ◌++◌, length, map, take, append-nil, Some, slice_get, refl, ap, subst, ◌∙◌, arith}
use Rattle.std.specs.Prelude.{flat_map}
use Rattle.std.specs.List.{enumerate_from}
use Rattle.std.proofs.lemmas.{Grind.{common_steps, flat_map-append}, List.{length-append, length-map, FromFn.length-enumerate_from}}
use Rattle.std.proofs.lemmas.Option.{get_or_from_slice_get, slice_get_within}
use Rattle.lft_lists.proofs.{Mapped.{enumerate_at, mapped, mapped_from}, Members.{get_mem, mem_from_flat, mem_from_map, mem_get}, Picked.take_one_more}
use Rattle.lft_lists.proofs.Places.{get_append_cases, same_at}
use Rattle.lft_resolve.proofs.Flat.{enumerated, flat_at}
use Rattle.lft_whole.specs.declared.{sources.source.SourceFile.SourceFile, tree.Reactor.Reactor}
use Rattle.lft_classes.specs.{declared.scopes.Class.Class, inner.Scopes.{IsOf, placed, reactors_in, reactors_of_file, reactors_before}}

-- a reactor that is numbered stands in its file
pub file_of : (files : List SourceFile) (k f : ℕ) (r : Reactor) → slice_get (reactors_in files) k ≡ Some (f, r) → (file : SourceFile) × (slice_get files f ≡ Some file) × ((j : ℕ) × (slice_get file.tree.reactors.items j ≡ Some r))
file_of files k f r at =
    let all = enumerate_from 0 files in
    let from = mem_from_flat reactors_of_file all (f, r) (mem_get (reactors_in files) k (f, r) at) in
    let x = from.0 in
    let there = get_mem x all from.1 in
    let numbered = enumerated 0 files there.0 x there.1 in
    let pair : Reactor → ℕ × Reactor = λ s. (x.0, s) in
    let one = mem_from_map pair x.1.tree.reactors.items (f, r) from.2 in
    let same : there.0 ≡ f = (let e = numbered.0 in let d : x.0 ≡ f = ap (λ (q : ℕ × Reactor). q.0) one.2 in omega (arith, e, d)) in
    let item = get_mem one.0 x.1.tree.reactors.items one.1 in
    (x.1, subst (λ n. slice_get files n ≡ Some x.1) same numbered.1, (item.0, item.1 ∙ ap (λ (q : ℕ × Reactor). Some q.1) one.2))

-- and behind those of the files before
pub at_file : (files : List SourceFile) (n : ℕ) (file : SourceFile) (j : ℕ) (r : Reactor) → slice_get files n ≡ Some file → slice_get file.tree.reactors.items j ≡ Some r → slice_get (reactors_in files) (length (reactors_before files n) + j) ≡ Some (n, r)
at_file files n file j r at is =
    let pair : Reactor → ℕ × Reactor = λ s. (n, s) in
    flat_at reactors_of_file (enumerate_from 0 files) n (n, file) j (n, r) (enumerate_at 0 files n file at ∙ ap (λ k. Some (k, file)) (omega arith)) (mapped pair file.tree.reactors.items j r is)

-- how many reactors there are with the first ones of a file
pub counted : (n : ℕ) (items : List Reactor) (old classes : List Class) (j : ℕ) → placed classes ≡ placed old ++ map (λ s. (n, s)) (take j items) → j < length items → length classes ≡ length old + j
counted n items old classes j now within =
    let pair : Reactor → ℕ × Reactor = λ s. (n, s) in
    let part = take j items in
    let locate : Class → ℕ × Reactor = λ c. (c.file, c.reactor.now) in
    let one = length-map classes locate in
    let two = ap length now in
    let three = length-append (placed old) (map pair part) in
    let four = length-map part pair in
    let five = length-map old locate in
    let six : length part ≡ j = grind (arith, common_steps) in
    omega (arith, one, two, three, four, five, six)

-- the number of the one that comes next
pub next_stands : (files : List SourceFile) (n : ℕ) (file : SourceFile) (old classes : List Class) (j number : ℕ) (r : Reactor) → slice_get files n ≡ Some file → placed old ≡ reactors_before files n → placed classes ≡ placed old ++ map (λ s. (n, s)) (take j file.tree.reactors.items) → j < length file.tree.reactors.items → slice_get file.tree.reactors.items j ≡ Some r → number ≡ length classes → slice_get (reactors_in files) number ≡ Some (n, r)
next_stands files n file old classes j number r at before now within is e =
    let locate : Class → ℕ × Reactor = λ c. (c.file, c.reactor.now) in
    let one = counted n file.tree.reactors.items old classes j now within in
    let two = length-map old locate in
    let three = ap length before in
    let there : number ≡ length (reactors_before files n) + j = omega (arith, e, one, two, three) in
    ap (slice_get (reactors_in files)) there ∙ at_file files n file j r at is

-- one file more
pub before_more : (files : List SourceFile) (n : ℕ) (file : SourceFile) → slice_get files n ≡ Some file → reactors_before files (n + 1) ≡ reactors_before files n ++ reactors_of_file (n, file)
before_more files n file at =
    let all = enumerate_from 0 files in
    let there : slice_get all n ≡ Some (n, file) = enumerate_at 0 files n file at ∙ ap (λ k. Some (k, file)) (omega arith) in
    let more : take (n + 1) all ≡ take n all ++ (n, file) ∷ [] = take_one_more all n (n, file) (slice_get_within all n (n, file) there) (get_or_from_slice_get all n (n, file) (n, file) there) in
    ap (flat_map reactors_of_file) more ∙ flat_map-append reactors_of_file (take n all) ((n, file) ∷ []) ∙ ap (λ l. reactors_before files n ++ l) (append-nil (reactors_of_file (n, file)))

-- what stands in all parts stands in one of them, behind those before it
flat_from : {X Y : Type 0} (f : X → List Y) (xs : List X) (k : ℕ) (y : Y) → slice_get (flat_map f xs) k ≡ Some y → (i : ℕ) × ((x : X) × (slice_get xs i ≡ Some x) × ((j : ℕ) × (slice_get (f x) j ≡ Some y) × (k ≡ length (flat_map f (take i xs)) + j)))
flat_from f [] k y at = absurd (cc)
flat_from f (x ∷ xs) k y at = elim (get_append_cases (f x) (flat_map f xs) k y at) [
  | inl here ↦ (0, (x, refl, (k, here, omega arith)))
  | inr on ↦ (
      let rest = flat_from f xs on.0 y on.2 in
      let long = length-append (f x) (flat_map f (take rest.0 xs)) in
      let one = on.1 in
      let two = rest.1.2.2 in
      let e : k ≡ length (f x ++ flat_map f (take rest.0 xs)) + rest.1.2.0 = omega (arith, long, one, two) in
      (suc rest.0, (rest.1.0, rest.1.1, (rest.1.2.0, rest.1.2.1, e)))
      )
]

-- a reactor of this file is one of those that stand there, and has its number behind those of the files before
pub own_item : (files : List SourceFile) (n : ℕ) (file : SourceFile) (c : Class) → slice_get files n ≡ Some file → IsOf files c → c.file ≡ n → (j : ℕ) × (slice_get file.tree.reactors.items j ≡ Some c.reactor.now) × (c.number ≡ length (reactors_before files n) + j)
own_item files n file c at is e =
    let all = enumerate_from 0 files in
    let from = flat_from reactors_of_file all c.number (c.file, c.reactor.now) is in
    let x = from.1.0 in
    let numbered = enumerated 0 files from.0 x from.1.1 in
    let pair : Reactor → ℕ × Reactor = λ s. (x.0, s) in
    let one = mapped_from pair x.1.tree.reactors.items from.1.2.0 (c.file, c.reactor.now) from.1.2.1 in
    let there : from.0 ≡ n = (let i = numbered.0 in let d : x.0 ≡ c.file = ap (λ (q : ℕ × Reactor). q.0) one.2 in omega (arith, i, d, e)) in
    let same : x.1 ≡ file = same_at files from.0 n x.1 file numbered.1 at there in
    let item : slice_get x.1.tree.reactors.items from.1.2.0 ≡ Some c.reactor.now = one.1 ∙ ap (λ (q : ℕ × Reactor). Some q.1) one.2 in
    (from.1.2.0, subst (λ f. slice_get f.tree.reactors.items from.1.2.0 ≡ Some c.reactor.now) same item, subst (λ i. c.number ≡ length (flat_map reactors_of_file (take i all)) + from.1.2.0) there from.1.2.2)

-- before the end stand all
pub before_all : (files : List SourceFile) (n : ℕ) → length files ≤ n → reactors_before files n ≡ reactors_in files
before_all files n long = ap (flat_map reactors_of_file) (whole (length-enumerate_from 0 files))
  where
    whole : length (enumerate_from 0 files) ≡ length files → take n (enumerate_from 0 files) ≡ enumerate_from 0 files
    whole same = grind (arith, common_steps, long, same)

-- Paths by number: what a path more, and a file more, bring.
use Rattle.std.proofs.Common.{◌≡◌, ℕ, zero, suc, ◌+◌, ◌<◌, ◌≤◌, ◌⊎◌, inl, inr, true, false, List, [], ◌∷◌, ◌++◌, length, Option, Some, None, append_assoc, map, refl, sym, subst, ap, ◌∙◌, arith, string_bytes}
use Rattle.std.specs.Prelude.{◌↔◌, IsSomeAnd, slice_get}
use Rattle.std.specs.{Map.update, Str.bytes_eq, Cmp.Lexicographic.bytes_decides}
use Rattle.std.proofs.lemmas.Bool.{cases_Bool, cases_lt, cond-true, cond-false}
use Rattle.std.proofs.lemmas.List.{append-nil, Elements.{All-append, All-cons, All-get_or, All-nil, All-weaker}}
use Rattle.std.proofs.lemmas.Option.{get_or_from_slice_get, slice_get_within}
use Rattle.lft_lists.proofs.Mapped.{mapped, mapped_from}
use Rattle.lft_lists.proofs.Places.{get_append_cases, get_last, get_left, get_push, get_push_cases, get_there, same_some, Some_same}
use Rattle.lft_whole.specs.declared.{tree.Import.Import, sources.{source.SourceFile.SourceFile, stop.Place.Place}}
use Rattle.lft_whole_parser.specs.declared.imports.asked.WantedFile.{WantedFile}
use Rattle.lft_whole_parser.specs.Imports.Paths.{meaning}
use Rattle.lft_whole_parser.specs.Imports.Files.{AreNumbered, AreReachedFiles, EachOnce, HasImport, IsImportOf, HasNumberedImports, IsWhole, LeadsTo, further, itself, paths_of_files}
use Rattle.lft_whole_parser.specs.inner.Imports.Files.{Adds, AreNamed, IsAskedBy, IsNamedBy}

-- each path by its number, and no other
abbrev pub ByNumber : (List ℕ → Option ℕ) → List (List ℕ) → Type 0
ByNumber f paths = (path : List ℕ) (n : ℕ) → (f path ≡ Some n) ↔ (slice_get paths n ≡ Some path)

module _ (f g : List ℕ → Option ℕ) (paths : List (List ℕ)) (q : List ℕ) (known : ByNumber f paths) (new : f q ≡ None) (updated : (p : List ℕ) → g p ≡ update bytes_eq f q (Some (length paths)) p) where
  there : (p : List ℕ) → bytes_eq q p ≡ true → g p ≡ Some (length paths)
  there p e = updated p ∙ cond-true (bytes_eq q p) (Some (length paths)) (f p) e

  other : (p : List ℕ) → bytes_eq q p ≡ false → g p ≡ f p
  other p e = updated p ∙ cond-false (bytes_eq q p) (Some (length paths)) (f p) e

  not_same : (p : List ℕ) → bytes_eq q p ≡ false → q ≡ p → ⊥
  not_same p e s = let t : bytes_eq q p ≡ true = (bytes_decides q p).1 s in absurd (cc)

  number_of : (p : List ℕ) (n : ℕ) → (bytes_eq q p ≡ true) ⊎ (bytes_eq q p ≡ false) → g p ≡ Some n → slice_get (paths ++ q ∷ []) n ≡ Some p
  number_of p n (inl e) at =
      let same : q ≡ p = (bytes_decides q p).0 e in
      let number : length paths ≡ n = Some_same (length paths) n (sym (there p e) ∙ at) in
      ap (slice_get (paths ++ q ∷ [])) (sym number) ∙ get_last paths q ∙ ap Some same
  number_of p n (inr e) at = get_push paths q n p ((known p n).0 (sym (other p e) ∙ at))

  path_of : (p : List ℕ) (n : ℕ) → (bytes_eq q p ≡ true) ⊎ (bytes_eq q p ≡ false) → (slice_get paths n ≡ Some p) ⊎ ((n ≡ length paths) × (q ≡ p)) → g p ≡ Some n
  path_of p n (inl e) (inl at) =
      let none : f p ≡ None = ap f (sym ((bytes_decides q p).0 e)) ∙ new in
      let some : f p ≡ Some n = (known p n).1 at in
      absurd (cc)
  path_of p n (inl e) (inr w) = there p e ∙ ap Some (sym w.0)
  path_of p n (inr e) (inl at) = other p e ∙ (known p n).1 at
  path_of p n (inr e) (inr w) = absurd (not_same p e w.1)

  pub known_more : ByNumber g (paths ++ q ∷ [])
  known_more p n = (number_of p n (cases_Bool (bytes_eq q p)), λ at. path_of p n (cases_Bool (bytes_eq q p)) (get_push_cases paths q n p at))

-- all that stands in the one list stands at the same place in the other
abbrev pub GoesOn : List (List ℕ) → List (List ℕ) → Type 0
GoesOn before after = (k : ℕ) (path : List ℕ) → slice_get before k ≡ Some path → slice_get after k ≡ Some path

some_weaker : {X : Type 0} (P Q : X → Type 0) (o : Option X) → ((x : X) → P x → Q x) → IsSomeAnd o P → IsSomeAnd o Q
some_weaker P Q None f h = h
some_weaker P Q (Some x) f h = f x h

-- what is so of an element is so in a list that is longer
pub kept : {X : Type 0} (P : X → Type 0) (xs : List X) (y : X) (k : ℕ) → IsSomeAnd (slice_get xs k) P → IsSomeAnd (slice_get (xs ++ y ∷ []) k) P
kept P [] y k h = absurd h
kept P (x ∷ xs) y zero h = h
kept P (x ∷ xs) y (suc k) h = kept P xs y k h

abbrev Numbers : List (List ℕ) → List ℕ → Import → ℕ → Type 0
Numbers paths path import n = slice_get paths n ≡ Some (meaning path import.path.items)

-- the numbers of the first imports
abbrev pub SoFar : List (List ℕ) → List ℕ → List Import → ℕ → List ℕ → Type 0
SoFar paths path imports i numbers = (k : ℕ) (import : Import) → k < i → slice_get imports k ≡ Some import → IsSomeAnd (slice_get numbers k) (Numbers paths path import)

pub numbers_more : (a b : List (List ℕ)) (path : List ℕ) (imports : List Import) (i : ℕ) (import : Import) (numbers : List ℕ) (n : ℕ) → GoesOn a b → slice_get imports i ≡ Some import → length numbers ≡ i → slice_get b n ≡ Some (meaning path import.path.items) → SoFar a path imports i numbers → SoFar b path imports (i + 1) (numbers ++ n ∷ [])
numbers_more a b path imports i import numbers n go at many is so k x l there = of (cases_lt k i)
  where
    of : (k < i) ⊎ (i ≤ k) → IsSomeAnd (slice_get (numbers ++ n ∷ []) k) (Numbers b path x)
    of (inl lt) = kept (Numbers b path x) numbers n k (some_weaker (Numbers a path x) (Numbers b path x) (slice_get numbers k) (λ m h. go m (meaning path x.path.items) h) (so k x lt there))
    of (inr ge) =
        let here : i ≡ k = omega (arith, l, ge) in
        let same : import ≡ x = same_some (slice_get imports i) import x at (ap (slice_get imports) here ∙ there) in
        let place : length numbers ≡ k = many ∙ here in
        subst (λ (o : Option ℕ). IsSomeAnd o (Numbers b path x)) (sym (ap (slice_get (numbers ++ n ∷ [])) (sym place) ∙ get_last numbers n)) (subst (λ (z : Import). Numbers b path z n) same is)

pub numbers_all : (paths : List (List ℕ)) (path : List ℕ) (imports : List Import) (i : ℕ) (numbers : List ℕ) → length imports ≤ i → i ≤ length imports → length numbers ≡ i → SoFar paths path imports i numbers → AreNumbered paths path imports numbers
numbers_all paths path imports i numbers l low many so = (omega (arith, l, low, many), λ k import at. so k import (omega (arith, slice_get_within imports k import at, l)) at)

pub wider : (a b : List (List ℕ)) (path : List ℕ) (imports : List Import) (numbers : List ℕ) → GoesOn a b → AreNumbered a path imports numbers → AreNumbered b path imports numbers
wider a b path imports numbers go h = (h.0, λ k import at. some_weaker (Numbers a path import) (Numbers b path import) (slice_get numbers k) (λ m e. go m (meaning path import.path.items) e) (h.1 k import at))

-- ---- files

abbrev pub AreRead : List (List ℕ) → List SourceFile → Type 0
AreRead paths files = (k : ℕ) (file : SourceFile) → slice_get files k ≡ Some file → slice_get paths k ≡ Some (string_bytes file.path)

abbrev pub AllNumbered : List (List ℕ) → List SourceFile → Type 0
AllNumbered paths files = (k : ℕ) (file : SourceFile) → slice_get files k ≡ Some file → HasNumberedImports paths file

pub read_more : (a b : List (List ℕ)) (files : List SourceFile) (f : SourceFile) → GoesOn a b → AreRead a files → slice_get a (length files) ≡ Some (string_bytes f.path) → AreRead b (files ++ f ∷ [])
read_more a b files f go h e k file at = of (get_push_cases files f k file at)
  where
    of : (slice_get files k ≡ Some file) ⊎ ((k ≡ length files) × (f ≡ file)) → slice_get b k ≡ Some (string_bytes file.path)
    of (inl old) = go k (string_bytes file.path) (h k file old)
    of (inr new) = go k (string_bytes file.path) (ap (slice_get a) new.0 ∙ e ∙ ap (λ (z : SourceFile). Some (string_bytes z.path)) new.1)

pub numbered_more : (a b : List (List ℕ)) (files : List SourceFile) (f : SourceFile) → GoesOn a b → AllNumbered a files → HasNumberedImports b f → AllNumbered b (files ++ f ∷ [])
numbered_more a b files f go h n k file at = of (get_push_cases files f k file at)
  where
    of : (slice_get files k ≡ Some file) ⊎ ((k ≡ length files) × (f ≡ file)) → HasNumberedImports b file
    of (inl old) = wider a b (string_bytes file.path) file.tree.imports.items file.imports.items go (h k file old)
    of (inr new) = subst (HasNumberedImports b) new.1 n

pub numbered_file : (paths : List (List ℕ)) (p : List ℕ) (imports : List Import) (ns : List ℕ) (f : SourceFile) → string_bytes f.path ≡ p → f.tree.imports.items ≡ imports → f.imports.items ≡ ns → AreNumbered paths p imports ns → HasNumberedImports paths f
numbered_file paths p imports ns f a b c h = subst (λ (q : List ℕ). AreNumbered paths q f.tree.imports.items f.imports.items) (sym a) (subst (λ (xs : List Import). AreNumbered paths p xs f.imports.items) (sym b) (subst (AreNumbered paths p imports) (sym c) h))

-- a path of a file is among the paths, at its number
pub path_at : (paths : List (List ℕ)) (files : List SourceFile) → AreRead paths files → (k : ℕ) (p : List ℕ) → slice_get (paths_of_files files) k ≡ Some p → slice_get paths k ≡ Some p
path_at paths files h k p at =
    let from = mapped_from (λ (z : SourceFile). string_bytes z.path) files k p at in
    h k from.0 from.1 ∙ ap Some from.2

pub each_once : (f : List ℕ → Option ℕ) (paths : List (List ℕ)) (files : List SourceFile) → ByNumber f paths → AreRead paths files → EachOnce (paths_of_files files)
each_once f paths files known h = λ i j p a b. Some_same i j (sym ((known p i).1 (path_at paths files h i p a)) ∙ (known p j).1 (path_at paths files h j p b))

none_some : {Z : Type 0} (o : Option Z) (x : Z) → o ≡ None → o ≡ Some x → ⊥
none_some o x n s = cc

-- where no path is left, each has its file
files_enough : {X Y : Type 0} (paths : List X) (files : List Y) → slice_get paths (length files) ≡ None → length paths ≤ length files
files_enough paths files e = of (cases_lt (length files) (length paths))
  where
    of : (length files < length paths) ⊎ (length paths ≤ length files) → length paths ≤ length files
    of (inl lt) = let found = get_there paths (length files) lt in absurd (none_some (slice_get paths (length files)) found.0 e found.1)
    of (inr ge) = ge

file_at : (paths : List (List ℕ)) (files : List SourceFile) → AreRead paths files → length paths ≤ length files → (n : ℕ) (p : List ℕ) → slice_get paths n ≡ Some p → slice_get (paths_of_files files) n ≡ Some p
file_at paths files h l n p at =
    let found = get_there files n (omega (arith, slice_get_within paths n p at, l)) in
    let same : Some (string_bytes found.0.path) ≡ Some p = sym (h n found.0 found.1) ∙ at in
    mapped (λ (z : SourceFile). string_bytes z.path) files n found.0 found.1 ∙ same

pub all_whole : (paths : List (List ℕ)) (files : List SourceFile) → AreRead paths files → AllNumbered paths files → slice_get paths (length files) ≡ None → IsWhole files
all_whole paths files h n none =
    let enough = files_enough paths files none in
    λ k file at. wider paths (paths_of_files files) (string_bytes file.path) file.tree.imports.items file.imports.items (file_at paths files h enough) (n k file at)

-- ---- which paths are asked for

abbrev Path : WantedFile → List ℕ
Path wanted = string_bytes wanted.path

pub adds_none : (ws : List WantedFile) (Such : WantedFile → Type 0) → Adds ws Such ws
adds_none ws Such = ([], All-nil Such, sym (append-nil ws))

pub adds_one : (ws : List WantedFile) (Such : WantedFile → Type 0) (w : WantedFile) → Such w → Adds ws Such (ws ++ w ∷ [])
adds_one ws Such w is = (w ∷ [], All-cons Such w [] is (All-nil Such), refl)

-- what is added in two steps
pub adds_more : (a b c : List WantedFile) (Such : WantedFile → Type 0) → Adds a Such b → Adds b Such c → Adds a Such c
adds_more a b c Such first second = (first.0 ++ second.0, All-append Such first.0 second.0 first.1 second.1, second.2 ∙ ap (λ (ws : List WantedFile). ws ++ second.0) first.2 ∙ append_assoc a first.0 second.0)

-- what is weaker is added too
pub adds_weaker : (a b : List WantedFile) (Such Also : WantedFile → Type 0) → ((w : WantedFile) → Such w → Also w) → Adds a Such b → Adds a Also b
adds_weaker a b Such Also f h = (h.0, All-weaker Such Also f h.0 h.1, h.2)

-- one that is wanted is old, or such
pub added : (a b : List WantedFile) (Such : WantedFile → Type 0) (k : ℕ) (w : WantedFile) → Adds a Such b → slice_get b k ≡ Some w → (slice_get a k ≡ Some w) ⊎ ((length a ≤ k) × Such w)
added a b Such k w (more, all, is) at = of (get_append_cases a more k w (ap (λ (ws : List WantedFile). slice_get ws k) (sym is) ∙ at))
  where
    of : (slice_get a k ≡ Some w) ⊎ ((j : ℕ) × (k ≡ length a + j) × (slice_get more j ≡ Some w)) → (slice_get a k ≡ Some w) ⊎ ((length a ≤ k) × Such w)
    of (inl old) = inl old
    of (inr new) = inr (omega (arith, new.1), subst Such (get_or_from_slice_get more new.0 w w new.2) (All-get_or Such more new.0 w (slice_get_within more new.0 w new.2) all))

-- paths stay where they are
pub goes_on : (a b : List WantedFile) (Such : WantedFile → Type 0) → Adds a Such b → GoesOn (map Path a) (map Path b)
goes_on a b Such (more, all, is) k path at =
    let from = mapped_from Path a k path at in
    mapped Path b k from.0 (ap (λ (ws : List WantedFile). slice_get ws k) is ∙ get_left a more k from.0 from.1) ∙ ap Some from.2

some_from : {X : Type 0} (P : X → Type 0) (o : Option X) → IsSomeAnd o P → (x : X) × (o ≡ Some x) × P x
some_from P None h = absurd h
some_from P (Some x) h = (x, refl, h)

pub some_and : {X : Type 0} (P : X → Type 0) (o : Option X) (x : X) → o ≡ Some x → P x → IsSomeAnd o P
some_and P o x e h = subst (λ o. IsSomeAnd o P) (sym e) h

-- the path that an import means has an import
has_import : (number : ℕ) (path : List ℕ) (imports : List Import) (w : WantedFile) → IsAskedBy number path imports w → HasImport path imports (Path w)
has_import number path imports w (i, h) =
    let one = some_from _ (slice_get imports i) h in
    (i, some_and _ (slice_get imports i) one.0 one.1 one.2.1)

-- the path of an import is asked for by it
pub asked_by : (number : ℕ) (path : List ℕ) (imports : List Import) (i : ℕ) (import : Import) (w v : WantedFile) → slice_get imports i ≡ Some import → v.import ≡ Some (record { file = number; token = import.at }) → string_bytes v.path ≡ meaning path import.path.items → w ≡ v → IsAskedBy number path imports w
asked_by number path imports i import w v at place means is = (i, some_and _ (slice_get imports i) import at (ap (λ (x : WantedFile). x.import) is ∙ place, sym (ap Path is ∙ means)))

-- with a file more the same is reached
still_leads : (files : List SourceFile) (f : SourceFile) (from path : List ℕ) → LeadsTo files from path → LeadsTo (files ++ f ∷ []) from path
still_leads files f from _ itself = itself
still_leads files f from _ (further {path = p} k file way at has) = further k file (still_leads files f from (string_bytes file.path) way) (get_push files f k file at) has

-- of one path alone there is no way
pub one_reached : (paths : List (List ℕ)) (q : List ℕ) (files : List SourceFile) → paths ≡ q ∷ [] → AreReachedFiles files paths
one_reached paths q files e zero first path begin at = subst (LeadsTo files first) (Some_same first path (sym begin ∙ at)) itself
one_reached paths q files e (suc k) first path begin at = let none : None ≡ Some path = sym (ap (λ (xs : List (List ℕ)). slice_get xs (suc k)) e) ∙ at in absurd (cc)

-- a file more, whose imports are asked for
module _ (a b : List WantedFile) (files : List SourceFile) (f : SourceFile) (next : slice_get (map Path a) (length files) ≡ Some (string_bytes f.path)) (adds : Adds a (IsAskedBy (length files) (string_bytes f.path) f.tree.imports.items) b) where
  abbrev Such : WantedFile → Type 0
  Such = IsAskedBy (length files) (string_bytes f.path) f.tree.imports.items

  some : 0 < length a
  some =
      let from = mapped_from Path a (length files) (string_bytes f.path) next in
      let within = slice_get_within a (length files) from.0 from.1 in
      omega (arith, within)

  -- the first is old
  begins : (first : List ℕ) → slice_get (map Path b) 0 ≡ Some first → slice_get (map Path a) 0 ≡ Some first
  begins first at =
      let there = get_there a 0 some in
      let old : slice_get (map Path a) 0 ≡ Some (Path there.0) = mapped Path a 0 there.0 there.1 in
      old ∙ ap Some (Some_same (Path there.0) first (sym (goes_on a b Such adds 0 (Path there.0) old) ∙ at))

  pub reached_more : AreReachedFiles files (map Path a) → AreReachedFiles (files ++ f ∷ []) (map Path b)
  reached_more h k first path begin at =
      let from = mapped_from Path b k path at in
      let begun = begins first begin in
      elim (added a b Such k from.0 adds from.1) [
        | inl old ↦ still_leads files f first path (h k first path begun (mapped Path a k from.0 old ∙ ap Some from.2))
        | inr new ↦ further (length files) f (still_leads files f first (string_bytes f.path) (h (length files) first (string_bytes f.path) begun next)) (get_last files f) (subst (HasImport (string_bytes f.path) f.tree.imports.items) from.2 (has_import (length files) (string_bytes f.path) f.tree.imports.items from.0 new.1))
      ]

  -- a place that is kept is that of an import
  named_old : (k : ℕ) (path : List ℕ) (place : Option Place) → IsNamedBy files k path place → IsNamedBy (files ++ f ∷ []) k path place
  named_old k path None h = h
  named_old k path (Some place) h = (h.0, kept _ files f place.file h.1)

  named_new : (k : ℕ) (w : WantedFile) → length a ≤ k → Such w → IsNamedBy (files ++ f ∷ []) k (Path w) w.import
  named_new k w late (i, h) =
      let one = some_from _ (slice_get f.tree.imports.items i) h in
      let place : Place = record { file = length files; token = one.0.at } in
      let at : IsImportOf (files ++ f ∷ []) (Path w) place = some_and _ (slice_get (files ++ f ∷ []) (length files)) f (get_last files f) (i, some_and _ (slice_get f.tree.imports.items i) one.0 one.1 (refl, one.2.1)) in
      subst (IsNamedBy (files ++ f ∷ []) k (Path w)) (sym one.2.0) (omega (arith, some, late), at)

  pub named_more : AreNamed files a → AreNamed (files ++ f ∷ []) b
  named_more h k w at = elim (added a b Such k w adds at) [
    | inl old ↦ named_old k (Path w) w.import (h k w old)
    | inr new ↦ named_new k w new.0 new.1
  ]

-- the program itself
pub one_named : (files : List SourceFile) (ws : List WantedFile) (w : WantedFile) → ws ≡ w ∷ [] → w.import ≡ None → AreNamed files ws
one_named files ws w e none zero one at =
    let same : w ≡ one = Some_same w one (sym (ap (λ (xs : List WantedFile). slice_get xs 0) e) ∙ at) in
    subst (λ (x : WantedFile). IsNamedBy files 0 (Path x) x.import) same (subst (IsNamedBy files 0 (Path w)) (sym none) refl)
one_named files ws w e none (suc k) one at = let no : None ≡ Some one = sym (ap (λ (xs : List WantedFile). slice_get xs (suc k)) e) ∙ at in absurd (cc)

-- what is asked for by the imports of a file
pub adds_file : (a b : List WantedFile) (files : List SourceFile) (f : SourceFile) (number : ℕ) (p : List ℕ) (imports : List Import) → number ≡ length files → string_bytes f.path ≡ p → f.tree.imports.items ≡ imports → Adds a (IsAskedBy number p imports) b → Adds a (IsAskedBy (length files) (string_bytes f.path) f.tree.imports.items) b
adds_file a b files f number p imports many path tree h = subst (λ n. Adds a (IsAskedBy n (string_bytes f.path) f.tree.imports.items) b) many (subst (λ q. Adds a (IsAskedBy number q f.tree.imports.items) b) (sym path) (subst (λ xs. Adds a (IsAskedBy number p xs) b) (sym tree) h))

pub no_file : (files : List SourceFile) → files ≡ [] → (k : ℕ) (file : SourceFile) → slice_get files k ≡ Some file → ⊥
no_file files e k file at = let none : None ≡ Some file = sym (ap (λ (fs : List SourceFile). slice_get fs k) e) ∙ at in (cc)

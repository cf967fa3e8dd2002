-- The files of a program, as they are read.
use Rattle.std.proofs.Common.{◌≡◌, ◌<◌, ℕ, inl, inr, List, [], ◌∷◌, ◌++◌, Some, None, length, refl, subst, sym, ap, ◌∙◌, arith, string_bytes}
use Rattle.std.specs.Prelude.{IfSome, IsSomeAnd, slice_get}
use Rattle.std.proofs.lemmas.{List.length-map, Option.slice_get_within}
use Rattle.lft_lists.proofs.Places.{get_push, get_push_cases, get_there, Some_same}
use Rattle.lft_whole.specs.declared.sources.{source.SourceFile.SourceFile, stop.{Place.Place, FileRefusal.FileRefusal}}
use Rattle.lft_whole_parser.specs.inner.Imports.Files.{AreSources, HasOneMore, IsNamedBy, RefusesNext, next_path, paths_of}
use Rattle.lft_whole_parser.specs.{Imports.{Files.{IsFileOf, IsImportOf, IsRefusedFor, paths_of_files}, Paths.normal}, declared.imports.sources.Sources.Sources}
use Rattle.lft_whole_parser.proofs.ImportsLemmas.Known.{all_whole, path_at, read_more}
use Rattle.lft_whole_driver.specs.{Lowered.{AreFilesOf, BeginWith, LeadTo}, inner.{Lowered.BeginsAs, Unlowered.{IsImportRefusedAt, IsOfUnread}}}
use Rattle.lft_whole_driver.specs.Unlowered.{IsOfFirst, IsOfImported}
use Rattle.lft_whole.specs.declared.sources.stop.NoProgram.TheVariants as stop

module _ (path text : List ℕ) (s0 : Sources) (none : s0.files.items ≡ []) (paths : paths_of s0.asked ≡ normal path ∷ []) where
  wanted : next_path s0 ≡ Some (normal path)
  wanted = ap (λ ps. slice_get ps (length s0.files.items)) paths ∙ ap (λ fs. slice_get (normal path ∷ []) (length fs)) none

  -- the first is read
  pub first_read : (s1 : Sources) → HasOneMore text s0 s1 → BeginWith path text s1.files.items
  first_read s1 more =
      let one = more (normal path) wanted in
      let made : s1.files.items ≡ one.0 ∷ [] = one.2 ∙ ap (λ fs. fs ++ one.0 ∷ []) none in
      subst (BeginWith path text) (sym made) one.1

  -- the first is refused
  pub first_refused : (files : List SourceFile) (r : FileRefusal) → RefusesNext text s0 files (stop.Refused r) → IsOfFirst path text files r
  first_refused files r h =
      let same : string_bytes h.0.path ≡ normal path = Some_same _ _ (sym h.1 ∙ wanted) in
      let made : files ≡ h.0 ∷ [] = h.2 ∙ ap (λ fs. fs ++ h.0 ∷ []) none in
      (h.3 ∙ ap length none, subst (λ fs. IsSomeAnd (slice_get fs 0) (λ file. (string_bytes file.path ≡ normal path) × IsRefusedFor text file r.place.token r.why)) (sym made) (same, h.4))

-- the first stays
pub goes_on : (path text : List ℕ) (a b : List SourceFile) → BeginWith path text a → BeginsAs a b → BeginWith path text b
goes_on path text [] b h begins = absurd h
goes_on path text (x ∷ xs) b h begins = subst (λ o. IsSomeAnd o (IsFileOf (normal path) text)) (sym (begins x refl)) h

-- so there is one
pub begun : (a b : List SourceFile) → 0 < length a → BeginsAs a b → 0 < length b
begun a b some begins = let first = get_there a 0 some in slice_get_within b 0 first.0 (begins first.0 first.1)

pub begun_by : (path text : List ℕ) (files : List SourceFile) → BeginWith path text files → 0 < length files
begun_by path text [] h = absurd h
begun_by path text (x ∷ xs) h = omega arith

-- with a file more the first stays
pub grown : (a b : List SourceFile) (f : SourceFile) → b ≡ a ++ f ∷ [] → BeginsAs a b
grown a b f more file at = subst (λ fs. slice_get fs 0 ≡ Some file) (sym more) (get_push a f 0 file at)

pub further : (a b c : List SourceFile) → BeginsAs a b → BeginsAs b c → BeginsAs a c
further a b c h k file at = k file (h file at)

-- imports lead to each path that is asked for
lead_to : (s : Sources) → AreSources s → (paths : List (List ℕ)) → ((k : ℕ) (p : List ℕ) → slice_get paths k ≡ Some p → slice_get (paths_of s.asked) k ≡ Some p) → LeadTo s.files.items paths
lead_to s sources paths among = record {
  trees = sources.trees;
  reached = λ k first path begin at. sources.reached k first path (among 0 first begin) (among k path at);
  once = λ i j path a b. Some_same i j (sym ((sources.known path i).1 (among i path a)) ∙ (sources.known path j).1 (among j path b));
}

-- so to the next
next_lead : (s : Sources) → AreSources s → (path : List ℕ) → next_path s ≡ Some path → LeadTo s.files.items (paths_of_files s.files.items ++ path ∷ [])
next_lead s sources path next =
    let files = s.files.items in
    let paths = paths_of s.asked in
    lead_to s sources (paths_of_files files ++ path ∷ []) (λ k p at. elim (get_push_cases (paths_of_files files) path k p at) [
      | inl old ↦ path_at paths files sources.read k p old
      | inr last ↦ ap (slice_get paths) (last.0 ∙ length-map files (λ (file : SourceFile). string_bytes file.path)) ∙ next ∙ ap Some last.1
    ])

module _ (text : List ℕ) (s : Sources) (files : List SourceFile) (r : FileRefusal) (h : RefusesNext text s files (stop.Refused r)) where
  -- a refusal leaves those that were read before
  pub begins_too : BeginsAs s.files.items files
  begins_too = grown s.files.items files h.0 h.2

  -- behind the first, it is of a file that is imported
  pub later_refused : AreSources s → 0 < length s.files.items → IsOfImported files r
  later_refused sources some =
      let paths = paths_of s.asked in
      let read = read_more paths paths s.files.items h.0 (λ k p at. at) sources.read h.1 in
      record {
        before = s.files.items;
        last = h.0;
        text = text;
        all = h.2;
        some = some;
        lead = lead_to s sources (paths_of_files files) (λ k p at. path_at paths (s.files.items ++ h.0 ∷ []) read k p (subst (λ fs. slice_get (paths_of_files fs) k ≡ Some p) h.2 at));
        place = h.3;
        refused = h.4;
      }

-- the import of a file that can't be read
pub unread_at : (s : Sources) (path : List ℕ) (place : Place) → AreSources s → next_path s ≡ Some path → IfSome (next_path s) (λ p. IsNamedBy s.files.items (length s.files.items) p (Some place)) → (files : List SourceFile) (first : List ℕ) (r : FileRefusal) → IsImportRefusedAt s.files.items place files first r → IsOfUnread s.files.items files first r
unread_at s path place sources next named files first r is =
    let these = s.files.items in
    let import : IsImportOf these path place = (subst (λ o. IfSome o (λ p. IsNamedBy these (length these) p (Some place))) next named).1 in
    (is.0, (is.1, (path, subst (λ fs. LeadTo fs (paths_of_files fs ++ path ∷ [])) (sym is.0) (next_lead s sources path next), subst (λ fs. IsImportOf fs path r.place) (sym is.0) (subst (IsImportOf these path) (sym is.2) import))))

-- all are read: the first is that of the path, and each import names one
pub all_read : (path text : List ℕ) (s0 s1 s2 : Sources) → s0.files.items ≡ [] → paths_of s0.asked ≡ normal path ∷ [] → HasOneMore text s0 s1 → BeginsAs s1.files.items s2.files.items → AreSources s2 → next_path s2 ≡ None → AreFilesOf path text s2.files.items
all_read path text s0 s1 s2 none paths more begins sources over = record {
  first = goes_on path text s1.files.items s2.files.items (first_read path text s0 none paths s1 more) begins;
  lead = lead_to s2 sources (paths_of_files s2.files.items) (path_at (paths_of s2.asked) s2.files.items sources.read);
  whole = all_whole (paths_of s2.asked) s2.files.items sources.read sources.numbered over;
}

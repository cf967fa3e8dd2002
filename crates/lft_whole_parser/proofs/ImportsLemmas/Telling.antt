-- Why a text is refused.
use Rattle.std.proofs.Common.{◌≡◌, ℕ, ◌+◌, ◌⊎◌, inl, inr, List, [], ◌∷◌, ◌++◌, length, take, Some, None, sym, subst, ap, ◌∙◌, zero-add, arith, string_bytes}
use Rattle.std.specs.Prelude.{IfErr, Result, Ok, Err, slice_get}
use Rattle.std.proofs.lemmas.{List.{take-append-le, take_all, Sums.sum_by-append}, Option.slice_get_within}
use Rattle.lft_lists.proofs.Places.{get_push_cases}
use Rattle.lft_whole.specs.declared.sources.{source.SourceFile.SourceFile, stop.NoProgram.NoProgram, why.Why.{Why, TheVariants.NotRead}}
use Rattle.lft_whole_parser.specs.declared.imports.{reading.Text.Text, sources.Sources.Sources}
use Rattle.lft_whole_parser.specs.inner.Imports.Files.{AreCounted, IsRefusalOf, IsUnreadPath, RefusesNext, next_path, how_many_tokens}
use Rattle.lft_whole_parser.specs.inner.Imports.Reads.{IsRead, IsReadAs}
use Rattle.lft_whole_parser.specs.Imports.{Files.{AreOfTexts, HasUnread, IsRefusedFor}, Reads.{HasNoFileTree, HasTree}}
use Rattle.lft_whole.specs.declared.sources.stop.NoProgram.TheVariants as stop

-- a file has the tree that is read of its text
pub tree_of : (t : List ℕ) (f : SourceFile) (read : Text) → f.spots ≡ read.spots → f.tree ≡ read.tree → IsRead t read → read.refused ≡ None → HasTree t f.spots.items f.tree
tree_of t f read spots tree is none =
    let known : HasTree t read.spots.items read.tree = subst (IsReadAs t read.spots.items read.tree) none is in
    subst (λ v. HasTree t v.items f.tree) (sym spots) (subst (HasTree t read.spots.items) (sym tree) known)

pub trees_more : (files : List SourceFile) (f : SourceFile) → AreOfTexts files → HasTree f.text.items f.spots.items f.tree → AreOfTexts (files ++ f ∷ [])
trees_more files f h tree k file at = of (get_push_cases files f k file at)
  where
    of : (slice_get files k ≡ Some file) ⊎ ((k ≡ length files) × (f ≡ file)) → HasTree file.text.items file.spots.items file.tree
    of (inl old) = h k file old
    of (inr new) = subst (λ (x : SourceFile). HasTree x.text.items x.spots.items x.tree) new.1 tree

-- a file more has so many tokens more
pub tokens_more : (files : List SourceFile) (f : SourceFile) → how_many_tokens (files ++ f ∷ []) ≡ how_many_tokens files + length f.spots.items
tokens_more files f = sum_by-append (λ (x : SourceFile). length x.spots.items) files (f ∷ []) ∙ ap (λ n. how_many_tokens files + n) (zero-add (length f.spots.items))

-- and its first token has the number of those before
pub counted_more : (files : List SourceFile) (f : SourceFile) → AreCounted files → f.first ≡ how_many_tokens files → AreCounted (files ++ f ∷ [])
counted_more files f h first k file at = of (get_push_cases files f k file at)
  where
    of : (slice_get files k ≡ Some file) ⊎ ((k ≡ length files) × (f ≡ file)) → file.first ≡ how_many_tokens (take k (files ++ f ∷ []))
    of (inl old) = h k file old ∙ ap how_many_tokens (sym (take-append-le k files (f ∷ []) (omega (arith, slice_get_within files k file old))))
    of (inr new) = ap (λ (x : SourceFile). x.first) (sym new.1) ∙ first ∙ ap how_many_tokens (sym (take-append-le k files (f ∷ []) (omega (arith, new.0)) ∙ take_all k files (omega (arith, new.0))))

-- a file is refused as what is read of its text
pub refused_for : (t : List ℕ) (f : SourceFile) (read : Text) (token : ℕ) (why : Why) → f.spots ≡ read.spots → f.tree ≡ read.tree → IsRead t read → (read.refused ≡ Some (record { why = why; token = token })) ⊎ ((read.refused ≡ None) × (why ≡ NotRead) × HasUnread read.tree.imports.items token) → IsRefusedFor t f token why
refused_for t f read token why spots tree is (inl w) = inl (subst (λ v. HasNoFileTree t v.items token why) (sym spots) (subst (IsReadAs t read.spots.items read.tree) w is))
refused_for t f read token why spots tree is (inr w) = inr (w.1, tree_of t f read spots tree is w.0, subst (λ x. HasUnread x.imports.items token) (sym tree) w.2)

-- the refusal of the file that was to be read next
pub refuses_next : (t : List ℕ) (before : Sources) (files : List SourceFile) (f : SourceFile) (number : ℕ) (read : Text) (s : NoProgram) → next_path before ≡ Some (string_bytes f.path) → files ≡ before.files.items ++ f ∷ [] → number ≡ length before.files.items → f.spots ≡ read.spots → f.tree ≡ read.tree → IsRead t read → IsRefusalOf number read s → RefusesNext t before files s
refuses_next t before files f number read stop.NoMemory next more many spots tree is h = tt
refuses_next t before files f number read (stop.Refused refusal) next more many spots tree is h = (f, next, more, h.0 ∙ many, refused_for t f read refusal.place.token refusal.why spots tree is h.1)

-- that of a path
pub unread_is_refusal : {X : Type 0} (r : Result X NoProgram) (number : ℕ) (read : Text) → read.refused ≡ None → IfErr r (IsUnreadPath number read.tree.imports.items) → IfErr r (IsRefusalOf number read)
unread_is_refusal (Ok x) number read none h = tt
unread_is_refusal (Err (stop.Refused refusal)) number read none h = (h.1, inr (none, h.0, h.2))
unread_is_refusal (Err stop.NoMemory) number read none h = tt

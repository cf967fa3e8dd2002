-- What names of reactors mean.
use Rattle.std.proofs.Common.{◌≡◌, ℕ, inl, inr, List, [], ◌∷◌, ◌++◌, length, map, option_map, string_bytes, Some, slice_get, refl, sym, ap, subst, ◌∙◌, arith}
use Rattle.std.{specs.Option.option_and_then, proofs.lemmas.Option.{option_and_then_some, slice_get_within}}
use Rattle.lft_lists.proofs.{Mapped.option_map_some, Places.{get_last, get_push, get_push_cases, get_there, same_some, Some_same}}
use Rattle.lft_resolve.specs.inner.Places.{place, place_in}
use Rattle.lft_whole.specs.declared.{tree.{Import.Import, ImportedName.ImportedName}, sources.source.SourceFile.SourceFile}
use Rattle.lft_classes.specs.declared.scopes.{Class.Class, NamedReactor.NamedReactor, Scope.Scope, ReactorNames.ReactorNames}
use Rattle.lft_classes.specs.inner.Scopes.{in_scope, meaning_in, number_in, AreNumberedClasses, IsExported, IsImport, IsMeant, IsOwn, AreMeantScopes, AreOwnScopes, EachMeans, HasImports, HasMeaning, IsGiven, IsMeantScope, IsOnce, IsScope, IsScopeOf, MeansAt}
use Rattle.lft_classes.proofs.{Naming.{place_is, place_least}, Numbering.file_of}

-- what a name means in a scope is one of its meanings
pub found_in : (P : List ℕ → Class → ℕ → Type 0) (scope : Scope) (q : List ℕ) (c : Class) → IsScope P scope → in_scope scope q ≡ Some c → (at : ℕ) × P q c at
found_in P scope q c is e =
    let m = option_map_some (λ (m : NamedReactor). m.class) (option_and_then (slice_get scope.meanings.items) (place_in scope.names q)) c e in
    option_and_then_some (slice_get scope.meanings.items) (place_in scope.names q) m.0 m.1 (λ k at there.
    let same : q ≡ m.0.name.now = place_is (λ (m : NamedReactor). m.name.now) q scope.meanings.items k m.0 (sym (is.names q) ∙ at) there in
    (m.0.at, subst (λ x. P x c m.0.at) (sym same) (subst (λ d. P m.0.name.now d m.0.at) m.2 (is.each k m.0 there))))

-- a name that has a meaning means a reactor
pub means_one : (P : List ℕ → Class → ℕ → Type 0) (scope : Scope) (q : List ℕ) (n : ℕ) → IsScope P scope → HasMeaning scope.meanings.items q n → (d : Class) × (in_scope scope q ≡ Some d)
means_one P scope q n is has =
    let ms = scope.meanings.items in
    let class : NamedReactor → Class = λ m. m.class in
    let least = place_least (λ (m : NamedReactor). m.name.now) q ms has.0 has.1.0 has.1.1 (sym has.1.2) in
    let at : place_in scope.names q ≡ Some least.0 = is.names q ∙ least.1 in
    (least.3.0.class, ap (λ o. option_map class (option_and_then (slice_get ms) o)) at ∙ ap (option_map class) least.3.1)

-- and where each name has one meaning, it means that
pub means_it : (P : List ℕ → Class → ℕ → Type 0) (scope : Scope) (q : List ℕ) (n : ℕ) → IsScope P scope → IsOnce scope → HasMeaning scope.meanings.items q n → option_map (λ (c : Class). c.number) (in_scope scope q) ≡ Some n
means_it P scope q n is once has =
    let number : Class → ℕ = λ c. c.number in
    let one = means_one P scope q n is has in
    let same : one.0.number ≡ has.1.0.class.number = once has.0 has.1.0 has.1.1 one.0 (ap (in_scope scope) has.1.2 ∙ one.1) in
    ap (option_map number) one.1 ∙ ap Some (same ∙ has.1.3)

-- a meaning more
pub means_push : (P : List ℕ → Class → ℕ → Type 0) (ms : List NamedReactor) (m : NamedReactor) → EachMeans P ms → P m.name.now m.class m.at → EachMeans P (ms ++ m ∷ [])
means_push P ms m all is i n at = elim (get_push_cases ms m i n at) [ inl old ↦ all i n old | inr last ↦ subst (λ (x : NamedReactor). P x.name.now x.class x.at) last.1 is ]

pub has_push : (ms : List NamedReactor) (m : NamedReactor) (q : List ℕ) (n : ℕ) → HasMeaning ms q n → HasMeaning (ms ++ m ∷ []) q n
has_push ms m q n has = (has.0, (has.1.0, get_push ms m has.0 has.1.0 has.1.1, has.1.2, has.1.3))

pub has_last : (ms : List NamedReactor) (m : NamedReactor) → HasMeaning (ms ++ m ∷ []) m.name.now m.class.number
has_last ms m = (length ms, (m, get_last ms m, refl, refl))

-- what an import gives stays
pub given_kept : (files : List SourceFile) (other : ℕ) (name : ImportedName) (old now : List NamedReactor) → ((q : List ℕ) (n : ℕ) → HasMeaning old q n → HasMeaning now q n) → IsGiven files other name old → IsGiven files other name now
given_kept files other name old now kept is = (is.0, is.1, kept (string_bytes name.alias.text) is.0.number is.2)

-- the scope of such meanings has such ones
pub scope_has : (P : List ℕ → Class → ℕ → Type 0) (ms : List NamedReactor) (scope : Scope) → IsScopeOf ms scope → EachMeans P ms → IsScope P scope
scope_has P ms scope is each = record {
  names = subst (λ l. (q : List ℕ) → place_in scope.names q ≡ place q (map (λ (m : NamedReactor). m.name.now) l)) (sym is.meanings) is.names;
  each = subst (EachMeans P) (sym is.meanings) each;
}

-- a reactor more
pub numbers_push : (cs : List Class) (c : Class) → AreNumberedClasses cs → c.number ≡ length cs → AreNumberedClasses (cs ++ c ∷ [])
numbers_push cs c all number i d at = elim (get_push_cases cs c i d at) [
  | inl old ↦ all i d old
  | inr last ↦ ap (λ (x : Class). x.number) (sym last.1) ∙ number ∙ sym last.0
]

-- a scope more
pub scopes_push : (P : ℕ → Scope → Type 0) (ss : List Scope) (n : ℕ) (s : Scope) → length ss ≡ n → ((t : ℕ) (r : Scope) → slice_get ss t ≡ Some r → P t r) → P n s → (t : ℕ) (r : Scope) → slice_get (ss ++ s ∷ []) t ≡ Some r → P t r
scopes_push P ss n s long all is t r at = elim (get_push_cases ss s t r at) [
  | inl old ↦ all t r old
  | inr last ↦ subst (λ k. P k r) (sym (last.0 ∙ long)) (subst (P n) last.1 is)
]

-- the token says what the name means
pub meant_of : (files : List SourceFile) (file : ℕ) (q : List ℕ) (c : Class) (at : ℕ) → MeansAt files file q c at → IsMeant files file q c
meant_of files file q c at (inl own) = inl own.0
meant_of files file q c at (inr imported) = inr imported.0

-- it stands in one of the files
pub own_file : (files : List SourceFile) (file : ℕ) (q : List ℕ) (c : Class) → IsOwn files file q c → (f : SourceFile) × (slice_get files file ≡ Some f)
own_file files file q c own =
    let there = file_of files c.number c.file c.reactor.now own.stands in
    (there.0, subst (λ n. slice_get files n ≡ Some there.0) own.in_file there.1)

-- in each file names have meanings that they may have
pub all_meant : (files : List SourceFile) (scopes : ReactorNames) → AreMeantScopes files scopes.scopes.items → (file : ℕ) (q : List ℕ) (c : Class) → meaning_in scopes file q ≡ Some c → IsMeant files file q c
all_meant files scopes are file q c e = option_and_then_some (λ (s : Scope). in_scope s q) (slice_get scopes.scopes.items file) c e (λ s at is.
    let found = found_in (MeansAt files file) s q c (are.each file s at).is is in
    meant_of files file q c found.0 found.1)

-- each file has a scope
scope_of : (files : List SourceFile) (scopes : List Scope) (file : ℕ) (f : SourceFile) → AreMeantScopes files scopes → slice_get files file ≡ Some f → (s : Scope) × (slice_get scopes file ≡ Some s) × IsMeantScope files file s
scope_of files scopes file f are at =
    let within = slice_get_within files file f at in
    let count = are.count in
    let there = get_there scopes file (omega (arith, within, count)) in
    (there.0, there.1, are.each file there.0 there.1)

module _ (files : List SourceFile) (scopes : ReactorNames) (are : AreMeantScopes files scopes.scopes.items) where
  there_means : (file : ℕ) (s : Scope) (q : List ℕ) (n : ℕ) → slice_get scopes.scopes.items file ≡ Some s → IsMeantScope files file s → HasMeaning s.meanings.items q n → number_in scopes file q ≡ Some n
  there_means file s q n at is has = ap (λ o. option_map (λ (c : Class). c.number) (option_and_then (λ (r : Scope). in_scope r q) o)) at ∙ means_it (MeansAt files file) s q n is.is is.once has

  own_number : (file : ℕ) (q : List ℕ) (c : Class) → IsOwn files file q c → number_in scopes file q ≡ Some c.number
  own_number file q c is =
      let f = own_file files file q c is in
      let there = scope_of files scopes.scopes.items file f.0 are f.1 in
      there_means file there.0 q c.number there.1 there.2 (there.2.own q c is)

  -- a name means what it may mean, and no other reactor
  pub all_once : (file : ℕ) (q : List ℕ) (c : Class) → IsMeant files file q c → number_in scopes file q ≡ Some c.number
  all_once file q c (inl own) = own_number file q c own
  all_once file q c (inr i) =
      let there = scope_of files scopes.scopes.items file i.is_import.here are i.is_import.is_here in
      let given = there.2.imports i.other i.what i.place i.name i.is_import i.is_among in
      let q2 = string_bytes i.name.name.text in
      let same : given.0.number ≡ c.number = Some_same given.0.number c.number (sym (own_number i.other q2 given.0 given.1.0) ∙ own_number i.other q2 c i.is_there) in
      subst (λ r. number_in scopes file r ≡ Some c.number) i.alias (there_means file there.0 (string_bytes i.name.alias.text) given.0.number there.1 there.2 given.2 ∙ ap Some same)

  -- for each name that is imported the other file has a reactor
  pub all_imports : (file other : ℕ) (what : Import) (which : ℕ) (name : ImportedName) → IsImport files file other what → slice_get what.names.items which ≡ Some name → (c : Class) × IsExported files other (string_bytes name.name.text) c
  all_imports file other what which name is among =
      let there = scope_of files scopes.scopes.items file is.here are is.is_here in
      let given = there.2.imports other what which name is among in
      (given.0, given.1)

-- each reactor of a file has a meaning there
pub own_means : (files : List SourceFile) (own : List Scope) (file : ℕ) (q : List ℕ) (c : Class) → AreOwnScopes files own → IsOwn files file q c → (s : Scope) × (slice_get own file ≡ Some s) × HasMeaning s.meanings.items q c.number
own_means files own file q c are is =
    let f = own_file files file q c is in
    let within = slice_get_within files file f.0 f.1 in
    let count = are.count in
    let there = get_there own file (omega (arith, within, count)) in
    (there.0, there.1, (are.each file there.0 there.1).own q c is)

-- what the imports of a file give, as they are written and read
pub imports_of : (files : List SourceFile) (number : ℕ) (file : SourceFile) (now : List NamedReactor) → slice_get files number ≡ Some file → ((place other : ℕ) (what : Import) (which : ℕ) (name : ImportedName) → slice_get file.tree.imports.items place ≡ Some what → slice_get file.imports.items place ≡ Some other → slice_get what.names.items which ≡ Some name → IsGiven files other name now) → HasImports files number now
imports_of files number file now at all other what which name i among =
    let same : i.here ≡ file = same_some (slice_get files number) i.here file i.is_here at in
    let written = subst (λ (f : SourceFile). slice_get f.tree.imports.items i.place ≡ Some what) same i.is_written in
    let read = subst (λ (f : SourceFile). slice_get f.imports.items i.place ≡ Some other) same i.is_read in
    all i.place other what which name written read among

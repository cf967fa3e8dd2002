-- The names of reactors mean what they mean in the language.
use Rattle.std.proofs.Common.{◌≡◌, inl, inr, ℕ, ◌+◌, ◌<◌, ◌≤◌, Bool, true, false, List, [], ◌∷◌, length, flat_map, get_or, Option, Some, None, option_map, slice_get, refl, sym, ap, subst, ◌∙◌, arith}
use Rattle.std.specs.Prelude.{if◌then◌else◌, is_some, string_bytes, zip}
use Rattle.std.specs.{List.{position, position_or_len}, Option.{option_and_then, option_map_or, option_or}}
use Rattle.std.proofs.lemmas.{List.{Quantifiers.position-Some, Sums.fails_before_first}, Bool.true≢false, Grind.common_steps}
use Rattle.std.proofs.lemmas.{Option.{get_or_from_slice_get, slice_get-get_or, slice_get_within}, Slice.Eq.bytes_eq-Decides}
use Rattle.lft_lists.proofs.Mapped.{mapped_from, option_map_some, pair_at}
use Rattle.lft_lists.proofs.{Members.{mem_get, get_mem, mem_filter, mem_flat, mem_from_filter, mem_from_flat, Mem}, Places.Some_same}
use Rattle.lft_whole.specs.declared.{sources.source.SourceFile.SourceFile, tree.{ImportedName.ImportedName, Name.Name, Reactor.Reactor}}
use Rattle.lft_classes.specs.declared.scopes.Class.{Class}
use Rattle.lft_classes.specs.inner.Scopes.{AreScopes, IsImport, IsImported, IsMeant, IsOf, IsOwn, meaning_in, number_in, reactors_in, reactors_before}
use Rattle.lft_classes.proofs.Numbering.{at_file, file_of}
use Rattle.lft_same.specs.Expanded.Reactors.{class_named, imported_by, imported_class, is_reactor_called, is_named, own_class, reactor_of}
use Rattle.lft_same.specs.inner.Fits.Fits.{number_at}
use Rattle.lft_same.proofs.ExpandedLemmas.Flattened.{unzip}
use Rattle.lft_program.proofs.Zipping.{then_some}

-- the reactor of the scopes is the one at this place of this file
pub record IsAt (files : List SourceFile) (c : Class) (at : ℕ × ℕ) : Type 0 where
  pub file : c.file ≡ at.0
  pub reactor : reactor_of files at ≡ Some c.reactor.now
  pub number : c.number ≡ number_at files at

-- what a search finds
pub position_found : {X : Type 0} (p : X → Bool) (xs : List X) (k : ℕ) → position p xs ≡ Some k → (x : X) × (slice_get xs k ≡ Some x) × (p x ≡ true)
position_found {X} p [] k e = absurd (let e' : None ≡ Some k = e in cc)
position_found {X} p (y ∷ xs) k e =
    let f = position-Some p (y ∷ xs) k y e in
    (get_or (y ∷ xs) k y, slice_get-get_or (y ∷ xs) k y f.0, f.1)

-- a name is this one
pub named_so : (q : List ℕ) (name : Name) → is_named q name ≡ true → string_bytes name.text ≡ q
named_so q name e = sym ((bytes_eq-Decides q (string_bytes name.text)).0 e)

-- so is one that something has
pub called_so : (q : List ℕ) (o : Option Name) → option_map_or (is_named q) o false ≡ true → option_map (λ (n : Name). string_bytes n.text) o ≡ Some q
called_so q None f = absurd (cc)
called_so q (Some n) f = ap Some (named_so q n f)

pub called : (q : List ℕ) (o : Option Name) → option_map (λ (n : Name). string_bytes n.text) o ≡ Some q → option_map_or (is_named q) o false ≡ true
called q None f = absurd (cc)
called q (Some n) f = (bytes_eq-Decides q (string_bytes n.text)).1 (sym (Some_same (string_bytes n.text) q f))

-- a reactor that is numbered stands at a place of its file
pub own_place : (files : List SourceFile) (file : ℕ) (c : Class) → IsOf files c → c.file ≡ file → (f : SourceFile) × (slice_get files file ≡ Some f) × (j : ℕ) × (slice_get f.tree.reactors.items j ≡ Some c.reactor.now)
own_place files file c stands is = let f = file_of files c.number c.file c.reactor.now stands in (f.0, subst (λ n. slice_get files n ≡ Some f.0) is f.1, f.2.0, f.2.1)

-- the reactor of this name that stands in a file
pub own_is : (files : List SourceFile) (scopes : _) → AreScopes files scopes → (file : ℕ) (q : List ℕ) (at : ℕ × ℕ) → own_class files file q ≡ Some at → (c : Class) × IsOwn files file q c × IsAt files c at
own_is files scopes are file q at e =
    let s = then_some (λ (f : SourceFile). option_map (λ k. (file, k)) (position (is_reactor_called q) f.tree.reactors.items)) (slice_get files file) at e in
    let k = option_map_some (λ k. (file, k)) (position (is_reactor_called q) s.0.tree.reactors.items) at s.2 in
    let r = position_found (is_reactor_called q) s.0.tree.reactors.items k.0 k.1 in
    let number : ℕ = length (reactors_before files file) + k.0 in
    let stands : slice_get (reactors_in files) number ≡ Some (file, r.0) = at_file files file s.0 k.0 r.0 s.1 r.1 in
    let c = mapped_from (λ (c : Class). (c.file, c.reactor.now)) scopes.classes.items number (file, r.0) (ap (λ l. slice_get l number) are.reactors ∙ stands) in
    let n : c.0.number ≡ number = are.numbers number c.0 c.1 in
    let in_file : c.0.file ≡ file = ap (λ (p : ℕ × Reactor). p.0) c.2 in
    let is : c.0.reactor.now ≡ r.0 = ap (λ (p : ℕ × Reactor). p.1) c.2 in (
      c.0,
      record {
        stands = ap (slice_get (reactors_in files)) n ∙ stands ∙ ap Some (sym c.2);
        in_file = in_file;
        has_name = ap (λ (x : Reactor). option_map (λ (n : Name). string_bytes n.text) x.name) is ∙ called_so q r.0.name r.2;
      },
      record {
        file = in_file ∙ ap (λ (p : ℕ × ℕ). p.0) k.2;
        reactor = ap (reactor_of files) (sym k.2) ∙ ap (option_and_then (λ (g : SourceFile). slice_get g.tree.reactors.items k.0)) s.1 ∙ r.1 ∙ ap Some (sym is);
        number = n ∙ ap (λ (p : ℕ × ℕ). length (reactors_before files p.0) + p.1) k.2;
      },
    )

-- reactors of one number are one
of_meant : (files : List SourceFile) (file : ℕ) (q : List ℕ) (c : Class) → IsMeant files file q c → IsOf files c
of_meant files file q c (inl own) = own.stands
of_meant files file q c (inr imported) = imported.is_there.stands

one_reactor : (files : List SourceFile) (c d : Class) → IsOf files c → IsOf files d → c.number ≡ d.number → (c.file ≡ d.file) × (c.reactor.now ≡ d.reactor.now)
one_reactor files c d of_c of_d e =
    let p : Some (c.file, c.reactor.now) ≡ Some (d.file, d.reactor.now) = sym of_c ∙ ap (slice_get (reactors_in files)) e ∙ of_d in
    let s = Some_same (c.file, c.reactor.now) (d.file, d.reactor.now) p in
    (ap (λ (x : ℕ × Reactor). x.0) s, ap (λ (x : ℕ × Reactor). x.1) s)

-- what a name may mean, it means
pub settled : (files : List SourceFile) (scopes : _) → AreScopes files scopes → (file : ℕ) (q : List ℕ) (c : Class) (at : ℕ × ℕ) → IsMeant files file q c → IsAt files c at → (d : Class) × (meaning_in scopes file q ≡ Some d) × IsAt files d at
settled files scopes are file q c at meant is =
    let d = option_map_some (λ (x : Class). x.number) (meaning_in scopes file q) c.number (are.once file q c meant) in
    let s = one_reactor files d.0 c (of_meant files file q d.0 (are.meanings file q d.0 d.1)) (of_meant files file q c meant) d.2 in
    (d.0, d.1, record { file = s.0 ∙ is.file; reactor = is.reactor ∙ ap Some (sym s.1); number = d.2 ∙ is.number })

-- what an import gives
imported_is : (files : List SourceFile) (scopes : _) → AreScopes files scopes → (file : ℕ) (q : List ℕ) (at : ℕ × ℕ) → imported_class files file q ≡ Some at → (c : Class) × IsMeant files file q c × IsAt files c at
imported_is files scopes are file q at e =
    let s = then_some (λ (f : SourceFile). slice_get (flat_map (imported_by files q) (zip f.imports.items f.tree.imports.items)) 0) (slice_get files file) at e in
    let i = mem_from_flat (imported_by files q) (zip s.0.imports.items s.0.tree.imports.items) at (mem_get (flat_map (imported_by files q) (zip s.0.imports.items s.0.tree.imports.items)) 0 at s.2) in
    let z = unzip s.0.imports.items s.0.tree.imports.items i.0.0 i.0.1 i.1 in
    let n = mem_from_filter (λ (m : ImportedName). if is_named q m.alias then own_class files i.0.0 (string_bytes m.name.text) else None) i.0.1.names.items at i.2 in
    let g = given (is_named q n.0.alias) refl (own_class files i.0.0 (string_bytes n.0.name.text)) n.2 in
    let own = own_is files scopes are i.0.0 (string_bytes n.0.name.text) at g.1 in
    let w = get_mem n.0 i.0.1.names.items n.1 in
    let import : IsImport files file i.0.0 i.0.1 = record {
      here = s.0;
      is_here = s.1;
      place = z.0;
      is_written = z.2;
      is_read = z.1;
    } in
    let out = are.imports file i.0.0 i.0.1 w.0 n.0 import w.1 in
    let same : number_in scopes i.0.0 (string_bytes n.0.name.text) ≡ Some own.0.number = are.once i.0.0 (string_bytes n.0.name.text) own.0 (inl own.1) in
    let also : number_in scopes i.0.0 (string_bytes n.0.name.text) ≡ Some out.0.number = are.once i.0.0 (string_bytes n.0.name.text) out.0 (inl out.1.0) in
    let one = one_reactor files own.0 out.0 own.1.stands out.1.0.stands (Some_same own.0.number out.0.number (sym same ∙ also)) in (
      own.0,
      inr (record {
        other = i.0.0;
        what = i.0.1;
        is_import = import;
        place = w.0;
        name = n.0;
        is_among = w.1;
        alias = named_so q n.0.alias g.0;
        is_there = own.1;
        is_not_main = ap (λ (x : Reactor). x.is_main) one.1 ∙ out.1.1;
      }),
      own.2,
    )
  where
    given : (b : Bool) → is_some (Some b) ≡ true → (o : Option (ℕ × ℕ)) → (if b then o else None) ≡ Some at → (b ≡ true) × (o ≡ Some at)
    given true t o g = (refl, g)
    given false t o g = absurd (cc)

-- a name that means a reactor in the language means it in the scopes
pub named_is : (files : List SourceFile) (scopes : _) → AreScopes files scopes → (file : ℕ) (q : List ℕ) (at : ℕ × ℕ) → class_named files file q ≡ Some at → (c : Class) × (meaning_in scopes file q ≡ Some c) × IsAt files c at
named_is files scopes are file q at e = go (own_class files file q) refl e
  where
    go : (o : Option (ℕ × ℕ)) → own_class files file q ≡ o → option_or o (imported_class files file q) ≡ Some at → (c : Class) × (meaning_in scopes file q ≡ Some c) × IsAt files c at
    go (Some own) is h = let c = own_is files scopes are file q at (is ∙ h) in settled files scopes are file q c.0 at (inl c.1) c.2
    go None is h = let c = imported_is files scopes are file q at h in settled files scopes are file q c.0 at c.1 c.2

-- ---- what means nothing

-- a search that finds nothing
pub position_lost : {X : Type 0} (p : X → Bool) (xs : List X) (k : ℕ) (x : X) → slice_get xs k ≡ Some x → p x ≡ true → position p xs ≡ None → ⊥
position_lost p xs k x at is none =
    let within : k < length xs = slice_get_within xs k x at in
    let l : length xs ≤ position_or_len p xs = past p xs none in
    let f : p (get_or xs k x) ≡ false = fails_before_first p xs k x (omega arith) in
    let g : get_or xs k x ≡ x = get_or_from_slice_get xs k x x at in
    true≢false (sym is ∙ ap p (sym g) ∙ f)
  where
    past : {X : Type 0} (p : X → Bool) (xs : List X) → position p xs ≡ None → length xs ≤ position_or_len p xs
    past p xs none = grind (arith, common_steps)

abbrev pub paired : ℕ → ℕ → ℕ × ℕ
paired file k = (file, k)

-- a reactor of this name stands in the file, so the search finds one
pub own_found : (files : List SourceFile) (file : ℕ) (q : List ℕ) (c : Class) → IsOwn files file q c → own_class files file q ≡ None → ⊥
own_found files file q c own none =
    let j = own_place files file c own.stands own.in_file in
    let n : option_map (paired file) (position (is_reactor_called q) j.0.tree.reactors.items) ≡ None = sym (ap (option_and_then (λ (f : SourceFile). option_map (paired file) (position (is_reactor_called q) f.tree.reactors.items))) j.1) ∙ none in
    position_lost (is_reactor_called q) j.0.tree.reactors.items j.2 c.reactor.now j.3 (called q c.reactor.now.name own.has_name) (no_map (position (is_reactor_called q) j.0.tree.reactors.items) n)
  where
    no_map : (o : Option ℕ) → option_map (paired file) o ≡ None → o ≡ None
    no_map None e = refl
    no_map (Some k) e = absurd (cc)

-- an import gives the name, so the search finds what it gives
imported_found : (files : List SourceFile) (file : ℕ) (q : List ℕ) (c : Class) → IsImported files file q c → imported_class files file q ≡ None → ⊥
imported_found files file q c i none = go (own_class files i.other (string_bytes i.name.name.text)) refl
  where
    filled : (at : ℕ × ℕ) (l : List (ℕ × ℕ)) → Mem at l → slice_get l 0 ≡ None → ⊥
    filled at [] m e = m
    filled at (x ∷ xs) m e = absurd (cc)

    go : (o : Option (ℕ × ℕ)) → own_class files i.other (string_bytes i.name.name.text) ≡ o → ⊥
    go None e = own_found files i.other (string_bytes i.name.name.text) c i.is_there e
    go (Some at) e =
        let here : SourceFile = i.is_import.here in
        let n : slice_get (flat_map (imported_by files q) (zip here.imports.items here.tree.imports.items)) 0 ≡ None = sym (ap (option_and_then (λ (f : SourceFile). slice_get (flat_map (imported_by files q) (zip f.imports.items f.tree.imports.items)) 0)) i.is_import.is_here) ∙ none in
        let z : Mem (i.other, i.what) (zip here.imports.items here.tree.imports.items) = mem_get (zip here.imports.items here.tree.imports.items) i.is_import.place (i.other, i.what) (pair_at here.imports.items here.tree.imports.items i.is_import.place i.other i.what i.is_import.is_read i.is_import.is_written) in
        let b : is_named q i.name.alias ≡ true = (bytes_eq-Decides q (string_bytes i.name.alias.text)).1 (sym i.alias) in
        let f : (if is_named q i.name.alias then own_class files i.other (string_bytes i.name.name.text) else None) ≡ Some at = ap (λ t. if t then own_class files i.other (string_bytes i.name.name.text) else None) b ∙ e in
        let m : Mem at (imported_by files q (i.other, i.what)) = mem_filter (λ (x : ImportedName). if is_named q x.alias then own_class files i.other (string_bytes x.name.text) else None) i.name at i.what.names.items (mem_get i.what.names.items i.place i.name i.is_among) f in
        filled at (flat_map (imported_by files q) (zip here.imports.items here.tree.imports.items)) (mem_flat (imported_by files q) (i.other, i.what) at (zip here.imports.items here.tree.imports.items) z m) n

-- a name that means nothing in the language means nothing in the scopes
pub named_none : (files : List SourceFile) (scopes : _) → AreScopes files scopes → (file : ℕ) (q : List ℕ) → class_named files file q ≡ None → meaning_in scopes file q ≡ None
named_none files scopes are file q none = go (meaning_in scopes file q) refl
  where
    first : (o p : Option (ℕ × ℕ)) → option_or o p ≡ None → (o ≡ None) × (p ≡ None)
    first None p e = (refl, e)
    first (Some x) p e = absurd (cc)

    lost : (c : Class) → IsMeant files file q c → ⊥
    lost c (inl own) = own_found files file q c own (first (own_class files file q) (imported_class files file q) none).0
    lost c (inr given) = imported_found files file q c given (first (own_class files file q) (imported_class files file q) none).1

    go : (o : Option Class) → meaning_in scopes file q ≡ o → o ≡ None
    go None e = refl
    go (Some c) e = absurd (lost c (are.meanings file q c e))

-- so a name means the same reactor
pub names_law : (files : List SourceFile) (scopes : _) → AreScopes files scopes → (file : ℕ) (q : List ℕ) → number_in scopes file q ≡ option_map (number_at files) (class_named files file q)
names_law files scopes are file q = go (class_named files file q) refl
  where
    go : (o : Option (ℕ × ℕ)) → class_named files file q ≡ o → number_in scopes file q ≡ option_map (number_at files) o
    go None e = ap (option_map (λ (c : Class). c.number)) (named_none files scopes are file q e)
    go (Some at) e = let c = named_is files scopes are file q at e in ap (option_map (λ (c : Class). c.number)) c.1 ∙ ap Some c.2.number

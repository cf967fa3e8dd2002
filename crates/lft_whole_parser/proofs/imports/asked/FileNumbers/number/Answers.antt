use Rattle.std.proofs.Common.{◌≡◌, [], ◌∷◌, ◌++◌, Some, length, map, refl, sym, subst, ap, ◌∙◌, arith, string_bytes}
use Rattle.std.specs.Prelude.{slice_get}
use Rattle.std.{specs.BTreeMap.get_by_text, proofs.lemmas.List.{length-map, map-append}}
use Rattle.lft_lists.proofs.Places.{get_last}
use Rattle.lft_whole_parser.specs.{declared.imports.asked.WantedFile.WantedFile, inner.Imports.Files.{Adds, paths_of}}
use Rattle.lft_whole_parser.proofs.ImportsLemmas.Known.{adds_none, adds_one}
use Rattle.lft_whole_parser.proofs.imports.asked.FileNumbers.number.Goals as goal

pub returns-in-Some-clause-number : goal.returns-in-Some-clause-number
returns-in-Some-clause-number c =
    let found : get_by_text c.args.self.now.known (string_bytes c.args.path) ≡ Some c.in-Some.number = ap (get_by_text c.args.self.now.known) (sym c.as_str.ensures.value) ∙ sym c.get.ensures.value ∙ sym c.copied.ensures ∙ c.in-Some.is in
    (c.requires (string_bytes c.args.path) c.in-Some.number).0 found

pub returns-in-Some-clause-added : goal.returns-in-Some-clause-added
returns-in-Some-clause-added c = adds_none c.args.self.now.paths.items (λ wanted. wanted ≡ record { path = c.args.path; import = c.args.import })

pub returns-in_ok-ask-in-None-clause-number : goal.returns-in_ok-ask-in-None-clause-number
returns-in_ok-ask-in-None-clause-number c =
    let old = c.args.self.now in
    let q = string_bytes c.args.path in
    let paths = ap (map (λ (w : WantedFile). string_bytes w.path)) c.in_ok-ask-in-None.ensures.paths ∙ map-append (λ (w : WantedFile). string_bytes w.path) old.paths.items (record { path = c.args.path; import = c.args.import } ∷ []) in
    let many : c.len-number.result ≡ length (paths_of old) = omega (arith, c.len-number.ensures, old.paths.ok.0, length-map old.paths.items (λ (w : WantedFile). string_bytes w.path)) in
    ap (λ ps. slice_get ps c.len-number.result) paths ∙ ap (slice_get (paths_of old ++ q ∷ [])) many ∙ get_last (paths_of old) q

pub returns-in_ok-ask-in-None-clause-added : goal.returns-in_ok-ask-in-None-clause-added
returns-in_ok-ask-in-None-clause-added c =
    let w : WantedFile = record { path = c.args.path; import = c.args.import } in
    subst (Adds c.args.self.now.paths.items (λ wanted. wanted ≡ w)) (sym c.in_ok-ask-in-None.ensures.paths) (adds_one c.args.self.now.paths.items (λ wanted. wanted ≡ w) w refl)

use Rattle.std.proofs.Common.{◌≡◌, ℕ, List, [], ◌∷◌, Some, length, map, sym, subst, ap, ◌∙◌, arith, string_bytes}
use Rattle.std.{specs.{BTreeMap.get_by_text, Map.update, Str.bytes_eq}, proofs.lemmas.{List.{length-map, map-append}, Map.Text.btree_map_updates_text}}
use Rattle.lft_whole_parser.specs.{declared.imports.asked.WantedFile.WantedFile, inner.Imports.Files.paths_of}
use Rattle.lft_whole_parser.proofs.ImportsLemmas.Known.{ByNumber, known_more}
use Rattle.lft_whole_parser.proofs.imports.asked.FileNumbers.ask.Goals as goal

pub returns-clause-known : goal.returns-clause-known
returns-clause-known c =
    let old = c.args.self.now in
    let q = string_bytes c.args.path in
    let find = get_by_text old.known in
    let paths = ap (map (λ (w : WantedFile). string_bytes w.path)) c.in_ok-push.ensures.items ∙ map-append (λ (w : WantedFile). string_bytes w.path) old.paths.items (record { path = c.args.path; import = c.args.import } ∷ []) in
    let many : c.len.result ≡ length (paths_of old) = omega (arith, c.len.ensures, old.paths.ok.0, length-map old.paths.items (λ (w : WantedFile). string_bytes w.path)) in
    let updated : (p : List ℕ) → get_by_text c.insert.new.self p ≡ update bytes_eq find q (Some (length (paths_of old))) p = λ p. btree_map_updates_text (string_bytes c.in_ok-clone.field-0) old.known c.insert.new.self _ c.in_ok-insert.ensures.updates p ∙ ap (λ (bs : List ℕ). update bytes_eq find bs (Some c.len.result) p) c.in_ok-clone.ensures.cases ∙ ap (λ (n : ℕ). update bytes_eq find q (Some n) p) many in
    subst (ByNumber (get_by_text c.insert.new.self)) (sym paths) (known_more find (get_by_text c.insert.new.self) (paths_of old) q c.requires.known c.requires.new updated)

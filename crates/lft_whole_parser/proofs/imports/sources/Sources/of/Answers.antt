use Rattle.std.proofs.Common.{◌≡◌, None, [], ◌∷◌, ◌++◌, map, refl, sym, ap, ◌∙◌, string_bytes}
use Rattle.lft_whole_parser.specs.{declared.imports.asked.WantedFile.WantedFile, inner.Imports.Files.{paths_of, how_many_tokens}}
use Rattle.lft_whole_parser.proofs.ImportsLemmas.Known.{no_file, one_named, one_reached}
use Rattle.lft_whole_parser.proofs.imports.sources.Sources.of.Goals as goal

pub returns-clause-sources : goal.returns-clause-sources
returns-clause-sources c =
    let files = c.new.result.items in
    let program : WantedFile = record { path = c.in_ok-normal.field-0; import = None } in
    let wanted : c.ask.new.self.paths.items ≡ program ∷ [] = c.in_ok-ask.ensures.paths ∙ ap (λ paths. paths ++ program ∷ []) c.new-asked.ensures.empty in
    record {
      known = c.in_ok-ask.ensures.known;
      read = λ k file at. absurd (no_file files c.new.ensures.items k file at);
      trees = λ k file at. absurd (no_file files c.new.ensures.items k file at);
      tokens = sym (ap how_many_tokens c.new.ensures.items);
      counted = λ k file at. absurd (no_file files c.new.ensures.items k file at);
      numbered = λ k file at. absurd (no_file files c.new.ensures.items k file at);
      reached = one_reached (paths_of c.ask.new.self) (string_bytes program.path) files (ap (map (λ (w : WantedFile). string_bytes w.path)) wanted);
      named = one_named files c.ask.new.self.paths.items program wanted refl;
    }

pub returns-clause-paths : goal.returns-clause-paths
returns-clause-paths c = ap (map (λ (w : WantedFile). string_bytes w.path)) (c.in_ok-ask.ensures.paths ∙ ap (λ paths. paths ++ record { path = c.in_ok-normal.field-0; import = None } ∷ []) c.new-asked.ensures.empty) ∙ ap (λ p. p ∷ []) c.in_ok-normal.ensures

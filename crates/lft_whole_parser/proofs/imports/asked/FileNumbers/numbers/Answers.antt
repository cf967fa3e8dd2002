use Rattle.std.proofs.Common.{◌≡◌, ℕ, ◌+◌, Some, length, refl, sym, subst, ap, ◌∙◌, arith}
use Rattle.std.specs.Prelude.{slice_get}
use Rattle.std.{specs.Str.IsUtf8, proofs.lemmas.{List.length_push, Option.slice_get-get_or}}
use Rattle.lft_whole.specs.declared.tree.Import.{Import}
use Rattle.lft_whole_parser.specs.{declared.imports.asked.WantedFile.WantedFile, inner.Imports.Files.{IsAskedBy, IsUnreadPath, paths_of}, Imports.Paths.meaning}
use Rattle.lft_whole_parser.proofs.ImportsLemmas.Known.{SoFar, adds_more, adds_weaker, asked_by, goes_on, numbers_all, numbers_more, some_and}
use Rattle.lft_whole_parser.proofs.imports.asked.FileNumbers.numbers.Goals as goal

pub returns-in_default-clause-refused : goal.returns-in_default-clause-refused
returns-in_default-clause-refused c =
    let imports = c.args.imports.now in
    let place = c.loop-place.place in
    let item = c.index-imports-place.result in
    let test = c.loop-place-test.true in
    let there : slice_get imports place ≡ Some item = slice_get-get_or imports place item (omega arith) ∙ ap Some (sym c.index-imports-place.is) in
    subst (IsUnreadPath c.args.file imports) (sym c.at.ensures) (refl, refl, (place, some_and (λ (import : Import). (item.at ≡ import.at) × (IsUtf8 import.path.items → ⊥)) (slice_get imports place) item there (refl, λ u. c.in_default.ensures.cases.0 (subst IsUtf8 (sym c.as_slice.ensures.value) u))))

pub loop-place-preserved : goal.loop-place-preserved
loop-place-preserved c =
    let imports = c.args.imports.now in
    let place = c.loop-place.place in
    let item = c.index-imports-place.result in
    let test = c.loop-place-test.true in
    let there : slice_get imports place ≡ Some item = slice_get-get_or imports place item (omega arith) ∙ ap Some (sym c.index-imports-place.is) in
    let first = c.args.self.now.paths.items in
    let before = c.loop-place.self.paths.items in
    let after = c.number.new.self.paths.items in
    let one : WantedFile = record { path = c.in_ok-wanted.wanted; import = Some (record { file = c.args.file; token = item.at }) } in
    let Such = IsAskedBy c.args.file c.args.path.now imports in
    let means = c.in_ok-wanted.ensures ∙ ap (meaning c.args.path.now) (c.in-Ok.ensures.cases.0 ∙ c.as_slice.ensures.value) in
    let is = c.in_ok-number.ensures.number ∙ ap Some means in
    record {
      known = c.in_ok-number.ensures.known;
      added = adds_more first before after Such c.loop-place.invariant.added (adds_weaker before after (λ w. w ≡ one) Such (λ w e. asked_by c.args.file c.args.path.now imports place item w one there refl means e) c.in_ok-number.ensures.added);
      many = ap length c.in_ok-push.ensures.items ∙ length_push c.loop-place.numbers.items c.in_ok-number.number ∙ ap (λ (n : ℕ). n + 1) c.loop-place.invariant.many;
      so_far = subst (SoFar (paths_of c.number.new.self) c.args.path.now imports (place + 1)) (sym c.in_ok-push.ensures.items) (numbers_more (paths_of c.loop-place.self) (paths_of c.number.new.self) c.args.path.now imports place item c.loop-place.numbers.items c.in_ok-number.number (goes_on before after (λ w. w ≡ one) c.in_ok-number.ensures.added) there c.loop-place.invariant.many is c.loop-place.invariant.so_far);
    }

pub returns-clause-numbers : goal.returns-clause-numbers
returns-clause-numbers c = numbers_all (paths_of c.loop-place.self) c.args.path.now c.args.imports.now c.loop-place.place c.loop-place.numbers.items c.loop-place-test.false c.loop-place.auto.place-end c.loop-place.invariant.many c.loop-place.invariant.so_far

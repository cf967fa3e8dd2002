use Rattle.std.proofs.Common.{◌≡◌, ◌+◌, Some, length, sym, subst, ap, ◌∙◌, arith, string_bytes}
use Rattle.std.specs.Prelude.{slice_get}
use Rattle.lft_lists.proofs.Places.{Some_same}
use Rattle.lft_whole.specs.declared.sources.source.SourceFile.{SourceFile}
use Rattle.lft_whole_parser.specs.inner.Imports.{Files.{IsAskedBy, AreCounted, AreNamed, paths_of, how_many_tokens}, Reads.IsRead}
use Rattle.lft_whole_parser.specs.Imports.Files.{AreOfTexts, AreReachedFiles}
use Rattle.lft_whole_parser.proofs.ImportsLemmas.Known.{AllNumbered, AreRead, adds_file, goes_on, named_more, numbered_file, numbered_more, reached_more, read_more}
use Rattle.lft_whole_parser.proofs.ImportsLemmas.Telling.{counted_more, refuses_next, tokens_more, tree_of, trees_more}
use Rattle.lft_whole_parser.proofs.imports.sources.Sources.give.Goals as goal

pub returns-in_ok-push-in-Ok-clause-sources : goal.returns-in_ok-push-in-Ok-clause-sources
returns-in_ok-push-in-Ok-clause-sources c =
    let old = c.args.self.now in
    let before = paths_of old.asked in
    let after = paths_of c.numbers_of.new.asked in
    let file = c.file_of.result in
    let path = ap (λ (f : SourceFile). string_bytes f.path) c.file_of.ensures in
    let at : slice_get before (length old.files.items) ≡ Some (string_bytes file.path) = sym c.in-Some.ensures ∙ ap Some (sym (path ∙ c.in_ok-path.ensures.ok)) in
    let numbers = numbered_file after c.as_str.result.now c.in_ok-read.read.tree.imports.items c.in-Ok.imports.items file (path ∙ sym c.as_str.ensures.value) (ap (λ (f : SourceFile). f.tree.imports.items) c.file_of.ensures) (ap (λ (f : SourceFile). f.imports.items) c.file_of.ensures) c.in-Ok.ensures.numbers in
    let tree = ap (λ (f : SourceFile). f.tree.imports.items) c.file_of.ensures in
    let wanted = old.asked.paths.items in
    let more = c.numbers_of.new.asked.paths.items in
    let many : c.len-number.result ≡ length old.files.items = omega (arith, c.len-number.ensures, old.files.ok.0) in
    let adds = adds_file wanted more old.files.items file c.len-number.result c.as_str.result.now c.in_ok-read.read.tree.imports.items many (path ∙ sym c.as_str.ensures.value) tree c.in-Ok.ensures.added in
    let kept = goes_on wanted more (IsAskedBy c.len-number.result c.as_str.result.now c.in_ok-read.read.tree.imports.items) c.in-Ok.ensures.added in
    let whole = subst (λ t. IsRead t c.in_ok-read.read) c.as_slice.ensures.value c.in_ok-read.ensures in
    let text : c.args.text.items ≡ file.text.items = sym (ap (λ (f : SourceFile). f.text.items) c.file_of.ensures) in
    let first : file.first ≡ old.tokens = ap (λ (f : SourceFile). f.first) c.file_of.ensures in
    let spots : length file.spots.items ≡ length c.in_ok-read.read.spots.items = ap (λ (f : SourceFile). length f.spots.items) c.file_of.ensures in
    let count : c.len-count.result ≡ length file.spots.items = omega (arith, c.len-count.ensures, c.in_ok-read.read.spots.ok.0, spots) in
    record {
      known = c.in-Ok.ensures.known;
      read = subst (AreRead after) (sym c.in_ok-push-in-Ok.ensures.items) (read_more before after old.files.items file kept c.requires.read at);
      trees = subst AreOfTexts (sym c.in_ok-push-in-Ok.ensures.items) (trees_more old.files.items file c.requires.trees (tree_of file.text.items file c.in_ok-read.read (ap (λ (f : SourceFile). f.spots) c.file_of.ensures) (ap (λ (f : SourceFile). f.tree) c.file_of.ensures) (subst (λ t. IsRead t c.in_ok-read.read) text whole) c.in-Ok.ensures.read));
      tokens = c.in-Some-tokens_behind.ensures ∙ ap (λ n. old.tokens + n) count ∙ ap (λ n. n + length file.spots.items) c.requires.tokens ∙ sym (tokens_more old.files.items file) ∙ ap how_many_tokens (sym c.in_ok-push-in-Ok.ensures.items);
      counted = subst AreCounted (sym c.in_ok-push-in-Ok.ensures.items) (counted_more old.files.items file c.requires.counted (first ∙ c.requires.tokens));
      numbered = subst (AllNumbered after) (sym c.in_ok-push-in-Ok.ensures.items) (numbered_more before after old.files.items file kept c.requires.numbered numbers);
      reached = subst (λ fs. AreReachedFiles fs after) (sym c.in_ok-push-in-Ok.ensures.items) (reached_more wanted more old.files.items file at adds c.requires.reached);
      named = subst (λ fs. AreNamed fs more) (sym c.in_ok-push-in-Ok.ensures.items) (named_more wanted more old.files.items file at adds c.requires.named);
    }

pub returns-in_ok-push-in-Ok-clause-read : goal.returns-in_ok-push-in-Ok-clause-read
returns-in_ok-push-in-Ok-clause-read c =
    let file = c.file_of.result in
    let path = ap (λ (f : SourceFile). string_bytes f.path) c.file_of.ensures in
    let whole = subst (λ t. IsRead t c.in_ok-read.read) c.as_slice.ensures.value c.in_ok-read.ensures in
    let tree = tree_of c.args.text.items file c.in_ok-read.read (ap (λ (f : SourceFile). f.spots) c.file_of.ensures) (ap (λ (f : SourceFile). f.tree) c.file_of.ensures) whole c.in-Ok.ensures.read in
    λ p next. (file, record { same = path ∙ c.in_ok-path.ensures.ok ∙ Some_same _ p (c.in-Some.ensures ∙ next); text = ap (λ (f : SourceFile). f.text.items) c.file_of.ensures; tree = tree }, c.in_ok-push-in-Ok.ensures.items)

pub returns-in_ok-push-in-Err-clause-refused : goal.returns-in_ok-push-in-Err-clause-refused
returns-in_ok-push-in-Err-clause-refused c =
    let old = c.args.self.now in
    let file = c.file_of-in-Err.result in
    let whole = subst (λ t. IsRead t c.in_ok-read.read) c.as_slice.ensures.value c.in_ok-read.ensures in
    let many : c.len-number.result ≡ length old.files.items = omega (arith, c.len-number.ensures, old.files.ok.0) in
    let path = ap (λ (f : SourceFile). string_bytes f.path) c.file_of-in-Err.ensures in
    let next : slice_get (paths_of old.asked) (length old.files.items) ≡ Some (string_bytes file.path) = sym c.in-Some.ensures ∙ ap Some (sym (path ∙ c.in_ok-path.ensures.ok)) in
    refuses_next c.args.text.items old _ file c.len-number.result c.in_ok-read.read c.in-Err.stop next c.in_ok-push-in-Err.ensures.items many (ap (λ (f : SourceFile). f.spots) c.file_of-in-Err.ensures) (ap (λ (f : SourceFile). f.tree) c.file_of-in-Err.ensures) whole c.in-Err.ensures.refused

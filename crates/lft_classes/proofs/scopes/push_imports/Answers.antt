use Rattle.std.proofs.Common.{◌≡◌, ◌<◌, ℕ, length, Some, slice_get, refl, subst, arith}
use Rattle.std.proofs.lemmas.Option.{slice_get_read, slice_get_within}
use Rattle.lft_lists.proofs.Places.{same_some}
use Rattle.lft_whole.specs.declared.tree.ImportedName.{ImportedName}
use Rattle.lft_classes.{specs.inner.Scopes.IsGiven, proofs.{Building.below_one, Meanings.{given_kept, imports_of}}}
use Rattle.lft_classes.proofs.scopes.push_imports.Goals as goal

pub loop-place-preserved : goal.loop-place-preserved
loop-place-preserved c =
    let written = c.args.file.now.tree.imports.items in
    let read = c.args.file.now.imports.items in
    let low : c.loop-place.place < length written = omega arith in
    let high : c.loop-place.place < length read = omega arith in
    let what = c.index-import.result.now in
    let is_written : slice_get written c.loop-place.place ≡ Some what = slice_get_read written (length written) c.loop-place.place what refl low c.index-import.ensures in
    let is_read : slice_get read c.loop-place.place ≡ Some c.index.result.now = slice_get_read read (length read) c.loop-place.place c.index.result.now refl high c.index.ensures in
    let now = c.push_names.new.meanings.items in
    let pushed = c.in_ok-push_names.ensures in
    record {
      meant = λ files at own all. pushed.meant files (record {
        here = c.args.file.now;
        is_here = at;
        place = c.loop-place.place;
        is_written = is_written;
        is_read = is_read;
      }) own (c.loop-place.invariant.meant files at own all);
      kept = λ q n has. pushed.kept q n (c.loop-place.invariant.kept q n has);
      all = λ files own. below_one (λ i w. (other which : ℕ) (name : ImportedName) → slice_get read i ≡ Some other → slice_get w.names.items which ≡ Some name → IsGiven files other name now) written c.loop-place.place what is_written (λ i w lt at other which name there among. given_kept files other name c.loop-place.meanings.items now pushed.kept (c.loop-place.invariant.all files own i w lt at other which name there among)) (λ other which name there among. subst (λ n. IsGiven files n name now) (same_some (slice_get read c.loop-place.place) c.index.result.now other is_read there) (pushed.all files own which name among));
    }

pub returns-clause-all : goal.returns-clause-all
returns-clause-all c files at own = imports_of files c.args.number c.args.file.now c.loop-place.meanings.items at (λ place other what which name written read among.
    let low = slice_get_within c.args.file.now.tree.imports.items place what written in
    let high = slice_get_within c.args.file.now.imports.items place other read in
    c.loop-place.invariant.all files own place what (omega (arith, low, high)) written other which name read among)

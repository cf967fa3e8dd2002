use Rattle.std.proofs.Common.{◌≡◌, ◌<◌, ℕ, List, inr, length, Some, slice_get, string_bytes, refl, sym, subst, arith}
use Rattle.std.proofs.lemmas.Option.{slice_get_read, slice_get_within}
use Rattle.lft_classes.specs.inner.Scopes.{EachMeans, HasMeaning, IsGiven, MeansAt, IsOwn}
use Rattle.lft_classes.proofs.{Building.below_one, Meanings.{given_kept, has_last, has_push, means_push}}
use Rattle.lft_classes.proofs.scopes.push_names.Goals as goal

pub loop-place-preserved : goal.loop-place-preserved
loop-place-preserved c =
    let items = c.args.import.now.names.items in
    let imported = c.index-imported.result.now in
    let before = c.loop-place.meanings.items in
    let within : c.loop-place.place < length items = omega arith in
    let among : slice_get items c.loop-place.place ≡ Some imported = slice_get_read items (length items) c.loop-place.place imported refl within c.index-imported.ensures in
    let kept : (q : List ℕ) (n : ℕ) → HasMeaning before q n → HasMeaning c.push.new.self.items q n = λ q n has. subst (λ ms. HasMeaning ms q n) (sym c.in_ok-push.ensures.items) (has_push before _ q n has) in
    let number = c.in-Some.class.number in
    let named : HasMeaning c.push.new.self.items (string_bytes imported.alias.text) number = subst (λ q. HasMeaning c.push.new.self.items q number) c.as_str-in-loop-place.ensures.value (subst (λ ms. HasMeaning ms c.as_str-in-loop-place.result.now number) (sym c.in_ok-push.ensures.items) (has_last before _)) in
    record {
      meant = λ files is own all. subst (EachMeans (MeansAt files c.args.number)) (sym c.in_ok-push.ensures.items) (means_push (MeansAt files c.args.number) before _ (c.loop-place.invariant.meant files is own all) (inr (
        record {
          other = c.args.target;
          what = c.args.import.now;
          is_import = is;
          place = c.loop-place.place;
          name = imported;
          is_among = among;
          alias = sym c.as_str-in-loop-place.ensures.value;
          is_there = subst (λ q. IsOwn files c.args.target q c.in-Some.class) c.as_str.ensures.value (c.in-Some.ensures.some.1 files own);
          is_not_main = c.in-Some.ensures.some.0;
        },
        refl,
      )));
      kept = λ q n has. kept q n (c.loop-place.invariant.kept q n has);
      all = λ files own. below_one (λ i n. IsGiven files c.args.target n c.push.new.self.items) items c.loop-place.place imported among (λ i n lt at. given_kept files c.args.target n before c.push.new.self.items kept (c.loop-place.invariant.all files own i n lt at)) (c.in-Some.class, (subst (λ q. IsOwn files c.args.target q c.in-Some.class) c.as_str.ensures.value (c.in-Some.ensures.some.1 files own), c.in-Some.ensures.some.0), named);
    }

pub returns-clause-all : goal.returns-clause-all
returns-clause-all c files own which name at =
    let within = slice_get_within c.args.import.now.names.items which name at in
    c.loop-place.invariant.all files own which name (omega (arith, within)) at

use Rattle.std.proofs.Common.{sym, ap, subst}
use Rattle.lft_classes.{specs.inner.Scopes.{AreNumberedClasses, placed, AreOwnScopes}, proofs.Meanings.{all_imports, all_meant, all_once}}
use Rattle.lft_classes.proofs.scopes.ReactorNames.of.Goals as goal

pub returns : goal.returns
returns c =
    let files = c.args.files.now in
    let none = ap placed c.new-classes.ensures.items in
    let meant = c.in_ok-scopes.ensures.meant (subst (AreOwnScopes files) (sym c.deref.ensures.value) (c.in_ok-own.ensures.own none)) in
    record {
      scopes = record {
        reactors = c.in_ok-own.ensures.classes none;
        numbers = c.in_ok-own.ensures.numbers (subst AreNumberedClasses (sym c.new-classes.ensures.items) (λ i d at. absurd (cc)));
        meanings = all_meant files (record { classes = c.own_scopes.new.classes; scopes = c.in_ok-scopes.scopes }) meant;
        once = all_once files (record { classes = c.own_scopes.new.classes; scopes = c.in_ok-scopes.scopes }) meant;
        imports = all_imports files (record { classes = c.own_scopes.new.classes; scopes = c.in_ok-scopes.scopes }) meant;
      };
    }

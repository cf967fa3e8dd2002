use Rattle.std.proofs.Common.{◌<◌, length, Some, sym, subst, arith, string_bytes}
use Rattle.std.specs.Prelude.{option_map}
use Rattle.std.{specs.BTreeSet.contains_text, proofs.lemmas.List.{length-map, map-set}}
use Rattle.lft_lower.{specs.inner.Meanings.Names.{AreNamesApart, texts}, proofs.MeaningsLemmas.Apart.{AreIn, apart_more, taken_more, taken_still}}
use Rattle.lft_lower.proofs.meanings.naming.CoreNames.put.Goals as goal

pub returns-then-setting-len-clause-names : goal.returns-then-setting-len-clause-names
returns-then-setting-len-clause-names c =
    let old = c.args.self.now in
    let new = c.take.new.self in
    let q = string_bytes c.in_ok-name.name in
    let before = contains_text old.taken in
    let after = contains_text new.taken in
    let apart = subst (λ v. AreNamesApart (texts v.items)) (sym c.in_ok-name.ensures.found) c.requires.apart in
    let known = subst (λ v. AreIn (texts v.items) before) (sym c.in_ok-name.ensures.found) c.requires.taken in
    let within : c.args.setting < length (texts new.found.items) = omega (arith, length-map new.found.items (λ name. option_map (λ text. string_bytes text) name)) in
    let written = map-set (λ name. option_map (λ text. string_bytes text) name) new.found.items c.args.setting (Some c.in_ok-name.name) in
    record {
      apart = subst AreNamesApart (sym written) (apart_more (texts new.found.items) before c.args.setting q within apart known c.in_ok-name.ensures.free);
      taken = subst (λ ns. AreIn ns after) (sym written) (taken_more (texts new.found.items) before after c.args.setting q within known c.in_ok-name.ensures.taken);
    }

pub returns-else-setting-len-clause-names : goal.returns-else-setting-len-clause-names
returns-else-setting-len-clause-names c =
    let old = c.args.self.now in
    let new = c.take.new.self in
    let before = contains_text old.taken in
    let known = subst (λ v. AreIn (texts v.items) before) (sym c.in_ok-name.ensures.found) c.requires.taken in
    record {
      apart = subst (λ v. AreNamesApart (texts v.items)) (sym c.in_ok-name.ensures.found) c.requires.apart;
      taken = taken_still (texts new.found.items) before (contains_text new.taken) (string_bytes c.in_ok-name.name) known c.in_ok-name.ensures.taken;
    }

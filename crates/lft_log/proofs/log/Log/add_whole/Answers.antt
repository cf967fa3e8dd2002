use Rattle.std.proofs.Common.{◌∙◌, ◌++◌, ℕ, Vec, refl, sym, ap, subst}
use Rattle.std.{specs.declared.alloc.Global.Global, proofs.lemmas.Result.{IfOk-weaker, IfErr-weaker}}
use Rattle.lft_tables.specs.Parts.{EndsLine}
use Rattle.lft_log.proofs.{Ends.ends_behind, Keeping.{kept_all, with_fact}}
use Rattle.lft_log.proofs.log.Log.add_whole.Goals as goal

pub add_lines-requires : goal.add_lines-requires
add_lines-requires c =
    let more = c.args.more.now in
    let rest = c.args.self.now.rest.items in
    let stands = c.requires.stands in
    let parted = c.as_slice.ensures.value ∙ c.in-Ok.ensures.items ∙ ap (λ (v : Vec ℕ Global). v.items ++ more) c.replace-lines.ensures.value in
    record {
      lines = subst EndsLine (sym parted) (ends_behind rest more c.requires.line);
      stands = (stands.0, stands.1, stands.2 ++ more, kept_all stands.0 c.args.plan.now stands.1 stands.2 rest more c.as_slice.result.now c.args.self.now _ parted refl refl refl refl refl stands.3.kept);
    }

pub returns-clause-told : goal.returns-clause-told
returns-clause-told c = IfOk-weaker c.add_lines.result _ _ (λ o told base until bytes is.
    let more = c.args.more.now in
    let parted = c.as_slice.ensures.value ∙ c.in-Ok.ensures.items ∙ ap (λ (v : Vec ℕ Global). v.items ++ more) c.replace-lines.ensures.value in
    let none = ap (λ (v : Vec ℕ Global). v.items) (c.add_lines.ensures.rest ∙ c.replace-lines.ensures.after) ∙ c.new.ensures.items in
    with_fact _ _ _ o (told base until (bytes ++ more) (kept_all base c.args.plan.now until bytes c.args.self.now.rest.items more c.as_slice.result.now c.args.self.now _ parted refl refl refl refl refl is.kept)) none) c.add_lines.ensures.told

pub returns-clause-fault : goal.returns-clause-fault
returns-clause-fault c = IfErr-weaker c.add_lines.result _ _ (λ f told base until bytes is.
    let more = c.args.more.now in
    let parted = c.as_slice.ensures.value ∙ c.in-Ok.ensures.items ∙ ap (λ (v : Vec ℕ Global). v.items ++ more) c.replace-lines.ensures.value in
    told base until (bytes ++ more) (kept_all base c.args.plan.now until bytes c.args.self.now.rest.items more c.as_slice.result.now c.args.self.now _ parted refl refl refl refl refl is.kept)) c.add_lines.ensures.fault

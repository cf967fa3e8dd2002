use Rattle.std.proofs.Common.{ℕ, List, inr, refl, sym, subst}
use Rattle.std.proofs.lemmas.Result.{IfOk-weaker, IfErr-weaker}
use Rattle.lft_log.{specs.Logs.{BeginsWithLine, IsHead}, proofs.{Ends.lines_below, Odd.no_head, Keeping.{begun_as, only_kept}}}
use Rattle.lft_log.proofs.log.Log.add_lines.Goals as goal

pub add_body-requires : goal.add_body-requires
add_body-requires c =
    let stands = c.requires.stands in
    let body = c.in-Some.body.now in
    record {
      lines = lines_below c.args.self.now.is_begun c.args.lines.now body c.in-Some.ensures.begun c.in-Some.ensures.fresh (inr c.requires.lines);
      stands = (stands.0, stands.1, stands.2, begun_as stands.0 c.args.plan.now stands.1 stands.2 c.args.lines.now body c.args.self.now _ refl refl refl refl refl c.in-Some.ensures.begun c.in-Some.ensures.fresh stands.3);
    }

pub returns-clause-told : goal.returns-clause-told
returns-clause-told c = IfOk-weaker c.add_body.result _ _ (λ o told base until bytes is. only_kept _ _ _ o (told base until bytes (begun_as base c.args.plan.now until bytes c.args.lines.now c.in-Some.body.now c.args.self.now _ refl refl refl refl refl c.in-Some.ensures.begun c.in-Some.ensures.fresh is))) c.add_body.ensures.told

pub returns-clause-fault : goal.returns-clause-fault
returns-clause-fault c = IfErr-weaker c.add_body.result _ _ (λ f told base until bytes is. told base until bytes (begun_as base c.args.plan.now until bytes c.args.lines.now c.in-Some.body.now c.args.self.now _ refl refl refl refl refl c.in-Some.ensures.begun c.in-Some.ensures.fresh is)) c.add_body.ensures.fault

pub returns-in_default-clause-fault : goal.returns-in_default-clause-fault
returns-in_default-clause-fault c = λ base until bytes is.
    let none = c.in_default.ensures.none in
    subst (λ (x : List ℕ). BeginsWithLine (λ line. ¬ IsHead line) x) (sym (is.fresh none.0).0) (no_head c.args.lines.now c.requires.lines none.1)

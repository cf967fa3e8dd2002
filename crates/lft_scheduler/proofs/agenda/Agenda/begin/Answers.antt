use Rattle.std.proofs.Common.{◌≡◌, ◌∷◌, [], ◌++◌, List, Option, sym, ap, ◌∙◌, subst}
use Rattle.lft_ir.specs.declared.parts.Value.{Value}
use Rattle.lft_model.specs.Recorded.{begun_rows}
use Rattle.lft_scheduler.{specs.{declared.open.OpenRun.OpenRun, inner.Agendas.{AgendaParts, IsAgenda}}, proofs.Ending.begun_agenda}
use Rattle.lft_scheduler.proofs.agenda.Agenda.begin.Goals as goal

pub returns-clause-ok : goal.returns-clause-ok
returns-clause-ok c = λ plan t good is may.
    let a : AgendaParts = record { runs = c.self.inside.runs.items; queue = c.self.inside.queue; firings = c.self.inside.firings; turn = c.self.inside.turn; from = c.self.inside.from; stop = c.self.inside.stop; listeners = c.self.inside.listeners; arrivals = c.self.inside.arrivals } in
    let reads : c.from_vec-reads.result ≡ c.args.reads.now = c.from_vec-reads.ensures ∙ c.in-Ok.ensures.items ∙ c.as_slice.ensures in
    let its : OpenRun = record { worker = c.args.worker; tag = c.args.tag; reaction = c.args.reaction; reads = c.from_vec-reads.result } in
    let its_is : its ≡ record { worker = c.args.worker; tag = c.args.tag; reaction = c.args.reaction; reads = c.args.reads.now } = ap (λ (os : List (Option Value)). let o : OpenRun = record { worker = c.args.worker; tag = c.args.tag; reaction = c.args.reaction; reads = os } in o) reads in
    let more : c.push.new.self.items ≡ c.self.inside.runs.items ++ its ∷ [] = c.in-Ok-push.ensures.items in
    let all : IsAgenda plan (t ++ begun_rows plan c.args.worker c.args.tag c.args.reaction c.args.reads.now) (record a { runs = a.runs ++ its ∷ []; turn = c.start.new.turn }) = begun_agenda plan good t c.args.worker c.args.tag c.args.reaction c.args.reads.now may a (subst (λ (x : AgendaParts). IsAgenda plan t x) (sym c.self.view_is) is) its c.start.new.turn its_is c.start.ensures.graph c.start.ensures.count c.start.ensures.opens in
    subst (λ (rs : List OpenRun). IsAgenda plan (t ++ begun_rows plan c.args.worker c.args.tag c.args.reaction c.args.reads.now) (record a { runs = rs; turn = c.start.new.turn })) (sym more) all

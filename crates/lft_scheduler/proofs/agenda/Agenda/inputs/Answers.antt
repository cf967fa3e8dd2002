use Rattle.std.proofs.Common.{◌≡◌, List, Option, map, sym, ap, ◌∙◌, subst, unwrap_or, option_map, []}
use Rattle.lft_tag.specs.{declared.Tag.Tag, Tags.UpTo}
use Rattle.lft_ir.specs.{Parts.inputs, declared.parts.{Name.Name, Value.Value, Reaction.Reaction}}
use Rattle.lft_lists.proofs.Places.{get_there}
use Rattle.lft_queue.specs.Pending.{value_of}
use Rattle.lft_model.{specs.{Presence.Inputs, Runs.inputs_of}, proofs.Quiet.pending_time}
use Rattle.lft_scheduler.{proofs.Given.inputs_read, specs.{Starts.SomethingLeft, inner.Agendas.{AgendaParts, IsAgenda}}}
use Rattle.std.proofs.lemmas.Result.{IfOk-weaker}
use Rattle.lft_scheduler.proofs.agenda.Agenda.inputs.Goals as goal

pub returns : goal.returns
returns c = λ t is so_far quiet may.
    let plan = c.args.plan.now in
    let a : AgendaParts = record { runs = c.self.inside.runs.items; queue = c.self.inside.queue; firings = c.self.inside.firings; turn = c.self.inside.turn; from = c.self.inside.from; stop = c.self.inside.stop; listeners = c.self.inside.listeners; arrivals = c.self.inside.arrivals } in
    let its : IsAgenda plan t a = subst (λ (x : AgendaParts). IsAgenda plan t x) (sym c.self.view_is) is in
    let x = get_there plan.program.reactions c.args.reaction c.requires in
    let names : inputs_of plan.program c.args.reaction ≡ inputs x.0 = ap (λ (o : Option Reaction). unwrap_or (option_map inputs o) []) x.1 in
    let left : SomethingLeft plan t = (c.args.tag, c.args.reaction, may.ready.pending) in
    let early : UpTo c.args.tag a.stop = subst (λ (k : Tag). UpTo c.args.tag k) (sym its.stop_is) (pending_time plan c.keeps.ensures.sound t so_far quiet c.args.tag c.args.reaction may.ready.pending) in
    let read : Inputs plan t c.args.tag c.args.reaction (map (λ n. value_of c.args.tag n a.queue) (inputs x.0)) = inputs_read plan t a.from a.stop a.queue (its.current.events left) c.args.tag ((its.current.least left).least c.args.tag c.args.reaction may.ready.pending) early c.args.reaction x.0 x.1 in
    IfOk-weaker c.read_inputs.result (λ reads. reads ≡ map (λ n. value_of c.args.tag n a.queue) (inputs_of plan.program c.args.reaction)) (Inputs plan t c.args.tag c.args.reaction) (λ reads e. subst (λ (os : List (Option Value)). Inputs plan t c.args.tag c.args.reaction os) (sym (e ∙ ap (λ (ns : List Name). map (λ n. value_of c.args.tag n a.queue) ns) names)) read) c.read_inputs.ensures

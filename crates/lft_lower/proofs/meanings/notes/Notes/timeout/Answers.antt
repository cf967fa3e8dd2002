use Rattle.std.proofs.Common.{◌∙◌, ◌++◌, OnOk, ap, subst}
use Rattle.lft_lower.specs.inner.Meanings.Notes.{IsSaid, note_begin, stop_words}
use Rattle.lft_lower.proofs.meanings.notes.Notes.timeout.Goals as goal

pub returns-clause-said : goal.returns-clause-said
returns-clause-said c =
    let begin = note_begin c.args.self.now.files.now 0 c.args.timeout.now.at in
    λ short. subst (λ text. OnOk c.say.result (IsSaid text c.args.self.now c.say.new.self)) (c.in_ok-push_stop.ensures ∙ ap (λ line. line ++ stop_words c.in-Some.stop) c.in_ok-line.ensures ∙ ap (λ n. begin ++ stop_words n) c.in-Some.ensures.0) c.say.ensures

use Rattle.std.proofs.Common.{◌≡◌, ◌<◌, inl, inr, ℕ, length, Some, None, false, slice_get, refl, sym, ap, ◌∙◌, subst, arith, eqb-true, eq-eqb}
use Rattle.std.proofs.lemmas.Option.{slice_get_read}
use Rattle.lft_scheduler.specs.inner.{Listeners.IsWatched, Filling.{WatchedParts, AreWatched}}
use Rattle.lft_scheduler.proofs.Watching.{watched_known, watched_first}
use Rattle.lft_scheduler.proofs.listeners.watched.Watched.has.Goals.{then-index-via-then-index, then-index-via-else-index+then-origin-number}
use Rattle.lft_graph.proofs.Feeding.{origin_there}
use Rattle.lft_scheduler.proofs.listeners.watched.Watched.has.Goals as goal

pub returns-then-index : goal.returns-then-index
returns-then-index c =
    let program = c.args.program.now in
    let n = c.args.number in
    let port = c.port.result.now in
    let a : WatchedParts = record { read = c.self.inside.read.items; firsts = c.self.inside.firsts.items } in
    let is : AreWatched program a = subst (λ (x : WatchedParts). AreWatched program x) (sym c.self.view_is) c.requires.watched in
    let inside : port.origin < length program.ports = origin_there program c.port.ensures.sound n port c.port.ensures.value in
    let within = c.requires.number in
    let as_long = is.read.as_long in
    let known = watched_known program c.port.ensures.sound a is n port c.port.ensures.value inside in
    let read : slice_get a.read n ≡ Some c.index.result.now = slice_get_read a.read (length a.read) n c.index.result.now refl (omega arith) c.index.ensures in
    let watched : IsWatched program n = elim c.then-index.branch [
      | then-index-via-then-index w ↦ known.0 (inl (read ∙ ap Some w.if-index.true))
      | then-index-via-else-index+then-origin-number w ↦ known.0 (inr (inl w.if-origin-number.true))
    ] in
    (λ z. watched, λ w. refl)

pub index-requires-2 : goal.index-requires-2
index-requires-2 c =
    let program = c.args.program.now in
    let a : WatchedParts = record { read = c.self.inside.read.items; firsts = c.self.inside.firsts.items } in
    let is : AreWatched program a = subst (λ (x : WatchedParts). AreWatched program x) (sym c.self.view_is) c.requires.watched in
    let inside : c.port.result.now.origin < length program.ports = origin_there program c.port.ensures.sound c.args.number c.port.result.now c.port.ensures.value in
    let as_long = is.firsts.as_long in
    omega arith

pub returns-in-Some : goal.returns-in-Some
returns-in-Some c =
    let program = c.args.program.now in
    let n = c.args.number in
    let port = c.port.result.now in
    let a : WatchedParts = record { read = c.self.inside.read.items; firsts = c.self.inside.firsts.items } in
    let is : AreWatched program a = subst (λ (x : WatchedParts). AreWatched program x) (sym c.self.view_is) c.requires.watched in
    let inside : port.origin < length program.ports = origin_there program c.port.ensures.sound n port c.port.ensures.value in
    let within = c.requires.number in
    let as_long = is.read.as_long in
    let as_many = is.firsts.as_long in
    let read : slice_get a.read n ≡ Some false = slice_get_read a.read (length a.read) n c.index.result.now refl (omega arith) c.index.ensures ∙ ap Some c.if-index.false in
    let first : slice_get a.firsts port.origin ≡ Some (Some c.in-Some.first) = slice_get_read a.firsts (length a.firsts) port.origin c.index-2.result.now refl (omega arith) c.index-2.ensures ∙ ap Some c.in-Some.is in (
      λ z. (let same : c.in-Some.first ≡ n = eqb-true c.in-Some.first n z in (watched_known program c.port.ensures.sound a is n port c.port.ensures.value inside).0 (inr (inr (first ∙ ap (λ (i : ℕ). Some (Some i)) same)))),
      λ w. (let e : Some c.in-Some.first ≡ Some n = watched_first program c.port.ensures.sound a is n port c.port.ensures.value inside read c.if-origin-number.false (Some c.in-Some.first) first w in let same : c.in-Some.first ≡ n = cc in eq-eqb c.in-Some.first n same),
    )

pub returns-in-None : goal.returns-in-None
returns-in-None c =
    let program = c.args.program.now in
    let n = c.args.number in
    let port = c.port.result.now in
    let a : WatchedParts = record { read = c.self.inside.read.items; firsts = c.self.inside.firsts.items } in
    let is : AreWatched program a = subst (λ (x : WatchedParts). AreWatched program x) (sym c.self.view_is) c.requires.watched in
    let inside : port.origin < length program.ports = origin_there program c.port.ensures.sound n port c.port.ensures.value in
    let within = c.requires.number in
    let as_long = is.read.as_long in
    let as_many = is.firsts.as_long in
    let read : slice_get a.read n ≡ Some false = slice_get_read a.read (length a.read) n c.index.result.now refl (omega arith) c.index.ensures ∙ ap Some c.if-index.false in
    let first : slice_get a.firsts port.origin ≡ Some None = slice_get_read a.firsts (length a.firsts) port.origin c.index-2.result.now refl (omega arith) c.index-2.ensures ∙ ap Some c.in-None.is in (
      λ z. absurd (cc),
      λ w. (let e : None ≡ Some n = watched_first program c.port.ensures.sound a is n port c.port.ensures.value inside read c.if-origin-number.false None first w in absurd (cc)),
    )

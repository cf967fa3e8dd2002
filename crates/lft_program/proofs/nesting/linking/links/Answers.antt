use Rattle.std.proofs.Common.{◌≡◌, ℕ, length, ⊎_elim, arith, subst, sym}
use Rattle.std.proofs.lemmas.Option.{slice_get_within}
use Rattle.lft_tree.specs.Tree.{reactors_of}
use Rattle.lft_resolve.{proofs.ExpansionLemmas.Chains.leads_from, specs.{Causes.IsFirst, inner.Expansion.Sources.{AreReached, LeadsBackwards}}}
use Rattle.lft_validate.{specs.{Members.reactors_among, inner.Witnesses.time_causes}, proofs.Sound.{first_shown, none_shown}}
use Rattle.lft_program.specs.inner.{Linking.IsTooLong, Links.last_causes, Ways.{IsLongChain, IsRing}}
use Rattle.lft_program.proofs.{Connected.{ports_read, apart_read, sources_read}, Lengths.time_is_cause}
use Rattle.lft_program.proofs.{Reaching.{first_cycle, first_long, first_sum, no_cause, are_links}, Told.{long_read, ring_read, sites_read}}
use Rattle.lft_program.proofs.nesting.linking.links.Goals.{In-Err, In-Ok}
use Rattle.lft_program.proofs.nesting.linking.links.Goals as goal

pub find_sources-requires-clause-ports : goal.find_sources-requires-clause-ports
find_sources-requires-clause-ports c = ports_read c.requires.tables c.requires.nest c.requires.lawful c.deref-2.ensures.value c.deref.ensures.value c.deref-3.ensures.value c.deref-4.ensures.value

pub find_sources-requires-clause-apart : goal.find_sources-requires-clause-apart
find_sources-requires-clause-apart c = apart_read c.requires.tables c.requires.nest c.requires.lawful c.deref-2.ensures.value c.deref.ensures.value c.deref-3.ensures.value c.deref-4.ensures.value

-- the port to which its chain comes back
leads : (c : goal.In-Err) → LeadsBackwards c.in_ok-found.found.sources.items c.in-Err.port c.in-Err.port
leads c = rw (← c.deref-5.ensures.value) (rw c.in-Err.is at c.in_ok-reached.ensures.cycle)

-- where there is none
ends : (c : goal.In-Ok) → (p : ℕ) → LeadsBackwards c.in_ok-found.found.sources.items p p → ⊥
ends c = rw (← c.deref-5.ensures.value) (rw c.in-Ok.is at c.in_ok-reached.ensures.ends)

reached : (c : goal.In-Ok) → AreReached c.in_ok-found.found.sources.items c.in-Ok.reached.items
reached c = rw (← c.deref-5.ensures.value) (rw c.in-Ok.is at c.in_ok-reached.ensures.reached)

pub returns-in-Err-clause-first : goal.returns-in-Err-clause-first
returns-in-Err-clause-first c =
    let read = sources_read c.requires.tables c.requires.nest c.requires.lawful c.deref-2.ensures.value c.deref.ensures.value c.deref-3.ensures.value c.deref-4.ensures.value c.in_ok-found.found.sources.items c.in_ok-found.ensures.sources c.requires.nest in
    let port = c.in-Err.port in
    λ _. first_cycle c.requires.nest.located read port (leads ((goal.at.returns-in-Err-clause-first c).In-Err))

pub way_to-requires-clause-known : goal.way_to-requires-clause-known
way_to-requires-clause-known c =
    let port = c.in-Err.port in
    leads_from c.in_ok-found.found.sources.items port port (leads ((goal.at.way_to-requires-clause-known c).In-Err))

pub way_to-requires-clause-sites : goal.way_to-requires-clause-sites
way_to-requires-clause-sites c = sites_read c.requires.tables c.requires.nest c.requires.lawful c.deref-2.ensures.value c.deref.ensures.value c.deref-3.ensures.value c.deref-4.ensures.value c.in_ok-found.found c.in_ok-found.ensures.sources c.in_ok-found.ensures.sites

pub returns-in-Err-clause-tells : goal.returns-in-Err-clause-tells
returns-in-Err-clause-tells c =
    let port = c.in-Err.port in
    let way = c.in_ok-way-in-Err.way in
    subst (λ t. IsRing t way) c.requires.tree (ring_read c.requires.tables c.requires.nest c.requires.lawful c.deref-2.ensures.value c.deref.ensures.value c.deref-3.ensures.value c.deref-4.ensures.value c.in_ok-found.found c.in_ok-found.ensures.sources c.in_ok-found.ensures.sites port (leads ((goal.at.returns-in-Err-clause-tells c).In-Err)) way c.in_ok-way-in-Err.ensures.instances c.in_ok-way-in-Err.ensures.back)

pub returns-in-Some-clause-first : goal.returns-in-Some-clause-first
returns-in-Some-clause-first c =
    let tree = c.args.scopes.now in
    let rs = reactors_of tree in
    let read = sources_read c.requires.tables c.requires.nest c.requires.lawful c.deref-2.ensures.value c.deref.ensures.value c.deref-3.ensures.value c.deref-4.ensures.value c.in_ok-found.found.sources.items c.in_ok-found.ensures.sources c.requires.nest in
    let shown = first_shown (reactors_among c.args.ast.now.items.items) (time_causes rs) c.in_ok-witness.field-0 c.in-Some.witness c.in_ok-witness.ensures c.in-Some.is in
    λ _. ⊎_elim (λ here. subst (IsFirst (last_causes tree)) (sym here.0) (first_long c.requires.nest.located read (ends ((goal.at.returns-in-Some-clause-first c).In-Ok)) (time_is_cause tree here.1))) (λ later. absurd later.1) shown.1

pub returns-in-Some-clause-tells : goal.returns-in-Some-clause-tells
returns-in-Some-clause-tells c =
    let rs = reactors_of c.args.scopes.now in
    (first_shown (reactors_among c.args.ast.now.items.items) (time_causes rs) c.in_ok-witness.field-0 c.in-Some.witness c.in_ok-witness.ensures c.in-Some.is).0

pub returns-in-Ok-2-clause-links : goal.returns-in-Ok-2-clause-links
returns-in-Ok-2-clause-links c n =
    let rs = reactors_of c.args.scopes.now in
    let read = sources_read c.requires.tables c.requires.nest c.requires.lawful c.deref-2.ensures.value c.deref.ensures.value c.deref-3.ensures.value c.deref-4.ensures.value c.in_ok-found.found.sources.items c.in_ok-found.ensures.sources n in
    let short = (none_shown (reactors_among c.args.ast.now.items.items) (time_causes rs) c.in_ok-witness.field-0 c.in_ok-witness.ensures c.in_default.is).0 in
    let linked = rw c.in-Ok-2.is at c.in_ok-links.ensures.linked in
    are_links n.located read (ends ((goal.at.returns-in-Ok-2-clause-links c).In-Ok)) short c.in-Ok.reached.items (reached ((goal.at.returns-in-Ok-2-clause-links c).In-Ok)) c.in-Ok-2.links.items (rw (← c.deref-6.ensures.value, ← c.deref-7.ensures.value) linked)

pub returns-in-Ok-2-clause-none : goal.returns-in-Ok-2-clause-none
returns-in-Ok-2-clause-none c =
    let rs = reactors_of c.args.scopes.now in
    let read = sources_read c.requires.tables c.requires.nest c.requires.lawful c.deref-2.ensures.value c.deref.ensures.value c.deref-3.ensures.value c.deref-4.ensures.value c.in_ok-found.found.sources.items c.in_ok-found.ensures.sources c.requires.nest in
    let short = (none_shown (reactors_among c.args.ast.now.items.items) (time_causes rs) c.in_ok-witness.field-0 c.in_ok-witness.ensures c.in_default.is).0 in
    let linked = rw c.in-Ok-2.is at c.in_ok-links.ensures.linked in
    no_cause c.requires.nest.located read (ends ((goal.at.returns-in-Ok-2-clause-none c).In-Ok)) short c.in-Ok.reached.items (reached ((goal.at.returns-in-Ok-2-clause-none c).In-Ok)) c.in-Ok-2.links.items (rw (← c.deref-6.ensures.value, ← c.deref-7.ensures.value) linked)

pub first_long-first-requires-clause-inside : goal.first_long-first-requires-clause-inside
first_long-first-requires-clause-inside c = rw c.deref-in-Err-2.ensures.value c.in_ok-found.ensures.inside

pub first_long-first-requires-clause-as_long : goal.first_long-first-requires-clause-as_long
first_long-first-requires-clause-as_long c = rw (c.deref-in-Err-2.ensures.value, c.deref-in-Err-2-2.ensures.value) (reached ((goal.at.first_long-first-requires-clause-as_long c).In-Ok)).as_long

pub first_long-first-requires-clause-long : goal.first_long-first-requires-clause-long
first_long-first-requires-clause-long c =
    let long = rw c.in-Err-2.is at c.in_ok-links.ensures.long in
    rw (c.deref-in-Err-2-2.ensures.value, ← c.deref-7.ensures.value) long

pub way_to-requires-in-Err-2-clause-known : goal.way_to-requires-in-Err-2-clause-known
way_to-requires-in-Err-2-clause-known c =
    let long : IsTooLong c.in-Ok.reached.items c.first_long-first.result = rw (← c.deref-in-Err-2-2.ensures.value) c.first_long-first.ensures in
    let within = slice_get_within c.in-Ok.reached.items c.first_long-first.result long.0 long.1 in
    let same : length c.in-Ok.reached.items ≡ length c.in_ok-found.found.sources.items = (reached ((goal.at.way_to-requires-in-Err-2-clause-known c).In-Ok)).as_long in
    omega (arith, within, same)

pub way_to-requires-in-Err-2-clause-sites : goal.way_to-requires-in-Err-2-clause-sites
way_to-requires-in-Err-2-clause-sites c = sites_read c.requires.tables c.requires.nest c.requires.lawful c.deref-2.ensures.value c.deref.ensures.value c.deref-3.ensures.value c.deref-4.ensures.value c.in_ok-found.found c.in_ok-found.ensures.sources c.in_ok-found.ensures.sites

pub returns-clause-first : goal.returns-clause-first
returns-clause-first c =
    let rs = reactors_of c.args.scopes.now in
    let read = sources_read c.requires.tables c.requires.nest c.requires.lawful c.deref-2.ensures.value c.deref.ensures.value c.deref-3.ensures.value c.deref-4.ensures.value c.in_ok-found.found.sources.items c.in_ok-found.ensures.sources c.requires.nest in
    let short = (none_shown (reactors_among c.args.ast.now.items.items) (time_causes rs) c.in_ok-witness.field-0 c.in_ok-witness.ensures c.in_default.is).0 in
    let long : IsTooLong c.in-Ok.reached.items c.first_long-first.result = rw (← c.deref-in-Err-2-2.ensures.value) c.first_long-first.ensures in
    λ _. first_sum c.requires.nest.located read (ends ((goal.at.returns-clause-first c).In-Ok)) short c.in-Ok.reached.items (reached ((goal.at.returns-clause-first c).In-Ok)) c.first_long-first.result long

pub returns-clause-tells : goal.returns-clause-tells
returns-clause-tells c =
    let rs = reactors_of c.args.scopes.now in
    let short = (none_shown (reactors_among c.args.ast.now.items.items) (time_causes rs) c.in_ok-witness.field-0 c.in_ok-witness.ensures c.in_default.is).0 in
    let long : IsTooLong c.in-Ok.reached.items c.first_long-first.result = rw (← c.deref-in-Err-2-2.ensures.value) c.first_long-first.ensures in
    subst (λ t. IsLongChain t c.in_ok-way-in-Err-2.way) c.requires.tree (long_read c.requires.tables c.requires.nest c.requires.lawful c.deref-2.ensures.value c.deref.ensures.value c.deref-3.ensures.value c.deref-4.ensures.value c.in_ok-found.found c.in_ok-found.ensures.sources c.in_ok-found.ensures.sites (ends ((goal.at.returns-clause-tells c).In-Ok)) short c.in-Ok.reached.items (reached ((goal.at.returns-clause-tells c).In-Ok)) c.first_long-first.result long c.in_ok-way-in-Err-2.way c.in_ok-way-in-Err-2.ensures.instances c.in_ok-way-in-Err-2.ensures.back)

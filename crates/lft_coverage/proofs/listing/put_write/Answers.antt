use Rattle.std.proofs.Common.{◌≡◌, ◌∙◌, ℕ, sym, ap, eq-eqb, true, false}
use Rattle.std.specs.Prelude.{[], ◌++◌, List, codes, decimal, if◌then◌else◌, unwrap_or, option_map, slice_get, ◌==◌}
use Rattle.std.proofs.lemmas.Bool.{ne_eqb}
use Rattle.lft_coverage.{specs.Facts.is_origin, proofs.Taking.{took_both, took_nothing, took_so}}
use Rattle.lft_coverage.proofs.listing.put_write.Goals as goal

pub returns-then-port : goal.returns-then-port
returns-then-port g c =
    let program = c.args.program.now in
    let p = c.args.port in
    let name : List ℕ = c.name_of_port.result.now in
    let is : is_origin c.args.program.now c.args.port ≡ true = ap (λ o. unwrap_or (option_map (λ x. x.origin == p) o) false) c.port.ensures.value ∙ eq-eqb c.port.result.now.origin p c.if-port.true in
    took_so (ap (λ (s : List ℕ). codes "port " ++ s ++ codes " writes=" ++ decimal c.args.writes ++ codes "\n") (sym (ap (λ o. unwrap_or o []) c.name_of_port.ensures.value)) ∙ ap (λ b. if b then codes "port " ++ unwrap_or (slice_get program.names.ports p) [] ++ codes " writes=" ++ decimal c.args.writes ++ codes "\n" else []) (sym is))
    (took_both (took_both (took_both (took_both c.put-whole.ensures c.put-whole-then-port.ensures) c.put-whole-then-port-2.ensures) c.put_number-whole.ensures) c.put.ensures)

pub returns : goal.returns
returns g c =
    let program = c.args.program.now in
    let p = c.args.port in
    let is : is_origin c.args.program.now c.args.port ≡ false = ap (λ o. unwrap_or (option_map (λ x. x.origin == p) o) false) c.port.ensures.value ∙ ne_eqb c.port.result.now.origin p c.if-port.false in
    took_so (ap (λ b. if b then codes "port " ++ unwrap_or (slice_get program.names.ports p) [] ++ codes " writes=" ++ decimal c.args.writes ++ codes "\n" else []) (sym is)) (took_nothing _ _)

use Rattle.std.proofs.Common.{◌≡◌, ◌+◌, ◌-◌, ◌++◌, ◌∷◌, [], refl, ap, ◌∙◌, arith}
use Rattle.lft_facts.specs.inner.Enough.{Adds}
use Rattle.lft_facts.proofs.{RowGiving.{row_proves, row_holds, row_own, own_breaks, own_tag, own_reaction}, Added.{adds_row, adds_holds, adds_own}}
use Rattle.lft_facts.proofs.rows.of_row.Goals.{In_ok-add_row_reasons}
use Rattle.lft_facts.specs.declared.facts.Fact.TheVariants as fact
use Rattle.lft_facts.proofs.rows.of_row.Goals as goal

pub row_fact-fact-requires-clause-breaks : goal.row_fact-fact-requires-clause-breaks
row_fact-fact-requires-clause-breaks c =
    let b = c.args.breach in
    let x = c.requires.breach in
    let i = b.row - 2 in
    let e : b.row ≡ x.place + 2 = x.row_is in
    let line : b.row ≡ i + 2 = omega arith in
    (c.args.plan.now, own_breaks c.args.plan.now c.args.rows.now b x i line c.row_at-row.result c.row_at-row.ensures)

-- the two facts that are enough
all : (c : In_ok-add_row_reasons) → c.push-2.new.self.items ≡ fact.RowIs c.row_at-row.result.tag c.row_at-row.result.reaction (c.args.breach.row - 2) ∷ fact.Row c.row_fact-fact.result ∷ []
all c = c.in_ok-push-2.ensures.items ∙ ap (λ fs. fs ++ fact.Row c.row_fact-fact.result ∷ []) (c.in_ok-push.ensures.items ∙ ap (λ fs. fs ++ fact.RowIs c.row_at-row.result.tag c.row_at-row.result.reaction (c.args.breach.row - 2) ∷ []) c.new-facts.ensures.items)

-- the reasons behind them
adds : (c : In_ok-add_row_reasons) → Adds c.args.breach c.args.plan.now c.args.rows.now c.push-2.new.self.items c.add_row_reasons.new.facts.items
adds c =
    let x = c.requires.breach in
    let e : c.args.breach.row ≡ x.place + 2 = x.row_is in
    let same = c.row_fact-fact.ensures.row in
    c.in_ok-add_row_reasons.ensures c.args.breach (omega arith)

pub returns-clause-enough : goal.returns-clause-enough
returns-clause-enough c =
    let plan = c.args.plan.now in
    let t = c.args.rows.now in
    let b = c.args.breach in
    let x = c.requires.breach in
    let i = b.row - 2 in
    let row = c.row_at-row.result in
    let e : b.row ≡ x.place + 2 = x.row_is in
    let line : b.row ≡ i + 2 = omega arith in
    adds_row plan t c.push-2.new.self.items c.add_row_reasons.new.facts.items b (adds c)
    (row_proves b row.tag row.reaction i c.row_fact-fact.result c.push-2.new.self.items (all c) (own_tag plan t b x i line row c.row_at-row.ensures) (own_reaction plan t b x i line row c.row_at-row.ensures) line c.row_fact-fact.ensures.gives)

pub returns-clause-holds : goal.returns-clause-holds
returns-clause-holds c =
    let plan = c.args.plan.now in
    let t = c.args.rows.now in
    let b = c.args.breach in
    let x = c.requires.breach in
    let i = b.row - 2 in
    let row = c.row_at-row.result in
    let e : b.row ≡ x.place + 2 = x.row_is in
    let line : b.row ≡ i + 2 = omega arith in
    adds_holds plan t c.push-2.new.self.items c.add_row_reasons.new.facts.items (adds c)
    (row_holds plan t row.tag row.reaction i c.row_fact-fact.result c.push-2.new.self.items (all c) (record { row = row; is_row = c.row_at-row.ensures; tag_is = refl; reaction_is = refl }) (c.row_fact-fact.ensures.holds plan (own_breaks plan t b x i line row c.row_at-row.ensures)))

pub returns-clause-own : goal.returns-clause-own
returns-clause-own c =
    let plan = c.args.plan.now in
    let t = c.args.rows.now in
    let b = c.args.breach in
    let x = c.requires.breach in
    let i = b.row - 2 in
    let e : b.row ≡ x.place + 2 = x.row_is in
    let line : b.row ≡ i + 2 = omega arith in
    adds_own plan t c.push-2.new.self.items c.add_row_reasons.new.facts.items (adds c) (row_own b c.row_at-row.result.tag c.row_at-row.result.reaction i c.row_fact-fact.result c.push-2.new.self.items (all c) line c.row_fact-fact.ensures.row)

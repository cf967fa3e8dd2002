use Rattle.std.proofs.Common.{◌≡◌, ℕ, ◌+◌, ◌<◌, ◌≤◌, ◌++◌, List, [], ◌∷◌, length, map, Some, sym, ap, ◌∙◌, arith, slice_get}
use Rattle.std.proofs.lemmas.{List.{with_items_is, map_push, length-map}, Option.slice_get-get_or}
use Rattle.lft_lists.proofs.Mapped.{mapped}
use Rattle.lft_resolve.specs.{declared.expansion.walk.Instance.Instance, inner.Expansion.Values.{values_in, given_by}}
use Rattle.lft_resolve.proofs.ExpansionLemmas.{Siblings.parent_before, Entering.{Valued, valued_main, valued_later, length_values, valued_end, lead_to_values}}
use Rattle.lft_resolve.proofs.expansion.settings.Values.of.Goals.{then-number-gt0, else-number-gt0}
use Rattle.lft_resolve.proofs.expansion.settings.Values.of.Goals as goal

pub item_at-above-requires : goal.item_at-above-requires
item_at-above-requires c =
    let w = c.requires in
    let before = parent_before w.0 w.1 c.args.instances.now w.2 c.instances.number c.item_at-instance.result c.item_at-instance.ensures (omega arith) in
    omega arith

pub index-requires : goal.index-requires
index-requires c =
    let w = c.requires in
    let before = parent_before w.0 w.1 c.args.instances.now w.2 c.instances.number c.item_at-instance.result c.item_at-instance.ensures (omega arith) in
    let rows = length-map c.instances.rows.items (λ row. row.items) in
    let long = c.instances.invariant.as_long in
    let all = c.instances.rows.ok.0 in
    omega arith

pub instances-preserved : goal.instances-preserved
instances-preserved c =
    rw pushed
    (elim c.if-number-gt0.branch [
      | then-number-gt0 w ↦
          (let here : slice_get c.instances.rows.items parent ≡ Some w.index.result.now = slice_get-get_or c.instances.rows.items parent w.index.result.now (within w.if-number-gt0.true) ∙ ap Some (sym w.index.ensures) in
          let row : slice_get rows parent ≡ Some w.index.result.now.items = mapped (λ r. r.items) c.instances.rows.items parent w.index.result.now here in
          let same : w.give.new.own ≡ values_in w.index.result.now.items (given_by c.args.table.now w.item_at-above.result.reactor c.item_at-instance.result.place) c.in_ok-own.own.items = w.give.ensures ∙ ap (λ g. values_in w.deref.result.now g w.deref_mut.result.now) w.given_to.ensures ∙ ap (λ l. values_in l (given_by c.args.table.now w.item_at-above.result.reactor c.item_at-instance.result.place) w.deref_mut.result.now) w.deref.ensures.value ∙ ap (values_in w.index.result.now.items (given_by c.args.table.now w.item_at-above.result.reactor c.item_at-instance.result.place)) w.deref_mut.ensures.value in
          let long : length w.give.new.own ≡ length c.in_ok-own.own.items = ap length same ∙ length_values w.index.result.now.items (given_by c.args.table.now w.item_at-above.result.reactor c.item_at-instance.result.place) c.in_ok-own.own.items in
          let own : c.if-number-gt0.own.items ≡ w.give.new.own = ap (λ v. v.items) w.own-is ∙ with_items_is c.in_ok-own.own w.give.new.own (let all = c.in_ok-own.own.ok.0 in omega arith) in
          later w.item_at-above.result w.index.result.now.items w.if-number-gt0.true w.item_at-above.ensures row (own ∙ same))
      | else-number-gt0 w ↦ main w.own-is (let z : c.instances.number ≤ 0 = w.if-number-gt0.false in omega arith)
    ])
  where
    parent : ℕ
    parent = c.item_at-instance.result.parent

    rows : List (List ℕ)
    rows = map (λ r. r.items) c.instances.rows.items

    pushed : map (λ r. r.items) c.push.new.self.items ≡ rows ++ c.if-number-gt0.own.items ∷ []
    pushed = ap (map (λ r. r.items)) c.in_ok-push.ensures.items ∙ map_push (λ r. r.items) c.instances.rows.items c.if-number-gt0.own

    before : (n : ℕ) (j : Instance) → slice_get c.args.instances.now n ≡ Some j → 0 < n → j.parent < n
    before n j e l = let w = c.requires in parent_before w.0 w.1 c.args.instances.now w.2 n j e l

    within : 0 < c.instances.number → parent < length c.instances.rows.items
    within l =
        let b = before c.instances.number c.item_at-instance.result c.item_at-instance.ensures l in
        let long = c.instances.invariant.as_long in
        let all = length-map c.instances.rows.items (λ r. r.items) in
        omega arith

    Step : Type 0
    Step = Valued c.args.table.now c.args.instances.now (rows ++ c.if-number-gt0.own.items ∷ []) (c.instances.number + 1)

    main : c.if-number-gt0.own ≡ c.in_ok-own.own → c.instances.number ≡ 0 → Step
    main own z = valued_main c.args.table.now c.args.instances.now rows c.instances.number c.item_at-instance.result c.if-number-gt0.own.items c.instances.invariant z c.item_at-instance.ensures (ap (λ v. v.items) own ∙ c.in_ok-own.ensures)

    later : (above : Instance) (outer : List ℕ) → 0 < c.instances.number → slice_get c.args.instances.now parent ≡ Some above → slice_get rows parent ≡ Some outer → c.if-number-gt0.own.items ≡ values_in outer (given_by c.args.table.now above.reactor c.item_at-instance.result.place) c.in_ok-own.own.items → Step
    later above outer l a r t = valued_later c.args.table.now c.args.instances.now rows c.instances.number c.item_at-instance.result above c.if-number-gt0.own.items outer before c.instances.invariant l c.item_at-instance.ensures a r (t ∙ ap (values_in outer (given_by c.args.table.now above.reactor c.item_at-instance.result.place)) c.in_ok-own.ensures)

pub returns-clause-paths : goal.returns-clause-paths
returns-clause-paths c contents main =
    let all : c.instances.number ≡ length c.args.instances.now = let low : length c.args.instances.now ≤ c.instances.number = c.instances-test.false in let high = c.instances.auto.number-end in omega arith in
    lead_to_values contents c.args.table.now main c.args.instances.now (map (λ r. r.items) c.instances.rows.items) (valued_end c.args.table.now c.args.instances.now (map (λ r. r.items) c.instances.rows.items) c.instances.number c.instances.invariant all)

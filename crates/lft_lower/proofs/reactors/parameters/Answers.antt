use Rattle.std.proofs.Common.{◌≡◌, ◌<◌, ◌≤◌, ◌++◌, [], Some, filter_map, length, map, slice_get, sym, ap, ◌∙◌, arith, zero-add}
use Rattle.std.specs.Prelude.{option_map}
use Rattle.std.{specs.List.cons_option, proofs.lemmas.{List.{take_all, FromFn.{get_or-range_with_len, length-range_with_len}}, Option.slice_get-get_or}}
use Rattle.lft_lists.proofs.Picked.{kept_more}
use Rattle.lft_tree.specs.{View.parameter_view, declared.tree.Parameter.Parameter}
use Rattle.lft_elaborate.specs.Channels.Channels.{below}
use Rattle.lft_lower.{specs.inner.{Reactors.timed_parameter, Standing.parameter_token}, proofs.Defaults.{defaults_all, defaults_next}}
use Rattle.lft_lower.proofs.reactors.parameters.Goals as goal

pub loop-number-init : goal.loop-number-init
loop-number-init c = (ap (map parameter_view) c.new-list.ensures.items, ap (map (λ (p : Parameter). p.at)) c.new-list.ensures.items, λ n less. absurd (omega (arith, less)))

pub loop-number-preserved : goal.loop-number-preserved
loop-number-preserved c =
    let n = length c.args.shape.now.parameters.items in
    let number = c.loop-number.number in
    let test = c.loop-number-test.true in
    let less : number < n = omega arith in
    let within : number < length (below n) = omega (arith, length-range_with_len 0 n) in
    let there : slice_get (below n) number ≡ Some number = slice_get-get_or (below n) number number within ∙ ap Some (get_or-range_with_len 0 n number number less ∙ zero-add number) in
    let made = option_map parameter_view c.in_ok-made.made in
    let at = option_map (λ (p : Parameter). p.at) c.in_ok-made.made in
    let main = c.args.is_main in (
      c.in_ok-push_parameter.ensures.made ∙ ap (λ ys. ys ++ cons_option made []) c.loop-number.invariant.0 ∙ sym (kept_more (timed_parameter c.args.shape.now) (below n) number number made there c.in_ok-made.ensures.made),
      c.in_ok-push_parameter.ensures.at ∙ ap (λ ys. ys ++ cons_option at []) c.loop-number.invariant.1 ∙ sym (kept_more (parameter_token c.args.maker.files.now c.args.shape.now) (below n) number number at there c.in_ok-made.ensures.at),
      defaults_next main c.args.shape.now number c.loop-number.invariant.2 c.in_ok-made.ensures.known,
    )

pub returns-clause-made : goal.returns-clause-made
returns-clause-made c =
    let n = length c.args.shape.now.parameters.items in
    let test = c.loop-number-test.false in
    let all : length (below n) ≤ c.loop-number.number = omega (arith, length-range_with_len 0 n) in
    c.loop-number.invariant.0 ∙ ap (filter_map (timed_parameter c.args.shape.now)) (take_all c.loop-number.number (below n) all)

pub returns-clause-at : goal.returns-clause-at
returns-clause-at c =
    let n = length c.args.shape.now.parameters.items in
    let test = c.loop-number-test.false in
    let all : length (below n) ≤ c.loop-number.number = omega (arith, length-range_with_len 0 n) in
    c.loop-number.invariant.1 ∙ ap (filter_map (parameter_token c.args.maker.files.now c.args.shape.now)) (take_all c.loop-number.number (below n) all)

pub returns-clause-known : goal.returns-clause-known
returns-clause-known c = defaults_all c.args.is_main c.args.shape.now c.loop-number.number (omega (arith, c.loop-number-test.false)) c.loop-number.invariant.2

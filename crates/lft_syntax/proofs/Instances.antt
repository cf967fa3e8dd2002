-- Instances, and the parameters of a reactor.
use Rattle.std.proofs.Common.{◌≡◌, Bool, true, false, Some, refl, arith}
use Rattle.std.specs.Prelude.{codes}
use Rattle.lft_syntax.specs.{Lexeme.{Letters, Symbol, is, is_name}, Language.{◌>>◌, ◌<<◌, ◌or◌, made}}
use Rattle.lft_syntax.specs.Grammar.{key, symbol, name, time, ptime, listed, enclosed, assign, instance, param, params, or_empty, assignment_of, instance_of, parameter_of}
use Rattle.lft_syntax.specs.inner.Reading.{is_open, given_value_at, assign_at, assigns_at, instance_at, default_at, param_at, params_at}
use Rattle.lft_syntax.proofs.Algebra.{near, Right, Leads, Any, Test, Starts, starts_one}
use Rattle.lft_syntax.proofs.Rules.{near_looks, and, skip, before, before_if, making, this_one, leads_one, starts_skip, starts_and, starts_before, starts_made, choose, ended, taking, right_name}
use Rattle.lft_syntax.proofs.{Lists.{right_enclosed_list, starts_enclosed}, Lookahead.{past_name, name_first, starts_name, named}}
use Rattle.lft_syntax.proofs.Times.{NoUnit, here_no_unit, right_time, right_ptime}

shut_no_unit : Leads (symbol 41) Any NoUnit
shut_no_unit vs m j y s after = here_no_unit (Symbol 41) refl vs m (leads_one (Symbol 41) Any vs m j y s after)

-- ---- values of parameters

right_given_value : Right (symbol 61 >> ptime or symbol 40 >> ptime << symbol 41) NoUnit near near 2 given_value_at
unfolding given_value_at
right_given_value = choose (is (Symbol 61)) (starts_skip ptime (starts_one (Symbol 61) (is (Symbol 61)) true refl)) (starts_before (symbol 41) (starts_skip ptime (starts_one (Symbol 40) (is (Symbol 61)) false refl)))
    (skip (this_one (Symbol 61)) right_ptime)
    (ended NoUnit near 2 (λ vs m h. tt) near_looks (omega arith) (before_if shut_no_unit (skip (this_one (Symbol 40)) right_ptime) (this_one (Symbol 41))))

pub right_assign : Right assign NoUnit near near 1 assign_at
unfolding assign_at
right_assign = taking 1 (omega arith) (making assignment_of (and right_name right_given_value))

starts_assign : Starts assign is_name true
starts_assign = starts_made assignment_of (starts_and (symbol 61 >> ptime or symbol 40 >> ptime << symbol 41) starts_name)

pub right_assigns : Right (made or_empty (enclosed (listed assign))) Any near near 2 assigns_at
unfolding assigns_at
right_assigns = right_enclosed_list (named is_open true (λ x. refl) starts_assign) (here_no_unit (Symbol 41) refl) (here_no_unit (Symbol 44) refl) right_assign

-- ---- instances

pub right_instance : Right instance Any past_name near 6 instance_at
unfolding instance_at
right_instance = making instance_of (and (and (before (before name_first (this_one (Symbol 61))) (this_one (Letters (codes "new")))) right_name) right_assigns)

pub starts_instance : Starts instance is_name true
starts_instance = starts_made instance_of (starts_and (made or_empty (enclosed (listed assign))) (starts_and name (starts_before (key (codes "new")) (starts_before (symbol 61) starts_name))))

-- ---- parameters

right_default : Right (symbol 61 >> time or symbol 40 >> time << symbol 41) NoUnit near near 2 default_at
unfolding default_at
right_default = choose (is (Symbol 61)) (starts_skip time (starts_one (Symbol 61) (is (Symbol 61)) true refl)) (starts_before (symbol 41) (starts_skip time (starts_one (Symbol 40) (is (Symbol 61)) false refl)))
    (skip (this_one (Symbol 61)) right_time)
    (ended NoUnit near 2 (λ vs m h. tt) near_looks (omega arith) (before_if shut_no_unit (skip (this_one (Symbol 40)) right_time) (this_one (Symbol 41))))

pub right_param : Right param NoUnit near near 1 param_at
unfolding param_at
right_param = taking 1 (omega arith) (making parameter_of (and (before (before right_name (this_one (Symbol 58))) (this_one (Letters (codes "time")))) right_default))

starts_param : Starts param is_name true
starts_param = starts_made parameter_of (starts_and (symbol 61 >> time or symbol 40 >> time << symbol 41) (starts_before (key (codes "time")) (starts_before (symbol 58) starts_name)))

pub right_params : Right params Any near near 2 params_at
unfolding params_at
right_params = right_enclosed_list (named is_open true (λ x. refl) starts_param) (here_no_unit (Symbol 41) refl) (here_no_unit (Symbol 44) refl) right_param

pub starts_params : (go : Test) (b : Bool) → go (Some (Symbol 40)) ≡ b → Starts params go b
starts_params go b e = starts_made or_empty (starts_enclosed (listed param) e)

-- Reactors.
use Rattle.std.proofs.Common.{◌≡◌, Bool, true, false, Some, refl, arith}
use Rattle.std.specs.Prelude.{slice_get, codes}
use Rattle.lft_syntax.specs.{Lexeme.{Letters, Symbol, is, is_name}, Language.{Spelling, ◌&◌, ◌>>◌, optional, made}}
use Rattle.lft_syntax.specs.{Grammar.{key, name, params, body, reactor, reactor_of, main_of}, inner.Reading.{maybe, params_at, body_at, reactor_at}}
use Rattle.lft_syntax.proofs.Algebra.{near, Right, Leads, Any, Test, Starts, starts_one, loosen}
use Rattle.lft_syntax.proofs.Rules.{and, and_if, skip, before_if, making, this_one, perhaps, Here, here, leads_one, leads_optional, starts_skip, starts_and, starts_made, starts_or, choose, same_follow, right_name}
use Rattle.lft_syntax.proofs.{Lookahead.{far_looks, starts_name}, Instances.{right_params, starts_params}, Members.right_members}
use Rattle.lft_tree.specs.Tree.{ReactorTree}

pub right_body : Right body Any near near 2 body_at
unfolding body_at
right_body = before_if (leads_one (Symbol 125) Any)
    (skip (this_one (Symbol 123)) (loosen (Here (Symbol 125)) near near 0 (same_follow (Here (Symbol 125))) far_looks (λ ws i. omega arith) (omega arith) right_members))
    (this_one (Symbol 125))

leads_body : Leads body Any (Here (Symbol 123))
leads_body vs m j y s after = leads_one (Symbol 123) Any vs m s.1.0 tt s.1.1 tt

right_maybe_params : Right (optional params) (Here (Symbol 123)) near near 0 (maybe (is (Symbol 40)) params_at)
right_maybe_params = perhaps (Here (Symbol 123)) (is (Symbol 40)) (starts_params (is (Symbol 40)) true refl) (here (Symbol 123) (is (Symbol 40)) false refl) (λ vs m h. tt) right_params

params_no_name : Leads (optional params) (Here (Symbol 123)) (λ vs m. is_name (slice_get vs m) ≡ false)
params_no_name = leads_optional params (Here (Symbol 123)) (λ vs m. is_name (slice_get vs m) ≡ false) (here (Symbol 123) is_name false refl) (starts_params is_name false refl).at

abbrev plain : Spelling ReactorTree
plain = made reactor_of (key (codes "reactor") >> name & optional params & body)

abbrev main : Spelling ReactorTree
main = made main_of (key (codes "main") >> key (codes "reactor") >> optional name & optional params & body)

starts_plain : (go : Test) (b : Bool) → go (Some (Letters (codes "reactor"))) ≡ b → Starts plain go b
starts_plain go b e = starts_made reactor_of (starts_and body (starts_and (optional params) (starts_skip name (starts_one (Letters (codes "reactor")) go b e))))

starts_main : (go : Test) (b : Bool) → go (Some (Letters (codes "main"))) ≡ b → Starts main go b
starts_main go b e = starts_made main_of (starts_and body (starts_and (optional params) (starts_skip (optional name) (starts_skip (key (codes "reactor")) (starts_one (Letters (codes "main")) go b e)))))

pub right_reactor : Right reactor Any near near 4 reactor_at
unfolding reactor_at
right_reactor = choose (is (Letters (codes "reactor"))) (starts_plain (is (Letters (codes "reactor"))) true refl) (starts_main (is (Letters (codes "reactor"))) false refl)
    (making reactor_of (and_if leads_body (and (skip (this_one (Letters (codes "reactor"))) right_name) right_maybe_params) right_body))
    (making main_of (and_if leads_body (and_if params_no_name
    (skip (skip (this_one (Letters (codes "main"))) (this_one (Letters (codes "reactor")))) (perhaps (λ vs m. is_name (slice_get vs m) ≡ false) is_name starts_name (λ vs m h. h) (λ vs m h. tt) right_name))
    right_maybe_params) right_body))

pub starts_reactor : (go : Test) (b : Bool) → go (Some (Letters (codes "reactor"))) ≡ b → go (Some (Letters (codes "main"))) ≡ b → Starts reactor go b
starts_reactor go b other own = starts_or (starts_plain go b other) (starts_main go b own)

use Rattle.std.proofs.Common.{◌≡◌, ◌≢◌, List, subst, sym}
use Rattle.lft_tree.specs.{Tree.{FileTree, reactors_of}, View.tree_view}
use Rattle.lft_resolve.specs.Causes.{IsFirst, NoneHolds, causes}
use Rattle.lft_program.specs.inner.{Links.{AreLinks, last_causes}, Faults.reactor_causes, Nests.IsNest, Refusals.{Tells, cause_of, of_nest}, Tables.AreTables}
use Rattle.lft_program.proofs.{Firsts.{first_of_reactors, first_of_links, none_of_all, lawful, in_time, handed_on, nest_first, nest_tells}, OneFlat.one_flat}
use Rattle.lft_program.specs.declared.refusal.Refusal.TheVariants as refusals
use Rattle.lft_program.proofs.flattening.flattened.Goals as goal

pub returns-in_err-tables-clause-first : goal.returns-in_err-tables-clause-first
returns-in_err-tables-clause-first c =
    let tree = tree_view c.args.ast.now in
    let e = c.in_err-tables.field-0.0 in
    handed_on (λ f. f ≢ refusals.NoMemory → IsFirst (causes tree) (cause_of f)) e c.from_residual-in_err-tables.result
    (λ other. first_of_reactors tree (cause_of e) (subst (λ t. IsFirst (reactor_causes t) (cause_of e)) c.in_ok-scopes.ensures (c.in_err-tables.ensures.first other))) c.from_residual-in_err-tables.ensures.1

pub returns-in_err-tables-clause-tells : goal.returns-in_err-tables-clause-tells
returns-in_err-tables-clause-tells c =
    let e = c.in_err-tables.field-0.0 in
    handed_on (Tells c.args.ast.now) e c.from_residual-in_err-tables.result c.in_err-tables.ensures.tells c.from_residual-in_err-tables.ensures.1

pub returns-in_err-nest-clause-first : goal.returns-in_err-nest-clause-first
returns-in_err-nest-clause-first c =
    let tree = tree_view c.args.ast.now in
    let e = c.in_err-nest.field-0.0 in
    let none = subst (λ t. NoneHolds (reactor_causes t)) c.in_ok-scopes.ensures c.in_ok-tables.ensures.none in
    let are = subst (λ t. AreTables t c.in_ok-tables.tables) c.in_ok-scopes.ensures c.in_ok-tables.ensures.tables in
    handed_on (λ f. f ≢ refusals.NoMemory → IsFirst (causes tree) (cause_of f)) (of_nest e) c.from_residual-in_err-nest.result
    (nest_first tree e none (λ x many. c.in_err-nest.ensures.too_many x (cc) tree are (lawful tree none))) c.from_residual-in_err-nest.ensures.1

pub returns-in_err-nest-clause-tells : goal.returns-in_err-nest-clause-tells
returns-in_err-nest-clause-tells c =
    let tree = tree_view c.args.ast.now in
    let e = c.in_err-nest.field-0.0 in
    let none = subst (λ t. NoneHolds (reactor_causes t)) c.in_ok-scopes.ensures c.in_ok-tables.ensures.none in
    let are = subst (λ t. AreTables t c.in_ok-tables.tables) c.in_ok-scopes.ensures c.in_ok-tables.ensures.tables in
    handed_on (Tells c.args.ast.now) (of_nest e) c.from_residual-in_err-nest.result
    (nest_tells c.args.ast.now e (λ x many. c.in_err-nest.ensures.too_many x (cc) tree are (lawful tree none))) c.from_residual-in_err-nest.ensures.1

pub links-requires-clause-lawful : goal.links-requires-clause-lawful
links-requires-clause-lawful c = lawful _ c.in_ok-tables.ensures.none

pub links-requires-clause-nest : goal.links-requires-clause-nest
links-requires-clause-nest c = c.in_ok-nest.ensures.nest _ c.in_ok-tables.ensures.tables (lawful _ c.in_ok-tables.ensures.none)

pub returns-in_err-links-clause-first : goal.returns-in_err-links-clause-first
returns-in_err-links-clause-first c =
    let tree = tree_view c.args.ast.now in
    let e = c.in_err-links.field-0.0 in
    let none = subst (λ t. NoneHolds (reactor_causes t)) c.in_ok-scopes.ensures c.in_ok-tables.ensures.none in
    let are = subst (λ t. AreTables t c.in_ok-tables.tables) c.in_ok-scopes.ensures c.in_ok-tables.ensures.tables in
    let few = c.in_ok-nest.ensures.within tree are (lawful tree none) in
    let first = subst (λ t. e ≢ refusals.NoMemory → IsFirst (last_causes t) (cause_of e)) c.in_ok-scopes.ensures c.in_err-links.ensures.first in
    handed_on (λ f. f ≢ refusals.NoMemory → IsFirst (causes tree) (cause_of f)) e c.from_residual-in_err-links.result
    (λ other. first_of_links tree (cause_of e) none few (first other)) c.from_residual-in_err-links.ensures.1

pub returns-in_err-links-clause-tells : goal.returns-in_err-links-clause-tells
returns-in_err-links-clause-tells c =
    let e = c.in_err-links.field-0.0 in
    handed_on (Tells c.args.ast.now) e c.from_residual-in_err-links.result c.in_err-links.ensures.tells c.from_residual-in_err-links.ensures.1

pub program-requires : goal.program-requires
program-requires c =
    let tree = tree_view c.args.ast.now in
    let none = subst (λ t. NoneHolds (reactor_causes t)) c.in_ok-scopes.ensures c.in_ok-tables.ensures.none in
    let are = subst (λ t. AreTables t c.in_ok-tables.tables) c.in_ok-scopes.ensures c.in_ok-tables.ensures.tables in
    let last = subst (λ t. NoneHolds (last_causes t)) c.in_ok-scopes.ensures c.in_ok-links.ensures.none in
    let nest = c.in_ok-nest.ensures.nest tree are (lawful tree none) in
    let linked = subst (λ t. (n : IsNest t c.in_ok-tables.tables c.in_ok-nest.nest) → AreLinks t n.located c.in_ok-links.links.items) c.in_ok-scopes.ensures c.in_ok-links.ensures.links in
    record {
      are_tables = are;
      is_lawful = lawful tree none;
      in_time = in_time tree last;
      is_nest = nest;
      are_links = subst (AreLinks tree nest.located) (sym c.deref.ensures.value) (linked nest);
    }

pub returns-clause-flat : goal.returns-clause-flat
returns-clause-flat c =
    let tree = tree_view c.args.ast.now in
    let none = subst (λ t. NoneHolds (reactor_causes t)) c.in_ok-scopes.ensures c.in_ok-tables.ensures.none in
    let are = subst (λ t. AreTables t c.in_ok-tables.tables) c.in_ok-scopes.ensures c.in_ok-tables.ensures.tables in
    let last = subst (λ t. NoneHolds (last_causes t)) c.in_ok-scopes.ensures c.in_ok-links.ensures.none in
    record {
      none = none_of_all tree none (c.in_ok-nest.ensures.within tree are (lawful tree none)) last;
      flat = c.in_ok-program.ensures;
    }

pub returns-clause-one : goal.returns-clause-one
returns-clause-one c = λ other x.
    let tree = tree_view c.args.ast.now in
    let none = subst (λ t. NoneHolds (reactor_causes t)) c.in_ok-scopes.ensures c.in_ok-tables.ensures.none in
    one_flat tree (lawful tree none) other c.in_ok-program.field-0 x.flat c.in_ok-program.ensures

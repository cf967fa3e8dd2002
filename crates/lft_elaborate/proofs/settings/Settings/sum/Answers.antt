use Rattle.std.proofs.Common.{◌≡◌, ◌<◌, ◌+◌, ◌++◌, [], ◌∷◌, List, length, take, Some, sym, subst, arith}
use Rattle.std.specs.Prelude.{IfSome}
use Rattle.std.proofs.lemmas.Grind.{common_steps}
use Rattle.lft_lists.proofs.Picked.{take_one_more}
use Rattle.lft_whole.specs.declared.tree.Term.{Term}
use Rattle.lft_elaborate.specs.inner.{Noted.{AreMade, table}, Places.{IsSum, plus}, Settings.setting_at, Values.Valued}
use Rattle.lft_elaborate.proofs.{Counting.no_terms, Keeping.{goes_further, goes_nowhere}, Standing.terms_plus}
use Rattle.lft_elaborate.proofs.settings.Settings.sum.Goals as goal

pub loop-term-init : goal.loop-term-init
loop-term-init c = record {
  work = omega arith;
  goes = goes_nowhere _;
  sum = λ t made at. no_terms c.args.self.now.shapes.items t;
}

pub loop-term-preserved : goal.loop-term-preserved
loop-term-preserved c =
    let s = c.args.self.now in
    let terms = c.args.terms.now in
    let i = c.loop-term.term-index in
    let within : i < length terms = omega arith in
    let more : take (i + 1) terms ≡ take i terms ++ c.term-item.result ∷ [] = take_one_more terms i c.term-item.result within (sym c.term-item.is) in
    let was = c.loop-term.invariant in
    let now = c.in_ok-count.ensures in
    record {
      work = (let a = now.work in let b = was.work in omega (arith, a, b));
      goes = goes_further _ _ _ was.goes now.goes;
      sum = subst (λ o. IfSome o (λ n. (t : Valued) → AreMade (table s) → setting_at s c.args.setting ≡ Some t → IsSum s.shapes.items t (take (i + 1) terms) n)) (sym c.plus-all.ensures) (subst (λ (l : List Term). IfSome (plus c.loop-term.all c.in_ok-count.count) (λ n. (t : Valued) → AreMade (table s) → setting_at s c.args.setting ≡ Some t → IsSum s.shapes.items t l n)) (sym more) (terms_plus (table s) (table c.loop-term.self) was.goes c.args.setting (take i terms) c.term-item.result c.loop-term.all c.in_ok-count.count was.sum now.count));
    }

pub returns-clause-sum : goal.returns-clause-sum
returns-clause-sum c =
    let s = c.args.self.now in
    let terms = c.args.terms.now in
    let whole : take c.loop-term.term-index terms ≡ terms = grind (arith, common_steps) in
    subst (λ (l : List Term). IfSome c.loop-term.all (λ n. (t : Valued) → AreMade (table s) → setting_at s c.args.setting ≡ Some t → IsSum s.shapes.items t l n)) whole c.loop-term.invariant.sum

use Rattle.std.proofs.Common.{sym, ◌∙◌, arith}
use Rattle.lft_elaborate.{specs.inner.Noted.table, proofs.{Keeping.goes_further, Using.{inside_none, inside_some, none_in, not_instance}}}
use Rattle.lft_elaborate.proofs.settings.Settings.used_inside.Goals as goal

pub returns-then-not-has_instance-clause-none : goal.returns-then-not-has_instance-clause-none
returns-then-not-has_instance-clause-none c t u made at is = not_instance c.args.self.now.shapes.items t u c.args.member (sym (c.has_instance.ensures t at) ∙ c.if-not-has_instance.true) is

pub returns-then-count-eq0-clause-none : goal.returns-then-count-eq0-clause-none
returns-then-count-eq0-clause-none c t u made at is = none_in c.args.self.now.shapes.items t u c.args.member c.in_ok-count.count (c.in_ok-count.ensures.many t made at) c.if-count-eq0.true is

pub returns-clause-goes : goal.returns-clause-goes
returns-clause-goes c = goes_further _ _ _ c.in_ok-count.ensures.goes c.in_ok-inner.ensures.goes

pub returns-clause-some : goal.returns-clause-some
returns-clause-some c = inside_some (table c.args.self.now) (table c.many.new.self) (table c.inside.new.self) c.in_ok-count.ensures.goes c.args.setting c.args.member c.in_ok-count.count c.in_ok-inner.inner (λ t at. sym (c.has_instance.ensures t at) ∙ c.if-not-has_instance.false) c.in_ok-count.ensures.many c.in_ok-inner.ensures.inside (let e = c.if-count-eq0.false in omega arith)

pub returns-clause-none : goal.returns-clause-none
returns-clause-none c = inside_none (table c.args.self.now) (table c.many.new.self) (table c.inside.new.self) c.in_ok-count.ensures.goes c.args.setting c.args.member c.in_ok-count.count c.in_ok-inner.inner (λ t at. sym (c.has_instance.ensures t at) ∙ c.if-not-has_instance.false) c.in_ok-count.ensures.many c.in_ok-inner.ensures.inside

use Rattle.std.proofs.Common.{◌++◌, ◌∷◌, ◌∙◌, [], refl, sym}
use Rattle.std.proofs.lemmas.Bool.{false≢true}
use Rattle.lft_log.proofs.Asking.{asked_before, asked_come, before_asked, come_asked, row_before, row_first, row_past, row_within}
use Rattle.lft_log.proofs.asked.Asked.is_past.Goals as goal

pub returns-in-Some-last-clause-past : goal.returns-in-Some-last-clause-past
returns-in-Some-last-clause-past c = λ yes t is. row_past t c.args.self.now.until c.in-Some.until c.in-Some-last.last c.args.row.tag c.in-Some.is (come_asked t c.args.self.now c.in-Some.until c.in-Some-last.last c.in-Some.is c.in-Some-last.is is) (c.is_before.ensures.0 yes)

pub returns-in-Some-last-clause-asked : goal.returns-in-Some-last-clause-asked
returns-in-Some-last-clause-asked c = λ past t is. asked_come (t ++ c.args.row ∷ []) c.args.self.now c.in-Some.until c.in-Some-last.last c.in-Some.is c.in-Some-last.is (row_within t c.in-Some.until c.in-Some-last.last c.args.row (come_asked t c.args.self.now c.in-Some.until c.in-Some-last.last c.in-Some.is c.in-Some-last.is is) (λ b. false≢true (sym past ∙ c.is_before.ensures.1 b)))

pub returns-then-not-is_before-clause-asked : goal.returns-then-not-is_before-clause-asked
returns-then-not-is_before-clause-asked c = λ past t is. asked_come (t ++ c.args.row ∷ []) _ c.in-Some.until c.args.row.tag c.in-Some.is refl (row_first t c.in-Some.until c.args.row (before_asked t c.args.self.now c.in-Some.until c.in-Some.is c.in-None.is is) (λ b. false≢true (c.if-not-is_before.ensures.1 b)))

pub returns-else-not-is_before-clause-asked : goal.returns-else-not-is_before-clause-asked
returns-else-not-is_before-clause-asked c = λ past t is. asked_before (t ++ c.args.row ∷ []) c.args.self.now c.in-Some.until c.in-Some.is c.in-None.is (row_before t c.in-Some.until c.args.row (before_asked t c.args.self.now c.in-Some.until c.in-Some.is c.in-None.is is) (c.if-not-is_before.ensures.0 refl))

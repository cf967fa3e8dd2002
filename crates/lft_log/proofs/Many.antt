-- Rows that are too many.
use Rattle.std.proofs.Common.{◌≡◌, ◌∙◌, ◌++◌, ◌∷◌, inl, inr, List, length-append, ap, subst, arith}
use Rattle.std.proofs.lemmas.List.{append_assoc}
use Rattle.lft_ir.specs.declared.steps.row.Row.{Row}
use Rattle.lft_monitor.specs.Follows.{AreTooMany}
use Rattle.lft_log.specs.{inner.Told.IsFaultOfRows, declared.fault.LogFault.LogFault}

many_longer : (t u : List Row) → AreTooMany t → AreTooMany (t ++ u)
many_longer t u (inl (done, held, row, more, e, at, many)) = inl (done, held, row, more ++ u, ap (λ (x : List Row). x ++ u) e ∙ append_assoc (done ++ held) (row ∷ more) u, at, many)
many_longer t u (inr many) = inr (let l = length-append t u in omega (arith, l, many))

-- what shows a fault in the first of rows shows it in all
pub fault_more : (t u all : List Row) (f : LogFault) → t ++ u ≡ all → IsFaultOfRows t f → IsFaultOfRows all f
fault_more t u all f e (inl (is, many)) = inl (is, subst AreTooMany e (many_longer t u many))
fault_more t u all f e (inr is) = inr is

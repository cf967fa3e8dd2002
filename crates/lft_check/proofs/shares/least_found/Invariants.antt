use Rattle.lft_check.specs.inner.{Verdicts.LeastOf, Shares.{IsFound, AreOk}}
use Rattle.lft_check.proofs.shares.least_found.Given as goal

abbrev pub invariant-loop-place : goal.invariant-loop-place
invariant-loop-place l = record { least : LeastOf (IsFound l.found l.place) l.least; all : AreOk l.found l.place }

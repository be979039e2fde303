-- the places below the next one are +0
use Rattle.std.proofs.Common.{◌≡◌, replicate, drop, ◌++◌}
use Rattle.float64.specs.Number.{plus_zero}
use Rattle.common.proofs.clear.Given as goal

abbrev pub invariant-loop-place : goal.invariant-loop-place
invariant-loop-place l = l.place-items ≡ replicate l.place-index plus_zero ++ drop l.place-index l.initial.place-items

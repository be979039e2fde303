-- the first i positions went on
use Rattle.std.proofs.Common.{◌≡◌, get_or}
use Rattle.common.specs.Line.{next_place}
use Rattle.common.proofs.Tables.{tabled}
use Rattle.reverb.proofs.tank.move_on.Given as goal

abbrev pub invariant-loop-i : goal.invariant-loop-i
invariant-loop-i g l = l.pos ≡ tabled (λ k. next_place (get_or l.lengths k 0) (get_or l.initial.pos k 0)) l.i l.initial.pos

-- the first i lengths of each side are worked out
use Rattle.std.proofs.Common.{◌≡◌, get_or}
use Rattle.common.proofs.Tables.{tabled}
use Rattle.reverb.specs.Tunings.{scaled, beside}
use Rattle.reverb.proofs.tunings.scale.Given as goal

abbrev pub invariant-loop-i : goal.invariant-loop-i
invariant-loop-i g l =
    record {
      left : l.left ≡ tabled (λ k. scaled l.most l.ratio (get_or l.fn.tunings k 0)) l.i l.initial.left;
      right : l.right ≡ tabled (λ k. beside l.most l.wide (scaled l.most l.ratio (get_or l.fn.tunings k 0))) l.i l.initial.right;
    }

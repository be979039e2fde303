-- the first i all-passes have stepped
use Rattle.std.proofs.Common.{◌≡◌, get_or}
use lib.Ieee.{nan}
use Rattle.common.specs.Line.{zeros, table}
use Rattle.common.proofs.Tables.{tabled}
use Rattle.effect.specs.Effect.{laid}
use Rattle.reverb.specs.Tank.{allpass_lines, allpasses_held, passed_on, allpass_write}
use Rattle.reverb.proofs.tank.allpasses.Given as goal

abbrev pub invariant-loop-i : goal.invariant-loop-i
invariant-loop-i l =
    let lines = allpass_lines l.o l.initial.pos l.lengths in
    let was = allpasses_held lines l.initial.mem in
    record {
      memory : l.mem ≡ laid (table (allpass_write l.input lines was) l.i) l.initial.mem;
      held : l.held ≡ tabled (λ k. get_or was k nan) l.i (zeros 4);
      fed : l.fed ≡ tabled (λ k. (allpass_write l.input lines was k).value) l.i (zeros 4);
      output : l.output ≡ passed_on l.input was l.i;
    }

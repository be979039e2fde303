-- the first i combs have stepped
use Rattle.std.proofs.Common.{◌≡◌, get_or}
use lib.Ieee.{nan}
use Rattle.common.specs.Line.{zeros, table}
use Rattle.common.proofs.Tables.{tabled}
use Rattle.effect.specs.Effect.{laid}
use Rattle.reverb.specs.Tank.{comb_lines, combs_held, sum_of, comb_stored, comb_write}
use Rattle.reverb.proofs.tank.combs.Given as goal

abbrev pub invariant-loop-i : goal.invariant-loop-i
invariant-loop-i l =
    let lines = comb_lines l.o l.initial.pos l.lengths in
    let was = combs_held lines l.initial.mem in
    record {
      memory : l.mem ≡ laid (table (comb_write l.input l.damping l.feedback lines l.initial.filter_state was) l.i) l.initial.mem;
      stores : l.filter_state ≡ tabled (comb_stored l.damping l.initial.filter_state was) l.i l.initial.filter_state;
      held : l.held ≡ tabled (λ k. get_or was k nan) l.i (zeros 8);
      fed : l.fed ≡ tabled (λ k. (comb_write l.input l.damping l.feedback lines l.initial.filter_state was k).value) l.i (zeros 8);
      sum : l.sum ≡ sum_of was l.i;
    }

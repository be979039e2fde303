-- `float64::round_half_away`: below 2 ^ 52 the whole part is exact as a float, and one more fits. Assumes nothing.
use Rattle.std.proofs.Common.{◌^◌, arith, le→leb}
use lib.Ieee.{of_bits, of_int, in_float}
use Rattle.float64.proofs.Ranges.{yes}
use Rattle.float64.proofs.Rounding.{whole-small}
use Rattle.float64.proofs.round_half_away.Goals as goal

pub int_to_float-down : goal.int_to_float-down
unfolding in_float of_bits of_int
int_to_float-down c =
    let d = c.whole_part-down in
    let l = whole-small c.args.x (yes c.well_formed.0.1) c.if-x.true in
    le→leb d.result (2 ^ 53) (omega arith)

pub overflow_add-result : goal.overflow_add-result
unfolding of_bits of_int
overflow_add-result c = omega (arith, whole-small c.args.x (yes c.well_formed.0.1) c.if-x.true)

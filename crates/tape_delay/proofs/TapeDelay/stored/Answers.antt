-- `TapeDelay::stored` is the state after a store half. Assumes nothing.
use Rattle.std.proofs.Common.{refl}
use lib.Ieee.{of_bits}
use Rattle.tape_delay.proofs.TapeDelay.stored.Goals as goal

pub returns : goal.returns
unfolding of_bits
returns c = refl

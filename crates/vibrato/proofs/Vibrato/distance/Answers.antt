-- `Vibrato::distance`: the code's numbers are the definition's. Assumes nothing.
use lib.Ieee.{mul, of_bits, of_int, round}
use Rattle.vibrato.specs.Vibrato.{distance_in}
use Rattle.vibrato.proofs.Vibrato.distance.Goals as goal

pub returns : goal.returns
unfolding distance_in mul of_bits of_int round
returns c = c.hold.ensures

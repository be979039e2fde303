-- `Flanger::distance`: the code's numbers are the definition's. Assumes nothing.
use lib.Ieee.{sub, of_bits, of_int, round}
use Rattle.flanger.specs.Flanger.{distance_in}
use Rattle.flanger.proofs.Flanger.distance.Goals as goal

pub returns : goal.returns
unfolding distance_in sub of_bits of_int round
returns c = c.hold.ensures

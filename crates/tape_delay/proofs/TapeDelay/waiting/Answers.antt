-- `TapeDelay::waiting` is the state after a read half. Assumes nothing.
use Rattle.std.proofs.Common.{refl}
use Rattle.tape_delay.proofs.TapeDelay.waiting.Goals as goal

pub returns : goal.returns
returns c = refl

-- `room_raw_delay_silent`: the answer is the question's, in plain numbers. Assumes nothing.
use Rattle.delay_line.specs.DelayLine.{delay_line}
use Rattle.room_effects.proofs.Laws.{asked}
use Rattle.room_effects.proofs.delay_calls.room_raw_delay_silent.Goals as goal

pub returns : goal.returns
returns c = asked delay_line _ _ (rw c.delay_of-state.ensures at c.silent-silence.ensures) c.silent_flag.ensures c.number_of.ensures

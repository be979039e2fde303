-- `room_raw_tape_delay_silent`: the answer is the question's, in plain numbers. Assumes nothing.
use Rattle.tape_delay.specs.TapeDelay.{tape_delay}
use Rattle.room_effects.proofs.Laws.{asked}
use Rattle.room_effects.proofs.tape_delay_calls.room_raw_tape_delay_silent.Goals as goal

pub returns : goal.returns
returns c = asked tape_delay _ _ (rw c.tape_delay_of-state.ensures at c.silent-silence.ensures) c.silent_flag.ensures c.number_of.ensures

-- `room_raw_reverb_silent`: the answer is the question's, in plain numbers. Assumes nothing.
use Rattle.reverb.specs.Reverb.{reverb}
use Rattle.room_effects.proofs.Laws.{asked}
use Rattle.room_effects.proofs.reverb_calls.room_raw_reverb_silent.Goals as goal

pub returns : goal.returns
returns c = asked reverb _ _ c.silent-silence.ensures c.silent_flag.ensures c.number_of.ensures

-- `room_raw_vibrato_silent`: the answer is the question's, in plain numbers. Assumes nothing.
use Rattle.vibrato.specs.Vibrato.{vibrato}
use Rattle.room_effects.proofs.Laws.{asked}
use Rattle.room_effects.proofs.vibrato_calls.room_raw_vibrato_silent.Goals as goal

pub returns : goal.returns
returns c = asked vibrato _ _ c.silent-silence.ensures c.silent_flag.ensures c.number_of.ensures

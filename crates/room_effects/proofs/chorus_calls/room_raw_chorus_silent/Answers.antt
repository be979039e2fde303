-- `room_raw_chorus_silent`: the answer is the question's, in plain numbers. Assumes nothing.
use Rattle.chorus.specs.Chorus.{chorus}
use Rattle.room_effects.proofs.Laws.{asked}
use Rattle.room_effects.proofs.chorus_calls.room_raw_chorus_silent.Goals as goal

pub returns : goal.returns
returns c = asked chorus _ _ c.silent-silence.ensures c.silent_flag.ensures c.number_of.ensures

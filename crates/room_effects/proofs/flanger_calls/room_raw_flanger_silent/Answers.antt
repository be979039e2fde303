-- `room_raw_flanger_silent`: the answer is the question's, in plain numbers. Assumes nothing.
use Rattle.flanger.specs.Flanger.{flanger}
use Rattle.room_effects.proofs.Laws.{asked}
use Rattle.room_effects.proofs.flanger_calls.room_raw_flanger_silent.Goals as goal

pub returns : goal.returns
returns c = asked flanger _ _ c.silent-silence.ensures c.silent_flag.ensures c.number_of.ensures

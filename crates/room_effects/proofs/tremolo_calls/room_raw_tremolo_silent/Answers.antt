-- `room_raw_tremolo_silent`: the answer is the question's, in plain numbers. Assumes nothing.
use Rattle.std.proofs.Common.{[]}
use Rattle.tremolo.specs.Tremolo.{tremolo}
use Rattle.room_effects.proofs.Laws.{asked}
use Rattle.room_effects.proofs.tremolo_calls.room_raw_tremolo_silent.Goals as goal

pub returns : goal.returns
returns c = asked tremolo _ _ c.silent-silence.ensures c.silent_flag.ensures c.number_of.ensures []

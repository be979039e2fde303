-- `room_raw_phaser_silent`: the answer is the question's, in plain numbers. Assumes nothing.
use Rattle.std.proofs.Common.{[]}
use Rattle.phaser.specs.Phaser.{phaser}
use Rattle.room_effects.proofs.Laws.{asked}
use Rattle.room_effects.proofs.phaser_calls.room_raw_phaser_silent.Goals as goal

pub returns : goal.returns
returns c = asked phaser _ _ (rw c.phaser_of-state.ensures at c.silent-silence.ensures) c.silent_flag.ensures c.number_of.ensures []

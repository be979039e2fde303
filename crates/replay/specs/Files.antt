-- How a file of stored answers lies: a start, and then records. Definitions only. Assumes nothing.
use Rattle.std.specs.Prelude.{ℕ, ◌-◌, ◌/◌, List, length}
use Rattle.replay.specs.declared.units.Effect.{Effect}
use Rattle.replay.specs.declared.units.Effect.TheVariants.{Tremolo, Vibrato, Chorus, Flanger, Delay, Reverb, Phaser, Tape}

-- the bytes of the start: of a delay six words, of a tape delay five, of a tremolo none
abbrev pub start_size : Effect → ℕ
start_size Tremolo = 0
start_size Vibrato = 24
start_size Chorus = 24
start_size Flanger = 24
start_size Delay = 48
start_size Reverb = 24
start_size Phaser = 24
start_size Tape = 40

-- the bytes of a record
abbrev pub record_size : Effect → ℕ
record_size Tremolo = 88
record_size Vibrato = 96
record_size Chorus = 144
record_size Flanger = 128
record_size Delay = 104
record_size Reverb = 136
record_size Phaser = 104
record_size Tape = 112

-- how many whole records a file has
abbrev pub record_count : Effect → List ℕ → ℕ
record_count e stored = (length stored - start_size e) / record_size e

-- How far back we hear (document 02, A.3): the age that a tick answers beside its samples is that, in ticks, of the oldest sample which one of its reads of a line
-- weighed above 0. `HearsTicks` (effect/specs/HearsBack.antt) says it of an effect, over every unit and every tick, accepted or refused; a read and its weights are
-- in common/specs/Reads.antt. Which samples an answer depends on is another question: a weight of 0 makes a NaN of a NaN, and can settle the sign of a zero.
-- Definitions only. Assumes nothing.
use Rattle.std.specs.Prelude.{ℕ, ◌+◌, ◌^◌, ◌≤◌, ◌≡◌, ◌≢◌, true, List, Float}
use Rattle.std.specs.Float.{binary64}
use Rattle.std.specs.Float.Ieee.{add}
use Rattle.float64.specs.Number.{plus_zero, float_of, in_range, whole_part, fraction_part}
use Rattle.common.specs.Reads.{Read, heard, weight_at, weighed}
use Rattle.effect.specs.Effect.{Effect}
use Rattle.effect.specs.Run.{Device}
use Rattle.effect.specs.HearsBack.{EachRead, HearsBack, HearsTicks, age_of}
use Rattle.delay_line.specs.DelayLine as Delay
use Rattle.chorus.specs.Chorus as Chorus
use Rattle.flanger.specs.Flanger as Flanger
use Rattle.vibrato.specs.Vibrato as Vibrato
use Rattle.tape_delay.specs.declared.TapeDelay.{TapeDelay}
use Rattle.tape_delay.specs.TapeDelay as Tape
use Rattle.tremolo.specs.Tremolo.{tremolo}
use Rattle.reverb.specs.Reverb.{reverb}
use Rattle.phaser.specs.Phaser.{phaser}

-- every tick answers the age 0: an effect whose ticks make no such read
abbrev pub Ageless : Effect → Type 0
Ageless E = (t : E.Tick) (h : Device E.State) → age_of E t h ≡ 0

pub record Ages : Type 0 where
  -- the effects that read lines at a distance, with the number of reads of each of their ticks and the L of their lines
  pub delay-lines : HearsTicks Delay.delay_line 1 Delay.places
  pub choruses : HearsTicks Chorus.chorus 3 Chorus.line_length
  pub flangers : HearsTicks Flanger.flanger 2 Flanger.line_length
  pub vibratos : HearsTicks Vibrato.vibrato 1 Vibrato.line_length
  -- the tape delay, whose tick comes in two halves: the read half makes the read, from the position at which the store half stores then (`Pair`, Tapes.antt)
  pub tapes : HearsBack Tape.tape_delay Tape.reads_made Tape.places
  pub tape_position : (p : Tape.Ports) (s : TapeDelay) → EachRead (λ r. r.start + r.position ≡ s.write_pos) (Tape.reads (Tape.read_half p) s)
  -- the others
  pub tremolos : Ageless tremolo
  pub reverbs : Ageless reverb
  pub phasers : Ageless phaser
  -- What a read hears is two samples of its line, each times its weight, at the whole part of the distance and one place further back; no other has a weight.
  pub hears : (r : Read) (m : List Float) → heard r m ≡ add binary64 (weighed r m (whole_part r.distance)) (weighed r m (whole_part r.distance + 1))
  pub weightless : (x : Float) (d : ℕ) → d ≢ whole_part x → d ≢ whole_part x + 1 → weight_at x d ≡ plus_zero
  -- Nothing is lost in a distance from 1 to a whole number up to 2 ^ 24, as every read of an accepted tick has: whole part and fraction add up to it, and the two
  -- weights to 1.
  pub exact : (M : ℕ) (x : Float) → M ≤ 2 ^ 24 → in_range x (float_of 1) (float_of M) ≡ true
      → (add binary64 (float_of (whole_part x)) (fraction_part x) ≡ x)
      × (add binary64 (weight_at x (whole_part x)) (weight_at x (whole_part x + 1)) ≡ float_of 1)

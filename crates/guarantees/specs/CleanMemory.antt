-- Demand 1 (docs/DEMANDS.md): clean memory, for each effect. What `Demand1` says is in effect/specs/Demand1.antt: of any list of calls after an accepted start,
-- refused ones included, whatever the memory held before. Definitions only. Assumes nothing.
use Rattle.effect.specs.Demand1.{Demand1}
use Rattle.delay_line.specs.DelayLine.{delay_line}
use Rattle.chorus.specs.Chorus.{chorus}
use Rattle.flanger.specs.Flanger.{flanger}
use Rattle.vibrato.specs.Vibrato.{vibrato}
use Rattle.tremolo.specs.Tremolo.{tremolo}
use Rattle.reverb.specs.Reverb.{reverb}
use Rattle.phaser.specs.Phaser.{phaser}
use Rattle.tape_delay.specs.TapeDelay.{tape_delay}

pub record CleanMemory : Type 0 where
  pub delay-lines : Demand1 delay_line
  pub choruses : Demand1 chorus
  pub flangers : Demand1 flanger
  pub vibratos : Demand1 vibrato
  pub tremolos : Demand1 tremolo
  pub reverbs : Demand1 reverb
  pub phasers : Demand1 phaser
  pub tapes : Demand1 tape_delay

-- Positions in 32 bits, of every effect: a state of the width before, 64 bits, that passes the state test has exactly one of this width, and answers alike; the
-- reverb's has 25 positions, the others' lines have one, tremolo and phaser none. What `Narrow` says is in effect/specs/Narrow.antt, of the definitions that the
-- contracts of the calls cite. Which fields the positions are is said here by their names in the code's states, which have no other whole numbers. Definitions only.
-- Assumes nothing.
use Rattle.std.specs.Prelude.{◌≡◌, [], ◌∷◌}
use Rattle.effect.specs.Narrow.{Narrow}
use Rattle.delay_line.specs.declared.DelayLine.{DelayLine}
use Rattle.delay_line.specs.DelayLine as delay
use Rattle.chorus.specs.declared.Chorus.{Chorus}
use Rattle.chorus.specs.Chorus as chorus
use Rattle.flanger.specs.declared.Flanger.{Flanger}
use Rattle.flanger.specs.Flanger as flanger
use Rattle.vibrato.specs.declared.Vibrato.{Vibrato}
use Rattle.vibrato.specs.Vibrato as vibrato
use Rattle.tremolo.specs.declared.Tremolo.{Tremolo}
use Rattle.tremolo.specs.Tremolo as tremolo
use Rattle.reverb.specs.declared.Reverb.{Reverb}
use Rattle.reverb.specs.Reverb as reverb
use Rattle.phaser.specs.declared.Phaser.{Phaser}
use Rattle.phaser.specs.Phaser as phaser
use Rattle.tape_delay.specs.declared.TapeDelay.{TapeDelay}
use Rattle.tape_delay.specs.TapeDelay as tape

pub record Positions : Type 0 where
  pub delay-lines : Narrow delay.delay_line delay.fields 1
  pub choruses : Narrow chorus.chorus chorus.fields 1
  pub flangers : Narrow flanger.flanger flanger.fields 1
  pub vibratos : Narrow vibrato.vibrato vibrato.fields 1
  pub tremolos : Narrow tremolo.tremolo tremolo.fields 0
  pub reverbs : Narrow reverb.reverb reverb.fields 25
  pub phasers : Narrow phaser.phaser phaser.fields 0
  pub tapes : Narrow tape.tape_delay tape.fields 1
  -- ---- the positions
  pub of_delay : (s : DelayLine) → delay.fields.positions s ≡ (s.write_pos ∷ []) ∷ []
  pub of_chorus : (s : Chorus) → chorus.fields.positions s ≡ (s.write_pos ∷ []) ∷ []
  pub of_flanger : (s : Flanger) → flanger.fields.positions s ≡ (s.write_pos ∷ []) ∷ []
  pub of_vibrato : (s : Vibrato) → vibrato.fields.positions s ≡ (s.write_pos ∷ []) ∷ []
  pub of_tremolo : (s : Tremolo) → tremolo.fields.positions s ≡ []
  pub of_reverb : (s : Reverb) → reverb.fields.positions s
      ≡ s.comb_pos_l ∷ s.comb_pos_r ∷ s.allpass_pos_l ∷ s.allpass_pos_r ∷ (s.predelay_pos ∷ []) ∷ []
  pub of_phaser : (s : Phaser) → phaser.fields.positions s ≡ []
  pub of_tape_delay : (s : TapeDelay) → tape.fields.positions s ≡ (s.write_pos ∷ []) ∷ []

-- The places needed that a controller is answered, by an effect's number, are those that a start of the effect asks: with settings that are accepted it refuses,
-- with 3, just the memories that have fewer. A refused rate and another number give 2 ^ 64 − 1. Definitions only. Assumes nothing.
use Rattle.std.specs.Prelude.{ℕ, ◌≤◌, ◌≡◌, true, false, Float}
use Rattle.float64.specs.Number.{float_of, rate_fits}
use Rattle.effect.specs.Effect.{Effect}
use Rattle.effect.specs.Run.{memory_number, start_number}
use Rattle.effect.specs.Needed.{no_places}
use Rattle.delay_line.specs.DelayLine.{delay_line}
use Rattle.chorus.specs.Chorus.{chorus}
use Rattle.flanger.specs.Flanger.{flanger}
use Rattle.vibrato.specs.Vibrato.{vibrato}
use Rattle.tremolo.specs.Tremolo.{tremolo}
use Rattle.reverb.specs.Reverb.{reverb}
use Rattle.phaser.specs.Phaser.{phaser}
use Rattle.tape_delay.specs.TapeDelay.{tape_delay}
use Rattle.needed.specs.Needed.{needed_by}

-- `needed` is what the controller is answered for a start that is handed x
pub record StartNeeds (E : Effect) (needed : E.Start → ℕ) : Type 0 where
  pub accepted : (x : E.Start) (n : ℕ) → E.settings_number (E.start_settings x) ≡ 0 → start_number E x n ≡ memory_number (needed x) n

-- the numbers of documents 01 and 02; only the delay's count reads the maximum
pub record PlacesNeeded : Type 0 where
  pub delay : StartNeeds delay_line (λ x. needed_by 1 x.rate x.maximum)
  pub choruses : (maximum : Float) → StartNeeds chorus (λ rate. needed_by 2 rate maximum)
  pub flangers : (maximum : Float) → StartNeeds flanger (λ rate. needed_by 3 rate maximum)
  pub vibratos : (maximum : Float) → StartNeeds vibrato (λ rate. needed_by 4 rate maximum)
  pub tremolos : (maximum : Float) → StartNeeds tremolo (λ rate. needed_by 5 rate maximum)
  pub reverbs : (maximum : Float) → StartNeeds reverb (λ rate. needed_by 6 rate maximum)
  pub phasers : (maximum : Float) → StartNeeds phaser (λ rate. needed_by 7 rate maximum)
  pub tapes : (maximum : Float) → StartNeeds tape_delay (λ x. needed_by 8 x.rate maximum)
  -- three of them are the same at every accepted rate
  pub no-tremolo-places : (rate maximum : Float) → rate_fits rate ≡ true → needed_by 5 rate maximum ≡ 0
  pub no-phaser-places : (rate maximum : Float) → rate_fits rate ≡ true → needed_by 7 rate maximum ≡ 0
  pub tank-places : (rate maximum : Float) → rate_fits rate ≡ true → needed_by 6 rate maximum ≡ 87136
  -- the tape delay's at three rates, of 12 seconds
  pub tape_counts : (maximum : Float)
      → (needed_by 8 (float_of 8000) maximum ≡ 96001)
      × ((needed_by 8 (float_of 44100) maximum ≡ 529201) × (needed_by 8 (float_of 192000) maximum ≡ 2304001))
  -- a refused rate, and a number that is none of the eight
  pub refused-rate : (effect : ℕ) (rate maximum : Float) → rate_fits rate ≡ false → needed_by effect rate maximum ≡ no_places
  pub number-0 : (rate maximum : Float) → needed_by 0 rate maximum ≡ no_places
  pub numbers-from-9 : (effect : ℕ) (rate maximum : Float) → 9 ≤ effect → needed_by effect rate maximum ≡ no_places

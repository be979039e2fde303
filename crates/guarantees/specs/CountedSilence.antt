-- Silence without the walk (document 02, A.8): the state of each effect with lent lines counts the places in use that are neither +0 nor −0. `Counts` says of an
-- effect that the count is true on every run, that "silent?" then answers the full reading of these places, and what becomes of a count that was handed in; it is in
-- effect/specs/Counts.antt, of the definitions that the contracts of the calls cite. Definitions only. Assumes nothing.
use Rattle.std.specs.Prelude.{ℕ, ◌+◌, ◌*◌, ◌≡◌, false, cond, Float}
use Rattle.std.specs.List.{sum}
use Rattle.std.specs.Float.{nan, inf, binary64}
use Rattle.std.specs.Float.Ieee.{neg, of_bits}
use Rattle.float64.specs.Number.{plus_zero, float_of}
use Rattle.common.specs.Line.{nonzero, recounted}
use Rattle.effect.specs.Effect.{Effect, used_places}
use Rattle.effect.specs.Run.{ask, number_in}
use Rattle.effect.specs.Counts.{Counts}
use Rattle.delay_line.specs.declared.DelayLine.{DelayLine}
use Rattle.delay_line.specs.DelayLine as delay
use Rattle.chorus.specs.declared.Chorus.{Chorus}
use Rattle.chorus.specs.Chorus as chorus
use Rattle.flanger.specs.declared.Flanger.{Flanger}
use Rattle.flanger.specs.Flanger as flanger
use Rattle.vibrato.specs.declared.Vibrato.{Vibrato}
use Rattle.vibrato.specs.Vibrato as vibrato
use Rattle.tremolo.specs.Tremolo.{tremolo}
use Rattle.reverb.specs.declared.Reverb.{Reverb}
use Rattle.reverb.specs.Tunings.{left, right, comb_lengths, allpass_lengths, predelay_size}
use Rattle.reverb.specs.Reverb as reverb
use Rattle.phaser.specs.Phaser.{phaser}
use Rattle.tape_delay.specs.declared.TapeDelay.{TapeDelay}
use Rattle.tape_delay.specs.TapeDelay as tape

-- an effect that has so many places in use, by its settings
pub record Counted (E : Effect) (used : E.Settings → ℕ) : Type 0 where
  pub counts : Counts E
  pub used_is : (k : E.Settings) → used_places E k ≡ used k
  -- the question is refused with 4 alone, whatever memory a unit is lent
  pub asked : (n : ℕ) (s : E.State) → number_in E ask n s ≡ cond (E.state_fits s) 0 4

-- the lengths of the combs and all-passes of both sides, and the predelay's
abbrev pub reverb_places : Float → ℕ
reverb_places rate =
    sum (comb_lengths left rate) + sum (comb_lengths right rate) + sum (allpass_lengths left rate) + sum (allpass_lengths right rate) + predelay_size

pub record CountedSilence : Type 0 where
  pub delay-lines : Counted delay.delay_line delay.places
  pub choruses : Counted chorus.chorus chorus.line_length
  pub flangers : Counted flanger.flanger (λ rate. 2 * flanger.line_length rate)
  pub vibratos : Counted vibrato.vibrato vibrato.line_length
  pub reverbs : Counted reverb.reverb reverb_places
  pub tapes : Counted tape.tape_delay tape.places
  -- these two are lent no places, and count none
  pub tremolos : Counted tremolo (λ rate. 0)
  pub phasers : Counted phaser (λ rate. 0)
  -- ---- the count by its name in the code's states
  pub of_delay : (s : DelayLine) → delay.delay_line.count s ≡ s.nonzero_places
  pub of_chorus : (s : Chorus) → chorus.chorus.count s ≡ s.nonzero_places
  pub of_flanger : (s : Flanger) → flanger.flanger.count s ≡ s.nonzero_places
  pub of_vibrato : (s : Vibrato) → vibrato.vibrato.count s ≡ s.nonzero_places
  pub of_reverb : (s : Reverb) → reverb.reverb.count s ≡ s.nonzero_places
  pub of_tape_delay : (s : TapeDelay) → tape.tape_delay.count s ≡ s.nonzero_places
  -- ---- worked cases: neither +0 nor −0 counts; a NaN, the infinities and the smallest subnormal number do
  pub zero_counts_none : nonzero plus_zero ≡ 0
  pub minus_zero_counts_none : nonzero (neg plus_zero) ≡ 0
  pub nan_counts : nonzero nan ≡ 1
  pub infinity_counts : nonzero (inf false) ≡ 1
  pub subnormal_counts : nonzero (of_bits binary64 1) ≡ 1
  -- one gained and one lost at once leave a count of 0 as it is, where an end at each would leave 1; and one of all the places
  pub net_at_0 : recounted 2 0 1 1 ≡ 0
  pub net_at_all : recounted 2 2 1 1 ≡ 2
  pub held_at_0 : recounted 2 0 0 1 ≡ 0
  pub held_at_all : recounted 2 2 1 0 ≡ 2
  -- the places in use of a reverb, at both ends of the rates
  pub reverb_at_8000 : reverb_places (float_of 8000) ≡ 14200
  pub reverb_at_192000 : reverb_places (float_of 192000) ≡ 86157

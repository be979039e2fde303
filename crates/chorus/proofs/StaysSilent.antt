-- A silent chorus stays silent: its voices read zeros, and sums, quotients and blends of zeros are zeros. Assumes nothing.
use Rattle.std.proofs.Common.{◌≡◌, true, List, refl, arith}
use lib.Ieee.{Float, binary64, add, mul, div, eq, of_int}
use lib.Ieee as Ieee
use Rattle.float64.specs.Number.{plus_zero, float_of, half, is_number, sine_fits}
use Rattle.float64.proofs.Tests.{both-true}
use Rattle.float64.proofs.Interval.{In}
use Rattle.float64.proofs.Zeros.{Zero, zero-times, zero-over, zero-plus}
use Rattle.common.specs.Line.{all_zero}
use Rattle.common.proofs.Sweep.{control-in}
use Rattle.common.proofs.ZeroBlends.{mix-zero}
use Rattle.effect.specs.StaysSilent.{StaysSilent}
use Rattle.effect.proofs.Parts.{first-read}
use Rattle.effect.proofs.SilentLaws.{SilentTick, keeps-nothing}
use Rattle.effect.proofs.StaysSilent.{stays-silent}
use Rattle.chorus.specs.declared.Chorus.{Chorus}
use Rattle.chorus.specs.Chorus.{Tick, chorus, line_length, input, depth, distance, voice, mixed, samples_from, samples, writes}
use Rattle.chorus.proofs.Laws.{fits-parts, length-fits, tick-fits, distance-in}
use Rattle.chorus.proofs.Demand1.{laws}
use Rattle.chorus.proofs.Counts.{own}

-- ---- voices that read zeros, mixed

module _ (x d0 d1 d2 : Float) {b : Float} (audio : Zero x) (share : In binary64 plus_zero (float_of 1) b) (v0 : Zero d0) (v1 : Zero d1) (v2 : Zero d2) where
  -- a voice on a side: half of voice 0, and its own
  side : (d : Float) → Zero d → Zero (add binary64 (add binary64 plus_zero (mul binary64 d0 half)) d)
  unfolding eq Ieee.round
  side d v =
      let h = zero-times d0 half v0 tt in
      zero-plus (add binary64 plus_zero (mul binary64 d0 half)) d (zero-plus plus_zero (mul binary64 d0 half) refl h) v

  mono : Zero (add binary64 (add binary64 (add binary64 plus_zero d0) d1) d2)
  unfolding eq
  mono = zero-plus (add binary64 (add binary64 plus_zero d0) d1) d2 (zero-plus (add binary64 plus_zero d0) d1 (zero-plus plus_zero d0 refl v0) v1) v2

  -- mono, left and right, each divided and mixed with the audio
  mixed-zero : all_zero (mixed x b d0 d1 d2) ≡ true
  unfolding mixed all_zero eq of_int
  mixed-zero =
      let m = mix-zero x (div binary64 (add binary64 (add binary64 (add binary64 plus_zero d0) d1) d2) (float_of 3)) audio (zero-over _ (float_of 3) mono tt refl) share in
      let l = mix-zero x (div binary64 (add binary64 (add binary64 plus_zero (mul binary64 d0 half)) d1) (float_of 2)) audio (zero-over _ (float_of 2) (side d1 v1) tt refl) share in
      let r = mix-zero x (div binary64 (add binary64 (add binary64 plus_zero (mul binary64 d0 half)) d2) (float_of 2)) audio (zero-over _ (float_of 2) (side d2 v2) tt refl) share in
      both-true m (both-true l (both-true r refl))

-- ---- a tick of a silent chorus

module _ (t : Tick) (s : Chorus) (m : List Float) (u : SilentTick chorus chorus.quiet t s m) where
  heard : (sine : Float) → sine_fits sine ≡ true → Zero (voice 0 sine t s m)
  unfolding voice is_number Ieee.fits Ieee.is_nan Ieee.round
  heard sine h =
      let rate = s.sample_rate in
      let f = fits-parts s u.state_fits in
      let far = distance-in rate (depth t) sine f.rate (control-in t.depth half (tick-fits t u.number).depth refl) h in
      let L = line_length rate in
      first-read L 0 L s.write_pos m (distance rate (depth t) sine) u.enough u.zeros (omega arith) f.inside (omega (arith, (length-fits rate f.rate).1)) far

  answers : all_zero (samples t s m) ≡ true
  unfolding samples_from is_number Ieee.fits Ieee.is_nan Ieee.round
  answers =
      let k = tick-fits t u.number in
      mixed-zero (input t) _ _ _ u.audio (control-in t.mix half k.mix refl) (heard t.sine0 k.sine0) (heard t.sine1 k.sine1) (heard t.sine2 k.sine2)

pub shown : StaysSilent chorus
unfolding writes
shown = stays-silent chorus laws own (keeps-nothing chorus (λ s. refl) answers (λ t s m u. (u.audio, tt)))

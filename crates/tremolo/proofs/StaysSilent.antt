-- A tremolo answers zeros for zeros: what it multiplies its audio with is finite. Assumes nothing.
use Rattle.std.proofs.Common.{◌≡◌, true, List, refl, subst}
use lib.Ieee.{Float, binary64, add, sub, mul, le, lt, neg, of_int, round}
use lib.Ieee as Ieee
use Rattle.float64.specs.Number.{plus_zero, float_of, half, is_number, phase_fits, rate_fits}
use Rattle.float64.proofs.Tests.{both, both-true}
use Rattle.float64.proofs.Interval.{In, point, sub_in, add-in, mul_in, scale_in, in-finite}
use Rattle.float64.proofs.Ranges.{unit-in, sine-in}
use Rattle.float64.proofs.Absolute.{absolute-in}
use Rattle.float64.proofs.Same.{mul-turned}
use Rattle.float64.proofs.Zeros.{zero-times}
use Rattle.common.specs.Line.{all_zero}
use Rattle.common.proofs.Sweep.{control-in}
use Rattle.effect.specs.StaysSilent.{StaysSilent}
use Rattle.effect.proofs.SilentLaws.{SilentTick, keeps-nothing}
use Rattle.effect.proofs.StaysSilent.{stays-silent}
use Rattle.tremolo.specs.declared.Tremolo.{Tremolo}
use Rattle.tremolo.specs.Tremolo.{Tick, tremolo, state_fits, input, depth, shape, triangle, lfo, modulated, samples}
use Rattle.tremolo.proofs.Laws.{TickFits, tick-fits}
use Rattle.tremolo.proofs.Demand1.{laws}
use Rattle.tremolo.proofs.Counts.{own}

-- from −1 to 1
abbrev Signed : Float → Type 0
Signed x = In binary64 (neg (float_of 1)) (float_of 1) x

module _ (t : Tick) (s : Tremolo) (m : List Float) (u : SilentTick tremolo tremolo.quiet t s m) where
  phase-in : In binary64 plus_zero (float_of 1) s.lfo_phase
  unfolding state_fits
  phase-in = unit-in (both (rate_fits s.sample_rate) (phase_fits s.lfo_phase) u.state_fits).1

  k : TickFits t
  k = tick-fits t u.number

  depth-in : In binary64 plus_zero (float_of 1) (depth t)
  unfolding is_number Ieee.fits Ieee.is_nan round
  depth-in = control-in t.depth half k.depth refl

  shape-in : In binary64 plus_zero (float_of 1) (shape t)
  unfolding is_number Ieee.fits Ieee.is_nan
  shape-in = control-in t.shape plus_zero k.shape refl

  -- 1 less four times what lies from 0 to 0.5
  triangle-in : Signed (triangle s.lfo_phase)
  unfolding triangle Ieee.fits le add sub mul neg of_int round
  triangle-in =
      let off = sub_in (neg half) half tt phase-in (point half tt) in
      let four = mul_in plus_zero (float_of 2) tt tt tt (point (float_of 4) tt) (absolute-in tt tt tt off) in
      sub_in (neg (float_of 1)) (float_of 1) tt (point (float_of 1) tt) four

  -- a share of the sine and a share of the triangle
  lfo-in : In binary64 (neg (float_of 2)) (float_of 2) (lfo s.lfo_phase (shape t) t.sine)
  unfolding lfo Ieee.fits le add sub mul neg of_int
  lfo-in =
      let rest = sub_in plus_zero (float_of 1) tt (point (float_of 1) tt) shape-in in
      let a = scale_in (neg (float_of 1)) (float_of 1) tt tt tt (sine-in k.sine) rest in
      let b = scale_in (neg (float_of 1)) (float_of 1) tt tt tt triangle-in shape-in in
      add-in (neg (float_of 2)) (float_of 2) tt a b

  answers : all_zero (samples t s) ≡ true
  unfolding samples modulated all_zero Ieee.fits le add sub mul neg of_int round
  answers =
      let l = lfo s.lfo_phase (shape t) t.sine in
      let share = mul_in plus_zero half tt tt tt depth-in (point half tt) in
      let turned = sub_in (neg (float_of 1)) (float_of 3) tt (point (float_of 1) tt) lfo-in in
      let swing = scale_in (neg (float_of 1)) (float_of 2) tt tt tt turned share in
      let same = mul-turned binary64 (sub binary64 (float_of 1) l) (mul binary64 (depth t) half) in
      let factor = sub_in (neg (float_of 1)) (float_of 2) tt (point (float_of 1) tt) (subst (λ (y : Float). In binary64 (neg (float_of 1)) (float_of 2) y) same swing) in
      both-true (zero-times (input t) _ u.audio (in-finite factor)) refl

pub shown : StaysSilent tremolo
shown = stays-silent tremolo laws own (keeps-nothing tremolo (λ s. refl) answers (λ t s m u. tt))

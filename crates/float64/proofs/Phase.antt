-- A phase, 0 ≤ p < 1, moved on by a step from 0 to 1/2 and brought back by 1 from 1 on, is a phase again. A frequency over a rate is such a step, and so is a frequency
-- raised by a factor of up to 1.1, as the chorus's voices have it. Assumes nothing.
use Rattle.std.proofs.Common.{◌≡◌, Bool, true, false, cond, refl}
use Rattle.std.proofs.lemmas.Float as floats
use lib.Ieee.{Float, binary64, add, sub, mul, div, fits, is_nan, le, lt, of_int}
use Rattle.float64.specs.Number.{plus_zero, float_of, fraction, half, phase_fits, frequency_fits, rate_fits}
use Rattle.float64.proofs.Order.{finite-num}
use Rattle.float64.proofs.Interval.{In, point, in-finite, cut-above, cut_below, widen, add-in, sub_in, mul_in, div-in}
use Rattle.float64.proofs.Ranges.{yes, no, unit-in, in-unit, rate-in, frequency-in}

-- the phase p moved on by s
abbrev pub moved_on : Float → Float → Float
moved_on p s = cond (le (float_of 1) (add binary64 p s)) (sub binary64 (add binary64 p s) (float_of 1)) (add binary64 p s)

pub phase-advanced : (p : Float) {s : Float} → phase_fits p ≡ true → In binary64 plus_zero half s → phase_fits (moved_on p s) ≡ true
unfolding fits is_nan le lt add sub of_int
phase-advanced p {s} h i = go (le (float_of 1) q) refl
  where
    q : Float
    q = add binary64 p s

    r : In binary64 plus_zero (fraction 3 2) (add binary64 p s)
    r = add-in plus_zero (fraction 3 2) tt (unit-in h) i

    go : (b : Bool) → le (float_of 1) (add binary64 p s) ≡ b → phase_fits (cond b (sub binary64 (add binary64 p s) (float_of 1)) (add binary64 p s)) ≡ true
    go true e =
        let d = sub_in plus_zero half tt (cut_below (float_of 1) tt (yes e) r) (point (float_of 1) tt) in
        in-unit (widen plus_zero (float_of 1) tt d) (floats.lt_of_le_of_lt (sub binary64 q (float_of 1)) half (float_of 1) d.upper tt)
    go false e =
        let l = floats.lt_of_not-le (float_of 1) q tt (finite-num q (in-finite r)) (no e) in
        in-unit (cut-above (float_of 1) tt (floats.le_of_lt q (float_of 1) l) r) l

module _ (f r : Float) (h : frequency_fits f ≡ true) (k : rate_fits r ≡ true) where
  -- ---- steps
  pub step_in : In binary64 plus_zero half (div binary64 f r)
  unfolding fits le lt div of_int
  step_in = div-in plus_zero half tt tt tt (frequency-in h) (rate-in k)

  pub detuned-step-in : {d : Float} → In binary64 plus_zero (fraction 11 10) d → In binary64 plus_zero half (div binary64 (mul binary64 f d) r)
  unfolding fits le lt mul div of_int
  detuned-step-in i = div-in plus_zero half tt tt tt (mul_in plus_zero (float_of 36) tt tt tt (frequency-in h) i) (rate-in k)

  -- ---- a phase stays a phase at every accepted frequency and rate
  module _ (p : Float) (g : phase_fits p ≡ true) where
    pub phase-stepped : phase_fits (moved_on p (div binary64 f r)) ≡ true
    phase-stepped = phase-advanced p g step_in

    pub phase-detuned : {d : Float} → In binary64 plus_zero (fraction 11 10) d → phase_fits (moved_on p (div binary64 (mul binary64 f d) r)) ≡ true
    phase-detuned i = phase-advanced p g (detuned-step-in i)

-- +0 is a phase, and an advanced phase is one again, at every accepted frequency and rate, and detuned by every factor from 0 to 1.1. Assumes nothing.
use mathlib.Core.Path.{◌≡◌, refl}
use mathlib.Core.Bool.{true, ◌&&◌}
use lib.Ieee.{Float, binary64, mul, div, le, lt, of_int}
use lib.Ieee as Ieee
use Rattle.float64.specs.Number.{plus_zero, fraction, in_unit, phase_fits, frequency_fits, rate_fits}
use Rattle.float64.proofs.Interval.{In}
use Rattle.float64.proofs.Phase.{phase-stepped, phase-detuned}
use Rattle.float64.proofs.Tests.{both}
use Rattle.common.specs.Signal.{advanced}

pub zero-phase : phase_fits plus_zero ≡ true
unfolding in_unit le lt of_int Ieee.fits
zero-phase = refl

module _ (p f r : Float) (g : phase_fits p ≡ true) (h : frequency_fits f ≡ true) (k : rate_fits r ≡ true) where
  pub phase-stays : phase_fits (advanced p (div binary64 f r)) ≡ true
  unfolding advanced
  phase-stays = phase-stepped f r h k p g

  pub detuned-stays : {d : Float} → In binary64 plus_zero (fraction 11 10) d → phase_fits (advanced p (div binary64 (mul binary64 f d) r)) ≡ true
  unfolding advanced
  detuned-stays i = phase-detuned f r h k p g i

-- ---- the rate r and the phase p, which is all that the test of a state without lines reads

module _ (r : Float) where
  pub fresh-fits : rate_fits r ≡ true → rate_fits r && phase_fits plus_zero ≡ true
  fresh-fits k = rw (k, zero-phase)

  pub reset-fits : (p : Float) → rate_fits r && phase_fits p ≡ true → rate_fits r && phase_fits plus_zero ≡ true
  reset-fits p e = fresh-fits (both (rate_fits r) (phase_fits p) e).0

  pub next_fits : (p f : Float) → rate_fits r && phase_fits p ≡ true → frequency_fits f ≡ true
      → rate_fits r && phase_fits (advanced p (div binary64 f r)) ≡ true
  next_fits p f e h = let b = both (rate_fits r) (phase_fits p) e in rw (b.0, phase-stays p f r b.1 h b.0)

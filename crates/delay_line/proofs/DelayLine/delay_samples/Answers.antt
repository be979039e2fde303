-- `DelayLine::delay_samples` is the delay in samples, by the mode, and NaN where what it is read from is. Assumes nothing.
use Rattle.std.proofs.Common.{◌≡◌, refl, ap, ◌∙◌, Bool, true, false, T}
use lib.Ieee.{Float, nan, inf, fin, binary64, mul, div, lt, is_nan}
use lib.Ieee as Ieee
use lib.Ieee.Bits.{is_true}
use Rattle.float64.specs.Number.{is_number, clamp_of}
use Rattle.float64.proofs.Tests.{clash}
use Rattle.float64.proofs.Ranges.{yes}
use Rattle.delay_line.specs.Halves.{linear_ms, samples_of}
use Rattle.delay_line.proofs.DelayLine.delay_samples.Goals as goal

-- what is worked out from x is a number, and would be none at a NaN: so x is a number
number-from : (P : Float → Bool) (x : Float) → P nan ≡ false → T (Ieee.fits binary64 x) → P x ≡ true → is_number x ≡ true
unfolding is_number is_nan
number-from P nan none h e = clash e none
number-from P (inf s) none h e = rw (is_true (Ieee.fits binary64 (inf s)) h)
number-from P (fin s m d) none h e = rw (is_true (Ieee.fits binary64 (fin s m d)) h)

below_nan : (x : Float) → lt x nan ≡ false
unfolding lt
below_nan nan = refl
below_nan (inf s) = refl
below_nan (fin s m e) = refl

abbrev samples_are_number : Float → Float → Bool
samples_are_number rate ms = is_number (samples_of rate ms)

nan-none : (rate : Float) → samples_are_number rate nan ≡ false
unfolding samples_of is_number is_nan mul div Ieee.fits
nan-none rate = refl

-- in linear mode, from the time port's seconds
nan-clamped : (maximum : Float) → linear_ms maximum nan ≡ nan
unfolding linear_ms clamp_of lt mul
nan-clamped maximum = rw (below_nan maximum)

pub returns-then-self-clause-from_numbers : goal.returns-then-self-clause-from_numbers
returns-then-self-clause-from_numbers c = λ e.
    let s = c.args.self in
    let read = λ (x : Float). samples_are_number s.sample_rate (linear_ms s.max_delay_secs x) in
    let none = ap (samples_are_number s.sample_rate) (nan-clamped s.max_delay_secs) ∙ nan-none s.sample_rate in
    rw c.if-self.true (number-from read c.args.time none (yes c.well_formed.1.0.1) ((rw (c.samples_of.ensures, c.linear_ms.ensures) at e)))

pub returns-clause-from_numbers : goal.returns-clause-from_numbers
returns-clause-from_numbers c = λ e.
    let rate = c.args.self.sample_rate in
    rw c.if-self.false (number-from (samples_are_number rate) c.args.milliseconds (nan-none rate) (yes c.well_formed.1.1.0.1) ((rw c.samples_of-2.ensures at e)))

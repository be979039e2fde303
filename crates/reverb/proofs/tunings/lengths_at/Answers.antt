-- `tunings::lengths_at` is `lengths_for`: a rate that equals a usual one is that one, and its row is what the definitions compute. Assumes nothing.
use Rattle.std.proofs.Common.{◌≡◌, ℕ, ◌<◌, ◌^◌, true, refl, arith}
use lib.Ieee.{Float, binary64, mul, div, eq, le, of_bits, of_int, to_unsigned}
use lib.Ieee as Ieee
use Rattle.float64.specs.Number.{float_of, rate_fits, in_range, round_half_away}
use Rattle.float64.proofs.Equal.{equal-whole}
use Rattle.float64.proofs.Ranges.{yes}
use Rattle.reverb.specs.Tunings.{ratio, scaled, spread, beside, lengths_at, lengths_for}
use Rattle.reverb.proofs.Scaling.{lengths-at}
use Rattle.reverb.proofs.tunings.lengths_at.Goals as goal

usual : (n : ℕ) (rate : Float) → 0 < n → n < 2 ^ 53 → rate_fits (float_of n) ≡ true → Ieee.fits binary64 rate ≡ true → eq rate (float_of n) ≡ true
    → lengths_at (float_of n) ≡ lengths_for rate
usual n rate p w h f e = lengths-at n h (equal-whole rate n (yes f) p w e)

pub returns-then-rate : goal.returns-then-rate
unfolding ratio scaled spread beside in_range round_half_away mul div le of_bits of_int to_unsigned Ieee.fits
returns-then-rate c = usual 48000 c.args.rate (omega arith) (omega arith) refl c.well_formed.0.1 c.if-rate.true

pub returns-then-rate-2 : goal.returns-then-rate-2
unfolding ratio scaled spread beside in_range round_half_away mul div le of_bits of_int to_unsigned Ieee.fits
returns-then-rate-2 c = usual 44100 c.args.rate (omega arith) (omega arith) refl c.well_formed.0.1 c.if-rate-2.true

pub returns-then-rate-3 : goal.returns-then-rate-3
unfolding ratio scaled spread beside in_range round_half_away mul div le of_bits of_int to_unsigned Ieee.fits
returns-then-rate-3 c = usual 96000 c.args.rate (omega arith) (omega arith) refl c.well_formed.0.1 c.if-rate-3.true

pub returns-then-rate-4 : goal.returns-then-rate-4
unfolding ratio scaled spread beside in_range round_half_away mul div le of_bits of_int to_unsigned Ieee.fits
returns-then-rate-4 c = usual 88200 c.args.rate (omega arith) (omega arith) refl c.well_formed.0.1 c.if-rate-4.true

pub returns-then-rate-5 : goal.returns-then-rate-5
unfolding ratio scaled spread beside in_range round_half_away mul div le of_bits of_int to_unsigned Ieee.fits
returns-then-rate-5 c = usual 192000 c.args.rate (omega arith) (omega arith) refl c.well_formed.0.1 c.if-rate-5.true

pub returns-then-rate-6 : goal.returns-then-rate-6
unfolding ratio scaled spread beside in_range round_half_away mul div le of_bits of_int to_unsigned Ieee.fits
returns-then-rate-6 c = usual 176400 c.args.rate (omega arith) (omega arith) refl c.well_formed.0.1 c.if-rate-6.true

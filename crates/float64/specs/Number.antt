-- The numbers of the room effects: IEEE 754 binary64 values, and what the helpers on them answer. Definitions only.
-- Two floats are equal here as data: every NaN is the one `nan`, and +0 and −0 differ. Assumes nothing.
use Rattle.std.specs.Prelude.{ℕ, ◌+◌, ◌-◌, ◌*◌, ◌/◌, ◌%◌, ◌^◌, min, Bool, false, cond, not, ◌&&◌, T, pos, ◌==◌, is_nan, to_bits, Float}
use Rattle.std.specs.Float.{nan, inf, fin, binary64}
use Rattle.std.specs.Float.Ieee.{round, of_int, neg, sub, eq, lt, le, to_unsigned, up, down, fits}
use Rattle.std.specs.Float.Ieee.Scale.{finite}

-- ---- values

abbrev pub plus_zero : Float
plus_zero = fin false 0 (pos 0)

-- a whole number; up to 2 ^ 53 it is exact
abbrev pub float_of : ℕ → Float
float_of n = of_int binary64 (pos n)

-- the float nearest to a / b: how a decimal constant is written
abbrev pub fraction : ℕ → ℕ → Float
fraction a b = round binary64 false a b

abbrev pub half : Float
half = fraction 1 2

-- ---- tests. A value of `Float` that binary64 does not hold passes none of them, so that what passes is an f64; no f64 is refused for this

-- no NaN
unfoldable pub is_number : Float → Bool
is_number x = fits binary64 x && not (is_nan x)

-- neither NaN nor an infinity
unfoldable pub is_finite : Float → Bool
is_finite x = fits binary64 x && finite x

-- lo ≤ x ≤ hi. A NaN is in no range; −0 counts as 0
unfoldable pub in_range : Float → Float → Float → Bool
in_range x lo hi = fits binary64 x && (le lo x && le x hi)

-- 0 ≤ x < 1
unfoldable pub in_unit : Float → Bool
in_unit x = fits binary64 x && (le plus_zero x && lt x (float_of 1))

-- −1 ≤ x ≤ 1
abbrev pub in_signed_unit : Float → Bool
in_signed_unit x = in_range x (neg (float_of 1)) (float_of 1)

-- +0 or −0
abbrev pub is_zero : Float → Bool
is_zero x = eq x plus_zero

-- +0, sign included: all its bits are 0
unfoldable pub is_plus_zero : Float → Bool
is_plus_zero x = fits binary64 x && to_bits binary64 x == 0

-- a sample rate, cause 1
abbrev pub rate_fits : Float → Bool
rate_fits r = in_range r (float_of 8000) (float_of 192000)

-- a glide coefficient, cause 2
abbrev pub coefficient_fits : Float → Bool
coefficient_fits c = in_unit c

-- a phase, cause 4
abbrev pub phase_fits : Float → Bool
phase_fits p = in_unit p

-- a frequency in Hz, a sine, the coefficient of an all-pass, and a saturated value, cause 6
abbrev pub frequency_fits : Float → Bool
frequency_fits f = in_range f plus_zero (float_of 32)

abbrev pub sine_fits : Float → Bool
sine_fits s = in_signed_unit s

abbrev pub allpass_fits : Float → Bool
allpass_fits c = in_signed_unit c

abbrev pub saturated_fits : Float → Bool
saturated_fits v = in_signed_unit v

-- ---- clamp

-- x held to lo .. hi, as the Rust's `clamp`: what lies between passes as it is, −0 and a NaN too
unfoldable pub clamp_of : Float → Float → Float → Float
clamp_of x lo hi = cond (lt x lo) lo (cond (lt hi x) hi x)

-- its two halves
unfoldable pub at_least : Float → Float → Float
at_least x lo = cond (lt x lo) lo x

unfoldable pub at_most : Float → Float → Float
at_most x hi = cond (lt hi x) hi x

-- ---- absolute value: the Rust's `fabs`

abbrev pub absolute : Float → Float
absolute nan = nan
absolute (inf s) = inf false
absolute (fin s m e) = fin false m e

-- ---- whole numbers

-- the whole part, as the Rust's `as usize`: toward zero, held to 0 .. 2 ^ 64 − 1, and 0 for a NaN
abbrev pub whole_part : Float → ℕ
whole_part x = to_unsigned 64 x

-- the exponent field of an f64, and the 53-bit significand by a pattern whose field is neither 0 nor 2047: the 52 bits that are stored, under a leading one
abbrev pub exponent_field : Float → ℕ
exponent_field x = to_bits binary64 x % 2 ^ 63 / 2 ^ 52

abbrev pub significand_of : ℕ → ℕ
significand_of bits = 2 ^ 52 + bits % 2 ^ 52

abbrev pub significand : Float → ℕ
significand x = significand_of (to_bits binary64 x)

-- From 1 to below 2 ^ 52: the exponent field is from 1,023 to 1,074, so that there is a whole part and there are fraction bits.
abbrev pub Small : Float → Type 0
Small x = T (le (float_of 1) x) × T (lt x (float_of (2 ^ 52)))

-- the fraction that the whole part leaves
abbrev pub fraction_part : Float → Float
fraction_part x = sub binary64 x (float_of (whole_part x))

-- the nearest whole number, halves away from zero, as the Rust's `round` and then `as usize`
unfoldable pub round_half_away : Float → ℕ
round_half_away nan = 0
round_half_away (inf s) = cond s 0 (2 ^ 64 - 1)
round_half_away (fin s m e) = cond s 0 (min ((2 * (m * up e) + down e) / (2 * down e)) (2 ^ 64 - 1))

-- The whole part of a float by IEEE 754's cases of the exponent field, as document 02 (A.5) has them: of every finite float that is not below 0, −0 among these.
-- `whole_part` is what the contract of `float64::whole_part` cites. Definitions only. Assumes nothing.
use Rattle.std.specs.Prelude.{◌-◌, ◌*◌, ◌/◌, ◌^◌, ◌≤◌, ◌<◌, ◌≡◌, true, false, Float}
use Rattle.std.specs.Float.Ieee.{le}
use Rattle.std.specs.Float.Ieee.Exact.{HasValue}
use Rattle.float64.specs.Number.{plus_zero, is_finite, whole_part, exponent_field, significand}

-- finite, and not below 0
abbrev pub FiniteFromZero : Float → Type 0
FiniteFromZero x = (is_finite x ≡ true) × (le plus_zero x ≡ true)

pub record WholePart : Type 0 where
  -- below one nothing is left
  pub below_one : (x : Float) → FiniteFromZero x → exponent_field x < 1023 → whole_part x ≡ 0
  -- from one to the last exponent with fraction bits: the 53-bit significand shifted right by 1,075 less the field
  pub between : (x : Float) → FiniteFromZero x → 1023 ≤ exponent_field x → exponent_field x ≤ 1074 → whole_part x ≡ significand x / 2 ^ (1075 - exponent_field x)
  -- Above there is no fraction: x is a whole number, its significand shifted left by the field less 1,075. (It may be too large for a u64: `whole_part` holds it to 2 ^ 64 − 1.)
  pub above : (x : Float) → FiniteFromZero x → 1075 ≤ exponent_field x → HasValue x false (significand x * 2 ^ (exponent_field x - 1075)) 1

-- Zeros in, zeros out: blends of zeros, zeros fed back, and reads of zeros. Assumes nothing.
use Rattle.std.proofs.Common.{◌≡◌, ℕ, ◌+◌, ◌^◌, ◌≤◌, false, T, refl, arith}
use Rattle.std.proofs.lemmas.Float as floats
use lib.Ieee.{Float, binary64, fits, is_nan, le, lt, add, sub, mul, neg, of_int}
use Rattle.float64.specs.Number.{plus_zero, float_of, is_number, clamp_of, whole_part, fraction_part}
use Rattle.float64.proofs.Interval.{In, ends, box, point, widen, sub_in, in-finite}
use Rattle.float64.proofs.Parts.{parts-of, whole-between}
use Rattle.float64.proofs.Clamped.{clamp-in}
use Rattle.float64.proofs.Zeros.{Zero, zero-times, zero-plus}
use Rattle.port.specs.declared.Port.{Port}
use Rattle.port.specs.Port.{value_or, is_nan_set}
use Rattle.common.specs.Signal.{blended}
use Rattle.common.specs.Line.{read_at}
use Rattle.common.proofs.Sweep.{value-number}

-- ---- a blend by a factor that is not too large

blend-zero : (a b : Float) {f : Float} → Zero a → Zero b → In binary64 (neg (float_of 16777216)) (float_of 16777216) f → Zero (blended a b f)
unfolding blended fits le lt add sub neg of_int
blend-zero a b {f} x y i =
    let rest = sub_in (neg (float_of 16777216)) (float_of 16777217) tt (point (float_of 1) tt) i in
    zero-plus (mul binary64 a (sub binary64 (float_of 1) f)) (mul binary64 b f)
    (zero-times a (sub binary64 (float_of 1) f) x (in-finite rest))
    (zero-times b f y (in-finite i))

-- by a control, or another factor from 0 to 1
pub mix-zero : (a b : Float) {f : Float} → Zero a → Zero b → In binary64 plus_zero (float_of 1) f → Zero (blended a b f)
unfolding fits le lt neg of_int
mix-zero a b x y i = blend-zero a b x y (widen (neg (float_of 16777216)) (float_of 16777216) tt i)

-- ---- a zero fed back: audio + read × feedback, a control that is unset or not NaN, clamped

pub fed-zero : (x y : Float) (p : Port) (lo hi : Float) → Zero x → Zero y → is_nan_set p ≡ false → T (ends binary64 lo hi) → T (le lo hi)
    → Zero (add binary64 x (mul binary64 y (clamp_of (value_or p plus_zero) lo hi)))
unfolding is_number fits is_nan
fed-zero x y p lo hi a z n t l =
    let back = clamp-in (value_or p plus_zero) t l (value-number p plus_zero n refl) in
    zero-plus x (mul binary64 y (clamp_of (value_or p plus_zero) lo hi)) a (zero-times y (clamp_of (value_or p plus_zero) lo hi) z (in-finite back))

-- ---- a read of zeros, at a distance from 1 to M

fraction-in : (M : ℕ) (x : Float) → M ≤ 2 ^ 24 → In binary64 (float_of 1) (float_of M) x → In binary64 (neg (float_of 16777216)) (float_of 16777216) (fraction_part x)
unfolding fits le lt add sub neg of_int
fraction-in M x h i =
    let n = parts-of M h i in
    let top = whole-between 1 M 16777216 (omega (arith, n.at_least, n.at-most)) h (omega arith) in
    let below = floats.le_trans x (float_of M) (float_of 16777216) i.upper top.upper in
    let wide : In binary64 (float_of 1) (float_of 16777216) x = box tt i.fit i.lower below in
    sub_in (neg (float_of 16777216)) (float_of 16777216) tt wide
    (whole-between 1 (whole_part x) 16777216 n.at_least (omega (arith, n.at-most)) (omega arith))

pub read-zero : (at : ℕ → Float) (M : ℕ) (x : Float) → M ≤ 2 ^ 24 → In binary64 (float_of 1) (float_of M) x → ((d : ℕ) → Zero (at d)) → Zero (read_at at x)
unfolding read_at
read-zero at M x h i z = blend-zero (at (whole_part x)) (at (whole_part x + 1)) (z (whole_part x)) (z (whole_part x + 1)) (fraction-in M x h i)

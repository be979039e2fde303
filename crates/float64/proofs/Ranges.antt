-- From the tests of `Number` to intervals and back: a value that passes `in_range` or `in_unit` lies in the interval, what lies there passes, and what passes is a number.
-- Assumes nothing.
use Rattle.std.proofs.Common.{◌≡◌, Bool, true, false, not, ◌&&◌, T, sym, subst}
use Rattle.std.proofs.lemmas.Float as floats
use lib.Ieee.{Float, binary64, fits, is_nan, neg, le, lt, of_int}
use lib.Ieee.Bits.{is_true}
use lib.Ieee.Fits.{and_l, and_r, and_i}
use lib.Ieee.Scale.{finite}
use Rattle.float64.specs.Number.{plus_zero, float_of, is_number, is_finite, in_range, in_unit, rate_fits, frequency_fits, sine_fits}
use Rattle.float64.proofs.Order.{finite-num}
use Rattle.float64.proofs.Interval.{In, ends, box, in-finite}

-- ---- a test that passed, and one that did not
pub yes : {b : Bool} → b ≡ true → T b
yes h = subst T (sym h) tt

pub no : {b : Bool} → b ≡ false → T (not b)
no h = subst (λ (b : Bool). T (not b)) (sym h) tt

-- ---- numbers
pub number_fits : (x : Float) → is_number x ≡ true → T (fits binary64 x)
unfolding is_number
number_fits x h = and_l (fits binary64 x) (not (is_nan x)) (yes h)

pub number-num : (x : Float) → is_number x ≡ true → T (not (is_nan x))
unfolding is_number
number-num x h = and_r (fits binary64 x) (not (is_nan x)) (yes h)

pub finite-parts : (x : Float) → is_finite x ≡ true → T (fits binary64 x) × T (finite x)
unfolding is_finite
finite-parts x h = (and_l (fits binary64 x) (finite x) (yes h), and_r (fits binary64 x) (finite x) (yes h))

pub finite_number : (x : Float) → is_finite x ≡ true → is_number x ≡ true
unfolding is_number
finite_number x h =
    let f = finite-parts x h in
    is_true (fits binary64 x && not (is_nan x)) (and_i (fits binary64 x) (not (is_nan x)) f.0 (finite-num x f.1))

pub in-number : {lo hi x : Float} → In binary64 lo hi x → is_number x ≡ true
unfolding is_number
in-number {lo} {hi} {x} i = is_true (fits binary64 x && not (is_nan x)) (and_i (fits binary64 x) (not (is_nan x)) i.fit (finite-num x (in-finite i)))

-- ---- lo ≤ x ≤ hi
pub range-in : {x lo hi : Float} → T (ends binary64 lo hi) → in_range x lo hi ≡ true → In binary64 lo hi x
unfolding in_range
range-in {x} {lo} {hi} t h =
    let r = and_r (fits binary64 x) (le lo x && le x hi) (yes h) in
    box t (and_l (fits binary64 x) (le lo x && le x hi) (yes h)) (and_l (le lo x) (le x hi) r) (and_r (le lo x) (le x hi) r)

pub in-range : {x lo hi : Float} → In binary64 lo hi x → in_range x lo hi ≡ true
unfolding in_range
in-range {x} {lo} {hi} i = is_true (fits binary64 x && (le lo x && le x hi)) (and_i (fits binary64 x) (le lo x && le x hi) i.fit (and_i (le lo x) (le x hi) i.lower i.upper))

-- ---- 0 ≤ x < 1
pub unit-lt : (x : Float) → in_unit x ≡ true → T (lt x (float_of 1))
unfolding in_unit
unit-lt x h = and_r (le plus_zero x) (lt x (float_of 1)) (and_r (fits binary64 x) (le plus_zero x && lt x (float_of 1)) (yes h))

pub unit-in : {x : Float} → in_unit x ≡ true → In binary64 plus_zero (float_of 1) x
unfolding in_unit fits of_int
unit-in {x} h =
    let a = and_l (fits binary64 x) (le plus_zero x && lt x (float_of 1)) (yes h) in
    box tt a (and_l (le plus_zero x) (lt x (float_of 1)) (and_r (fits binary64 x) (le plus_zero x && lt x (float_of 1)) (yes h))) (floats.le_of_lt x (float_of 1) (unit-lt x h))

pub in-unit : {x : Float} → In binary64 plus_zero (float_of 1) x → T (lt x (float_of 1)) → in_unit x ≡ true
unfolding in_unit
in-unit {x} i k = is_true (fits binary64 x && (le plus_zero x && lt x (float_of 1))) (and_i (fits binary64 x) (le plus_zero x && lt x (float_of 1)) i.fit (and_i (le plus_zero x) (lt x (float_of 1)) i.lower k))

-- ---- the accepted rates, frequencies and sines
pub rate-in : {r : Float} → rate_fits r ≡ true → In binary64 (float_of 8000) (float_of 192000) r
unfolding fits of_int
rate-in h = range-in tt h

pub frequency-in : {f : Float} → frequency_fits f ≡ true → In binary64 plus_zero (float_of 32) f
unfolding fits of_int
frequency-in h = range-in tt h

pub sine-in : {s : Float} → sine_fits s ≡ true → In binary64 (neg (float_of 1)) (float_of 1) s
unfolding fits of_int neg
sine-in h = range-in tt h

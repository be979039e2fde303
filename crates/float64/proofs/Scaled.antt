-- A number times a finite number above 0, and over one, is a number: an infinity stays one, and nothing else gives a NaN. Assumes nothing.
use Rattle.std.proofs.Common.{◌≡◌, zero, suc, ◌*◌, true, false, not, ◌&&◌, T}
use lib.Dec.{eqb-suc-zero}
use lib.Ieee.{Float, nan, inf, fin, binary64, mul, div, fits, is_nan, up, down, unlike}
use lib.Ieee.Fits.{mul-fits, div-fits, and_i}
use lib.Ieee.Positive.{positive}
use lib.Ieee.Bits.{is_true}
use Rattle.float64.specs.Number.{is_number}
use Rattle.float64.proofs.Ranges.{number-num}
use Rattle.float64.proofs.Round.{round-num}

mul-num : (y x : Float) → T (positive y) → T (not (is_nan x)) → T (not (is_nan (mul binary64 x y)))
unfolding mul is_nan
mul-num nan x p h = absurd p
mul-num (inf t) x p h = absurd p
mul-num (fin true n d) x p h = absurd p
mul-num (fin false zero d) x p h = absurd p
mul-num (fin false (suc n) d) nan p h = absurd h
mul-num (fin false (suc n) d) (inf s) p h = rw (eqb-suc-zero n) tt
mul-num (fin false (suc n) d) (fin s m e) p h = round-num binary64 (unlike s false) (m * up e * (suc n * up d)) (down e * down d)

div-num : (y x : Float) → T (positive y) → T (not (is_nan x)) → T (not (is_nan (div binary64 x y)))
unfolding div is_nan
div-num nan x p h = absurd p
div-num (inf t) x p h = absurd p
div-num (fin true n d) x p h = absurd p
div-num (fin false zero d) x p h = absurd p
div-num (fin false (suc n) d) nan p h = absurd h
div-num (fin false (suc n) d) (inf s) p h = tt
div-num (fin false (suc n) d) (fin s m e) p h = rw (eqb-suc-zero n) (round-num binary64 (unlike s false) (m * up e * down d) (suc n * up d * down e))

is-number : (x : Float) → T (fits binary64 x) → T (not (is_nan x)) → is_number x ≡ true
unfolding is_number
is-number x h k = is_true (fits binary64 x && not (is_nan x)) (and_i (fits binary64 x) (not (is_nan x)) h k)

pub mul-number : (x y : Float) → is_number x ≡ true → T (positive y) → is_number (mul binary64 x y) ≡ true
mul-number x y h p = is-number (mul binary64 x y) (mul-fits binary64 x y) (mul-num y x p (number-num x h))

pub div-number : (x y : Float) → is_number x ≡ true → T (positive y) → is_number (div binary64 x y) ≡ true
div-number x y h p = is-number (div binary64 x y) (div-fits binary64 x y) (div-num y x p (number-num x h))

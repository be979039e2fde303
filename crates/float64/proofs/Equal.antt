-- A value that equals a whole number above 0, by the floats' own test, is that number as data. Assumes nothing.
use Rattle.std.proofs.Common.{◌≡◌, ℕ, ◌+◌, ◌*◌, ◌^◌, ◌<◌, true, T, mul-pos, arith}
use Rattle.std.proofs.lemmas.Float as floats
use lib.Ieee.{Float, binary64, fits, eq}
use Rattle.float64.specs.Number.{float_of}
use Rattle.float64.proofs.Units.{one, cap, one-pos, key}
use Rattle.float64.proofs.Round.{whole-lt}
use Rattle.float64.proofs.Keys.{at, rekeyed, of_le, of_int-at}
use Rattle.float64.proofs.Same.{same_key}

pub equal-whole : (x : Float) (n : ℕ) → T (fits binary64 x) → 0 < n → n < 2 ^ 53 → eq x (float_of n) ≡ true → x ≡ float_of n
equal-whole x n f p w h =
    let y = float_of n in
    let t = floats.T_from_true (eq x y) h in
    let l = floats.le_of_eq x y t in
    let x' = at binary64 x f (floats.le_left x y l) in
    let y' = of_int-at binary64 n w in
    let e : key binary64 x ≡ cap binary64 + n * one binary64 = omega (arith, of_le x' y' l, of_le y' x' (floats.le_of_eq y x (floats.eq_flip x y t))) in
    same_key (rekeyed x' e) y' (mul-pos p (one-pos binary64)) (whole-lt binary64 n w)

-- The whole part of a value x from 1 to a whole number M of at most 2 ^ 24: 1 ≤ whole part ≤ M, and x is below 2 ^ 52. And what is clamped to 1 .. M lies
-- there; whole numbers keep their order. Assumes nothing.
use Rattle.std.proofs.Common.{◌≡◌, ℕ, ◌^◌, ◌<◌, ◌≤◌, true, ◌&&◌, nat_le, T, sym, zero-le, le_trans, le_of_eq, le_of_mul-le-mul_right, mul-le-mul_right, one-mul, le-div_iff_mul-le, arith, lit<}
use Rattle.std.specs.Cmp.{both_ways}
use Rattle.std.proofs.lemmas.Bool.{leb-true, le-leb}
use Rattle.std.proofs.lemmas.Float as floats
use lib.Ieee.{Float, binary64, fits, le, lt, of_int}
use lib.Ieee.Bits.{is_true}
use lib.Ieee.Fits.{and_i}
use lib.Ieee.Scale.{finite}
use Rattle.float64.specs.Number.{plus_zero, float_of, whole_part, Small, is_number, in_range, clamp_of}
use Rattle.float64.proofs.Units.{one, one-pos}
use Rattle.float64.proofs.Keys.{le-of-size, size-of-le, of_int-at}
use Rattle.float64.proofs.Order.{plus_zero-at}
use Rattle.float64.proofs.Interval.{In, ends, box, in-finite}
use Rattle.float64.proofs.Ranges.{yes}
use Rattle.float64.proofs.Wholes.{count, whole_le, whole_is}
use Rattle.float64.proofs.Clamped.{clamp-in}

-- up to 2 ^ 24 it is in the range of `whole_part_small`
pub small-in : {x : Float} → In binary64 (float_of 1) (float_of 16777216) x → Small x
unfolding fits lt of_int
small-in {x} i = (i.lower, floats.lt_of_le_of_lt x (float_of 16777216) (float_of (2 ^ 52)) i.upper tt)

pub record Parts (M : ℕ) (x : Float) : Type 0 where
  pub at_least : 1 ≤ whole_part x
  pub at-most : whole_part x ≤ M
  pub small : Small x

module _ (M : ℕ) (h : M ≤ 2 ^ 24) where
  wide : M < 2 ^ 53
  wide = omega arith

  -- ---- M as an end of an interval
  whole_in : In binary64 plus_zero (float_of 16777216) (float_of M)
  unfolding fits of_int
  whole_in =
      let m = of_int-at binary64 M wide in
      box tt m.fit (le-of-size (plus_zero-at binary64) m zero-le) (le-of-size m (of_int-at binary64 16777216 (lit< tt)) (mul-le-mul_right (one binary64) h))

  pub whole-ends : T (ends binary64 (float_of 1) (float_of M))
  unfolding fits of_int
  whole-ends = and_i (fits binary64 (float_of 1) && fits binary64 (float_of M) && finite (float_of 1)) (finite (float_of M)) (and_i (fits binary64 (float_of 1) && fits binary64 (float_of M)) (finite (float_of 1)) whole_in.fit tt) (in-finite whole_in)

  pub clamp-whole-in : (x : Float) → 1 ≤ M → is_number x ≡ true → In binary64 (float_of 1) (float_of M) (clamp_of x (float_of 1) (float_of M))
  clamp-whole-in x k n = clamp-in x whole-ends (le-of-size (of_int-at binary64 1 (lit< tt)) (of_int-at binary64 M wide) (mul-le-mul_right (one binary64) k)) n

  -- ---- the parts
  pub parts-of : {x : Float} → In binary64 (float_of 1) (float_of M) x → Parts M x
  unfolding fits le lt of_int
  parts-of {x} i =
      let B = binary64 in
      let o = one B in
      let k = count M wide i in
      let n = k.n in
      let x' = k.place in
      let e = whole_is M wide k.high x' in
      let top : T (le x (float_of 16777216)) = floats.le_trans x (float_of M) (float_of 16777216) i.upper whole_in.upper in
      record {
        at_least = le_trans ((le-div_iff_mul-le (one-pos B)).1 (le_trans (le_of_eq (one-mul o)) k.low)) (le_of_eq (sym e));
        at-most = le_trans (le_of_eq e) (whole_le M wide k.high x');
        small = small-in {x = x} (box tt i.fit i.lower top);
      }

-- a whole number between two others lies between them as a float
pub whole-between : (a n b : ℕ) → a ≤ n → n ≤ b → b ≤ 2 ^ 24 → In binary64 (float_of a) (float_of b) (float_of n)
whole-between a n b h k l =
    let x = of_int-at binary64 a (wide a (omega arith)) in
    let y = of_int-at binary64 n (wide n (omega arith)) in
    let z = of_int-at binary64 b (wide b l) in
    let both = and_i (fits binary64 (float_of a)) (fits binary64 (float_of b)) x.fit z.fit in
    let low = and_i (fits binary64 (float_of a) && fits binary64 (float_of b)) (finite (float_of a)) both (in-finite (whole_in a (omega arith))) in
    box (and_i (fits binary64 (float_of a) && fits binary64 (float_of b) && finite (float_of a)) (finite (float_of b)) low (in-finite (whole_in b l))) y.fit
    (le-of-size x y (mul-le-mul_right (one binary64) h))
    (le-of-size y z (mul-le-mul_right (one binary64) k))

-- whole numbers below 2 ^ 53 have the order of their floats
pub le-whole : (a b : ℕ) → a < 2 ^ 53 → b < 2 ^ 53 → le (float_of a) (float_of b) ≡ nat_le a b
le-whole a b h k =
    let x = of_int-at binary64 a h in
    let y = of_int-at binary64 b k in
    both_ways (le (float_of a) (float_of b)) (nat_le a b)
    (λ t. le-leb a b (le_of_mul-le-mul_right (size-of-le x y (yes t)) (one-pos binary64)))
    (λ t. is_true (le (float_of a) (float_of b)) (le-of-size x y (mul-le-mul_right (one binary64) (leb-true a b t))))

-- so that a range between whole numbers has those that it has as floats
pub range-whole : (a n b : ℕ) → a < 2 ^ 53 → n < 2 ^ 53 → b < 2 ^ 53 → in_range (float_of n) (float_of a) (float_of b) ≡ (nat_le a n && nat_le n b)
unfolding in_range
range-whole a n b h k l = rw (is_true (fits binary64 (float_of n)) ((of_int-at binary64 n k).fit), le-whole a n h k, le-whole n b k l)

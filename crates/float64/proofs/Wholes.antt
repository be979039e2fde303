-- Whole numbers and what lies above them, counted in units of the smallest value: 1, a value from 1 to a whole number M, and, of a value with n units, the whole part, n / one, and the fraction,
-- which has n % one units exactly. Assumes nothing.
use Rattle.std.proofs.Common.{◌≡◌, ℕ, suc, ◌+◌, ◌-◌, ◌*◌, ◌/◌, ◌%◌, ◌^◌, ◌<◌, ◌≤◌, sym, ap, ◌∙◌, subst, lt_of_le_of_lt, div-lt_iff_lt-mul, mul-lt-mul_of_pos_right, one-mul, div-add-mod', arith, lit<}
use Rattle.std.proofs.lemmas.Float as floats
use native.Mathlib.Nat.{min-eq_left}
use lib.Ieee.{Float, binary64, sub}
use Rattle.float64.specs.Number.{float_of, whole_part, fraction_part}
use Rattle.float64.proofs.Units.{one, cap, one-pos, key, Rep}
use Rattle.float64.proofs.Round.{difference-exact, rep-whole, whole-lt}
use Rattle.float64.proofs.Near.{rep-sub}
use Rattle.float64.proofs.Keys.{At, at, rekeyed, Fin, of_le, sub_at, of_int-at, to_unsigned-at, rep_at}
use Rattle.float64.proofs.Interval.{In}

-- ---- 1
pub one_at : At binary64 (float_of 1) (cap binary64 + one binary64)
one_at = rekeyed (of_int-at binary64 1 (lit< tt)) (ap (λ (n : ℕ). cap binary64 + n) (one-mul (one binary64)))

pub one-rep : Rep binary64 (one binary64)
one-rep = subst (Rep binary64) (one-mul (one binary64)) (rep-whole binary64 1 (lit< tt))

pub one-lt : one binary64 < cap binary64
one-lt = subst (λ (n : ℕ). n < cap binary64) (one-mul (one binary64)) (whole-lt binary64 1 (lit< tt))

-- the key of n units is a finite value's
pub above : (n : ℕ) → n < cap binary64 → Fin binary64 (cap binary64 + n)
above n h = (omega arith, omega arith)

-- ---- from 1 to M
pub record Count (M : ℕ) (x : Float) : Type 0 where
  pub n : ℕ
  pub low : one binary64 ≤ n
  pub high : n ≤ M * one binary64
  pub place : At binary64 x (cap binary64 + n)

pub count : (M : ℕ) {x : Float} → M < 2 ^ 53 → In binary64 (float_of 1) (float_of M) x → Count M x
count M {x} h i =
    let k = key binary64 x in
    let c = cap binary64 in
    let x' = at binary64 x i.fit (floats.le_right (float_of 1) x i.lower) in
    let l = of_le one_at x' i.lower in
    let u = of_le x' (of_int-at binary64 M h) i.upper in
    let e : k ≡ c + (k - c) = omega arith in
    record { n = k - c; low = omega arith; high = omega arith; place = rekeyed x' e }

-- ---- the whole part and the fraction of a value with n units, up to a whole number M
module _ {x : Float} {n : ℕ} (M : ℕ) (w : M < 2 ^ 53) (h : n ≤ M * one binary64) (a : At binary64 x (cap binary64 + n)) where
  pub below-cap : n < cap binary64
  below-cap = lt_of_le_of_lt h (whole-lt binary64 M w)

  pub whole_le : n / one binary64 ≤ M
  whole_le = let l : n / one binary64 < suc M = (div-lt_iff_lt-mul (one-pos binary64)).1 (omega (arith, one-pos binary64)) in omega arith

  pub whole_is : whole_part x ≡ n / one binary64
  whole_is = to_unsigned-at 64 n a below-cap ∙ min-eq_left (omega (arith, whole_le))

  pub fraction-at : At binary64 (fraction_part x) (cap binary64 + n % one binary64)
  fraction-at =
      let o = one binary64 in
      let c = cap binary64 in
      let d = n / o in
      let e = div-add-mod' n o in
      let d-wide : d < 2 ^ 53 = lt_of_le_of_lt whole_le w in
      let r : n - d * o ≡ n % o = omega arith in
      let rep : Rep binary64 (n % o) = subst (Rep binary64) r (rep-sub binary64 n d (rep_at a below-cap) (lt_of_le_of_lt h (mul-lt-mul_of_pos_right w (one-pos binary64)))) in
      let lt : n % o < c = omega (arith, below-cap) in
      subst (λ (k : ℕ). At binary64 (sub binary64 x (float_of k)) (c + n % o)) (sym whole_is)
      (rekeyed (sub_at a (of_int-at binary64 d d-wide) (above n below-cap) (above (d * o) (whole-lt binary64 d d-wide))) (difference-exact binary64 (c + n) (c + d * o) (n % o) rep lt (omega arith)))

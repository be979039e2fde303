-- `round_half_away`, the nearest whole number with halves away from zero, by the whole part and the fraction: from 2 ^ 52 on there is no fraction; below, one more than the whole part where the
-- fraction is 1/2 or more. A value below 0 has the whole part 0 and a fraction that is not above 0. Assumes nothing.
use Rattle.std.proofs.Common.{◌≡◌, ℕ, suc, ◌+◌, ◌-◌, ◌*◌, ◌/◌, ◌%◌, ◌^◌, ◌<◌, ◌≤◌, min, true, false, T, ℤ, pos, negsuc, sym, refl, ap, ◌∙◌, zero-le, le_trans, le_of_eq, lt_of_le_of_lt, le_of_lt, mod-lt, zero-lt-suc, mul_assoc, mul_comm, add-mul, mul-pos, one-mul, pow-suc, div-add-mod', le-mul_of_pos_right, div-one, mul_left_comm, arith, lit<, nltb→le, pow_mono}
use Rattle.std.proofs.lemmas.Float as floats
use lib.Arith.{digits_div}
use lib.Ieee.{Float, nan, inf, fin, binary64, up, down, sub, fits, le, lt, of_int, to_unsigned}
use lib.Ieee.Fits.{down_pos}
use lib.Ieee.Nearest.{div_same}
use Rattle.float64.specs.Number.{plus_zero, float_of, half, whole_part, fraction_part, round_half_away}
use Rattle.float64.proofs.Units.{one, cap, one-pos, sign, mag, Rep, mag-cross, fits-small}
use Rattle.float64.proofs.Round.{rounded-same, rounded-exact}
use Rattle.float64.proofs.Keys.{At, rekeyed, le_of, of-nle, size-of-le, size-of-lt, round-at, of_int-at}
use Rattle.float64.proofs.Order.{plus_zero-at, sign-size, sub-mono}
use Rattle.float64.proofs.Ranges.{yes, no}
use Rattle.float64.proofs.Wholes.{one-lt, whole_le, whole_is, fraction-at}

-- ---- from 2 ^ 52 on
pub round_whole : (x : Float) → T (fits binary64 x) → lt x (float_of 4503599627370496) ≡ false → round_half_away x ≡ whole_part x
unfolding round_half_away to_unsigned lt of_int
round_whole nan a h = refl
round_whole (inf s) a h = refl
round_whole (fin true m e) a h = refl
round_whole (fin false m (pos k)) a h = ap (λ (n : ℕ). min n (2 ^ 64 - 1)) (odd-half (m * 2 ^ k) ∙ sym (div-one (m * 2 ^ k)))
  where
    odd-half : (n : ℕ) → (2 * n + 1) / (2 * 1) ≡ n
    odd-half n = omega arith
round_whole (fin false m (negsuc k)) a h = absurd (far m (2 ^ suc k) (pow_mono {i = 1} {j = suc k} (omega arith)) (fits-small binary64 false m (negsuc k) a) (nltb→le (m * 1 * 1) (4503599627370496 * 2 ^ suc k) (no h)))
  where
    far : (m d : ℕ) → 2 ≤ d → m < 2 ^ 53 → 4503599627370496 * d ≤ m * 1 * 1 → ⊥
    far m d p q r = omega arith

-- ---- 1/2 has half the units of 1
half-units : (h : ℕ) × (one binary64 ≡ h * 2) × At binary64 half (cap binary64 + h)
unfolding one
half-units =
    let h = 2 ^ 1073 in
    let e : one binary64 ≡ h * 2 = pow-suc 2 1073 in
    let r : Rep binary64 h = record { q = 1; j = 1073; small = lit< tt; is = sym (one-mul h) } in
    let l : h < cap binary64 = lt_of_le_of_lt (le_trans (le-mul_of_pos_right h (zero-lt-suc 1)) (le_of_eq (sym e))) one-lt in
    (h, e, rekeyed (round-at binary64 false 1 2) (ap (λ (n : ℕ). cap binary64 + n) (rounded-same binary64 1 2 h (one binary64) (lit< tt) (one-pos binary64) (one-mul (one binary64) ∙ e) ∙ rounded-exact binary64 h r l)))

-- ---- below 2 ^ 52, and not below 0: n units
module _ (m : ℕ) (e : ℤ) (a : T (fits binary64 (fin false m e))) (l : lt (fin false m e) (float_of 4503599627370496) ≡ true) where
  place : At binary64 (fin false m e) (cap binary64 + mag binary64 (fin false m e))
  unfolding sign
  place = sign-size binary64 (fin false m e) a tt

  high : mag binary64 (fin false m e) ≤ 4503599627370496 * one binary64
  high = le_of_lt (size-of-lt place (of_int-at binary64 4503599627370496 (lit< tt)) (yes l))

  whole-mag : (whole_part (fin false m e) ≡ mag binary64 (fin false m e) / one binary64) × (mag binary64 (fin false m e) / one binary64 ≤ 4503599627370496)
  whole-mag = (whole_is 4503599627370496 (lit< tt) high place, whole_le 4503599627370496 (lit< tt) high place)

  rest : At binary64 (fraction_part (fin false m e)) (cap binary64 + mag binary64 (fin false m e) % one binary64)
  rest = fraction-at 4503599627370496 (lit< tt) high place

  -- the definition in units
  in-units : round_half_away (fin false m e) ≡ min ((2 * mag binary64 (fin false m e) + one binary64) / (2 * one binary64)) (2 ^ 64 - 1)
  unfolding round_half_away
  in-units =
      ap (λ (z : ℕ). min z (2 ^ 64 - 1))
      (div_same (2 * (m * up e) + down e) (2 * down e) (2 * mag binary64 (fin false m e) + one binary64) (2 * one binary64) (mul-pos (zero-lt-suc 1) (down_pos e)) (mul-pos (zero-lt-suc 1) (one-pos binary64))
      (cross (m * up e) (down e) (mag binary64 (fin false m e)) (one binary64) (mag-cross binary64 false m e a)))
    where
      cross : (u d n o : ℕ) → u * o ≡ n * d → (2 * u + d) * (2 * o) ≡ (2 * n + o) * (2 * d)
      cross u d n o h = simp (add-mul, mul_assoc, mul_comm, mul_left_comm) (omega arith)

-- twice the rest against 1: the quotient of 2 n + o by 2 o
module _ (n o : ℕ) (O : 0 < o) (l : n / o ≤ 4503599627370496) where
  quotient : (d r : ℕ) → d * (2 * o) + r ≡ 2 * n + o → r < 2 * o → d ≤ 4503599627370497 → min ((2 * n + o) / (2 * o)) (2 ^ 64 - 1) ≡ d
  quotient d r e h k = let q : (2 * n + o) / (2 * o) ≡ d = ap (λ (z : ℕ). z / (2 * o)) (sym e) ∙ digits_div d h in omega arith

  more : o ≤ 2 * (n % o) → min ((2 * n + o) / (2 * o)) (2 ^ 64 - 1) ≡ n / o + 1
  more h = let e = div-add-mod' n o in let r = mod-lt n O in quotient (n / o + 1) (2 * (n % o) - o) (omega arith) (omega arith) (omega arith)

  same : 2 * (n % o) < o → min ((2 * n + o) / (2 * o)) (2 ^ 64 - 1) ≡ n / o
  same h = let e = div-add-mod' n o in quotient (n / o) (2 * (n % o) + o) (omega arith) (omega arith) (omega arith)

-- below 0 the fraction is not above 0
negative : (m : ℕ) (e : ℤ) → T (fits binary64 (fin true m e)) → le half (fraction_part (fin true m e)) ≡ true → ⊥
unfolding to_unsigned fits le lt sub of_int
negative m e a h =
    let x = fin true m e in
    let l : T (le x plus_zero) = le_of (sign-size binary64 x a tt) (plus_zero-at binary64) (unfold sign in omega arith) in
    floats.le_trans half (sub binary64 x plus_zero) plus_zero (yes h) (sub-mono binary64 x plus_zero plus_zero plus_zero a tt tt tt tt tt tt tt l tt)

-- ---- below 2 ^ 52
pub whole-small : (x : Float) → T (fits binary64 x) → lt x (float_of 4503599627370496) ≡ true → whole_part x ≤ 4503599627370496
unfolding to_unsigned lt of_int
whole-small nan a l = zero-le
whole-small (inf true) a l = zero-le
whole-small (inf false) a l = absurd (yes l)
whole-small (fin true m e) a l = zero-le
whole-small (fin false m e) a l = let w = whole-mag m e a l in le_trans (le_of_eq w.0) w.1

pub round_up : (x : Float) → T (fits binary64 x) → lt x (float_of 4503599627370496) ≡ true → le half (fraction_part x) ≡ true → round_half_away x ≡ whole_part x + 1
unfolding to_unsigned le lt sub of_int
round_up nan a l h = absurd (yes l)
round_up (inf true) a l h = absurd (yes h)
round_up (inf false) a l h = absurd (yes l)
round_up (fin true m e) a l h = absurd (negative m e a h)
round_up (fin false m e) a l h =
    let n = mag binary64 (fin false m e) in
    let w = whole-mag m e a l in
    let u = half-units in
    let r : one binary64 ≤ 2 * (n % one binary64) = omega (arith, u.1, size-of-le u.2 (rest m e a l) (yes h)) in
    in-units m e a l ∙ more n (one binary64) (one-pos binary64) w.1 r ∙ ap (λ (z : ℕ). z + 1) (sym w.0)

pub round-down : (x : Float) → T (fits binary64 x) → lt x (float_of 4503599627370496) ≡ true → le half (fraction_part x) ≡ false → round_half_away x ≡ whole_part x
unfolding round_half_away to_unsigned lt
round-down nan a l h = refl
round-down (inf s) a l h = refl
round-down (fin true m e) a l h = refl
round-down (fin false m e) a l h =
    let n = mag binary64 (fin false m e) in
    let w = whole-mag m e a l in
    let u = half-units in
    let r : 2 * (n % one binary64) < one binary64 = omega (arith, u.1, of-nle u.2 (rest m e a l) (no h)) in
    in-units m e a l ∙ same n (one binary64) (one-pos binary64) w.1 r ∙ sym w.0

-- what `float64::round_half_away` cites
pub ruleset rounding_cases = (round_whole, whole-small, round_up, round-down)

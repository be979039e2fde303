-- A float by the fields of its bit pattern: its size in units of the smallest value, 2 ^ −1074, by the exponent field and the stored bits, and the powers of two between which it
-- lies. From these the cases of its whole part. Assumes nothing.
use Rattle.std.proofs.Common.{◌≡◌, ℕ, zero, suc, ◌+◌, ◌-◌, ◌*◌, ◌/◌, ◌%◌, ◌^◌, ◌<◌, ◌≤◌, min, Bool, true, false, cond, not, T, eqb, leb, sym, refl, ap, ◌∙◌, subst, le_trans, le_of_eq, lt_of_lt_of_le, le-add_right, lt_of_le_of_lt, mul-le-mul_right, mod-lt, mod-eq_of_lt, mul_assoc, lt_of_not-le, le-div_iff_mul-le, mul-one, mul_right_comm, not-le_of_lt, arith, lit<, pow_pos, pow_mono, pow-add, shl_lt, shl_exact, shr-shr, shr_lt}
use native.Mathlib.Nat.{div-eq_of_lt, zero-min, eq_of_mul-eq-mul_right}
use lib.Dec.{nleb→lt}
use lib.Pow.{shl-shr}
use lib.Ieee.{Float, nan, inf, fin, binary64, up, down, odd, fits, of_fields, of_bits, to_bits, lt, le, to_unsigned, of_int}
use lib.Ieee.Bits.{is_true, of_bits-to_bits}
use lib.Ieee.Exact.{HasValue, odd_sign}
use lib.Ieee.Scale.{finite}
use Rattle.std.proofs.num.Truncating as truncating
use Rattle.std.proofs.lemmas.Float as floats
use Rattle.float64.specs.Number.{plus_zero, float_of, exponent_field, significand_of, significand, whole_part, Small}
use Rattle.float64.proofs.Units.{one, cap, sign, mag, signed, mag-of-value, mag-lt}
use Rattle.float64.proofs.Keys.{At, rekeyed, of_le, le-of-size, lt-of-size, size-of-le, size-of-lt, of_int-at, to_unsigned-at}
use Rattle.float64.proofs.Ranges.{yes, no}
use Rattle.float64.proofs.Order.{plus_zero-at, sign-size, between-finite}
use Rattle.float64.proofs.Wholes.{one_at}
use Rattle.float64.proofs.Tests.{clash}

-- ---- a pattern by its fields

-- the 52 stored bits of the significand
abbrev stored : Float → ℕ
stored x = to_bits binary64 x % 2 ^ 52

stored-lt : (x : Float) → stored x < 2 ^ 52
stored-lt x = mod-lt (to_bits binary64 x) (pow_pos 52)

-- the sign bit
abbrev sign_bit : Float → Bool
sign_bit x = leb (2 ^ 63) (to_bits binary64 x)

-- how many units a field e and the stored bits t stand for: a field of 0 has no leading one, and the weight of field 1
abbrev units_of : ℕ → ℕ → ℕ
units_of zero t = t
units_of (suc j) t = (2 ^ 52 + t) * 2 ^ j

fields_value : (s : Bool) (e t : ℕ) → T (finite (of_fields binary64 s e t)) → HasValue (of_fields binary64 s e t) s (units_of e t) (2 ^ 1074)
unfolding of_fields
fields_value s zero t p = subst (λ (n : ℕ). HasValue (odd 53 s t 0 1074) s n (2 ^ 1074)) (mul-one t) (odd_sign 53 s t 0 1074)
fields_value s (suc j) t p = go (eqb (suc j) 2047) (eqb t 0) p
  where
    go : (a b : Bool) → T (finite (cond a (cond b (inf s) nan) (odd 53 s (2 ^ 52 + t) j 1074)))
        → HasValue (cond a (cond b (inf s) nan) (odd 53 s (2 ^ 52 + t) j 1074)) s ((2 ^ 52 + t) * 2 ^ j) (2 ^ 1074)
    go true true q = absurd q
    go true false q = absurd q
    go false b q = odd_sign 53 s (2 ^ 52 + t) j 1074

-- a field up to k is below 2 ^ (52 + k) units, one above k is not
units-below : (e t k : ℕ) → t < 2 ^ 52 → e ≤ k → units_of e t < 2 ^ (52 + k)
units-below zero t k h l = lt_of_lt_of_le h (pow_mono {i = 52} {j = 52 + k} (omega arith))
units-below (suc j) t k h l = lt_of_lt_of_le (shl_lt 53 j (omega arith)) (pow_mono {i = 53 + j} {j = 52 + k} (omega arith))

units-above : (e t k : ℕ) → k < e → 2 ^ (52 + k) ≤ units_of e t
units-above zero t k l = absurd (omega arith)
units-above (suc j) t k l =
    le_trans (pow_mono {i = 52 + k} {j = 52 + j} (omega arith)) (le_trans (le_of_eq (pow-add 2 52 j)) (mul-le-mul_right (2 ^ j) (le-add_right (2 ^ 52) t)))

-- and back
field-from : (e t k : ℕ) → t < 2 ^ 52 → 2 ^ (52 + k) ≤ units_of e t → k < e
field-from e t k h l = lt_of_not-le (λ (g : e ≤ k). not-le_of_lt (units-below e t k h g) l)

field-to : (e t k : ℕ) → units_of e t < 2 ^ (52 + k) → e ≤ k
field-to e t k l = let h : e < suc k = lt_of_not-le (λ (g : suc k ≤ e). not-le_of_lt l (units-above e t k g)) in omega arith

-- ---- the cases in units, of a field e with the stored bits t

held_below : (n c : ℕ) → n < c → min n (c - 1) ≡ n
held_below n c h = omega arith

held-above : (n c : ℕ) → c ≤ n → min n (c - 1) ≡ c - 1
held-above n c h = omega arith

module _ (e t : ℕ) (h : t < 2 ^ 52) where
  -- below 1 nothing is left
  cut_below : e < 1023 → min (units_of e t / 2 ^ 1074) (2 ^ 64 - 1) ≡ 0
  cut_below l = ap (λ (n : ℕ). min n (2 ^ 64 - 1)) (div-eq_of_lt (units-below e t 1022 h (omega arith))) ∙ zero-min (2 ^ 64 - 1)

  -- below 2 ^ 64 nothing is held back
  uncapped : (k : ℕ) → 52 + k ≤ 1138 → e ≤ k → min (units_of e t / 2 ^ 1074) (2 ^ 64 - 1) ≡ units_of e t / 2 ^ 1074
  uncapped k m l = held_below (units_of e t / 2 ^ 1074) (2 ^ 64) (shr_lt 64 1074 (lt_of_lt_of_le (units-below e t k h l) (pow_mono m)))

  cut_high : 1086 < e → min (units_of e t / 2 ^ 1074) (2 ^ 64 - 1) ≡ 2 ^ 64 - 1
  cut_high l =
      held-above (units_of e t / 2 ^ 1074) (2 ^ 64) ((le-div_iff_mul-le (pow_pos 1074)).1 (le_trans (le_of_eq (sym (pow-add 2 64 1074))) (units-above e t 1086 l)))

-- the significand q, times 2 ^ j, in ones: shifted right where j is under 1074, else left
shifted-right : (q j : ℕ) → j ≤ 1074 → q * 2 ^ j / 2 ^ 1074 ≡ q / 2 ^ (1074 - j)
shifted-right q j h =
    let e : j + (1074 - j) ≡ 1074 = omega arith in
    ap (λ (k : ℕ). q * 2 ^ j / 2 ^ k) (sym e) ∙ sym (shr-shr (q * 2 ^ j) j (1074 - j)) ∙ ap (λ (k : ℕ). k / 2 ^ (1074 - j)) (shl-shr q j)

shifted-left : (q j : ℕ) → 1074 ≤ j → q * 2 ^ j ≡ q * 2 ^ (j - 1074) * 2 ^ 1074
shifted-left q j h =
    let e : j ≡ j - 1074 + 1074 = omega arith in
    ap (λ (k : ℕ). q * 2 ^ k) e ∙ ap (λ (k : ℕ). q * k) (pow-add 2 (j - 1074) 1074) ∙ sym (mul_assoc q (2 ^ (j - 1074)) (2 ^ 1074))

cut-between : (e t : ℕ) → t < 2 ^ 52 → 1023 ≤ e → e ≤ 1074 → min (units_of e t / 2 ^ 1074) (2 ^ 64 - 1) ≡ (2 ^ 52 + t) / 2 ^ (1075 - e)
cut-between zero t h a b = absurd (omega arith)
cut-between (suc j) t h a b =
    let i : 1074 - j ≡ 1075 - suc j = omega arith in
    uncapped (suc j) t h 1074 (omega arith) b ∙ shifted-right (2 ^ 52 + t) j (omega arith) ∙ ap (λ (k : ℕ). (2 ^ 52 + t) / 2 ^ k) i

cut-above : (e t : ℕ) → t < 2 ^ 52 → 1075 ≤ e → e ≤ 1086 → min (units_of e t / 2 ^ 1074) (2 ^ 64 - 1) ≡ (2 ^ 52 + t) * 2 ^ (e - 1075)
cut-above zero t h a b = absurd (omega arith)
cut-above (suc j) t h a b =
    let i : j - 1074 ≡ suc j - 1075 = omega arith in
    uncapped (suc j) t h 1086 (omega arith) b
    ∙ ap (λ (k : ℕ). k / 2 ^ 1074) (shifted-left (2 ^ 52 + t) j (omega arith))
    ∙ shl-shr ((2 ^ 52 + t) * 2 ^ (j - 1074)) 1074
    ∙ ap (λ (k : ℕ). (2 ^ 52 + t) * 2 ^ k) i

-- ---- what a value tells
value-sign : (x : Float) (s : Bool) (a : ℕ) → HasValue x s a (2 ^ 1074) → sign x ≡ s
unfolding sign
value-sign nan s a v = absurd v
value-sign (inf t) s a v = absurd v
value-sign (fin t m e) s a v = v.0

-- from units to ones
rescaled : (x : Float) (s : Bool) (a : ℕ) → HasValue x s (a * 2 ^ 1074) (2 ^ 1074) → HasValue x s a 1
rescaled nan s a v = absurd v
rescaled (inf t) s a v = absurd v
rescaled (fin t m e) s a v =
    (v.0, mul-one (m * up e) ∙ eq_of_mul-eq-mul_right (2 ^ 1074) (pow_pos 1074) (m * up e) (a * down e) (v.1 ∙ mul_right_comm a (2 ^ 1074) (down e)))

in_ones : (x : Float) (s : Bool) (e t : ℕ) → 1075 ≤ e → HasValue x s (units_of e t) (2 ^ 1074) → HasValue x s ((2 ^ 52 + t) * 2 ^ (e - 1075)) 1
in_ones x s zero t l v = absurd (omega arith)
in_ones x s (suc j) t l v =
    let i : j - 1074 ≡ suc j - 1075 = omega arith in
    subst (λ (k : ℕ). HasValue x s ((2 ^ 52 + t) * 2 ^ k) 1) i
    (rescaled x s ((2 ^ 52 + t) * 2 ^ (j - 1074)) (subst (λ (n : ℕ). HasValue x s n (2 ^ 1074)) (shifted-left (2 ^ 52 + t) j (omega arith)) v))

-- ---- of an f64 that is finite
module _ (x : Float) (f : T (fits binary64 x)) (p : T (finite x)) where
  value : HasValue x (sign_bit x) (units_of (exponent_field x) (stored x)) (2 ^ 1074)
  unfolding of_bits
  value =
      let is = of_bits-to_bits binary64 x f in
      subst (λ (y : Float). HasValue y (sign_bit x) (units_of (exponent_field x) (stored x)) (2 ^ 1074)) is
      (fields_value (sign_bit x) (exponent_field x) (stored x) (subst (λ (y : Float). T (finite y)) (sym is) p))

  size_is : mag binary64 x ≡ units_of (exponent_field x) (stored x)
  unfolding one
  size_is = mag-of-value binary64 x (sign_bit x) (units_of (exponent_field x) (stored x)) value

  -- ... and not below 0
  module _ (h : T (le plus_zero x)) where
    at_size : At binary64 x (cap binary64 + mag binary64 x)
    at_size = go (sign x) (sign-size binary64 x f p)
      where
        go : (s : Bool) → At binary64 x (signed (cap binary64) s (mag binary64 x)) → At binary64 x (cap binary64 + mag binary64 x)
        go false a = a
        go true a = let z : cap binary64 + 0 ≤ cap binary64 - mag binary64 x = of_le (plus_zero-at binary64) a h in rekeyed a (omega (arith, mag-lt binary64 x f p))

    whole_is : whole_part x ≡ min (units_of (exponent_field x) (stored x) / 2 ^ 1074) (2 ^ 64 - 1)
    unfolding one
    whole_is = to_unsigned-at 64 (mag binary64 x) at_size (mag-lt binary64 x f p) ∙ ap (λ (n : ℕ). min (n / 2 ^ 1074) (2 ^ 64 - 1)) size_is

    -- ---- the three cases
    pub below_one : exponent_field x < 1023 → whole_part x ≡ 0
    below_one l = whole_is ∙ cut_below (exponent_field x) (stored x) (stored-lt x) l

    pub between : 1023 ≤ exponent_field x → exponent_field x ≤ 1074 → whole_part x ≡ significand x / 2 ^ (1075 - exponent_field x)
    between a b = whole_is ∙ cut-between (exponent_field x) (stored x) (stored-lt x) a b

    above : 1075 ≤ exponent_field x → exponent_field x ≤ 1086 → whole_part x ≡ significand x * 2 ^ (exponent_field x - 1075)
    above a b = whole_is ∙ cut-above (exponent_field x) (stored x) (stored-lt x) a b

    high : 1086 < exponent_field x → whole_part x ≡ 2 ^ 64 - 1
    high l = whole_is ∙ cut_high (exponent_field x) (stored x) (stored-lt x) l

    -- the sign bit of what is not 0 is clear
    sign_clear : 0 < mag binary64 x → sign_bit x ≡ false
    sign_clear l = sym (value-sign x (sign_bit x) (units_of (exponent_field x) (stored x)) value) ∙ go (sign x) (sign-size binary64 x f p)
      where
        go : (s : Bool) → At binary64 x (signed (cap binary64) s (mag binary64 x)) → s ≡ false
        go false a = refl
        go true a = absurd (omega (arith, of_le (plus_zero-at binary64) a h, mag-lt binary64 x f p))

    pub no_fraction : 1075 ≤ exponent_field x → HasValue x false (significand x * 2 ^ (exponent_field x - 1075)) 1
    no_fraction l =
        let e = exponent_field x in
        let big : 0 < mag binary64 x = lt_of_lt_of_le (pow_pos (52 + 1074)) (le_trans (units-above e (stored x) 1074 l) (le_of_eq (sym size_is))) in
        subst (λ (s : Bool). HasValue x s (significand x * 2 ^ (e - 1075)) 1) (sign_clear big) (in_ones x (sign_bit x) e (stored x) l value)

-- ---- what the proofs of the code cite

significand-lt : (b : ℕ) → significand_of b < 2 ^ 53
significand-lt b = omega (arith, mod-lt b (pow_pos 52))

-- of an f64 above 0, an infinity too, and its pattern: there is no sign bit, so that the pattern / 2 ^ 52 is the field
sign-none : (x : Float) → T (fits binary64 x) → T (lt plus_zero x) → sign_bit x ≡ false
unfolding lt to_bits
sign-none nan f h = absurd h
sign-none (inf true) f h = absurd h
sign-none (inf false) f h = refl
sign-none (fin s m e) f h =
    let x = fin s m e in
    let l = floats.le_of_lt plus_zero x h in
    sign_clear x f tt l (size-of-lt (plus_zero-at binary64) (at_size x f tt l) h)

finite-below : (x : Float) → T (lt plus_zero x) → exponent_field x < 2047 → T (finite x)
unfolding lt to_bits
finite-below nan h l = absurd h
finite-below (inf true) h l = absurd h
finite-below (inf false) h l = absurd (omega arith)
finite-below (fin s m e) h l = tt

infinite-whole : (x : Float) → T (lt plus_zero x) → T (not (finite x)) → whole_part x ≡ 2 ^ 64 - 1
unfolding lt to_unsigned
infinite-whole nan h n = absurd h
infinite-whole (inf true) h n = absurd h
infinite-whole (inf false) h n = refl
infinite-whole (fin s m e) h n = absurd n

module _ (x : Float) (f : T (fits binary64 x)) (h : T (lt plus_zero x)) where
  abbrev b : ℕ
  b = to_bits binary64 x

  from_zero : T (le plus_zero x)
  from_zero = floats.le_of_lt plus_zero x h

  pub field_is : b / 2 ^ 52 ≡ exponent_field x
  field_is = ap (λ (k : ℕ). k / 2 ^ 52) (sym (mod-eq_of_lt (nleb→lt (2 ^ 63) b (no (sign-none x f h)))))

  pub whole-below-one : b / 2 ^ 52 < 1023 → whole_part x ≡ 0
  whole-below-one l = let k : exponent_field x < 1023 = omega (arith, field_is) in below_one x f (finite-below x h (omega arith)) from_zero k

  -- the range of `whole_part_small`
  pub small-from : 1023 ≤ b / 2 ^ 52 → b / 2 ^ 52 < 1075 → T (le (float_of 1) x)
  unfolding one
  small-from l m =
      let p = finite-below x h (omega (arith, field_is)) in
      le-of-size one_at (at_size x f p from_zero) (le_trans (units-above (exponent_field x) (stored x) 1022 (omega (arith, field_is))) (le_of_eq (sym (size_is x f p))))

  pub small-to : 1023 ≤ b / 2 ^ 52 → b / 2 ^ 52 < 1075 → T (lt x (float_of (2 ^ 52)))
  unfolding one
  small-to l m =
      let p = finite-below x h (omega (arith, field_is)) in
      lt-of-size (at_size x f p from_zero) (of_int-at binary64 (2 ^ 52) (lit< tt)) (lt_of_le_of_lt (le_of_eq (size_is x f p)) (lt_of_lt_of_le (units-below (exponent_field x) (stored x) 1074 (stored-lt x) (omega (arith, field_is))) (le_of_eq (pow-add 2 52 1074))))

  pub whole_above : 1075 ≤ b / 2 ^ 52 → b / 2 ^ 52 < 1087 → significand_of b * 2 ^ (b / 2 ^ 52 - 1075) % 2 ^ 64 ≡ whole_part x
  whole_above l m =
      shl_exact 53 (b / 2 ^ 52 - 1075) 64 (significand-lt b) (omega arith)
      ∙ ap (λ (k : ℕ). significand x * 2 ^ (k - 1075)) field_is
      ∙ sym (above x f (finite-below x h (omega (arith, field_is))) from_zero (omega (arith, field_is)) (omega (arith, field_is)))

  pub whole-held : 1087 ≤ b / 2 ^ 52 → whole_part x ≡ 2 ^ 64 - 1
  whole-held l = go (finite x) refl
    where
      go : (t : Bool) → finite x ≡ t → whole_part x ≡ 2 ^ 64 - 1
      go true e = high x f (yes e) from_zero (omega (arith, field_is))
      go false e = infinite-whole x h (no e)

-- in the range of `whole_part_small`, the field and the whole part
module _ (x : Float) (f : T (fits binary64 x)) (small : Small x) where
  positive : T (lt plus_zero x)
  unfolding fits le lt of_int
  positive = floats.lt_of_lt_of_le plus_zero (float_of 1) x tt small.0

  field_range : (1023 ≤ to_bits binary64 x / 2 ^ 52) × (to_bits binary64 x / 2 ^ 52 ≤ 1074)
  unfolding one fits of_int
  field_range =
      let e = exponent_field x in
      let k = field_is x f positive in
      let z = from_zero x f positive in
      let p = between-finite binary64 plus_zero x (float_of (2 ^ 52)) tt f tt tt tt z (floats.le_of_lt x (float_of (2 ^ 52)) small.1) in
      let a = at_size x f p z in
      let is = size_is x f p in
      let lo = field-from e (stored x) 1022 (stored-lt x) (le_trans (size-of-le one_at a small.0) (le_of_eq is)) in
      let hi = field-to e (stored x) 1074 (lt_of_le_of_lt (le_of_eq (sym is)) (lt_of_lt_of_le (size-of-lt a (of_int-at binary64 (2 ^ 52) (lit< tt)) small.1) (le_of_eq (sym (pow-add 2 52 1074))))) in
      (omega arith, omega arith)

  pub small-field-from : 1023 ≤ to_bits binary64 x / 2 ^ 52
  small-field-from = field_range.0

  pub small-field-to : to_bits binary64 x / 2 ^ 52 ≤ 1074
  small-field-to = field_range.1

  pub small-whole : significand_of (to_bits binary64 x) / 2 ^ (1075 - to_bits binary64 x / 2 ^ 52) ≡ whole_part x
  small-whole =
      let e = field_is x f positive in
      let r = field_range in
      ap (λ (k : ℕ). significand x / 2 ^ (1075 - k)) e ∙ sym (between x f (finite-below x positive (omega arith)) (from_zero x f positive) (omega arith) (omega arith))

-- what is not above 0 has none
pub whole-none : (x : Float) → T (fits binary64 x) → lt plus_zero x ≡ false → whole_part x ≡ 0
unfolding fits le lt of_int
whole-none x f h = sym (truncating.below_one 64 x (go (le (float_of 1) x) (floats.lt_of_lt_of_le plus_zero (float_of 1) x tt)))
  where
    go : (b : Bool) → (T b → T (lt plus_zero x)) → T (not b)
    go true k = clash (is_true (lt plus_zero x) (k tt)) h
    go false k = tt

-- what `float64::whole_part` cites, and `float64::whole_part_small`
pub ruleset whole_cases = (whole-below-one, small-from, small-to, whole_above, whole-held, whole-none)

pub ruleset small_cases = (small-field-from, small-field-to, small-whole)

-- The fraction f of a distance x from 1 to a whole number M of at most 2 ^ 24, and 1 − f: the weights of a read at x. Both are exact, f by `Wholes` and 1 − f
-- since it is what the next whole number has above x, and no more than x. Where f is not 0 the whole part is below M. Assumes nothing.
use Rattle.std.proofs.Common.{◌≡◌, ℕ, ◌+◌, ◌-◌, ◌*◌, ◌/◌, ◌%◌, ◌^◌, ◌<◌, ◌≤◌, true, false, T, sym, refl, ap, ◌∙◌, subst, inl, inr, zero-le, lt_of_le_of_lt, lt_of_lt_of_le, le_of_lt, mod-lt, lt_of_mul-lt-mul_right, le_of_mul-le-mul_right, mul_assoc, sub-le, sub-add_cancel, div-add-mod', arith, pow_pos}
use Rattle.std.proofs.lemmas.Bool.{cases_lt}
use Rattle.std.proofs.lemmas.Float as floats
use lib.Ieee.{Float, Format, binary64, add, sub, fits, of_int, lt}
use Rattle.float64.specs.Number.{plus_zero, float_of, whole_part, fraction_part, is_zero}
use Rattle.float64.proofs.Units.{one, cap, one-pos, Rep}
use Rattle.float64.proofs.Round.{difference-exact, rep-whole}
use Rattle.float64.proofs.Near.{pow-gap, less-mul}
use Rattle.float64.proofs.Keys.{At, rekeyed, le-of-size, lt-of-size, size-of-le, size-of-lt, add_at, sub_at, of_int-at, rep_at}
use Rattle.float64.proofs.Order.{plus_zero-at}
use Rattle.float64.proofs.Same.{same_key, less-itself}
use Rattle.float64.proofs.Interval.{In, in-finite}
use Rattle.float64.proofs.Ranges.{yes}
use Rattle.float64.proofs.Wholes.{one_at, one-lt, above, Count, count, below-cap, whole_le, whole_is, fraction-at}

-- 1 − f, f the fraction of x
abbrev pub complement : Float → Float
complement x = sub binary64 (float_of 1) (fraction_part x)

-- Sterbenz's lemma: the format holds what a number has above another, if that is no more than the other. The last digit is that of the finer one
rep-gap : (f : Format) (x y : ℕ) → Rep f x → Rep f y → y - x ≤ x → Rep f (y - x)
rep-gap f x y r s h =
    elim (cases_lt s.j r.j) [
      | inl l ↦ record {
        q = s.q - r.q * 2 ^ (r.j - s.j);
        j = s.j;
        small = lt_of_le_of_lt (sub-le s.q (r.q * 2 ^ (r.j - s.j))) s.small;
        is = ap (λ (z : ℕ). y - z) (r.is ∙ finer r.q s.j r.j (le_of_lt l)) ∙ ap (λ (z : ℕ). z - r.q * 2 ^ (r.j - s.j) * 2 ^ s.j) s.is ∙ less-mul s.q (r.q * 2 ^ (r.j - s.j)) (2 ^ s.j);
      }
      | inr l ↦
          let e : y - x ≡ (s.q * 2 ^ (s.j - r.j) - r.q) * 2 ^ r.j =
          ap (λ (z : ℕ). y - z) r.is ∙ ap (λ (z : ℕ). z - r.q * 2 ^ r.j) (s.is ∙ finer s.q r.j s.j l) ∙ less-mul (s.q * 2 ^ (s.j - r.j)) r.q (2 ^ r.j) in
          record { q = s.q * 2 ^ (s.j - r.j) - r.q; j = r.j; small = lt_of_le_of_lt (le_of_mul-le-mul_right (omega (arith, e, r.is)) (pow_pos r.j)) r.small; is = e }
    ]
  where
    finer : (q k j : ℕ) → k ≤ j → q * 2 ^ j ≡ q * 2 ^ (j - k) * 2 ^ k
    finer q k j h = ap (λ (z : ℕ). q * z) (pow-gap k j h) ∙ sym (mul_assoc q (2 ^ (j - k)) (2 ^ k))

-- a sum that comes to the units of a value above 0 is that value
sum_is : {x y z : Float} {n : ℕ} (i j : ℕ) → At binary64 x (cap binary64 + i) → At binary64 y (cap binary64 + j) → At binary64 z (cap binary64 + n) → i + j ≡ n → 0 < n → n < cap binary64 → add binary64 x y ≡ z
sum_is {n = n} i j a b s e p l =
    let c = cap binary64 in
    same_key (rekeyed (add_at a b (above i (omega arith)) (above j (omega arith))) (difference-exact binary64 (c + i + (c + j)) (c + c) n (rep_at s l) l (omega arith))) s p l

-- a distance x, of n units
module _ (M : ℕ) (h : M ≤ 2 ^ 24) {x : Float} (i : In binary64 (float_of 1) (float_of M) x) where
  w : M < 2 ^ 53
  w = omega arith

  k : Count M x
  k = count M w i

  n-pos : 0 < k.n
  n-pos = lt_of_lt_of_le (one-pos binary64) k.low

  n-lt : k.n < cap binary64
  n-lt = below-cap M w k.high k.place

  whole-le : k.n / one binary64 ≤ M
  whole-le = whole_le M w k.high k.place

  rest-lt : k.n % one binary64 < one binary64
  rest-lt = mod-lt k.n (one-pos binary64)

  whole-at : At binary64 (float_of (whole_part x)) (cap binary64 + k.n / one binary64 * one binary64)
  whole-at = rw (whole_is M w k.high k.place) (of_int-at binary64 (k.n / one binary64) (lt_of_le_of_lt whole-le w))

  rest-at : At binary64 (fraction_part x) (cap binary64 + k.n % one binary64)
  rest-at = fraction-at M w k.high k.place

  complement-at : At binary64 (complement x) (cap binary64 + (one binary64 - k.n % one binary64))
  complement-at =
      let o = one binary64 in
      let c = cap binary64 in
      let d = k.n / o in
      let e : (d + 1) * o - k.n ≡ o - k.n % o = omega (arith, div-add-mod' k.n o) in
      let r = subst (Rep binary64) e (rep-gap binary64 k.n ((d + 1) * o) (rep_at k.place n-lt) (rep-whole binary64 (d + 1) (omega (arith, whole-le))) (omega (arith, k.low))) in
      rekeyed (sub_at one_at rest-at (above o one-lt) (above (k.n % o) (omega (arith, rest-lt, one-lt))))
      (difference-exact binary64 (c + o) (c + k.n % o) (o - k.n % o) r (omega (arith, one-lt)) (omega (arith, rest-lt)))

  -- a fraction of no units is +0: x is the whole number, and taken off itself
  none : k.n % one binary64 ≡ 0 → fraction_part x ≡ plus_zero
  none z =
      let o = one binary64 in
      let e : cap binary64 + k.n / o * o ≡ cap binary64 + k.n = omega (arith, div-add-mod' k.n o) in
      ap (λ (y : Float). sub binary64 x y) (same_key (rekeyed whole-at e) k.place n-pos n-lt) ∙ less-itself binary64 x (in-finite i)

  -- with a fraction x is below M, and the next whole number is not above it
  next-le : 0 < k.n % one binary64 → whole_part x + 1 ≤ M
  next-le p =
      let o = one binary64 in
      let l : k.n / o < M = lt_of_mul-lt-mul_right o (omega (arith, div-add-mod' k.n o, k.high)) in
      omega (arith, whole_is M w k.high k.place)

-- what the two weights of a read at x are
pub record Weights (M : ℕ) (x : Float) : Type 0 where
  pub fraction-exact : add binary64 (float_of (whole_part x)) (fraction_part x) ≡ x
  pub complement-exact : add binary64 (complement x) (fraction_part x) ≡ float_of 1
  pub complement-above : T (lt plus_zero (complement x))
  -- x is a whole number
  pub at-place : is_zero (fraction_part x) ≡ true → (fraction_part x ≡ plus_zero) × (complement x ≡ float_of 1)
  -- x lies between two
  pub between : is_zero (fraction_part x) ≡ false → T (lt plus_zero (fraction_part x)) × T (lt (complement x) (float_of 1)) × (whole_part x + 1 ≤ M)

pub weights-of : (M : ℕ) → M ≤ 2 ^ 24 → {x : Float} → In binary64 (float_of 1) (float_of M) x → Weights M x
unfolding fits of_int
weights-of M h {x} i =
    let o = one binary64 in
    let n = (k M h i).n in
    let f' = rest-at M h i in
    let g' = complement-at M h i in
    let z' = plus_zero-at binary64 in
    let l = rest-lt M h i in
    let f-low = le-of-size z' f' zero-le in
    record {
      fraction-exact = sum_is (n / o * o) (n % o) (whole-at M h i) f' (k M h i).place (div-add-mod' n o) (n-pos M h i) (n-lt M h i);
      complement-exact = sum_is (o - n % o) (n % o) g' f' one_at (sub-add_cancel (le_of_lt l)) (one-pos binary64) one-lt;
      complement-above = lt-of-size z' g' (omega arith);
      at-place = λ e. let f0 = none M h i (omega (arith, size-of-le f' z' (floats.le_of_eq (fraction_part x) plus_zero (yes e)))) in (f0, ap (sub binary64 (float_of 1)) f0 ∙ (unfold sub in refl));
      between = λ e.
          let a : T (lt plus_zero (fraction_part x)) =
          elim (floats.lt-or-eq plus_zero (fraction_part x) f-low) [ inl m ↦ m | inr m ↦ absurd (subst T e (floats.eq_flip plus_zero (fraction_part x) m)) ] in
          let p = size-of-lt z' f' a in
          (a, lt-of-size g' one_at (omega (arith, one-pos binary64)), next-le M h i p);
    }

-- The lengths of the reverb's lines at every accepted rate: each tuning, scaled, is from 1 to its cap. Assumes nothing.
use Rattle.std.proofs.Common.{◌≡◌, ℕ, zero, suc, ◌<◌, ◌≤◌, min, true, ◌&&◌, leb, List, [], ◌∷◌, map, length, get_or, replicate, refl, ap, le_of_suc-le-suc, not-suc-le-zero, arith, lt-ltb, leb-true}
use native.Mathlib.Nat.{min-le_right}
use lib.Ieee.{Float, binary64, mul, div, le, lt, of_int, round, to_unsigned}
use lib.Ieee as Ieee
use Rattle.float64.specs.Number.{float_of, fraction, in_range, rate_fits, whole_part, Small}
use Rattle.float64.proofs.Tests.{both}
use Rattle.float64.proofs.Interval.{In, point, mul_in, div-in, cut_in}
use Rattle.float64.proofs.Ranges.{rate-in, range-in, in-range}
use Rattle.float64.proofs.Parts.{small-in, whole-between}
use Rattle.reverb.specs.declared.tunings.Lengths.{Lengths}
use Rattle.reverb.specs.Tunings.{Side, left, right, comb_most, least_tuning, most_tuning, ratio, scaled, spread, beside, line_lengths, lengths_at, lengths_for, Capped, tuned}
use Rattle.reverb.specs.Tank.{all_below}

-- ---- the ratio

pub ratio-fits : (rate : Float) → rate_fits rate ≡ true → in_range (ratio rate) (fraction 1 8) (float_of 5) ≡ true
unfolding ratio Ieee.fits le lt div of_int round
ratio-fits rate h = in-range (div-in (fraction 1 8) (float_of 5) tt tt tt (rate-in h) (point (float_of 44100) tt))

-- ---- a tuning times the ratio

module _ (r : Float) (base : ℕ) (low : least_tuning ≤ base) (high : base ≤ most_tuning) (h : in_range r (fraction 1 8) (float_of 5) ≡ true) where
  pub product-in : In binary64 (float_of 1) (float_of 16777216) (mul binary64 (float_of base) r)
  unfolding Ieee.fits le mul of_int round
  product-in = mul_in (float_of 1) (float_of 16777216) tt tt tt (whole-between least_tuning base most_tuning low high (omega arith)) (range-in tt h)

  -- its whole part is below 2^25
  pub product-cut : whole_part (mul binary64 (float_of base) r) ≤ 16777216
  unfolding Ieee.fits le of_int to_unsigned
  product-cut = (cut_in 64 tt product-in).1

  -- it is small enough for `whole_part_small`
  pub product_small : Small (mul binary64 (float_of base) r)
  product_small = small-in product-in

-- so is its whole part at least 1, under any cap, and beside it too
scaled-some : (most : ℕ) (r : Float) (base : ℕ) → 1 ≤ most → least_tuning ≤ base → base ≤ most_tuning → in_range r (fraction 1 8) (float_of 5) ≡ true → 1 ≤ scaled most r base
unfolding scaled Ieee.fits le of_int to_unsigned
scaled-some most r base h low high k = let c = cut_in 64 tt (product-in r base low high k) in omega (arith, c.0)

beside-some : (most wide n : ℕ) → 1 ≤ most → 1 ≤ n → 1 ≤ beside most wide n
unfolding beside
beside-some most wide n h k = omega arith

-- a spread beyond every cap is as good as the largest cap
pub beside-capped : (most wide n : ℕ) → most ≤ comb_most → beside most (min wide comb_most) n ≡ beside most wide n
unfolding beside
beside-capped most wide n h = omega arith

-- every tuning lies where that holds
pub tuned-at : (l : List ℕ) (i : ℕ) → tuned l ≡ true → i < length l → (least_tuning ≤ get_or l i 0) × (get_or l i 0 ≤ most_tuning)
unfolding tuned
tuned-at [] i e h = absurd (not-suc-le-zero h)
tuned-at (b ∷ l) zero e h =
    let a = both (leb least_tuning b) (leb b most_tuning && tuned l) e in
    (leb-true least_tuning b a.0, leb-true b most_tuning (both (leb b most_tuning) (tuned l) a.1).0)
tuned-at (b ∷ l) (suc i) e h = tuned-at l i (both (leb b most_tuning) (tuned l) (both (leb least_tuning b) (leb b most_tuning && tuned l) e).1).1 (le_of_suc-le-suc h)

-- ---- the lengths of lines, of either side

mapped-most : (f : ℕ → ℕ) (most : ℕ) (l : List ℕ) (i : ℕ) → ((base : ℕ) → f base ≤ most) → get_or (map f l) i 0 ≤ most
mapped-most f most [] i h = omega arith
mapped-most f most (b ∷ l) zero h = h b
mapped-most f most (b ∷ l) (suc i) h = mapped-most f most l i h

-- none is longer than its cap
pub lines-most : (most : ℕ) (tunings : List ℕ) (side : Side) (rate : Float) (i : ℕ) → get_or (line_lengths most tunings side rate) i 0 ≤ most
unfolding scaled beside
lines-most most tunings left rate i = mapped-most (scaled most (ratio rate)) most tunings i (λ b. min-le_right _ _)
lines-most most tunings right rate i =
    mapped-most (λ base. beside most (spread (ratio rate)) (scaled most (ratio rate) base)) most tunings i (λ b. min-le_right _ _)

-- nor than the longest comb
pub lines-capped : (most : ℕ) (tunings : List ℕ) (side : Side) (rate : Float) {ns : List ℕ} → most ≤ comb_most → ns ≡ line_lengths most tunings side rate → Capped comb_most ns
lines-capped most tunings side rate h e = λ i. omega (arith, h, lines-most most tunings side rate i, ap (λ (l : List ℕ). get_or l i 0) e)

-- each has a place at least, at an accepted rate
zeros-below : (f : ℕ → ℕ) (l : List ℕ) → ((i : ℕ) → i < length l → 1 ≤ f (get_or l i 0)) → all_below (replicate (length l) 0) (map f l) ≡ true
unfolding all_below
zeros-below f [] h = refl
zeros-below f (b ∷ l) h = rw (lt-ltb 0 (f b) (h 0 (omega arith))) (zeros-below f l (λ i k. h (suc i) (omega arith)))

pub lines-some : (most : ℕ) (tunings : List ℕ) (side : Side) (rate : Float) → 1 ≤ most → tuned tunings ≡ true → rate_fits rate ≡ true
    → all_below (replicate (length tunings) 0) (line_lengths most tunings side rate) ≡ true
lines-some most tunings side rate h t k = go side
  where
    some : (i : ℕ) → i < length tunings → 1 ≤ scaled most (ratio rate) (get_or tunings i 0)
    some i l = let b = tuned-at tunings i t l in scaled-some most (ratio rate) (get_or tunings i 0) h b.0 b.1 (ratio-fits rate k)

    go : (w : Side) → all_below (replicate (length tunings) 0) (line_lengths most tunings w rate) ≡ true
    go left = zeros-below (scaled most (ratio rate)) tunings some
    go right =
        zeros-below (λ base. beside most (spread (ratio rate)) (scaled most (ratio rate) base)) tunings (λ i l. beside-some most (spread (ratio rate)) _ h (some i l))

-- ---- every line, as the code finds them

-- at a rate that is a whole number and fits
pub lengths-at : (n : ℕ) {rate : Float} → rate_fits (float_of n) ≡ true → rate ≡ float_of n → lengths_at (float_of n) ≡ lengths_for rate
lengths-at n h e = rw (e, h)

-- at any rate that fits
pub lengths-are : (rate : Float) {n : Lengths} → rate_fits rate ≡ true → n ≡ lengths_for rate → n ≡ lengths_at rate
lengths-are rate h e = rw h at e

-- what `tunings::scaled` cites
pub ruleset scaled_cases = (product-cut)

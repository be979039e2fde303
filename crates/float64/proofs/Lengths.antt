-- How long the lines are, for every accepted rate: the whole part of rate times seconds for a maximum from a millisecond to a minute, and of rate times milliseconds over 1000 for a fixed
-- number of milliseconds. The second is one law over one test at the least and the greatest rate, which computes. Assumes nothing.
use Rattle.std.proofs.Common.{◌≡◌, ℕ, ◌+◌, ◌≤◌, Bool, true, ◌&&◌, T, leb, le_trans, arith, leb→le}
use lib.Ieee.{Float, binary64, mul, div, fits, le, lt, to_unsigned, of_int}
use lib.Ieee.Fits.{and_l, and_r}
use Rattle.float64.specs.Number.{plus_zero, float_of, fraction, rate_fits, whole_part}
use Rattle.float64.proofs.Order.{mul-mono-left, div_mono, whole-mono}
use Rattle.float64.proofs.Interval.{In, box, in-finite, point, mul_in, div-in, cut_in}
use Rattle.float64.proofs.Ranges.{rate-in}

pub line-length : (r : Float) {m : Float} → rate_fits r ≡ true → In binary64 (fraction 1 1000) (float_of 60) m → (8 ≤ whole_part (mul binary64 r m)) × (whole_part (mul binary64 r m) + 1 ≤ 11520001)
unfolding fits le mul to_unsigned of_int
line-length r {m} h i = let c = cut_in 64 tt (mul_in (float_of 8) (float_of 11520000) tt tt tt (rate-in h) i) in (c.0, omega arith)

-- ---- a fixed number of milliseconds
abbrev pub samples : Float → Float → Float
samples r k = div binary64 (mul binary64 r k) (float_of 1000)

-- k is at most a second, and its length is from lo, at the least rate, to hi, at the greatest
abbrev pub lengths_fit : Float → ℕ → ℕ → Bool
lengths_fit k lo hi = fits binary64 k && le plus_zero k && le k (float_of 1000) && leb lo (whole_part (samples (float_of 8000) k)) && leb (whole_part (samples (float_of 192000) k)) hi

-- a greater rate, no fewer samples
module _ (k : Float) (i : In binary64 plus_zero (float_of 1000) k) where
  product-in : {r : Float} → In binary64 (float_of 8000) (float_of 192000) r → In binary64 plus_zero (float_of 192000000) (mul binary64 r k)
  unfolding fits le mul of_int
  product-in j = mul_in plus_zero (float_of 192000000) tt tt tt j i

  samples-in : {r : Float} → In binary64 (float_of 8000) (float_of 192000) r → In binary64 plus_zero (float_of 192000) (samples r k)
  unfolding fits le lt div of_int
  samples-in j = div-in plus_zero (float_of 192000) tt tt tt (product-in j) (point (float_of 1000) tt)

  samples-mono : (r s : Float) → In binary64 (float_of 8000) (float_of 192000) r → In binary64 (float_of 8000) (float_of 192000) s → T (le r s) → whole_part (samples r k) ≤ whole_part (samples s k)
  unfolding fits le lt of_int
  samples-mono r s j l h =
      let B = binary64 in
      let p = product-in j in
      let q = product-in l in
      let m : T (le (mul B r k) (mul B s k)) = mul-mono-left B r s k j.fit l.fit i.fit (in-finite j) (in-finite l) (in-finite i) i.lower h in
      let d : T (le (samples r k) (samples s k)) = div_mono B (mul B r k) (mul B s k) (float_of 1000) (float_of 1000) p.fit q.fit tt tt (in-finite p) (in-finite q) tt tt p.lower tt m tt in
      whole-mono B 64 (samples r k) (samples s k) (samples-in j).fit (samples-in l).fit (in-finite (samples-in j)) (in-finite (samples-in l)) (samples-in j).lower d

pub length-between : (r k : Float) (lo hi : ℕ) → T (lengths_fit k lo hi) → rate_fits r ≡ true → (lo ≤ whole_part (samples r k)) × (whole_part (samples r k) ≤ hi)
unfolding fits le of_int
length-between r k lo hi t h =
    let F = fits binary64 k in
    let L = leb lo (whole_part (samples (float_of 8000) k)) in
    let H = leb (whole_part (samples (float_of 192000) k)) hi in
    let u = and_l (F && le plus_zero k && le k (float_of 1000) && L) H t in
    let v = and_l (F && le plus_zero k && le k (float_of 1000)) L u in
    let w = and_l (F && le plus_zero k) (le k (float_of 1000)) v in
    let i = box tt (and_l F (le plus_zero k) w) (and_r F (le plus_zero k) w) (and_r (F && le plus_zero k) (le k (float_of 1000)) v) in
    let j = rate-in h in (
      le_trans (leb→le lo (whole_part (samples (float_of 8000) k)) (and_r (F && le plus_zero k && le k (float_of 1000)) L u)) (samples-mono k i (float_of 8000) r (box tt tt tt tt) j j.lower),
      le_trans (samples-mono k i r (float_of 192000) j (box tt tt tt tt) j.upper) (leb→le (whole_part (samples (float_of 192000) k)) hi (and_r (F && le plus_zero k && le k (float_of 1000) && L) H t)),
    )

-- the effects' three
module _ (r : Float) (h : rate_fits r ≡ true) where
  pub length-10 : (80 ≤ whole_part (samples r (float_of 10))) × (whole_part (samples r (float_of 10)) ≤ 1920)
  unfolding fits le mul div to_unsigned of_int
  length-10 = length-between r (float_of 10) 80 1920 tt h

  pub length-20 : (160 ≤ whole_part (samples r (float_of 20))) × (whole_part (samples r (float_of 20)) ≤ 3840)
  unfolding fits le mul div to_unsigned of_int
  length-20 = length-between r (float_of 20) 160 3840 tt h

  pub length-32 : (256 ≤ whole_part (samples r (float_of 32))) × (whole_part (samples r (float_of 32)) ≤ 6144)
  unfolding fits le mul div to_unsigned of_int
  length-32 = length-between r (float_of 32) 256 6144 tt h

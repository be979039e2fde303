-- What the effects with swept lines share: how long a line is, distances clamped to a line, controls that are not NaN, and reads in the part of the memory that
-- is a line. Assumes nothing.
use Prim.Native.Nat.{ℕ, ◌+◌, ◌^◌, ◌≤◌, ◌<◌}
use native.Mathlib.Omega.{arith}
use Rattle.std.proofs.Common.{lit<}
use Rattle.std.proofs.lemmas.Float as floats
use mathlib.Core.Path.{◌≡◌, refl, ap, ◌∙◌}
use mathlib.Core.Bool.{Bool, true, false, ◌&&◌, ◌||◌, cond}
use mathlib.Core.List.{List}
use lib.Dec.{T, leb}
use lib.ListN.{length, take, drop}
use lib.Ieee.{Float, binary64, fits, is_nan, mul, div, to_unsigned, le, lt, of_int}
use borrow.Author.Tests.{not-false}
use Rattle.float64.specs.Number.{plus_zero, float_of, is_number, whole_part, rate_fits, clamp_of, at_least, at_most}
use Rattle.float64.proofs.Order.{le→not-lt}
use Rattle.float64.proofs.Interval.{In, hi-fits, point, widen, cut_in, mul_in, div-in}
use Rattle.float64.proofs.Ranges.{rate-in, range-in}
use Rattle.float64.proofs.Clamped.{clamp-in, clamp-halves}
use Rattle.float64.proofs.Parts.{small-in, clamp-whole-in, range-whole}
use Rattle.port.specs.declared.Port.{Port}
use Rattle.port.specs.declared.Port.TheVariants.{Set, Unset}
use Rattle.port.specs.Port.{value_or, is_nan_set}
use Rattle.common.specs.Signal.{cause_number}
use Rattle.common.specs.Line.{sweep_fits, line_at, read_at}
use Rattle.common.proofs.Slices.{part_length}
use Rattle.common.proofs.Ring.{part-line}

-- ---- the samples of a swept line: rate × milliseconds / 1000

module _ (rate milliseconds : Float) (h : rate_fits rate ≡ true) (k : sweep_fits milliseconds ≡ true) where
  pub swept-in : In binary64 (float_of 8) (float_of 19200) (div binary64 (mul binary64 rate milliseconds) (float_of 1000))
  unfolding fits le lt mul div of_int
  swept-in = div-in (float_of 8) (float_of 19200) tt tt tt (mul_in (float_of 8000) (float_of 19200000) tt tt tt (rate-in h) (range-in tt k)) (point (float_of 1000) tt)

  -- so that its whole part may be asked for, and is small
  pub swept-low : T (le (float_of 1) (div binary64 (mul binary64 rate milliseconds) (float_of 1000)))
  unfolding fits le of_int
  swept-low = (widen (float_of 1) (float_of 19200) tt swept-in).lower

  pub swept-high : T (lt (div binary64 (mul binary64 rate milliseconds) (float_of 1000)) (float_of 4503599627370496))
  unfolding fits le of_int
  swept-high = (small-in (widen (float_of 1) (float_of 16777216) tt swept-in)).1

  pub swept-whole : whole_part (div binary64 (mul binary64 rate milliseconds) (float_of 1000)) ≤ 19200
  unfolding to_unsigned le of_int
  swept-whole = (cut_in 64 tt swept-in).1

pub ruleset swept_cases = (swept-low, swept-high, swept-whole)

-- of whole milliseconds the test of their number is that of the float
pub sweep_whole : (n : ℕ) → n < 2 ^ 32 → sweep_fits (float_of n) ≡ leb 1 n && leb n 100
sweep_whole n h = range-whole 1 n 100 (lit< tt) (omega (arith, h)) (lit< tt)

-- ---- distances

-- the last place of a line is not below 1
pub last-above : (M : ℕ) → M ≤ 2 ^ 24 → 1 ≤ M → lt (float_of M) (float_of 1) ≡ false
unfolding fits is_number is_nan of_int
last-above M h k =
    let i = clamp-whole-in M h (float_of 1) k refl in
    let u = hi-fits binary64 (float_of 1) (float_of M) i.ends-ok in
    le→not-lt binary64 (float_of 1) (float_of M) tt u (floats.le_trans (float_of 1) _ (float_of M) i.lower i.upper)

-- the clamp to 1 to M in two halves
pub clamped_halves : (x : Float) (M : ℕ) → M ≤ 2 ^ 24 → 1 ≤ M → at_most (at_least x (float_of 1)) (float_of M) ≡ clamp_of x (float_of 1) (float_of M)
clamped_halves x M h k = clamp-halves x (float_of 1) (float_of M) (last-above M h k)

-- ---- controls

-- causes 5 and 6 do not apply
pub no-cause : (control_nan curves_fit : Bool) → cause_number control_nan curves_fit ≡ 0 → (control_nan ≡ false) × (curves_fit ≡ true)
no-cause true b e = absurd (omega arith)
no-cause false true e = (refl, refl)
no-cause false false e = absurd (omega arith)

pub neither : (a b : Bool) → a || b ≡ false → (a ≡ false) × (b ≡ false)
neither true b e = absurd (let z : ◌≡◌ {A = ℕ} 0 1 = ap (λ (c : Bool). cond c 0 1) e in omega arith)
neither false b e = (refl, e)

-- a control that is not NaN, and so a number, or a default that is one
pub value-number : (p : Port) (d : Float) → is_nan_set p ≡ false → is_number d ≡ true → is_number (value_or p d) ≡ true
value-number (Set x) d h k = not-false (is_number x) h
value-number Unset d h k = k

-- clamped, it lies from 0 to 1
pub control-in : (p : Port) (d : Float) → is_nan_set p ≡ false → is_number d ≡ true → In binary64 plus_zero (float_of 1) (clamp_of (value_or p d) plus_zero (float_of 1))
unfolding fits le of_int
control-in p d h k = clamp-in (value_or p d) tt tt (value-number p d h k)

-- ---- a read in the part of k places from place o on, which is a line of n places, is a read of the line

pub part-read : (k o n w : ℕ) (m : List Float) (x : Float) → k ≡ n → o + n ≤ length m → w < n
    → read_at (line_at 0 (length (take k (drop o m))) w (take k (drop o m))) x ≡ read_at (line_at o n w m) x
part-read k o n w m x e h l =
    (λ j. read_at (line_at 0 (part_length o k m n e h j) w (take (e j) (drop o m))) x)
    ∙ ap (λ (f : ℕ → Float). read_at f x) (part-line o n w m l)

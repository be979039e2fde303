-- The predelay by its cases: a delay of 0, and one that does not or does go past the line's start; it is less than the line at every control and rate. How many
-- samples a control asks for, from 1 on and below.
-- Assumes nothing.
use Rattle.std.proofs.Common.{◌≡◌, ℕ, ◌-◌, ◌<◌, ◌≤◌, true, false, T, ◌≢◌, List, get_or, take, drop, set, sym, ap, ◌∙◌, zero-add, arith, get_or-set_other, eq-eqb, ne_eqb}
use lib.Ieee.{Float, nan, binary64, mul, le, lt, of_int, round, to_unsigned}
use lib.Ieee as Ieee
use Rattle.float64.specs.Number.{plus_zero, float_of, fraction, rate_fits, at_most, whole_part, Small}
use Rattle.std.proofs.num.Truncating.{below_one}
use Rattle.std.proofs.lemmas.Float as floats
use Rattle.float64.proofs.Interval.{In, box, point, widen, mul_in, cut_in}
use Rattle.float64.proofs.Ranges.{yes, no, rate-in}
use Rattle.float64.proofs.Clamped.{at_most_in, at-most-le, at-most-fits}
use Rattle.float64.proofs.Parts.{small-in}
use Rattle.common.specs.Line.{line_at, place}
use Rattle.common.proofs.Ring.{place-low, place-high, place_other, part_at}
use Rattle.reverb.specs.Tunings.{predelay_size}
use Rattle.reverb.specs.Tank.{delayed}
use Rattle.reverb.specs.Reverb.{delay_samples}

-- ---- the delay

pub delay-less : (control rate : Float) → In binary64 plus_zero (float_of 1) control → rate_fits rate ≡ true → delay_samples control rate < predelay_size
unfolding delay_samples Ieee.fits le lt mul of_int round to_unsigned
delay-less control rate i h =
    let x = mul_in plus_zero (float_of 19200) tt tt tt (mul_in plus_zero (fraction 1 10) tt tt tt i (point (fraction 1 10) tt)) (rate-in h) in
    let c = cut_in 64 tt (at_most_in (float_of (predelay_size - 1)) tt tt x) in
    omega (arith, c.1)

-- any number of samples, held to the longest delay: from 1 on it is in the range of `whole_part_small`, below 1 it has no whole part
module _ (x : Float) (f : T (Ieee.fits binary64 x)) where
  abbrev held : Float
  held = at_most x (float_of (predelay_size - 1))

  held_fits : T (Ieee.fits binary64 held)
  unfolding Ieee.fits of_int
  held_fits = at-most-fits x (float_of (predelay_size - 1)) f tt

  pub held_small : le (float_of 1) held ≡ true → Small held
  unfolding Ieee.fits Ieee.is_nan le lt of_int
  held_small h =
      let l = at-most-le x (float_of (predelay_size - 1)) f tt tt (floats.le_right (float_of 1) held (yes h)) in
      let i : In binary64 (float_of 1) (float_of (predelay_size - 1)) held = box tt held_fits (yes h) l in
      small-in (widen (float_of 1) (float_of 16777216) tt i)

  pub held_none : le (float_of 1) held ≡ false → whole_part held ≡ 0
  unfolding of_int
  held_none h = sym (below_one 64 held (no h))

-- ---- what comes out

module _ (o w : ℕ) (x : Float) (m : List Float) where
  pub delayed-none : {d : ℕ} → d ≡ 0 → x ≡ delayed o w d x m
  unfolding delayed
  delayed-none {d} e = rw (eq-eqb d 0 e)

  pub delayed-some : (d : ℕ) → d ≢ 0 → line_at o predelay_size w m d ≡ delayed o w d x m
  unfolding delayed
  delayed-some d e = rw (ne_eqb d 0 e)

  -- in the part of the memory that is the line
  pub delayed-part : (d k : ℕ) → k ≡ predelay_size → w < predelay_size → delayed 0 w d x (take k (drop o m)) ≡ delayed o w d x m
  unfolding delayed
  delayed-part d k e h = rw (e, part_at o predelay_size w m d h)

-- a line of its own, after the store
module _ (w d : ℕ) (x : Float) (m : List Float) (h : w < predelay_size) where
  -- what stands d samples back is at another place than the store
  beside-store : (p : ℕ) → p ≡ place predelay_size w d → 1 ≤ d → d < predelay_size → get_or (set m w x) p nan ≡ delayed 0 w d x m
  beside-store p e a b =
      get_or-set_other m w p x nan (omega (arith, e, place_other predelay_size w d h a b))
      ∙ ap (λ (q : ℕ). get_or m q nan) (e ∙ sym (zero-add (place predelay_size w d)))
      ∙ delayed-some 0 w x m d (omega arith)

  pub delayed-low : d ≢ 0 → d ≤ w → get_or (set m w x) (w - d) nan ≡ delayed 0 w d x m
  delayed-low e l = beside-store (w - d) (sym (place-low predelay_size w d h l)) (omega arith) (omega arith)

  pub delayed-high : d < predelay_size → w < d → get_or (set m w x) (predelay_size - (d - w)) nan ≡ delayed 0 w d x m
  delayed-high l e = beside-store (predelay_size - (d - w)) (omega (arith, place-high predelay_size w d e (omega arith))) (omega arith) l

-- what `filters::process_predelay` cites
pub ruleset delayed_cases = (delayed-none, delayed-low, delayed-high)

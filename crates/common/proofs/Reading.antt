-- A read at a distance held to a line of 2 to 16,777,217 places: the whole part lies in the line, and the read is put together from its parts: whole part, two
-- places, fraction, blend. Assumes nothing.
use Prim.Native.Nat.{ℕ, ◌+◌, ◌-◌, ◌≤◌, ◌<◌}
use native.Mathlib.Nat.{zero-add}
use native.Mathlib.Omega.{arith}
use mathlib.Core.Path.{◌≡◌, refl, ap, ◌∙◌}
use mathlib.Core.Bool.{true}
use mathlib.Core.List.{List}
use lib.Dec.{T}
use lib.ListN.{length, get_or}
use lib.Ieee.{Float, nan, binary64, sub, le, lt}
use Rattle.float64.specs.Number.{float_of, whole_part, fraction_part, in_range}
use Rattle.float64.proofs.Ranges.{range-in}
use Rattle.float64.proofs.Parts.{Parts, parts-of, whole-ends}
use Rattle.common.specs.Signal.{blended}
use Rattle.common.specs.Line.{place, line_at, read_at, nonzero}
use Rattle.common.specs.Reads.{age_at}
use Rattle.common.proofs.Ring.{place-again}

module _ (n : ℕ) (x : Float) (short : n ≤ 16777217) (held : in_range x (float_of 1) (float_of (n - 1)) ≡ true) where
  parts : Parts (n - 1) x
  parts = let l : n - 1 ≤ 16777216 = omega arith in parts-of (n - 1) l (range-in (whole-ends (n - 1) l) held)

  pub distance-low : T (le (float_of 1) x)
  distance-low = parts.small.0

  pub distance-high : T (lt x (float_of 4503599627370496))
  distance-high = parts.small.1

  pub whole-low : 1 ≤ whole_part x
  whole-low = parts.at_least

  pub whole-high : whole_part x < n
  whole-high = omega (arith, parts.at_least, parts.at-most)

pub ruleset distance_cases = (distance-low, distance-high, whole-low, whole-high)

-- p is the place of the whole part d and q the one before it, n the whole part as a float and y their blend
pub read_is : (line : List Float) (w : ℕ) (x : Float) (d p q : ℕ) (n y : Float) → length line ≤ 16777217 → in_range x (float_of 1) (float_of (length line - 1)) ≡ true
    → w < length line → d ≡ whole_part x → p ≡ place (length line) w d → q ≡ place (length line) p 1 → n ≡ float_of d
    → y ≡ blended (get_or line p nan) (get_or line q nan) (sub binary64 x n)
    → y ≡ read_at (line_at 0 (length line) w line) x
unfolding read_at
read_is line w x d p q n y s r l e h k m b =
    let low = whole-low (length line) x s r in
    let high = whole-high (length line) x s r in
    let before : q ≡ place (length line) w (d + 1) =
    k ∙ ap (λ (i : ℕ). place (length line) i 1) h ∙ place-again (length line) w d l (omega (arith, e, low)) (omega (arith, e, high)) in
    rw (b, before, h, m, e) (simp zero-add)

-- the age, from the whole part d, n the whole part as a float, and whether their difference is none of the zeros
pub age_is : (x : Float) (d : ℕ) (n : Float) {k : ℕ} → d ≡ whole_part x → n ≡ float_of d → k ≡ nonzero (sub binary64 x n) → d + k ≡ age_at x
unfolding age_at
age_is x d n e m h = rw (h, m, e) refl

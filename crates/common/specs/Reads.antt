-- Reads of lines at a distance: what each hears, what it weighs the samples of its line by, and how far back it hears. Definitions only. Assumes nothing.
use Rattle.std.specs.Prelude.{ℕ, ◌+◌, max, cond, List, [], ◌∷◌, ◌==◌, Float}
use Rattle.std.specs.Float.{binary64}
use Rattle.std.specs.Float.Ieee.{sub, mul}
use Rattle.float64.specs.Number.{plus_zero, float_of, is_zero, whole_part, fraction_part}
use Rattle.common.specs.Line.{line_at, read_at, nonzero}

-- a read of a line: the place where the line begins, how many places it has, its write position, counted from its first place, and the distance read at
pub record Read : Type 0 where
  pub start : ℕ
  pub size : ℕ
  pub position : ℕ
  pub distance : Float

-- what it hears in a memory
abbrev pub heard : Read → List Float → Float
heard r m = read_at (line_at r.start r.size r.position m) r.distance

-- The weight that a read at a distance gives to the sample d places back: 1 less the fraction at the whole part of the distance, the fraction one place further
-- back, and +0 everywhere else.
unfoldable pub weight_at : Float → ℕ → Float
weight_at distance d =
    cond (d == whole_part distance) (sub binary64 (float_of 1) (fraction_part distance)) (cond (d == whole_part distance + 1) (fraction_part distance) plus_zero)

-- that sample times its weight
abbrev pub weighed : Read → List Float → ℕ → Float
weighed r m d = mul binary64 (line_at r.start r.size r.position m d) (weight_at r.distance d)

-- its age: the whole part of the distance, plus one where the fraction is not 0. It is that of the oldest sample that it weighs above 0
unfoldable pub age_at : Float → ℕ
age_at distance = whole_part distance + nonzero (fraction_part distance)

-- the largest age of some reads, 0 where there is none
abbrev pub largest_age : List Read → ℕ
largest_age [] = 0
largest_age (r ∷ rs) = max (age_at r.distance) (largest_age rs)

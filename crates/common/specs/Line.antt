-- A line of L places in lent memory, from place o on, with its write position w: where its samples lie, how it is read, and what a clearing leaves.
-- Definitions only. Assumes nothing.
use Rattle.std.specs.Prelude.{ℕ, zero, suc, ◌+◌, ◌-◌, ◌%◌, min, Bool, true, ◌&&◌, cond, List, [], ◌∷◌, length, get_or, replicate, ◌==◌, Float}
use Rattle.std.specs.Float.{nan, binary64}
use Rattle.std.specs.Float.Ieee.{mul, div}
use Rattle.float64.specs.Number.{plus_zero, float_of, is_zero, whole_part, fraction_part, in_range}
use Rattle.common.specs.Signal.{blended}

-- L of a swept line: the whole part of rate × milliseconds / 1000, plus 10. No effect's milliseconds lie outside 1 to 100
abbrev pub swept_length : Float → Float → ℕ
swept_length milliseconds rate = whole_part (div binary64 (mul binary64 rate milliseconds) (float_of 1000)) + 10

abbrev pub sweep_fits : Float → Bool
sweep_fits milliseconds = in_range milliseconds (float_of 1) (float_of 100)

-- n places of +0
abbrev pub zeros : ℕ → List Float
zeros n = replicate n plus_zero

-- the place of the line that lies d samples back
abbrev pub place : ℕ → ℕ → ℕ → ℕ
place L w d = (w + L - d) % L

-- the position after w
abbrev pub next_place : ℕ → ℕ → ℕ
next_place L w = (w + 1) % L

-- what stands d samples back
abbrev pub line_at : ℕ → ℕ → ℕ → List Float → ℕ → Float
line_at o L w m d = get_or m (o + place L w d) nan

-- A read at a distance, of a line given by what stands d samples back: whole part and fraction of the distance; the place so far back times
-- (1 − fraction), plus the one before it times the fraction.
unfoldable pub read_at : (ℕ → Float) → Float → Float
read_at at distance = blended (at (whole_part distance)) (at (whole_part distance + 1)) (fraction_part distance)

-- f 0, f 1 and so on, n of them
unfoldable pub table : {A : Type 0} → (ℕ → A) → ℕ → List A
table f zero = []
table f (suc n) = f zero ∷ table (λ i. f (suc i)) n

-- the line read newest to oldest: d from 1 to L
abbrev pub newest_first : ℕ → ℕ → ℕ → List Float → List Float
newest_first o L w m = table (λ i. line_at o L w m (i + 1)) L

-- every place is +0 or −0
unfoldable pub all_zero : List Float → Bool
all_zero [] = true
all_zero (x ∷ xs) = is_zero x && all_zero xs

-- 1 for a float that is neither +0 nor −0, as a NaN is
abbrev pub nonzero : Float → ℕ
nonzero x = cond (is_zero x) 0 1

-- how many of them there are
unfoldable pub nonzeros : List Float → ℕ
nonzeros [] = 0
nonzeros (x ∷ xs) = nonzero x + nonzeros xs

-- Of a count of such places among so many: what it comes to where some are gained and some lost at once. Where the net change would take it below 0 or above all, it stays
-- at that end.
abbrev pub recounted : ℕ → ℕ → ℕ → ℕ → ℕ
recounted all count gained lost = min all (count + gained - lost)

-- the list has n entries, as an array of n floats has, and each is +0 or −0
abbrev pub are_zeros : ℕ → List Float → Bool
are_zeros n l = (length l == n) && all_zero l

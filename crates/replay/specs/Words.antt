-- Words of a stored file, as integers and as floats, when two floats are equal, and the tally of the calls. Definitions only. Assumes nothing.
use Rattle.std.specs.Prelude.{ℕ, ◌+◌, ◌*◌, ◌≡◌, Bool, true, cond, List, get_or, Float, EachIndex, slice_index_or}
use Rattle.std.specs.Float.{binary64, float_zero}
use Rattle.std.specs.Float.Ieee.{of_bits}

-- four bytes from `at` on, the lowest first
abbrev pub half_word : List ℕ → ℕ → ℕ
half_word b at = get_or b at 0 + 256 * get_or b (at + 1) 0 + 65536 * get_or b (at + 2) 0 + 16777216 * get_or b (at + 3) 0

-- the word number i: eight bytes, the lowest first
abbrev pub word_of : List ℕ → ℕ → ℕ
word_of b i = half_word b (i * 8) + 4294967296 * half_word b (i * 8 + 4)

-- its float: the one NaN for every pattern of a NaN
abbrev pub float_at : List ℕ → ℕ → Float
float_at b i = of_bits binary64 (word_of b i)

-- the floats are those of the words from 1 on
abbrev pub AreHeld : List Float → List ℕ → Type 0
AreHeld stores b = EachIndex stores (λ k. slice_index_or stores k float_zero ≡ float_at b (k + 1))

-- r says whether x and y are equal as data: by their bits, every NaN as one value
pub record Decides (r : Bool) (x y : Float) : Type 0 where
  pub yes : r ≡ true → x ≡ y
  pub only : x ≡ y → r ≡ true

-- of so many calls that differ: one more, unless the call is equal
abbrev pub differ_in : ℕ → Bool → ℕ
differ_in differ equal = cond equal differ (differ + 1)

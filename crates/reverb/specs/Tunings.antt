-- How long the reverb's lines are: Freeverb's lengths at 44,100, scaled to the rate. Definitions only. Assumes nothing.
use Rattle.std.specs.Prelude.{ℕ, ◌+◌, ◌-◌, ◌≤◌, min, max, Bool, true, cond, ◌&&◌, List, [], ◌∷◌, map, replicate, nat_le, slice_index, Float}
use Rattle.std.specs.List.{sum}
use Rattle.std.specs.Float.{binary64}
use Rattle.std.specs.Float.Ieee.{mul, div}
use Rattle.float64.specs.Number.{float_of, rate_fits, whole_part, round_half_away}
use Rattle.reverb.specs.declared.tunings.Lengths.{Lengths}

pub data Side : Type 0 where
  left : Side
  right : Side

-- l on the left, r on the right
abbrev pub sided : {A : Type 0} → A → A → Side → A
sided l r left = l
sided l r right = r

-- ---- the limits: the places that a line has in the tank, and the longest line, which leaves one of them over

abbrev pub comb_size : ℕ
comb_size = 4096

abbrev pub comb_most : ℕ
comb_most = comb_size - 1

abbrev pub allpass_size : ℕ
allpass_size = 1500

abbrev pub allpass_most : ℕ
allpass_most = allpass_size - 1

-- the predelay's line is all its places
abbrev pub predelay_size : ℕ
predelay_size = 9600

-- ---- lengths at 44,100, from 225 to 1617

abbrev pub comb_tunings : List ℕ
comb_tunings = 1116 ∷ 1188 ∷ 1277 ∷ 1356 ∷ 1422 ∷ 1491 ∷ 1557 ∷ 1617 ∷ []

abbrev pub allpass_tunings : List ℕ
allpass_tunings = 556 ∷ 441 ∷ 341 ∷ 225 ∷ []

abbrev pub least_tuning : ℕ
least_tuning = 225

abbrev pub most_tuning : ℕ
most_tuning = 1617

-- whether tunings lie between these, where `whole_part_small` serves
unfoldable pub tuned : List ℕ → Bool
tuned [] = true
tuned (base ∷ bases) = nat_le least_tuning base && (nat_le base most_tuning && tuned bases)

-- ---- lengths at a rate

-- rate / 44100, rounded before anything is multiplied by it
unfoldable pub ratio : Float → Float
ratio rate = div binary64 rate (float_of 44100)

-- base × ratio cut to its whole part, at most `most`
unfoldable pub scaled : ℕ → Float → ℕ → ℕ
scaled most r base = min (whole_part (mul binary64 (float_of base) r)) most

-- 23 × ratio, rounded half away from zero, at least 1
unfoldable pub spread : Float → ℕ
spread r = max (round_half_away (mul binary64 (float_of 23) r)) 1

-- a left length plus the spread, under the same cap
unfoldable pub beside : ℕ → ℕ → ℕ → ℕ
beside most wide n = min (n + wide) most

-- the lengths of the lines that have these tunings, at most `most`
abbrev pub line_lengths : ℕ → List ℕ → Side → Float → List ℕ
line_lengths most tunings left rate = map (scaled most (ratio rate)) tunings
line_lengths most tunings right rate = map (λ base. beside most (spread (ratio rate)) (scaled most (ratio rate) base)) tunings

abbrev pub comb_lengths : Side → Float → List ℕ
comb_lengths side rate = line_lengths comb_most comb_tunings side rate

abbrev pub allpass_lengths : Side → Float → List ℕ
allpass_lengths side rate = line_lengths allpass_most allpass_tunings side rate

-- ---- as the code hands them on, with the number of places in use: those of all lines of these lengths, and the predelay's

abbrev pub used_by : List ℕ → List ℕ → List ℕ → List ℕ → ℕ
used_by combl combr passl passr = sum combl + sum combr + sum passl + sum passr + predelay_size

abbrev pub lengths_at : Float → Lengths
lengths_at rate =
    record {
      comb_l = comb_lengths left rate;
      allpass_l = allpass_lengths left rate;
      comb_r = comb_lengths right rate;
      allpass_r = allpass_lengths right rate;
      used = used_by (comb_lengths left rate) (comb_lengths right rate) (allpass_lengths left rate) (allpass_lengths right rate);
    }

-- at a refused rate
abbrev pub no_lengths : Lengths
no_lengths =
    record { comb_l = replicate 8 0; allpass_l = replicate 4 0; comb_r = replicate 8 0; allpass_r = replicate 4 0; used = 0 }

-- as the code finds them: none at a refused rate
abbrev pub lengths_for : Float → Lengths
lengths_for rate = cond (rate_fits rate) (lengths_at rate) no_lengths

-- no length of these is more than `most`
abbrev pub Capped : ℕ → List ℕ → Type 0
Capped most lengths = (i : ℕ) → slice_index lengths i ≤ most

-- The tick of a delay in two halves, said once for the ordinary delay line and for the tape delay. The read half reads the line and gives the sum of the audio and
-- of what is fed back, and the store half stores what is made of that sum, moves on and gives what is heard. The two effects differ in the maximum, in the time
-- (the ordinary delay has a mode that is handed milliseconds), in how far the feedback goes, and in what is made of the sum. Definitions only. Assumes nothing.
use Rattle.std.specs.Prelude.{ℕ, ◌+◌, ◌-◌, Bool, ◌&&◌, cond, List, [], ◌∷◌, ltb, leb, Float}
use Rattle.std.specs.Float.{binary64}
use Rattle.std.specs.Float.Ieee.{add, sub, mul, div}
use Rattle.float64.specs.Number.{plus_zero, float_of, fraction, in_range, is_plus_zero, rate_fits, coefficient_fits, clamp_of, whole_part}
use Rattle.common.specs.Signal.{sanitized, blended}
use Rattle.common.specs.Line.{next_place}
use Rattle.common.specs.Reads.{Read, heard, age_at}
use Rattle.effect.specs.Parts.{first_places}
use Rattle.effect.specs.Effect.{Write, recount}
use Rattle.effect.specs.Run.{memory_number}
use Rattle.delay_line.specs.declared.halves.Reader.{Reader}
use Rattle.delay_line.specs.declared.halves.Kept.{Kept}
use Rattle.delay_line.specs.declared.halves.HalfRead.{HalfRead}
use Rattle.delay_line.specs.declared.halves.HalfStored.{HalfStored}

-- ---- the line, and who reads it: `Reader` has the position, the count of the places that are neither +0 nor −0, the rate, the maximum in seconds, and the glide, which is
-- the distance last read at, its coefficient and whether there is a distance yet

abbrev pub maximum_fits : Float → Bool
maximum_fits x = in_range x (fraction 1 1000) (float_of 60)

-- L: the whole part of rate × maximum, plus 1
unfoldable pub line_length : Float → Float → ℕ
line_length rate maximum = whole_part (mul binary64 rate maximum) + 1

-- causes 1, 2 and 3 of settings, in a memory of n places; a maximum out of range, which no accepted start leaves, counts as a refused rate
abbrev pub settings_row : Float → Float → Float → ℕ → ℕ
settings_row rate maximum coefficient n =
    cond (rate_fits rate && maximum_fits maximum) (cond (coefficient_fits coefficient) (memory_number (line_length rate maximum) n) 2) 1

abbrev pub size : Reader → ℕ
size r = line_length r.sample_rate r.max_delay_secs

-- the glide distance in a line of L places: +0, sign included, while unprimed, else 1 to L − 1
unfoldable pub glide_fits : Bool → Float → ℕ → Bool
glide_fits primed distance L = cond primed (in_range distance (float_of 1) (float_of (L - 1))) (is_plus_zero distance)

-- position, count, coefficient and glide fit a line of L places
abbrev pub fits_in_line : Reader → ℕ → Bool
fits_in_line r L =
    ltb r.write_pos L && (leb r.nonzero_places L && (coefficient_fits r.delay_smooth_coef && glide_fits r.delay_primed r.smoothed_delay L))

-- what the state test asks of either effect
unfoldable pub reader_fits : Reader → Bool
reader_fits r = (rate_fits r.sample_rate && maximum_fits r.max_delay_secs) && fits_in_line r (size r)

-- ---- the distance

-- linear time, in milliseconds: the time control's seconds, 0 to the maximum, times 1000
unfoldable pub linear_ms : Float → Float → Float
linear_ms maximum time = mul binary64 (clamp_of time plus_zero maximum) (float_of 1000)

-- milliseconds × rate / 1000
unfoldable pub samples_of : Float → Float → Float
samples_of rate ms = div binary64 (mul binary64 ms rate) (float_of 1000)

-- the distance that is read: the first read after a clearing is at the target, later ones at target + (last distance − target) × coefficient
unfoldable pub glided : Reader → Float → Float
glided r target = cond r.delay_primed (add binary64 target (mul binary64 (sub binary64 r.smoothed_delay target) r.delay_smooth_coef)) target

-- that of a delay of so many samples: the target is clamped to 1 to L − 1, the glide is not
unfoldable pub reads_at : Reader → Float → Float
reads_at r samples = glided r (clamp_of samples (float_of 1) (float_of (size r - 1)))

-- the read of the line at that distance, and what it hears, before the store
abbrev pub read_by : Reader → Float → Read
read_by r samples = record { start = 0; size = size r; position = r.write_pos; distance = reads_at r samples }

unfoldable pub delayed_by : Reader → Float → List Float → Float
delayed_by r samples m = heard (read_by r samples) m

-- ---- the read half

-- what it keeps for the store half: the audio under the input rule, what was read, and the mix, 0 to 1
abbrev pub kept_of : Float → Float → Float → Kept
kept_of audio read mix = record { audio = sanitized audio; read = read; mix = clamp_of mix plus_zero (float_of 1) }

-- audio + read × feedback, which is clamped to 0 to a ceiling
abbrev pub sum_of : Float → Float → Kept → Float
sum_of ceiling feedback kept = add binary64 kept.audio (mul binary64 kept.read (clamp_of feedback plus_zero ceiling))

-- Of a delay of so many samples, handed audio, feedback and mix. It writes no place and leaves position and count.
abbrev pub half_read : Float → Reader → Float → Float → Float → Float → List Float → HalfRead
half_read ceiling r samples audio feedback mix m =
    let kept = kept_of audio (delayed_by r samples m) mix in
    record { kept = kept; sum = sum_of ceiling feedback kept; smoothed_delay = reads_at r samples; age = age_at (reads_at r samples) }

-- ---- the store half

-- x at the position
abbrev pub stores : ℕ → Float → List Write
stores w x = record { place = w; value = x } ∷ []

-- the count after it, of c before it, where the whole line of L places is in use
abbrev pub count_after : ℕ → ℕ → Float → List Float → ℕ → ℕ
count_after L w x m c = recount (first_places L) (stores w x) m c

-- what is heard, by what the read half kept
abbrev pub heard_of : Kept → Float
heard_of kept = blended kept.audio kept.read kept.mix

-- what it comes to in a line of L places: the position after it, the count after it, which is c, and what is heard
abbrev pub half_stored : ℕ → ℕ → ℕ → Kept → HalfStored
half_stored L w c kept = record { write_pos = next_place L w; nonzero_places = c; sample = heard_of kept }

-- The flanger: two lines, left and right, swept by one phase, each fed back into itself. Definitions only. Assumes nothing.
use Rattle.std.specs.Prelude.{ℕ, ◌+◌, ◌-◌, ◌*◌, Bool, true, ◌&&◌, ◌||◌, cond, List, [], ◌∷◌, ltb, leb, Float}
use Rattle.std.specs.Float.{binary64}
use Rattle.std.specs.Float.Ieee.{add, mul, div, neg}
use Rattle.float64.specs.Number.{plus_zero, float_of, fraction, half, rate_fits, phase_fits, frequency_fits, sine_fits, clamp_of}
use Rattle.port.specs.declared.Port.{Port}
use Rattle.port.specs.Port.{value_or, is_nan_set}
use Rattle.common.specs.Signal.{sanitized, blended, advanced, cause_number}
use Rattle.common.specs.Line.{swept_length, next_place}
use Rattle.common.specs.Reads.{Read, heard}
use Rattle.effect.specs.Parts.{Part, first_places}
use Rattle.effect.specs.Effect.{Effect, Page, effect_of, Write, recount}
use Rattle.effect.specs.Narrow.{Fields}
use Rattle.flanger.specs.declared.Flanger.{Flanger}

-- what a tick is handed: its ports, and the curve numbers frequency and two sines, the second at the phase plus half the spread
pub record Tick : Type 0 where
  pub audio : Port
  pub depth : Port
  pub feedback : Port
  pub mix : Port
  pub frequency : Float
  pub sine0 : Float
  pub sine1 : Float

abbrev pub tick_of : Port → Port → Port → Port → Float → Float → Float → Tick
tick_of audio depth feedback mix frequency sine0 sine1 =
    record { audio = audio; depth = depth; feedback = feedback; mix = mix; frequency = frequency; sine0 = sine0; sine1 = sine1 }

-- L: the whole part of rate × 10 / 1000, plus 10
unfoldable pub line_length : Float → ℕ
line_length rate = swept_length (float_of 10) rate

-- two lines follow each other from place 0
abbrev pub places : Float → ℕ
places rate = 2 * line_length rate

-- both lines are in use
abbrev pub parts : Float → List Part
parts rate = first_places (places rate)

-- ---- states

abbrev pub state_of : ℕ → ℕ → Float → Float → Flanger
state_of pos count phase rate = record { write_pos = pos; nonzero_places = count; lfo_phase = phase; sample_rate = rate }

abbrev pub cleared : Float → Float → Flanger
cleared phase rate = state_of 0 0 phase rate

-- after a start and a reset
abbrev pub fresh : Float → Flanger
fresh rate = cleared plus_zero rate

-- after a retune, which keeps the phase
abbrev pub retuned : Float → Flanger → Flanger
retuned rate s = cleared s.lfo_phase rate

-- what a refused start gives
abbrev pub blank : Flanger
blank = cleared plus_zero plus_zero

-- the state test, cause 4
unfoldable pub state_fits : Flanger → Bool
state_fits s =
    let rate = s.sample_rate in
    rate_fits rate && (ltb s.write_pos (line_length rate) && (leb s.nonzero_places (places rate) && phase_fits s.lfo_phase))

-- causes 5 and 6
unfoldable pub tick_number : Tick → ℕ
tick_number t =
    cause_number (is_nan_set t.depth || (is_nan_set t.feedback || is_nan_set t.mix))
    (frequency_fits t.frequency && (sine_fits t.sine0 && sine_fits t.sine1))

-- ---- an accepted tick

-- the audio under the input rule
abbrev pub input : Tick → Float
input t = sanitized (value_or t.audio plus_zero)

abbrev pub depth : Tick → Float
depth t = clamp_of (value_or t.depth half) plus_zero (float_of 1)

-- −0.95 to 0.95
abbrev pub feedback : Tick → Float
feedback t = clamp_of (value_or t.feedback plus_zero) (neg (fraction 95 100)) (fraction 95 100)

abbrev pub mix : Tick → Float
mix t = clamp_of (value_or t.mix half) plus_zero (float_of 1)

-- (1 + (sine + 1) × 0.5 × (depth × 9)) × rate / 1000, clamped to 1 to L − 1
unfoldable pub distance_in : ℕ → Float → Float → Float → Float
distance_in L rate depth sine =
    clamp_of
    (div binary64 (mul binary64 (add binary64 (float_of 1) (mul binary64 (mul binary64 (add binary64 sine (float_of 1)) half) (mul binary64 depth (float_of 9)))) rate) (float_of 1000))
    (float_of 1)
    (float_of (L - 1))

-- in the line at that rate
abbrev pub distance : Float → Float → Float → Float
distance rate depth sine = distance_in (line_length rate) rate depth sine

-- the read of line i, 0 left and 1 right, at its own distance, and what it hears, before the store
abbrev pub tap_read : ℕ → Float → Tick → Flanger → Read
tap_read i sine t s =
    let rate = s.sample_rate in
    let L = line_length rate in
    record { start = i * L; size = L; position = s.write_pos; distance = distance rate (depth t) sine }

unfoldable pub tap : ℕ → Float → Tick → Flanger → List Float → Float
tap i sine t s m = heard (tap_read i sine t s) m

-- audio + the line's own read × feedback
unfoldable pub fed : Tick → Float → Float
fed t read = add binary64 (input t) (mul binary64 read (feedback t))

unfoldable pub writes : Tick → Flanger → List Float → List Write
writes t s m =
    record { place = s.write_pos; value = fed t (tap 0 t.sine0 t s m) }
    ∷ record { place = line_length s.sample_rate + s.write_pos; value = fed t (tap 1 t.sine1 t s m) }
    ∷ []

-- the position moves on by one place, the phase by frequency / rate, and the count is c
unfoldable pub next_counted : ℕ → Tick → Flanger → Flanger
next_counted c t s =
    let rate = s.sample_rate in
    state_of (next_place (line_length rate) s.write_pos) c (advanced s.lfo_phase (div binary64 t.frequency rate)) rate

-- the count goes by what both stores change together
abbrev pub next : Tick → Flanger → List Float → Flanger
next t s m = next_counted (recount (parts s.sample_rate) (writes t s m) m s.nonzero_places) t s

-- mono, left, right; mono is left
unfoldable pub samples : Tick → Flanger → List Float → List Float
samples t s m =
    let left = blended (input t) (tap 0 t.sine0 t s m) (mix t) in
    let right = blended (input t) (tap 1 t.sine1 t s m) (mix t) in
    left ∷ left ∷ right ∷ []

abbrev pub reads : Tick → Flanger → List Read
reads t s = tap_read 0 t.sine0 t s ∷ tap_read 1 t.sine1 t s ∷ []

-- ---- the effect

abbrev pub page : Page Flanger Float Float Float Tick
page =
    record {
      state_fits = state_fits;
      settings = λ s. s.sample_rate;
      start_settings = λ rate. rate;
      retune_settings = λ rate old. rate;
      settings_number = λ rate. cond (rate_fits rate) 0 1;
      places = places;
      parts = parts;
      turn_number = λ t s. 0;
      tick_number = λ t rate. tick_number t;
      blank = blank;
      fresh = fresh;
      retuned = retuned;
      next = next;
      writes = writes;
      samples = samples;
      reads = reads;
      input = input;
      quiet = λ s. true;
      count = λ s. s.nonzero_places;
    }

abbrev pub flanger : Effect
flanger = effect_of page

-- ---- its state's fields, for the two widths of positions

abbrev pub fields : Fields Flanger
fields =
    record {
      positions = λ s. (s.write_pos ∷ []) ∷ [];
      floats = λ s. (s.lfo_phase ∷ s.sample_rate ∷ []) ∷ [];
      flags = λ s. [];
      map_positions = λ f s. state_of (f s.write_pos) s.nonzero_places s.lfo_phase s.sample_rate;
    }

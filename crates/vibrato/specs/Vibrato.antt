-- The vibrato: one line, read at a swept distance. Definitions only. Assumes nothing.
use Rattle.std.specs.Prelude.{ℕ, ◌-◌, Bool, true, ◌&&◌, ◌||◌, cond, List, [], ◌∷◌, ltb, leb, Float}
use Rattle.std.specs.Float.{binary64}
use Rattle.std.specs.Float.Ieee.{add, mul, div}
use Rattle.float64.specs.Number.{plus_zero, float_of, fraction, half, rate_fits, phase_fits, frequency_fits, sine_fits, clamp_of}
use Rattle.port.specs.declared.Port.{Port}
use Rattle.port.specs.Port.{value_or, is_nan_set}
use Rattle.common.specs.Signal.{blended, advanced, cause_number}
use Rattle.common.specs.Line.{swept_length, next_place}
use Rattle.common.specs.Reads.{Read, heard}
use Rattle.effect.specs.Parts.{Part, first_places}
use Rattle.effect.specs.Effect.{Effect, Page, effect_of, Write, recount}
use Rattle.effect.specs.Narrow.{Fields}
use Rattle.effect.specs.Lines.{Lines, in_each}
use Rattle.vibrato.specs.declared.Vibrato.{Vibrato}

-- what a tick is handed: its ports, and the curve numbers frequency and sine
pub record Tick : Type 0 where
  pub audio : Port
  pub depth : Port
  pub mix : Port
  pub frequency : Float
  pub sine : Float

abbrev pub tick_of : Port → Port → Port → Float → Float → Tick
tick_of audio depth mix frequency sine = record { audio = audio; depth = depth; mix = mix; frequency = frequency; sine = sine }

-- L: the whole part of rate × 20 / 1000, plus 10
unfoldable pub line_length : Float → ℕ
line_length rate = swept_length (float_of 20) rate

-- the whole line is in use
abbrev pub parts : Float → List Part
parts rate = first_places (line_length rate)

abbrev pub state_of : ℕ → ℕ → Float → Float → Vibrato
state_of pos count phase rate = record { write_pos = pos; nonzero_places = count; lfo_phase = phase; sample_rate = rate }

-- the state after a start, a reset and a retune, which all zero the phase; and the one that a refused start gives
abbrev pub fresh : Float → Vibrato
fresh rate = state_of 0 0 plus_zero rate

abbrev pub blank : Vibrato
blank = fresh plus_zero

-- the state test, cause 4
unfoldable pub state_fits : Vibrato → Bool
state_fits s =
    let L = line_length s.sample_rate in
    rate_fits s.sample_rate && (ltb s.write_pos L && (leb s.nonzero_places L && phase_fits s.lfo_phase))

-- causes 5 and 6
unfoldable pub tick_number : Tick → ℕ
tick_number t = cause_number (is_nan_set t.depth || is_nan_set t.mix) (frequency_fits t.frequency && sine_fits t.sine)

-- ---- an accepted tick

-- the audio as it is: the input rule is not applied
abbrev pub input : Tick → Float
input t = value_or t.audio plus_zero

abbrev pub depth : Tick → Float
depth t = clamp_of (value_or t.depth half) plus_zero (float_of 1)

abbrev pub mix : Tick → Float
mix t = clamp_of (value_or t.mix (float_of 1)) plus_zero (float_of 1)

-- (10 + sine × (depth × 10 × 0.9)) × rate / 1000, clamped to 1 to L − 1
unfoldable pub distance_in : ℕ → Float → Float → Float → Float
distance_in L rate depth sine =
    clamp_of
    (div binary64 (mul binary64 (add binary64 (float_of 10) (mul binary64 sine (mul binary64 (mul binary64 depth (float_of 10)) (fraction 9 10)))) rate) (float_of 1000))
    (float_of 1)
    (float_of (L - 1))

-- in the line at that rate
abbrev pub distance : Float → Float → Float → Float
distance rate depth sine = distance_in (line_length rate) rate depth sine

-- the read of the line at that distance
abbrev pub read : Tick → Vibrato → Read
read t s =
    let rate = s.sample_rate in
    record { start = 0; size = line_length rate; position = s.write_pos; distance = distance rate (depth t) t.sine }

-- what it hears, before the store
unfoldable pub delayed : Tick → Vibrato → List Float → Float
delayed t s m = heard (read t s) m

-- the audio goes into the line at the position
unfoldable pub writes : Tick → Vibrato → List Write
writes t s = in_each 1 0 (line_length s.sample_rate) s.write_pos (input t)

-- the position moves on by one place, the phase by frequency / rate, and the count is c
unfoldable pub next_counted : ℕ → Tick → Vibrato → Vibrato
next_counted c t s =
    let rate = s.sample_rate in
    state_of (next_place (line_length rate) s.write_pos) c (advanced s.lfo_phase (div binary64 t.frequency rate)) rate

-- the count goes by what the store changes
abbrev pub next : Tick → Vibrato → List Float → Vibrato
next t s m = next_counted (recount (parts s.sample_rate) (writes t s) m s.nonzero_places) t s

-- audio × (1 − mix) + delayed × mix
unfoldable pub samples : Tick → Vibrato → List Float → List Float
samples t s m = blended (input t) (delayed t s m) (mix t) ∷ []

abbrev pub reads : Tick → Vibrato → List Read
reads t s = read t s ∷ []

-- ---- the effect

abbrev pub page : Page Vibrato Float Float Float Tick
page =
    record {
      state_fits = state_fits;
      settings = λ s. s.sample_rate;
      start_settings = λ rate. rate;
      retune_settings = λ rate old. rate;
      settings_number = λ rate. cond (rate_fits rate) 0 1;
      places = line_length;
      parts = parts;
      turn_number = λ t s. 0;
      tick_number = λ t rate. tick_number t;
      blank = blank;
      fresh = fresh;
      retuned = λ rate s. fresh rate;
      next = next;
      writes = λ t s m. writes t s;
      samples = samples;
      reads = reads;
      input = input;
      quiet = λ s. true;
      count = λ s. s.nonzero_places;
    }

abbrev pub vibrato : Effect
vibrato = effect_of page

-- ---- its state's fields, for the two widths of positions

abbrev pub fields : Fields Vibrato
fields =
    record {
      positions = λ s. (s.write_pos ∷ []) ∷ [];
      floats = λ s. (s.lfo_phase ∷ s.sample_rate ∷ []) ∷ [];
      flags = λ s. [];
      map_positions = λ f s. state_of (f s.write_pos) s.nonzero_places s.lfo_phase s.sample_rate;
    }

-- ---- its line, for the recent pasts

abbrev pub lines : Lines vibrato
lines =
    record {
      count = 1;
      line_length = line_length;
      position = λ s. s.write_pos;
      sample = input;
      Phase = Float;
      phase = λ s. s.lfo_phase;
    }

-- The delay line: one line with feedback, read at a distance that glides to the delay time. Definitions only. Assumes nothing.
use Rattle.std.specs.Prelude.{ℕ, ◌≡◌, Bool, true, false, ◌&&◌, ◌||◌, cond, List, [], ◌∷◌, length, set, Float}
use Rattle.float64.specs.Number.{plus_zero, float_of, fraction, half, is_number, is_finite, rate_fits, coefficient_fits, clamp_of}
use Rattle.port.specs.declared.Port.{Port}
use Rattle.port.specs.Port.{value_or, is_nan_set}
use Rattle.port.specs.Answer.{Reply, played}
use Rattle.common.specs.Signal.{sanitized, cause_number}
use Rattle.common.specs.Reads.{Read}
use Rattle.effect.specs.Parts.{Part, first_places}
use Rattle.effect.specs.Effect.{Effect, Page, effect_of, Write, recount}
use Rattle.effect.specs.Narrow.{Fields}
use Rattle.delay_line.specs.declared.DelayLine.{DelayLine}
use Rattle.delay_line.specs.declared.Settings.{Settings}
use Rattle.delay_line.specs.declared.Retune.{Retune}
use Rattle.delay_line.specs.declared.halves.Reader.{Reader}
use Rattle.delay_line.specs.declared.halves.HalfRead.{HalfRead}
use Rattle.delay_line.specs.declared.halves.HalfStored.{HalfStored}
use Rattle.delay_line.specs.Halves.{line_length, size, reader_fits, linear_ms, samples_of, read_by, half_read, stores, count_after, heard_of, half_stored}

-- what a retune is handed, in one; it keeps the maximum and the mode
abbrev pub retuning : Float → Float → Retune
retuning rate coefficient = record { rate = rate; coefficient = coefficient }

-- what a tick is handed: its ports, and the curve number, the delay in milliseconds that exponential mode reads
pub record Tick : Type 0 where
  pub audio : Port
  pub time : Port
  pub feedback : Port
  pub mix : Port
  pub milliseconds : Float

abbrev pub tick_of : Port → Port → Port → Port → Float → Tick
tick_of audio time feedback mix milliseconds = record { audio = audio; time = time; feedback = feedback; mix = mix; milliseconds = milliseconds }

-- ---- settings

-- the maximum in seconds: not finite means 2.0, else clamped to 0.001 to 60
unfoldable pub held_maximum : Float → Float
held_maximum x = cond (is_finite x) (clamp_of x (fraction 1 1000) (float_of 60)) (float_of 2)

abbrev pub handing : Float → Float → Float → Bool → Settings
handing rate coefficient maximum linear = record { rate = rate; coefficient = coefficient; maximum = maximum; linear = linear }

-- a start is handed the same four, with a maximum still to be held
abbrev pub start_settings : Settings → Settings
start_settings x = handing x.rate x.coefficient (held_maximum x.maximum) x.linear

abbrev pub retune_settings : Retune → Settings → Settings
retune_settings r old = handing r.rate r.coefficient old.maximum old.linear

-- causes 1 and 2
unfoldable pub settings_number : Float → Float → ℕ
settings_number rate coefficient = cond (rate_fits rate) (cond (coefficient_fits coefficient) 0 2) 1

-- the places of the line, all of them in use
abbrev pub places : Settings → ℕ
places k = line_length k.rate k.maximum

abbrev pub parts : Settings → List Part
parts k = first_places (places k)

-- ---- states

abbrev pub settings : DelayLine → Settings
settings s = handing s.sample_rate s.delay_smooth_coef s.max_delay_secs s.linear_time

-- a position, the count of the places that are neither +0 nor −0, the distance last read at and whether there is one yet, and the settings
abbrev pub state_of : ℕ → ℕ → Float → Bool → Settings → DelayLine
state_of pos count distance primed k =
    record {
      write_pos = pos;
      nonzero_places = count;
      smoothed_delay = distance;
      sample_rate = k.rate;
      delay_smooth_coef = k.coefficient;
      max_delay_secs = k.maximum;
      delay_primed = primed;
      linear_time = k.linear;
    }

-- after every clearing: position 0 in zeros, the glide unprimed with distance +0
abbrev pub cleared : Settings → DelayLine
cleared k = state_of 0 0 plus_zero false k

-- what a refused start gives
abbrev pub blank : DelayLine
blank = cleared (handing plus_zero plus_zero plus_zero false)

-- what reads its line
abbrev pub reader : DelayLine → Reader
reader s =
    record {
      write_pos = s.write_pos;
      nonzero_places = s.nonzero_places;
      smoothed_delay = s.smoothed_delay;
      sample_rate = s.sample_rate;
      delay_smooth_coef = s.delay_smooth_coef;
      max_delay_secs = s.max_delay_secs;
      delay_primed = s.delay_primed;
    }

-- the state test, cause 4
abbrev pub state_fits : DelayLine → Bool
state_fits s = reader_fits (reader s)

-- causes 5 and 6: linear mode reads the time port and not the milliseconds, exponential mode the milliseconds and not the time port
unfoldable pub tick_number : Tick → Bool → ℕ
tick_number t linear =
    cause_number ((linear && is_nan_set t.time) || (is_nan_set t.feedback || is_nan_set t.mix)) (linear || is_number t.milliseconds)

-- ---- an accepted tick: the read half, and then the store half with the sum as it is

-- the audio under the input rule
abbrev pub input : Tick → Float
input t = sanitized (value_or t.audio plus_zero)

-- where the feedback ends
abbrev pub ceiling : Float
ceiling = fraction 99 100

-- the delay in milliseconds: in linear mode of the time port's seconds, else the curve number
unfoldable pub delay_ms : Tick → DelayLine → Float
delay_ms t s = cond s.linear_time (linear_ms s.max_delay_secs (value_or t.time half)) t.milliseconds

-- and in samples
abbrev pub delay_samples : Tick → DelayLine → Float
delay_samples t s = samples_of s.sample_rate (delay_ms t s)

abbrev pub read : Tick → DelayLine → Read
read t s = read_by (reader s) (delay_samples t s)

abbrev pub half_of : Tick → DelayLine → List Float → HalfRead
half_of t s m =
    half_read ceiling (reader s) (delay_samples t s) (value_or t.audio plus_zero) (value_or t.feedback plus_zero) (value_or t.mix half) m

unfoldable pub writes : Tick → DelayLine → List Float → List Write
writes t s m = stores s.write_pos (half_of t s m).sum

-- the state after a tick that came to these halves
abbrev pub next_state : HalfRead → HalfStored → DelayLine → DelayLine
next_state read stored s = state_of stored.write_pos stored.nonzero_places read.smoothed_delay true (settings s)

-- that of a tick after which the count is c
unfoldable pub next_counted : ℕ → Tick → DelayLine → List Float → DelayLine
next_counted c t s m =
    let read = half_of t s m in
    next_state read (half_stored (size (reader s)) s.write_pos c read.kept) s

-- the count goes by what the store changes
abbrev pub next : Tick → DelayLine → List Float → DelayLine
next t s m = next_counted (recount (parts (settings s)) (writes t s m) m s.nonzero_places) t s m

-- a tick of the line by itself, m, whose read half came to this: it leaves the state s' and the line m', and answers a
pub record Advances (s : DelayLine) (read : HalfRead) (m : List Float) (s' : DelayLine) (m' : List Float) (a : Reply) : Type 0 where
  pub state : let count = count_after (length m) s.write_pos read.sum m s.nonzero_places in
      s' ≡ next_state read (half_stored (length m) s.write_pos count read.kept) s
  pub memory : m' ≡ set m s.write_pos read.sum
  pub answer : a ≡ played (heard_of read.kept ∷ []) read.age

unfoldable pub samples : Tick → DelayLine → List Float → List Float
samples t s m = heard_of (half_of t s m).kept ∷ []

abbrev pub reads : Tick → DelayLine → List Read
reads t s = read t s ∷ []

-- ---- the effect

abbrev pub page : Page DelayLine Settings Settings Retune Tick
page =
    record {
      state_fits = state_fits;
      settings = settings;
      start_settings = start_settings;
      retune_settings = retune_settings;
      settings_number = λ k. settings_number k.rate k.coefficient;
      places = places;
      parts = parts;
      turn_number = λ t s. 0;
      tick_number = λ t k. tick_number t k.linear;
      blank = blank;
      fresh = cleared;
      retuned = λ k s. cleared k;
      next = next;
      writes = writes;
      samples = samples;
      reads = reads;
      input = input;
      quiet = λ s. true;
      count = λ s. s.nonzero_places;
    }

abbrev pub delay_line : Effect
delay_line = effect_of page

-- ---- its state's fields, for the two widths of positions

abbrev pub fields : Fields DelayLine
fields =
    record {
      positions = λ s. (s.write_pos ∷ []) ∷ [];
      floats = λ s. (s.smoothed_delay ∷ s.sample_rate ∷ s.delay_smooth_coef ∷ s.max_delay_secs ∷ []) ∷ [];
      flags = λ s. s.delay_primed ∷ s.linear_time ∷ [];
      map_positions = λ f s. state_of (f s.write_pos) s.nonzero_places s.smoothed_delay s.delay_primed (settings s);
    }

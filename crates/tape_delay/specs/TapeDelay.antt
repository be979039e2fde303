-- The tape delay: a delay line of 12 seconds in linear time, whose feedback goes past 1 and whose line keeps what is saturated. The saturation is the host's, in the
-- middle of a tick: so a tick is two calls, the read half, which answers the sum, and the store half, which is handed the saturated fifth of it. Both are
-- those of the ordinary delay (delay_line/specs/Halves.antt). Definitions only. Assumes nothing.
use Rattle.std.specs.Prelude.{ℕ, Bool, true, false, ◌&&◌, ◌||◌, not, cond, List, [], ◌∷◌, Float}
use Rattle.std.specs.Float.{binary64}
use Rattle.std.specs.Float.Ieee.{mul}
use Rattle.float64.specs.Number.{plus_zero, float_of, fraction, half, in_range, is_zero, is_plus_zero, saturated_fits}
use Rattle.port.specs.declared.Port.{Port}
use Rattle.port.specs.Port.{value_or, is_nan_set}
use Rattle.common.specs.Signal.{sanitized, cause_number}
use Rattle.common.specs.Reads.{Read}
use Rattle.effect.specs.Parts.{Part, first_places}
use Rattle.effect.specs.Effect.{Effect, Page, effect_of, Write, recount}
use Rattle.effect.specs.Narrow.{Fields}
use Rattle.delay_line.specs.declared.halves.Reader.{Reader}
use Rattle.delay_line.specs.declared.halves.Kept.{Kept}
use Rattle.delay_line.specs.declared.halves.HalfRead.{HalfRead}
use Rattle.delay_line.specs.declared.halves.HalfStored.{HalfStored}
use Rattle.delay_line.specs.Halves.{line_length, size, reader_fits, linear_ms, samples_of, read_by, half_read, stores, heard_of, half_stored}
use Rattle.delay_line.specs.DelayLine.{settings_number}
use Rattle.tape_delay.specs.declared.TapeDelay.{TapeDelay}
use Rattle.tape_delay.specs.declared.Settings.{Settings}

-- the maximum in seconds, and where the feedback ends
abbrev pub maximum : Float
maximum = float_of 12

abbrev pub ceiling : Float
ceiling = fraction 3 2

-- what a start and a retune are handed, and what is in force from one clearing to the next
abbrev pub handing : Float → Float → Settings
handing rate coefficient = record { rate = rate; coefficient = coefficient }

-- the ports of a read half
pub record Ports : Type 0 where
  pub audio : Port
  pub time : Port
  pub feedback : Port
  pub mix : Port

abbrev pub ports_of : Port → Port → Port → Port → Ports
ports_of audio time feedback mix = record { audio = audio; time = time; feedback = feedback; mix = mix }

-- what a tick is: one of its halves. The store half is handed the saturated value, −1 to 1
pub data Tick : Type 0 where
  read_half : Ports → Tick
  store_half : Float → Tick

-- the places of the line, all of them in use
abbrev pub places : Settings → ℕ
places k = line_length k.rate maximum

abbrev pub parts : Settings → List Part
parts k = first_places (places k)

-- ---- states

abbrev pub settings : TapeDelay → Settings
settings s = handing s.sample_rate s.delay_smooth_coef

-- a position, the count of the places that are neither +0 nor −0, the distance last read at and whether there is one yet, whether a read waits for its store half and what it
-- has kept, and the settings
abbrev pub state_of : ℕ → ℕ → Float → Bool → Bool → Kept → Settings → TapeDelay
state_of pos count distance primed waiting kept k =
    record {
      write_pos = pos;
      nonzero_places = count;
      smoothed_delay = distance;
      kept = kept;
      sample_rate = k.rate;
      delay_smooth_coef = k.coefficient;
      delay_primed = primed;
      waiting = waiting;
    }

-- while no read waits
abbrev pub none_kept : Kept
none_kept = record { audio = plus_zero; read = plus_zero; mix = plus_zero }

-- after every clearing: position 0 in zeros, the glide unprimed with distance +0, no read waits
abbrev pub cleared : Settings → TapeDelay
cleared k = state_of 0 0 plus_zero false false none_kept k

-- what a refused start gives
abbrev pub blank : TapeDelay
blank = cleared (handing plus_zero plus_zero)

-- what reads its line
abbrev pub reader : TapeDelay → Reader
reader s =
    record {
      write_pos = s.write_pos;
      nonzero_places = s.nonzero_places;
      sample_rate = s.sample_rate;
      max_delay_secs = maximum;
      smoothed_delay = s.smoothed_delay;
      delay_smooth_coef = s.delay_smooth_coef;
      delay_primed = s.delay_primed;
    }

-- What is kept: of a read that waits, a mix from 0 to 1, and any audio and any sample read; while none waits, +0 three times, sign included.
unfoldable pub kept_fits : Bool → Kept → Bool
kept_fits waiting k = cond waiting (in_range k.mix plus_zero (float_of 1)) (is_plus_zero k.audio && (is_plus_zero k.read && is_plus_zero k.mix))

-- the state test, cause 4
abbrev pub state_fits : TapeDelay → Bool
state_fits s = reader_fits (reader s) && kept_fits s.waiting s.kept

-- cause 7: a read half while a read waits, a store half while none does
abbrev pub turn_number : Tick → TapeDelay → ℕ
turn_number (read_half p) s = cond s.waiting 7 0
turn_number (store_half v) s = cond s.waiting 0 7

-- causes 5 and 6: a read half has controls, a store half the saturated value
unfoldable pub tick_number : Tick → ℕ
tick_number (read_half p) = cause_number (is_nan_set p.time || (is_nan_set p.feedback || is_nan_set p.mix)) true
tick_number (store_half v) = cause_number false (saturated_fits v)

-- ---- an accepted half

-- the audio under the input rule, and of a store half the value handed in
abbrev pub input : Tick → Float
input (read_half p) = sanitized (value_or p.audio plus_zero)
input (store_half v) = v

-- the time port's seconds, in samples
abbrev pub delay_samples : Ports → TapeDelay → Float
delay_samples p s = samples_of s.sample_rate (linear_ms maximum (value_or p.time half))

abbrev pub half_of : Ports → TapeDelay → List Float → HalfRead
half_of p s m = half_read ceiling (reader s) (delay_samples p s) (value_or p.audio plus_zero) (value_or p.feedback plus_zero) (value_or p.mix half) m

-- the state after a read half that came to h: its store half is waited for. Position and count stay
abbrev pub waiting_state : HalfRead → TapeDelay → TapeDelay
waiting_state h s = state_of s.write_pos s.nonzero_places h.smoothed_delay true true h.kept (settings s)

-- what a store half comes to, after which the count is c
abbrev pub stored_of : ℕ → TapeDelay → HalfStored
stored_of c s = half_stored (size (reader s)) s.write_pos c s.kept

-- and after the store half, which came to that: the position has moved on, and nothing is kept
abbrev pub stored_state : HalfStored → TapeDelay → TapeDelay
stored_state h s = state_of h.write_pos h.nonzero_places s.smoothed_delay s.delay_primed false none_kept (settings s)

-- five times the saturated value
abbrev pub saturated : Float → Float
saturated v = mul binary64 v (float_of 5)

unfoldable pub writes : Tick → TapeDelay → List Write
writes (read_half p) s = []
writes (store_half v) s = stores s.write_pos (saturated v)

-- a store half's count goes by what the store changes
unfoldable pub next : Tick → TapeDelay → List Float → TapeDelay
next (read_half p) s m = waiting_state (half_of p s m) s
next (store_half v) s m = stored_state (stored_of (recount (parts (settings s)) (writes (store_half v) s) m s.nonzero_places) s) s

-- the read half answers the sum, the store half what is heard
unfoldable pub samples : Tick → TapeDelay → List Float → List Float
samples (read_half p) s m = (half_of p s m).sum ∷ []
samples (store_half v) s m = heard_of s.kept ∷ []

unfoldable pub reads : Tick → TapeDelay → List Read
reads (read_half p) s = read_by (reader s) (delay_samples p s) ∷ []
reads (store_half v) s = []

-- how many these are
abbrev pub reads_made : Tick → ℕ
reads_made (read_half p) = 1
reads_made (store_half v) = 0

-- ---- the effect

abbrev pub page : Page TapeDelay Settings Settings Settings Tick
page =
    record {
      state_fits = state_fits;
      settings = settings;
      start_settings = λ k. k;
      retune_settings = λ k old. k;
      settings_number = λ k. settings_number k.rate k.coefficient;
      places = places;
      parts = parts;
      turn_number = turn_number;
      tick_number = λ t k. tick_number t;
      blank = blank;
      fresh = cleared;
      retuned = λ k s. cleared k;
      next = next;
      writes = λ t s m. writes t s;
      samples = samples;
      reads = reads;
      input = input;
      -- a read that waits keeps sound
      quiet = λ s. not s.waiting;
      count = λ s. s.nonzero_places;
    }

abbrev pub tape_delay : Effect
tape_delay = effect_of page

-- ---- its state's fields, for the two widths of positions

abbrev pub fields : Fields TapeDelay
fields =
    record {
      positions = λ s. (s.write_pos ∷ []) ∷ [];
      floats = λ s. (s.smoothed_delay ∷ s.kept.audio ∷ s.kept.read ∷ s.kept.mix ∷ s.sample_rate ∷ s.delay_smooth_coef ∷ []) ∷ [];
      flags = λ s. s.delay_primed ∷ s.waiting ∷ [];
      map_positions = λ f s. state_of (f s.write_pos) s.nonzero_places s.smoothed_delay s.delay_primed s.waiting s.kept (settings s);
    }

-- what of a unit that waits is a zero where it keeps nothing of the sound: the audio and what was read
abbrev pub calm : TapeDelay → Bool
calm s = is_zero s.kept.audio && is_zero s.kept.read

-- The tremolo: it has no line and is lent no memory, so cause 3 never applies, and it has no retune: a new rate means a new start.
-- Definitions only. Assumes nothing.
use Rattle.std.specs.Prelude.{ℕ, Bool, true, ◌&&◌, ◌||◌, cond, List, [], ◌∷◌, Float}
use Rattle.std.specs.declared.convert.Infallible.{Infallible}
use Rattle.std.specs.Float.{binary64}
use Rattle.std.specs.Float.Ieee.{add, sub, mul, div}
use Rattle.float64.specs.Number.{plus_zero, float_of, half, rate_fits, phase_fits, frequency_fits, sine_fits, clamp_of, absolute}
use Rattle.port.specs.declared.Port.{Port}
use Rattle.port.specs.Port.{value_or, is_nan_set}
use Rattle.common.specs.Signal.{advanced, cause_number}
use Rattle.effect.specs.Effect.{Effect, Page, effect_of}
use Rattle.effect.specs.Narrow.{Fields}
use Rattle.tremolo.specs.declared.Tremolo.{Tremolo}

-- what a tick is handed: its ports, and the curve numbers frequency and sine
pub record Tick : Type 0 where
  pub audio : Port
  pub depth : Port
  pub shape : Port
  pub frequency : Float
  pub sine : Float

abbrev pub tick_of : Port → Port → Port → Float → Float → Tick
tick_of audio depth shape frequency sine = record { audio = audio; depth = depth; shape = shape; frequency = frequency; sine = sine }

abbrev pub state_of : Float → Float → Tremolo
state_of phase rate = record { lfo_phase = phase; sample_rate = rate }

-- the state after a start and a reset, and the one that a refused start gives
abbrev pub fresh : Float → Tremolo
fresh rate = state_of plus_zero rate

abbrev pub blank : Tremolo
blank = fresh plus_zero

-- the state test, cause 4
unfoldable pub state_fits : Tremolo → Bool
state_fits s = rate_fits s.sample_rate && phase_fits s.lfo_phase

-- causes 5 and 6
unfoldable pub tick_number : Tick → ℕ
tick_number t = cause_number (is_nan_set t.depth || is_nan_set t.shape) (frequency_fits t.frequency && sine_fits t.sine)

-- ---- an accepted tick

abbrev pub input : Tick → Float
input t = value_or t.audio plus_zero

abbrev pub depth : Tick → Float
depth t = clamp_of (value_or t.depth half) plus_zero (float_of 1)

abbrev pub shape : Tick → Float
shape t = clamp_of (value_or t.shape plus_zero) plus_zero (float_of 1)

-- 1 − 4 × |phase − 0.5|
unfoldable pub triangle : Float → Float
triangle phase = sub binary64 (float_of 1) (mul binary64 (float_of 4) (absolute (sub binary64 phase half)))

-- sine × (1 − shape) + triangle × shape, at the phase before the advance
unfoldable pub lfo : Float → Float → Float → Float
lfo phase shape sine = add binary64 (mul binary64 sine (sub binary64 (float_of 1) shape)) (mul binary64 (triangle phase) shape)

-- audio × (1 − depth × 0.5 × (1 − lfo))
unfoldable pub modulated : Float → Float → Float → Float
modulated input depth lfo =
    mul binary64 input (sub binary64 (float_of 1) (mul binary64 (mul binary64 depth half) (sub binary64 (float_of 1) lfo)))

-- the phase moves on by frequency / rate
unfoldable pub next : Tick → Tremolo → Tremolo
next t s = state_of (advanced s.lfo_phase (div binary64 t.frequency s.sample_rate)) s.sample_rate

unfoldable pub samples : Tick → Tremolo → List Float
samples t s = modulated (input t) (depth t) (lfo s.lfo_phase (shape t) t.sine) ∷ []

-- ---- the effect

abbrev pub page : Page Tremolo Float Float Infallible Tick
page =
    record {
      state_fits = state_fits;
      settings = λ s. s.sample_rate;
      start_settings = λ rate. rate;
      retune_settings = λ none rate. rate;
      settings_number = λ rate. cond (rate_fits rate) 0 1;
      places = λ rate. 0;
      parts = λ rate. [];
      turn_number = λ t s. 0;
      tick_number = λ t rate. tick_number t;
      blank = blank;
      fresh = fresh;
      retuned = λ rate s. fresh rate;
      next = λ t s m. next t s;
      writes = λ t s m. [];
      samples = λ t s m. samples t s;
      reads = λ t s. [];
      input = input;
      quiet = λ s. true;
      count = λ s. 0;
    }

abbrev pub tremolo : Effect
tremolo = effect_of page

-- ---- its state's fields, for the two widths of positions

abbrev pub fields : Fields Tremolo
fields =
    record {
      positions = λ s. [];
      floats = λ s. (s.lfo_phase ∷ s.sample_rate ∷ []) ∷ [];
      flags = λ s. [];
      map_positions = λ f s. s;
    }

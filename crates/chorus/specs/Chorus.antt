-- The chorus: one line that stores the audio, read by three voices, each at its own swept distance. Definitions only. Assumes nothing.
use Rattle.std.specs.Prelude.{ℕ, ◌-◌, Bool, true, ◌&&◌, ◌||◌, cond, List, [], ◌∷◌, get_or, ltb, leb, Float}
use Rattle.std.specs.Float.{nan, binary64}
use Rattle.std.specs.Float.Ieee.{add, sub, mul, div}
use Rattle.float64.specs.Number.{plus_zero, float_of, fraction, half, rate_fits, phase_fits, frequency_fits, sine_fits, clamp_of}
use Rattle.port.specs.declared.Port.{Port}
use Rattle.port.specs.Port.{value_or, is_nan_set}
use Rattle.common.specs.Signal.{sanitized, blended, advanced, cause_number}
use Rattle.common.specs.Line.{swept_length, next_place}
use Rattle.common.specs.Reads.{Read, heard}
use Rattle.effect.specs.Parts.{Part, first_places}
use Rattle.effect.specs.Effect.{Effect, Page, effect_of, Write, recount}
use Rattle.effect.specs.Narrow.{Fields}
use Rattle.effect.specs.Lines.{Lines, in_each}
use Rattle.chorus.specs.declared.Chorus.{Chorus}

-- what a tick is handed: its ports, and the curve numbers frequency and one sine per phase, in the phases' order
pub record Tick : Type 0 where
  pub audio : Port
  pub depth : Port
  pub mix : Port
  pub frequency : Float
  pub sine0 : Float
  pub sine1 : Float
  pub sine2 : Float

-- as the code is handed it, with the sines in an array
abbrev pub tick_of : Port → Port → Port → Float → List Float → Tick
tick_of audio depth mix frequency sines =
    record {
      audio = audio;
      depth = depth;
      mix = mix;
      frequency = frequency;
      sine0 = get_or sines 0 nan;
      sine1 = get_or sines 1 nan;
      sine2 = get_or sines 2 nan;
    }

-- L: the whole part of rate × 32 / 1000, plus 10; 32 is 25 (MAX_MOD_DELAY_MS) and 7 (BASE_DELAY_MS)
unfoldable pub line_length : Float → ℕ
line_length rate = swept_length (float_of 32) rate

-- the whole line is in use
abbrev pub parts : Float → List Part
parts rate = first_places (line_length rate)

-- ---- the phases of the three voices, in order, as the state's array has them

abbrev pub Phases : Type 0
Phases = List Float

abbrev pub phases_of : Chorus → Phases
phases_of s = s.lfo_phases

-- the phase of voice i, from 0 on
abbrev pub phase_at : ℕ → Phases → Float
phase_at i p = get_or p i nan

abbrev pub start_phases : Phases
start_phases = plus_zero ∷ fraction 33 100 ∷ fraction 67 100 ∷ []

abbrev pub zero_phases : Phases
zero_phases = plus_zero ∷ plus_zero ∷ plus_zero ∷ []

-- the factor of voice i, from 0 on: 1 + (i − 1) × 0.1
unfoldable pub factor : ℕ → Float
factor i = add binary64 (float_of 1) (mul binary64 (sub binary64 (float_of i) (float_of 1)) (fraction 1 10))

-- a voice moves on by (frequency × its factor) / rate
abbrev pub stepped : Float → Float → Float → Float → Float
stepped phase frequency factor rate = advanced phase (div binary64 (mul binary64 frequency factor) rate)

unfoldable pub next_phases : Float → Float → Phases → Phases
next_phases frequency rate p =
    stepped (phase_at 0 p) frequency (factor 0) rate ∷ stepped (phase_at 1 p) frequency (factor 1) rate ∷ stepped (phase_at 2 p) frequency (factor 2) rate ∷ []

-- ---- states

abbrev pub state_of : ℕ → ℕ → Phases → Float → Chorus
state_of pos count p rate = record { write_pos = pos; nonzero_places = count; lfo_phases = p; sample_rate = rate }

abbrev pub cleared : Phases → Float → Chorus
cleared p rate = state_of 0 0 p rate

-- after a start and a reset
abbrev pub fresh : Float → Chorus
fresh rate = cleared start_phases rate

-- after a retune, which keeps the phases
abbrev pub retuned : Float → Chorus → Chorus
retuned rate s = cleared (phases_of s) rate

-- what a refused start gives
abbrev pub blank : Chorus
blank = cleared zero_phases plus_zero

abbrev pub phases_fit : Phases → Bool
phases_fit p = phase_fits (phase_at 0 p) && (phase_fits (phase_at 1 p) && phase_fits (phase_at 2 p))

-- the state test, cause 4, where so many places are in use
unfoldable pub fits_with : ℕ → Chorus → Bool
fits_with used s =
    let rate = s.sample_rate in
    rate_fits rate && (ltb s.write_pos (line_length rate) && (leb s.nonzero_places used && phases_fit (phases_of s)))

abbrev pub state_fits : Chorus → Bool
state_fits s = fits_with (line_length s.sample_rate) s

-- causes 5 and 6
unfoldable pub tick_number : Tick → ℕ
tick_number t =
    cause_number (is_nan_set t.depth || is_nan_set t.mix)
    (frequency_fits t.frequency && (sine_fits t.sine0 && (sine_fits t.sine1 && sine_fits t.sine2)))

-- ---- an accepted tick

-- the audio under the input rule
abbrev pub input : Tick → Float
input t = sanitized (value_or t.audio plus_zero)

abbrev pub depth : Tick → Float
depth t = clamp_of (value_or t.depth half) plus_zero (float_of 1)

abbrev pub mix : Tick → Float
mix t = clamp_of (value_or t.mix half) plus_zero (float_of 1)

-- 7 × rate / 1000 + (sine × 0.5 + 0.5) × (depth × 25 × rate / 1000), clamped to 1 to L − 1
unfoldable pub distance_in : ℕ → Float → Float → Float → Float
distance_in L rate depth sine =
    clamp_of
    (add binary64
    (div binary64 (mul binary64 (float_of 7) rate) (float_of 1000))
    (mul binary64 (add binary64 (mul binary64 sine half) half) (div binary64 (mul binary64 (mul binary64 depth (float_of 25)) rate) (float_of 1000))))
    (float_of 1)
    (float_of (L - 1))

-- in the line at that rate
abbrev pub distance : Float → Float → Float → Float
distance rate depth sine = distance_in (line_length rate) rate depth sine

-- the read of a voice with this sine, in a line that begins at place o, and what it hears, before the store
abbrev pub voice_read : ℕ → Float → Tick → Chorus → Read
voice_read o sine t s =
    let rate = s.sample_rate in
    record { start = o; size = line_length rate; position = s.write_pos; distance = distance rate (depth t) sine }

unfoldable pub voice : ℕ → Float → Tick → Chorus → List Float → Float
voice o sine t s m = heard (voice_read o sine t s) m

-- The sums start at +0. Voice 0 goes half to each side, voice 1 left, voice 2 right; they are divided by 3, 2, 2; each is mixed with the audio.
unfoldable pub mixed : Float → Float → Float → Float → Float → List Float
mixed input mix d0 d1 d2 =
    let mono = add binary64 (add binary64 (add binary64 plus_zero d0) d1) d2 in
    let left = add binary64 (add binary64 plus_zero (mul binary64 d0 half)) d1 in
    let right = add binary64 (add binary64 plus_zero (mul binary64 d0 half)) d2 in
    blended input (div binary64 mono (float_of 3)) mix ∷ blended input (div binary64 left (float_of 2)) mix ∷ blended input (div binary64 right (float_of 2)) mix ∷ []

-- mono, left, right, where voice i reads the line that begins at place `begin i`
unfoldable pub samples_from : (ℕ → ℕ) → Tick → Chorus → List Float → List Float
samples_from begin t s m = mixed (input t) (mix t) (voice (begin 0) t.sine0 t s m) (voice (begin 1) t.sine1 t s m) (voice (begin 2) t.sine2 t s m)

unfoldable pub reads_from : (ℕ → ℕ) → Tick → Chorus → List Read
reads_from begin t s = voice_read (begin 0) t.sine0 t s ∷ voice_read (begin 1) t.sine1 t s ∷ voice_read (begin 2) t.sine2 t s ∷ []

-- all three voices read the one line
abbrev pub samples : Tick → Chorus → List Float → List Float
samples t s m = samples_from (λ i. 0) t s m

abbrev pub reads : Tick → Chorus → List Read
reads t s = reads_from (λ i. 0) t s

-- the audio goes into the line at the position
unfoldable pub writes : Tick → Chorus → List Write
writes t s = in_each 1 0 (line_length s.sample_rate) s.write_pos (input t)

-- the position moves on by one place, each voice's phase by its factor of the frequency, and the count is c
unfoldable pub next_counted : ℕ → Tick → Chorus → Chorus
next_counted c t s =
    let rate = s.sample_rate in
    state_of (next_place (line_length rate) s.write_pos) c (next_phases t.frequency rate (phases_of s)) rate

-- the count goes by what the store changes
abbrev pub next : Tick → Chorus → List Float → Chorus
next t s m = next_counted (recount (parts s.sample_rate) (writes t s) m s.nonzero_places) t s

-- ---- the effect

abbrev pub page : Page Chorus Float Float Float Tick
page =
    record {
      state_fits = state_fits;
      settings = λ s. s.sample_rate;
      start_settings = λ rate. rate;
      retune_settings = λ rate old. rate;
      settings_number = λ rate. cond (rate_fits rate) 0 1;
      places = line_length;
      parts = parts;
      turn_number = λ t s. 0;
      tick_number = λ t rate. tick_number t;
      blank = blank;
      fresh = fresh;
      retuned = retuned;
      next = next;
      writes = λ t s m. writes t s;
      samples = samples;
      reads = reads;
      input = input;
      quiet = λ s. true;
      count = λ s. s.nonzero_places;
    }

abbrev pub chorus : Effect
chorus = effect_of page

-- ---- its state's fields, for the two widths of positions

abbrev pub fields : Fields Chorus
fields =
    record {
      positions = λ s. (s.write_pos ∷ []) ∷ [];
      floats = λ s. s.lfo_phases ∷ (s.sample_rate ∷ []) ∷ [];
      flags = λ s. [];
      map_positions = λ f s. state_of (f s.write_pos) s.nonzero_places s.lfo_phases s.sample_rate;
    }

-- ---- its line, for the recent pasts

abbrev pub lines : Lines chorus
lines =
    record {
      count = 1;
      line_length = line_length;
      position = λ s. s.write_pos;
      sample = input;
      Phase = Phases;
      phase = phases_of;
    }

-- The reverb: a predelay, and on each side eight combs in parallel, summed, and four all-passes in series. Definitions only. Assumes nothing.
use Rattle.std.specs.Prelude.{◌≡◌, ℕ, ◌+◌, ◌-◌, Bool, cond, ◌&&◌, ◌||◌, List, [], ◌∷◌, ◌++◌, map, replicate, nat_le, Float}
use Rattle.std.specs.Float.{binary64}
use Rattle.std.specs.Float.Ieee.{add, mul}
use Rattle.float64.specs.Number.{plus_zero, float_of, fraction, half, rate_fits, clamp_of, at_most, whole_part}
use Rattle.port.specs.declared.Port.{Port}
use Rattle.port.specs.Port.{value_or, is_nan_set}
use Rattle.port.specs.Answer.{Reply, played}
use Rattle.common.specs.Signal.{sanitized, blended}
use Rattle.common.specs.Line.{zeros, are_zeros, next_place, table}
use Rattle.effect.specs.Parts.{Part, sizes}
use Rattle.effect.specs.Effect.{Effect, Page, effect_of, Write, laid, recount}
use Rattle.effect.specs.Narrow.{Fields}
use Rattle.reverb.specs.declared.tick.Controls.{Controls}
use Rattle.reverb.specs.declared.Reverb.{Reverb}
use Rattle.reverb.specs.declared.Lent.{Lent}
use Rattle.reverb.specs.Tunings.{Side, left, right, sided, predelay_size, comb_lengths, allpass_lengths, lengths_at}
use Rattle.reverb.specs.Tank.{Lines, combs_start, allpasses_start, comb_lines, allpass_lines, predelay_start, tank_size, positions_fit, next_position, by_sides, combs_held, sum_of, comb_stored, comb_write, allpasses_held, passed_on, allpass_write, delayed, parts}

-- what a tick is handed: its ports; no curve number
pub record Tick : Type 0 where
  pub audio : Port
  pub size : Port
  pub damping : Port
  pub mix : Port
  pub predelay : Port

abbrev pub tick_of : Port → Port → Port → Port → Port → Tick
tick_of audio size damping mix predelay = record { audio = audio; size = size; damping = damping; mix = mix; predelay = predelay }

-- ---- states

-- a state of these parts
abbrev pub state_of : List ℕ → List ℕ → List ℕ → List ℕ → ℕ → ℕ → List Float → List Float → Float → Reverb
state_of combl combr passl passr predelay count storesl storesr rate =
    record {
      comb_pos_l = combl;
      comb_pos_r = combr;
      allpass_pos_l = passl;
      allpass_pos_r = passr;
      predelay_pos = predelay;
      nonzero_places = count;
      comb_filter_state_l = storesl;
      comb_filter_state_r = storesr;
      sample_rate = rate;
    }

-- what is lent, as a state
abbrev pub lent_state : Lent → Reverb
lent_state l =
    state_of l.comb_pos_l.now l.comb_pos_r.now l.allpass_pos_l.now l.allpass_pos_r.now l.predelay_pos.now l.nonzero_places.now l.comb_filter_state_l.now
    l.comb_filter_state_r.now l.sample_rate

-- the parts of l' lie where those of l do, and its rate is that of l
pub record SameParts (l l' : Lent) : Type 0 where
  pub comb_pos_l : l'.comb_pos_l.ghost_name ≡ l.comb_pos_l.ghost_name
  pub comb_pos_r : l'.comb_pos_r.ghost_name ≡ l.comb_pos_r.ghost_name
  pub allpass_pos_l : l'.allpass_pos_l.ghost_name ≡ l.allpass_pos_l.ghost_name
  pub allpass_pos_r : l'.allpass_pos_r.ghost_name ≡ l.allpass_pos_r.ghost_name
  pub predelay_pos : l'.predelay_pos.ghost_name ≡ l.predelay_pos.ghost_name
  pub nonzero_places : l'.nonzero_places.ghost_name ≡ l.nonzero_places.ghost_name
  pub comb_filter_state_l : l'.comb_filter_state_l.ghost_name ≡ l.comb_filter_state_l.ghost_name
  pub comb_filter_state_r : l'.comb_filter_state_r.ghost_name ≡ l.comb_filter_state_r.ghost_name
  pub sample_rate : l'.sample_rate ≡ l.sample_rate

-- after a start, a retune and a reset: positions 0, damping stores +0, and the memory in zeros
abbrev pub fresh : Float → Reverb
fresh rate = state_of (replicate 8 0) (replicate 8 0) (replicate 4 0) (replicate 4 0) 0 0 (zeros 8) (zeros 8) rate

-- what a refused start gives
abbrev pub blank : Reverb
blank = fresh plus_zero

-- a side's combs, with their damping stores, and its all-passes
abbrev pub combs : Reverb → Side → Lines
combs s side = comb_lines (combs_start side) (sided s.comb_pos_l s.comb_pos_r side) (comb_lengths side s.sample_rate)

abbrev pub stores : Reverb → Side → List Float
stores s = sided s.comb_filter_state_l s.comb_filter_state_r

abbrev pub allpasses : Reverb → Side → Lines
allpasses s side = allpass_lines (allpasses_start side) (sided s.allpass_pos_l s.allpass_pos_r side) (allpass_lengths side s.sample_rate)

-- the places in use: every line of the rate's lengths, and the predelay
abbrev pub used_parts : Float → List Part
used_parts rate = parts (lengths_at rate)

-- the state test, cause 4: at an accepted rate, every position in its line, and no more places counted than are in use; the stores may hold any float
unfoldable pub state_fits : Reverb → Bool
state_fits s =
    rate_fits s.sample_rate
    && (positions_fit s.comb_pos_l s.comb_pos_r s.allpass_pos_l s.allpass_pos_r s.predelay_pos (lengths_at s.sample_rate)
    && nat_le s.nonzero_places (sizes (used_parts s.sample_rate)))

-- what the damping stores keep of the sound: all sixteen are +0 or −0
unfoldable pub quiet : Reverb → Bool
quiet s = are_zeros 8 s.comb_filter_state_l && are_zeros 8 s.comb_filter_state_r

-- cause 5; cause 6 never applies
unfoldable pub tick_number : Tick → ℕ
tick_number t = cond (is_nan_set t.size || (is_nan_set t.damping || (is_nan_set t.mix || is_nan_set t.predelay))) 5 0

-- ---- an accepted tick: its controls

-- the numbers that it takes from its ports
abbrev pub controls_of : Tick → Controls
controls_of t =
    record {
      audio = value_or t.audio plus_zero;
      size = value_or t.size half;
      damping = value_or t.damping half;
      mix = value_or t.mix half;
      predelay = value_or t.predelay plus_zero;
    }

-- the audio under the input rule
abbrev pub input : Controls → Float
input c = sanitized c.audio

-- 0.28 + size × 0.7
abbrev pub feedback : Controls → Float
feedback c = add binary64 (fraction 28 100) (mul binary64 (clamp_of c.size plus_zero (float_of 1)) (fraction 7 10))

-- damping × 0.4
abbrev pub damping : Controls → Float
damping c = mul binary64 (clamp_of c.damping plus_zero (float_of 1)) (fraction 4 10)

abbrev pub mix : Controls → Float
mix c = clamp_of c.mix plus_zero (float_of 1)

-- the predelay's delay in samples: the whole part of control × 0.1 × rate, less than the line's length
unfoldable pub delay_samples : Float → Float → ℕ
delay_samples control rate = whole_part (at_most (mul binary64 (mul binary64 control (fraction 1 10)) rate) (float_of (predelay_size - 1)))

abbrev pub delay_by : Controls → Float → ℕ
delay_by c rate = delay_samples (clamp_of c.predelay plus_zero (float_of 1)) rate

-- ---- what it leaves and answers. Every line is read in the memory m before the tick

abbrev pub predelayed : Controls → Reverb → List Float → Float
predelayed c s m = delayed predelay_start s.predelay_pos (delay_by c s.sample_rate) (input c) m

-- a side's combs, summed, times 0.125
unfoldable pub summed : Reverb → List Float → Side → Float
summed s m side = mul binary64 (sum_of (combs_held (combs s side) m) 8) (fraction 1 8)

-- what a side plays: its sum through its four all-passes
unfoldable pub wet : Reverb → List Float → Side → Float
wet s m side = passed_on (summed s m side) (allpasses_held (allpasses s side) m) 4

-- 25 writes: one in each line
abbrev pub comb_writes : Controls → Reverb → List Float → ℕ → Side → Write
comb_writes c s m i side = comb_write (predelayed c s m) (damping c) (feedback c) (combs s side) (stores s side) (combs_held (combs s side) m) i

abbrev pub allpass_writes : Reverb → List Float → ℕ → Side → Write
allpass_writes s m i side = allpass_write (summed s m side) (allpasses s side) (allpasses_held (allpasses s side) m) i

unfoldable pub writes : Controls → Reverb → List Float → List Write
writes c s m = record { place = predelay_start + s.predelay_pos; value = input c } ∷ (by_sides (comb_writes c s m) 8 ++ by_sides (allpass_writes s m) 4)

unfoldable pub next : Controls → Reverb → List Float → Reverb
next c s m =
    record {
      comb_pos_l = table (next_position (combs s left)) 8;
      comb_pos_r = table (next_position (combs s right)) 8;
      allpass_pos_l = table (next_position (allpasses s left)) 4;
      allpass_pos_r = table (next_position (allpasses s right)) 4;
      predelay_pos = next_place predelay_size s.predelay_pos;
      nonzero_places = recount (used_parts s.sample_rate) (writes c s m) m s.nonzero_places;
      comb_filter_state_l = table (comb_stored (damping c) (stores s left) (combs_held (combs s left) m)) 8;
      comb_filter_state_r = table (comb_stored (damping c) (stores s right) (combs_held (combs s right) m)) 8;
      sample_rate = s.sample_rate;
    }

-- left, right
unfoldable pub samples : Controls → Reverb → List Float → List Float
samples c s m = blended (input c) (wet s m left) (mix c) ∷ blended (input c) (wet s m right) (mix c) ∷ []

-- an accepted tick that takes these numbers leaves the state s' and the memory m', and answers a
pub record Advances (c : Controls) (s : Reverb) (m : List Float) (s' : Reverb) (m' : List Float) (a : Reply) : Type 0 where
  pub state : s' ≡ next c s m
  pub memory : m' ≡ laid (writes c s m) m
  pub answer : a ≡ played (samples c s m) 0

-- ---- the effect

abbrev pub page : Page Reverb Float Float Float Tick
page =
    record {
      state_fits = state_fits;
      settings = λ s. s.sample_rate;
      start_settings = λ rate. rate;
      retune_settings = λ rate old. rate;
      settings_number = λ rate. cond (rate_fits rate) 0 1;
      places = λ rate. tank_size;
      parts = used_parts;
      turn_number = λ t s. 0;
      tick_number = λ t rate. tick_number t;
      blank = blank;
      fresh = fresh;
      retuned = λ rate s. fresh rate;
      next = λ t s m. next (controls_of t) s m;
      writes = λ t s m. writes (controls_of t) s m;
      samples = λ t s m. samples (controls_of t) s m;
      reads = λ t s. [];
      input = λ t. input (controls_of t);
      quiet = quiet;
      count = λ s. s.nonzero_places;
    }

abbrev pub reverb : Effect
reverb = effect_of page

-- ---- its state's fields, for the two widths of positions

abbrev pub fields : Fields Reverb
fields =
    record {
      positions = λ s. s.comb_pos_l ∷ s.comb_pos_r ∷ s.allpass_pos_l ∷ s.allpass_pos_r ∷ (s.predelay_pos ∷ []) ∷ [];
      floats = λ s. s.comb_filter_state_l ∷ s.comb_filter_state_r ∷ (s.sample_rate ∷ []) ∷ [];
      flags = λ s. [];
      map_positions = λ f s.
          state_of (map f s.comb_pos_l) (map f s.comb_pos_r) (map f s.allpass_pos_l) (map f s.allpass_pos_r) (f s.predelay_pos) s.nonzero_places s.comb_filter_state_l
          s.comb_filter_state_r s.sample_rate;
    }

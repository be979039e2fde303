-- The phaser: on each side a chain of six all-passes, of which a tick runs the first 2, 4 or 6, fed back from the last of these. It has no line and is lent no
-- memory, so cause 3 never applies, and it has no retune: a new rate means a new start. Definitions only. Assumes nothing.
use Rattle.std.specs.Prelude.{◌≡◌, ℕ, ◌-◌, Bool, ◌&&◌, ◌||◌, cond, List, [], ◌∷◌, get_or, Float}
use Rattle.std.specs.declared.convert.Infallible.{Infallible}
use Rattle.std.specs.Float.{nan, binary64}
use Rattle.std.specs.Float.Ieee.{add, mul, div, neg, lt}
use Rattle.float64.specs.Number.{plus_zero, float_of, fraction, half, rate_fits, phase_fits, frequency_fits, allpass_fits, clamp_of}
use Rattle.port.specs.declared.Port.{Port}
use Rattle.port.specs.Port.{value_or, is_nan_set}
use Rattle.port.specs.Answer.{Reply, played}
use Rattle.common.specs.Signal.{sanitized, blended, advanced, cause_number}
use Rattle.common.specs.Line.{zeros, are_zeros}
use Rattle.effect.specs.Effect.{Effect, Page, effect_of}
use Rattle.effect.specs.Narrow.{Fields}
use Rattle.phaser.specs.declared.Phaser.{Phaser}
use Rattle.phaser.specs.declared.Lent.{Lent}
use Rattle.phaser.specs.declared.allpass.Chain as lent
use Rattle.phaser.specs.declared.allpass.Chains.{Chains}
use Rattle.phaser.specs.declared.stages.Stages.{Stages}
use Rattle.phaser.specs.declared.stages.Stages.TheVariants.{Two, Four, Six}
use Rattle.phaser.specs.Allpass.{Chain, chain_of, passed}

-- what a tick is handed: its ports, and the curve numbers frequency and the all-pass coefficient of each side
pub record Tick : Type 0 where
  pub audio : Port
  pub feedback : Port
  pub mix : Port
  pub stages : Port
  pub frequency : Float
  pub coef_l : Float
  pub coef_r : Float

abbrev pub tick_of : Port → Port → Port → Port → Float → Float → Float → Tick
tick_of audio feedback mix stages frequency left right =
    record { audio = audio; feedback = feedback; mix = mix; stages = stages; frequency = frequency; coef_l = left; coef_r = right }

-- ---- states

-- a state of these parts: the last inputs and the last outputs of the left chain and of the right one, the phase, the rate
abbrev pub state_of : List Float → List Float → List Float → List Float → Float → Float → Phaser
state_of x1l x1r y1l y1r phase rate =
    record { allpass_x1_l = x1l; allpass_x1_r = x1r; allpass_y1_l = y1l; allpass_y1_r = y1r; lfo_phase = phase; sample_rate = rate }

-- a side's lent chain, and the signal on its way through
abbrev pub carrying : lent.Chain → Float → Chain
carrying c signal = chain_of c.x1.now c.y1.now signal

-- what is lent, as a state
abbrev pub lent_state : Lent → Phaser
lent_state l = state_of l.chains.left.x1.now l.chains.right.x1.now l.chains.left.y1.now l.chains.right.y1.now l.lfo_phase.now l.sample_rate

-- the chains of c' lie where those of c do
pub record SameChains (c c' : Chains) : Type 0 where
  pub left_x1 : c'.left.x1.ghost_name ≡ c.left.x1.ghost_name
  pub left_y1 : c'.left.y1.ghost_name ≡ c.left.y1.ghost_name
  pub right_x1 : c'.right.x1.ghost_name ≡ c.right.x1.ghost_name
  pub right_y1 : c'.right.y1.ghost_name ≡ c.right.y1.ghost_name

-- the parts of l' lie where those of l do, and its rate is that of l
pub record SameParts (l l' : Lent) : Type 0 where
  pub chains : SameChains l.chains l'.chains
  pub lfo_phase : l'.lfo_phase.ghost_name ≡ l.lfo_phase.ghost_name
  pub sample_rate : l'.sample_rate ≡ l.sample_rate

-- all-passes of each chain
abbrev pub max_stages : ℕ
max_stages = 6

-- the state after a start and a reset, and the one that a refused start gives
abbrev pub fresh : Float → Phaser
fresh rate = state_of (zeros max_stages) (zeros max_stages) (zeros max_stages) (zeros max_stages) plus_zero rate

abbrev pub blank : Phaser
blank = fresh plus_zero

-- the state test, cause 4: the chains may hold any floats
unfoldable pub state_fits : Phaser → Bool
state_fits s = rate_fits s.sample_rate && phase_fits s.lfo_phase

-- what the chains keep of the sound: all 24 numbers are +0 or −0, those of idle stages too
unfoldable pub quiet : Phaser → Bool
quiet s =
    (are_zeros max_stages s.allpass_x1_l && are_zeros max_stages s.allpass_x1_r)
    && (are_zeros max_stages s.allpass_y1_l && are_zeros max_stages s.allpass_y1_r)

-- causes 5 and 6
unfoldable pub tick_number : Tick → ℕ
tick_number t =
    cause_number (is_nan_set t.feedback || (is_nan_set t.mix || is_nan_set t.stages)) (frequency_fits t.frequency && (allpass_fits t.coef_l && allpass_fits t.coef_r))

-- ---- an accepted tick

-- the audio under the input rule
abbrev pub input : Tick → Float
input t = sanitized (value_or t.audio plus_zero)

abbrev pub feedback : Tick → Float
feedback t = clamp_of (value_or t.feedback plus_zero) (neg (fraction 95 100)) (fraction 95 100)

abbrev pub mix : Tick → Float
mix t = clamp_of (value_or t.mix half) plus_zero (float_of 1)

-- how many stages of each chain run: by the control below 0.33 two, below 0.66 four, else six
unfoldable pub stages_at : Float → ℕ
stages_at control = cond (lt control (fraction 33 100)) 2 (cond (lt control (fraction 66 100)) 4 max_stages)

-- how many the code's cases are
abbrev pub count : Stages → ℕ
count Two = 2
count Four = 4
count Six = 6

abbrev pub stages : Tick → ℕ
stages t = stages_at (clamp_of (value_or t.stages (float_of 1)) plus_zero (float_of 1))

-- what goes into a chain: the input, and times the feedback what the last stage that runs put out in the tick in which it last ran
unfoldable pub fed : Float → Float → ℕ → List Float → Float
fed input feedback n y1 = add binary64 input (mul binary64 (get_or y1 (n - 1) nan) feedback)

-- a side's chain after the tick, with the side's wet sample as its signal
unfoldable pub chain_after : Tick → Float → List Float → List Float → Chain
chain_after t coef x1 y1 = passed coef (stages t) (chain_of x1 y1 (fed (input t) (feedback t) (stages t) y1))

abbrev pub left : Tick → Phaser → Chain
left t s = chain_after t t.coef_l s.allpass_x1_l s.allpass_y1_l

abbrev pub right : Tick → Phaser → Chain
right t s = chain_after t t.coef_r s.allpass_x1_r s.allpass_y1_r

-- the phase moves on by frequency / rate
unfoldable pub next : Tick → Phaser → Phaser
next t s =
    state_of (left t s).x1 (right t s).x1 (left t s).y1 (right t s).y1 (advanced s.lfo_phase (div binary64 t.frequency s.sample_rate)) s.sample_rate

-- mono, which is left; left; right
unfoldable pub samples : Tick → Phaser → List Float
samples t s =
    let l = blended (input t) (left t s).signal (mix t) in
    l ∷ l ∷ blended (input t) (right t s).signal (mix t) ∷ []

-- the tick leaves the state s' and answers a
pub record Advances (t : Tick) (s s' : Phaser) (a : Reply) : Type 0 where
  pub state : s' ≡ next t s
  pub answer : a ≡ played (samples t s) 0

-- ---- the effect

abbrev pub page : Page Phaser Float Float Infallible Tick
page =
    record {
      state_fits = state_fits;
      settings = λ s. s.sample_rate;
      start_settings = λ rate. rate;
      retune_settings = λ none rate. rate;
      settings_number = λ rate. cond (rate_fits rate) 0 1;
      places = λ rate. 0;
      parts = λ rate. [];
      turn_number = λ t s. 0;
      tick_number = λ t rate. tick_number t;
      blank = blank;
      fresh = fresh;
      retuned = λ rate s. fresh rate;
      next = λ t s m. next t s;
      writes = λ t s m. [];
      samples = λ t s m. samples t s;
      reads = λ t s. [];
      input = input;
      quiet = quiet;
      count = λ s. 0;
    }

abbrev pub phaser : Effect
phaser = effect_of page

-- ---- its state's fields, for the two widths of positions

abbrev pub fields : Fields Phaser
fields =
    record {
      positions = λ s. [];
      floats = λ s. s.allpass_x1_l ∷ s.allpass_x1_r ∷ s.allpass_y1_l ∷ s.allpass_y1_r ∷ (s.lfo_phase ∷ s.sample_rate ∷ []) ∷ [];
      flags = λ s. [];
      map_positions = λ f s. s;
    }

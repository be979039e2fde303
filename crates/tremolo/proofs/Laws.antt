-- The tremolo's definitions by their cases: the table's row of a tick, and a tick from its steps. Assumes nothing.
use mathlib.Core.Path.{◌≡◌, refl}
use mathlib.Core.Bool.{Bool, true, false, not, ◌&&◌, ◌||◌}
use mathlib.Core.List.{[], ◌∷◌}
use lib.Ieee.{Float, fits, is_nan, round}
use Rattle.float64.specs.Number.{plus_zero, float_of, half, is_number, frequency_fits, sine_fits, clamp_of}
use Rattle.float64.proofs.Tests.{both}
use Rattle.port.specs.Port.{value_or, is_nan_set}
use Rattle.port.proofs.Laws.{nan_is}
use Rattle.common.specs.Signal.{cause_number}
use Rattle.common.proofs.Sweep.{no-cause, neither}
use Rattle.tremolo.specs.declared.Tremolo.{Tremolo}
use Rattle.tremolo.specs.Tremolo.{Tick, tick_number, lfo, modulated, samples}

-- ---- causes 5 and 6

pub record TickFits (t : Tick) : Type 0 where
  pub depth : is_nan_set t.depth ≡ false
  pub shape : is_nan_set t.shape ≡ false
  pub frequency : frequency_fits t.frequency ≡ true
  pub sine : sine_fits t.sine ≡ true

pub tick-fits : (t : Tick) → tick_number t ≡ 0 → TickFits t
unfolding tick_number
tick-fits t e =
    let v = no-cause (is_nan_set t.depth || is_nan_set t.shape) (frequency_fits t.frequency && sine_fits t.sine) e in
    let a = neither (is_nan_set t.depth) (is_nan_set t.shape) v.0 in
    let b = both (frequency_fits t.frequency) (sine_fits t.sine) v.1 in
    record { depth = a.0; shape = a.1; frequency = b.0; sine = b.1 }

-- by the values taken from the ports, as no default is NaN
pub number-is : (t : Tick) {d b : Float} {d-nan b-nan frequency sine : Bool} → d ≡ value_or t.depth half → b ≡ value_or t.shape plus_zero
    → d-nan ≡ not (is_number d) → b-nan ≡ not (is_number b) → frequency ≡ frequency_fits t.frequency → sine ≡ sine_fits t.sine
    → cause_number (d-nan || b-nan) (frequency && sine) ≡ tick_number t
unfolding tick_number is_number fits is_nan round
number-is t amount blend depth shape frequency sine = λ i.
    cause_number (nan_is t.depth half refl amount depth i || nan_is t.shape plus_zero refl blend shape i) (frequency i && sine i)

-- ---- an accepted tick: the sample worked out step by step is the tick's
pub samples-are : (t : Tick) (s : Tremolo) {x d b d' b' l y : Float} → x ≡ value_or t.audio plus_zero → d ≡ value_or t.depth half → b ≡ value_or t.shape plus_zero
    → b' ≡ clamp_of b plus_zero (float_of 1) → l ≡ lfo s.lfo_phase b' t.sine → d' ≡ clamp_of d plus_zero (float_of 1) → y ≡ modulated x d' l
    → y ∷ [] ≡ samples t s
unfolding samples
samples-are t s audio depth shape b l d y = rw (y, l, d, b, audio, depth, shape)

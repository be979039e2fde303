-- The laws of the phaser: its clamp changes no count of stages, and what tests an accepted tick passed. Assumes nothing.
use Rattle.std.proofs.Common.{◌≡◌, ℕ, List, true, false, T, refl, ◌∙◌, arith}
use lib.Ieee.{Float, nan, binary64, div, le, lt, of_int, round, neg, is_nan}
use Rattle.std.proofs.lemmas.Float as floats
use lib.Ieee.Bits.{is_true}
use lib.Ieee as Ieee
use Rattle.float64.specs.Number.{plus_zero, float_of, fraction, frequency_fits, allpass_fits, clamp_of}
use Rattle.float64.proofs.Ranges.{yes}
use Rattle.float64.proofs.Order.{le→not-lt}
use Rattle.port.specs.Port.{is_nan_set}
use Rattle.phaser.specs.Allpass.{Chain, chain_of, passed}
use Rattle.phaser.specs.Phaser.{Tick, tick_number, stages_at, input, feedback, stages, fed, chain_after}

-- ---- the stages control: its clamp moves it over neither threshold

module _ (x : Float) (number : Ieee.fits binary64 x ≡ true) where
  under : lt x plus_zero ≡ true → lt x (fraction 33 100) ≡ true
  unfolding Ieee.fits le round
  under l = is_true _ (floats.lt_of_lt_of_le x plus_zero (fraction 33 100) (yes l) tt)

  over : (t : Float) → T (Ieee.fits binary64 t) → T (le t (float_of 1)) → lt (float_of 1) x ≡ true → lt x t ≡ false
  unfolding Ieee.fits of_int
  over t f k l = le→not-lt binary64 t x f (yes number) (floats.le_trans t (float_of 1) x k (floats.le_of_lt (float_of 1) x (yes l)))

  over-33 : lt (float_of 1) x ≡ true → lt x (fraction 33 100) ≡ false
  unfolding Ieee.fits le of_int round
  over-33 = over (fraction 33 100) tt tt

  over-66 : lt (float_of 1) x ≡ true → lt x (fraction 66 100) ≡ false
  unfolding Ieee.fits le of_int round
  over-66 = over (fraction 66 100) tt tt

  at-0 : stages_at plus_zero ≡ 2
  unfolding stages_at lt round
  at-0 = refl

  at-1 : stages_at (float_of 1) ≡ 6
  unfolding stages_at lt of_int round
  at-1 = refl

  pub stages-clamped : stages_at (clamp_of x plus_zero (float_of 1)) ≡ stages_at x
  unfolding clamp_of stages_at
  stages-clamped = grind (arith, under, over-33, over-66, at-0, at-1)

-- what `Stages::at` cites
pub ruleset stages_cases = (stages-clamped)

-- ---- causes 5 and 6

pub record TickFits (t : Tick) : Type 0 where
  pub feedback : is_nan_set t.feedback ≡ false
  pub mix : is_nan_set t.mix ≡ false
  pub frequency : frequency_fits t.frequency ≡ true
  pub coef_l : allpass_fits t.coef_l ≡ true
  pub coef_r : allpass_fits t.coef_r ≡ true

pub tick-fits : (t : Tick) → tick_number t ≡ 0 → TickFits t
unfolding tick_number
tick-fits t e = record { feedback = grind arith; mix = grind arith; frequency = grind arith; coef_l = grind arith; coef_r = grind arith }

-- ---- a chain's steps, from the clamped controls

pub chain-is : (t : Tick) {x f g : Float} {n : ℕ} {c : Chain} (coef : Float) (x1 y1 : List Float) → x ≡ input t → f ≡ feedback t → n ≡ stages t
    → g ≡ fed x f n y1
    → c ≡ passed coef n (chain_of x1 y1 g)
    → c ≡ chain_after t coef x1 y1
unfolding chain_after
chain-is t coef x1 y1 audio back running enters e =
    e ∙ (λ i. passed coef (running i) (chain_of x1 y1 ((enters ∙ (λ j. fed (audio j) (back j) (running j) y1)) i)))

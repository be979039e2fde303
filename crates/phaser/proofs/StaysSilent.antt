-- A silent phaser stays silent: a stage that holds zeros puts out a zero for a zero, and holds zeros again. Assumes nothing.
use Rattle.std.proofs.Common.{◌≡◌, ℕ, zero, suc, ◌-◌, ◌≤◌, ◌<◌, true, List, get_or, set, refl, arith, length-set}
use lib.Ieee.{Float, nan, binary64, add, mul, eq, lt, le, neg, of_int, round}
use lib.Ieee as Ieee
use Rattle.float64.specs.Number.{plus_zero, float_of, half, is_number, allpass_fits, clamp_of}
use Rattle.float64.proofs.Interval.{in-finite}
use Rattle.float64.proofs.Ranges.{sine-in}
use Rattle.float64.proofs.Zeros.{Zero, times-zero, zero-plus, zero-minus}
use Rattle.port.specs.Port.{value_or}
use Rattle.common.specs.Signal.{blended}
use Rattle.common.specs.Line.{all_zero, are_zeros}
use Rattle.common.proofs.Zeros.{entry-zero, zero-put}
use Rattle.common.proofs.Sweep.{control-in}
use Rattle.common.proofs.ZeroBlends.{mix-zero, fed-zero}
use Rattle.effect.specs.StaysSilent.{StaysSilent}
use Rattle.effect.proofs.SilentLaws.{SilentTick, SilentLaws}
use Rattle.effect.proofs.StaysSilent.{stays-silent}
use Rattle.phaser.specs.declared.Phaser.{Phaser}
use Rattle.phaser.specs.Allpass.{Chain, chain_of, allpassed, stage, passed}
use Rattle.phaser.specs.Phaser.{Tick, phaser, max_stages, fresh, quiet, input, feedback, mix, stages, stages_at, fed, chain_after, left, right, next, samples}
use Rattle.phaser.proofs.Laws.{TickFits, tick-fits}
use Rattle.phaser.proofs.Demand1.{laws}
use Rattle.phaser.proofs.Counts.{own}

-- ---- a list of six zeros

abbrev Zeros : List Float → Type 0
Zeros l = are_zeros max_stages l ≡ true

-- with a zero put into it
put : (l : List Float) (i : ℕ) (x : Float) → Zeros l → Zero x → Zeros (set l i x)
put l i x z h = grind (arith, length-set {A = Float}, zero-put l i x h)

-- ---- a chain that holds zeros, with a zero on its way through

record Still (c : Chain) : Type 0 where
  x1 : Zeros c.x1
  y1 : Zeros c.y1
  signal : Zero c.signal

module _ (coef : Float) (fits : allpass_fits coef ≡ true) where
  stage-still : (i : ℕ) (c : Chain) → i < max_stages → Still c → Still (stage coef i c)
  unfolding stage allpassed
  stage-still i c h s =
      let f = in-finite (sine-in fits) in
      let x = get_or c.x1 i nan in
      let y = get_or c.y1 i nan in
      let output = zero-minus (add binary64 (mul binary64 coef c.signal) x) (mul binary64 coef y)
      (zero-plus (mul binary64 coef c.signal) x (times-zero coef c.signal f s.signal) (entry-zero max_stages c.x1 i nan s.x1 h))
      (times-zero coef y f (entry-zero max_stages c.y1 i nan s.y1 h)) in
      record { x1 = put c.x1 i c.signal s.x1 s.signal; y1 = put c.y1 i _ s.y1 output; signal = output }

  passed-still : (n : ℕ) (c : Chain) → n ≤ max_stages → Still c → Still (passed coef n c)
  unfolding passed
  passed-still zero c h s = s
  passed-still (suc n) c h s = stage-still n (passed coef n c) (omega arith) (passed-still n c (omega arith) s)

-- ---- a tick of a silent phaser

running : (c : Float) → (1 ≤ stages_at c) × (stages_at c ≤ max_stages)
unfolding stages_at
running c = (grind arith, grind arith)

module _ (t : Tick) (s : Phaser) (m : List Float) (u : SilentTick phaser phaser.quiet t s m) where
  k : TickFits t
  k = tick-fits t u.number

  -- its 24 numbers
  record Quiet : Type 0 where
    x1_l : Zeros s.allpass_x1_l
    x1_r : Zeros s.allpass_x1_r
    y1_l : Zeros s.allpass_y1_l
    y1_r : Zeros s.allpass_y1_r

  quiet-parts : Quiet
  unfolding quiet
  quiet-parts = let q = u.state_calm in record { x1_l = grind arith; x1_r = grind arith; y1_l = grind arith; y1_r = grind arith }

  -- a side's chain after the tick
  side : (coef : Float) (x1 y1 : List Float) → allpass_fits coef ≡ true → Zeros x1 → Zeros y1 → Still (chain_after t coef x1 y1)
  unfolding chain_after fed le neg Ieee.fits round
  side coef x1 y1 h zx zy =
      let n = running (clamp_of (value_or t.stages (float_of 1)) plus_zero (float_of 1)) in
      let last = get_or y1 (stages t - 1) nan in
      let enters = fed-zero (input t) last t.feedback _ _ u.audio (entry-zero max_stages y1 (stages t - 1) nan zy (omega arith)) k.feedback tt tt in
      passed-still coef h (stages t) (chain_of x1 y1 (fed (input t) (feedback t) (stages t) y1)) n.1 (record { x1 = zx; y1 = zy; signal = enters })

  left-still : Still (left t s)
  left-still = let q = quiet-parts in side t.coef_l s.allpass_x1_l s.allpass_y1_l k.coef_l q.x1_l q.y1_l

  right-still : Still (right t s)
  right-still = let q = quiet-parts in side t.coef_r s.allpass_x1_r s.allpass_y1_r k.coef_r q.x1_r q.y1_r

  plays : (c : Chain) → Still c → Zero (blended (input t) c.signal (mix t))
  unfolding is_number Ieee.fits Ieee.is_nan round
  plays c z = mix-zero (input t) c.signal u.audio z.signal (control-in t.mix half k.mix refl)

  answers : all_zero (samples t s) ≡ true
  unfolding samples all_zero
  answers =
      let l = plays (left t s) left-still in
      let r = plays (right t s) right-still in
      grind arith

  next-quiet : quiet (next t s) ≡ true
  unfolding quiet next
  next-quiet =
      let l = left-still in
      let r = right-still in
      grind arith

fresh-quiet : (rate : Float) → quiet (fresh rate) ≡ true
unfolding quiet all_zero eq
fresh-quiet rate = refl

silent-laws : SilentLaws phaser phaser.quiet
silent-laws =
    record {
      fresh-calm = fresh-quiet;
      retuned-calm = λ rate s. fresh-quiet rate;
      answers = answers;
      writes = λ t s m u. tt;
      next-calm = next-quiet;
    }

pub shown : StaysSilent phaser
shown = stays-silent phaser laws own silent-laws

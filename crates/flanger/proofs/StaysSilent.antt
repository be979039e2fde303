-- A silent flanger stays silent: each line reads zeros, and what is stored and played is a zero then. Assumes nothing.
use Rattle.std.proofs.Common.{◌≡◌, ℕ, ◌+◌, ◌*◌, ◌≤◌, true, List, refl, arith}
use lib.Ieee.{Float, binary64, mul, neg, le}
use lib.Ieee as Ieee
use Rattle.float64.specs.Number.{half, is_number, sine_fits}
use Rattle.float64.proofs.Tests.{both-true}
use Rattle.float64.proofs.Ranges.{in-range}
use Rattle.float64.proofs.Zeros.{Zero}
use Rattle.common.specs.Signal.{blended}
use Rattle.common.specs.Line.{all_zero}
use Rattle.common.proofs.Sweep.{control-in}
use Rattle.common.proofs.ZeroBlends.{mix-zero, fed-zero}
use Rattle.effect.specs.Effect.{EachWritten}
use Rattle.effect.specs.StaysSilent.{StaysSilent}
use Rattle.effect.proofs.Parts.{first-read}
use Rattle.effect.proofs.SilentLaws.{SilentTick, keeps-nothing}
use Rattle.effect.proofs.StaysSilent.{stays-silent}
use Rattle.flanger.specs.declared.Flanger.{Flanger}
use Rattle.flanger.specs.Flanger.{Tick, flanger, line_length, places, input, depth, mix, distance, tap, fed, writes, samples}
use Rattle.flanger.proofs.Laws.{fits-parts, length_fits, tick-fits, distance-in}
use Rattle.flanger.proofs.Demand1.{laws}
use Rattle.flanger.proofs.Counts.{own}

module _ (t : Tick) (s : Flanger) (m : List Float) (u : SilentTick flanger flanger.quiet t s m) where
  -- line i is read
  heard : (i : ℕ) (sine : Float) → i * line_length s.sample_rate + line_length s.sample_rate ≤ places s.sample_rate → sine_fits sine ≡ true → Zero (tap i sine t s m)
  unfolding tap is_number Ieee.fits Ieee.is_nan Ieee.round
  heard i sine l h =
      let rate = s.sample_rate in
      let f = fits-parts s u.state_fits in
      let far = distance-in rate (depth t) sine f.rate (in-range (control-in t.depth half (tick-fits t u.number).depth refl)) h in
      let L = line_length rate in
      first-read (places rate) (i * L) L s.write_pos m (distance rate (depth t) sine) u.enough u.zeros l f.inside (omega (arith, (length_fits rate f.rate).1)) far

  left : Zero (tap 0 t.sine0 t s m)
  left = heard 0 t.sine0 (omega arith) (tick-fits t u.number).sine0

  right : Zero (tap 1 t.sine1 t s m)
  right = heard 1 t.sine1 (omega arith) (tick-fits t u.number).sine1

  -- what a line that reads a zero is fed, and what its side plays
  stores : (y : Float) → Zero y → Zero (fed t y)
  unfolding fed le neg Ieee.fits Ieee.round
  stores y z = fed-zero (input t) y t.feedback _ _ u.audio z (tick-fits t u.number).feedback tt tt

  plays : (y : Float) → Zero y → Zero (blended (input t) y (mix t))
  unfolding is_number Ieee.fits Ieee.is_nan Ieee.round
  plays y z = mix-zero (input t) y u.audio z (control-in t.mix half (tick-fits t u.number).mix refl)

  answers : all_zero (samples t s m) ≡ true
  unfolding samples all_zero
  answers = both-true (plays _ left) (both-true (plays _ left) (both-true (plays _ right) refl))

  written : EachWritten Zero (writes t s m)
  unfolding writes
  written = (stores _ left, (stores _ right, tt))

pub shown : StaysSilent flanger
shown = stays-silent flanger laws own (keeps-nothing flanger (λ s. refl) answers written)

-- A silent delay line stays silent: it reads zeros, and what it stores and plays is a zero then. Assumes nothing.
use Rattle.std.proofs.Common.{◌≡◌, true, List, refl}
use lib.Ieee.{Float, binary64, mul, le}
use lib.Ieee as Ieee
use Rattle.float64.specs.Number.{half, is_number}
use Rattle.float64.proofs.Tests.{both-true}
use Rattle.float64.proofs.Zeros.{Zero}
use Rattle.common.specs.Line.{all_zero}
use Rattle.common.proofs.Sweep.{control-in}
use Rattle.common.proofs.ZeroBlends.{mix-zero, fed-zero}
use Rattle.effect.specs.Effect.{EachWritten}
use Rattle.effect.specs.StaysSilent.{StaysSilent}
use Rattle.effect.proofs.SilentLaws.{SilentTick, keeps-nothing}
use Rattle.effect.proofs.StaysSilent.{stays-silent}
use Rattle.delay_line.specs.declared.DelayLine.{DelayLine}
use Rattle.delay_line.specs.Halves.{delayed_by}
use Rattle.delay_line.specs.DelayLine.{Tick, delay_line, reader, input, delay_samples, writes, samples}
use Rattle.delay_line.proofs.ReaderLaws.{fits-parts, heard-zero}
use Rattle.delay_line.proofs.Laws.{tick-fits, delay-number}
use Rattle.delay_line.proofs.Demand1.{laws}
use Rattle.delay_line.proofs.Counts.{own}

module _ (t : Tick) (s : DelayLine) (m : List Float) (u : SilentTick delay_line delay_line.quiet t s m) where
  heard : Zero (delayed_by (reader s) (delay_samples t s) m)
  heard =
      let f = fits-parts (reader s) u.state_fits in
      heard-zero (reader s) m f (delay_samples t s) (delay-number t s f (tick-fits t s.linear_time u.number)) u.enough u.zeros

  answers : all_zero (samples t s m) ≡ true
  unfolding samples all_zero is_number Ieee.fits Ieee.is_nan Ieee.round
  answers = both-true (mix-zero (input t) _ u.audio heard (control-in t.mix half (tick-fits t s.linear_time u.number).mix refl)) refl

  written : EachWritten Zero (writes t s m)
  unfolding writes le Ieee.fits Ieee.round
  written = (fed-zero (input t) _ t.feedback _ _ u.audio heard (tick-fits t s.linear_time u.number).feedback tt tt, tt)

pub shown : StaysSilent delay_line
shown = stays-silent delay_line laws own (keeps-nothing delay_line (λ s. refl) answers written)

-- A silent vibrato stays silent: a read of zeros is a zero, and so is a blend of zeros. Assumes nothing.
use Rattle.std.proofs.Common.{◌≡◌, true, List, refl, arith}
use lib.Ieee.{Float, of_int}
use lib.Ieee as Ieee
use Rattle.float64.specs.Number.{float_of, half, is_number}
use Rattle.float64.proofs.Tests.{both-true}
use Rattle.common.specs.Line.{all_zero}
use Rattle.common.proofs.Sweep.{control-in}
use Rattle.common.proofs.ZeroBlends.{mix-zero}
use Rattle.effect.specs.StaysSilent.{StaysSilent}
use Rattle.effect.proofs.Parts.{first-read}
use Rattle.effect.proofs.SilentLaws.{SilentTick, keeps-nothing}
use Rattle.effect.proofs.StaysSilent.{stays-silent}
use Rattle.vibrato.specs.declared.Vibrato.{Vibrato}
use Rattle.vibrato.specs.Vibrato.{Tick, vibrato, line_length, input, depth, distance, delayed, writes, samples}
use Rattle.vibrato.proofs.Laws.{fits-parts, length-fits, tick-fits, distance-in}
use Rattle.vibrato.proofs.Demand1.{laws}
use Rattle.vibrato.proofs.Counts.{own}

answers : (t : Tick) (s : Vibrato) (m : List Float) → SilentTick vibrato vibrato.quiet t s m → all_zero (samples t s m) ≡ true
unfolding samples delayed all_zero is_number Ieee.fits Ieee.is_nan of_int Ieee.round
answers t s m u =
    let rate = s.sample_rate in
    let L = line_length rate in
    let f = fits-parts s u.state_fits in
    let k = tick-fits t u.number in
    let long = length-fits rate f.rate in
    let far = distance-in rate (depth t) t.sine f.rate (control-in t.depth half k.depth refl) k.sine in
    let read = first-read L 0 L s.write_pos m (distance rate (depth t) t.sine) u.enough u.zeros (omega arith) f.inside (omega (arith, long.1)) far in
    both-true (mix-zero (input t) (delayed t s m) u.audio read (control-in t.mix (float_of 1) k.mix refl)) refl

pub shown : StaysSilent vibrato
unfolding writes
shown = stays-silent vibrato laws own (keeps-nothing vibrato (λ s. refl) answers (λ t s m u. (u.audio, tt)))

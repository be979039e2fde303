-- `Lent::tick`: causes 5 and 6 by the values taken from the ports or their defaults; where none applies, the tick with all its ports set.
-- Assumes nothing.
use Rattle.std.proofs.Common.{[], refl, arith}
use lib.Ieee.{of_bits, of_int, round}
use lib.Ieee as Ieee
use Rattle.float64.specs.Number.{is_number}
use Rattle.port.specs.Answer.{number}
use Rattle.port.proofs.Laws.{number-some}
use Rattle.effect.specs.Run.{tick}
use Rattle.effect.proofs.Contract.{accepts, refuses}
use Rattle.phaser.specs.Phaser.{phaser, tick_of, lent_state, state_fits, tick_number, next, chain_after, samples}
use Rattle.phaser.proofs.Lent.tick.Goals as goal

pub returns-in-Err-clause-does : goal.returns-in-Err-clause-does
unfolding state_fits tick_number is_number Ieee.fits Ieee.is_nan of_bits of_int round
returns-in-Err-clause-does c =
    let a = c.args in
    let t = tick_of a.audio a.feedback a.mix a.stages a.frequency a.coef_l a.coef_r in
    refuses phaser (tick t) (lent_state a.self.now) [] (number c.in-Err.cause) (grind (arith, c.in-Err.ensures)) (number-some c.in-Err.cause)

pub returns-clause-does : goal.returns-clause-does
unfolding state_fits tick_number is_number Ieee.fits Ieee.is_nan of_bits of_int round next chain_after samples
returns-clause-does c =
    let a = c.args in
    let t = tick_of a.audio a.feedback a.mix a.stages a.frequency a.coef_l a.coef_r in
    let done = c.advance.ensures.advances in
    accepts phaser (tick t) (lent_state a.self.now) [] (grind (arith, c.in_default-causes.ensures)) (grind (arith, done.state)) refl (grind (arith, done.answer))

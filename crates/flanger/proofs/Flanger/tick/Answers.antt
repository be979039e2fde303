-- `Flanger::tick`: causes 4 and 3, then the ports or their defaults, causes 5 and 6, then the tick with all its ports set. Assumes nothing.
use Rattle.std.proofs.Common.{◌≡◌, ◌∙◌, arith}
use lib.Ieee.{of_bits, round}
use Rattle.float64.specs.Number.{plus_zero, half}
use Rattle.port.specs.Port.{value_or}
use Rattle.port.specs.Answer.{number}
use Rattle.effect.proofs.Rows.{row_refuses}
use Rattle.flanger.specs.Flanger.{flanger, tick_of, tick_number}
use Rattle.flanger.proofs.Laws.{filled, filled_number, filled_does, lines-do}
use Rattle.flanger.proofs.Flanger.tick.Goals as goal

pub returns-in-Err-causes : goal.returns-in-Err-causes
unfolding tick_number of_bits round
returns-in-Err-causes c =
    let a = c.args in
    let t = tick_of a.audio a.depth a.feedback a.mix a.frequency a.sine0 a.sine1 in
    let amount : c.match-depth.depth ≡ value_or a.depth half = grind arith in
    let back : c.match-feedback.feedback ≡ value_or a.feedback plus_zero = grind arith in
    let wet : c.match-mix.mix ≡ value_or a.mix half = grind arith in
    let cause = c.in-Err-causes.cause in
    let e : number cause ≡ tick_number (filled t) = cc c.in-Err-causes.ensures in
    let told = c.refused-in-Err-causes.ensures in
    row_refuses flanger t a.self a.mem.now cause _ c.in-Ok.ensures.number (e ∙ filled_number t) told.state told.answer

pub returns : goal.returns
unfolding tick_number of_bits round
returns c =
    let a = c.args in
    let t = tick_of a.audio a.depth a.feedback a.mix a.frequency a.sine0 a.sine1 in
    let audio : c.match-audio.audio ≡ value_or a.audio plus_zero = grind arith in
    let amount : c.match-depth.depth ≡ value_or a.depth half = grind arith in
    let back : c.match-feedback.feedback ≡ value_or a.feedback plus_zero = grind arith in
    let wet : c.match-mix.mix ≡ value_or a.mix half = grind arith in
    let none : 0 ≡ tick_number (filled t) = cc c.in_default-causes.ensures in
    filled_does t c.in-Ok.ensures.number none
    (lines-do (filled t) a.self a.mem.now c.in-Ok.ensures.needed c.in-Ok.ensures.number none (rw (audio, amount, back, wet) at c.advance.ensures))

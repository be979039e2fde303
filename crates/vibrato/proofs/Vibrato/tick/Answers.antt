-- `Vibrato::tick`: causes 5 and 6 by the values taken from the ports; where none applies, it is the tick with these values set. Assumes nothing.
use Rattle.std.proofs.Common.{rules, ◌≡◌, refl, ◌∙◌}
use lib.Ieee.{of_bits, of_int, round}
use Rattle.float64.specs.Number.{plus_zero, float_of, half}
use Rattle.port.specs.Port.{value_or}
use Rattle.port.specs.Answer.{number}
use Rattle.effect.proofs.Rows.{row_refuses}
use Rattle.vibrato.specs.Vibrato.{vibrato, tick_of, tick_number}
use Rattle.vibrato.proofs.Laws.{all_set, set_number, set_does, line-does}
use Rattle.vibrato.proofs.Vibrato.tick.Goals as goal

pub returns-in-Err-causes : goal.returns-in-Err-causes
unfolding tick_number of_bits of_int round
returns-in-Err-causes c =
    let a = c.args in
    let t = tick_of a.audio a.depth a.mix a.frequency a.sine in
    let depth : c.match-depth.depth ≡ value_or a.depth half = search rules in
    let mix : c.match-mix.mix ≡ value_or a.mix (float_of 1) = search rules in
    let cause = c.in-Err-causes.cause in
    let e : number cause ≡ tick_number (all_set t refl depth mix) = cc c.in-Err-causes.ensures in
    let told = c.refused-in-Err-causes.ensures in
    row_refuses vibrato t a.self a.mem.now cause _ c.in-Ok.ensures.number (e ∙ set_number t refl depth mix) told.state told.answer

pub returns : goal.returns
unfolding tick_number of_bits of_int round
returns c =
    let a = c.args in
    let t = tick_of a.audio a.depth a.mix a.frequency a.sine in
    let audio : c.match-audio.audio ≡ value_or a.audio plus_zero = search rules in
    let depth : c.match-depth.depth ≡ value_or a.depth half = search rules in
    let mix : c.match-mix.mix ≡ value_or a.mix (float_of 1) = search rules in
    let none : 0 ≡ tick_number (all_set t audio depth mix) = cc c.in_default-causes.ensures in
    set_does t audio depth mix c.in-Ok.ensures.number none
    (line-does (all_set t audio depth mix) a.self a.mem.now c.in-Ok.ensures.needed c.in-Ok.ensures.number none c.advance.ensures)

-- `Tremolo::tick`: causes 5 and 6 by the values taken from the ports; where none applies, the page's sample and state. Assumes nothing.
use Rattle.std.proofs.Common.{rules, ◌≡◌, List, [], sym, ap, ◌∙◌, refl}
use lib.Ieee.{Float, of_bits, of_int, round}
use Rattle.float64.specs.Number.{plus_zero, half}
use Rattle.port.specs.Port.{value_or}
use Rattle.port.specs.Answer.{played}
use Rattle.effect.specs.Run.{tick}
use Rattle.effect.proofs.Contract.{accepts}
use Rattle.effect.proofs.Rows.{row_refuses, tick_row}
use Rattle.tremolo.specs.Tremolo.{tremolo, tick_of, next}
use Rattle.tremolo.proofs.Laws.{number-is, samples-are}
use Rattle.tremolo.proofs.Tremolo.tick.Goals as goal

pub returns-in-Err-causes : goal.returns-in-Err-causes
unfolding of_bits round
returns-in-Err-causes c =
    let a = c.args in
    let t = tick_of a.audio a.depth a.shape a.frequency a.sine in
    let cause = c.in-Err-causes.cause in
    let amount : c.match-depth.amount ≡ value_or a.depth half = search rules in
    let blend : c.match-shape.blend ≡ value_or a.shape plus_zero = search rules in
    let causes = number-is t amount blend c.is_nan.ensures c.is_nan-2.ensures c.frequency_fits.ensures c.sine_fits.ensures in
    let told = c.refused-in-Err-causes.ensures in
    row_refuses tremolo t a.self [] cause _ c.in_default.ensures.number (c.in-Err-causes.ensures ∙ causes) told.state told.answer

pub returns : goal.returns
unfolding next of_bits of_int round
returns c =
    let a = c.args in
    let t = tick_of a.audio a.depth a.shape a.frequency a.sine in
    let input : c.match-audio.input ≡ value_or a.audio plus_zero = search rules in
    let amount : c.match-depth.amount ≡ value_or a.depth half = search rules in
    let blend : c.match-shape.blend ≡ value_or a.shape plus_zero = search rules in
    let causes = number-is t amount blend c.is_nan.ensures c.is_nan-2.ensures c.frequency_fits.ensures c.sine_fits.ensures in
    accepts tremolo (tick t) a.self []
    (sym (tick_row tremolo t a.self [] c.in_default.ensures.number (c.in_default-causes.ensures ∙ causes)))
    (rw c.advance_phase-next.ensures)
    refl
    (ap (λ (l : List Float). played l 0) (samples-are t a.self input amount blend c.clamp.ensures c.lfo-lfo.ensures c.clamp-2.ensures c.modulated-y.ensures))

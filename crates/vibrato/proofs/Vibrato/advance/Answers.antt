-- `Vibrato::advance`: in an accepted tick the distance lies on the line, and what the tick leaves and answers is the page's. Assumes nothing.
use Rattle.std.proofs.Common.{refl, ◌∙◌}
use lib.Ieee.{of_bits, of_int, round}
use Rattle.port.specs.declared.Port.TheVariants.{Set}
use Rattle.effect.specs.Run.{tick}
use Rattle.effect.proofs.Contract.{accepts}
use Rattle.vibrato.specs.Vibrato.{vibrato, tick_of}
use Rattle.vibrato.proofs.Laws.{distance-is, line-delayed, age-is, next-is, stored_is, played-is}
use Rattle.vibrato.proofs.Vibrato.advance.Goals as goal

pub returns : goal.returns
unfolding of_bits of_int round
returns c =
    let a = c.args in
    let m = a.places.now in
    let t = tick_of (Set a.audio) (Set a.depth) (Set a.mix) a.frequency a.sine in
    let e = c.requires.places_value in
    let at = distance-is t a.self m e c.clamp-amount.ensures c.distance.ensures in
    let heard = c.read-delayed.ensures in
    accepts vibrato (tick t) a.self m c.requires.tick_accepted
    (next-is t a.self m e refl c.next_place-write_pos.ensures c.store-nonzero_places.ensures.count c.advance_phase-phase.ensures)
    (c.store-nonzero_places.ensures.stored ∙ stored_is t a.self m refl)
    (played-is t a.self m refl (line-delayed t a.self m e at heard.sample) c.clamp-wet.ensures c.blend.ensures (age-is t a.self m e at heard.age))

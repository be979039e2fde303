-- `Flanger::advance`: each line is read, at a distance that lies in it, in the part of the memory that is its own, and then gets the audio and its own read
-- times the feedback. Assumes nothing.
use Rattle.std.proofs.Common.{◌-◌, ◌/◌, length, refl, ◌∙◌, arith}
use lib.Ieee.{neg, of_bits, of_int, round}
use Rattle.port.specs.declared.Port.TheVariants.{Set}
use Rattle.effect.specs.Run.{tick}
use Rattle.effect.proofs.Contract.{accepts}
use Rattle.flanger.specs.Flanger.{flanger, tick_of}
use Rattle.flanger.proofs.Laws.{ready, distance-is, tap-is, age-is, fed-is, next-is, stored_is, played-is}
use Rattle.flanger.proofs.Flanger.advance.Goals as goal

pub returns : goal.returns
unfolding of_bits of_int round neg
returns c =
    let a = c.args in
    let m = a.lines.now in
    let t = tick_of (Set a.audio) (Set a.depth) (Set a.feedback) (Set a.mix) a.frequency a.sine0 a.sine1 in
    let r = ready c.requires.lines_value c.requires.tick_accepted in
    let n = length m / 2 in
    let x = c.sanitize_audio-input.ensures in
    let at0 = distance-is t a.self m r.long 0 n 0 a.sine0 refl (omega (arith, r.room)) c.clamp-amount.ensures c.distance.ensures in
    let at1 = distance-is t a.self m r.long 1 (length m - n) n a.sine1 (omega (arith, r.long, c.requires.lines_value)) (omega (arith, r.room)) c.clamp-amount.ensures c.distance-2.ensures in
    let d0 = tap-is t a.self m r.long 0 n 0 a.sine0 refl (omega (arith, r.room)) r.inside (omega arith) at0 c.read-d0.ensures.sample in
    let d1 = tap-is t a.self m r.long 1 (length m - n) n a.sine1 (omega (arith, r.long, c.requires.lines_value)) (omega (arith, r.room)) r.inside (omega arith) at1 c.read-d1.ensures.sample in
    let x0 = fed-is t a.self m x d0 c.clamp-back.ensures in
    let x1 = fed-is t a.self m x d1 c.clamp-back.ensures in
    let age = age-is t a.self m at0 at1 c.read-d0.ensures.age c.read-d1.ensures.age c.max.ensures in
    accepts flanger (tick t) a.self m c.requires.tick_accepted
    (next-is t a.self m r.long x0 x1 r c.next_place-write_pos.ensures c.store-nonzero_places.ensures.count c.advance_phase-phase.ensures)
    (c.store-nonzero_places.ensures.stored ∙ stored_is t a.self m r.long x0 x1)
    (played-is t a.self m x d0 d1 c.clamp-wet.ensures c.blend-left.ensures c.blend-right.ensures age)

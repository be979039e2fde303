-- `Chorus::advance`: in an accepted tick the depth is in range, and what the tick leaves and answers is the page's. Assumes nothing.
use Rattle.std.proofs.Common.{◌∙◌}
use Rattle.std.specs.Prelude.{max}
use lib.Ieee.{of_bits, of_int}
use Rattle.port.specs.declared.Port.TheVariants.{Set}
use Rattle.effect.specs.Run.{tick}
use Rattle.effect.proofs.Contract.{accepts}
use Rattle.chorus.specs.Chorus.{chorus, tick_of}
use Rattle.chorus.proofs.Laws.{line-voice, age-is, next-is, stored_is, played-is}
use Rattle.chorus.proofs.Chorus.advance.Goals as goal

pub returns : goal.returns
unfolding of_bits of_int
returns c =
    let a = c.args in
    let m = a.places.now in
    let t = tick_of (Set a.audio) (Set a.depth) (Set a.mix) a.frequency a.sines in
    let e = c.requires.places_value in
    let x = c.sanitize_audio-input.ensures in
    let d0 = line-voice t a.self m e t.sine0 c.clamp-depth.ensures c.voice-d0.ensures.sample in
    let d1 = line-voice t a.self m e t.sine1 c.clamp-depth.ensures c.voice-d1.ensures.sample in
    let d2 = line-voice t a.self m e t.sine2 c.clamp-depth.ensures c.voice-d2.ensures.sample in
    let a0 = age-is t a.self m e t.sine0 c.clamp-depth.ensures c.voice-d0.ensures.age in
    let a1 = age-is t a.self m e t.sine1 c.clamp-depth.ensures c.voice-d1.ensures.age in
    let a2 = age-is t a.self m e t.sine2 c.clamp-depth.ensures c.voice-d2.ensures.age in
    let later = c.max.ensures ∙ (λ i. max (a1 i) (a2 i)) in
    accepts chorus (tick t) a.self m c.requires.tick_accepted
    (next-is t a.self m e x c.next_place-write_pos.ensures c.store-nonzero_places.ensures.count c.next_phases-lfo_phases.ensures)
    (c.store-nonzero_places.ensures.stored ∙ stored_is t a.self m x)
    (played-is t a.self m x c.clamp-mix.ensures d0 d1 d2 (c.max-2.ensures ∙ (λ i. max (a0 i) (later i))) (c.mixed.ensures _))

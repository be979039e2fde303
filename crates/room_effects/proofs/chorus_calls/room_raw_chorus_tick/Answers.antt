-- `room_raw_chorus_tick`, accepted: the ports are the mask's, and the rate, which is not written back, is the tick's too. Assumes nothing.
use Rattle.std.proofs.Common.{ap, ◌∙◌, [], ◌∷◌}
use Rattle.effect.specs.Run.{device_of}
use Rattle.chorus.specs.Chorus.{chorus, tick_of, state_of}
use Rattle.chorus.proofs.Demand1.{laws}
use Rattle.room_effects.proofs.Laws.{aged, not-refused}
use Rattle.room_effects.proofs.chorus_calls.room_raw_chorus_tick.Goals as goal

pub returns : goal.returns
returns c =
    let a = c.args in
    let left = c.put_chorus.new in
    aged chorus (λ t. chorus.settings) laws.next-settings 3 (device_of (state_of a.write_pos.now a.nonzero_places.now a.lfo_phases.now a.sample_rate) a.memory.now)
    (λ i. tick_of (c.port_at.ensures i) (c.port_at-2.ensures i) (c.port_at-3.ensures i) a.frequency (a.sine0 ∷ a.sine1 ∷ a.sine2 ∷ [])) c.tick-ticked.ensures
    (not-refused c.in_default.not-Refused c.tick-ticked.result.age)
    (λ kept. ap (state_of left.write_pos left.nonzero_places left.lfo_phases) kept ∙ c.put_chorus.ensures)
    (c.put_samples.ensures c.tick-ticked.result.age)
    c.tick-ticked.result.aged

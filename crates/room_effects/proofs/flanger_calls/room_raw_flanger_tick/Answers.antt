-- `room_raw_flanger_tick`, accepted: the ports are the mask's, and the rate, which is not written back, is the tick's too. Assumes nothing.
use Rattle.std.proofs.Common.{ap}
use Rattle.effect.specs.Run.{device_of}
use Rattle.flanger.specs.Flanger.{flanger, tick_of, state_of}
use Rattle.flanger.proofs.Demand1.{laws}
use Rattle.room_effects.proofs.Laws.{aged, not-refused}
use Rattle.room_effects.proofs.flanger_calls.room_raw_flanger_tick.Goals as goal

pub returns : goal.returns
returns c =
    let a = c.args in
    let next = c.tick-ticked.result.state in
    aged flanger (λ t. flanger.settings) laws.next-settings 3 (device_of (state_of a.write_pos.now a.nonzero_places.now a.lfo_phase.now a.sample_rate) a.memory.now)
    (λ i. tick_of (c.port_at.ensures i) (c.port_at-2.ensures i) (c.port_at-3.ensures i) (c.port_at-4.ensures i) a.frequency a.sine0 a.sine1) c.tick-ticked.ensures
    (not-refused c.in_default.not-Refused c.tick-ticked.result.age)
    (ap (state_of next.write_pos next.nonzero_places next.lfo_phase))
    (c.put_samples.ensures c.tick-ticked.result.age)
    c.tick-ticked.result.aged

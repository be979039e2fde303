-- `room_raw_tremolo_tick`, accepted: the ports are the mask's, and the rate, which is not written back, is the tick's too. Assumes nothing.
use Rattle.std.proofs.Common.{ap, [], ◌∷◌}
use Rattle.effect.specs.Run.{device_of}
use Rattle.tremolo.specs.Tremolo.{tremolo, tick_of, state_of}
use Rattle.tremolo.proofs.Demand1.{laws}
use Rattle.room_effects.proofs.Laws.{ticked, not-refused}
use Rattle.room_effects.proofs.tremolo_calls.room_raw_tremolo_tick.Goals as goal

pub returns : goal.returns
returns c =
    let a = c.args in
    ticked tremolo (λ t. tremolo.settings) laws.next-settings 1 (device_of (state_of a.lfo_phase.now a.sample_rate) [])
    (λ i. tick_of (c.port_at.ensures i) (c.port_at-2.ensures i) (c.port_at-3.ensures i) a.frequency a.sine) c.tick-ticked.ensures
    (not-refused c.in_default.not-Refused c.tick-ticked.result.age)
    (ap (state_of c.tick-ticked.result.state.lfo_phase))
    (λ i. c.first.ensures c.tick-ticked.result.age i ∷ [])

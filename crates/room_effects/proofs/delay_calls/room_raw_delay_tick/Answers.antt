-- `room_raw_delay_tick`, accepted: the ports are the mask's, and the settings, which are not written back, are the tick's too. Assumes nothing.
use Rattle.std.proofs.Common.{[], ◌∷◌}
use Rattle.effect.specs.Run.{device_of}
use Rattle.delay_line.specs.DelayLine.{delay_line, tick_of}
use Rattle.delay_line.proofs.Demand1.{laws}
use Rattle.room_effects.specs.States.{is_on, delay_of}
use Rattle.room_effects.proofs.Laws.{on-flag, written, aged, not-refused}
use Rattle.room_effects.proofs.delay_calls.room_raw_delay_tick.Goals as goal

pub returns : goal.returns
returns c =
    let a = c.args in
    let state = delay_of a.write_pos.now a.nonzero_places.now a.smoothed_delay.now a.sample_rate a.delay_smooth_coef a.max_delay_secs (is_on a.delay_primed.now) (is_on a.linear_time) in
    let next = c.tick-ticked.result.state in
    let primed = on-flag next.delay_primed c.from-2.ensures in (
      aged delay_line (λ t. delay_line.settings) laws.next-settings 1 (device_of state a.memory.now)
          (λ i. tick_of (c.port_at.ensures i) (c.port_at-2.ensures i) (c.port_at-3.ensures i) (c.port_at-4.ensures i) a.milliseconds)
          (rw c.delay_of-state.ensures at c.tick-ticked.ensures)
          (not-refused c.in_default.not-Refused c.tick-ticked.result.age)
          (λ kept i. delay_of next.write_pos next.nonzero_places next.smoothed_delay (kept i).rate (kept i).coefficient (kept i).maximum (primed i) (kept i).linear)
          (λ i. c.first.ensures c.tick-ticked.result.age i ∷ []) c.tick-ticked.result.aged,
      written next.delay_primed c.from-2.ensures,
    )

-- `room_raw_tape_delay_read_half`, accepted: the ports are the mask's, and the position, the count and the settings, which are not written back, are the half's too. Assumes nothing.
use Rattle.std.proofs.Common.{◌∙◌, [], ◌∷◌}
use Rattle.effect.specs.Run.{device_of}
use Rattle.tape_delay.specs.TapeDelay.{tape_delay, ports_of, read_half}
use Rattle.room_effects.specs.States.{is_on, tape_delay_of}
use Rattle.room_effects.proofs.Laws.{on-flag, written, aged, not-refused}
use Rattle.room_effects.proofs.TapeHalves.{left_as_is, stays}
use Rattle.room_effects.proofs.tape_delay_calls.room_raw_tape_delay_read_half.Goals as goal

pub returns : goal.returns
returns c =
    let a = c.args in
    let state = tape_delay_of a.write_pos a.nonzero_places a.smoothed_delay.now a.kept_audio.now a.kept_read.now a.kept_mix.now a.sample_rate a.delay_smooth_coef (is_on a.delay_primed.now) (is_on a.waiting.now) in
    let next = c.read_half-ticked.result.state in
    let primed = on-flag next.delay_primed c.from-2.ensures in
    let left = c.put_kept.new in (
      aged tape_delay left_as_is stays 1 (device_of state a.memory.now)
          (λ i. read_half (ports_of (c.port_at.ensures i) (c.port_at-2.ensures i) (c.port_at-3.ensures i) (c.port_at-4.ensures i)))
          (rw c.tape_delay_of-state.ensures at c.read_half-ticked.ensures)
          (not-refused c.in_default.not-Refused c.read_half-ticked.result.age)
          (λ kept. (λ i. tape_delay_of (kept i).write_pos (kept i).nonzero_places next.smoothed_delay left.kept_audio left.kept_read left.kept_mix (kept i).sample_rate (kept i).delay_smooth_coef (primed i) (is_on left.waiting)) ∙ c.put_kept.ensures.0)
          (λ i. c.first.ensures c.read_half-ticked.result.age i ∷ []) c.read_half-ticked.result.aged,
      written next.delay_primed c.from-2.ensures,
      c.put_kept.ensures.1,
    )

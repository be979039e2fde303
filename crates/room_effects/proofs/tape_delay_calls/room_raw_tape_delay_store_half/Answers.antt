-- `room_raw_tape_delay_store_half`, accepted: the glide and the settings, which are not written back, are the half's too. Assumes nothing.
use Rattle.std.proofs.Common.{refl, ◌∙◌, [], ◌∷◌}
use Rattle.effect.specs.Run.{device_of}
use Rattle.tape_delay.specs.TapeDelay.{tape_delay}
use Rattle.room_effects.specs.States.{is_on, tape_delay_of}
use Rattle.room_effects.proofs.Laws.{ticked, not-refused}
use Rattle.room_effects.proofs.TapeHalves.{left_as_is, stays}
use Rattle.room_effects.proofs.tape_delay_calls.room_raw_tape_delay_store_half.Goals as goal

pub returns : goal.returns
returns c =
    let a = c.args in
    let state = tape_delay_of a.write_pos.now a.nonzero_places.now a.smoothed_delay a.kept_audio.now a.kept_read.now a.kept_mix.now a.sample_rate a.delay_smooth_coef (is_on a.delay_primed) (is_on a.waiting.now) in
    let next = c.store_half-ticked.result.state in
    let left = c.put_kept.new in (
      ticked tape_delay left_as_is stays 1 (device_of state a.memory.now)
          refl
          (rw c.tape_delay_of-state.ensures at c.store_half-ticked.ensures)
          (not-refused c.in_default.not-Refused c.store_half-ticked.result.age)
          (λ kept. (λ i. tape_delay_of next.write_pos next.nonzero_places (kept i).smoothed_delay left.kept_audio left.kept_read left.kept_mix (kept i).sample_rate (kept i).delay_smooth_coef (kept i).delay_primed (is_on left.waiting)) ∙ c.put_kept.ensures.0)
          (λ i. c.first.ensures c.store_half-ticked.result.age i ∷ []),
      c.put_kept.ensures.1,
    )

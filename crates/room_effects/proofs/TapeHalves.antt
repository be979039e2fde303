-- What each half of the tape delay's tick leaves of the state, so that it is not written back. Assumes nothing.
use mathlib.Core.Path.{◌≡◌, refl}
use mathlib.Core.Bool.{false}
use mathlib.Core.List.{List}
use lib.Ieee.{Float}
use Rattle.float64.specs.Number.{plus_zero}
use Rattle.tape_delay.specs.declared.TapeDelay.{TapeDelay}
use Rattle.tape_delay.specs.TapeDelay.{Tick, read_half, store_half, settings, state_of, none_kept, next}

-- a read half the position and the count, a store half the glide, and both the settings: a state that has the rest as after a clearing
abbrev pub left_as_is : Tick → TapeDelay → TapeDelay
left_as_is (read_half p) s = state_of s.write_pos s.nonzero_places plus_zero false false none_kept (settings s)
left_as_is (store_half v) s = state_of 0 0 s.smoothed_delay s.delay_primed false none_kept (settings s)

pub stays : (t : Tick) (s : TapeDelay) (m : List Float) → left_as_is t (next t s m) ≡ left_as_is t s
unfolding next
stays (read_half p) s m = refl
stays (store_half v) s m = refl

-- States in lent numbers where these are not just the state's fields: those of delay and tape delay, and flags. The others' are `state_of` of each page.
-- Definitions only. Assumes nothing.
use Rattle.std.specs.Prelude.{ℕ, ◌≡◌, Bool, not, cond, eqb, Float}
use Rattle.effect.specs.Run.{if_none}
use Rattle.delay_line.specs.declared.DelayLine.{DelayLine}
use Rattle.delay_line.specs.DelayLine as delay
use Rattle.tape_delay.specs.declared.TapeDelay.{TapeDelay}
use Rattle.tape_delay.specs.TapeDelay as tape

-- ---- a flag in a lent number: 0 is off, any other is on, and 1 is written for it

abbrev pub is_on : ℕ → Bool
is_on n = not (eqb n 0)

-- the number is one that is written for a flag
abbrev pub FlagWritten : ℕ → Type 0
FlagWritten n = n ≡ cond (is_on n) 1 0

-- a call that returns r, and found n, leaves n': one that is written if the call is accepted, and n if it is refused
abbrev pub FlagLeft : ℕ → ℕ → ℕ → Type 0
FlagLeft r n n' = n' ≡ if_none r (cond (is_on n') 1 0) n

-- ---- delay and tape delay, whose settings are lent one by one, and of the tape what is kept

abbrev pub delay_of : ℕ → ℕ → Float → Float → Float → Float → Bool → Bool → DelayLine
delay_of pos count distance rate coefficient maximum primed linear = delay.state_of pos count distance primed (delay.handing rate coefficient maximum linear)

abbrev pub tape_delay_of : ℕ → ℕ → Float → Float → Float → Float → Float → Float → Bool → Bool → TapeDelay
tape_delay_of pos count distance audio read mix rate coefficient primed waiting =
    tape.state_of pos count distance primed waiting (record { audio = audio; read = read; mix = mix }) (tape.handing rate coefficient)

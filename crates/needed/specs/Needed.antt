-- How many places an effect needs, by its number: 1 delay, 2 chorus, 3 flanger, 4 vibrato, 5 tremolo, 6 reverb, 7 phaser, 8 tape delay. Only the
-- delay's count reads the maximum. Another number, and a rate that is refused, give 2 ^ 64 − 1. Definitions only. Assumes nothing.
use Rattle.std.specs.Prelude.{ℕ, false, cond, eqb, Float}
use Rattle.float64.specs.Number.{plus_zero}
use Rattle.effect.specs.Needed.{no_places, places_needed}
use Rattle.delay_line.specs.DelayLine.{delay_line, handing, start_settings}
use Rattle.chorus.specs.Chorus.{chorus}
use Rattle.flanger.specs.Flanger.{flanger}
use Rattle.vibrato.specs.Vibrato.{vibrato}
use Rattle.tremolo.specs.Tremolo.{tremolo}
use Rattle.reverb.specs.Reverb.{reverb}
use Rattle.phaser.specs.Phaser.{phaser}
use Rattle.tape_delay.specs.TapeDelay as tape

-- the delay's, with a coefficient and a mode that have no part in it
abbrev pub delay_needs : Float → Float → ℕ
delay_needs rate maximum = places_needed delay_line (start_settings (handing rate plus_zero maximum false))

-- the tape delay's, whose maximum is its own, with a coefficient that has no part in it
abbrev pub tape_needs : Float → ℕ
tape_needs rate = places_needed tape.tape_delay (tape.handing rate plus_zero)

unfoldable pub needed_by : ℕ → Float → Float → ℕ
needed_by effect rate maximum =
    cond (eqb effect 1) (delay_needs rate maximum)
    (cond (eqb effect 2) (places_needed chorus rate)
    (cond (eqb effect 3) (places_needed flanger rate)
    (cond (eqb effect 4) (places_needed vibrato rate)
    (cond (eqb effect 5) (places_needed tremolo rate)
    (cond (eqb effect 6) (places_needed reverb rate)
    (cond (eqb effect 7) (places_needed phaser rate)
    (cond (eqb effect 8) (tape_needs rate)
    no_places)))))))

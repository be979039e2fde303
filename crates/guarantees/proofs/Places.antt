-- What a controller is answered is what a start asks, effect by effect. Assumes nothing.
use Prim.Native.Nat.{ℕ, ◌≤◌}
use native.Mathlib.Omega.{arith}
use mathlib.Core.Path.{◌≡◌, refl, ◌∙◌}
use mathlib.Core.Bool.{Bool, true, false, cond}
use lib.Ieee.{Float, le, lt, of_int, mul, round, to_unsigned}
use lib.Ieee as Ieee
use borrow.Author.Tests.{ne_eqb}
use Rattle.std.proofs.Common.{Some, None}
use Rattle.std.specs.Prelude.{unwrap_or}
use Rattle.float64.specs.Number.{plus_zero, float_of, in_range, in_unit, rate_fits, coefficient_fits}
use Rattle.effect.specs.Run.{if_none, memory_number}
use Rattle.effect.specs.Needed.{no_places}
use Rattle.effect.proofs.Needed.{start-needs}
use Rattle.effect.proofs.Table.{none-1-2}
use Rattle.delay_line.specs.Halves.{line_length}
use Rattle.delay_line.specs.DelayLine.{delay_line, settings_number}
use Rattle.chorus.specs.Chorus.{chorus}
use Rattle.flanger.specs.Flanger.{flanger}
use Rattle.vibrato.specs.Vibrato.{vibrato}
use Rattle.tremolo.specs.Tremolo.{tremolo}
use Rattle.reverb.specs.Reverb.{reverb}
use Rattle.phaser.specs.Phaser.{phaser}
use Rattle.tape_delay.specs.TapeDelay.{tape_delay}
use Rattle.needed.specs.Needed.{needed_by}
use Rattle.guarantees.specs.PlacesNeeded.{PlacesNeeded}

-- the counts of delay and tape delay are worked out with coefficient +0: one is the same with every coefficient that is accepted
any-coefficient : (rate coefficient : Float) (L n : ℕ) → settings_number rate coefficient ≡ 0
    → memory_number (unwrap_or (if_none (settings_number rate coefficient) (Some L) None) no_places) n ≡ memory_number (unwrap_or (if_none (settings_number rate plus_zero) (Some L) None) no_places) n
unfolding settings_number in_unit le lt of_int Ieee.fits
any-coefficient rate coefficient L n e = let r = none-1-2 (rate_fits rate) (coefficient_fits coefficient) e in rw (r.0, r.1)

either_way : {A : Type 0} (b : Bool) (x : A) → cond b x x ≡ x
either_way true x = refl
either_way false x = refl

-- whichever number it is, the answer is the one for a refused rate
refused-is : (effect : ℕ) (rate maximum : Float) → rate_fits rate ≡ false → needed_by effect rate maximum ≡ no_places
unfolding needed_by settings_number
refused-is effect rate maximum h = rw h (simp either_way)

-- a number that is none of the eight
other-is : (effect : ℕ) (rate maximum : Float) → 9 ≤ effect → needed_by effect rate maximum ≡ no_places
unfolding needed_by
other-is effect rate maximum h =
    rw (ne_eqb effect 1 (omega arith), ne_eqb effect 2 (omega arith), ne_eqb effect 3 (omega arith), ne_eqb effect 4 (omega arith), ne_eqb effect 5 (omega arith), ne_eqb effect 6 (omega arith), ne_eqb effect 7 (omega arith), ne_eqb effect 8 (omega arith))

-- the tape delay's whole part of rate × 12, plus 1, at three rates
tape_counts : (maximum : Float)
    → (needed_by 8 (float_of 8000) maximum ≡ 96001)
    × ((needed_by 8 (float_of 44100) maximum ≡ 529201) × (needed_by 8 (float_of 192000) maximum ≡ 2304001))
unfolding needed_by settings_number line_length in_range in_unit mul le lt of_int round to_unsigned Ieee.fits
tape_counts maximum = (refl, (refl, refl))

pub places-needed : PlacesNeeded
unfolding needed_by
places-needed =
    record {
      delay = record { accepted = λ x n e. start-needs delay_line x n e ∙ any-coefficient x.rate x.coefficient (delay_line.places (delay_line.start_settings x)) n e };
      choruses = λ maximum. record { accepted = start-needs chorus };
      flangers = λ maximum. record { accepted = start-needs flanger };
      vibratos = λ maximum. record { accepted = start-needs vibrato };
      tremolos = λ maximum. record { accepted = start-needs tremolo };
      reverbs = λ maximum. record { accepted = start-needs reverb };
      phasers = λ maximum. record { accepted = start-needs phaser };
      tapes = λ maximum. record { accepted = λ x n e. start-needs tape_delay x n e ∙ any-coefficient x.rate x.coefficient (tape_delay.places x) n e };
      no-tremolo-places = λ rate maximum h. rw h;
      no-phaser-places = λ rate maximum h. rw h;
      tank-places = λ rate maximum h. rw h;
      tape_counts = tape_counts;
      refused-rate = refused-is;
      number-0 = λ rate maximum. refl;
      numbers-from-9 = other-is;
    }

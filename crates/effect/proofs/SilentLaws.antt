-- What an effect shows, once, so that a silent unit of it stays silent, or a calm one calm: `calm` is the condition on the state that stays, of most effects
-- their `quiet`. Assumes nothing.
use Rattle.std.proofs.Common.{◌≡◌, ◌≤◌, Bool, true, List, length}
use lib.Ieee.{Float}
use Rattle.float64.specs.Number.{is_zero}
use Rattle.float64.proofs.Zeros.{Zero}
use Rattle.common.specs.Line.{all_zero}
use Rattle.effect.specs.Parts.{held_in}
use Rattle.effect.specs.Effect.{Effect, EachWritten}

-- an accepted tick with zero audio, of a calm unit, by its parts
pub record SilentTick (E : Effect) (calm : E.State → Bool) (t : E.Tick) (s : E.State) (m : List Float) : Type 0 where
  pub state_fits : E.state_fits s ≡ true
  pub turn : E.turn_number t s ≡ 0
  pub enough : E.places (E.settings s) ≤ length m
  pub number : E.tick_number t (E.settings s) ≡ 0
  pub audio : is_zero (E.input t) ≡ true
  pub state_calm : calm s ≡ true
  pub zeros : all_zero (held_in (E.parts (E.settings s)) m) ≡ true

pub record SilentLaws (E : Effect) (calm : E.State → Bool) : Type 0 where
  -- a clearing leaves a calm state
  pub fresh-calm : (k : E.Settings) → calm (E.fresh k) ≡ true
  pub retuned-calm : (k : E.Settings) (s : E.State) → calm (E.retuned k s) ≡ true
  -- such a tick answers zeros, writes zeros and leaves a calm state
  pub answers : (t : E.Tick) (s : E.State) (m : List Float) → SilentTick E calm t s m → all_zero (E.samples t s m) ≡ true
  pub writes : (t : E.Tick) (s : E.State) (m : List Float) → SilentTick E calm t s m → EachWritten Zero (E.writes t s m)
  pub next-calm : (t : E.Tick) (s : E.State) (m : List Float) → SilentTick E calm t s m → calm (E.next t s m) ≡ true

-- those of an effect whose state keeps nothing of the sound, from what its ticks answer and write
pub keeps-nothing : (E : Effect) → ((s : E.State) → E.quiet s ≡ true)
    → ((t : E.Tick) (s : E.State) (m : List Float) → SilentTick E E.quiet t s m → all_zero (E.samples t s m) ≡ true)
    → ((t : E.Tick) (s : E.State) (m : List Float) → SilentTick E E.quiet t s m → EachWritten Zero (E.writes t s m))
    → SilentLaws E E.quiet
keeps-nothing E nothing answers writes =
    record {
      fresh-calm = λ k. nothing (E.fresh k);
      retuned-calm = λ k s. nothing (E.retuned k s);
      answers = answers;
      writes = writes;
      next-calm = λ t s m u. nothing (E.next t s m);
    }

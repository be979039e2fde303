-- What every accepted tick among some calls meets. Definitions only. Assumes nothing.
use Rattle.std.specs.Prelude.{◌≡◌, List, [], ◌∷◌}
use Rattle.effect.specs.Effect.{Effect}
use Rattle.effect.specs.Run.{tick, retune, reset, ask, CallOf, Device, number_at, step}

module _ (E : Effect) where
  -- a tick meets the condition C; of another call nothing is asked
  abbrev pub Meets : (E.Tick → Type 0) → CallOf E → Type 0
  Meets C (tick t) = C t
  Meets C (retune r) = Unit {0}
  Meets C reset = Unit {0}
  Meets C ask = Unit {0}

  -- Every accepted tick among the calls, from the unit h on, meets C. Retunes, resets, questions and refused calls may stand anywhere.
  abbrev pub EachTick : (E.Tick → Type 0) → List (CallOf E) → Device E.State → Type 0
  EachTick C [] h = Unit {0}
  EachTick C (c ∷ cs) h = (number_at E c h ≡ 0 → Meets C c) × EachTick C cs (step E c h)

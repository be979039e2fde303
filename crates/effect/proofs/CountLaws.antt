-- What an effect shows of its count, once, so that the theorems on counts hold of it. Assumes nothing.
use Prim.Native.Nat.{◌≤◌}
use mathlib.Core.Path.{◌≡◌}
use mathlib.Core.Bool.{true}
use mathlib.Core.List.{List}
use lib.Ieee.{Float}
use Rattle.effect.specs.Effect.{Effect, recount, used_places}
use Rattle.effect.specs.Counts.{Distinct}

pub record CountLaws (E : Effect) : Type 0 where
  -- a clearing leaves 0
  pub fresh-count : (k : E.Settings) → E.count (E.fresh k) ≡ 0
  pub retuned-count : (k : E.Settings) (s : E.State) → E.count (E.retuned k s) ≡ 0
  -- a tick recounts, and writes no place twice
  pub next-count : (t : E.Tick) (s : E.State) (m : List Float) → E.state_fits s ≡ true
      → E.count (E.next t s m) ≡ recount (E.parts (E.settings s)) (E.writes t s m) m (E.count s)
  pub distinct : (t : E.Tick) (s : E.State) (m : List Float) → E.state_fits s ≡ true → Distinct (E.writes t s m)
  -- the state test holds the count to the places in use
  pub most : (s : E.State) → E.state_fits s ≡ true → E.count s ≤ used_places E (E.settings s)

-- What an effect shows, once, so that the theorems on its calls and runs hold of it. Assumes nothing.
use Prim.Native.Nat.{ℕ, ◌≤◌, ◌<◌}
use mathlib.Core.Path.{◌≡◌}
use mathlib.Core.Bool.{true, false}
use mathlib.Core.List.{List}
use lib.ListN.{length}
use lib.Ieee.{Float}
use Rattle.effect.specs.Parts.{InOrder}
use Rattle.effect.specs.Effect.{Effect, Write, EachWrite, InUse}

-- all the places that are written are in P
abbrev pub Within : (ℕ → Type 0) → List Write → Type 0
Within P ws = EachWrite (λ w. P w.place) ws

-- they lie below n
abbrev pub Below : ℕ → List Write → Type 0
Below n ws = Within (λ p. p < n) ws

-- all ticks come in turn: cause 7 never applies
abbrev pub InTurn : Effect → Type 0
InTurn E = (t : E.Tick) (s : E.State) → E.turn_number t s ≡ 0

pub record Laws (E : Effect) : Type 0 where
  -- the blank state is refused
  pub blank-refused : E.state_fits E.blank ≡ false
  -- a clearing leaves its settings in force, and a tick those that are
  pub fresh-settings : (k : E.Settings) → E.settings (E.fresh k) ≡ k
  pub retuned-settings : (k : E.Settings) (s : E.State) → E.settings (E.retuned k s) ≡ k
  pub next-settings : (t : E.Tick) (s : E.State) (m : List Float) → E.settings (E.next t s m) ≡ E.settings s
  -- every state that an accepted call returns passes the state test
  pub start_fits : (x : E.Start) → E.settings_number (E.start_settings x) ≡ 0 → E.state_fits (E.fresh (E.start_settings x)) ≡ true
  pub reset-fits : (s : E.State) → E.state_fits s ≡ true → E.state_fits (E.fresh (E.settings s)) ≡ true
  pub retuned-fits : (r : E.Retune) (s : E.State) → E.settings_number (E.retune_settings r (E.settings s)) ≡ 0 → E.state_fits s ≡ true
      → E.state_fits (E.retuned (E.retune_settings r (E.settings s)) s) ≡ true
  pub next_fits : (t : E.Tick) (s : E.State) (m : List Float) → E.state_fits s ≡ true → E.places (E.settings s) ≤ length m
      → E.tick_number t (E.settings s) ≡ 0
      → E.state_fits (E.next t s m) ≡ true
  -- the places in use follow each other among those needed
  pub in_order : (k : E.Settings) → InOrder 0 (E.places k) (E.parts k)
  -- a tick writes only places in use
  pub inside : (t : E.Tick) (s : E.State) (m : List Float) → E.state_fits s ≡ true → Within (InUse E (E.settings s)) (E.writes t s m)

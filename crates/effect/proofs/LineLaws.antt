-- What an effect with lines shows beside its `Laws`, once, so that demand 3 (docs/DEMANDS.md) holds of it. Assumes nothing.
use Prim.Native.Nat.{ℕ, ◌*◌, ◌≤◌, ◌<◌}
use mathlib.Core.Path.{◌≡◌}
use mathlib.Core.Bool.{true}
use mathlib.Core.List.{List}
use lib.ListN.{length}
use lib.Ieee.{Float}
use Rattle.common.specs.Line.{next_place}
use Rattle.common.specs.Reads.{largest_age}
use Rattle.effect.specs.Effect.{Effect}
use Rattle.effect.specs.Lines.{Lines, in_each, line_of}
use Rattle.effect.proofs.Laws.{InTurn}

pub record LineLaws (E : Effect) (I : Lines E) : Type 0 where
  pub in_turn : InTurn E
  -- the lines are the places in use
  pub some : 0 < I.count
  pub fills : (k : E.Settings) → E.places k ≡ I.count * I.line_length k
  -- a tick stores its sample at the position, which lies in the line, and moves that on
  pub inside : (s : E.State) → E.state_fits s ≡ true → I.position s < I.line_length (E.settings s)
  pub stores : (t : E.Tick) (s : E.State) (m : List Float) → E.writes t s m ≡ in_each I.count 0 (I.line_length (E.settings s)) (I.position s) (I.sample t)
  pub next-position : (t : E.Tick) (s : E.State) (m : List Float) → I.position (E.next t s m) ≡ next_place (I.line_length (E.settings s)) (I.position s)
  -- how it moves the phases
  pub advanced : E.Tick → E.Settings → I.Phase → I.Phase
  pub next-phase : (t : E.Tick) (s : E.State) (m : List Float) → I.phase (E.next t s m) ≡ advanced t (E.settings s) (I.phase s)
  -- what it answers where each line, read newest to largest_age, is l
  pub played : E.Tick → E.Settings → I.Phase → List Float → List Float
  pub plays : (t : E.Tick) (s : E.State) (m l : List Float) → E.state_fits s ≡ true → E.places (E.settings s) ≤ length m → E.tick_number t (E.settings s) ≡ 0
      → ((i : ℕ) → i < I.count → line_of E I i (record { state = s; memory = m }) ≡ l)
      → E.samples t s m ≡ played t (E.settings s) (I.phase s) l
  -- and how far back it hears
  pub age : E.Tick → E.Settings → ℕ
  pub ages : (t : E.Tick) (s : E.State) → largest_age (E.reads t s) ≡ age t (E.settings s)

-- The table's row of a tick has the causes 4 and 3 of a reset and of the question, and beside them 7, 5 and 6; and an accepted tick of the places needed alone is one
-- of the whole memory. A turn's number of 0, as of an effect all of whose ticks come in turn, computes away in `first`. Assumes nothing.
use Prim.Native.Nat.{ℕ, ◌≤◌}
use native.Mathlib.Omega.{arith}
use mathlib.Core.Path.{◌≡◌, refl, sym, ap, ◌∙◌}
use mathlib.Core.List.{List, ◌++◌}
use lib.ListN.{length, take, drop}
use lib.Ieee.{Float}
use Rattle.port.specs.Answer.{Reply, number, answer_reply, played}
use Rattle.port.specs.declared.Answer.{Answer}
use Rattle.port.specs.declared.Answer.TheVariants.{Refused}
use Rattle.port.specs.declared.Refusal.{Refusal}
use Rattle.port.proofs.Laws.{number-some}
use Rattle.common.specs.Reads.{largest_age}
use Rattle.common.proofs.Slices.{part_length}
use Rattle.effect.specs.Effect.{Effect, laid}
use Rattle.effect.specs.Run.{tick, reset, first, number_in}
use Rattle.effect.specs.Contract.{Does}
use Rattle.effect.proofs.Table.{Accepted, accepted, enough, memory-enough}
use Rattle.effect.proofs.Contract.{refuses, accepts, tick-number}

-- past causes 4 and 3 a tick's number is that of causes 7, 5 and 6
pub tick_row : (E : Effect) (t : E.Tick) (s : E.State) (m : List Float) {k : ℕ} → 0 ≡ number_in E reset (length m) s
    → k ≡ first (E.turn_number t s) (E.tick_number t (E.settings s))
    → k ≡ number_in E (tick t) (length m) s
tick_row E t s m passed e =
    let unit = accepted E (length m) reset s (sym passed) in tick-number E (length m) s t unit.state_fits (sym unit.number) e

-- so that a tick with one of these causes is refused
pub row_refuses : (E : Effect) (t : E.Tick) (s : E.State) (m : List Float) (cause : Refusal) (age : ℕ) {s' : E.State} {a : Answer} → 0 ≡ number_in E reset (length m) s
    → number cause ≡ first (E.turn_number t s) (E.tick_number t (E.settings s))
    → s' ≡ s
    → a ≡ Refused cause
    → Does E (tick t) s m s' m (answer_reply a age)
row_refuses E t s m cause age passed e p q = rw (p, q) (refuses E (tick t) s m (number cause) (tick_row E t s m passed e) (number-some cause))

-- ---- the first n places of a memory, which are the places needed, where state and memory pass causes 4 and 3

module _ (E : Effect) (s : E.State) (m : List Float) {n : ℕ} (e : n ≡ E.places (E.settings s)) (passed : 0 ≡ number_in E reset (length m) s) where
  abbrev pub unit : Accepted E (length m) reset s
  unit = accepted E (length m) reset s (sym passed)

  pub room : n ≤ length m
  room = omega (arith, e, enough (E.places (E.settings s)) (length m) unit.number)

  pub first-long : length (take n m) ≡ n
  first-long = part_length 0 n m n refl (omega (arith, room))

  -- they pass these causes too
  pub first-row : (t : E.Tick) {k : ℕ} → k ≡ first (E.turn_number t s) (E.tick_number t (E.settings s)) → k ≡ number_in E (tick t) (length (take n m)) s
  first-row t g = tick-number E (length (take n m)) s t unit.state_fits (memory-enough (omega (arith, e, first-long))) g

  -- and what a tick does in them it does in the memory, where it reads and writes nothing beyond them
  pub first-does : (t : E.Tick) {s' : E.State} {l : List Float} {a : Reply} → 0 ≡ first (E.turn_number t s) (E.tick_number t (E.settings s)) → Does E (tick t) s (take n m) s' l a
      → E.next t s (take n m) ≡ E.next t s m
      → laid (E.writes t s (take n m)) (take n m) ++ drop n m ≡ laid (E.writes t s m) m
      → E.samples t s (take n m) ≡ E.samples t s m
      → Does E (tick t) s m s' (l ++ drop n m) a
  first-does t g does state memory samples =
      let k = sym (first-row t g) in
      accepts E (tick t) s m (sym (tick_row E t s m passed g))
      ((rw k at does.state) ∙ state)
      (ap (λ (q : List Float). q ++ drop n m) (rw k at does.memory) ∙ memory)
      ((rw k at does.answer) ∙ (λ i. played (samples i) (largest_age (E.reads t s))))

pub ruleset first_places = (first-long, first-row)

-- The count that a state keeps of the places in use that are neither +0 nor −0: what each call leaves of it, that it is true on every run, and that the question then
-- answers the full reading. Definitions only. Assumes nothing.
use Rattle.std.specs.Prelude.{◌≤◌, ◌<◌, ◌≡◌, true, false, List, [], ◌∷◌, length, Float}
use Rattle.port.specs.Answer.{silent}
use Rattle.common.specs.Line.{nonzeros}
use Rattle.effect.specs.Parts.{held_in}
use Rattle.effect.specs.Effect.{Effect, Write, Unnamed, recount, used_places}
use Rattle.effect.specs.Run.{tick, retune, reset, ask, CallOf, Device, device_of, number_at, start_number, counted_silent, is_silent, start, step, reply, Run, final}

-- the count in the state is the number of places in use that are neither +0 nor −0
abbrev pub TrueCount : (E : Effect) → Device E.State → Type 0
TrueCount E h = E.count h.state ≡ nonzeros (held_in (E.parts (E.settings h.state)) h.memory)

-- no place is written twice
abbrev pub Distinct : List Write → Type 0
Distinct [] = Unit {0}
Distinct (w ∷ ws) = Unnamed w.place ws × Distinct ws

pub record Counts (E : Effect) : Type 0 where
  -- ---- on every run the count is true, and the question answers the full reading
  pub on_runs : (x : Run E) → TrueCount E (final E x)
  pub answers : (x : Run E) → reply E ask (final E x) ≡ silent (is_silent E (final E x))
  -- so it is of every unit whose count is true, which the calls keep true, accepted or not, in a run or handed in
  pub keeps : (c : CallOf E) (h : Device E.State) → TrueCount E h → TrueCount E (step E c h)
  pub true_answers : (h : Device E.State) → E.state_fits h.state ≡ true → TrueCount E h → reply E ask h ≡ silent (is_silent E h)
  -- ---- what each call leaves of a count that may be untrue

  -- a clearing leaves 0, and the memory zeros, whatever the count was
  pub starts : (a : E.Start) (m : List Float) → start_number E a (length m) ≡ 0 → E.count (start E a m).state ≡ 0
  pub resets : (h : Device E.State) → number_at E reset h ≡ 0 → E.count (step E reset h).state ≡ 0
  pub retunes : (r : E.Retune) (h : Device E.State) → number_at E (retune r) h ≡ 0 → E.count (step E (retune r) h).state ≡ 0
  -- A tick leaves the count changed by the net change of all that it writes, which stops once at 0 and at the places in use. It writes no place twice, so that each place
  -- is counted as it was before its own write.
  pub ticks : (t : E.Tick) (h : Device E.State) → number_at E (tick t) h ≡ 0
      → E.count (step E (tick t) h).state ≡ recount (E.parts (E.settings h.state)) (E.writes t h.state h.memory) h.memory (E.count h.state)
  pub distinct : (t : E.Tick) (h : Device E.State) → number_at E (tick t) h ≡ 0 → Distinct (E.writes t h.state h.memory)
  -- the state test refuses a count above the places in use
  pub most : (s : E.State) → E.state_fits s ≡ true → E.count s ≤ used_places E (E.settings s)
  pub above : (s : E.State) → used_places E (E.settings s) < E.count s → E.state_fits s ≡ false
  -- the question reads the state alone: it is answered by the count, whatever the memory holds and however long it is
  pub asks : (s : E.State) (m : List Float) → E.state_fits s ≡ true → reply E ask (device_of s m) ≡ silent (counted_silent E s)

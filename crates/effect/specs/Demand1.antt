-- Demand 1 (docs/DEMANDS.md), clean memory, for any effect: what any list of calls after an accepted start leaves, refused calls included, whatever the memory held
-- before the start. Definitions only. Assumes nothing.
use Rattle.std.specs.Prelude.{ℕ, ◌≤◌, ◌<◌, ◌≡◌, ◌≢◌, true, false, List, [], ◌∷◌, ◌++◌, length, get_or, Float}
use Rattle.float64.specs.Number.{plus_zero}
use Rattle.common.specs.Line.{zeros}
use Rattle.effect.specs.Parts.{InOrder}
use Rattle.effect.specs.Effect.{Effect, InUse, Unnamed}
use Rattle.effect.specs.Run.{tick, retune, reset, ask, CallOf, Device, number_now, number_at, start_number, start, step, after, replies, Run, final}
use Rattle.effect.specs.Trace.{traced, laid_out}

-- The calls after a start that left the unit h end at a clearing: at the start itself, or at an accepted reset or retune.
pub data EndsCleared (E : Effect) (h : Device E.State) : List (CallOf E) → Type 0 where
  at-start : EndsCleared E h []
  at-reset : (bs : List (CallOf E)) → number_at E reset (after E bs h) ≡ 0 → EndsCleared E h (bs ++ reset ∷ [])
  at-retune : (bs : List (CallOf E)) (r : E.Retune) → number_at E (retune r) (after E bs h) ≡ 0 → EndsCleared E h (bs ++ retune r ∷ [])

-- The state that the clearing leaves, by the settings k that it leaves in force. A retune keeps the phases of chorus and flanger.
abbrev pub cleared_state : (E : Effect) (h : Device E.State) (k : E.Settings) {cs : List (CallOf E)} → EndsCleared E h cs → E.State
cleared_state E h k at-start = E.fresh k
cleared_state E h k (at-reset bs e) = E.fresh k
cleared_state E h k (at-retune bs r e) = E.retuned k (after E bs h).state

-- the unit that a run's accepted start leaves
abbrev pub initial : (E : Effect) → Run E → Device E.State
initial E x = start E x.handed x.memory

pub record Demand1 (E : Effect) : Type 0 where
  -- ---- what a run leaves

  -- State and memory are those of the run's trace, which reads the arguments: every place, spare ones too, is as the writes of the accepted ticks since the last clearing leave it,
  -- laid in order over +0.
  pub memory : (x : Run E) → final E x ≡ laid_out (length x.memory) (traced E x.handed (length x.memory) x.calls)
  -- a clearing leaves +0 in every place
  pub clean : (x : Run E) → EndsCleared E (initial E x) x.calls → (final E x).memory ≡ zeros (length x.memory)
  -- Two runs that agree from the last clearing on agree in every place, answer and field, whatever came before: x and y end at clearings that leave
  -- equal states in equally long memories, and the same calls cs come after.
  pub forgets : (x y : Run E) → EndsCleared E (initial E x) x.calls → EndsCleared E (initial E y) y.calls → (final E x).state ≡ (final E y).state
      → length x.memory ≡ length y.memory
      → (cs : List (CallOf E)) → (after E cs (final E x) ≡ after E cs (final E y)) × (replies E cs (final E x) ≡ replies E cs (final E y))
  -- That state is worked out from the settings in force; only a retune keeps parts of the state before it.
  pub cleared : (x : Run E) (c : EndsCleared E (initial E x) x.calls) → (final E x).state ≡ cleared_state E (initial E x) (E.settings (final E x).state) c
  -- every state of a run passes the state test, so cause 4 never applies
  pub passes : (x : Run E) → E.state_fits (final E x).state ≡ true
  pub numbers : (x : Run E) (c : CallOf E) → number_at E c (final E x) ≡ number_now E c (length x.memory) (final E x).state
  -- the places needed are there; those in use follow each other among them, none twice; and all others are +0
  pub enough : (x : Run E) → E.places (E.settings (final E x).state) ≤ length x.memory
  pub in_order : (k : E.Settings) → InOrder 0 (E.places k) (E.parts k)
  pub in_use : (k : E.Settings) (p : ℕ) → InUse E k p → p < E.places k
  pub spare : (x : Run E) (p : ℕ) → ¬ InUse E (E.settings (final E x).state) p → get_or (final E x).memory p plus_zero ≡ plus_zero
  -- ---- what one call leaves, in a run or not

  -- a tick leaves every place that it does not name; an accepted one names only places in use
  pub leaves : (t : E.Tick) (h : Device E.State) (p : ℕ) → Unnamed p (E.writes t h.state h.memory)
      → get_or (step E (tick t) h).memory p plus_zero ≡ get_or h.memory p plus_zero
  pub spares : (t : E.Tick) (h : Device E.State) (p : ℕ) → number_at E (tick t) h ≡ 0 → ¬ InUse E (E.settings h.state) p
      → get_or (step E (tick t) h).memory p plus_zero ≡ get_or h.memory p plus_zero
  -- a refused call leaves every place and field, and so does the question "silent?"
  pub refuses : (c : CallOf E) (h : Device E.State) → number_at E c h ≢ 0 → step E c h ≡ h
  pub asks : (h : Device E.State) → step E ask h ≡ h
  -- a refused start gives the blank state, which the state test refuses, and leaves the memory as it was
  pub refused-start : (a : E.Start) (m : List Float) → start_number E a (length m) ≢ 0 → start E a m ≡ record { state = E.blank; memory = m }
  pub blank : E.state_fits E.blank ≡ false
  -- no call changes the memory's length
  pub keeps-length : (c : CallOf E) (h : Device E.State) → length (step E c h).memory ≡ length h.memory
  -- every state that an accepted call returns passes the state test
  pub starts : (a : E.Start) (m : List Float) → start_number E a (length m) ≡ 0 → E.state_fits (start E a m).state ≡ true
  pub returns : (c : CallOf E) (h : Device E.State) → number_at E c h ≡ 0 → E.state_fits (step E c h).state ≡ true

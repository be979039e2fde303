-- The calls of an effect, the order of refusals, what each call leaves and answers, and lists of calls: each gets the state last returned and the
-- same memory. Definitions only. Assumes nothing.
use Rattle.std.specs.Prelude.{ℕ, zero, suc, ◌≡◌, Bool, ◌&&◌, cond, List, [], ◌∷◌, ltb, ◌==◌, length, Float}
use Rattle.port.specs.Answer.{Reply, played, done, silent, refused}
use Rattle.common.specs.Line.{zeros, all_zero}
use Rattle.common.specs.Reads.{largest_age}
use Rattle.effect.specs.Parts.{held_in}
use Rattle.effect.specs.Effect.{Effect, laid}

-- a call after the start
pub data Call (T R : Type 0) : Type 0 where
  tick : T → Call T R
  retune : R → Call T R
  reset : Call T R
  ask : Call T R

-- a unit of document 01: its state, and the memory that it was lent
pub record Device (S : Type 0) : Type 0 where
  pub state : S
  pub memory : List Float

abbrev pub device_of : {S : Type 0} → S → List Float → Device S
device_of s m = record { state = s; memory = m }

-- a where the number is 0 (none), else b
abbrev pub if_none : {A : Type 0} → ℕ → A → A → A
if_none zero a b = a
if_none (suc k) a b = b

-- the first number that is not 0
abbrev pub first : ℕ → ℕ → ℕ
first zero b = b
first (suc a) b = suc a

-- cause 3: n places are fewer than needed
abbrev pub memory_number : ℕ → ℕ → ℕ
memory_number needed n = cond (ltb n needed) 3 0

module _ (E : Effect) where
  abbrev pub CallOf : Type 0
  CallOf = Call E.Tick E.Retune

  abbrev pub DeviceOf : Type 0
  DeviceOf = Device E.State

  -- ---- the table: start 1, 2, 3; retune 4, 1, 2, 3; reset 4, 3; silent 4; tick 4, 7, 3, 5, 6. The first that applies is given; 0 is none

  abbrev pub start_number : E.Start → ℕ → ℕ
  start_number a n = first (E.settings_number (E.start_settings a)) (memory_number (E.places (E.start_settings a)) n)

  -- without causes 4 and 7: by the arguments, the memory's length n and the settings k in force
  abbrev pub number_for : CallOf → ℕ → E.Settings → ℕ
  number_for (tick t) n k = first (memory_number (E.places k) n) (E.tick_number t k)
  number_for (retune r) n k = first (E.settings_number (E.retune_settings r k)) (memory_number (E.places (E.retune_settings r k)) n)
  number_for reset n k = memory_number (E.places k) n
  number_for ask n k = 0

  -- cause 7, of ticks alone
  abbrev pub turn_of : CallOf → E.State → ℕ
  turn_of (tick t) s = E.turn_number t s
  turn_of (retune r) s = 0
  turn_of reset s = 0
  turn_of ask s = 0

  -- without cause 4: cause 7 stands before the others
  abbrev pub number_now : CallOf → ℕ → E.State → ℕ
  number_now c n s = first (turn_of c s) (number_for c n (E.settings s))

  -- the whole table: cause 4 stands first
  abbrev pub number_in : CallOf → ℕ → E.State → ℕ
  number_in c n s = cond (E.state_fits s) (number_now c n s) 4

  abbrev pub number_at : CallOf → DeviceOf → ℕ
  number_at c h = number_in c (length h.memory) h.state

  -- ---- silent: what the state keeps of the sound is quiet, and the count is 0

  abbrev pub counted_silent : E.State → Bool
  counted_silent s = E.quiet s && (E.count s == 0)

  -- the full reading, which no call makes: quiet, and every place in use is +0 or −0. What the count has to do with it: `Counts`
  abbrev pub is_silent : DeviceOf → Bool
  is_silent h = E.quiet h.state && all_zero (held_in (E.parts (E.settings h.state)) h.memory)

  -- ---- an accepted call: what it leaves, and what it answers

  abbrev pub started : E.Start → List Float → DeviceOf
  started a m = record { state = E.fresh (E.start_settings a); memory = zeros (length m) }

  abbrev pub changed : CallOf → DeviceOf → DeviceOf
  changed (tick t) h = record { state = E.next t h.state h.memory; memory = laid (E.writes t h.state h.memory) h.memory }
  changed (retune r) h =
      record { state = E.retuned (E.retune_settings r (E.settings h.state)) h.state; memory = zeros (length h.memory) }
  changed reset h = record { state = E.fresh (E.settings h.state); memory = zeros (length h.memory) }
  changed ask h = h

  abbrev pub says : CallOf → DeviceOf → Reply
  says (tick t) h = played (E.samples t h.state h.memory) (largest_age (E.reads t h.state))
  says (retune r) h = done
  says reset h = done
  says ask h = silent (counted_silent h.state)

  -- ---- any call: accepted, or refused, which leaves every place and field and answers the number. A refused start gives the blank state

  abbrev pub start : E.Start → List Float → DeviceOf
  start a m = if_none (start_number a (length m)) (started a m) (record { state = E.blank; memory = m })

  abbrev pub start_reply : E.Start → List Float → Reply
  start_reply a m = if_none (start_number a (length m)) done (refused (start_number a (length m)))

  abbrev pub step : CallOf → DeviceOf → DeviceOf
  step c h = if_none (number_at c h) (changed c h) h

  abbrev pub reply : CallOf → DeviceOf → Reply
  reply c h = if_none (number_at c h) (says c h) (refused (number_at c h))

  -- ---- a list of calls: the unit after them, and every reply in order

  unfoldable pub after : List CallOf → DeviceOf → DeviceOf
  after [] h = h
  after (c ∷ cs) h = after cs (step c h)

  unfoldable pub replies : List CallOf → DeviceOf → List Reply
  replies [] h = []
  replies (c ∷ cs) h = reply c h ∷ replies cs (step c h)

-- A run: an accepted start in memory of its own, whatever that held, and then any list of calls, refused ones among them.
pub record Run (E : Effect) : Type 0 where
  pub handed : E.Start
  pub memory : List Float
  pub accepted : start_number E handed (length memory) ≡ 0
  pub calls : List (CallOf E)

-- the unit that a run leaves
abbrev pub final : (E : Effect) → Run E → Device E.State
final E x = after E x.calls (start E x.handed x.memory)

-- What a call of the C interface leaves in the numbers and the memory lent to it and what it returns: the effect's own state, memory and answer, in
-- plain numbers. For any effect: the state that the lent numbers make is `state_of` of its page, and of
-- the delay in specs/States.antt. Definitions only. Assumes nothing.
use Rattle.std.specs.Prelude.{ℕ, zero, suc, ◌≡◌, List, [], ◌∷◌, Float}
use Rattle.port.specs.Answer.{Reply, reply_number, reply_sample, reply_age, reply_silent}
use Rattle.effect.specs.Effect.{Effect}
use Rattle.effect.specs.Run.{tick, ask, CallOf, Device, start, start_reply, step, reply}

-- the samples of a reply from the index i on, k of them, +0 where there is none
abbrev pub samples_from : ℕ → ℕ → Reply → List Float
samples_from i zero a = []
samples_from i (suc k) a = reply_sample i a ∷ samples_from (suc i) k a

module _ (E : Effect) where
  -- a start that is handed x in the memory m leaves the unit u and returns r
  pub record StartReturns (x : E.Start) (m : List Float) (u : Device E.State) (r : ℕ) : Type 0 where
    pub state : u.state ≡ (start E x m).state
    pub memory : u.memory ≡ (start E x m).memory
    pub number : r ≡ reply_number (start_reply E x m)

  -- the call c of the unit u leaves the unit u' and returns r
  pub record CallReturns (c : CallOf E) (u u' : Device E.State) (r : ℕ) : Type 0 where
    pub state : u'.state ≡ (step E c u).state
    pub memory : u'.memory ≡ (step E c u).memory
    pub number : r ≡ reply_number (reply E c u)

  -- ... a tick, which puts its k samples into out'
  pub record TickReturns (k : ℕ) (t : E.Tick) (u u' : Device E.State) (out' : List Float) (r : ℕ) : Type 0 where
    pub called : CallReturns (tick t) u u' r
    pub samples : out' ≡ samples_from 0 k (reply E (tick t) u)

  -- ... a tick of an effect that reads lines at a distance, which puts the largest age of its reads into age' beside them, 0 on a refusal
  pub record AgedReturns (k : ℕ) (t : E.Tick) (u u' : Device E.State) (out' : List Float) (age' r : ℕ) : Type 0 where
    pub ticked : TickReturns k t u u' out' r
    pub age : age' ≡ reply_age (reply E (tick t) u)

  -- ... the question, which leaves the unit as it was, and puts 1 into out' for yes
  pub record AskReturns (u : Device E.State) (out' r : ℕ) : Type 0 where
    pub called : CallReturns ask u u r
    pub flag : out' ≡ reply_silent (reply E ask u)

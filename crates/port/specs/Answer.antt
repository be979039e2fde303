-- What each call answers, in the table's numbers and in samples. Definitions only. Assumes nothing.
use Rattle.std.specs.Prelude.{ℕ, Bool, cond, List, [], ◌∷◌, get_or, Float, Result, Ok, Err}
use Rattle.float64.specs.Number.{plus_zero}
use Rattle.port.specs.declared.Refusal.{Refusal}
use Rattle.port.specs.declared.Refusal.TheVariants.{SampleRate, GlideCoefficient, Memory, State, Control, Curve, Turn}
use Rattle.port.specs.declared.Answer.{Answer}
use Rattle.port.specs.declared.Answer.TheVariants as answer

-- What a call answers: an accepted tick its samples, and the age in ticks of the oldest sample that its reads of lines weighed above 0 (0 where it has no such
-- read); a clearing that it is done, a question whether the unit is silent, a refused call the number.
pub data Reply : Type 0 where
  played : List Float → ℕ → Reply
  done : Reply
  silent : Bool → Reply
  refused : ℕ → Reply

-- the table's number of each cause
abbrev pub number : Refusal → ℕ
number SampleRate = 1
number GlideCoefficient = 2
number Memory = 3
number State = 4
number Control = 5
number Curve = 6
number Turn = 7

-- the table's number of an outcome, 0 for none
abbrev pub number_of : {A : Type 0} → Result A Refusal → ℕ
number_of (Ok x) = 0
number_of (Err r) = number r

-- start, retune, reset
abbrev pub outcome_reply : Result (Unit {0}) Refusal → Reply
outcome_reply (Ok x) = done
outcome_reply (Err r) = refused (number r)

-- tick: its answer with the age that stands beside it
abbrev pub answer_reply : Answer → ℕ → Reply
answer_reply (answer.One x) age = played (x ∷ []) age
answer_reply (answer.Two l r) age = played (l ∷ r ∷ []) age
answer_reply (answer.Three m l r) age = played (m ∷ l ∷ r ∷ []) age
answer_reply (answer.Refused r) age = refused (number r)

-- silent?
abbrev pub silence_reply : Result Bool Refusal → Reply
silence_reply (Ok b) = silent b
silence_reply (Err r) = refused (number r)

-- ---- a reply in plain numbers, as the C interface hands it out

-- the table's number, 0 for none
abbrev pub reply_number : Reply → ℕ
reply_number (played l age) = 0
reply_number done = 0
reply_number (silent b) = 0
reply_number (refused n) = n

-- the samples, and the one at an index, +0 where there is none
abbrev pub reply_samples : Reply → List Float
reply_samples (played l age) = l
reply_samples done = []
reply_samples (silent b) = []
reply_samples (refused n) = []

abbrev pub reply_sample : ℕ → Reply → Float
reply_sample i a = get_or (reply_samples a) i plus_zero

-- the age, 0 where there is none
abbrev pub reply_age : Reply → ℕ
reply_age (played l age) = age
reply_age done = 0
reply_age (silent b) = 0
reply_age (refused n) = 0

-- 1 where the answer is yes
abbrev pub reply_silent : Reply → ℕ
reply_silent (played l age) = 0
reply_silent done = 0
reply_silent (silent b) = cond b 1 0
reply_silent (refused n) = 0

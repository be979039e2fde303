-- What a lamp that shows "silent" is for: a silent unit that is given zero audio answers only zeros and stays silent. Silent is the full reading, quiet and every place
-- in use a zero, and so the rule is of every unit, in a run or handed in. The lamp asks, and the question is answered by the count, which tells the full reading of every
-- run: so the lamp's own rule is of runs. A unit whose tick comes in two calls waits between the halves, and is not silent then: of such an effect a condition on the
-- state stays, that it is calm. Definitions only. Assumes nothing.
use Rattle.std.specs.Prelude.{ℕ, ◌≡◌, ◌≤◌, ◌↔◌, Bool, true, ◌&&◌, List, [], ◌∷◌, length, get_or, Float}
use Rattle.std.specs.Float.{nan}
use Rattle.float64.specs.Number.{is_zero}
use Rattle.port.specs.Answer.{Reply, played, done, silent, refused, reply_samples}
use Rattle.common.specs.Line.{all_zero}
use Rattle.effect.specs.Parts.{held_in}
use Rattle.effect.specs.Effect.{Effect, InUse}
use Rattle.effect.specs.Run.{tick, retune, reset, ask, CallOf, Device, start_number, number_at, is_silent, start, step, reply, after, replies, Run, final}
use Rattle.effect.specs.EachTick.{EachTick}
use Rattle.effect.specs.Counts.{TrueCount}

-- nothing sounds in the reply: its samples are +0 or −0, whatever its age, and if it answers the question, it says silent
abbrev pub soundless : Reply → Bool
soundless (played l age) = all_zero l
soundless done = true
soundless (silent b) = b
soundless (refused n) = true

-- its samples alone
abbrev pub plays_zeros : Reply → Bool
plays_zeros r = all_zero (reply_samples r)

-- each of the replies passes a test
unfoldable pub each_reply : (Reply → Bool) → List Reply → Bool
each_reply test [] = true
each_reply test (r ∷ rs) = test r && each_reply test rs

abbrev pub all_soundless : List Reply → Bool
all_soundless rs = each_reply soundless rs

abbrev pub all_play_zeros : List Reply → Bool
all_play_zeros rs = each_reply plays_zeros rs

-- the audio of a tick, as the tick takes it, is +0 or −0
abbrev pub ZeroAudio : (E : Effect) → E.Tick → Type 0
ZeroAudio E t = is_zero (E.input t) ≡ true

-- the state is calm, and every place in use is +0 or −0; with the effect's `quiet` this is `is_silent`
abbrev pub is_calm : (E : Effect) → (E.State → Bool) → Device E.State → Bool
is_calm E calm h = calm h.state && all_zero (held_in (E.parts (E.settings h.state)) h.memory)

-- what holds of every accepted tick with zero audio of every calm unit, and of every silent one
abbrev pub WhenCalm : (E : Effect) → (E.State → Bool) → (E.Tick → Device E.State → Type 0) → Type 0
WhenCalm E calm P = (t : E.Tick) (h : Device E.State) → number_at E (tick t) h ≡ 0 → ZeroAudio E t → is_calm E calm h ≡ true → P t h

abbrev pub WhenSilent : (E : Effect) → (E.Tick → Device E.State → Type 0) → Type 0
WhenSilent E P = WhenCalm E E.quiet P

-- the samples of its reply are those of the tick, and zeros of either sign
abbrev pub AnswersZeros : (E : Effect) → E.Tick → Device E.State → Type 0
AnswersZeros E t h = (reply_samples (reply E (tick t) h) ≡ E.samples t h.state h.memory) × (all_zero (E.samples t h.state h.memory) ≡ true)

-- what silent says, and that a clearing leaves a unit silent
pub record Silence (E : Effect) : Type 0 where
  -- where the memory has the places, silent says: what the state keeps of the sound is quiet, and every place in use is +0 or −0
  pub means : (h : Device E.State) → E.places (E.settings h.state) ≤ length h.memory
      → (is_silent E h ≡ true)
      ↔ ((E.quiet h.state ≡ true) × ((p : ℕ) → InUse E (E.settings h.state) p → is_zero (get_or h.memory p nan) ≡ true))
  -- a unit is silent after every clearing, whatever it was before
  pub starts : (x : E.Start) (m : List Float) → start_number E x (length m) ≡ 0 → is_silent E (start E x m) ≡ true
  pub resets : (h : Device E.State) → number_at E reset h ≡ 0 → is_silent E (step E reset h) ≡ true
  pub retunes : (r : E.Retune) (h : Device E.State) → number_at E (retune r) h ≡ 0 → is_silent E (step E (retune r) h) ≡ true

pub record StaysSilent (E : Effect) : Type 0 where
  pub silence : Silence E
  -- a silent unit's accepted tick with zero audio answers only zeros of either sign
  pub answers : WhenSilent E (AnswersZeros E)
  -- and leaves the unit silent
  pub stays : WhenSilent E (λ t h. is_silent E (step E (tick t) h) ≡ true)
  -- So it is along every list of calls whose accepted ticks have zero audio, with questions, refused calls, retunes and resets anywhere among them: every sample that is
  -- answered is a zero, and the unit is silent in the end.
  pub goes-on : (cs : List (CallOf E)) (h : Device E.State) → EachTick E (ZeroAudio E) cs h → is_silent E h ≡ true
      → (all_play_zeros (replies E cs h) ≡ true) × (is_silent E (after E cs h) ≡ true)
  -- The lamp's rule, of every run: where the question is answered "silent", nothing sounds along such calls, every question among them that is answered is answered
  -- "silent", and so is one after them.
  pub on_runs : (x : Run E) → reply E ask (final E x) ≡ silent true → (cs : List (CallOf E)) → EachTick E (ZeroAudio E) cs (final E x)
      → (all_soundless (replies E cs (final E x)) ≡ true) × (reply E ask (after E cs (final E x)) ≡ silent true)

-- The same of an effect whose units may wait for the second half of a tick.
pub record StaysCalm (E : Effect) (calm : E.State → Bool) : Type 0 where
  -- a silent unit whose state passes the state test is calm, and a calm one with a quiet state is silent
  pub silent-calm : (h : Device E.State) → E.state_fits h.state ≡ true → is_silent E h ≡ true → is_calm E calm h ≡ true
  pub calm-silent : (h : Device E.State) → is_calm E calm h ≡ true → E.quiet h.state ≡ true → is_silent E h ≡ true
  -- a calm unit's accepted tick with zero audio answers only zeros of either sign
  pub answers : WhenCalm E calm (AnswersZeros E)
  -- and leaves the unit calm
  pub stays : WhenCalm E calm (λ t h. is_calm E calm (step E (tick t) h) ≡ true)
  -- a calm unit with a true count that is asked says silent just where its state is quiet
  pub asks : (h : Device E.State) → number_at E ask h ≡ 0 → TrueCount E h → is_calm E calm h ≡ true → reply E ask h ≡ silent (E.quiet h.state)
  -- So it is along every list of such calls: every sample that is answered is a zero, and the unit is calm in the end.
  pub goes-on : (cs : List (CallOf E)) (h : Device E.State) → EachTick E (ZeroAudio E) cs h → is_calm E calm h ≡ true
      → (all_play_zeros (replies E cs h) ≡ true) × (is_calm E calm (after E cs h) ≡ true)
  -- The lamp's rule, of every run: where the question is answered "silent", every sample that such calls are answered is a zero, and one more question is answered
  -- "silent" just where the state is quiet then.
  pub on_runs : (x : Run E) → reply E ask (final E x) ≡ silent true → (cs : List (CallOf E)) → EachTick E (ZeroAudio E) cs (final E x)
      → (all_play_zeros (replies E cs (final E x)) ≡ true)
      × (reply E ask (after E cs (final E x)) ≡ silent (E.quiet (after E cs (final E x)).state))

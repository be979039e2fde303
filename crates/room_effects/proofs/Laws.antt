-- An accepted call of the C interface from the effect's own: what it writes back, for any effect. Assumes nothing.
use Prim.Native.Nat.{ℕ}
use mathlib.Core.Path.{◌≡◌, refl, sym, ap, ◌∙◌, subst}
use mathlib.Core.Bool.{Bool, true, false}
use mathlib.Core.List.{List}
use lib.Ieee.{Float}
use Rattle.std.specs.Int.{from_bool}
use Rattle.port.specs.declared.Refusal.{Refusal}
use Rattle.port.specs.declared.Answer.{Answer}
use Rattle.port.specs.declared.Answer.TheVariants.{One, Two, Three, Refused}
use Rattle.std.proofs.Common.{Result, Ok, Err}
use Rattle.port.specs.Answer.{Reply, number_of, answer_reply, silence_reply, reply_number, reply_age, reply_silent}
use Rattle.effect.specs.Effect.{Effect}
use Rattle.effect.specs.Run.{tick, ask, Device, device_of, number_at, step}
use Rattle.effect.specs.Contract.{Does}
use Rattle.effect.proofs.Table.{if_none-both}
use Rattle.room_effects.specs.States.{is_on, FlagWritten}
use Rattle.room_effects.specs.Lent.{samples_from, TickReturns, AgedReturns, AskReturns}

-- ---- a flag that is written as its number, 0 or 1, is on where it was

pub on-flag : {n : ℕ} (b : Bool) → n ≡ from_bool b → is_on n ≡ b
on-flag true e = rw e
on-flag false e = rw e

pub written : {n : ℕ} (b : Bool) → n ≡ from_bool b → FlagWritten n
written true e = rw e
written false e = rw e

-- ---- an accepted tick

-- an answer that is no refusal has the number 0
pub not-refused : {a : Answer} → ((cause : Refusal) → a ≡ Refused cause → ⊥) → (age : ℕ) → ◌≡◌ {A = ℕ} 0 (reply_number (answer_reply a age))
not-refused {a = One x} h age = refl
not-refused {a = Two x y} h age = refl
not-refused {a = Three x y z} h age = refl
not-refused {a = Refused cause} h age = absurd (h cause refl)

-- `kept` is what a tick leaves of a state as it is, so that it need not be written: of most effects the settings
module _ (E : Effect) {K : Type 0} (kept : E.Tick → E.State → K) (stays : (t : E.Tick) (s : E.State) (m : List Float) → kept t (E.next t s m) ≡ kept t s) where
  -- that of the state that is left is that of h
  abbrev Keeps : E.Tick → Device E.State → Device E.State → Type 0
  Keeps t h u = kept t h.state ≡ kept t u.state

  tick-keeps : (t : E.Tick) (h : Device E.State) → Keeps t h (step E (tick t) h)
  tick-keeps t h = if_none-both (Keeps t h) (number_at E (tick t) h) (sym (stays t h.state h.memory)) refl

  -- The effect's own call is handed the tick t; the lent numbers, the mask among them, make t₀ of it, and are left as s, which is the state left where what is kept
  -- is that of before. The number is r, and the samples are put out.
  module _ (k : ℕ) (u : Device E.State) {t t₀ : E.Tick} {s s' : E.State} {m' out' : List Float} {a : Reply} {r : ℕ} (same : t ≡ t₀)
      (own : Does E (tick t) u.state u.memory s' m' a) (number : r ≡ reply_number a) (left : kept t₀ u.state ≡ kept t₀ s' → s ≡ s') (put : out' ≡ samples_from 0 k a) where
    does : Does E (tick t₀) u.state u.memory s' m' a
    does = subst (λ (t : E.Tick). Does E (tick t) u.state u.memory s' m' a) same own

    pub ticked : TickReturns E k t₀ u (record { state = s; memory = m' }) out' r
    ticked =
        record {
          called = record { state = left (tick-keeps t₀ u ∙ ap (kept t₀) (sym does.state)) ∙ does.state; memory = does.memory; number = number ∙ ap reply_number does.answer };
          samples = put ∙ ap (samples_from 0 k) does.answer;
        }

    -- and the age with them
    pub aged : {age' : ℕ} → age' ≡ reply_age a → AgedReturns E k t₀ u (record { state = s; memory = m' }) out' age' r
    aged age = record { ticked = ticked; age = age ∙ ap reply_age does.answer }

-- ---- a question, which is handed no memory: of every memory that the unit may have

question-number : (r : Result Bool Refusal) → number_of r ≡ reply_number (silence_reply r)
question-number (Ok b) = refl
question-number (Err cause) = refl

pub asked : (E : Effect) (s : E.State) (r : Result Bool Refusal) {flag number : ℕ} → ((m : List Float) → Does E ask s m s m (silence_reply r)) → flag ≡ reply_silent (silence_reply r)
    → number ≡ number_of r → (m : List Float) → AskReturns E (device_of s m) flag number
asked E s r each flag number m =
    let own = each m in
    record {
      called = record { state = own.state; memory = own.memory; number = number ∙ question-number r ∙ ap reply_number own.answer };
      flag = flag ∙ ap reply_silent own.answer;
    }

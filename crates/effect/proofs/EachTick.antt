-- Induction along calls whose accepted ticks meet a condition C. Assumes nothing.
use Rattle.std.proofs.Common.{◌≡◌, ℕ, zero, suc, List, [], ◌∷◌, refl}
use Rattle.effect.specs.Effect.{Effect}
use Rattle.effect.specs.Run.{tick, retune, reset, ask, CallOf, Device, if_none, number_at, changed, step, after}
use Rattle.effect.specs.EachTick.{Meets, EachTick}

-- what holds of a where the number is none, and of b, holds of the one that is taken
pub if_none-cases : {A : Type 0} (P : A → Type 0) (k : ℕ) {a b : A} → (k ≡ 0 → P a) → P b → P (if_none k a b)
if_none-cases P zero p q = p refl
if_none-cases P (suc k) p q = q

module _ (E : Effect) (C : E.Tick → Type 0) where
  -- what every tick meets, each accepted one among any calls does
  pub all-meet : ((t : E.Tick) → C t) → (cs : List (CallOf E)) (h : Device E.State) → EachTick E C cs h
  all-meet every [] h = tt
  all-meet every (c ∷ cs) h = (λ e. meets c, all-meet every cs (step E c h))
    where
      meets : (c : CallOf E) → Meets E C c
      meets (tick t) = every t
      meets (retune r) = tt
      meets reset = tt
      meets ask = tt

  -- each accepted call keeps Q of the unit, a tick where it meets C
  abbrev pub CallsKeep : (Device E.State → Type 0) → Type 0
  CallsKeep Q = (c : CallOf E) (h : Device E.State) → number_at E c h ≡ 0 → Meets E C c → Q h → Q (changed E c h)

  module _ (Q : Device E.State → Type 0) (keeps : CallsKeep Q) where
    -- so does any call, since a refused one leaves the unit as it is
    pub step-keeps : (c : CallOf E) (h : Device E.State) → (number_at E c h ≡ 0 → Meets E C c) → Q h → Q (step E c h)
    step-keeps c h m q = if_none-cases Q (number_at E c h) (λ e. keeps c h e (m e) q) q

    -- M holds of every list of calls and the unit before it, if it holds of none, and of a call and those after it where it holds of those after it
    pub along-calls : (M : List (CallOf E) → Device E.State → Type 0)
        → ((h : Device E.State) → Q h → M [] h)
        → ((c : CallOf E) (cs : List (CallOf E)) (h : Device E.State) → (number_at E c h ≡ 0 → Meets E C c) → Q h → M cs (step E c h) → M (c ∷ cs) h)
        → (cs : List (CallOf E)) (h : Device E.State) → EachTick E C cs h → Q h → M cs h
    along-calls M none more [] h m q = none h q
    along-calls M none more (c ∷ cs) h m q = more c cs h m.0 q (along-calls M none more cs (step E c h) m.1 (step-keeps c h m.0 q))

    -- what each of them keeps, all of them keep
    pub after-keep : (cs : List (CallOf E)) (h : Device E.State) → EachTick E C cs h → Q h → Q (after E cs h)
    unfolding after
    after-keep = along-calls (λ cs h. Q (after E cs h)) (λ h q. q) (λ c cs h m q rest. rest)

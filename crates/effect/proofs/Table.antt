-- The table's numbers: what stands behind a 0. Assumes nothing.
use Prim.Native.Nat.{ℕ, zero, suc, ◌≤◌}
use native.Mathlib.Omega.{arith}
use mathlib.Core.Path.{◌≡◌, refl}
use mathlib.Core.Logic.{◌≢◌}
use mathlib.Core.Bool.{Bool, true, false, cond}
use lib.Dec.{ltb}
use borrow.Author.Tests.{ltb-false, le-ltb}
use Rattle.effect.specs.Effect.{Effect}
use Rattle.effect.specs.Run.{tick, CallOf, if_none, first, memory_number, number_for, turn_of, number_now, number_in}

-- ---- numbers

-- what holds in both cases holds
pub if_none-both : {A : Type 0} (P : A → Type 0) (k : ℕ) {a b : A} → P a → P b → P (if_none k a b)
if_none-both P zero p q = p
if_none-both P (suc k) p q = q

pub if_none-some : {A : Type 0} (k : ℕ) (a b : A) → k ≢ 0 → if_none k a b ≡ b
if_none-some zero a b f = absurd (f refl)
if_none-some (suc k) a b f = refl

pub first_some : (a b : ℕ) → a ≢ 0 → first a b ≡ a
first_some zero b f = absurd (f refl)
first_some (suc a) b f = refl

pub first-assoc : (a b c : ℕ) → first a (first b c) ≡ first (first a b) c
first-assoc zero b c = refl
first-assoc (suc a) b c = refl

pub none_first : (a b : ℕ) → first a b ≡ 0 → (a ≡ 0) × (b ≡ 0)
none_first zero b e = (refl, e)
none_first (suc a) b e = absurd (omega arith)

-- ---- a number that is none, of the tests behind it

pub none_1 : (passes : Bool) → ◌≡◌ {A = ℕ} (cond passes 0 1) 0 → passes ≡ true
none_1 true e = refl
none_1 false e = absurd (omega arith)

pub none-1-2 : (rate coefficient : Bool) → ◌≡◌ {A = ℕ} (cond rate (cond coefficient 0 2) 1) 0 → (rate ≡ true) × (coefficient ≡ true)
none-1-2 true true e = (refl, refl)
none-1-2 true false e = absurd (omega arith)
none-1-2 false coefficient e = absurd (omega arith)

pub none_5 : (applies : Bool) → ◌≡◌ {A = ℕ} (cond applies 5 0) 0 → applies ≡ false
none_5 true e = absurd (omega arith)
none_5 false e = refl

-- a test that passes only where P holds fails where P does not
pub false_where : {P : Type 0} (b : Bool) → (b ≡ true → P) → ¬ P → b ≡ false
false_where true p n = absurd (n (p refl))
false_where false p n = refl

-- ---- cause 3

pub memory-enough : {needed n : ℕ} → needed ≤ n → ◌≡◌ {A = ℕ} 0 (memory_number needed n)
memory-enough {needed} {n} h = rw (le-ltb n needed h)

pub enough : (needed n : ℕ) → memory_number needed n ≡ 0 → needed ≤ n
enough needed n e = go (ltb n needed) refl e
  where
    go : (b : Bool) → ltb n needed ≡ b → ◌≡◌ {A = ℕ} (cond b 3 0) 0 → needed ≤ n
    go true t f = absurd (omega arith)
    go false t f = ltb-false n needed t

-- ---- accepted calls, in a memory of n places

module _ (E : Effect) (n : ℕ) where
  -- the settings k of a start or a retune
  pub record SettingsAccepted (k : E.Settings) : Type 0 where
    pub number : E.settings_number k ≡ 0
    pub enough : E.places k ≤ n

  pub settings-accepted : (k : E.Settings) → first (E.settings_number k) (memory_number (E.places k) n) ≡ 0 → SettingsAccepted k
  settings-accepted k e =
      let v = none_first (E.settings_number k) (memory_number (E.places k) n) e in
      record { number = v.0; enough = enough (E.places k) n v.1 }

  -- a tick with the settings k in force
  pub record TickAccepted (t : E.Tick) (k : E.Settings) : Type 0 where
    pub enough : E.places k ≤ n
    pub number : E.tick_number t k ≡ 0

  pub tick-accepted : (t : E.Tick) (k : E.Settings) → number_for E (tick t) n k ≡ 0 → TickAccepted t k
  tick-accepted t k e =
      let v = none_first (memory_number (E.places k) n) (E.tick_number t k) e in
      record { enough = enough (E.places k) n v.0; number = v.1 }

  -- the state of any
  pub record Accepted (c : CallOf E) (s : E.State) : Type 0 where
    pub state_fits : E.state_fits s ≡ true
    pub turn : turn_of E c s ≡ 0
    pub number : number_for E c n (E.settings s) ≡ 0

  pub accepted : (c : CallOf E) (s : E.State) → number_in E c n s ≡ 0 → Accepted c s
  accepted c s e = go (E.state_fits s) refl e
    where
      go : (b : Bool) → E.state_fits s ≡ b → ◌≡◌ {A = ℕ} (cond b (number_now E c n s) 4) 0 → Accepted c s
      go true f g = let v = none_first (turn_of E c s) (number_for E c n (E.settings s)) g in record { state_fits = f; turn = v.0; number = v.1 }
      go false f g = absurd (omega arith)

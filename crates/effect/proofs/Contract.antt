-- The contracts of an effect's calls by their two cases, refused and accepted; and the table's rows in the order in which a function that works out the
-- number meets them. Assumes nothing.
use Prim.Native.Nat.{ℕ, zero, suc}
use native.Mathlib.Omega.{arith}
use mathlib.Core.Path.{◌≡◌, refl, sym, ap, ◌∙◌}
use mathlib.Core.Logic.{◌≢◌}
use mathlib.Core.Bool.{Bool, true, false, cond}
use mathlib.Core.List.{List}
use lib.ListN.{length}
use lib.Ieee.{Float}
use Rattle.std.proofs.Common.{Result, Ok}
use Rattle.std.specs.Result.{result_and}
use Rattle.port.specs.declared.Refusal.{Refusal}
use Rattle.port.specs.Answer.{Reply, done, silent, refused, number_of, outcome_reply}
use Rattle.common.specs.Line.{zeros}
use Rattle.effect.specs.Effect.{Effect}
use Rattle.effect.specs.Run.{tick, ask, CallOf, Device, if_none, first, memory_number, start_number, number_now, number_in, counted_silent, changed, says}
use Rattle.effect.specs.Contract.{Does, Starts}
use Rattle.effect.proofs.Table.{if_none-some, first_some, first-assoc}
use Rattle.effect.proofs.Outcomes.{outcome-reply}

-- ---- a call after the start

module _ (E : Effect) (c : CallOf E) (s : E.State) (m : List Float) where
  pub refuses : (k : ℕ) → k ≡ number_in E c (length m) s → k ≢ 0 → Does E c s m s m (refused k)
  refuses k e some =
      let h : Device E.State = record { state = s; memory = m } in
      let stays = if_none-some k (changed E c h) h some in
      record {
        state = rw (← e) (sym (ap (λ (u : Device E.State). u.state) stays));
        memory = rw (← e) (sym (ap (λ (u : Device E.State). u.memory) stays));
        answer = rw (← e) (sym (if_none-some k (says E c h) (refused k) some));
      }

  pub accepts : {s' : E.State} {m' : List Float} {a : Reply} → number_in E c (length m) s ≡ 0
      → s' ≡ (changed E c (record { state = s; memory = m })).state
      → m' ≡ (changed E c (record { state = s; memory = m })).memory
      → a ≡ says E c (record { state = s; memory = m })
      → Does E c s m s' m' a
  accepts e p q r = record { state = rw e p; memory = rw e q; answer = rw e r }

  -- from the number k that its tests come to
  by_number : (k : ℕ) {s' : E.State} {m' : List Float} {a : Reply} → k ≡ number_in E c (length m) s
      → s' ≡ if_none k (changed E c (record { state = s; memory = m })).state s
      → m' ≡ if_none k (changed E c (record { state = s; memory = m })).memory m
      → a ≡ if_none k (says E c (record { state = s; memory = m })) (refused k)
      → Does E c s m s' m' a
  by_number zero e p q r = accepts (sym e) p q r
  by_number (suc k) e p q r = rw (p, q, r) (refuses (suc k) e (omega arith))

  -- a retune or a reset, by what its tests came to: the memory is cleared by it, and the state goes by it
  pub clears : {A : Type 0} (o : Result A Refusal) {s' : E.State} {m' : List Float} {o' : Result (Unit {0}) Refusal} → number_of o ≡ number_in E c (length m) s
      → says E c (record { state = s; memory = m }) ≡ done
      → s' ≡ if_none (number_of o) (changed E c (record { state = s; memory = m })).state s
      → m' ≡ if_none (number_of o) (changed E c (record { state = s; memory = m })).memory m
      → o' ≡ result_and o (Ok tt)
      → Does E c s m s' m' (outcome_reply o')
  clears o e d p q r = by_number (number_of o) e p q (ap outcome_reply r ∙ rw d (outcome-reply o))

-- the question, by what its tests came to: b is what was found where they passed
pub asks : (E : Effect) (s : E.State) (m : List Float) (k : ℕ) {b : Bool} {a : Reply} → k ≡ number_in E ask (length m) s
    → (number_in E ask (length m) s ≡ 0 → b ≡ counted_silent E s)
    → a ≡ if_none k (silent b) (refused k)
    → Does E ask s m s m a
asks E s m zero e found r = accepts E ask s m (sym e) refl refl (rw r (ap silent (found (sym e))))
asks E s m (suc k) e found r = rw r (refuses E ask s m (suc k) e (omega arith))

-- ---- a start

module _ (E : Effect) (x : E.Start) (m : List Float) where
  pub starts-refused : (k : ℕ) → k ≡ start_number E x (length m) → k ≢ 0 → Starts E x m E.blank m (refused k)
  starts-refused k e some =
      record {
        state = rw (← e) (sym (ap (λ (u : Device E.State). u.state) (if_none-some k _ _ some)));
        memory = rw (← e) (sym (ap (λ (u : Device E.State). u.memory) (if_none-some k _ _ some)));
        answer = rw (← e) (sym (if_none-some k done (refused k) some));
      }

  pub starts-accepted : {s' : E.State} {m' : List Float} {a : Reply} → start_number E x (length m) ≡ 0
      → s' ≡ E.fresh (E.start_settings x)
      → m' ≡ zeros (length m)
      → a ≡ done
      → Starts E x m s' m' a
  starts-accepted e p q r = record { state = rw e p; memory = rw e q; answer = rw e r }

  -- by what its tests came to
  pub starts-clears : {A : Type 0} (o : Result A Refusal) {s' : E.State} {m' : List Float} {o' : Result (Unit {0}) Refusal} → number_of o ≡ start_number E x (length m)
      → s' ≡ if_none (number_of o) (E.fresh (E.start_settings x)) E.blank
      → m' ≡ if_none (number_of o) (zeros (length m)) m
      → o' ≡ result_and o (Ok tt)
      → Starts E x m s' m' (outcome_reply o')
  starts-clears o e p q r = go (number_of o) e p q (ap outcome_reply r ∙ outcome-reply o)
    where
      go : (k : ℕ) {s' : E.State} {m' : List Float} {a : Reply} → k ≡ start_number E x (length m) → s' ≡ if_none k (E.fresh (E.start_settings x)) E.blank
          → m' ≡ if_none k (zeros (length m)) m
          → a ≡ if_none k done (refused k)
          → Starts E x m s' m' a
      go zero e p q r = starts-accepted (sym e) p q r
      go (suc k) e p q r = rw (p, q, r) (starts-refused (suc k) e (omega arith))

-- ---- the table in its order. Each number k is known as a function answers it: k ≡ the row's number

module _ (E : Effect) (n : ℕ) (s : E.State) where
  -- 4, of any call after the start
  pub state-refused : (c : CallOf E) → E.state_fits s ≡ false → ◌≡◌ {A = ℕ} 4 (number_in E c n s)
  state-refused c e = rw e

  -- 4, and without it the rest of the row: f is the state test's answer, and j the number of the rest
  pub state-row : (c : CallOf E) {f : Bool} {j k : ℕ} → f ≡ E.state_fits s → (E.state_fits s ≡ true → j ≡ number_now E c n s) → k ≡ cond f j 4
      → k ≡ number_in E c n s
  state-row c {f} {j} e rest r = r ∙ ap (λ (b : Bool). cond b j 4) e ∙ go (E.state_fits s) rest
    where
      go : (b : Bool) → (b ≡ true → j ≡ number_now E c n s) → cond b j 4 ≡ cond b (number_now E c n s) 4
      go true h = h refl
      go false h = refl

  -- Tick: the first of 7 and 3; and past 3 the first of 7, 5 and 6. A turn's number of 0, as of an effect all of whose ticks come in turn, computes away in `first`.
  pub tick-memory : (t : E.Tick) {k : ℕ} → E.state_fits s ≡ true → k ≡ first (E.turn_number t s) (memory_number (E.places (E.settings s)) n) → k ≢ 0
      → k ≡ number_in E (tick t) n s
  tick-memory t {k} f e some =
      let others = E.tick_number t (E.settings s) in
      rw f
      (sym (first_some k others some) ∙ ap (λ (a : ℕ). first a others) e ∙ sym (first-assoc (E.turn_number t s) (memory_number (E.places (E.settings s)) n) others))

  pub tick-number : (t : E.Tick) {k : ℕ} → E.state_fits s ≡ true → 0 ≡ memory_number (E.places (E.settings s)) n
      → k ≡ first (E.turn_number t s) (E.tick_number t (E.settings s))
      → k ≡ number_in E (tick t) n s
  tick-number t f z e = rw (f, ← z) e

-- Along a run every state passes the state test, and state and memory are what the arguments tell. Assumes the effect's laws.
use Prim.Native.Nat.{ℕ, zero, suc, ◌≤◌}
use mathlib.Core.Path.{◌≡◌, refl, sym, ap, ◌∙◌, subst}
use mathlib.Core.Bool.{true}
use mathlib.Core.List.{List, [], ◌∷◌}
use lib.ListN.{length, length-replicate}
use Rattle.float64.specs.Number.{plus_zero}
use Rattle.common.specs.Line.{zeros}
use Rattle.effect.specs.Effect.{Effect, laid}
use Rattle.effect.specs.Run.{tick, retune, reset, ask, CallOf, Device, if_none, number_for, turn_of, number_now, number_at, start, changed, step, after, Run, final}
use Rattle.effect.specs.Trace.{Trace, laid_out, added, trace, traced_from, traced}
use Rattle.effect.proofs.Laws.{Laws, InTurn}
use Rattle.effect.proofs.Memory.{length-laid, laid-append}
use Rattle.effect.proofs.Table.{none_first, settings-accepted, tick-accepted, Accepted}

-- what holds of a unit along a run in a memory of n places
pub record InRun (E : Effect) (n : ℕ) (h : Device E.State) : Type 0 where
  pub size : length h.memory ≡ n
  pub state_fits : E.state_fits h.state ≡ true
  pub enough : E.places (E.settings h.state) ≤ n

module _ (E : Effect) where
  -- cause 4 never applies
  pub number_is : {n : ℕ} {h : Device E.State} (c : CallOf E) → InRun E n h → number_at E c h ≡ number_now E c n h.state
  number_is c i = rw (i.state_fits, i.size)

  -- where all ticks come in turn, acceptance is settled by the arguments, the memory's length and the settings in force
  pub number-in-turn : InTurn E → (n : ℕ) (c : CallOf E) (s : E.State) → number_now E c n s ≡ number_for E c n (E.settings s)
  number-in-turn turns n (tick t) s = rw (turns t s)
  number-in-turn turns n (retune r) s = refl
  number-in-turn turns n reset s = refl
  number-in-turn turns n ask s = refl

  pub number_by : InTurn E → {n : ℕ} {h : Device E.State} {k : E.Settings} (c : CallOf E) → InRun E n h → E.settings h.state ≡ k
      → number_at E c h ≡ number_for E c n k
  number_by turns {n} {h} c i e = number_is c i ∙ number-in-turn turns n c h.state ∙ ap (λ (k : E.Settings). number_for E c n k) e

  -- what holds of the unit, and after the call if that is accepted, holds after the call
  pub step-cases : (P : Device E.State → Type 0) {n : ℕ} {h : Device E.State} (c : CallOf E) → InRun E n h → P h
      → (number_now E c n h.state ≡ 0 → P (changed E c h)) → P (step E c h)
  step-cases P {n} {h} c i p q = rw (number_is c i) (go (number_now E c n h.state) refl)
    where
      go : (k : ℕ) → number_now E c n h.state ≡ k → P (if_none k (changed E c h) h)
      go zero e = q e
      go (suc k) e = p

  -- a clearing leaves +0 in every place
  pub retune-clears : (r : E.Retune) (h : Device E.State) → (changed E (retune r) h).memory ≡ zeros (length h.memory)
  retune-clears r h = refl

  pub reset-clears : (h : Device E.State) → (changed E reset h).memory ≡ zeros (length h.memory)
  reset-clears h = refl

  pub length-changed : (c : CallOf E) (h : Device E.State) → length (changed E c h).memory ≡ length h.memory
  length-changed (tick t) h = length-laid (E.writes t h.state h.memory) h.memory
  length-changed (retune r) h = rw (retune-clears r h) (length-replicate _ _)
  length-changed reset h = rw (reset-clears h) (length-replicate _ _)
  length-changed ask h = refl

module _ (E : Effect) (laws : Laws E) where
  pub changed-fits : (c : CallOf E) (h : Device E.State) → Accepted E (length h.memory) c h.state → E.state_fits (changed E c h).state ≡ true
  changed-fits (tick t) h a =
      let v = tick-accepted E (length h.memory) t (E.settings h.state) a.number in
      laws.next_fits t h.state h.memory a.state_fits v.enough v.number
  changed-fits (retune r) h a =
      let k = E.retune_settings r (E.settings h.state) in
      laws.retuned-fits r h.state (settings-accepted E (length h.memory) k a.number).number a.state_fits
  changed-fits reset h a = laws.reset-fits h.state a.state_fits
  changed-fits ask h a = a.state_fits

  -- an accepted call leaves settings that the memory has the places for
  changed-enough : (n : ℕ) (c : CallOf E) (h : Device E.State) → E.places (E.settings h.state) ≤ n → number_for E c n (E.settings h.state) ≡ 0
      → E.places (E.settings (changed E c h).state) ≤ n
  changed-enough n (tick t) h l e = rw (laws.next-settings t h.state h.memory) l
  changed-enough n (retune r) h l e =
      let k = E.retune_settings r (E.settings h.state) in
      rw (laws.retuned-settings k h.state) (settings-accepted E n k e).enough
  changed-enough n reset h l e = rw (laws.fresh-settings (E.settings h.state)) l
  changed-enough n ask h l e = l

  pub start-in : (x : Run E) → InRun E (length x.memory) (start E x.handed x.memory)
  start-in x =
      let k = E.start_settings x.handed in
      let v = settings-accepted E (length x.memory) k x.accepted in
      record {
        size = rw x.accepted (length-replicate _ _);
        state_fits = rw x.accepted (laws.start_fits x.handed v.number);
        enough = rw (x.accepted, laws.fresh-settings k) v.enough;
      }

  pub changed-in : {n : ℕ} {h : Device E.State} (c : CallOf E) → InRun E n h → number_now E c n h.state ≡ 0 → InRun E n (changed E c h)
  changed-in {n} {h} c i e =
      let v = none_first (turn_of E c h.state) (number_for E c n (E.settings h.state)) e in
      record {
        size = length-changed E c h ∙ i.size;
        state_fits = changed-fits c h (record { state_fits = i.state_fits; turn = v.0; number = rw i.size v.1 });
        enough = changed-enough n c h i.enough v.1;
      }

  pub step_in : {n : ℕ} {h : Device E.State} (c : CallOf E) → InRun E n h → InRun E n (step E c h)
  step_in {n} c i = step-cases E (λ h. InRun E n h) c i i (changed-in c i)

  pub after-in : {n : ℕ} {h : Device E.State} (cs : List (CallOf E)) → InRun E n h → InRun E n (after E cs h)
  unfolding after
  after-in {n} {h} [] i = i
  after-in {n} {h} (c ∷ cs) i = after-in {n = n} {h = step E c h} cs (step_in c i)

  pub run_in : (x : Run E) → InRun E (length x.memory) (final E x)
  run_in x = after-in x.calls (start-in x)

  -- induction along a run: what every accepted call keeps, the calls keep
  pub along : (P : Device E.State → Type 0) {n : ℕ} {h : Device E.State} (cs : List (CallOf E)) → InRun E n h → P h
      → ((u : Device E.State) (c : CallOf E) → InRun E n u → P u → P (changed E c u))
      → P (after E cs h)
  unfolding after
  along P {n} {h} [] i p keep = p
  along P {n} {h} (c ∷ cs) i p keep = along P {n = n} {h = step E c h} cs (step_in c i) (step-cases E P c i p (λ e. keep h c i p)) keep

  -- ---- state and memory are those of the trace

  all-places : (n : ℕ) (t : Trace E.State) → length (laid t.written (zeros n)) ≡ n
  all-places n t = length-laid t.written (zeros n) ∙ length-replicate n plus_zero

  changed-traced : (n : ℕ) (t : Trace E.State) (c : CallOf E)
      → changed E c (laid_out n t) ≡ laid_out n (record { state = (changed E c (laid_out n t)).state; written = added E c (laid_out n t) t.written })
  changed-traced n t (tick a) =
      let m = laid t.written (zeros n) in
      let e = laid-append t.written (E.writes a t.state m) (zeros n) in
      λ i. record { state = E.next a t.state m; memory = sym e i }
  changed-traced n t (retune r) = λ i. record { state = E.retuned (E.retune_settings r (E.settings t.state)) t.state; memory = zeros (all-places n t i) }
  changed-traced n t reset = λ i. record { state = E.fresh (E.settings t.state); memory = zeros (all-places n t i) }
  changed-traced n t ask = refl

  step-traced : {n : ℕ} (c : CallOf E) (t : Trace E.State) → InRun E n (laid_out n t) → step E c (laid_out n t) ≡ laid_out n (trace E n c t)
  step-traced {n} c t i = rw (number_is E c i) (go (number_now E c n t.state))
    where
      t' : Trace E.State
      t' = record { state = (changed E c (laid_out n t)).state; written = added E c (laid_out n t) t.written }

      go : (k : ℕ) → if_none k (changed E c (laid_out n t)) (laid_out n t) ≡ laid_out n (if_none k t' t)
      go zero = changed-traced n t c
      go (suc k) = refl

  after-traced : {n : ℕ} (cs : List (CallOf E)) (t : Trace E.State) → InRun E n (laid_out n t) → after E cs (laid_out n t) ≡ laid_out n (traced_from E n cs t)
  unfolding after traced_from
  after-traced [] t i = refl
  after-traced {n} (c ∷ cs) t i =
      let e = step-traced c t i in
      ap (λ (h : Device E.State). after E cs h) e
      ∙ after-traced cs (trace E n c t) (subst (λ (h : Device E.State). InRun E n h) e (step_in c i))

  pub run-traced : (x : Run E) → final E x ≡ laid_out (length x.memory) (traced E x.handed (length x.memory) x.calls)
  run-traced x =
      let e : start E x.handed x.memory ≡ laid_out (length x.memory) (record { state = E.fresh (E.start_settings x.handed); written = [] }) =
      rw x.accepted in
      ap (λ (h : Device E.State). after E x.calls h) e
      ∙ after-traced x.calls _ (subst (λ (h : Device E.State). InRun E (length x.memory) h) e (start-in x))

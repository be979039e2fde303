-- A silent unit stays silent, and a calm one calm, of every effect that has the laws. Assumes them.
use Rattle.std.proofs.Common.{◌≡◌, ℕ, ◌≤◌, ◌↔◌, Bool, true, ◌&&◌, List, length, get_or, refl, sym, ap, ◌∙◌}
use mathlib.Core.Bool.{and-true}
use lib.Ieee.{nan}
use Rattle.float64.specs.Number.{is_zero}
use Rattle.float64.proofs.Tests.{both, both-true}
use Rattle.port.specs.Answer.{Reply, refused}
use Rattle.port.specs.Answer as answer
use Rattle.common.specs.Line.{zeros, all_zero}
use Rattle.effect.specs.Parts.{held_in}
use Rattle.effect.specs.Effect.{Effect, InUse, laid}
use Rattle.effect.specs.Run.{tick, retune, reset, ask, CallOf, Device, number_at, is_silent, says, step, reply, after, replies, Run, final}
use Rattle.effect.specs.EachTick.{Meets, EachTick}
use Rattle.effect.specs.Counts.{TrueCount, Counts}
use Rattle.effect.specs.StaysSilent.{soundless, plays_zeros, each_reply, all_soundless, all_play_zeros, ZeroAudio, is_calm, WhenCalm, AnswersZeros, Silence, StaysSilent, StaysCalm}
use Rattle.effect.proofs.Laws.{Laws}
use Rattle.effect.proofs.EachTick.{if_none-cases, CallsKeep, step-keeps, along-calls}
use Rattle.effect.proofs.CountLaws.{CountLaws}
use Rattle.effect.proofs.Counts.{calls-keep, after-true, counted-full, counts}
use Rattle.effect.proofs.Runs.{changed-fits, run_in, after-in}
use Rattle.effect.proofs.SilentLaws.{SilentTick, SilentLaws}
use Rattle.effect.proofs.Parts.{cleared-parts, zero_in, parts-zero-by, zeros-laid}
use Rattle.effect.proofs.Table.{accepted, tick-accepted}

module _ (E : Effect) (calm : E.State → Bool) where
  -- calm, by its two halves
  halves : (h : Device E.State) → is_calm E calm h ≡ true → (calm h.state ≡ true) × (all_zero (held_in (E.parts (E.settings h.state)) h.memory) ≡ true)
  halves h d = both (calm h.state) (all_zero (held_in (E.parts (E.settings h.state)) h.memory)) d

  silent-tick : WhenCalm E calm (λ t h. SilentTick E calm t h.state h.memory)
  silent-tick t h e z d =
      let a = accepted E (length h.memory) (tick t) h.state e in
      let row = tick-accepted E (length h.memory) t (E.settings h.state) a.number in
      let p = halves h d in
      record { state_fits = a.state_fits; turn = a.turn; enough = row.enough; number = row.number; audio = z; state_calm = p.0; zeros = p.1 }

  -- a calm state beside a cleared memory
  cleared_calm : (s : E.State) (n : ℕ) → calm s ≡ true → is_calm E calm (record { state = s; memory = zeros n }) ≡ true
  cleared_calm s n e = both-true e (cleared-parts (E.parts (E.settings s)) n)

-- ---- what silent says, and that a clearing leaves any unit silent

module _ (E : Effect) (laws : Laws E) where
  means : (h : Device E.State) → E.places (E.settings h.state) ≤ length h.memory
      → (is_silent E h ≡ true) ↔ ((E.quiet h.state ≡ true) × ((p : ℕ) → InUse E (E.settings h.state) p → is_zero (get_or h.memory p nan) ≡ true))
  means h l =
      let k = E.settings h.state in (
        (λ d. let b = halves E E.quiet h d in (b.0, λ p u. zero_in 0 (E.places k) (E.parts k) h.memory (laws.in_order k) l b.1 u)),
        (λ b. both-true b.0 (parts-zero-by (E.parts k) h.memory b.1)),
      )

  pub silence : ((k : E.Settings) → E.quiet (E.fresh k) ≡ true) → ((k : E.Settings) (s : E.State) → E.quiet (E.retuned k s) ≡ true) → Silence E
  silence fresh retuned =
      record {
        means = means;
        starts = λ x m e. let k = E.start_settings x in rw e (cleared_calm E E.quiet (E.fresh k) (length m) (fresh k));
        resets = λ h e. let k = E.settings h.state in rw e (cleared_calm E E.quiet (E.fresh k) (length h.memory) (fresh k));
        retunes = λ r h e. let k = E.retune_settings r (E.settings h.state) in rw e (cleared_calm E E.quiet (E.retuned k h.state) (length h.memory) (retuned k h.state));
      }

-- ---- a calm unit stays calm

module _ (E : Effect) (laws : Laws E) (calm : E.State → Bool) (silent : SilentLaws E calm) where
  abbrev Calm : Device E.State → Type 0
  Calm h = is_calm E calm h ≡ true

  -- an accepted call leaves a calm unit calm
  keeps : CallsKeep E (ZeroAudio E) Calm
  keeps (tick t) h e z d =
      let s = h.state in
      let m = h.memory in
      let u = silent-tick E calm t h e z d in
      let zeros = zeros-laid (E.parts (E.settings s)) (E.writes t s m) m (silent.writes t s m u) u.zeros in
      both-true (silent.next-calm t s m u) (ap (λ (k : E.Settings). all_zero (held_in (E.parts k) (laid (E.writes t s m) m))) (laws.next-settings t s m) ∙ zeros)
  keeps (retune r) h e z d =
      let k = E.retune_settings r (E.settings h.state) in
      cleared_calm E calm (E.retuned k h.state) (length h.memory) (silent.retuned-calm k h.state)
  keeps reset h e z d = let k = E.settings h.state in cleared_calm E calm (E.fresh k) (length h.memory) (silent.fresh-calm k)
  keeps ask h e z d = d

  answers : WhenCalm E calm (AnswersZeros E)
  answers t h e z d = (rw e, silent.answers t h.state h.memory (silent-tick E calm t h e z d))

  stays : WhenCalm E calm (λ t h. Calm (step E (tick t) h))
  stays t h e z d = step-keeps E (ZeroAudio E) Calm keeps (tick t) h (λ f. z) d

  -- what each accepted call keeps of a unit, and a test that its reply passes then: each reply passes it along the calls, if a refusal does
  module _ (Q : Device E.State → Type 0) (keeps : CallsKeep E (ZeroAudio E) Q) (test : Reply → Bool) where
    each-passes : ((c : CallOf E) (h : Device E.State) → number_at E c h ≡ 0 → Meets E (ZeroAudio E) c → Q h → test (says E c h) ≡ true)
        → ((n : ℕ) → test (refused n) ≡ true) → (cs : List (CallOf E)) (h : Device E.State) → EachTick E (ZeroAudio E) cs h → Q h
        → (each_reply test (replies E cs h) ≡ true) × Q (after E cs h)
    unfolding each_reply replies after
    each-passes passes refusals =
        along-calls E (ZeroAudio E) Q keeps (λ cs h. (each_reply test (replies E cs h) ≡ true) × Q (after E cs h))
        (λ h q. (refl, q))
        (λ c cs h z q rest.
        let now = if_none-cases (λ r. test r ≡ true) (number_at E c h) (λ e. passes c h e (z e) q) (refusals (number_at E c h)) in
        (both-true now rest.0, rest.1))

  says-zeros : (c : CallOf E) (h : Device E.State) → number_at E c h ≡ 0 → Meets E (ZeroAudio E) c → Calm h → plays_zeros (says E c h) ≡ true
  unfolding all_zero
  says-zeros (tick t) h e z d = (answers t h e z d).1
  says-zeros (retune r) h e z d = refl
  says-zeros reset h e z d = refl
  says-zeros ask h e z d = refl

  goes-on : (cs : List (CallOf E)) (h : Device E.State) → EachTick E (ZeroAudio E) cs h → Calm h → (all_play_zeros (replies E cs h) ≡ true) × Calm (after E cs h)
  unfolding all_zero
  goes-on = each-passes Calm keeps plays_zeros says-zeros (λ n. refl)

module _ (E : Effect) (laws : Laws E) (own : CountLaws E) where
  told : Counts E
  told = counts E laws own

  -- a run that is answered "silent" has left a silent unit
  silent-run : (x : Run E) → reply E ask (final E x) ≡ answer.silent true → is_silent E (final E x) ≡ true
  silent-run x e = ap said (sym (told.answers x) ∙ e)
    where
      said : Reply → Bool
      said (answer.silent b) = b
      said (answer.played l age) = true
      said answer.done = true
      said (refused n) = true

  -- ---- a calm unit, whose state is not always quiet

  module _ (calm : E.State → Bool) (silent : SilentLaws E calm) (quiet-calm : (s : E.State) → E.state_fits s ≡ true → E.quiet s ≡ true → calm s ≡ true) where
    silent-calm : (h : Device E.State) → E.state_fits h.state ≡ true → is_silent E h ≡ true → is_calm E calm h ≡ true
    silent-calm h f d = let b = halves E E.quiet h d in both-true (quiet-calm h.state f b.0) b.1

    -- with a true count the question says silent just where the state is quiet
    asks : (h : Device E.State) → E.state_fits h.state ≡ true → TrueCount E h → is_calm E calm h ≡ true → reply E ask h ≡ answer.silent (E.quiet h.state)
    asks h f counted d =
        told.true_answers h f counted
        ∙ ap (λ (b : Bool). answer.silent (E.quiet h.state && b)) (halves E calm h d).1
        ∙ ap answer.silent (and-true (E.quiet h.state))

    pub stays-calm : StaysCalm E calm
    stays-calm =
        record {
          silent-calm = silent-calm;
          calm-silent = λ h d q. both-true q (halves E calm h d).1;
          answers = answers E laws calm silent;
          stays = stays E laws calm silent;
          asks = λ h e counted d. asks h (accepted E (length h.memory) ask h.state e).state_fits counted d;
          goes-on = goes-on E laws calm silent;
          on_runs = λ x e cs z.
              let u = run_in E laws x in
              let on = goes-on E laws calm silent cs (final E x) z (silent-calm (final E x) u.state_fits (silent-run x e)) in
              (on.0, asks (after E cs (final E x)) (after-in E laws cs u).state_fits (after-true E laws own cs (final E x) (told.on_runs x)) on.1);
        }

  -- ---- a silent unit stays silent

  module _ (silent : SilentLaws E E.quiet) where
    -- silent, with a true count and a state that passes
    record Shown (h : Device E.State) : Type 0 where
      state_fits : E.state_fits h.state ≡ true
      counted : TrueCount E h
      zeros : is_silent E h ≡ true

    shown-keeps : CallsKeep E (ZeroAudio E) Shown
    shown-keeps c h e z q =
        record {
          state_fits = changed-fits E laws c h (accepted E (length h.memory) c h.state e);
          counted = calls-keep E laws own (ZeroAudio E) c h e z q.counted;
          zeros = keeps E laws E.quiet silent c h e z q.zeros;
        }

    says-soundless : (c : CallOf E) (h : Device E.State) → number_at E c h ≡ 0 → Meets E (ZeroAudio E) c → Shown h → soundless (says E c h) ≡ true
    says-soundless (tick t) h e z q = (answers E laws E.quiet silent t h e z q.zeros).1
    says-soundless (retune r) h e z q = refl
    says-soundless reset h e z q = refl
    says-soundless ask h e z q = counted-full E laws own h q.counted ∙ q.zeros

    on-runs : (x : Run E) → reply E ask (final E x) ≡ answer.silent true → (cs : List (CallOf E)) → EachTick E (ZeroAudio E) cs (final E x)
        → (all_soundless (replies E cs (final E x)) ≡ true) × (reply E ask (after E cs (final E x)) ≡ answer.silent true)
    on-runs x e cs z =
        let first : Shown (final E x) = record { state_fits = (run_in E laws x).state_fits; counted = told.on_runs x; zeros = silent-run x e } in
        let on = each-passes E laws E.quiet silent Shown shown-keeps soundless says-soundless (λ n. refl) cs (final E x) z first in
        (on.0, told.true_answers (after E cs (final E x)) on.1.state_fits on.1.counted ∙ ap answer.silent on.1.zeros)

    pub stays-silent : StaysSilent E
    stays-silent =
        record {
          silence = silence E laws silent.fresh-calm silent.retuned-calm;
          answers = answers E laws E.quiet silent;
          stays = stays E laws E.quiet silent;
          goes-on = goes-on E laws E.quiet silent;
          on_runs = on-runs;
        }

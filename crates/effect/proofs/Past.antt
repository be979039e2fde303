-- After any run each line, read newest to oldest, is the recent past. Assumes the effect's laws.
use Prim.Native.Nat.{ℕ, zero, suc, ◌+◌, ◌-◌, ◌*◌, ◌≤◌, ◌<◌}
use native.Mathlib.Omega.{arith}
use mathlib.Core.Path.{◌≡◌, refl, ap, ◌∙◌, subst}
use mathlib.Core.Bool.{true}
use mathlib.Core.List.{List, [], ◌∷◌}
use lib.ListN.{length, take}
use Rattle.common.specs.Line.{zeros, newest_first}
use Rattle.common.proofs.Ring.{newest-clear}
use Rattle.effect.specs.Effect.{Effect, laid}
use Rattle.effect.specs.Run.{tick, retune, reset, ask, CallOf, Device, if_none, number_for, start, changed, step, after, Run, final}
use Rattle.effect.specs.Lines.{Lines, line_of}
use Rattle.effect.specs.Past.{Past, cleared_past, put, past_from, recent_past}
use Rattle.effect.proofs.Laws.{Laws}
use Rattle.effect.proofs.LineLaws.{LineLaws}
use Rattle.effect.proofs.Lines.{line-end, push-each}
use Rattle.effect.proofs.Runs.{InRun, number-in-turn, number_by, changed-in, step_in, start-in}

-- a unit shows a past: its settings are in force, and its samples are each line
pub record Shows (E : Effect) (I : Lines E) (h : Device E.State) (p : Past E.Settings) : Type 0 where
  pub settings : E.settings h.state ≡ p.settings
  pub lines : (i : ℕ) → i < I.count → line_of E I i h ≡ p.samples

module _ (E : Effect) (I : Lines E) (laws : Laws E) (lined : LineLaws E I) where
  -- line i lies in a memory that has the places needed
  line-in : (k : E.Settings) (n i : ℕ) → E.places k ≤ n → i < I.count → i * I.line_length k + I.line_length k ≤ n
  line-in k n i r l = omega (arith, line-end i I.count (I.line_length k) l, lined.fills k)

  cleared-shows : (n : ℕ) (k : E.Settings) (s : E.State) → E.state_fits s ≡ true → E.places (E.settings s) ≤ n → E.settings s ≡ k
      → Shows E I (record { state = s; memory = zeros n }) (cleared_past E I k)
  cleared-shows n k s f r e =
      let L = I.line_length (E.settings s) in
      record {
        settings = e;
        lines = λ i l. newest-clear (i * L) L (I.position s) n (lined.inside s f) (line-in (E.settings s) n i r l) ∙ ap (λ (q : E.Settings). zeros (I.line_length q)) e;
      }

  ticked-line : {n : ℕ} {h : Device E.State} (t : E.Tick) → InRun E n h → (i : ℕ) → i < I.count
      → line_of E I i (changed E (tick t) h) ≡ I.sample t ∷ take (I.line_length (E.settings h.state) - 1) (line_of E I i h)
  ticked-line {n} {h} t r i l =
      let s = h.state in
      let m = h.memory in
      let k = E.settings s in
      (λ j. newest_first (i * I.line_length (laws.next-settings t s m j)) (I.line_length (laws.next-settings t s m j)) (lined.next-position t s m j) (laid (lined.stores t s m j) m))
      ∙ push-each I.count 0 i (I.line_length k) (I.position s) m (I.sample t) (lined.inside s r.state_fits) (omega arith) (omega arith)
      (omega (arith, line-in k n i r.enough l, r.size))

  pub changed-shows : {n : ℕ} {h : Device E.State} {p : Past E.Settings} (c : CallOf E) → InRun E n h → InRun E n (changed E c h) → Shows E I h p
      → Shows E I (changed E c h) (put E I c p)
  changed-shows {n} {h} {p} (tick t) r r' v =
      record {
        settings = laws.next-settings t h.state h.memory ∙ v.settings;
        lines = λ i l. ticked-line t r i l ∙ (λ j. I.sample t ∷ take (I.line_length (v.settings j) - 1) (v.lines i l j));
      }
  changed-shows {n} {h} {p} (retune a) r r' v =
      let k = E.retune_settings a (E.settings h.state) in
      subst (λ (q : E.Settings). Shows E I (changed E (retune a) h) (cleared_past E I (E.retune_settings a q))) v.settings
      (cleared-shows (length h.memory) k (E.retuned k h.state) r'.state_fits (omega (arith, r'.enough, r.size)) (laws.retuned-settings k h.state))
  changed-shows {n} {h} {p} reset r r' v =
      let k = E.settings h.state in
      subst (λ (q : E.Settings). Shows E I (changed E reset h) (cleared_past E I q)) v.settings
      (cleared-shows (length h.memory) k (E.fresh k) r'.state_fits (omega (arith, r'.enough, r.size)) (laws.fresh-settings k))
  changed-shows ask r r' v = v

  step-shows : {n : ℕ} {h : Device E.State} {p : Past E.Settings} (c : CallOf E) → InRun E n h → Shows E I h p
      → Shows E I (step E c h) (if_none (number_for E c n p.settings) (put E I c p) p)
  step-shows {n} {h} {p} c r v = rw (number_by E lined.in_turn c r v.settings) (go (number_for E c n p.settings) refl)
    where
      go : (k : ℕ) → number_for E c n p.settings ≡ k → Shows E I (if_none k (changed E c h) h) (if_none k (put E I c p) p)
      go zero e = changed-shows c r (changed-in E laws c r (number-in-turn E lined.in_turn n c h.state ∙ ap (λ (q : E.Settings). number_for E c n q) v.settings ∙ e)) v
      go (suc k) e = v

  after-shows : {n : ℕ} {h : Device E.State} {p : Past E.Settings} (cs : List (CallOf E)) → InRun E n h → Shows E I h p
      → Shows E I (after E cs h) (past_from E I n cs p)
  unfolding after past_from
  after-shows {n} {h} {p} [] r v = v
  after-shows {n} {h} {p} (c ∷ cs) r v = after-shows {n = n} {h = step E c h} cs (step_in E laws c r) (step-shows c r v)

  start-shows : (x : Run E) → Shows E I (start E x.handed x.memory) (cleared_past E I (E.start_settings x.handed))
  start-shows x =
      let k = E.start_settings x.handed in
      let r = rw x.accepted at (start-in E laws x) in
      rw x.accepted (cleared-shows (length x.memory) k (E.fresh k) r.state_fits r.enough (laws.fresh-settings k))

  pub run-shows : (x : Run E) → Shows E I (final E x) (recent_past E I x.handed (length x.memory) x.calls)
  run-shows x = after-shows x.calls (start-in E laws x) (start-shows x)

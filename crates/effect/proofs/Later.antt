-- What later ticks are answered is worked out from the recent past and the phases. Assumes the effect's laws.
use Prim.Native.Nat.{ℕ, zero, suc, ◌≤◌}
use native.Mathlib.Omega.{arith}
use mathlib.Core.Path.{◌≡◌, refl, ap, ◌∙◌}
use mathlib.Core.Bool.{true}
use mathlib.Core.List.{List, [], ◌∷◌}
use Rattle.port.specs.Answer.{Reply, played, refused}
use Rattle.effect.specs.Effect.{Effect}
use Rattle.effect.specs.Run.{tick, retune, reset, ask, CallOf, Device, if_none, number_for, changed, says, step, reply, replies}
use Rattle.effect.specs.Lines.{Lines}
use Rattle.effect.specs.Past.{Past, put}
use Rattle.effect.specs.Later.{is_refusal, idles, Among, end, later, idle, picked}
use Rattle.effect.proofs.Laws.{Laws, InTurn}
use Rattle.effect.proofs.LineLaws.{LineLaws}
use Rattle.effect.proofs.Table.{if_none-both, memory-enough}
use Rattle.effect.proofs.Runs.{InRun, number-in-turn, number_by, changed-in}
use Rattle.effect.proofs.Past.{Shows, changed-shows}

-- the replies to ticks, by the recent past and the phases
pub heard : (E : Effect) (I : Lines E) → LineLaws E I → Past E.Settings → I.Phase → List E.Tick → List Reply
heard E I lined p f [] = []
heard E I lined p f (t ∷ ts) =
    if_none (E.tick_number t p.settings)
    (played (lined.played t p.settings f p.samples) (lined.age t p.settings) ∷ heard E I lined (put E I (tick t) p) (lined.advanced t p.settings f) ts)
    (refused (E.tick_number t p.settings) ∷ heard E I lined p f ts)

pub refusal-skips : {A : Type 0} (a : ℕ) (x y : A) → is_refusal a ≡ true → if_none a x y ≡ y
refusal-skips zero x y e = let z : ◌≡◌ {A = ℕ} 0 1 = cc in absurd (omega arith)
refusal-skips (suc a) x y e = refl

-- silent questions and refused calls leave the unit as it was
pub idle-still : (E : Effect) → InTurn E → {n : ℕ} {h : Device E.State} {k : E.Settings} (c : CallOf E) → InRun E n h → E.settings h.state ≡ k
    → idles c (number_for E c n k) ≡ true → step E c h ≡ h
idle-still E turns {n} {h} {k} c r e i = rw (number_by E turns c r e) (go c (number_for E c n k) i)
  where
    go : (c : CallOf E) (a : ℕ) → idles c a ≡ true → if_none a (changed E c h) h ≡ h
    go (tick t) a f = refusal-skips a (changed E (tick t) h) h f
    go (retune b) a f = refusal-skips a (changed E (retune b) h) h f
    go reset a f = refusal-skips a (changed E reset h) h f
    go ask a f = if_none-both (λ u. u ≡ h) a refl refl

module _ (E : Effect) (I : Lines E) (laws : Laws E) (lined : LineLaws E I) where
  -- a run's tick is not refused for the memory's length
  tick-number-by : {n : ℕ} {h : Device E.State} {p : Past E.Settings} (t : E.Tick) → InRun E n h → Shows E I h p
      → number_for E (tick t) n p.settings ≡ E.tick_number t p.settings
  tick-number-by {n} {h} {p} t r v =
      let l : E.places p.settings ≤ n = omega (arith, r.enough, ap E.places v.settings) in
      rw (← memory-enough l)

  -- one later tick, and the rest
  next-heard : {n : ℕ} {h : Device E.State} {p : Past E.Settings} (t : E.Tick) (ts : List E.Tick) → InRun E n h → Shows E I h p
      → (rest : Device E.State → List Reply)
      → ((u : Device E.State) (q : Past E.Settings) → InRun E n u → Shows E I u q → E.settings u.state ≡ E.settings h.state → rest u ≡ heard E I lined q (I.phase u.state) ts)
      → reply E (tick t) h ∷ rest (step E (tick t) h) ≡ heard E I lined p (I.phase h.state) (t ∷ ts)
  unfolding heard
  next-heard {n} {h} {p} t ts r v rest on = rw (number_by E lined.in_turn (tick t) r v.settings ∙ tick-number-by t r v) (go (E.tick_number t p.settings) refl)
    where
      s : E.State
      s = h.state

      go : (a : ℕ) → E.tick_number t p.settings ≡ a
          → if_none a (says E (tick t) h) (refused a) ∷ rest (if_none a (changed E (tick t) h) h)
          ≡ if_none a
          (played (lined.played t p.settings (I.phase s) p.samples) (lined.age t p.settings) ∷ heard E I lined (put E I (tick t) p) (lined.advanced t p.settings (I.phase s)) ts)
          (refused a ∷ heard E I lined p (I.phase s) ts)
      go zero e =
          let e' = ap (λ (k : E.Settings). E.tick_number t k) v.settings ∙ e in
          let r' = changed-in E laws (tick t) r (number-in-turn E lined.in_turn n (tick t) s ∙ ap (λ (k : E.Settings). number_for E (tick t) n k) v.settings ∙ tick-number-by t r v ∙ e) in
          let plays = lined.plays t s h.memory p.samples r.state_fits (omega (arith, r.enough, r.size)) e' v.lines in
          let heard-on = on (changed E (tick t) h) (put E I (tick t) p) r' (changed-shows E I laws lined (tick t) r r' v) (laws.next-settings t s h.memory) in
          λ i. ((λ j. played (plays j) (lined.ages t s j)) ∙ (λ j. played (lined.played t (v.settings j) (I.phase s) p.samples) (lined.age t (v.settings j)))) i
          ∷ (heard-on ∙ (λ j. heard E I lined (put E I (tick t) p) ((lined.next-phase t s h.memory ∙ (λ l. lined.advanced t (v.settings l) (I.phase s))) j) ts)) i
      go (suc a) e = ap (λ (l : List Reply). refused (suc a) ∷ l) (on h p r v refl)

  pub picked-heard : {n : ℕ} {k : E.Settings} {ts : List E.Tick} {cs : List (CallOf E)} (a : Among E n k ts cs) (h : Device E.State) (p : Past E.Settings)
      → InRun E n h → Shows E I h p → E.settings h.state ≡ k
      → picked a (replies E cs h) ≡ heard E I lined p (I.phase h.state) ts
  unfolding picked replies heard
  picked-heard end h p r v e = refl
  picked-heard (later {t} {ts} {cs} a) h p r v e =
      next-heard t ts r v (λ u. picked a (replies E cs u)) (λ u q r' v' s. picked-heard a u q r' v' (s ∙ e))
  picked-heard (idle {c} {ts} {cs} i a) h p r v e =
      ap (λ (u : Device E.State). picked a (replies E cs u)) (idle-still E lined.in_turn c r e i) ∙ picked-heard a h p r v e

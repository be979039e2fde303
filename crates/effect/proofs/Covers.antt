-- `Among` leaves out no list of later calls that document 01 allows, and lets in no other. Assumes the effect's laws, and that all its ticks come in turn.
use Prim.Native.Nat.{ℕ, zero, suc}
use mathlib.Core.Path.{◌≡◌, refl, ap, ◌∙◌}
use mathlib.Core.Bool.{Bool, true, false, not, cond}
use mathlib.Core.List.{List, [], ◌∷◌}
use borrow.Author.Tests.{not-false}
use Rattle.effect.specs.Effect.{Effect}
use Rattle.effect.specs.Run.{tick, retune, reset, ask, CallOf, Device, if_none, number_for, step, after, final}
use Rattle.effect.specs.Later.{is_refusal, idles, Among, end, later, idle}
use Rattle.effect.specs.Covers.{is_clearing, before_clearing, taken, later_ticks, Covers}
use Rattle.effect.proofs.Laws.{Laws, InTurn}
use Rattle.effect.proofs.Table.{if_none-both}
use Rattle.effect.proofs.Runs.{InRun, number_by, step-cases, step_in, after-in, run_in}
use Rattle.effect.proofs.Later.{refusal-skips, idle-still}

-- the choice b for call 0, and those of f for the calls after it
then : Bool → (ℕ → Bool) → ℕ → Bool
then b f zero = b
then b f (suc i) = f i

module _ (E : Effect) (n : ℕ) (k : E.Settings) where
  -- ---- nothing is left out

  kept : (choice : Bool) (c : CallOf E) (ts : List E.Tick) (cs : List (CallOf E)) → is_clearing E n k c ≡ false → Among E n k ts cs
      → Among E n k (taken E n k choice c ts) (c ∷ cs)
  kept choice (tick t) ts cs e a = go (number_for E (tick t) n k) refl choice
    where
      go : (r : ℕ) → number_for E (tick t) n k ≡ r → (b : Bool) → Among E n k (if_none r (t ∷ ts) (cond b (t ∷ ts) ts)) (tick t ∷ cs)
      go zero f b = later a
      go (suc r) f true = later a
      go (suc r) f false = idle (ap is_refusal f) a
  kept choice (retune r) ts cs e a = idle (not-false (is_refusal (number_for E (retune r) n k)) e) a
  kept choice reset ts cs e a = idle (not-false (is_refusal (number_for E reset n k)) e) a
  kept choice ask ts cs e a = idle refl a

  all : (chosen : ℕ → Bool) (cs : List (CallOf E)) → Among E n k (later_ticks E n k chosen (before_clearing E n k cs)) (before_clearing E n k cs)
  unfolding later_ticks before_clearing
  all chosen [] = end
  all chosen (c ∷ cs) = go (is_clearing E n k c) refl (all (λ i. chosen (suc i)) cs)
    where
      bs : List (CallOf E)
      bs = before_clearing E n k cs

      go : (b : Bool) → is_clearing E n k c ≡ b → Among E n k (later_ticks E n k (λ i. chosen (suc i)) bs) bs
          → Among E n k (later_ticks E n k chosen (cond b [] (c ∷ bs))) (cond b [] (c ∷ bs))
      go true e a = end
      go false e a = kept (chosen 0) c (later_ticks E n k (λ i. chosen (suc i)) bs) bs e a

  -- ---- nothing else is let in

  tick-taken : (t : E.Tick) (ts : List E.Tick) → taken E n k true (tick t) ts ≡ t ∷ ts
  tick-taken t ts = if_none-both (λ l. l ≡ t ∷ ts) (number_for E (tick t) n k) refl refl

  no-clearing : (c : CallOf E) → idles c (number_for E c n k) ≡ true → is_clearing E n k c ≡ false
  no-clearing (tick t) e = refl
  no-clearing (retune r) e = ap not e
  no-clearing reset e = ap not e
  no-clearing ask e = refl

  not_taken : (c : CallOf E) (ts : List E.Tick) → idles c (number_for E c n k) ≡ true → taken E n k false c ts ≡ ts
  not_taken (tick t) ts e = refusal-skips (number_for E (tick t) n k) (t ∷ ts) ts e
  not_taken (retune r) ts e = refl
  not_taken reset ts e = refl
  not_taken ask ts e = refl

  before-all : {ts : List E.Tick} {cs : List (CallOf E)} → Among E n k ts cs → before_clearing E n k cs ≡ cs
  unfolding before_clearing
  before-all end = refl
  before-all (later {t} a) = ap (λ (l : List (CallOf E)). tick t ∷ l) (before-all a)
  before-all (idle {c} i a) = rw (no-clearing c i) (ap (λ (l : List (CallOf E)). c ∷ l) (before-all a))

  choices : {ts : List E.Tick} {cs : List (CallOf E)} → Among E n k ts cs → ℕ → Bool
  choices end = λ i. false
  choices (later a) = then true (choices a)
  choices (idle i a) = then false (choices a)

  choices-take : {ts : List E.Tick} {cs : List (CallOf E)} (a : Among E n k ts cs) → later_ticks E n k (choices a) cs ≡ ts
  unfolding later_ticks choices then
  choices-take end = refl
  choices-take (later {t} {ts} a) = ap (λ (l : List E.Tick). taken E n k true (tick t) l) (choices-take a) ∙ tick-taken t ts
  choices-take (idle {c} {ts} i a) = ap (λ (l : List E.Tick). taken E n k false c l) (choices-take a) ∙ not_taken c ts i

module _ (E : Effect) (laws : Laws E) (turns : InTurn E) where
  -- such calls leave the settings in force
  same-settings : {n : ℕ} {k : E.Settings} {ts : List E.Tick} {cs : List (CallOf E)} → Among E n k ts cs → (h : Device E.State) → InRun E n h
      → E.settings h.state ≡ k → E.settings (after E cs h).state ≡ k
  unfolding after
  same-settings end h r e = e
  same-settings {n} {k} (later {t} a) h r e =
      same-settings a (step E (tick t) h) (step_in E laws (tick t) r)
      (step-cases E (λ u. E.settings u.state ≡ k) (tick t) r e (λ z. laws.next-settings t h.state h.memory ∙ e))
  same-settings (idle {c} {ts} {cs} i a) h r e =
      ap (λ (u : Device E.State). E.settings (after E cs u).state) (idle-still E turns c r e i) ∙ same-settings a h r e

  pub covers : Covers E
  covers =
      record {
        all = all E;
        only = λ n k ts cs a. (before-all E n k a, (choices E n k a, choices-take E n k a));
        numbers = λ x ts cs a c. number_by E turns c (after-in E laws cs (run_in E laws x)) (same-settings a (final E x) (run_in E laws x) refl);
      }

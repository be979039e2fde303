-- Demand 1 (docs/DEMANDS.md) holds of every effect that has the laws. Assumes them.
use Prim.Native.Nat.{ℕ, zero, suc}
use mathlib.Core.Path.{◌≡◌, refl, sym, ap, ◌∙◌, subst}
use mathlib.Core.List.{List, [], ◌∷◌, ◌++◌}
use lib.ListN.{length, get_or}
use Rattle.float64.specs.Number.{plus_zero}
use Rattle.common.specs.Line.{zeros}
use Rattle.effect.specs.Effect.{Effect, InUse, Unnamed}
use Rattle.effect.specs.Run.{tick, retune, reset, ask, CallOf, Device, number_at, start_number, started, changed, step, after, replies, Run, final}
use Rattle.effect.specs.Demand1.{Demand1, EndsCleared, at-start, at-reset, at-retune, cleared_state, initial}
use Rattle.effect.proofs.Laws.{Laws}
use Rattle.effect.proofs.Parts.{below}
use Rattle.effect.proofs.Memory.{laid-elsewhere, within-unnamed}
use Rattle.effect.proofs.Table.{if_none-both, if_none-some, accepted}
use Rattle.effect.proofs.Runs.{InRun, number_is, retune-clears, reset-clears, length-changed, changed-fits, start-in, after-in, run_in, along, run-traced}

get_or-zeros : (n p : ℕ) → get_or (zeros n) p plus_zero ≡ plus_zero
get_or-zeros zero p = refl
get_or-zeros (suc n) zero = refl
get_or-zeros (suc n) (suc p) = get_or-zeros n p

module _ (E : Effect) where
  leaves : (t : E.Tick) (h : Device E.State) (p : ℕ) → Unnamed p (E.writes t h.state h.memory)
      → get_or (step E (tick t) h).memory p plus_zero ≡ get_or h.memory p plus_zero
  leaves t h p u =
      if_none-both (λ (v : Device E.State). get_or v.memory p plus_zero ≡ get_or h.memory p plus_zero) (number_at E (tick t) h)
      (laid-elsewhere (E.writes t h.state h.memory) h.memory p plus_zero u)
      refl

  -- the last of the calls, accepted
  after_last : (bs : List (CallOf E)) (c : CallOf E) (h : Device E.State) → number_at E c (after E bs h) ≡ 0 → after E (bs ++ c ∷ []) h ≡ changed E c (after E bs h)
  unfolding after
  after_last [] c h e = rw e
  after_last (b ∷ bs) c h e = after_last bs c (step E b h) e

module _ (E : Effect) (laws : Laws E) where
  -- ---- a run that ends at a clearing

  clean : (x : Run E) (cs : List (CallOf E)) → EndsCleared E (initial E x) cs → (after E cs (initial E x)).memory ≡ zeros (length x.memory)
  unfolding after
  clean x cs at-start = rw x.accepted
  clean x cs (at-reset bs e) =
      rw (after_last E bs reset (initial E x) e) (reset-clears E (after E bs (initial E x)) ∙ ap zeros (after-in E laws bs (start-in E laws x)).size)
  clean x cs (at-retune bs r e) =
      rw (after_last E bs (retune r) (initial E x) e) (retune-clears E r (after E bs (initial E x)) ∙ ap zeros (after-in E laws bs (start-in E laws x)).size)

  cleared : (x : Run E) (cs : List (CallOf E)) (c : EndsCleared E (initial E x) cs)
      → (after E cs (initial E x)).state ≡ cleared_state E (initial E x) (E.settings (after E cs (initial E x)).state) c
  unfolding after
  cleared x cs at-start = rw x.accepted (ap E.fresh (sym (laws.fresh-settings (E.start_settings x.handed))))
  cleared x cs (at-reset bs e) =
      rw (after_last E bs reset (initial E x) e) (ap E.fresh (sym (laws.fresh-settings (E.settings (after E bs (initial E x)).state))))
  cleared x cs (at-retune bs r e) =
      let s = (after E bs (initial E x)).state in
      rw (after_last E bs (retune r) (initial E x) e)
      (ap (λ (k : E.Settings). E.retuned k s) (sym (laws.retuned-settings (E.retune_settings r (E.settings s)) s)))

  same : (x y : Run E) → EndsCleared E (initial E x) x.calls → EndsCleared E (initial E y) y.calls → (final E x).state ≡ (final E y).state
      → length x.memory ≡ length y.memory → final E x ≡ final E y
  same x y a b s n =
      let m : (final E x).memory ≡ (final E y).memory = clean x x.calls a ∙ ap zeros n ∙ sym (clean y y.calls b) in
      λ i. record { state = s i; memory = m i }

  -- ---- spare places

  abbrev SpareZero : ℕ → Device E.State → Type 0
  SpareZero p h = ¬ InUse E (E.settings h.state) p → get_or h.memory p plus_zero ≡ plus_zero

  spare-changed : (p n : ℕ) (u : Device E.State) (c : CallOf E) → InRun E n u → SpareZero p u → SpareZero p (changed E c u)
  spare-changed p n u (tick t) i z h =
      let ws = E.writes t u.state u.memory in
      let k = E.settings u.state in
      let free : ¬ InUse E k p = subst (λ (q : E.Settings). ¬ InUse E q p) (laws.next-settings t u.state u.memory) h in
      laid-elsewhere ws u.memory p plus_zero (within-unnamed (InUse E k) ws p (laws.inside t u.state u.memory i.state_fits) free) ∙ z free
  spare-changed p n u (retune r) i z h = rw (retune-clears E r u) (get_or-zeros (length u.memory) p)
  spare-changed p n u reset i z h = rw (reset-clears E u) (get_or-zeros (length u.memory) p)
  spare-changed p n u ask i z h = z h

  spare : (x : Run E) (p : ℕ) → SpareZero p (final E x)
  spare x p =
      along E laws (SpareZero p) x.calls (start-in E laws x) (rw x.accepted (λ h. get_or-zeros (length x.memory) p))
      (spare-changed p (length x.memory))

  -- ---- one call, in a run or not

  spares : (t : E.Tick) (h : Device E.State) (p : ℕ) → number_at E (tick t) h ≡ 0 → ¬ InUse E (E.settings h.state) p
      → get_or (step E (tick t) h).memory p plus_zero ≡ get_or h.memory p plus_zero
  spares t h p e l =
      let inside = laws.inside t h.state h.memory (accepted E (length h.memory) (tick t) h.state e).state_fits in
      leaves E t h p (within-unnamed (InUse E (E.settings h.state)) (E.writes t h.state h.memory) p inside l)

  pub demand-1 : Demand1 E
  demand-1 =
      record {
        memory = run-traced E laws;
        clean = λ x. clean x x.calls;
        forgets = λ x y a b s n cs.
            let e = same x y a b s n in
            (ap (λ (h : Device E.State). after E cs h) e, ap (λ (h : Device E.State). replies E cs h) e);
        cleared = λ x. cleared x x.calls;
        passes = λ x. (run_in E laws x).state_fits;
        numbers = λ x c. number_is E c (run_in E laws x);
        enough = λ x. (run_in E laws x).enough;
        in_order = laws.in_order;
        in_use = λ k p. below 0 (E.places k) (E.parts k) (laws.in_order k);
        spare = spare;
        leaves = leaves E;
        spares = spares;
        refuses = λ c h. if_none-some (number_at E c h) (changed E c h) h;
        asks = λ h. if_none-both (λ u. u ≡ h) (number_at E ask h) refl refl;
        refused-start = λ a m. if_none-some (start_number E a (length m)) (started E a m) (record { state = E.blank; memory = m });
        blank = laws.blank-refused;
        keeps-length = λ c h. if_none-both (λ (u : Device E.State). length u.memory ≡ length h.memory) (number_at E c h) (length-changed E c h) refl;
        starts = λ a m e. (start-in E laws (record { handed = a; memory = m; accepted = e; calls = [] })).state_fits;
        returns = λ c h e. rw e (changed-fits E laws c h (accepted E (length h.memory) c h.state e));
      }

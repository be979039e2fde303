-- Demand 1 (docs/DEMANDS.md) for the chorus, by the laws of its parts. Assumes nothing.
use Prim.Native.Nat.{ℕ, ◌≤◌}
use native.Mathlib.Omega.{arith}
use mathlib.Core.Path.{◌≡◌, refl}
use mathlib.Core.Bool.{true, false}
use lib.Ieee.{Float, binary64, le, lt, of_int, round}
use lib.Ieee as Ieee
use Rattle.float64.specs.Number.{plus_zero, float_of, fraction, rate_fits, phase_fits, in_range, in_unit}
use Rattle.float64.proofs.Interval.{In, point, widen}
use Rattle.common.proofs.Phases.{detuned-stays}
use Rattle.common.proofs.Ring.{next-lt}
use Rattle.effect.proofs.Parts.{first_in_order, within_first}
use Rattle.effect.proofs.Table.{none_1}
use Rattle.effect.proofs.Laws.{Laws, Below}
use Rattle.effect.specs.Demand1.{Demand1}
use Rattle.effect.proofs.Demand1.{demand-1}
use Rattle.chorus.specs.declared.Chorus.{Chorus}
use Rattle.chorus.specs.Chorus.{Tick, Phases, chorus, fits_with, state_fits, line_length, phases_of, phase_at, start_phases, cleared, fresh, retuned, blank, tick_number, factor, next_phases, next_counted, writes}
use Rattle.chorus.proofs.Laws.{factor-0, factor-1, factor-2, fits-parts, fit, length-fits, tick-fits}

-- ---- phases

-- three phases that pass the test
record PhasesFit (p : Phases) : Type 0 where
  phase0 : phase_fits (phase_at 0 p) ≡ true
  phase1 : phase_fits (phase_at 1 p) ≡ true
  phase2 : phase_fits (phase_at 2 p) ≡ true

start-phases : PhasesFit start_phases
unfolding in_unit le lt of_int round Ieee.fits
start-phases = record { phase0 = refl; phase1 = refl; phase2 = refl }

-- the factors of the voices lie from 0 to 1.1
low : In binary64 plus_zero (fraction 11 10) (factor 0)
unfolding le round Ieee.fits
low = rw factor-0 (widen plus_zero (fraction 11 10) tt (point (fraction 9 10) tt))

middle : In binary64 plus_zero (fraction 11 10) (factor 1)
unfolding le of_int round Ieee.fits
middle = rw factor-1 (widen plus_zero (fraction 11 10) tt (point (float_of 1) tt))

high : In binary64 plus_zero (fraction 11 10) (factor 2)
unfolding le round Ieee.fits
high = rw factor-2 (widen plus_zero (fraction 11 10) tt (point (fraction 11 10) tt))

-- ---- states that pass the test and the one that does not, where so many places are in use at a rate

module _ (used : Float → ℕ) where
  abbrev Passes : Chorus → Type 0
  Passes s = fits_with (used s.sample_rate) s ≡ true

  pub blank-refused : fits_with (used plus_zero) blank ≡ false
  unfolding fits_with in_range le of_int Ieee.fits
  blank-refused = refl

  -- a clearing leaves one that passes, with phases that do
  cleared-fits : (p : Phases) (rate : Float) → rate_fits rate ≡ true → PhasesFit p → Passes (cleared p rate)
  cleared-fits p rate h f =
      fit (cleared p rate) (record { rate = h; inside = omega (arith, (length-fits rate h).0); most = omega arith; phase0 = f.phase0; phase1 = f.phase1; phase2 = f.phase2 })

  pub start_fits : (rate : Float) → rate_fits rate ≡ true → Passes (fresh rate)
  start_fits rate h = cleared-fits start_phases rate h start-phases

  pub reset-fits : (s : Chorus) → Passes s → Passes (fresh s.sample_rate)
  reset-fits s e = start_fits s.sample_rate (fits-parts s e).rate

  pub retuned-fits : (rate : Float) (s : Chorus) → rate_fits rate ≡ true → Passes s → Passes (retuned rate s)
  retuned-fits rate s h e =
      let f = fits-parts s e in
      cleared-fits (phases_of s) rate h (record { phase0 = f.phase0; phase1 = f.phase1; phase2 = f.phase2 })

  -- and so does a tick, which leaves the count c
  pub next_fits : {c : ℕ} (t : Tick) (s : Chorus) → c ≤ used s.sample_rate → Passes s → tick_number t ≡ 0 → Passes (next_counted c t s)
  unfolding next_counted next_phases
  next_fits {c} t s most e n =
      let f = fits-parts s e in
      let h = (tick-fits t n).frequency in
      let rate = s.sample_rate in
      fit (next_counted c t s)
      (record {
        rate = f.rate;
        inside = next-lt (line_length rate) s.write_pos f.inside;
        most = most;
        phase0 = detuned-stays (phase_at 0 (phases_of s)) t.frequency rate f.phase0 h f.rate low;
        phase1 = detuned-stays (phase_at 1 (phases_of s)) t.frequency rate f.phase1 h f.rate middle;
        phase2 = detuned-stays (phase_at 2 (phases_of s)) t.frequency rate f.phase2 h f.rate high;
      })

-- ---- the laws

inside : (t : Tick) (s : Chorus) → state_fits s ≡ true → Below (line_length s.sample_rate) (writes t s)
unfolding writes
inside t s e = let f = (fits-parts s e).inside in (omega arith, tt)

pub laws : Laws chorus
unfolding next_counted
laws =
    record {
      blank-refused = blank-refused line_length;
      fresh-settings = λ k. refl;
      retuned-settings = λ k s. refl;
      next-settings = λ t s m. refl;
      start_fits = λ k e. start_fits line_length k (none_1 (rate_fits k) e);
      reset-fits = reset-fits line_length;
      retuned-fits = λ k s e f. retuned-fits line_length k s (none_1 (rate_fits k) e) f;
      next_fits = λ t s m e r n. next_fits line_length t s (omega arith) e n;
      in_order = λ k. first_in_order (line_length k);
      inside = λ t s m e. within_first (line_length s.sample_rate) (writes t s) (inside t s e);
    }

pub shown : Demand1 chorus
shown = demand-1 chorus laws

-- Demand 1 (docs/DEMANDS.md) for the flanger, by the laws of its parts. Assumes nothing.
use native.Mathlib.Omega.{arith}
use mathlib.Core.Path.{◌≡◌, refl}
use mathlib.Core.Bool.{true, false}
use mathlib.Core.List.{List}
use lib.Ieee.{Float, le, lt, of_int}
use lib.Ieee as Ieee
use Rattle.float64.specs.Number.{plus_zero, rate_fits, phase_fits, in_range}
use Rattle.common.proofs.Phases.{zero-phase, phase-stays}
use Rattle.common.proofs.Ring.{next-lt}
use Rattle.effect.proofs.Parts.{first_in_order, within_first}
use Rattle.effect.proofs.Table.{none_1}
use Rattle.effect.proofs.Laws.{Laws, Below}
use Rattle.effect.specs.Demand1.{Demand1}
use Rattle.effect.proofs.Demand1.{demand-1}
use Rattle.flanger.specs.declared.Flanger.{Flanger}
use Rattle.flanger.specs.Flanger.{Tick, flanger, state_fits, line_length, places, cleared, blank, tick_number, next_counted, next, writes}
use Rattle.flanger.proofs.Laws.{fits-parts, fit, length_fits, tick-fits}

-- ---- the laws

blank-refused : state_fits blank ≡ false
unfolding state_fits in_range le of_int Ieee.fits
blank-refused = refl

-- a clearing leaves a state that passes, with every phase that does
cleared-fits : (phase rate : Float) → rate_fits rate ≡ true → phase_fits phase ≡ true → state_fits (cleared phase rate) ≡ true
cleared-fits phase rate h p = fit (cleared phase rate) (record { rate = h; inside = omega (arith, (length_fits rate h).0); most = omega arith; phase = p })

next_fits : (t : Tick) (s : Flanger) (m : List Float) → state_fits s ≡ true → tick_number t ≡ 0 → state_fits (next t s m) ≡ true
unfolding next_counted
next_fits t s m e n =
    let f = fits-parts s e in
    let rate = s.sample_rate in
    fit (next t s m)
    (record {
      rate = f.rate;
      inside = next-lt (line_length rate) s.write_pos f.inside;
      most = omega arith;
      phase = phase-stays s.lfo_phase t.frequency rate f.phase (tick-fits t n).frequency f.rate;
    })

inside : (t : Tick) (s : Flanger) (m : List Float) → state_fits s ≡ true → Below (places s.sample_rate) (writes t s m)
unfolding writes
inside t s m e = let f = (fits-parts s e).inside in (omega arith, (omega arith, tt))

pub laws : Laws flanger
unfolding next_counted
laws =
    record {
      blank-refused = blank-refused;
      fresh-settings = λ k. refl;
      retuned-settings = λ k s. refl;
      next-settings = λ t s m. refl;
      start_fits = λ k e. cleared-fits plus_zero k (none_1 (rate_fits k) e) zero-phase;
      reset-fits = λ s f. cleared-fits plus_zero s.sample_rate (fits-parts s f).rate zero-phase;
      retuned-fits = λ k s e f. cleared-fits s.lfo_phase k (none_1 (rate_fits k) e) (fits-parts s f).phase;
      next_fits = λ t s m e r n. next_fits t s m e n;
      in_order = λ k. first_in_order (places k);
      inside = λ t s m e. within_first (places s.sample_rate) (writes t s m) (inside t s m e);
    }

pub shown : Demand1 flanger
shown = demand-1 flanger laws

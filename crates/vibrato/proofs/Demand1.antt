-- Demand 1 (docs/DEMANDS.md) for the vibrato, by the laws of its parts. Assumes nothing.
use native.Mathlib.Omega.{arith}
use mathlib.Core.Path.{◌≡◌, refl}
use mathlib.Core.Bool.{true, false}
use mathlib.Core.List.{List}
use lib.Ieee.{Float, le, lt, of_int}
use lib.Ieee as Ieee
use Rattle.float64.specs.Number.{rate_fits, in_range}
use Rattle.common.proofs.Phases.{zero-phase, phase-stays}
use Rattle.common.proofs.Ring.{next-lt}
use Rattle.effect.proofs.Parts.{first_in_order, within_first}
use Rattle.effect.proofs.Table.{none_1}
use Rattle.effect.proofs.Laws.{Laws, Below}
use Rattle.effect.specs.Demand1.{Demand1}
use Rattle.effect.proofs.Demand1.{demand-1}
use Rattle.vibrato.specs.declared.Vibrato.{Vibrato}
use Rattle.vibrato.specs.Vibrato.{Tick, vibrato, state_fits, fresh, blank, line_length, tick_number, next_counted, next, writes}
use Rattle.vibrato.proofs.Laws.{fits-parts, fit, length-fits, tick-fits}

-- ---- the laws

blank-refused : state_fits blank ≡ false
unfolding state_fits in_range le of_int Ieee.fits
blank-refused = refl

-- a clearing leaves a state that passes
fresh-fits : (rate : Float) → rate_fits rate ≡ true → state_fits (fresh rate) ≡ true
fresh-fits rate h = let some = (length-fits rate h).0 in fit (fresh rate) (record { rate = h; inside = omega (arith, some); most = omega arith; phase = zero-phase })

next_fits : (t : Tick) (s : Vibrato) (m : List Float) → state_fits s ≡ true → tick_number t ≡ 0 → state_fits (next t s m) ≡ true
unfolding next_counted
next_fits t s m e n =
    let f = fits-parts s e in
    let rate = s.sample_rate in
    fit (next t s m)
    (record {
      rate = f.rate;
      inside = next-lt (line_length rate) s.write_pos f.inside;
      most = omega arith;
      phase = phase-stays s.lfo_phase t.frequency rate f.phase (tick-fits t n).frequency f.rate;
    })

inside : (t : Tick) (s : Vibrato) → state_fits s ≡ true → Below (line_length s.sample_rate) (writes t s)
unfolding writes
inside t s e = let f = (fits-parts s e).inside in (omega arith, tt)

pub laws : Laws vibrato
unfolding next_counted
laws =
    record {
      blank-refused = blank-refused;
      fresh-settings = λ k. refl;
      retuned-settings = λ k s. refl;
      next-settings = λ t s m. refl;
      start_fits = λ k e. fresh-fits k (none_1 (rate_fits k) e);
      reset-fits = λ s f. fresh-fits s.sample_rate (fits-parts s f).rate;
      retuned-fits = λ k s e f. fresh-fits k (none_1 (rate_fits k) e);
      next_fits = λ t s m e r n. next_fits t s m e n;
      in_order = λ k. first_in_order (line_length k);
      inside = λ t s m e. within_first (line_length s.sample_rate) (writes t s) (inside t s e);
    }

pub shown : Demand1 vibrato
shown = demand-1 vibrato laws

-- Demand 1 (docs/DEMANDS.md) for the phaser, by the laws of its parts. Assumes nothing.
use native.Mathlib.Nat.{le_refl}
use mathlib.Core.Path.{◌≡◌, refl}
use mathlib.Core.Bool.{false}
use lib.Ieee.{le, of_int}
use lib.Ieee as Ieee
use Rattle.float64.specs.Number.{rate_fits, in_range}
use Rattle.common.proofs.Phases.{fresh-fits, reset-fits, next_fits}
use Rattle.effect.proofs.Table.{none_1}
use Rattle.effect.proofs.Laws.{Laws}
use Rattle.effect.specs.Demand1.{Demand1}
use Rattle.effect.proofs.Demand1.{demand-1}
use Rattle.phaser.specs.Phaser.{phaser, state_fits, blank, next}
use Rattle.phaser.proofs.Laws.{tick-fits}

blank-refused : state_fits blank ≡ false
unfolding state_fits in_range le of_int Ieee.fits
blank-refused = refl

pub laws : Laws phaser
unfolding state_fits next
laws =
    record {
      blank-refused = blank-refused;
      fresh-settings = λ k. refl;
      retuned-settings = λ k s. refl;
      next-settings = λ t s m. refl;
      start_fits = λ k e. fresh-fits k (none_1 (rate_fits k) e);
      reset-fits = λ s e. reset-fits s.sample_rate s.lfo_phase e;
      retuned-fits = elim [ ];
      next_fits = λ t s m e r n. next_fits s.sample_rate s.lfo_phase t.frequency e (tick-fits t n).frequency;
      in_order = λ k. le_refl 0;
      inside = λ t s m e. tt;
    }

pub shown : Demand1 phaser
shown = demand-1 phaser laws

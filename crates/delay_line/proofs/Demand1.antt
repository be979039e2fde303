-- Demand 1 (docs/DEMANDS.md) for the delay line, by the laws of its parts. Assumes nothing.
use native.Mathlib.Omega.{arith}
use mathlib.Core.Path.{◌≡◌, refl}
use mathlib.Core.Bool.{true, false}
use mathlib.Core.List.{List}
use lib.Ieee.{Float, le, of_int, to_bits}
use lib.Ieee as Ieee
use Rattle.float64.specs.Number.{in_range, is_plus_zero, rate_fits, coefficient_fits}
use Rattle.common.proofs.Ring.{next-lt}
use Rattle.effect.proofs.Parts.{first_in_order, within_first}
use Rattle.effect.proofs.Table.{none-1-2}
use Rattle.effect.proofs.Laws.{Laws, Below}
use Rattle.effect.specs.Demand1.{Demand1}
use Rattle.effect.proofs.Demand1.{demand-1}
use Rattle.delay_line.specs.declared.DelayLine.{DelayLine}
use Rattle.delay_line.specs.declared.Settings.{Settings}
use Rattle.delay_line.specs.Halves.{maximum_fits, glide_fits, reader_fits, size}
use Rattle.delay_line.specs.DelayLine.{Tick, delay_line, state_fits, settings, reader, settings_number, cleared, blank, tick_number, delay_samples, next_counted, next, writes, places}
use Rattle.delay_line.proofs.ReaderLaws.{fits-parts, fit, length-low, glide-left}
use Rattle.delay_line.proofs.Laws.{held_fits, tick-fits, delay-number}

-- ---- the laws

blank-refused : state_fits blank ≡ false
unfolding reader_fits in_range le of_int Ieee.fits
blank-refused = refl

-- a clearing leaves a state that passes, where its settings fit
cleared-fits : (k : Settings) → rate_fits k.rate ≡ true → coefficient_fits k.coefficient ≡ true → maximum_fits k.maximum ≡ true → state_fits (cleared k) ≡ true
unfolding glide_fits is_plus_zero Ieee.fits to_bits
cleared-fits k r c m =
    fit (reader (cleared k))
    (record { rate = r; maximum = m; inside = omega (arith, length-low k.rate k.maximum (rw (r, m))); most = omega arith; coefficient = c; glide = refl })

-- the row of settings that are accepted
row : (rate coefficient : Float) → settings_number rate coefficient ≡ 0 → (rate_fits rate ≡ true) × (coefficient_fits coefficient ≡ true)
unfolding settings_number
row rate coefficient e = none-1-2 (rate_fits rate) (coefficient_fits coefficient) e

next_fits : (t : Tick) (s : DelayLine) (m : List Float) → state_fits s ≡ true → tick_number t s.linear_time ≡ 0 → state_fits (next t s m) ≡ true
unfolding next_counted
next_fits t s m e n =
    let f = fits-parts (reader s) e in
    fit (reader (next t s m))
    (record {
      rate = f.rate;
      maximum = f.maximum;
      inside = next-lt (size (reader s)) s.write_pos f.inside;
      most = omega arith;
      coefficient = f.coefficient;
      glide = glide-left (reader s) (delay_samples t s) f (delay-number t s f (tick-fits t s.linear_time n));
    })

inside : (t : Tick) (s : DelayLine) (m : List Float) → state_fits s ≡ true → Below (places (settings s)) (writes t s m)
unfolding writes
inside t s m e = ((fits-parts (reader s) e).inside, tt)

pub laws : Laws delay_line
unfolding next_counted
laws =
    record {
      blank-refused = blank-refused;
      fresh-settings = λ k. refl;
      retuned-settings = λ k s. refl;
      next-settings = λ t s m. refl;
      start_fits = λ x e. let r = row x.rate x.coefficient e in cleared-fits (delay_line.start_settings x) r.0 r.1 (held_fits x.maximum);
      reset-fits = λ s e. let f = fits-parts (reader s) e in cleared-fits (settings s) f.rate f.coefficient f.maximum;
      retuned-fits = λ a s e f.
          let r = row a.rate a.coefficient e in
          cleared-fits (delay_line.retune_settings a (settings s)) r.0 r.1 (fits-parts (reader s) f).maximum;
      next_fits = λ t s m e r n. next_fits t s m e n;
      in_order = λ k. first_in_order (places k);
      inside = λ t s m e. within_first (places (settings s)) (writes t s m) (inside t s m e);
    }

pub shown : Demand1 delay_line
shown = demand-1 delay_line laws

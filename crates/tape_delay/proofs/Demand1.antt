-- Demand 1 (docs/DEMANDS.md) for the tape delay, by the laws of its parts. Assumes nothing.
use native.Mathlib.Omega.{arith}
use mathlib.Core.Path.{◌≡◌, refl}
use mathlib.Core.Bool.{true, false}
use mathlib.Core.List.{List}
use lib.Ieee.{Float, le, of_int, to_bits}
use lib.Ieee as Ieee
use Rattle.float64.specs.Number.{half, is_number, in_range, is_plus_zero, rate_fits, coefficient_fits}
use Rattle.float64.proofs.Tests.{both-true}
use Rattle.float64.proofs.Ranges.{in-range}
use Rattle.common.proofs.Ring.{next-lt}
use Rattle.common.proofs.Sweep.{control-in}
use Rattle.effect.proofs.Parts.{first_in_order, within_first}
use Rattle.effect.proofs.Table.{none-1-2}
use Rattle.effect.proofs.Laws.{Laws, Below}
use Rattle.effect.specs.Demand1.{Demand1}
use Rattle.effect.proofs.Demand1.{demand-1}
use Rattle.delay_line.specs.Halves.{glide_fits, reader_fits, size}
use Rattle.delay_line.specs.DelayLine.{settings_number}
use Rattle.delay_line.proofs.ReaderLaws.{fit, length-low, glide-left}
use Rattle.tape_delay.specs.declared.TapeDelay.{TapeDelay}
use Rattle.tape_delay.specs.declared.Settings.{Settings}
use Rattle.tape_delay.specs.TapeDelay.{Tick, read_half, store_half, tape_delay, maximum, state_fits, settings, reader, kept_fits, none_kept, cleared, blank, tick_number, delay_samples, next, writes, places}
use Rattle.tape_delay.proofs.Laws.{maximum_held, state-parts, controls-fit, delay-number}

-- ---- the laws

blank-refused : state_fits blank ≡ false
unfolding reader_fits in_range le of_int Ieee.fits
blank-refused = refl

-- while no read waits
none-fits : kept_fits false none_kept ≡ true
unfolding kept_fits is_plus_zero Ieee.fits to_bits
none-fits = refl

-- a clearing leaves a state that passes, where its settings fit
cleared-fits : (k : Settings) → rate_fits k.rate ≡ true → coefficient_fits k.coefficient ≡ true → state_fits (cleared k) ≡ true
unfolding glide_fits is_plus_zero Ieee.fits to_bits
cleared-fits k r c =
    both-true
    (fit (reader (cleared k))
    (record {
      rate = r;
      maximum = maximum_held;
      inside = omega (arith, length-low k.rate maximum (rw (r, maximum_held)));
      most = omega arith;
      coefficient = c;
      glide = refl;
    }))
    none-fits

-- the row of settings that are accepted
row : (k : Settings) → settings_number k.rate k.coefficient ≡ 0 → state_fits (cleared k) ≡ true
unfolding settings_number
row k e = let r = none-1-2 (rate_fits k.rate) (coefficient_fits k.coefficient) e in cleared-fits k r.0 r.1

next_fits : (t : Tick) (s : TapeDelay) (m : List Float) → state_fits s ≡ true → tick_number t ≡ 0 → state_fits (next t s m) ≡ true
unfolding next kept_fits is_number Ieee.fits Ieee.is_nan Ieee.round
next_fits (read_half p) s m e n =
    let f = (state-parts s e).reads in
    let k = controls-fit p n in
    both-true
    (fit (reader (next (read_half p) s m))
    (record {
      rate = f.rate;
      maximum = f.maximum;
      inside = f.inside;
      most = omega arith;
      coefficient = f.coefficient;
      glide = glide-left (reader s) (delay_samples p s) f (delay-number p s f k.time);
    }))
    (in-range (control-in p.mix half k.mix refl))
next_fits (store_half v) s m e n =
    let f = (state-parts s e).reads in
    both-true
    (fit (reader (next (store_half v) s m))
    (record {
      rate = f.rate;
      maximum = f.maximum;
      inside = next-lt (size (reader s)) s.write_pos f.inside;
      most = omega arith;
      coefficient = f.coefficient;
      glide = f.glide;
    }))
    none-fits

inside : (t : Tick) (s : TapeDelay) → state_fits s ≡ true → Below (places (settings s)) (writes t s)
unfolding writes
inside (read_half p) s e = tt
inside (store_half v) s e = ((state-parts s e).reads.inside, tt)

next-settings : (t : Tick) (s : TapeDelay) (m : List Float) → settings (next t s m) ≡ settings s
unfolding next
next-settings (read_half p) s m = refl
next-settings (store_half v) s m = refl

pub laws : Laws tape_delay
laws =
    record {
      blank-refused = blank-refused;
      fresh-settings = λ k. refl;
      retuned-settings = λ k s. refl;
      next-settings = next-settings;
      start_fits = λ x e. row x e;
      reset-fits = λ s e. let f = (state-parts s e).reads in cleared-fits (settings s) f.rate f.coefficient;
      retuned-fits = λ a s e f. row a e;
      next_fits = λ t s m e r n. next_fits t s m e n;
      in_order = λ k. first_in_order (places k);
      inside = λ t s m e. within_first (places (settings s)) (writes t s) (inside t s e);
    }

pub shown : Demand1 tape_delay
shown = demand-1 tape_delay laws

-- Demand 1 (docs/DEMANDS.md) for the reverb, by the laws of its parts. Assumes nothing.
use Rattle.std.proofs.Common.{◌≡◌, ℕ, zero, suc, ◌<◌, true, false, List, [], ◌∷◌, refl, arith}
use native.Mathlib.Nat.{min-le_left}
use lib.Ieee.{Float, le, of_int}
use lib.Ieee as Ieee
use Rattle.float64.specs.Number.{rate_fits, in_range}
use Rattle.common.proofs.Ring.{next-lt}
use Rattle.effect.specs.Parts.{sizes}
use Rattle.effect.specs.Effect.{Write, EachWrite, InUse}
use Rattle.effect.specs.Demand1.{Demand1}
use Rattle.effect.proofs.Table.{none_1}
use Rattle.effect.proofs.Laws.{Laws, Within}
use Rattle.effect.proofs.Memory.{each-append}
use Rattle.effect.proofs.Demand1.{demand-1}
use Rattle.reverb.specs.declared.tick.Controls.{Controls}
use Rattle.reverb.specs.declared.Reverb.{Reverb}
use Rattle.reverb.specs.Tunings.{Side, left, right, predelay_size, comb_most, allpass_most, comb_tunings, allpass_tunings, tuned}
use Rattle.reverb.specs.Tank.{place_of, next_position, by_sides, comb_write, allpass_write}
use Rattle.reverb.specs.Reverb.{reverb, combs, allpasses, fresh, blank, used_parts, state_fits, controls_of, comb_writes, allpass_writes, next, writes}
use Rattle.reverb.proofs.Scaling.{lines-some}
use Rattle.reverb.proofs.Used.{in_order, comb-used, pass-used, predelay-used}
use Rattle.reverb.proofs.Lists.{next-below}
use Rattle.reverb.proofs.Laws.{combs-in, allpasses-in, Fits, fits-parts, fit}
use Rattle.reverb.proofs.Apart.{line-below}

-- ---- states

blank-refused : state_fits blank ≡ false
unfolding state_fits in_range le of_int Ieee.fits
blank-refused = refl

-- a clearing leaves a state that passes
fresh-fits : (rate : Float) → rate_fits rate ≡ true → state_fits (fresh rate) ≡ true
unfolding tuned
fresh-fits rate h =
    let u = fresh rate in
    let comb : (side : Side) → _ = λ side. lines-some comb_most comb_tunings side rate (omega arith) refl h in
    let pass : (side : Side) → _ = λ side. lines-some allpass_most allpass_tunings side rate (omega arith) refl h in
    fit u
    (record {
      rate = h;
      predelay = omega arith;
      combs = combs-in u (comb left) (comb right);
      allpasses = allpasses-in u (pass left) (pass right);
      count = omega arith;
    })

next_fits : (c : Controls) (s : Reverb) (m : List Float) → state_fits s ≡ true → state_fits (next c s m) ≡ true
unfolding next next_position
next_fits c s m e =
    let u = next c s m in
    let f = fits-parts s e in
    let comb : (side : Side) → _ = λ side. next-below (combs s side).positions (combs s side).lengths (f.combs side).inside in
    let pass : (side : Side) → _ = λ side. next-below (allpasses s side).positions (allpasses s side).lengths (f.allpasses side).inside in
    fit u
    (record {
      rate = f.rate;
      predelay = next-lt predelay_size s.predelay_pos f.predelay;
      combs = combs-in u (comb left) (comb right);
      allpasses = allpasses-in u (pass left) (pass right);
      count = min-le_left (sizes (used_parts s.sample_rate)) _;
    })

-- ---- writes

pub each-side : (P : Write → Type 0) (f : ℕ → Side → Write) (k : ℕ) → ((i : ℕ) → i < k → (side : Side) → P (f i side)) → EachWrite P (by_sides f k)
unfolding by_sides
each-side P f zero h = tt
each-side P f (suc k) h =
    each-append P (by_sides f k) (f k left ∷ f k right ∷ []) (each-side P f k (λ i l. h i (omega arith))) (h k (omega arith) left, (h k (omega arith) right, tt))

-- the places of combs and all-passes are in use
pub comb_in : (s : Reverb) → Fits s → (i : ℕ) → i < 8 → (side : Side) → InUse reverb s.sample_rate (place_of (combs s side) i)
comb_in s f i h side = comb-used s.sample_rate side i _ h (line-below (f.combs side) i h).0

pub pass_in : (s : Reverb) → Fits s → (i : ℕ) → i < 4 → (side : Side) → InUse reverb s.sample_rate (place_of (allpasses s side) i)
pass_in s f i h side = pass-used s.sample_rate side i _ h (line-below (f.allpasses side) i h).0

inside : (c : Controls) (s : Reverb) (m : List Float) → state_fits s ≡ true → Within (InUse reverb s.sample_rate) (writes c s m)
unfolding writes comb_write allpass_write
inside c s m e =
    let f = fits-parts s e in
    let used : Write → Type 0 = λ w. InUse reverb s.sample_rate w.place in (
      predelay-used s.sample_rate s.predelay_pos f.predelay,
      each-append used (by_sides (comb_writes c s m) 8) (by_sides (allpass_writes s m) 4) (each-side used (comb_writes c s m) 8 (comb_in s f)) (each-side used (allpass_writes s m) 4 (pass_in s f)),
    )

pub laws : Laws reverb
unfolding next
laws =
    record {
      blank-refused = blank-refused;
      fresh-settings = λ k. refl;
      retuned-settings = λ k s. refl;
      next-settings = λ t s m. refl;
      start_fits = λ k e. fresh-fits k (none_1 (rate_fits k) e);
      reset-fits = λ s e. fresh-fits s.sample_rate (fits-parts s e).rate;
      retuned-fits = λ k s e f. fresh-fits k (none_1 (rate_fits k) e);
      next_fits = λ t s m e r n. next_fits (controls_of t) s m e;
      in_order = in_order;
      inside = λ t s m e. inside (controls_of t) s m e;
    }

pub shown : Demand1 reverb
shown = demand-1 reverb laws

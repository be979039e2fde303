-- A silent reverb stays silent: its lines and stores hold zeros, so that combs, sums, all-passes and blends give zeros. Assumes nothing.
use Rattle.std.proofs.Common.{◌≡◌, ℕ, zero, suc, ◌<◌, Bool, true, false, ◌==◌, cond, List, length, get_or, refl, ap, ◌∙◌, arith, eq-eqb}
use lib.Ieee.{Float, nan, binary64, add, mul, neg, le, of_int, round, eq}
use lib.Ieee as Ieee
use Rattle.float64.specs.Number.{plus_zero, float_of, fraction, half, is_zero, is_number}
use Rattle.float64.proofs.Tests.{both, both-true}
use Rattle.float64.proofs.Interval.{In, point, add-in, mul_in, in-finite}
use Rattle.float64.proofs.Zeros.{Zero, zero-times, zero-plus, zero-neg}
use Rattle.common.specs.Signal.{blended}
use Rattle.common.specs.Line.{line_at, table, all_zero, are_zeros}
use Rattle.common.proofs.Tables.{length-table, get_or-table}
use Rattle.common.proofs.Zeros.{entry-zero, all-zero-by}
use Rattle.common.proofs.Sweep.{control-in}
use Rattle.common.proofs.ZeroBlends.{mix-zero}
use Rattle.effect.specs.Effect.{EachWritten, InUse}
use Rattle.effect.specs.StaysSilent.{StaysSilent}
use Rattle.effect.proofs.Memory.{each-append}
use Rattle.effect.proofs.Parts.{zero_in, line-zero}
use Rattle.effect.proofs.SilentLaws.{SilentTick, SilentLaws}
use Rattle.effect.proofs.StaysSilent.{stays-silent}
use Rattle.reverb.specs.declared.tick.Controls.{Controls}
use Rattle.reverb.specs.declared.Reverb.{Reverb}
use Rattle.reverb.specs.Tunings.{Side, left, right, predelay_size, lengths_at}
use Rattle.reverb.specs.Freeverb.{comb_store, comb_fed, pass_output, pass_fed}
use Rattle.reverb.specs.Tank.{Lines, predelay_start, tank_size, place_of, held, by_sides, combs_held, sum_of, comb_stored, comb_write, allpasses_held, passed_on, allpass_write, delayed, parts}
use Rattle.reverb.specs.Reverb.{Tick, reverb, combs, stores, allpasses, fresh, quiet, controls_of, input, feedback, damping, mix, delay_by, predelayed, summed, wet, comb_writes, allpass_writes, writes, next, samples}
use Rattle.reverb.proofs.Laws.{Fits, fits-parts, TickFits, tick-fits}
use Rattle.reverb.proofs.Used.{in_order, predelay-used}
use Rattle.reverb.proofs.Demand1.{laws, each-side, comb_in, pass_in}
use Rattle.reverb.proofs.Counts.{own}

-- a table of n zeros
table-zeros : (f : ℕ → Float) (n : ℕ) → ((i : ℕ) → i < n → Zero (f i)) → are_zeros n (table f n) ≡ true
table-zeros f n h =
    both-true (eq-eqb (length (table f n)) n (length-table f n))
    (all-zero-by (table f n) nan (λ i l.
    let k : i < n = omega (arith, length-table f n) in ap is_zero (get_or-table f n i nan k) ∙ h i k))

-- ---- an accepted tick's controls

module _ (t : Tick) (n : TickFits t) where
  -- 0.28 + size × 0.7
  feedback-in : In binary64 plus_zero (float_of 1) (feedback (controls_of t))
  unfolding is_number Ieee.fits Ieee.is_nan le add mul of_int round
  feedback-in =
      let part = mul_in plus_zero (fraction 7 10) tt tt tt (control-in t.size half n.size refl) (point (fraction 7 10) tt) in
      add-in plus_zero (float_of 1) tt (point (fraction 28 100) tt) part

  damping-in : In binary64 plus_zero (float_of 1) (damping (controls_of t))
  unfolding is_number Ieee.fits Ieee.is_nan le mul of_int round
  damping-in = mul_in plus_zero (float_of 1) tt tt tt (control-in t.damping half n.damping refl) (point (fraction 4 10) tt)

  mix-in : In binary64 plus_zero (float_of 1) (mix (controls_of t))
  unfolding is_number Ieee.fits Ieee.is_nan round
  mix-in = control-in t.mix half n.mix refl

-- ---- lists of zeros through the filters

sum-zero : (h : List Float) (n : ℕ) → ((i : ℕ) → i < n → Zero (get_or h i nan)) → Zero (sum_of h n)
unfolding sum_of eq
sum-zero h zero z = refl
sum-zero h (suc n) z = zero-plus (sum_of h n) (get_or h n nan) (sum-zero h n (λ i l. z i (omega arith))) (z n (omega arith))

passed-zero : (x : Float) (h : List Float) (n : ℕ) → Zero x → ((i : ℕ) → i < n → Zero (get_or h i nan)) → Zero (passed_on x h n)
unfolding passed_on pass_output
passed-zero x h zero a z = a
passed-zero x h (suc n) a z =
    let before = passed-zero x h n a (λ i l. z i (omega arith)) in
    zero-plus (neg (passed_on x h n)) (get_or h n nan) (zero-neg (passed_on x h n) before) (z n (omega arith))

-- ---- a tick of a silent reverb

module _ (t : Tick) (s : Reverb) (m : List Float) (u : SilentTick reverb reverb.quiet t s m) where
  abbrev c : Controls
  c = controls_of t

  f : Fits s
  f = fits-parts s u.state_fits

  n : TickFits t
  n = tick-fits t u.number

  -- what the places of lines hold that are in use
  held-zero : (k : ℕ) (l : Lines) → ((i : ℕ) → i < k → InUse reverb s.sample_rate (place_of l i)) → (i : ℕ) → i < k → Zero (get_or (held k l m) i nan)
  unfolding held
  held-zero k l used i h =
      ap is_zero (get_or-table (λ j. get_or m (place_of l j) nan) k i nan h)
      ∙ zero_in 0 tank_size (parts (lengths_at s.sample_rate)) m (in_order s.sample_rate) u.enough u.zeros (used i h)

  comb-zero : (side : Side) (i : ℕ) → i < 8 → Zero (get_or (combs_held (combs s side) m) i nan)
  comb-zero side = held-zero 8 (combs s side) (λ i h. comb_in s f i h side)

  pass-zero : (side : Side) (i : ℕ) → i < 4 → Zero (get_or (allpasses_held (allpasses s side) m) i nan)
  pass-zero side = held-zero 4 (allpasses s side) (λ i h. pass_in s f i h side)

  -- the stores
  store-zero : (side : Side) (i : ℕ) → i < 8 → Zero (get_or (stores s side) i nan)
  unfolding quiet
  store-zero left i h = entry-zero 8 s.comb_filter_state_l i nan (both (are_zeros 8 s.comb_filter_state_l) (are_zeros 8 s.comb_filter_state_r) u.state_calm).0 h
  store-zero right i h = entry-zero 8 s.comb_filter_state_r i nan (both (are_zeros 8 s.comb_filter_state_l) (are_zeros 8 s.comb_filter_state_r) u.state_calm).1 h

  predelay-zero : Zero (predelayed c s m)
  unfolding delayed
  predelay-zero = go (delay_by c s.sample_rate == 0)
    where
      d : ℕ
      d = delay_by c s.sample_rate

      go : (b : Bool) → Zero (cond b (input c) (line_at predelay_start predelay_size s.predelay_pos m d))
      go true = u.audio
      go false =
          line-zero tank_size (parts (lengths_at s.sample_rate)) m predelay_start predelay_size s.predelay_pos (in_order s.sample_rate) u.enough u.zeros
          (predelay-used s.sample_rate)
          f.predelay
          d

  -- a comb's next store, and what it writes
  stored-zero : (side : Side) (i : ℕ) → i < 8 → Zero (comb_stored (damping c) (stores s side) (combs_held (combs s side) m) i)
  unfolding comb_stored comb_store blended
  stored-zero side i h = mix-zero (get_or (combs_held (combs s side) m) i nan) (get_or (stores s side) i nan) (comb-zero side i h) (store-zero side i h) (damping-in t n)

  comb-writes : EachWritten Zero (by_sides (comb_writes c s m) 8)
  unfolding comb_write comb_fed
  comb-writes =
      each-side (λ w. Zero w.value) (comb_writes c s m) 8
      (λ i h side.
      let store = comb_stored (damping c) (stores s side) (combs_held (combs s side) m) i in
      zero-plus (predelayed c s m) (mul binary64 store (feedback c)) predelay-zero (zero-times store (feedback c) (stored-zero side i h) (in-finite (feedback-in t n))))

  -- a side's sum, what goes through its all-passes, and what these write
  summed-zero : (side : Side) → Zero (summed s m side)
  unfolding summed round
  summed-zero side = zero-times (sum_of (combs_held (combs s side) m) 8) (fraction 1 8) (sum-zero (combs_held (combs s side) m) 8 (comb-zero side)) tt

  allpass-writes : EachWritten Zero (by_sides (allpass_writes s m) 4)
  unfolding allpass_write pass_fed round
  allpass-writes =
      each-side (λ w. Zero w.value) (allpass_writes s m) 4
      (λ i h side.
      let held = allpasses_held (allpasses s side) m in
      let into = passed-zero (summed s m side) held i (summed-zero side) (λ k l. pass-zero side k (omega arith)) in
      zero-plus (passed_on (summed s m side) held i) (mul binary64 (get_or held i nan) half) into (zero-times (get_or held i nan) half (pass-zero side i h) tt))

  written : EachWritten Zero (writes c s m)
  unfolding writes
  written = (u.audio, each-append (λ w. Zero w.value) (by_sides (comb_writes c s m) 8) (by_sides (allpass_writes s m) 4) comb-writes allpass-writes)

  -- what a side plays
  plays : (side : Side) → Zero (blended (input c) (wet s m side) (mix c))
  unfolding wet
  plays side =
      let through = passed-zero (summed s m side) (allpasses_held (allpasses s side) m) 4 (summed-zero side) (pass-zero side) in
      mix-zero (input c) (wet s m side) u.audio through (mix-in t n)

  answers : all_zero (samples c s m) ≡ true
  unfolding samples all_zero
  answers = both-true (plays left) (both-true (plays right) refl)

  next-quiet : quiet (next c s m) ≡ true
  unfolding quiet next
  next-quiet =
      let after : (side : Side) → _ = λ side. table-zeros (comb_stored (damping c) (stores s side) (combs_held (combs s side) m)) 8 (stored-zero side) in
      both-true (after left) (after right)

fresh-quiet : (rate : Float) → quiet (fresh rate) ≡ true
unfolding quiet all_zero eq
fresh-quiet rate = refl

silent-laws : SilentLaws reverb reverb.quiet
silent-laws =
    record {
      fresh-calm = fresh-quiet;
      retuned-calm = λ rate s. fresh-quiet rate;
      answers = answers;
      writes = written;
      next-calm = next-quiet;
    }

pub shown : StaysSilent reverb
shown = stays-silent reverb laws own silent-laws

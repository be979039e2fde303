-- The tape delay's definitions by their cases: the maximum, the state test, the table's row of a half, and an accepted half from its steps, also where ports are
-- unset. Assumes nothing.
use Prim.Native.Nat.{ℕ, ◌-◌, ◌<◌, ◌≤◌}
use native.Mathlib.Omega.{arith}
use mathlib.Core.Path.{◌≡◌, refl, sym, ap, ◌∙◌}
use mathlib.Core.Bool.{Bool, true, false, not, ◌||◌, cond}
use mathlib.Core.List.{List, [], ◌∷◌, ◌++◌}
use lib.ListN.{length, take, drop, set}
use lib.Ieee.{Float, binary64, le, of_int, round, is_nan}
use lib.Ieee as Ieee
use Rattle.float64.specs.Number.{plus_zero, float_of, half, is_number, in_range}
use Rattle.std.proofs.lemmas.Bool.{and_parts, or_parts}
use Rattle.float64.proofs.Interval.{In}
use Rattle.port.specs.Port.{value_or, is_nan_set}
use Rattle.port.specs.Answer.{played}
use Rattle.port.proofs.Laws.{nan_is}
use Rattle.common.specs.Signal.{cause_number}
use Rattle.common.specs.Reads.{largest_age}
use Rattle.common.proofs.Ages.{oldest-one}
use Rattle.common.proofs.Sweep.{no-cause, value-number}
use Rattle.effect.specs.Effect.{laid, recount}
use Rattle.effect.specs.Run.{reset, first, memory_number, number_in}
use Rattle.effect.proofs.Rows.{unit, first-long}
use Rattle.delay_line.specs.declared.halves.HalfRead.{HalfRead}
use Rattle.delay_line.specs.Halves.{maximum_fits, size, reader_fits, linear_ms, samples_of, reads_at, read_by, half_read, count_after}
use Rattle.delay_line.proofs.ReaderLaws.{Fits, fits-parts, size-fits, linear-number, samples-number, reads_in, front-half, front-stored, front-count}
use Rattle.tape_delay.specs.declared.TapeDelay.{TapeDelay}
use Rattle.tape_delay.specs.TapeDelay.{Ports, Tick, read_half, store_half, tape_delay, maximum, ceiling, settings, places, reader, kept_fits, state_fits, turn_number, tick_number, delay_samples, parts, half_of, waiting_state, next, saturated, writes}
use Rattle.tape_delay.specs.TapeDelay as page

-- ---- the maximum

pub maximum_held : maximum_fits maximum ≡ true
unfolding in_range Ieee.fits le of_int round
maximum_held = refl

-- ---- the state test

pub record StateFits (s : TapeDelay) : Type 0 where
  pub reads : Fits (reader s)
  pub kept : kept_fits s.waiting s.kept ≡ true

pub state-parts : (s : TapeDelay) → state_fits s ≡ true → StateFits s
state-parts s e = let p = and_parts (reader_fits (reader s)) (kept_fits s.waiting s.kept) e in record { reads = fits-parts (reader s) p.0; kept = p.1 }

-- ---- causes 5 and 6

pub record ControlsFit (p : Ports) : Type 0 where
  pub time : is_nan_set p.time ≡ false
  pub feedback : is_nan_set p.feedback ≡ false
  pub mix : is_nan_set p.mix ≡ false

pub controls-fit : (p : Ports) → tick_number (read_half p) ≡ 0 → ControlsFit p
unfolding tick_number
controls-fit p e =
    let v = no-cause (is_nan_set p.time || (is_nan_set p.feedback || is_nan_set p.mix)) true e in
    let n = or_parts (is_nan_set p.time) (is_nan_set p.feedback || is_nan_set p.mix) v.0 in
    let b = or_parts (is_nan_set p.feedback) (is_nan_set p.mix) n.1 in
    record { time = n.0; feedback = b.0; mix = b.1 }

-- the delay in samples is a number then
pub delay-number : (p : Ports) (s : TapeDelay) → Fits (reader s) → is_nan_set p.time ≡ false → is_number (delay_samples p s) ≡ true
unfolding is_number Ieee.fits is_nan round
delay-number p s f k = samples-number s.sample_rate _ f.rate (linear-number maximum (value_or p.time half) maximum_held (value-number p.time half k refl))

pub distance-in : (p : Ports) (s : TapeDelay) → Fits (reader s) → is_nan_set p.time ≡ false
    → In binary64 (float_of 1) (float_of (size (reader s) - 1)) (reads_at (reader s) (delay_samples p s))
distance-in p s f k = reads_in (reader s) f (delay_samples p s) (delay-number p s f k)

-- ---- the row of a half: `turn` is what it asks of the unit, and e what its tests came to

module _ (t : Tick) (s : TapeDelay) (n : ℕ) (turn : Bool) (asked : ◌≡◌ {A = ℕ} (cond turn 0 7) (turn_number t s)) (e : 0 ≡ cond (state_fits s) (first (cond turn 0 7) (memory_number (places (settings s)) n)) 4) where
  cases : (◌≡◌ {A = ℕ} 0 (cond turn 0 7)) × (0 ≡ number_in tape_delay reset n s)
  cases = go (state_fits s) turn e
    where
      go : (f b : Bool) → 0 ≡ cond f (first (cond b 0 7) (memory_number (places (settings s)) n)) 4
          → (◌≡◌ {A = ℕ} 0 (cond b 0 7)) × (0 ≡ cond f (memory_number (places (settings s)) n) 4)
      go true true e = (refl, e)
      go true false e = absurd (omega (arith, e))
      go false b e = absurd (omega (arith, e))

  -- causes 4 and 3 have been passed
  pub half-passed : 0 ≡ number_in tape_delay reset n s
  half-passed = cases.1

  -- and 7, so that 5 and 6 are left
  pub in-turn : {k : ℕ} → k ≡ tick_number t → k ≡ first (turn_number t s) (tick_number t)
  in-turn g = g ∙ ap (λ (j : ℕ). first j (tick_number t)) (cases.0 ∙ asked)

-- whose turn it is, by the flag
pub read-turn : (p : Ports) (s : TapeDelay) → ◌≡◌ {A = ℕ} (cond (not s.waiting) 0 7) (turn_number (read_half p) s)
read-turn p s = go s.waiting
  where
    go : (b : Bool) → ◌≡◌ {A = ℕ} (cond (not b) 0 7) (cond b 7 0)
    go true = refl
    go false = refl

-- a read half's row, from the numbers that it takes from its ports
module _ (p : Ports) {c f b : Float} (time : c ≡ value_or p.time half) (back : f ≡ value_or p.feedback plus_zero) (wet : b ≡ value_or p.mix half) where
  pub control-row : not (is_number c) || (not (is_number f) || not (is_number b)) ≡ is_nan_set p.time || (is_nan_set p.feedback || is_nan_set p.mix)
  unfolding is_number Ieee.fits is_nan round
  control-row =
      let x = nan_is p.time half refl time refl in
      let y = nan_is p.feedback plus_zero refl back refl in
      let z = nan_is p.mix half refl wet refl in
      λ i. x i || (y i || z i)

  pub read-row : {r : Bool} → r ≡ not (is_number c) || (not (is_number f) || not (is_number b)) → cause_number r true ≡ tick_number (read_half p)
  unfolding tick_number
  read-row g = ap (λ (q : Bool). cause_number q true) (g ∙ control-row)

-- ---- an accepted half: what it does in the line, which is the first n places of the memory, it does in the memory. It is as its page has it, from the numbers that
-- it takes from its ports

module _ (s : TapeDelay) (m : List Float) {n : ℕ} (e : n ≡ size (reader s)) (passed : 0 ≡ number_in tape_delay reset (length m) s) where
  reads : Fits (reader s)
  reads = (state-parts s (unit tape_delay s m e passed).state_fits).reads

  inside : s.write_pos < size (reader s)
  inside = reads.inside

  pub store-inside : s.write_pos < length (take n m)
  store-inside = omega (arith, e, inside, first-long tape_delay s m e passed)

  pub store-most : s.nonzero_places ≤ length (take n m)
  store-most = omega (arith, e, reads.most, first-long tape_delay s m e passed)

  pub store-short : length (take n m) < 4294967295
  store-short = omega (arith, e, first-long tape_delay s m e passed, (size-fits (reader s) reads).1)

  module _ (p : Ports) {a c f b : Float} (audio : a ≡ value_or p.audio plus_zero) (time : c ≡ value_or p.time half) (back : f ≡ value_or p.feedback plus_zero) (wet : b ≡ value_or p.mix half) where
    half-is : half_read ceiling (reader s) (samples_of s.sample_rate (linear_ms maximum c)) a f b (take n m) ≡ half_of p s m
    half-is =
        front-half (reader s) n m e inside ceiling _ a f b
        ∙ (λ i. half_read ceiling (reader s) (samples_of s.sample_rate (linear_ms maximum (time i))) (audio i) (back i) (wet i) m)

    pub read-is : {h : HalfRead} → h ≡ half_read ceiling (reader s) (samples_of s.sample_rate (linear_ms maximum c)) a f b (take n m)
        → (waiting_state h s ≡ next (read_half p) s m) × (played (h.sum ∷ []) h.age ≡ played (page.samples (read_half p) s m) (largest_age (page.reads (read_half p) s)))
    unfolding next writes page.samples page.reads
    read-is g =
        let whole = g ∙ half-is in (
          λ i. waiting_state (whole i) s,
          (λ i. played ((whole i).sum ∷ []) (whole i).age) ∙ ap (played ((half_of p s m).sum ∷ [])) (sym (oldest-one (read_by (reader s) (delay_samples p s)))),
        )

  pub stored-is : (v : Float) {l : List Float} → l ≡ set (take n m) s.write_pos (saturated v) → l ++ drop n m ≡ laid (writes (store_half v) s) m
  unfolding writes
  stored-is v g = front-stored (reader s) n m e inside _ (first-long tape_delay s m e passed) g

  pub count-is : (v : Float)
      → count_after (length (take n m)) s.write_pos (saturated v) (take n m) s.nonzero_places
      ≡ recount (parts (settings s)) (writes (store_half v) s) m s.nonzero_places
  unfolding writes
  count-is v = front-count (reader s) n m e inside (saturated v) s.nonzero_places (first-long tape_delay s m e passed)

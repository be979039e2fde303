-- What is promised of the tape delay alone (document 02, A.6): every place of its line lies from −5 to 5; what the two halves of a tick do, and what they do together;
-- whose turn it is; what becomes of a read that waits; and worked cases. Over the definitions that the contracts of its calls cite. Definitions only. Assumes nothing.
use Rattle.std.specs.Prelude.{ℕ, ◌≡◌, ◌≢◌, true, false, cond, All, [], ◌∷◌, set, Float}
use Rattle.std.specs.Float.{nan, binary64}
use Rattle.std.specs.Float.Ieee.{neg, mul}
use Rattle.float64.specs.Number.{plus_zero, float_of, in_range, saturated_fits, clamp_of}
use Rattle.port.specs.declared.Port.TheVariants.{Set}
use Rattle.port.specs.Port.{value_or}
use Rattle.port.specs.Answer.{played}
use Rattle.common.specs.Signal.{blended}
use Rattle.common.specs.Line.{next_place}
use Rattle.effect.specs.Run.{tick, retune, reset, ask, CallOf, Device, device_of, first, memory_number, start_number, number_in, number_at, step, reply, after, replies, Run, final}
use Rattle.delay_line.specs.declared.DelayLine.{DelayLine}
use Rattle.delay_line.specs.declared.halves.Kept.{Kept}
use Rattle.delay_line.specs.declared.halves.HalfRead.{HalfRead}
use Rattle.delay_line.specs.Halves.{size, count_after}
use Rattle.delay_line.specs.DelayLine as delay
use Rattle.tape_delay.specs.declared.TapeDelay.{TapeDelay}
use Rattle.tape_delay.specs.declared.Settings.{Settings}
use Rattle.tape_delay.specs.TapeDelay.{Ports, ports_of, read_half, store_half, tape_delay, maximum, ceiling, handing, state_fits, settings, places, tick_number, state_of, none_kept, cleared, reader, half_of}

abbrev pub read : Ports → CallOf tape_delay
read p = tick (read_half p)

abbrev pub store : Float → CallOf tape_delay
store v = tick (store_half v)

-- −5 ≤ y ≤ 5, and so no NaN
abbrev pub WithinFive : Float → Type 0
WithinFive y = in_range y (neg (float_of 5)) (float_of 5) ≡ true

-- what is heard of what a read half kept
abbrev pub heard : Kept → Float
heard k = blended k.audio k.read k.mix

-- An accepted read half, of any unit: it answers the sum and the age of its read and writes no place. Position and count stay, the glide has moved, and the read waits with what it
-- keeps.
pub record ReadHalf (p : Ports) (h : Device TapeDelay) : Type 0 where
  pub answers : let half = half_of p h.state h.memory in reply tape_delay (read p) h ≡ played (half.sum ∷ []) half.age
  pub memory : (step tape_delay (read p) h).memory ≡ h.memory
  pub state : let half = half_of p h.state h.memory in
      (step tape_delay (read p) h).state ≡ state_of h.state.write_pos h.state.nonzero_places half.smoothed_delay true true half.kept (settings h.state)

-- The count after five times the value is stored at the position. A read half changes nothing that it is made of.
abbrev pub stored_count : Float → Device TapeDelay → ℕ
stored_count v h = let s = h.state in count_after (size (reader s)) s.write_pos (mul binary64 v (float_of 5)) h.memory s.nonzero_places

-- An accepted store half: it answers what is heard of what was kept, at the age 0, and writes five times the saturated value at the position and no other place. The position has moved
-- on by one, the count goes by that place, the glide stays, and nothing is kept.
pub record StoreHalf (v : Float) (h : Device TapeDelay) : Type 0 where
  pub answers : reply tape_delay (store v) h ≡ played (heard h.state.kept ∷ []) 0
  pub memory : (step tape_delay (store v) h).memory ≡ set h.memory h.state.write_pos (mul binary64 v (float_of 5))
  pub state : let s = h.state in
      (step tape_delay (store v) h).state
      ≡ state_of (next_place (size (reader s)) s.write_pos) (stored_count v h) s.smoothed_delay s.delay_primed false none_kept (settings s)

-- A read half of h and then a store half, both accepted: together they are one tick.
pub record Pair (p : Ports) (v : Float) (h : Device TapeDelay) : Type 0 where
  pub answers : let half = half_of p h.state h.memory in
      replies tape_delay (read p ∷ store v ∷ []) h ≡ played (half.sum ∷ []) half.age ∷ played (heard half.kept ∷ []) 0 ∷ []
  pub memory : (after tape_delay (read p ∷ store v ∷ []) h).memory ≡ set h.memory h.state.write_pos (mul binary64 v (float_of 5))
  pub state : let half = half_of p h.state h.memory in
      (after tape_delay (read p ∷ store v ∷ []) h).state
      ≡ state_of (next_place (size (reader h.state)) h.state.write_pos) (stored_count v h) half.smoothed_delay true false none_kept (settings h.state)

-- ---- the ordinary delay of 12 seconds in linear time, with a tape's position, glide, settings and memory and a count, its own in `ordinary`, and its tick with the same ports

abbrev pub ordinary_state : ℕ → TapeDelay → DelayLine
ordinary_state count s = delay.state_of s.write_pos count s.smoothed_delay s.delay_primed (delay.handing s.sample_rate s.delay_smooth_coef maximum true)

abbrev pub ordinary : Device TapeDelay → Device DelayLine
ordinary h = device_of (ordinary_state h.state.nonzero_places h.state) h.memory

abbrev pub ordinary_tick : Ports → CallOf delay.delay_line
ordinary_tick p = tick (delay.tick_of p.audio p.time p.feedback p.mix nan)

-- A pair does what that tick does: it is accepted where the read half is, comes to the same position and glide, and answers what is heard and the age. What it stores, and by that the
-- count, is the same where the value gives the sum, at a feedback that both clamp alike: the ordinary delay stores the sum as it is.
pub record AsOrdinary (p : Ports) (v : Float) (h : Device TapeDelay) : Type 0 where
  pub accepted : number_at delay.delay_line (ordinary_tick p) (ordinary h) ≡ 0
  pub state : let s = (step delay.delay_line (ordinary_tick p) (ordinary h)).state in
      ordinary_state s.nonzero_places (after tape_delay (read p ∷ store v ∷ []) h).state ≡ s
  pub answers : let half = half_of p h.state h.memory in reply delay.delay_line (ordinary_tick p) (ordinary h) ≡ played (heard half.kept ∷ []) half.age
  pub stored : mul binary64 v (float_of 5) ≡ (half_of p h.state h.memory).sum
      → clamp_of (value_or p.feedback plus_zero) plus_zero delay.ceiling ≡ clamp_of (value_or p.feedback plus_zero) plus_zero ceiling
      → ordinary (after tape_delay (read p ∷ store v ∷ []) h) ≡ step delay.delay_line (ordinary_tick p) (ordinary h)

-- ---- worked cases, at 8,000: position 2, not primed, and 0 and 2 in the first two places

abbrev pub case_state : TapeDelay
case_state = state_of 2 1 plus_zero false false none_kept (handing (float_of 8000) plus_zero)

abbrev pub case_half : Float → Float → HalfRead
case_half time feedback = half_of (ports_of (Set (float_of 3)) (Set time) (Set feedback) (Set (float_of 1))) case_state (plus_zero ∷ float_of 2 ∷ [])

pub record Cases : Type 0 where
  -- Audio 3, time 0, feedback 2, which is clamped to 1.5, and mix 1: the read is of the sample before, 2.
  pub sum : (case_half plus_zero (float_of 2)).sum ≡ float_of 6
  pub age : (case_half plus_zero (float_of 2)).age ≡ 1
  pub wet : heard (case_half plus_zero (float_of 2)).kept ≡ float_of 2
  -- two seconds are 16,000 samples, and 13 are the 12 of the maximum
  pub two_seconds : (case_half (float_of 2) plus_zero).smoothed_delay ≡ float_of 16000
  pub no_longer : (case_half (float_of 13) plus_zero).smoothed_delay ≡ float_of 96000
  -- a start is accepted with 96,001 places, and with one less it is refused with 3
  pub enough : start_number tape_delay (handing (float_of 8000) plus_zero) 96001 ≡ 0
  pub one_short : start_number tape_delay (handing (float_of 8000) plus_zero) 96000 ≡ 3

pub record Tapes : Type 0 where
  -- ---- the line, after any calls from an accepted start, whatever the memory held before it: every place, spare ones too. The memory is the unit's own

  pub bounded : (x : Run tape_delay) → All WithinFive (final tape_delay x).memory
  -- ---- the halves

  pub reads : (p : Ports) (h : Device TapeDelay) → number_at tape_delay (read p) h ≡ 0 → ReadHalf p h
  pub stores : (v : Float) (h : Device TapeDelay) → number_at tape_delay (store v) h ≡ 0 → StoreHalf v h
  -- after an accepted read half every f64 from −1 to 1 is taken, and they make a pair
  pub follows : (p : Ports) (v : Float) (h : Device TapeDelay) → number_at tape_delay (read p) h ≡ 0 → saturated_fits v ≡ true
      → number_at tape_delay (store v) (step tape_delay (read p) h) ≡ 0
  pub pairs : (p : Ports) (v : Float) (h : Device TapeDelay) → number_at tape_delay (read p) h ≡ 0 → saturated_fits v ≡ true → Pair p v h
  pub ordinary_pairs : (p : Ports) (v : Float) (h : Device TapeDelay) → number_at tape_delay (read p) h ≡ 0 → saturated_fits v ≡ true → AsOrdinary p v h
  -- ---- the rows of the table: 4, then 7 for a half that is out of turn and for no other, then 3, and 5 or 6

  pub read_row : (p : Ports) (n : ℕ) (s : TapeDelay)
      → number_in tape_delay (read p) n s ≡ cond (state_fits s) (cond s.waiting 7 (first (memory_number (places (settings s)) n) (tick_number (read_half p)))) 4
  pub store_row : (v : Float) (n : ℕ) (s : TapeDelay)
      → number_in tape_delay (store v) n s ≡ cond (state_fits s) (cond s.waiting (first (memory_number (places (settings s)) n) (tick_number (store_half v))) 7) 4
  pub retune-no-turn : (k : Settings) (n : ℕ) (s : TapeDelay) → number_in tape_delay (retune k) n s ≢ 7
  pub reset-no-turn : (n : ℕ) (s : TapeDelay) → number_in tape_delay reset n s ≢ 7
  pub ask-no-turn : (n : ℕ) (s : TapeDelay) → number_in tape_delay ask n s ≢ 7
  -- ---- a read that waits is dropped by a retune and by a reset; that a refused call leaves it is demand 1's (`refuses`)

  pub retunes : (k : Settings) (h : Device TapeDelay) → number_at tape_delay (retune k) h ≡ 0 → (step tape_delay (retune k) h).state ≡ cleared k
  pub resets : (h : Device TapeDelay) → number_at tape_delay reset h ≡ 0 → (step tape_delay reset h).state ≡ cleared (settings h.state)
  -- ---- worked cases

  pub cases : Cases

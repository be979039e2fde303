-- What reads a delay's line, by its cases, and both halves of its tick: the length, the state test, and the glide, which stays inside the line. Assumes nothing.
use Prim.Native.Nat.{ℕ, ◌-◌, ◌^◌, ◌≤◌, ◌<◌}
use native.Mathlib.Omega.{arith}
use mathlib.Core.Path.{◌≡◌, refl, ap, ◌∙◌}
use mathlib.Core.Bool.{true, ◌&&◌}
use mathlib.Core.List.{List, ◌++◌}
use lib.Dec.{T, ltb, leb}
use lib.ListN.{length, take, drop, set}
use lib.Ieee.{Float, binary64, mul, le, lt, of_int, round, is_nan}
use lib.Ieee as Ieee
use lib.Ieee.Positive.{positive, between}
use borrow.Author.Tests.{ltb-true, lt-ltb, leb-true, le-leb}
use Rattle.float64.specs.Number.{plus_zero, float_of, fraction, is_number, in_range, rate_fits, coefficient_fits, clamp_of}
use Rattle.std.proofs.lemmas.Bool.{cond_both, and_parts}
use Rattle.std.proofs.lemmas.List.{take-append-drop}
use Rattle.float64.proofs.Interval.{In, widen, mul_in}
use Rattle.float64.proofs.Ranges.{rate-in, range-in, in-range, in-number}
use Rattle.float64.proofs.Clamped.{clamp-number}
use Rattle.float64.proofs.Scaled.{mul-number, div-number}
use Rattle.float64.proofs.Parts.{small-in, clamp-whole-in, whole-ends}
use Rattle.float64.proofs.Glide.{glide-in}
use Rattle.float64.proofs.Lengths.{line-length}
use Rattle.float64.proofs.Zeros.{Zero}
use Rattle.common.specs.Line.{line_at, read_at, all_zero}
use Rattle.common.specs.Reads.{age_at}
use Rattle.common.proofs.Ring.{front-line}
use Rattle.common.proofs.Slices.{front-set}
use Rattle.common.proofs.Sweep.{part-read}
use Rattle.effect.specs.Parts.{first_places, held_in}
use Rattle.effect.proofs.Parts.{first-read}
use Rattle.effect.proofs.Counts.{recount-front}
use Rattle.delay_line.specs.declared.halves.Reader.{Reader}
use Rattle.delay_line.specs.Halves.{maximum_fits, line_length, size, glide_fits, reader_fits, linear_ms, samples_of, glided, reads_at, delayed_by, kept_of, sum_of, half_read, stores, count_after}

-- ---- the length of the line

pub maximum-in : {maximum : Float} → maximum_fits maximum ≡ true → In binary64 (fraction 1 1000) (float_of 60) maximum
unfolding Ieee.fits of_int round
maximum-in k = range-in tt k

-- the length, and that rate × maximum is small enough for `whole_part_small`
module _ (rate maximum : Float) (h : rate_fits rate && maximum_fits maximum ≡ true) where
  samples-in : In binary64 (float_of 8) (float_of 11520000) (mul binary64 rate maximum)
  unfolding Ieee.fits le lt mul of_int round
  samples-in = let f = and_parts (rate_fits rate) (maximum_fits maximum) h in mul_in (float_of 8) (float_of 11520000) tt tt tt (rate-in f.0) (maximum-in f.1)

  pub samples-low : T (le (float_of 1) (mul binary64 rate maximum))
  unfolding Ieee.fits le of_int
  samples-low = (widen (float_of 1) (float_of 16777216) tt samples-in).lower

  pub samples-high : T (lt (mul binary64 rate maximum) (float_of 4503599627370496))
  unfolding Ieee.fits le of_int
  samples-high = (small-in (widen (float_of 1) (float_of 16777216) tt samples-in)).1

  pub length-low : 9 ≤ line_length rate maximum
  unfolding line_length
  length-low = let f = and_parts (rate_fits rate) (maximum_fits maximum) h in omega (arith, (line-length rate f.0 (maximum-in f.1)).0)

  pub length-high : line_length rate maximum ≤ 11520001
  unfolding line_length
  length-high = let f = and_parts (rate_fits rate) (maximum_fits maximum) h in (line-length rate f.0 (maximum-in f.1)).1

pub ruleset size_cases = (samples-low, samples-high, length-low, length-high)

-- ---- the state test

pub record Fits (r : Reader) : Type 0 where
  pub rate : rate_fits r.sample_rate ≡ true
  pub maximum : maximum_fits r.max_delay_secs ≡ true
  pub inside : r.write_pos < size r
  pub most : r.nonzero_places ≤ size r
  pub coefficient : coefficient_fits r.delay_smooth_coef ≡ true
  pub glide : glide_fits r.delay_primed r.smoothed_delay (size r) ≡ true

module _ (r : Reader) where
  pub fits-parts : reader_fits r ≡ true → Fits r
  unfolding reader_fits
  fits-parts e =
      let L = size r in
      let w = ltb r.write_pos L in
      let n = leb r.nonzero_places L in
      let c = coefficient_fits r.delay_smooth_coef in
      let g = glide_fits r.delay_primed r.smoothed_delay L in
      let a = and_parts (rate_fits r.sample_rate && maximum_fits r.max_delay_secs) (w && (n && (c && g))) e in
      let k = and_parts (rate_fits r.sample_rate) (maximum_fits r.max_delay_secs) a.0 in
      let b = and_parts w (n && (c && g)) a.1 in
      let d = and_parts n (c && g) b.1 in
      let h = and_parts c g d.1 in
      record { rate = k.0; maximum = k.1; inside = ltb-true r.write_pos L b.0; most = leb-true r.nonzero_places L d.0; coefficient = h.0; glide = h.1 }

  pub fit : Fits r → reader_fits r ≡ true
  unfolding reader_fits
  fit f = let L = size r in rw (f.rate, f.maximum, lt-ltb r.write_pos L f.inside, le-leb r.nonzero_places L f.most, f.coefficient, f.glide)

  pub size-fits : Fits r → (9 ≤ size r) × (size r ≤ 11520001)
  size-fits f =
      let h : rate_fits r.sample_rate && maximum_fits r.max_delay_secs ≡ true = rw (f.rate, f.maximum) in
      (length-low r.sample_rate r.max_delay_secs h, length-high r.sample_rate r.max_delay_secs h)

-- ---- the delay in samples

-- linear time is a number of milliseconds
pub linear-number : (maximum time : Float) → maximum_fits maximum ≡ true → is_number time ≡ true → is_number (linear_ms maximum time) ≡ true
unfolding linear_ms is_number Ieee.fits is_nan of_int round
linear-number maximum time f k = mul-number _ (float_of 1000) (clamp-number time plus_zero maximum k refl (in-number (maximum-in f))) tt

-- and a number of milliseconds one of samples
pub samples-number : (rate ms : Float) → rate_fits rate ≡ true → is_number ms ≡ true → is_number (samples_of rate ms) ≡ true
unfolding samples_of of_int
samples-number rate ms f k =
    let r = rate-in f in
    let p : T (positive rate) = between (float_of 8000) rate (float_of 192000) tt tt r.lower r.upper in
    div-number _ (float_of 1000) (mul-number ms rate k p) tt

-- ---- the glide

module _ (r : Reader) (f : Fits r) (x : Float) (k : is_number x ≡ true) where
  target-in : In binary64 (float_of 1) (float_of (size r - 1)) (clamp_of x (float_of 1) (float_of (size r - 1)))
  target-in = let l = size-fits r f in clamp-whole-in (size r - 1) (omega (arith, l.1)) x (omega (arith, l.0)) k

  -- the distance stays from 1 to L − 1 by itself, rounding included: so both places that are read lie in the line
  pub reads_in : In binary64 (float_of 1) (float_of (size r - 1)) (reads_at r x)
  unfolding reads_at glided glide_fits
  reads_in =
      let short : size r - 1 ≤ 2 ^ 24 = omega (arith, (size-fits r f).1) in
      let glide = f.glide in
      cond_both r.delay_primed _ _ (λ (d : Float). In binary64 (float_of 1) (float_of (size r - 1)) d)
      (λ e. glide-in (size r - 1) r.delay_smooth_coef short target-in (range-in (whole-ends (size r - 1) short) (rw e at glide)) f.coefficient)
      (λ e. target-in)

-- so that a read at it is allowed
pub read_on_line : (r : Reader) (x : Float) → reader_fits r ≡ true → is_number x ≡ true → in_range (reads_at r x) (float_of 1) (float_of (size r - 1)) ≡ true
read_on_line r x f k = in-range (reads_in r (fits-parts r f) x k)

-- what a half leaves of a primed glide that has read there
pub glide-left : (r : Reader) (x : Float) → Fits r → is_number x ≡ true → glide_fits true (reads_at r x) (size r) ≡ true
unfolding glide_fits
glide-left r x f k = in-range (reads_in r f x k)

-- ---- the line by itself: m is its places, no more

-- the state and the line are what a read and a store ask for
pub record Ready (r : Reader) (m : List Float) : Type 0 where
  pub inside : r.write_pos < length m
  pub most : r.nonzero_places ≤ length m
  pub some : 2 ≤ length m
  pub short : length m ≤ 16777217

pub ready : {r : Reader} {m : List Float} → length m ≡ size r → reader_fits r ≡ true → Ready r m
ready {r} e k =
    let f = fits-parts r k in
    let l = size-fits r f in
    record { inside = omega (arith, e, f.inside); most = omega (arith, e, f.most); some = omega (arith, e, l.0); short = omega (arith, e, l.1) }

-- a read in the first n places of any memory, which are the line, is what a tick reads
pub delayed-is : (r : Reader) (x : Float) {n : ℕ} → n ≡ size r → (m : List Float) {d y : Float} → n ≤ length m → r.write_pos < n → d ≡ reads_at r x
    → y ≡ read_at (line_at 0 (length (take n m)) r.write_pos (take n m)) d
    → y ≡ delayed_by r x m
unfolding delayed_by
delayed-is r x {n} e m {d} l h a g = g ∙ part-read n 0 n r.write_pos m d refl (omega (arith, l)) h ∙ (λ i. read_at (line_at 0 (e i) r.write_pos m) (a i))

-- What the halves do in the line they do in a memory that begins with it.
module _ (r : Reader) (n : ℕ) (m : List Float) (e : n ≡ size r) (inside : r.write_pos < size r) where
  delayed : (x : Float) → delayed_by r x (take n m) ≡ delayed_by r x m
  unfolding delayed_by
  delayed x =
      let line = front-line 0 (size r) r.write_pos m n (omega (arith, e)) inside in
      λ i. read_at (line i) (reads_at r x)

  pub front-half : (ceiling samples audio feedback mix : Float) → half_read ceiling r samples audio feedback mix (take n m) ≡ half_read ceiling r samples audio feedback mix m
  front-half ceiling samples audio feedback mix =
      λ i.
      let kept = kept_of audio (delayed samples i) mix in
      record { kept = kept; sum = sum_of ceiling feedback kept; smoothed_delay = reads_at r samples; age = age_at (reads_at r samples) }

  pub front-stored : (x : Float) {l : List Float} → length (take n m) ≡ n → l ≡ set (take n m) r.write_pos x → l ++ drop n m ≡ set m r.write_pos x
  front-stored x long g =
      ap (λ (q : List Float). q ++ drop n m) g ∙ front-set (take n m) (drop n m) r.write_pos x (omega (arith, e, inside, long)) (take-append-drop n m)

  -- the count after a store as well
  pub front-count : (x : Float) (c : ℕ) → length (take n m) ≡ n → count_after (length (take n m)) r.write_pos x (take n m) c ≡ count_after (size r) r.write_pos x m c
  front-count x c long =
      (λ i. count_after ((long ∙ e) i) r.write_pos x (take n m) c)
      ∙ recount-front n (first_places (size r)) (stores r.write_pos x) m c (omega (arith, e, inside), tt)

-- a line of zeros is heard as a zero
pub heard-zero : (r : Reader) (m : List Float) → Fits r → (x : Float) → is_number x ≡ true → size r ≤ length m
    → all_zero (held_in (first_places (size r)) m) ≡ true
    → Zero (delayed_by r x m)
unfolding delayed_by
heard-zero r m f x k l z =
    first-read (size r) 0 (size r) r.write_pos m (reads_at r x) l z (omega arith) f.inside (omega (arith, (size-fits r f).1)) (reads_in r f x k)

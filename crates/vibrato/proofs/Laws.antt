-- The vibrato's definitions by their cases: the line's length, the state test, the table's row of a tick, its distance, and an accepted tick from its steps,
-- also where ports are unset. Assumes nothing.
use Prim.Native.Nat.{ℕ, ◌+◌, ◌-◌, ◌*◌, ◌≤◌, ◌<◌}
use native.Mathlib.Omega.{arith}
use mathlib.Core.Path.{◌≡◌, refl, sym, ap, ◌∙◌}
use mathlib.Core.Bool.{true, false, ◌&&◌, ◌||◌}
use mathlib.Core.List.{List, [], ◌∷◌, ◌++◌}
use lib.Dec.{ltb, leb}
use lib.ListN.{length, get_or, take, drop, set}
use lib.Seq.{length-take-le}
use lib.Ieee.{Float, nan, binary64, is_nan, add, mul, div, neg, le, lt, of_int, round}
use lib.Ieee as Ieee
use borrow.Author.Tests.{ltb-true, lt-ltb, leb-true, le-leb}
use Rattle.std.proofs.lemmas.List.{take-append-drop}
use Rattle.float64.specs.Number.{plus_zero, float_of, fraction, half, is_number, in_range, rate_fits, phase_fits, frequency_fits, sine_fits, clamp_of}
use Rattle.float64.proofs.Tests.{both}
use Rattle.float64.proofs.Interval.{In, point, add-in, mul_in, div-in, scale_in}
use Rattle.float64.proofs.Ranges.{in-range, range-in, rate-in, sine-in, in-number}
use Rattle.float64.proofs.Parts.{clamp-whole-in}
use Rattle.float64.proofs.Lengths.{length-20}
use Rattle.port.specs.declared.Port.TheVariants.{Set}
use Rattle.port.specs.Port.{value_or, is_nan_set}
use Rattle.port.specs.Answer.{Reply, played}
use Rattle.port.proofs.Laws.{nan_is}
use Rattle.common.specs.Signal.{blended, advanced, cause_number}
use Rattle.common.specs.Line.{next_place, line_at, read_at, nonzero, recounted}
use Rattle.common.specs.Reads.{age_at, largest_age}
use Rattle.common.proofs.Ages.{oldest-one}
use Rattle.common.proofs.Slices.{front-set}
use Rattle.common.proofs.Ring.{front-line}
use Rattle.common.proofs.Sweep.{no-cause, neither, control-in}
use Rattle.effect.specs.Effect.{laid}
use Rattle.effect.proofs.Counts.{one-recount, recount-front}
use Rattle.effect.specs.Lines.{in_each}
use Rattle.effect.specs.Run.{tick, reset, number_in}
use Rattle.effect.specs.Contract.{Does}
use Rattle.effect.proofs.Table.{accepted, tick-accepted}
use Rattle.effect.proofs.Contract.{accepts}
use Rattle.effect.proofs.Rows.{tick_row, unit, first-long, first-does}
use Rattle.vibrato.specs.declared.Vibrato.{Vibrato}
use Rattle.vibrato.specs.Vibrato.{Tick, tick_of, vibrato, line_length, parts, state_of, state_fits, tick_number, input, depth, mix, distance_in, distance, read, reads, delayed, next_counted, next, writes}
use Rattle.vibrato.specs.Vibrato as page

-- ---- the line's length

module _ (rate : Float) (h : rate_fits rate ≡ true) where
  pub length-fits : (170 ≤ line_length rate) × (line_length rate ≤ 3850)
  unfolding line_length
  length-fits = let l = length-20 rate h in (omega arith, omega arith)

-- ---- the state test

pub record Fits (s : Vibrato) : Type 0 where
  pub rate : rate_fits s.sample_rate ≡ true
  pub inside : s.write_pos < line_length s.sample_rate
  pub most : s.nonzero_places ≤ line_length s.sample_rate
  pub phase : phase_fits s.lfo_phase ≡ true

module _ (s : Vibrato) where
  pub fits-parts : state_fits s ≡ true → Fits s
  unfolding state_fits
  fits-parts e =
      let L = line_length s.sample_rate in
      let w = ltb s.write_pos L in
      let c = leb s.nonzero_places L in
      let p = phase_fits s.lfo_phase in
      let a = both (rate_fits s.sample_rate) (w && (c && p)) e in
      let b = both w (c && p) a.1 in
      let d = both c p b.1 in
      record { rate = a.0; inside = ltb-true s.write_pos L b.0; most = leb-true s.nonzero_places L d.0; phase = d.1 }

  pub fit : Fits s → state_fits s ≡ true
  unfolding state_fits
  fit f = let L = line_length s.sample_rate in rw (f.rate, lt-ltb s.write_pos L f.inside, le-leb s.nonzero_places L f.most, f.phase)

-- ---- causes 5 and 6

pub record TickFits (t : Tick) : Type 0 where
  pub depth : is_nan_set t.depth ≡ false
  pub mix : is_nan_set t.mix ≡ false
  pub frequency : frequency_fits t.frequency ≡ true
  pub sine : sine_fits t.sine ≡ true

pub tick-fits : (t : Tick) → tick_number t ≡ 0 → TickFits t
unfolding tick_number
tick-fits t e =
    let v = no-cause (is_nan_set t.depth || is_nan_set t.mix) (frequency_fits t.frequency && sine_fits t.sine) e in
    let a = both (frequency_fits t.frequency) (sine_fits t.sine) v.1 in
    let b = neither (is_nan_set t.depth) (is_nan_set t.mix) v.0 in
    record { depth = b.0; mix = b.1; frequency = a.0; sine = a.1 }

-- ---- the distance

-- (10 + sine × (depth × 10 × 0.9)) × rate / 1000
abbrev swept : Float → Float → Float → Float
swept rate depth sine =
    div binary64 (mul binary64 (add binary64 (float_of 10) (mul binary64 sine (mul binary64 (mul binary64 depth (float_of 10)) (fraction 9 10)))) rate) (float_of 1000)

module _ (rate depth sine : Float) (h : rate_fits rate ≡ true) (d : In binary64 plus_zero (float_of 1) depth) (k : sine_fits sine ≡ true) where
  swept-in : In binary64 plus_zero (float_of 3840) (swept rate depth sine)
  unfolding Ieee.fits le lt add mul div neg of_int round
  swept-in =
      let swing = mul_in plus_zero (float_of 10) tt tt tt (mul_in plus_zero (float_of 10) tt tt tt d (point (float_of 10) tt)) (point (fraction 9 10) tt) in
      let delay = add-in plus_zero (float_of 20) tt (point (float_of 10) tt) (scale_in (neg (float_of 10)) (float_of 10) tt tt tt (sine-in k) swing) in
      div-in plus_zero (float_of 3840) tt tt tt (mul_in plus_zero (float_of 3840000) tt tt tt delay (rate-in h)) (point (float_of 1000) tt)

  -- after the clamp both places that are read lie in the line
  pub distance-held : (L : ℕ) → 2 ≤ L → L ≤ 16777217 → In binary64 (float_of 1) (float_of (L - 1)) (distance_in L rate depth sine)
  unfolding distance_in
  distance-held L some short = clamp-whole-in (L - 1) (omega arith) (swept rate depth sine) (omega arith) (in-number swept-in)

  pub distance-in : In binary64 (float_of 1) (float_of (line_length rate - 1)) (distance rate depth sine)
  distance-in = let l = length-fits rate h in distance-held (line_length rate) (omega (arith, l.0)) (omega (arith, l.1))

-- the same, as tests
pub held_to_line : (L : ℕ) (rate depth sine : Float) → rate_fits rate ≡ true → in_range depth (float_of 0) (float_of 1) ≡ true → sine_fits sine ≡ true → 2 ≤ L → L ≤ 16777217
    → in_range (distance_in L rate depth sine) (float_of 1) (float_of (L - 1)) ≡ true
unfolding Ieee.fits le of_int
held_to_line L rate depth sine h d k some short = in-range (distance-held rate depth sine h (range-in tt d) k L some short)

-- ---- an accepted tick of the line by itself: m is the line's places, no more

-- the state and the line are what a read and a store ask for, and what the distance is worked out from is in range
pub record Ready (t : Tick) (s : Vibrato) (m : List Float) : Type 0 where
  pub rate : rate_fits s.sample_rate ≡ true
  pub sine : sine_fits t.sine ≡ true
  pub inside : s.write_pos < length m
  pub some : 2 ≤ length m
  pub short : length m ≤ 16777217
  pub most : s.nonzero_places ≤ length m
  pub depth : in_range (depth t) plus_zero (float_of 1) ≡ true

pub ready : {t : Tick} {s : Vibrato} {m : List Float} → length m ≡ line_length s.sample_rate → number_in vibrato (tick t) (length m) s ≡ 0 → Ready t s m
unfolding is_number Ieee.fits is_nan round
ready {t} {s} {m} e k =
    let rate = s.sample_rate in
    let taken = accepted vibrato (length m) (tick t) s k in
    let f = fits-parts s taken.state_fits in
    let curves = tick-fits t (tick-accepted vibrato (length m) t rate taken.number).number in
    let long = length-fits rate f.rate in
    record {
      rate = f.rate;
      sine = curves.sine;
      inside = omega (arith, e, f.inside);
      some = omega (arith, e, long.0);
      short = omega (arith, e, long.1);
      most = omega (arith, e, f.most);
      depth = in-range (control-in t.depth half curves.depth refl);
    }

-- from its steps
module _ (t : Tick) (s : Vibrato) (m : List Float) (e : length m ≡ line_length s.sample_rate) where
  pub distance-is : {d x : Float} → d ≡ depth t → x ≡ distance_in (length m) s.sample_rate d t.sine → x ≡ distance s.sample_rate (depth t) t.sine
  distance-is g at = at ∙ (λ i. distance_in (e i) s.sample_rate (g i) t.sine)

  -- what a read at that distance hands back
  module _ {x : Float} (at : x ≡ distance s.sample_rate (depth t) t.sine) where
    pub line-delayed : {y : Float} → y ≡ read_at (line_at 0 (length m) s.write_pos m) x → y ≡ delayed t s m
    unfolding delayed
    line-delayed r = r ∙ (λ i. read_at (line_at 0 (e i) s.write_pos m) (at i))

    pub age-is : {a : ℕ} → a ≡ age_at x → a ≡ largest_age (reads t s)
    age-is r = r ∙ ap age_at at ∙ sym (oldest-one (read t s))

  pub next-is : {w c : ℕ} {p x : Float} → x ≡ input t → w ≡ next_place (length m) s.write_pos
      → c ≡ recounted (length m) s.nonzero_places (nonzero x) (nonzero (get_or m s.write_pos nan))
      → p ≡ advanced s.lfo_phase (div binary64 t.frequency s.sample_rate)
      → state_of w c p s.sample_rate ≡ next t s m
  unfolding next_counted writes
  next-is audio w c p =
      let L = line_length s.sample_rate in
      let first : s.write_pos ≡ 0 * L + s.write_pos = omega arith in
      let count =
      c
      ∙ (λ i. recounted (e i) s.nonzero_places (nonzero (audio i)) (nonzero (get_or m (first i) nan)))
      ∙ one-recount L (record { place = 0 * L + s.write_pos; value = input t }) m s.nonzero_places in
      λ i. state_of ((w ∙ ap (λ (z : ℕ). next_place z s.write_pos) e) i) (count i) (p i) s.sample_rate

-- ---- an accepted tick from its steps in a memory m of any length

module _ (t : Tick) (s : Vibrato) (m : List Float) where
  -- a read in its first n places, which are the line, is what the tick reads
  module _ {n : ℕ} (e : n ≡ line_length s.sample_rate) where
    pub delayed-is : {d x y : Float} → n ≤ length m → s.write_pos < n → d ≡ depth t → x ≡ distance s.sample_rate d t.sine
        → y ≡ read_at (line_at 0 (length (take n m)) s.write_pos (take n m)) x
        → y ≡ delayed t s m
    unfolding delayed
    delayed-is l h g at r =
        let rate = s.sample_rate in
        let heard = front-line 0 (line_length rate) s.write_pos m n (omega (arith, e)) (omega (arith, e, h)) in
        line-delayed t s (take n m) (length-take-le n m l ∙ e) (at ∙ (λ i. distance rate (g i) t.sine)) r ∙ (λ i. read_at (heard i) (distance rate (depth t) t.sine))

  -- what is stored and played, from the audio, the read and the clamped mix
  module _ {x : Float} (audio : x ≡ input t) where
    pub stored_is : set m s.write_pos x ≡ laid (writes t s) m
    unfolding writes
    stored_is = let p : s.write_pos ≡ 0 * line_length s.sample_rate + s.write_pos = omega arith in λ i. set m (p i) (audio i)

    pub played-is : {y b r : Float} {a : ℕ} → y ≡ delayed t s m → b ≡ mix t → r ≡ blended x y b → a ≡ largest_age (reads t s)
        → played (r ∷ []) a ≡ played (page.samples t s m) (largest_age (reads t s))
    unfolding page.samples
    played-is y b r a = λ i. played ((r ∙ (λ j. blended (audio j) (y j) (b j))) i ∷ []) (a i)

-- ---- an accepted tick: what it does in the line, which is the first n places of the memory, it does in the memory

module _ (t : Tick) (s : Vibrato) (m : List Float) {n : ℕ} (e : n ≡ line_length s.sample_rate) (passed : 0 ≡ number_in vibrato reset (length m) s) where
  pub line-does : {s' : Vibrato} {l : List Float} {a : Reply} → 0 ≡ tick_number t → Does vibrato (tick t) s (take n m) s' l a
      → Does vibrato (tick t) s m s' (l ++ drop n m) a
  unfolding next_counted writes page.samples delayed
  line-does g does =
      let rate = s.sample_rate in
      let L = line_length rate in
      let w = s.write_pos in
      let inside = (fits-parts s (unit vibrato s m e passed).state_fits).inside in
      let heard = front-line 0 L w m n (omega (arith, e)) inside in
      let counted = recount-front n (parts rate) (writes t s) m s.nonzero_places (omega (arith, e, inside), tt) in
      first-does vibrato s m e passed t g does
      (λ i. next_counted (counted i) t s)
      (front-set (take n m) (drop n m) (0 * L + w) (input t) (omega (arith, e, inside, first-long vibrato s m e passed)) (take-append-drop n m))
      (λ i. blended (input t) (read_at (heard i) (distance rate (depth t) t.sine)) (mix t) ∷ [])

-- ---- ports: a tick is the one with all ports set to the values that it takes from them

module _ (t : Tick) {x d b : Float} (audio : x ≡ value_or t.audio plus_zero) (amount : d ≡ value_or t.depth half) (wet : b ≡ value_or t.mix (float_of 1)) where
  abbrev pub all_set : Tick
  all_set = tick_of (Set x) (Set d) (Set b) t.frequency t.sine

  -- no default is NaN
  pub set_number : tick_number all_set ≡ tick_number t
  unfolding tick_number is_number Ieee.fits Ieee.is_nan of_int round
  set_number = λ i.
      cause_number (nan_is t.depth half refl amount refl i || nan_is t.mix (float_of 1) refl wet refl i) (frequency_fits t.frequency && sine_fits t.sine)

  pub set_does : {s : Vibrato} {m : List Float} {s' : Vibrato} {m' : List Float} {a : Reply} → 0 ≡ number_in vibrato reset (length m) s → 0 ≡ tick_number all_set
      → Does vibrato (tick all_set) s m s' m' a
      → Does vibrato (tick t) s m s' m' a
  unfolding next_counted writes page.samples delayed
  set_does {s} {m} passed none does =
      let k = sym (tick_row vibrato all_set s m passed none) in
      let rate = s.sample_rate in
      let L = line_length rate in
      let w = s.write_pos in
      accepts vibrato (tick t) s m (sym (tick_row vibrato t s m passed (none ∙ set_number)))
      ((rw k at does.state) ∙ (λ i. next (tick_of (Set (audio i)) t.depth t.mix t.frequency t.sine) s m))
      ((rw k at does.memory) ∙ (λ i. laid (in_each 1 0 L w (audio i)) m))
      ((rw k at does.answer)
      ∙ (λ i. played (blended (audio i) (read_at (line_at 0 L w m) (distance rate (clamp_of (amount i) plus_zero (float_of 1)) t.sine)) (clamp_of (wet i) plus_zero (float_of 1)) ∷ [])
      (largest_age (reads (tick_of (Set (audio i)) (Set (amount i)) (Set (wet i)) t.frequency t.sine) s))))

-- The chorus's definitions by their cases: the line's length, the factors of its voices, the state test, the table's row of a tick, its distances, and
-- an accepted tick from its steps, also where ports are unset. Assumes nothing.
use Prim.Native.Nat.{ℕ, ◌+◌, ◌-◌, ◌*◌, ◌≤◌, ◌<◌}
use native.Mathlib.Omega.{arith}
use mathlib.Core.Path.{◌≡◌, refl, sym, ap, ◌∙◌}
use Rattle.std.specs.Prelude.{max}
use mathlib.Core.Bool.{true, false, ◌&&◌, ◌||◌}
use mathlib.Core.List.{List, [], ◌∷◌, ◌++◌}
use lib.IntN.{negsuc}
use lib.Dec.{ltb, leb}
use lib.ListN.{length, get_or, take, drop, set}
use lib.Seq.{length-take-le}
use lib.Ieee.{Float, fin, nan, binary64, add, sub, mul, div, neg, is_nan, le, lt, of_int, round}
use lib.Ieee as Ieee
use borrow.Author.Tests.{ltb-true, lt-ltb, leb-true, le-leb}
use Rattle.std.proofs.lemmas.List.{take-append-drop}
use Rattle.float64.specs.Number.{plus_zero, float_of, fraction, half, is_number, in_range, rate_fits, phase_fits, frequency_fits, sine_fits, clamp_of}
use Rattle.float64.proofs.Tests.{both}
use Rattle.float64.proofs.Interval.{In, point, add-in, mul_in, div-in, scale_in}
use Rattle.float64.proofs.Ranges.{in-range, range-in, rate-in, sine-in, in-number}
use Rattle.float64.proofs.Parts.{clamp-whole-in}
use Rattle.float64.proofs.Lengths.{length-32}
use Rattle.port.specs.declared.Port.TheVariants.{Set}
use Rattle.port.specs.Port.{value_or, is_nan_set}
use Rattle.port.specs.Answer.{Reply, played}
use Rattle.port.proofs.Laws.{nan_is}
use Rattle.common.specs.Signal.{sanitized, cause_number}
use Rattle.common.specs.Line.{next_place, line_at, read_at, nonzero, recounted}
use Rattle.common.specs.Reads.{age_at, largest_age}
use Rattle.common.proofs.Ages.{oldest-three}
use Rattle.common.proofs.Slices.{front-set}
use Rattle.common.proofs.Ring.{front-line}
use Rattle.common.proofs.Sweep.{neither, no-cause, control-in}
use Rattle.effect.specs.Effect.{laid}
use Rattle.effect.proofs.Counts.{one-recount, recount-front}
use Rattle.effect.specs.Lines.{in_each}
use Rattle.effect.specs.Run.{tick, reset, number_in}
use Rattle.effect.specs.Contract.{Does}
use Rattle.effect.proofs.Table.{accepted, tick-accepted}
use Rattle.effect.proofs.Contract.{accepts}
use Rattle.effect.proofs.Rows.{tick_row, unit, first-long, first-does}
use Rattle.chorus.specs.declared.Chorus.{Chorus}
use Rattle.chorus.specs.Chorus.{Tick, tick_of, chorus, line_length, parts, Phases, phases_of, phase_at, factor, stepped, next_phases, state_of, phases_fit, fits_with, tick_number, input, depth, mix, distance_in, distance, voice_read, voice, mixed, writes, next_counted, next}
use Rattle.chorus.specs.Chorus as page

-- ---- the line's length

module _ (rate : Float) (h : rate_fits rate ≡ true) where
  pub length-fits : (266 ≤ line_length rate) × (line_length rate ≤ 6154)
  unfolding line_length
  length-fits = let l = length-32 rate h in (omega arith, omega arith)

-- ---- the factors of the voices, as the code has them. Each side is computed by itself: against each other they are compared step by step

abbrev low : Float
low = fin false 8106479329266893 (negsuc 52)

abbrev high : Float
high = fin false 2476979795053773 (negsuc 50)

factor-low : factor 0 ≡ low
unfolding factor add sub mul of_int round
factor-low = refl

tenths-low : fraction 9 10 ≡ low
unfolding round
tenths-low = refl

factor-high : factor 2 ≡ high
unfolding factor add sub mul of_int round
factor-high = refl

tenths-high : fraction 11 10 ≡ high
unfolding round
tenths-high = refl

pub factor-0 : factor 0 ≡ fraction 9 10
factor-0 = factor-low ∙ sym tenths-low

pub factor-1 : factor 1 ≡ float_of 1
unfolding factor add sub mul of_int round
factor-1 = refl

pub factor-2 : factor 2 ≡ fraction 11 10
factor-2 = factor-high ∙ sym tenths-high

pub phases_by : (frequency rate : Float) (p : Phases)
    → stepped (phase_at 0 p) frequency (fraction 9 10) rate ∷ stepped (phase_at 1 p) frequency (float_of 1) rate ∷ stepped (phase_at 2 p) frequency (fraction 11 10) rate ∷ []
    ≡ next_phases frequency rate p
unfolding next_phases
phases_by frequency rate p = rw (factor-0, factor-1, factor-2)

-- ---- the state test, where so many places are in use

pub record Fits (used : ℕ) (s : Chorus) : Type 0 where
  pub rate : rate_fits s.sample_rate ≡ true
  pub inside : s.write_pos < line_length s.sample_rate
  pub most : s.nonzero_places ≤ used
  pub phase0 : phase_fits (phase_at 0 (phases_of s)) ≡ true
  pub phase1 : phase_fits (phase_at 1 (phases_of s)) ≡ true
  pub phase2 : phase_fits (phase_at 2 (phases_of s)) ≡ true

module _ {used : ℕ} (s : Chorus) where
  pub fits-parts : fits_with used s ≡ true → Fits used s
  unfolding fits_with
  fits-parts e =
      let L = line_length s.sample_rate in
      let w = ltb s.write_pos L in
      let m = leb s.nonzero_places used in
      let p = phases_of s in
      let others = phase_fits (phase_at 1 p) && phase_fits (phase_at 2 p) in
      let a = both (rate_fits s.sample_rate) (w && (m && phases_fit p)) e in
      let b = both w (m && phases_fit p) a.1 in
      let c = both m (phases_fit p) b.1 in
      let d = both (phase_fits (phase_at 0 p)) others c.1 in
      let f = both (phase_fits (phase_at 1 p)) (phase_fits (phase_at 2 p)) d.1 in
      record {
        rate = a.0;
        inside = ltb-true s.write_pos L b.0;
        most = leb-true s.nonzero_places used c.0;
        phase0 = d.0;
        phase1 = f.0;
        phase2 = f.1;
      }

  pub fit : Fits used s → fits_with used s ≡ true
  unfolding fits_with
  fit f = rw (f.rate, lt-ltb s.write_pos (line_length s.sample_rate) f.inside, le-leb s.nonzero_places used f.most, f.phase0, f.phase1, f.phase2)

-- ---- causes 5 and 6

pub record TickFits (t : Tick) : Type 0 where
  pub depth : is_nan_set t.depth ≡ false
  pub mix : is_nan_set t.mix ≡ false
  pub frequency : frequency_fits t.frequency ≡ true
  pub sine0 : sine_fits t.sine0 ≡ true
  pub sine1 : sine_fits t.sine1 ≡ true
  pub sine2 : sine_fits t.sine2 ≡ true

pub tick-fits : (t : Tick) → tick_number t ≡ 0 → TickFits t
unfolding tick_number
tick-fits t e =
    let others = sine_fits t.sine1 && sine_fits t.sine2 in
    let sines = sine_fits t.sine0 && others in
    let v = no-cause (is_nan_set t.depth || is_nan_set t.mix) (frequency_fits t.frequency && sines) e in
    let a = both (frequency_fits t.frequency) sines v.1 in
    let b = both (sine_fits t.sine0) others a.1 in
    let c = both (sine_fits t.sine1) (sine_fits t.sine2) b.1 in
    let d = neither (is_nan_set t.depth) (is_nan_set t.mix) v.0 in
    record { depth = d.0; mix = d.1; frequency = a.0; sine0 = b.0; sine1 = c.0; sine2 = c.1 }

-- ---- distances

-- 7 × rate / 1000 + (sine × 0.5 + 0.5) × (depth × 25 × rate / 1000)
abbrev pub swept : Float → Float → Float → Float
swept rate depth sine =
    add binary64
    (div binary64 (mul binary64 (float_of 7) rate) (float_of 1000))
    (mul binary64 (add binary64 (mul binary64 sine half) half) (div binary64 (mul binary64 (mul binary64 depth (float_of 25)) rate) (float_of 1000)))

module _ (rate depth sine : Float) (h : rate_fits rate ≡ true) (d : In binary64 plus_zero (float_of 1) depth) (k : sine_fits sine ≡ true) where
  pub swept-in : In binary64 plus_zero (float_of 6144) (swept rate depth sine)
  unfolding Ieee.fits le lt add mul div neg of_int round
  swept-in =
      let base = div-in plus_zero (float_of 1344) tt tt tt (mul_in (float_of 56000) (float_of 1344000) tt tt tt (point (float_of 7) tt) (rate-in h)) (point (float_of 1000) tt) in
      let delay = mul_in plus_zero (float_of 4800000) tt tt tt (mul_in plus_zero (float_of 25) tt tt tt d (point (float_of 25) tt)) (rate-in h) in
      let swing = div-in plus_zero (float_of 4800) tt tt tt delay (point (float_of 1000) tt) in
      let turn = add-in plus_zero (float_of 1) tt (scale_in (neg half) half tt tt tt (sine-in k) (point half tt)) (point half tt) in
      add-in plus_zero (float_of 6144) tt base (mul_in plus_zero (float_of 4800) tt tt tt turn swing)

  -- after the clamp both places that are read lie in the line
  pub distance-held : (L : ℕ) → 2 ≤ L → L ≤ 16777217 → In binary64 (float_of 1) (float_of (L - 1)) (distance_in L rate depth sine)
  unfolding distance_in
  distance-held L some short = clamp-whole-in (L - 1) (omega arith) (swept rate depth sine) (omega arith) (in-number swept-in)

  pub distance-in : In binary64 (float_of 1) (float_of (line_length rate - 1)) (distance rate depth sine)
  distance-in = let l = length-fits rate h in distance-held (line_length rate) (omega (arith, l.0)) (omega (arith, l.1))

-- the same, as tests
pub held_to_line : (L : ℕ) (rate depth sine : Float) → rate_fits rate ≡ true → in_range depth (float_of 0) (float_of 1) ≡ true → sine_fits sine ≡ true → 2 ≤ L → L ≤ 16777217
    → in_range (distance_in L rate depth sine) (float_of 1) (float_of (L - 1)) ≡ true
unfolding Ieee.fits le of_int
held_to_line L rate depth sine h d k some short = in-range (distance-held rate depth sine h (range-in tt d) k L some short)

-- ---- the largest age of the three voices, wherever their lines begin

abbrev pub voices_age : Tick → Float → ℕ
voices_age t rate =
    let far = distance rate (depth t) in
    max (age_at (far t.sine0)) (max (age_at (far t.sine1)) (age_at (far t.sine2)))

pub voices-age : (begin : ℕ → ℕ) (t : Tick) (s : Chorus) → largest_age (page.reads_from begin t s) ≡ voices_age t s.sample_rate
unfolding page.reads_from
voices-age begin t s = oldest-three (voice_read (begin 0) t.sine0 t s) (voice_read (begin 1) t.sine1 t s) (voice_read (begin 2) t.sine2 t s)

-- ---- an accepted tick of the line by itself: m is the line's places, no more

-- the state and the line are what a read and a store ask for, and a voice's numbers are in range
pub record Ready (t : Tick) (s : Chorus) (m : List Float) : Type 0 where
  pub rate : rate_fits s.sample_rate ≡ true
  pub curves : TickFits t
  pub inside : s.write_pos < length m
  pub some : 2 ≤ length m
  pub short : length m ≤ 16777217
  pub most : s.nonzero_places ≤ length m
  pub depth : in_range (depth t) plus_zero (float_of 1) ≡ true

pub ready : {t : Tick} {s : Chorus} {m : List Float} → length m ≡ line_length s.sample_rate → number_in chorus (tick t) (length m) s ≡ 0 → Ready t s m
unfolding is_number Ieee.fits is_nan round
ready {t} {s} {m} e k =
    let rate = s.sample_rate in
    let taken = accepted chorus (length m) (tick t) s k in
    let f = fits-parts s taken.state_fits in
    let curves = tick-fits t (tick-accepted chorus (length m) t rate taken.number).number in
    let long = length-fits rate f.rate in
    record {
      rate = f.rate;
      curves = curves;
      inside = omega (arith, e, f.inside);
      some = omega (arith, e, long.0);
      short = omega (arith, e, long.1);
      most = omega (arith, e, f.most);
      depth = in-range (control-in t.depth half curves.depth refl);
    }

-- from its steps
module _ (t : Tick) (s : Chorus) (m : List Float) (e : length m ≡ line_length s.sample_rate) where
  pub line-voice : {d y : Float} (sine : Float) → d ≡ depth t
      → y ≡ read_at (line_at 0 (length m) s.write_pos m) (distance_in (length m) s.sample_rate d sine)
      → y ≡ voice 0 sine t s m
  unfolding voice
  line-voice sine g r = r ∙ (λ j. read_at (line_at 0 (e j) s.write_pos m) (distance_in (e j) s.sample_rate (g j) sine))

  pub age-is : {d : Float} {a : ℕ} (sine : Float) → d ≡ depth t → a ≡ age_at (distance_in (length m) s.sample_rate d sine) → a ≡ age_at (distance s.sample_rate (depth t) sine)
  age-is sine g r = r ∙ (λ i. age_at (distance_in (e i) s.sample_rate (g i) sine))

  pub next-is : {x : Float} {w c : ℕ} {p : Phases} → x ≡ input t → w ≡ next_place (length m) s.write_pos
      → c ≡ recounted (length m) s.nonzero_places (nonzero x) (nonzero (get_or m s.write_pos nan))
      → p ≡ next_phases t.frequency s.sample_rate (phases_of s)
      → state_of w c p s.sample_rate ≡ next t s m
  unfolding next_counted writes
  next-is audio w c p =
      let L = line_length s.sample_rate in
      let first : s.write_pos ≡ 0 * L + s.write_pos = omega arith in
      let count =
      c
      ∙ (λ i. recounted (e i) s.nonzero_places (nonzero (audio i)) (nonzero (get_or m (first i) nan)))
      ∙ one-recount L (record { place = 0 * L + s.write_pos; value = input t }) m s.nonzero_places in
      λ i. state_of ((w ∙ ap (λ (z : ℕ). next_place z s.write_pos) e) i) (count i) (p i) s.sample_rate

-- ---- an accepted tick from its steps in a memory m of any length

module _ (t : Tick) (s : Chorus) (m : List Float) where
  -- a read in its first n places, which are the line, is what a voice reads
  module _ {n : ℕ} (e : n ≡ line_length s.sample_rate) where
    pub voice-is : {d y : Float} (sine : Float) → n ≤ length m → s.write_pos < n → d ≡ depth t
        → y ≡ read_at (line_at 0 (length (take n m)) s.write_pos (take n m)) (distance_in (length (take n m)) s.sample_rate d sine)
        → y ≡ voice 0 sine t s m
    unfolding voice
    voice-is sine l h g r =
        let rate = s.sample_rate in
        let heard = front-line 0 (line_length rate) s.write_pos m n (omega (arith, e)) (omega (arith, e, h)) in
        line-voice t s (take n m) (length-take-le n m l ∙ e) sine g r ∙ (λ i. read_at (heard i) (distance rate (depth t) sine))

  pub stored_is : {x : Float} → x ≡ input t → set m s.write_pos x ≡ laid (writes t s) m
  unfolding writes
  stored_is x = let p : s.write_pos ≡ 0 * line_length s.sample_rate + s.write_pos = omega arith in λ i. set m (p i) (x i)

  pub played-is : {x b d0 d1 d2 : Float} {a : ℕ} {y : Reply} → x ≡ input t → b ≡ mix t → d0 ≡ voice 0 t.sine0 t s m → d1 ≡ voice 0 t.sine1 t s m → d2 ≡ voice 0 t.sine2 t s m
      → a ≡ voices_age t s.sample_rate
      → y ≡ played (mixed x b d0 d1 d2) a
      → y ≡ played (page.samples t s m) (largest_age (page.reads t s))
  unfolding page.samples_from
  played-is x b d0 d1 d2 a y = y ∙ (λ i. played (mixed (x i) (b i) (d0 i) (d1 i) (d2 i)) ((a ∙ sym (voices-age (λ k. 0) t s)) i))

-- ---- an accepted tick: what it does in the line, which is the first n places of the memory, it does in the memory

module _ (t : Tick) (s : Chorus) (m : List Float) {n : ℕ} (e : n ≡ line_length s.sample_rate) (passed : 0 ≡ number_in chorus reset (length m) s) where
  pub line-does : {s' : Chorus} {l : List Float} {a : Reply} → 0 ≡ tick_number t → Does chorus (tick t) s (take n m) s' l a
      → Does chorus (tick t) s m s' (l ++ drop n m) a
  unfolding next_counted writes page.samples_from voice
  line-does g does =
      let rate = s.sample_rate in
      let L = line_length rate in
      let w = s.write_pos in
      let inside = (fits-parts s (unit chorus s m e passed).state_fits).inside in
      let heard = front-line 0 L w m n (omega (arith, e)) inside in
      let far = distance rate (depth t) in
      let counted = recount-front n (parts rate) (writes t s) m s.nonzero_places (omega (arith, e, inside), tt) in
      first-does chorus s m e passed t g does
      (λ i. next_counted (counted i) t s)
      (front-set (take n m) (drop n m) (0 * L + w) (input t) (omega (arith, e, inside, first-long chorus s m e passed)) (take-append-drop n m))
      (λ i. mixed (input t) (mix t) (read_at (heard i) (far t.sine0)) (read_at (heard i) (far t.sine1)) (read_at (heard i) (far t.sine2)))

-- ---- ports: a tick is the one with all ports set to the values that it takes from them

module _ (t : Tick) {x d b : Float} (audio : x ≡ value_or t.audio plus_zero) (amount : d ≡ value_or t.depth half) (wet : b ≡ value_or t.mix half) where
  abbrev pub all_set : Tick
  all_set = tick_of (Set x) (Set d) (Set b) t.frequency (t.sine0 ∷ t.sine1 ∷ t.sine2 ∷ [])

  pub set_number : tick_number all_set ≡ tick_number t
  unfolding tick_number is_number Ieee.fits is_nan round
  set_number =
      let curves = frequency_fits t.frequency && (sine_fits t.sine0 && (sine_fits t.sine1 && sine_fits t.sine2)) in
      λ i. cause_number (nan_is t.depth half refl amount refl i || nan_is t.mix half refl wet refl i) curves

  pub set_does : {s : Chorus} {m : List Float} {s' : Chorus} {m' : List Float} {a : Reply} → 0 ≡ number_in chorus reset (length m) s → 0 ≡ tick_number all_set
      → Does chorus (tick all_set) s m s' m' a
      → Does chorus (tick t) s m s' m' a
  unfolding next_counted writes page.samples_from page.reads_from voice
  set_does {s} {m} passed none does =
      let k = sym (tick_row chorus all_set s m passed none) in
      let rate = s.sample_rate in
      let L = line_length rate in
      let w = s.write_pos in
      accepts chorus (tick t) s m (sym (tick_row chorus t s m passed (none ∙ set_number)))
      ((rw k at does.state) ∙ (λ i. next (tick_of (Set (audio i)) t.depth t.mix t.frequency (t.sine0 ∷ t.sine1 ∷ t.sine2 ∷ [])) s m))
      ((rw k at does.memory) ∙ (λ i. laid (in_each 1 0 L w (sanitized (audio i))) m))
      ((rw k at does.answer)
      ∙ (λ i. played
      (mixed
      (sanitized (audio i))
      (clamp_of (wet i) plus_zero (float_of 1))
      (read_at (line_at 0 L w m) (distance rate (clamp_of (amount i) plus_zero (float_of 1)) t.sine0))
      (read_at (line_at 0 L w m) (distance rate (clamp_of (amount i) plus_zero (float_of 1)) t.sine1))
      (read_at (line_at 0 L w m) (distance rate (clamp_of (amount i) plus_zero (float_of 1)) t.sine2)))
      (largest_age (page.reads (tick_of (Set (audio i)) (Set (amount i)) (Set (wet i)) t.frequency (t.sine0 ∷ t.sine1 ∷ t.sine2 ∷ [])) s))))

-- The flanger's definitions by their cases: the length of a line, the state test, the table's row of a tick, its distances, and an accepted tick from its
-- steps, also where ports are unset. Assumes nothing.
use Prim.Native.Nat.{ℕ, ◌+◌, ◌-◌, ◌*◌, ◌/◌, ◌≤◌, ◌<◌, max}
use native.Mathlib.Omega.{arith}
use mathlib.Core.Path.{◌≡◌, refl, sym, ap, ◌∙◌}
use mathlib.Core.Bool.{true, false, ◌&&◌, ◌||◌}
use mathlib.Core.List.{List, [], ◌∷◌, ◌++◌}
use lib.ListN.{length, get_or, take, drop, set, length-set}
use lib.Ieee.{Float, nan, binary64, add, mul, div, neg, le, lt, of_int, is_nan, round}
use lib.Ieee as Ieee
use Rattle.std.proofs.lemmas.Bool.Decides.{nat_tests}
use Rattle.std.proofs.lemmas.List.{take-append-drop}
use Rattle.float64.specs.Number.{plus_zero, float_of, half, is_number, in_range, rate_fits, phase_fits, frequency_fits, sine_fits}
use Rattle.float64.proofs.Interval.{In, point, add-in, mul_in, div-in}
use Rattle.float64.proofs.Ranges.{rate-in, sine-in, range-in, in-range, in-number}
use Rattle.float64.proofs.Parts.{clamp-whole-in}
use Rattle.float64.proofs.Lengths.{length-10}
use Rattle.port.specs.declared.Port.TheVariants.{Set}
use Rattle.port.specs.Port.{value_or, is_nan_set}
use Rattle.port.proofs.Laws.{nan_is}
use Rattle.port.specs.Answer.{Reply, played}
use Rattle.common.specs.Signal.{blended, advanced, cause_number}
use Rattle.common.specs.Line.{next_place, line_at, read_at, nonzero, recounted}
use Rattle.common.specs.Reads.{age_at, largest_age}
use Rattle.common.proofs.Ages.{oldest-two}
use Rattle.common.proofs.Slices.{part_length, front-set}
use Rattle.common.proofs.Ring.{front-line}
use Rattle.common.proofs.Sweep.{control-in, part-read}
use Rattle.effect.specs.Effect.{Write, laid, recount}
use Rattle.effect.proofs.Laws.{Below}
use Rattle.effect.proofs.Counts.{two-recount, recount-front}
use Rattle.effect.specs.Run.{tick, reset, number_in}
use Rattle.effect.specs.Contract.{Does}
use Rattle.effect.proofs.Table.{accepted, tick-accepted}
use Rattle.effect.proofs.Contract.{accepts}
use Rattle.effect.proofs.Rows.{tick_row, unit, first-long, first-does}
use Rattle.flanger.specs.declared.Flanger.{Flanger}
use Rattle.flanger.specs.Flanger.{Tick, tick_of, flanger, line_length, places, parts, state_of, state_fits, tick_number, input, depth, feedback, mix, distance_in, distance, tap_read, tap, reads, fed, writes, next_counted, next}
use Rattle.flanger.specs.Flanger as page

-- ---- the length of a line

pub length_fits : (rate : Float) → rate_fits rate ≡ true → (90 ≤ line_length rate) × (line_length rate ≤ 1930)
unfolding line_length
length_fits rate h = let l = length-10 rate h in (omega arith, omega arith)

-- ---- the state test

pub record Fits (s : Flanger) : Type 0 where
  pub rate : rate_fits s.sample_rate ≡ true
  pub inside : s.write_pos < line_length s.sample_rate
  pub most : s.nonzero_places ≤ places s.sample_rate
  pub phase : phase_fits s.lfo_phase ≡ true

pub fits-parts : (s : Flanger) → state_fits s ≡ true → Fits s
unfolding state_fits
fits-parts s e = record { rate = grind arith; inside = grind (arith, nat_tests); most = grind (arith, nat_tests); phase = grind arith }

pub fit : (s : Flanger) → Fits s → state_fits s ≡ true
unfolding state_fits
fit s f = grind (arith, nat_tests)

-- ---- causes 5 and 6

pub record TickFits (t : Tick) : Type 0 where
  pub depth : is_nan_set t.depth ≡ false
  pub feedback : is_nan_set t.feedback ≡ false
  pub mix : is_nan_set t.mix ≡ false
  pub frequency : frequency_fits t.frequency ≡ true
  pub sine0 : sine_fits t.sine0 ≡ true
  pub sine1 : sine_fits t.sine1 ≡ true

pub tick-fits : (t : Tick) → tick_number t ≡ 0 → TickFits t
unfolding tick_number
tick-fits t e =
    record { depth = grind arith; feedback = grind arith; mix = grind arith; frequency = grind arith; sine0 = grind arith; sine1 = grind arith }

-- ---- distances

-- (1 + (sine + 1) × 0.5 × (depth × 9)) × rate / 1000
abbrev pub swept : Float → Float → Float → Float
swept rate depth sine =
    div binary64 (mul binary64 (add binary64 (float_of 1) (mul binary64 (mul binary64 (add binary64 sine (float_of 1)) half) (mul binary64 depth (float_of 9)))) rate) (float_of 1000)

module _ (rate depth sine : Float) (h : rate_fits rate ≡ true) (d : in_range depth plus_zero (float_of 1) ≡ true) (k : sine_fits sine ≡ true) where
  swept-in : In binary64 plus_zero (float_of 1920) (swept rate depth sine)
  unfolding Ieee.fits le lt add mul div neg of_int round
  swept-in =
      let turn = mul_in plus_zero (float_of 1) tt tt tt (add-in plus_zero (float_of 2) tt (sine-in k) (point (float_of 1) tt)) (point half tt) in
      let swing = mul_in plus_zero (float_of 9) tt tt tt (range-in tt d) (point (float_of 9) tt) in
      let delay = add-in (float_of 1) (float_of 10) tt (point (float_of 1) tt) (mul_in plus_zero (float_of 9) tt tt tt turn swing) in
      div-in plus_zero (float_of 1920) tt tt tt (mul_in plus_zero (float_of 1920000) tt tt tt delay (rate-in h)) (point (float_of 1000) tt)

  -- after the clamp both places that are read lie in the line
  pub distance-held : (L : ℕ) → 2 ≤ L → L ≤ 16777217 → In binary64 (float_of 1) (float_of (L - 1)) (distance_in L rate depth sine)
  unfolding distance_in
  distance-held L some short = clamp-whole-in (L - 1) (omega arith) (swept rate depth sine) (omega arith) (in-number swept-in)

  pub distance-in : In binary64 (float_of 1) (float_of (line_length rate - 1)) (distance rate depth sine)
  distance-in = let l = length_fits rate h in distance-held (line_length rate) (omega (arith, l.0)) (omega (arith, l.1))

-- the same, as tests
pub held_to_line : (L : ℕ) (rate depth sine : Float) → rate_fits rate ≡ true → in_range depth (float_of 0) (float_of 1) ≡ true → sine_fits sine ≡ true → 2 ≤ L → L ≤ 16777217
    → in_range (distance_in L rate depth sine) (float_of 1) (float_of (L - 1)) ≡ true
unfolding of_int
held_to_line L rate depth sine h d k some short = in-range (distance-held rate depth sine h d k L some short)

-- ---- an accepted tick of the lines by themselves: m is their places, no more

-- the left line is the first half, the right line the second; state and lines are what reads and stores ask for, and what the distances are
-- worked out from is in range
pub record Ready (t : Tick) (s : Flanger) (m : List Float) (n : ℕ) : Type 0 where
  pub all : length m ≡ places s.sample_rate
  pub long : n ≡ line_length s.sample_rate
  pub room : n + n ≤ length m
  pub left : length (take n m) ≡ n
  pub right : length (take (length m - n) (drop n m)) ≡ n
  pub inside : s.write_pos < n
  pub some : 2 ≤ n
  pub short : n ≤ 16777217
  pub most : s.nonzero_places ≤ length m
  pub rate : rate_fits s.sample_rate ≡ true
  pub depth : in_range (depth t) plus_zero (float_of 1) ≡ true
  pub sine0 : sine_fits t.sine0 ≡ true
  pub sine1 : sine_fits t.sine1 ≡ true

pub ready : {t : Tick} {s : Flanger} {m : List Float} → length m ≡ 2 * line_length s.sample_rate → number_in flanger (tick t) (length m) s ≡ 0
    → Ready t s m (length m / 2)
unfolding is_number Ieee.fits is_nan round
ready {t} {s} {m} e k =
    let rate = s.sample_rate in
    let taken = accepted flanger (length m) (tick t) s k in
    let f = fits-parts s taken.state_fits in
    let curves = tick-fits t (tick-accepted flanger (length m) t rate taken.number).number in
    let places = length_fits rate f.rate in
    let n = length m / 2 in
    let long : n ≡ line_length rate = omega (arith, e) in
    record {
      all = e;
      long = long;
      room = omega (arith, e, long);
      left = part_length 0 n m n refl (omega arith);
      right = part_length n (length m - n) m n (omega (arith, e, long)) (omega (arith, e, long));
      inside = omega (arith, long, f.inside);
      some = omega (arith, long, places.0);
      short = omega (arith, long, places.1);
      most = omega (arith, e, f.most);
      rate = f.rate;
      depth = in-range (control-in t.depth half curves.depth refl);
      sine0 = curves.sine0;
      sine1 = curves.sine1;
    }

-- ---- a tick from its steps, of any state and any memory, where a line has n places; the next state alone, whose count is that of all of m, asks for `Ready`

module _ (t : Tick) (s : Flanger) (m : List Float) {n : ℕ} (long : n ≡ line_length s.sample_rate) where
  -- in the part of k places from place o on, which is line i
  module _ (i k o : ℕ) (sine : Float) (a : k ≡ n) (h : o + n ≤ length m) where
    pub distance-is : {d x : Float} → d ≡ depth t → x ≡ distance_in (length (take k (drop o m))) s.sample_rate d sine → x ≡ distance s.sample_rate (depth t) sine
    distance-is g f = f ∙ (λ j. distance_in ((part_length o k m n a h ∙ long) j) s.sample_rate (g j) sine)

    -- a read at that distance hears what the tick reads in line i
    pub tap-is : {x y : Float} → s.write_pos < n → o ≡ i * n → x ≡ distance s.sample_rate (depth t) sine
        → y ≡ read_at (line_at 0 (length (take k (drop o m))) s.write_pos (take k (drop o m))) x
        → y ≡ tap i sine t s m
    unfolding tap
    tap-is {x} inside b f y =
        let start = b ∙ ap (λ (z : ℕ). i * z) long in
        y ∙ part-read k o n s.write_pos m x a h inside ∙ (λ j. read_at (line_at (start j) (long j) s.write_pos m) (f j))

  -- what is left, from what both lines are fed
  module _ {x0 x1 : Float} (left : x0 ≡ fed t (tap 0 t.sine0 t s m)) (right : x1 ≡ fed t (tap 1 t.sine1 t s m)) where
    pub stored_is : set (set m s.write_pos x0) (n + s.write_pos) x1 ≡ laid (writes t s m) m
    unfolding writes
    stored_is = λ i. set (set m s.write_pos (left i)) (long i + s.write_pos) (right i)

    pub next-is : {v c : ℕ} {p : Float} → Ready t s m n → v ≡ next_place (length (take n m)) s.write_pos
        → c
        ≡ recounted (length m) s.nonzero_places (nonzero x0 + nonzero x1) (nonzero (get_or m s.write_pos nan) + nonzero (get_or m (n + s.write_pos) nan))
        → p ≡ advanced s.lfo_phase (div binary64 t.frequency s.sample_rate)
        → state_of v c p s.sample_rate ≡ next t s m
    unfolding next_counted writes
    next-is r v c p =
        let k = s.nonzero_places in
        let w = s.write_pos in
        let one : Write = record { place = w; value = fed t (tap 0 t.sine0 t s m) } in
        let two : Write = record { place = line_length s.sample_rate + w; value = fed t (tap 1 t.sine1 t s m) } in
        let count =
        c
        ∙ (λ i. recounted (r.all i) k (nonzero (left i) + nonzero (right i)) (nonzero (get_or m w nan) + nonzero (get_or m (long i + w) nan)))
        ∙ two-recount (places s.sample_rate) one two m k in
        λ i. state_of ((v ∙ ap (λ (z : ℕ). next_place z w) (r.left ∙ long)) i) (count i) (p i) s.sample_rate

module _ (t : Tick) (s : Flanger) (m : List Float) where
  -- what a line is fed, from the audio, its read and the clamped feedback
  pub fed-is : {x d f y : Float} → x ≡ input t → d ≡ y → f ≡ feedback t → add binary64 x (mul binary64 d f) ≡ fed t y
  unfolding fed
  fed-is audio read back = λ i. add binary64 (audio i) (mul binary64 (read i) (back i))

  -- what is played, from the audio, the two reads and the clamped mix
  module _ {x d0 d1 : Float} (audio : x ≡ input t) (left : d0 ≡ tap 0 t.sine0 t s m) (right : d1 ≡ tap 1 t.sine1 t s m) where
    pub played-is : {b l r : Float} {a : ℕ} → b ≡ mix t → l ≡ blended x d0 b → r ≡ blended x d1 b → a ≡ largest_age (reads t s)
        → played (l ∷ l ∷ r ∷ []) a ≡ played (page.samples t s m) (largest_age (reads t s))
    unfolding page.samples
    played-is b l r a =
        (λ i. played (l i ∷ l i ∷ r i ∷ []) (a i))
        ∙ (λ i. played (blended (audio i) (left i) (b i) ∷ blended (audio i) (left i) (b i) ∷ blended (audio i) (right i) (b i) ∷ []) (largest_age (reads t s)))

  -- the larger age of two reads at the two distances
  pub age-is : {x y : Float} {a b c : ℕ} → x ≡ distance s.sample_rate (depth t) t.sine0 → y ≡ distance s.sample_rate (depth t) t.sine1 → a ≡ age_at x → b ≡ age_at y
      → c ≡ max a b → c ≡ largest_age (reads t s)
  age-is x y a b c =
      c ∙ (λ i. max (a i) (b i)) ∙ (λ i. max (age_at (x i)) (age_at (y i))) ∙ sym (oldest-two (tap_read 0 t.sine0 t s) (tap_read 1 t.sine1 t s))

-- ---- an accepted tick: what it does in the lines, which are the first places of the memory, it does in the memory

module _ (t : Tick) (s : Flanger) (m : List Float) {n : ℕ} (e : n ≡ places s.sample_rate) (passed : 0 ≡ number_in flanger reset (length m) s) where
  inside : s.write_pos < line_length s.sample_rate
  inside = (fits-parts s (unit flanger s m e passed).state_fits).inside

  -- line i is read alike
  same-tap : (i : ℕ) (sine : Float) → i * line_length s.sample_rate + line_length s.sample_rate ≤ n → tap i sine t s (take n m) ≡ tap i sine t s m
  unfolding tap
  same-tap i sine h =
      let L = line_length s.sample_rate in
      let heard = front-line (i * L) L s.write_pos m n h inside in
      λ j. read_at (heard j) (distance s.sample_rate (depth t) sine)

  -- so that both stores are alike
  same-writes : writes t s (take n m) ≡ writes t s m
  unfolding writes
  same-writes =
      let w = s.write_pos in
      let L = line_length s.sample_rate in
      let left = same-tap 0 t.sine0 (omega (arith, e)) in
      let right = same-tap 1 t.sine1 (omega (arith, e)) in
      λ i. record { place = w; value = fed t (left i) } ∷ record { place = L + w; value = fed t (right i) } ∷ []

  pub lines-do : {s' : Flanger} {l : List Float} {a : Reply} → 0 ≡ tick_number t → Does flanger (tick t) s (take n m) s' l a
      → Does flanger (tick t) s m s' (l ++ drop n m) a
  unfolding next_counted writes page.samples
  lines-do g does =
      let L = line_length s.sample_rate in
      let w = s.write_pos in
      let first = take n m in
      let rest = drop n m in
      let long = first-long flanger s m e passed in
      let left = same-tap 0 t.sine0 (omega (arith, e)) in
      let right = same-tap 1 t.sine1 (omega (arith, e)) in
      let x = fed t (tap 0 t.sine0 t s first) in
      let one = front-set first rest w x (omega (arith, e, inside, long)) (take-append-drop n m) in
      let two = front-set (set first w x) rest (L + w) (fed t (tap 1 t.sine1 t s first)) (omega (arith, e, inside, long, length-set first w x)) one in
      let below : Below n (writes t s first) = (omega (arith, e, inside), (omega (arith, e, inside), tt)) in
      let qs = parts s.sample_rate in
      let counted = recount-front n qs (writes t s first) m s.nonzero_places below ∙ (λ i. recount qs (same-writes i) m s.nonzero_places) in
      first-does flanger s m e passed t g does
      (λ i. next_counted (counted i) t s)
      (two ∙ (λ i. laid (same-writes i) m))
      (λ i. blended (input t) (left i) (mix t) ∷ blended (input t) (left i) (mix t) ∷ blended (input t) (right i) (mix t) ∷ [])

-- ---- ports: a tick is the one with all ports set to the values that it takes from them

module _ (t : Tick) where
  abbrev pub filled : Tick
  filled =
      tick_of (Set (value_or t.audio plus_zero)) (Set (value_or t.depth half)) (Set (value_or t.feedback plus_zero)) (Set (value_or t.mix half)) t.frequency t.sine0 t.sine1

  -- no default is NaN
  pub filled_number : tick_number filled ≡ tick_number t
  unfolding tick_number is_number Ieee.fits is_nan round
  filled_number =
      let depth = nan_is t.depth half refl refl refl in
      let feedback = nan_is t.feedback plus_zero refl refl refl in
      let mix = nan_is t.mix half refl refl refl in
      (λ i. cause_number (depth i || (feedback i || mix i)) (frequency_fits t.frequency && (sine_fits t.sine0 && sine_fits t.sine1)))

  pub filled_does : {s : Flanger} {m : List Float} {s' : Flanger} {m' : List Float} {a : Reply} → 0 ≡ number_in flanger reset (length m) s
      → 0 ≡ tick_number filled
      → Does flanger (tick filled) s m s' m' a
      → Does flanger (tick t) s m s' m' a
  unfolding next_counted writes fed page.samples tap
  filled_does {s} {m} u e does =
      let k = sym (tick_row flanger filled s m u e) in
      accepts flanger (tick t) s m (sym (tick_row flanger t s m u (e ∙ filled_number))) (rw k at does.state) (rw k at does.memory) (rw k at does.answer)

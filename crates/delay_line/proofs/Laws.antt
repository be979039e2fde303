-- The delay line's definitions by their cases: the maximum, the state test, the table's row of a tick, and an accepted tick from its steps, also where ports are
-- unset. Assumes nothing.
use Prim.Native.Nat.{ℕ, ◌-◌, ◌<◌}
use mathlib.Core.Path.{◌≡◌, refl, sym, ap, ◌∙◌}
use mathlib.Core.Bool.{Bool, true, false, not, ◌&&◌, ◌||◌, cond}
use mathlib.Core.List.{List, [], ◌∷◌, ◌++◌}
use lib.ListN.{length, take, drop, set}
use lib.Ieee.{Float, binary64, le, lt, of_int, round, is_nan}
use lib.Ieee as Ieee
use Rattle.float64.specs.Number.{plus_zero, float_of, half, is_number, is_finite, in_range, in_unit, coefficient_fits}
use Rattle.std.proofs.lemmas.Bool.{not-false, cond_both, or_parts}
use Rattle.float64.proofs.Tests.{clash}
use Rattle.float64.proofs.Interval.{In}
use Rattle.float64.proofs.Ranges.{in-range, finite_number}
use Rattle.float64.proofs.Clamped.{clamp-in}
use Rattle.port.specs.declared.Port.TheVariants.{Set, Unset}
use Rattle.port.specs.Port.{value_or, is_nan_set}
use Rattle.port.specs.Answer.{Reply, played}
use Rattle.port.proofs.Laws.{nan_is}
use Rattle.common.specs.Signal.{cause_number}
use Rattle.common.specs.Reads.{largest_age}
use Rattle.common.proofs.Ages.{oldest-one}
use Rattle.common.proofs.Sweep.{no-cause, value-number}
use Rattle.effect.specs.Effect.{laid}
use Rattle.effect.specs.Run.{tick, reset, first, memory_number, number_in}
use Rattle.effect.proofs.Table.{accepted, tick-accepted}
use Rattle.effect.proofs.Rows.{unit, first-long}
use Rattle.delay_line.specs.declared.DelayLine.{DelayLine}
use Rattle.delay_line.specs.declared.halves.HalfRead.{HalfRead}
use Rattle.delay_line.specs.Halves.{maximum_fits, size, linear_ms, samples_of, reads_at, half_read, count_after, heard_of, half_stored}
use Rattle.delay_line.specs.DelayLine.{Tick, delay_line, ceiling, tick_of, settings, reader, held_maximum, settings_number, state_fits, tick_number, delay_ms, delay_samples, half_of, next_state, next_counted, next, writes}
use Rattle.delay_line.specs.DelayLine as page
use Rattle.delay_line.proofs.ReaderLaws.{Fits, fits-parts, linear-number, samples-number, reads_in, front-half, front-stored, front-count}

-- ---- the maximum

-- whatever a start is handed, the maximum that it holds is in its range
pub held_fits : (x : Float) → maximum_fits (held_maximum x) ≡ true
unfolding held_maximum in_range Ieee.fits le of_int round
held_fits x = cond_both (is_finite x) _ _ (λ (y : Float). maximum_fits y ≡ true) (λ f. in-range (clamp-in x tt tt (finite_number x f))) (λ f. refl)

-- a start that only counts places is handed +0 for its coefficient
pub zero_fits : coefficient_fits plus_zero ≡ true
unfolding in_unit le lt of_int Ieee.fits
zero_fits = refl

-- ---- the state test

pub state_maximum : (s : DelayLine) → state_fits s ≡ true → maximum_fits s.max_delay_secs ≡ true
state_maximum s e = (fits-parts (reader s) e).maximum

-- ---- causes 5 and 6

-- what the delay is worked out from, in either mode, and what the sample is blended by
pub record TickFits (t : Tick) (linear : Bool) : Type 0 where
  pub time : linear ≡ true → is_nan_set t.time ≡ false
  pub milliseconds : linear ≡ false → is_number t.milliseconds ≡ true
  pub feedback : is_nan_set t.feedback ≡ false
  pub mix : is_nan_set t.mix ≡ false

pub tick-fits : (t : Tick) (linear : Bool) → tick_number t linear ≡ 0 → TickFits t linear
unfolding tick_number
tick-fits t linear e =
    let others = is_nan_set t.feedback || is_nan_set t.mix in
    let v = no-cause (linear && is_nan_set t.time || others) (linear || is_number t.milliseconds) e in
    let n = or_parts (linear && is_nan_set t.time) others v.0 in
    let b = or_parts (is_nan_set t.feedback) (is_nan_set t.mix) n.1 in
    let time = n.0 in
    record { time = λ l. rw l at time; milliseconds = λ l. rw l at v.1; feedback = b.0; mix = b.1 }

-- a tick with these numbers: time, feedback, mix and milliseconds
abbrev pub set_tick : Float → Float → Float → Float → Tick
set_tick c f b ms = tick_of Unset (Set c) (Set f) (Set b) ms

-- a tick whose ports are set to the numbers that it takes from them has the same row
module _ (t : Tick) (linear : Bool) {c f b : Float} (time : c ≡ value_or t.time half) (back : f ≡ value_or t.feedback plus_zero) (wet : b ≡ value_or t.mix half) where
  pub set-row : tick_number (set_tick c f b t.milliseconds) linear ≡ tick_number t linear
  unfolding tick_number is_number Ieee.fits is_nan round
  set-row =
      let x = nan_is t.time half refl time refl in
      let y = nan_is t.feedback plus_zero refl back refl in
      let z = nan_is t.mix half refl wet refl in
      λ i. cause_number (linear && x i || (y i || z i)) (linear || is_number t.milliseconds)

  pub set-number : (n : ℕ) (s : DelayLine) → s.linear_time ≡ linear → number_in delay_line (tick (set_tick c f b t.milliseconds)) n s ≡ number_in delay_line (tick t) n s
  set-number n s e = rw e (ap (λ (k : ℕ). cond (state_fits s) (first (memory_number (size (reader s)) n) k) 4) set-row)

-- none of these numbers is NaN, and neither is the delay in samples x, which is worked out from them
pub no_nan : (linear : Bool) (time feedback mix ms : Float) (x : Float) {p q r : Bool} → (is_number x ≡ true → cond linear (is_number time) (is_number ms) ≡ true)
    → p ≡ not (is_number x) → q ≡ not (is_number feedback) → r ≡ not (is_number mix) → p || (q || r) ≡ false
    → tick_number (set_tick time feedback mix ms) linear ≡ 0
unfolding tick_number
no_nan linear time feedback mix ms x {p} {q} {r} read d e f none =
    let i = or_parts p (q || r) none in
    let j = or_parts q r i.1 in
    rw (sym e ∙ j.0, sym f ∙ j.1) (go linear (is_number time) (is_number ms) (read (not-false (is_number x) (sym d ∙ i.0))))
  where
    go : (l t m : Bool) → cond l t m ≡ true → ◌≡◌ {A = ℕ} (cause_number (l && not t || false) (l || m)) 0
    go true true m e = refl
    go true false m e = clash e refl
    go false t true e = refl
    go false t false e = clash e refl

-- ---- the delay in samples

module _ (t : Tick) (s : DelayLine) (f : Fits (reader s)) (k : TickFits t s.linear_time) where
  -- in either mode the delay is a number, if not a finite one
  pub delay-number : is_number (delay_samples t s) ≡ true
  unfolding delay_ms is_number Ieee.fits is_nan round
  delay-number =
      samples-number s.sample_rate (delay_ms t s) f.rate
      (cond_both s.linear_time _ _ (λ (x : Float). is_number x ≡ true) (λ e. linear-number s.max_delay_secs _ f.maximum (value-number t.time half (k.time e) refl)) k.milliseconds)

  pub distance-in : In binary64 (float_of 1) (float_of (size (reader s) - 1)) (reads_at (reader s) (delay_samples t s))
  distance-in = reads_in (reader s) f (delay_samples t s) delay-number

-- an accepted tick with these numbers meets no NaN, also not on the way to its delay in samples
pub meets-none : (s : DelayLine) (n : ℕ) (time feedback mix ms : Float) {x : Float} {p q r : Bool}
    → x ≡ samples_of s.sample_rate (cond s.linear_time (linear_ms s.max_delay_secs time) ms)
    → p ≡ not (is_number x) → q ≡ not (is_number feedback) → r ≡ not (is_number mix)
    → number_in delay_line (tick (set_tick time feedback mix ms)) n s ≡ 0 → p || (q || r) ≡ false
unfolding delay_ms
meets-none s n time feedback mix ms x p q r e =
    let t = set_tick time feedback mix ms in
    let u = accepted delay_line n (tick t) s e in
    let none = (tick-accepted delay_line n t (settings s) u.number).number in
    let k = tick-fits t s.linear_time none in
    rw (p, q, r, x, delay-number t s (fits-parts (reader s) u.state_fits) k, k.feedback, k.mix)

-- ---- a tick as its page has it, of any state and any memory, from the numbers that it takes from its ports and its delay in samples

module _ (t : Tick) (s : DelayLine) (m : List Float) {a c f b x : Float} (audio : a ≡ value_or t.audio plus_zero) (time : c ≡ value_or t.time half) (back : f ≡ value_or t.feedback plus_zero) (wet : b ≡ value_or t.mix half) (read : x ≡ samples_of s.sample_rate (cond s.linear_time (linear_ms s.max_delay_secs c) t.milliseconds)) where
  samples-are : x ≡ delay_samples t s
  unfolding delay_ms
  samples-are = read ∙ (λ i. samples_of s.sample_rate (cond s.linear_time (linear_ms s.max_delay_secs (time i)) t.milliseconds))

  -- the read half
  abbrev made : HalfRead
  made = half_read ceiling (reader s) x a f b m

  half-is : made ≡ half_of t s m
  half-is = λ i. half_read ceiling (reader s) (samples-are i) (audio i) (back i) (wet i) m

  pub stored_is : {m' : List Float} → m' ≡ set m s.write_pos made.sum → m' ≡ laid (writes t s m) m
  unfolding writes
  stored_is g = g ∙ (λ i. set m s.write_pos (half-is i).sum)

  pub played-is : {q : Reply} → q ≡ played (heard_of made.kept ∷ []) made.age → q ≡ played (page.samples t s m) (largest_age (page.reads t s))
  unfolding page.samples
  played-is g =
      g
      ∙ (λ i. played (heard_of (half-is i).kept ∷ []) (half-is i).age)
      ∙ ap (played (page.samples t s m)) (sym (oldest-one (page.read t s)))

  -- what an accepted tick does in the line, which is the first n places of the memory, it does in the memory
  module _ {n : ℕ} (e : n ≡ size (reader s)) (passed : 0 ≡ number_in delay_line reset (length m) s) where
    inside : s.write_pos < size (reader s)
    inside = (fits-parts (reader s) (unit delay_line s m e passed).state_fits).inside

    -- the read half, made in the line
    abbrev here : HalfRead
    here = half_read ceiling (reader s) x a f b (take n m)

    here-is : here ≡ made
    here-is = front-half (reader s) n m e inside ceiling x a f b

    -- the whole tick, from what it does in the line
    whole : length (take n m) ≡ size (reader s)
    whole = first-long delay_line s m e passed ∙ e

    -- and the count after it
    abbrev count : ℕ
    count = count_after (length (take n m)) s.write_pos here.sum (take n m) s.nonzero_places

    count-is : count ≡ count_after (size (reader s)) s.write_pos (half_of t s m).sum m s.nonzero_places
    count-is =
        front-count (reader s) n m e inside here.sum s.nonzero_places (first-long delay_line s m e passed)
        ∙ (λ i. count_after (size (reader s)) s.write_pos ((here-is ∙ half-is) i).sum m s.nonzero_places)

    pub next-is : {r : DelayLine} → r ≡ next_state here (half_stored (length (take n m)) s.write_pos count here.kept) s → r ≡ next t s m
    unfolding next_counted writes
    next-is g =
        let h = here-is ∙ half-is in
        g ∙ (λ i. next_state (h i) (half_stored (whole i) s.write_pos (count-is i) (h i).kept) s)

    pub line-stored : {l : List Float} → l ≡ set (take n m) s.write_pos here.sum → l ++ drop n m ≡ laid (writes t s m) m
    line-stored g = stored_is (front-stored (reader s) n m e inside _ (first-long delay_line s m e passed) g ∙ (λ i. set m s.write_pos (here-is i).sum))

    pub line-played : {q : Reply} → q ≡ played (heard_of here.kept ∷ []) here.age → q ≡ played (page.samples t s m) (largest_age (page.reads t s))
    line-played g = played-is (g ∙ (λ i. played (heard_of (here-is i).kept ∷ []) (here-is i).age))

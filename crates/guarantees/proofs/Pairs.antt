-- What is promised of the tape delay alone, by its laws and by the cases of its table. Assumes nothing.
use Rattle.std.proofs.Common.{◌≡◌, ◌≢◌, ℕ, Bool, true, false, not, cond, All, [], ◌∷◌, length, set, ltb, refl, sym, ap, ◌∙◌, arith}
use lib.Ieee.{Float, nan, binary64, add, sub, mul, div, neg, le, lt, of_int, round, to_unsigned}
use lib.Ieee as Ieee
use Rattle.float64.specs.Number.{plus_zero, float_of, in_range, in_unit, saturated_fits, is_zero, rate_fits, coefficient_fits, clamp_of}
use Rattle.std.proofs.lemmas.Bool.{and_parts}
use Rattle.float64.proofs.Gains.{five-times}
use Rattle.port.specs.Answer.{played}
use Rattle.common.specs.Signal.{blended}
use Rattle.common.specs.Line.{read_at, next_place}
use Rattle.common.specs.Reads.{age_at}
use Rattle.common.proofs.Ages.{oldest-one}
use Rattle.common.proofs.Sweep.{no-cause}
use Rattle.effect.specs.Run.{ask, Device, device_of, first, memory_number, number_in, number_at, is_silent, step, reply, after, replies, start, Run, final}
use Rattle.effect.specs.StaysSilent.{all_play_zeros}
use Rattle.effect.proofs.PlacesKeep.{Keeps, places-keep}
use Rattle.effect.proofs.EachTick.{all-meet}
use Rattle.effect.proofs.Table.{memory-enough, accepted, tick-accepted}
use Rattle.delay_line.specs.Halves.{size, count_after, line_length, reader_fits, linear_ms, samples_of, glided, reads_at, delayed_by, read_by}
use Rattle.delay_line.specs.DelayLine.{settings_number}
use Rattle.delay_line.specs.DelayLine as delay
use Rattle.tape_delay.specs.declared.TapeDelay.{TapeDelay}
use Rattle.tape_delay.specs.TapeDelay.{Ports, maximum, read_half, store_half, tape_delay, state_fits, kept_fits, settings, places, reader, tick_number, delay_samples, half_of, stored_state, next, writes}
use Rattle.tape_delay.specs.TapeDelay as page
use Rattle.tape_delay.proofs.Demand1.{laws}
use Rattle.port.specs.Answer as answer
use Rattle.tape_delay.proofs.StaysSilent as silent
use Rattle.guarantees.specs.Lamp.{under_rule, SilentTapes}
use Rattle.guarantees.specs.Tapes.{read, store, heard, stored_count, WithinFive, ReadHalf, StoreHalf, Pair, ordinary_state, ordinary, ordinary_tick, AsOrdinary, Cases, Tapes}

-- ---- the line

-- an accepted store half writes a value from −5 to 5
keeps : Keeps tape_delay (λ t. Unit {0}) WithinFive
unfolding writes tick_number
keeps (read_half p) h e c m = tt
keeps (store_half v) h e c m =
    let row = accepted tape_delay (length h.memory) (store v) h.state e in
    let number = (tick-accepted tape_delay (length h.memory) (store_half v) (settings h.state) row.number).number in
    (five-times v (no-cause false (saturated_fits v) number).1, tt)

zero_within : WithinFive plus_zero
unfolding in_range Ieee.fits le neg of_int
zero_within = refl

bounded : (x : Run tape_delay) → All WithinFive (final tape_delay x).memory
bounded x = places-keep tape_delay (λ t. Unit {0}) WithinFive zero_within keeps x (all-meet tape_delay (λ t. Unit {0}) (λ t. tt) x.calls (start tape_delay x.handed x.memory))

-- ---- the halves

reads : (p : Ports) (h : Device TapeDelay) → number_at tape_delay (read p) h ≡ 0 → ReadHalf p h
unfolding next writes page.samples page.reads
reads p h e =
    record {
      answers = rw e (ap (played ((half_of p h.state h.memory).sum ∷ [])) (oldest-one (read_by (reader h.state) (delay_samples p h.state))));
      memory = rw e refl;
      state = rw e refl;
    }

stores : (v : Float) (h : Device TapeDelay) → number_at tape_delay (store v) h ≡ 0 → StoreHalf v h
unfolding next writes page.samples page.reads
stores v h e = record { answers = rw e refl; memory = rw e refl; state = rw e refl }

-- the memory has the places, the state that waits passes, and it is a store half's turn
follows : (p : Ports) (v : Float) (h : Device TapeDelay) → number_at tape_delay (read p) h ≡ 0 → saturated_fits v ≡ true
    → number_at tape_delay (store v) (step tape_delay (read p) h) ≡ 0
unfolding next writes tick_number
follows p v h e k =
    let row = accepted tape_delay (length h.memory) (read p) h.state e in
    let t = tick-accepted tape_delay (length h.memory) (read_half p) (settings h.state) row.number in
    let passes = laws.next_fits (read_half p) h.state h.memory row.state_fits t.enough t.number in
    rw (e, passes, ← memory-enough t.enough, k) refl

-- what both halves leave and answer
pairs : (p : Ports) (v : Float) (h : Device TapeDelay) → number_at tape_delay (read p) h ≡ 0 → saturated_fits v ≡ true → Pair p v h
unfolding after replies
pairs p v h e k =
    let r = reads p h e in
    let s = stores v (step tape_delay (read p) h) (follows p v h e k) in
    record {
      answers = λ i. r.answers i ∷ (s.answers ∙ (λ j. played (heard (r.state j).kept ∷ []) 0)) i ∷ [];
      memory = s.memory ∙ (λ i. set (r.memory i) (r.state i).write_pos (mul binary64 v (float_of 5)));
      state = s.state ∙ (λ i. let t = r.state i in stored_state (page.stored_of (stored_count v (device_of t (r.memory i))) t) t);
    }

-- ---- the ordinary delay

-- the row of its tick, which the read half's has passed
ordinary-accepted : (p : Ports) (h : Device TapeDelay) → number_at tape_delay (read p) h ≡ 0 → number_at delay.delay_line (ordinary_tick p) (ordinary h) ≡ 0
unfolding tick_number delay.tick_number
ordinary-accepted p h e =
    let row = accepted tape_delay (length h.memory) (read p) h.state e in
    let t = tick-accepted tape_delay (length h.memory) (read_half p) (settings h.state) row.number in
    let fits = (and_parts (reader_fits (reader h.state)) (kept_fits h.state.waiting h.state.kept) row.state_fits).0 in
    rw (fits, ← memory-enough t.enough) t.number

ordinary-pairs : (p : Ports) (v : Float) (h : Device TapeDelay) → number_at tape_delay (read p) h ≡ 0 → saturated_fits v ≡ true → AsOrdinary p v h
unfolding delay.next_counted delay.writes delay.samples delay.delay_ms
ordinary-pairs p v h e k =
    let a = ordinary-accepted p h e in
    let pair = pairs p v h e k in
    let half = half_of p h.state h.memory in
    let kept = half.kept in
    record {
      accepted = a;
      state = rw a (ap (ordinary_state (delay.next (delay.tick_of p.audio p.time p.feedback p.mix nan) (ordinary h).state h.memory).nonzero_places) pair.state);
      answers = rw a (ap (played (heard kept ∷ [])) (oldest-one (delay.read (delay.tick_of p.audio p.time p.feedback p.mix nan) (ordinary h).state)));
      stored = λ same clamps.
          let sum = same ∙ (λ j. add binary64 kept.audio (mul binary64 kept.read (sym clamps j))) in
          let s = h.state in
          let L = size (reader s) in
          rw a
          ((λ i. ordinary (device_of (pair.state i) (pair.memory i)))
          ∙ (λ i. device_of (delay.state_of (next_place L s.write_pos) (count_after L s.write_pos (sum i) h.memory s.nonzero_places) half.smoothed_delay true (delay.handing s.sample_rate s.delay_smooth_coef maximum true)) (set h.memory s.write_pos (sum i))));
    }

-- ---- whose turn it is

read-row : (p : Ports) (n : ℕ) (s : TapeDelay)
    → number_in tape_delay (read p) n s ≡ cond (state_fits s) (cond s.waiting 7 (first (memory_number (places (settings s)) n) (tick_number (read_half p)))) 4
read-row p n s = ap (λ (k : ℕ). cond (state_fits s) k 4) (turn-first s.waiting _)
  where
    turn-first : (b : Bool) (k : ℕ) → first (cond b 7 0) k ≡ cond b 7 k
    turn-first true k = refl
    turn-first false k = refl

store-row : (v : Float) (n : ℕ) (s : TapeDelay)
    → number_in tape_delay (store v) n s ≡ cond (state_fits s) (cond s.waiting (first (memory_number (places (settings s)) n) (tick_number (store_half v))) 7) 4
store-row v n s = ap (λ (k : ℕ). cond (state_fits s) k 4) (turn-first s.waiting _)
  where
    turn-first : (b : Bool) (k : ℕ) → first (cond b 0 7) k ≡ cond b k 7
    turn-first true k = refl
    turn-first false k = refl

-- causes 4 and 3 are no 7, and neither are 1 and 2
no-turn : (fits short : Bool) → ◌≢◌ {A = ℕ} (cond fits (cond short 3 0) 4) 7
no-turn true true e = absurd (omega (arith, e))
no-turn true false e = absurd (omega (arith, e))
no-turn false short e = absurd (omega (arith, e))

retune-none : (fits rate coefficient short : Bool) → ◌≢◌ {A = ℕ} (cond fits (first (cond rate (cond coefficient 0 2) 1) (cond short 3 0)) 4) 7
retune-none true true true short e = no-turn true short e
retune-none true true false short e = absurd (omega (arith, e))
retune-none true false coefficient short e = absurd (omega (arith, e))
retune-none false rate coefficient short e = absurd (omega (arith, e))

-- ---- the lamp: two halves of a tick leave a silent unit silent

-- what waits or not is told by the state after a store half
lamp-pairs : (p : Ports) (v : Float) (h : Device TapeDelay) → is_silent tape_delay h ≡ true → is_zero (under_rule p.audio) ≡ true → is_zero v ≡ true → saturated_fits v ≡ true
    → number_at tape_delay (read p) h ≡ 0
    → (all_play_zeros (replies tape_delay (read p ∷ store v ∷ []) h) ≡ true) × (is_silent tape_delay (after tape_delay (read p ∷ store v ∷ []) h) ≡ true)
lamp-pairs p v h d a z k e =
    let row = accepted tape_delay (length h.memory) (read p) h.state e in
    let cs = read p ∷ store v ∷ [] in
    let on = silent.shown.goes-on cs h (λ f. a, (λ f. z, tt)) (silent.shown.silent-calm h row.state_fits d) in
    let state = (pairs p v h e k).state in
    (on.0, silent.shown.calm-silent (after tape_delay cs h) on.1 (ap (λ (s : TapeDelay). not s.waiting) state))

-- a unit that waits is not quiet
waits-told : (h : Device TapeDelay) → number_at tape_delay ask h ≡ 0 → h.state.waiting ≡ true → reply tape_delay ask h ≡ answer.silent false
waits-told h e w = rw (e, w) refl

-- after a run that is answered "silent"; the state after both halves does not wait, and is told by the count
lamp-runs : (p : Ports) (v : Float) (x : Run tape_delay) → reply tape_delay ask (final tape_delay x) ≡ answer.silent true
    → is_zero (under_rule p.audio) ≡ true → is_zero v ≡ true → saturated_fits v ≡ true → number_at tape_delay (read p) (final tape_delay x) ≡ 0
    → (all_play_zeros (replies tape_delay (read p ∷ store v ∷ []) (final tape_delay x)) ≡ true)
    × (reply tape_delay ask (after tape_delay (read p ∷ store v ∷ []) (final tape_delay x)) ≡ answer.silent true)
lamp-runs p v x d a z k e =
    let h = final tape_delay x in
    let on = silent.shown.on_runs x d (read p ∷ store v ∷ []) (λ f. a, (λ f. z, tt)) in
    (on.0, on.1 ∙ ap (λ (s : TapeDelay). answer.silent (not s.waiting)) (pairs p v h e k).state)

pub tape-lamp : SilentTapes
tape-lamp =
    record {
      input_is = λ p. refl;
      handed_is = λ v. refl;
      silence = silent.silence;
      stays = silent.shown;
      waits = λ h w. rw w refl;
      pairs = lamp-pairs;
      waits-told = waits-told;
      pairs_on_runs = lamp-runs;
    }

-- ---- worked cases, by computing

cases : Cases
unfolding linear_ms samples_of glided reads_at delayed_by line_length settings_number read_at age_at blended clamp_of in_range in_unit Ieee.fits le lt add sub mul div neg of_int round to_unsigned
cases = record { sum = refl; age = refl; wet = refl; two_seconds = refl; no_longer = refl; enough = refl; one_short = refl }

-- ---- all of it

pub tapes : Tapes
unfolding settings_number
tapes =
    record {
      bounded = bounded;
      reads = reads;
      stores = stores;
      follows = follows;
      pairs = pairs;
      ordinary_pairs = ordinary-pairs;
      read_row = read-row;
      store_row = store-row;
      retune-no-turn = λ k n s. retune-none (state_fits s) (rate_fits k.rate) (coefficient_fits k.coefficient) (ltb n (places k));
      reset-no-turn = λ n s. no-turn (state_fits s) (ltb n (places (settings s)));
      ask-no-turn = λ n s. no-turn (state_fits s) false;
      retunes = λ k h e. rw e refl;
      resets = λ h e. rw e refl;
      cases = cases;
    }

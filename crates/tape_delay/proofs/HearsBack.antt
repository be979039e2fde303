-- How far back a tape delay hears: its read half by its one read, at the distance to which it has glided; its store half hears none back. Assumes nothing.
use Rattle.std.proofs.Common.{◌≡◌, ◌-◌, true, List, ◌∷◌, [], length, refl, ap, arith}
use lib.Ieee.{Float, binary64}
use Rattle.float64.specs.Number.{plus_zero, float_of, half}
use Rattle.float64.proofs.Interval.{In}
use Rattle.port.specs.Port.{value_or}
use Rattle.common.specs.Reads.{heard, age_at}
use Rattle.effect.specs.HearsBack.{EachRead, HearsBack}
use Rattle.effect.specs.Effect.{lost, recount}
use Rattle.effect.proofs.Counts.{recount-same}
use Rattle.effect.proofs.HearsBack.{ReadLaws, hears-back}
use Rattle.delay_line.specs.Halves.{reads_at, delayed_by, read_by, kept_of, sum_of}
use Rattle.delay_line.proofs.ReaderLaws.{size-fits}
use Rattle.tape_delay.specs.declared.TapeDelay.{TapeDelay}
use Rattle.tape_delay.specs.TapeDelay.{Ports, Tick, read_half, store_half, tape_delay, ceiling, reader, places, settings, state_fits, tick_number, reads_made, parts, delay_samples, half_of, waiting_state, stored_of, stored_state, next, writes, samples, reads}
use Rattle.tape_delay.proofs.Laws.{state-parts, controls-fit, distance-in}

many : (t : Tick) (s : TapeDelay) → length (reads t s) ≡ reads_made t
unfolding reads
many (read_half p) s = refl
many (store_half v) s = refl

lines : (t : Tick) (s : TapeDelay) → EachRead (λ r. r.size ≡ places (settings s)) (reads t s)
unfolding reads
lines (read_half p) s = (refl, tt)
lines (store_half v) s = tt

-- where the read hears the same in two memories, the read half comes to the same
half-same : (p : Ports) (s : TapeDelay) (m n : List Float) → heard (read_by (reader s) (delay_samples p s)) m ≡ heard (read_by (reader s) (delay_samples p s)) n
    → half_of p s m ≡ half_of p s n
unfolding delayed_by
half-same p s m n e =
    let x = reads_at (reader s) (delay_samples p s) in
    λ i.
    let kept = kept_of (value_or p.audio plus_zero) (e i) (value_or p.mix half) in
    record { kept = kept; sum = sum_of ceiling (value_or p.feedback plus_zero) kept; smoothed_delay = x; age = age_at x }

-- and they are the same to either half, but for the count, which reads the place that is written
reads-all : (t : Tick) (s : TapeDelay) (m n : List Float) → EachRead (λ r. heard r m ≡ heard r n) (reads t s)
    → (writes t s ≡ writes t s) × ((samples t s m ≡ samples t s n) × (lost (writes t s) m ≡ lost (writes t s) n → next t s m ≡ next t s n))
unfolding reads next writes samples
reads-all (read_half p) s m n e =
    let same = half-same p s m n e.0 in
    (refl, ((λ i. (same i).sum ∷ []), λ l i. waiting_state (same i) s))
reads-all (store_half v) s m n e =
    let t = store_half v in
    (refl, (refl, λ l i. stored_state (stored_of (recount-same (parts (settings s)) (writes t s) m n s.nonzero_places l i) s) s))

distances : (t : Tick) (s : TapeDelay) → state_fits s ≡ true → tick_number t ≡ 0
    → EachRead (λ r. In binary64 (float_of 1) (float_of (places (settings s) - 1)) r.distance) (reads t s)
unfolding reads
distances (read_half p) s e n = (distance-in p s (state-parts s e).reads (controls-fit p n).time, tt)
distances (store_half v) s e n = tt

read-laws : ReadLaws tape_delay reads_made places
read-laws =
    record {
      reads = record { many = many; lines = lines; reads-all = reads-all };
      short = λ s e. omega (arith, (size-fits (reader s) (state-parts s e).reads).1);
      distances = distances;
    }

pub shown : HearsBack tape_delay reads_made places
shown = hears-back tape_delay reads_made places read-laws

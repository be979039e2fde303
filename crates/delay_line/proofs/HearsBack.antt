-- How far back a delay hears, by its one read, at the distance to which it has glided. Assumes nothing.
use Rattle.std.proofs.Common.{◌≡◌, ℕ, List, ◌∷◌, [], inl, refl, arith}
use lib.Ieee.{Float}
use Rattle.port.specs.Port.{value_or}
use Rattle.float64.specs.Number.{plus_zero, half}
use Rattle.common.specs.Line.{recounted}
use Rattle.common.specs.Reads.{heard, age_at}
use Rattle.effect.specs.Parts.{sizes}
use Rattle.effect.specs.Effect.{gained}
use Rattle.effect.specs.HearsBack.{StoresWhereItReads, HearsTicks}
use Rattle.effect.proofs.HearsBack.{ReadLaws, hears-back}
use Rattle.delay_line.specs.declared.DelayLine.{DelayLine}
use Rattle.delay_line.specs.Halves.{size, reads_at, delayed_by, kept_of, sum_of, stores, heard_of, half_stored}
use Rattle.delay_line.specs.DelayLine.{Tick, delay_line, ceiling, reader, settings, places, parts, delay_samples, read, half_of, next_state, next_counted, writes, samples}
use Rattle.delay_line.proofs.ReaderLaws.{fits-parts, size-fits}
use Rattle.delay_line.proofs.Laws.{tick-fits, distance-in}

-- where the read hears the same in two memories, the read half comes to the same
half-same : (t : Tick) (s : DelayLine) (m n : List Float) → heard (read t s) m ≡ heard (read t s) n → half_of t s m ≡ half_of t s n
unfolding delayed_by
half-same t s m n e =
    let x = reads_at (reader s) (delay_samples t s) in
    λ i.
    let kept = kept_of (value_or t.audio plus_zero) (e i) (value_or t.mix half) in
    record { kept = kept; sum = sum_of ceiling (value_or t.feedback plus_zero) kept; smoothed_delay = x; age = age_at x }

read-laws : ReadLaws delay_line (λ t. 1) places
unfolding next_counted writes samples
read-laws =
    record {
      reads =
          record {
            many = λ t s. refl;
            lines = λ t s. (refl, tt);
            reads-all = λ t s m n e.
                let same = half-same t s m n e.0 in
                let L = size (reader s) in
                let w = s.write_pos in
                let count = λ (x : Float) (lost : ℕ). recounted (sizes (parts (settings s))) s.nonzero_places (gained (stores w x)) lost in (
                  λ i. stores w (same i).sum,
                  ((λ i. heard_of (same i).kept ∷ []), λ l i. next_state (same i) (half_stored L w (count (same i).sum (l i)) (same i).kept) s),
                );
          };
      short = λ s e. omega (arith, (size-fits (reader s) (fits-parts (reader s) e)).1);
      distances = λ t s e n. (distance-in t s (fits-parts (reader s) e) (tick-fits t s.linear_time n), tt);
    }

-- its read is from the position at which the tick stores
stored : StoresWhereItReads delay_line
unfolding next_counted writes
stored =
    record {
      stores = λ t s m. (inl (omega arith), tt);
      moves = λ t u s m. ((refl, (refl, refl)), tt);
    }

pub shown : HearsTicks delay_line 1 places
shown = record { hears = hears-back delay_line (λ t. 1) places read-laws; in_ticks = stored }

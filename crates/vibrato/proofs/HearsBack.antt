-- How far back a vibrato hears, by its one read. Assumes nothing.
use Rattle.std.proofs.Common.{◌∷◌, [], inl, refl, arith}
use lib.Ieee.{Float, is_nan, round}
use lib.Ieee as Ieee
use Rattle.float64.specs.Number.{half, is_number}
use Rattle.common.specs.Signal.{blended}
use Rattle.common.proofs.Sweep.{control-in}
use Rattle.effect.specs.HearsBack.{StoresWhereItReads, HearsTicks}
use Rattle.effect.proofs.Counts.{recount-same}
use Rattle.effect.proofs.HearsBack.{ReadLaws, hears-back}
use Rattle.vibrato.specs.Vibrato.{vibrato, line_length, parts, input, depth, mix, delayed, next_counted, writes, samples}
use Rattle.vibrato.proofs.Laws.{fits-parts, length-fits, tick-fits, distance-in}

read-laws : ReadLaws vibrato (λ t. 1) line_length
unfolding next_counted writes samples delayed is_number Ieee.fits is_nan round
read-laws =
    record {
      reads =
          record {
            many = λ t s. refl;
            lines = λ t s. (refl, tt);
            reads-all = λ t s m n e.
                let c = s.nonzero_places in
                (refl, ((λ i. blended (input t) (e.0 i) (mix t) ∷ []), λ l i. next_counted (recount-same (parts s.sample_rate) (writes t s) m n c l i) t s));
          };
      short = λ s e. omega (arith, length-fits s.sample_rate (fits-parts s e).rate);
      distances = λ t s e n.
          let k = tick-fits t n in
          (distance-in s.sample_rate (depth t) t.sine (fits-parts s e).rate (control-in t.depth half k.depth refl) k.sine, tt);
    }

-- its read is from the position at which the tick stores
stored : StoresWhereItReads vibrato
unfolding next_counted writes
stored =
    record {
      stores = λ t s m. (inl (omega arith), tt);
      moves = λ t u s m. ((refl, (refl, refl)), tt);
    }

pub shown : HearsTicks vibrato 1 line_length
shown = record { hears = hears-back vibrato (λ t. 1) line_length read-laws; in_ticks = stored }

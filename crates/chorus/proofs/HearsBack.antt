-- How far back a chorus hears, by the reads of its three voices. Assumes nothing.
use Rattle.std.proofs.Common.{inl, refl, arith}
use lib.Ieee.{Float, is_nan, round}
use lib.Ieee as Ieee
use Rattle.float64.specs.Number.{half, is_number}
use Rattle.common.proofs.Sweep.{control-in}
use Rattle.effect.specs.HearsBack.{StoresWhereItReads, HearsTicks}
use Rattle.effect.proofs.Counts.{recount-same}
use Rattle.effect.proofs.HearsBack.{ReadLaws, hears-back}
use Rattle.chorus.specs.Chorus.{chorus, line_length, parts, input, depth, mix, voice, mixed, samples_from, reads_from, next_counted, writes}
use Rattle.chorus.proofs.Laws.{fits-parts, length-fits, tick-fits, distance-in}

read-laws : ReadLaws chorus (λ t. 3) line_length
unfolding next_counted writes samples_from reads_from voice is_number Ieee.fits is_nan round
read-laws =
    record {
      reads =
          record {
            many = λ t s. refl;
            lines = λ t s. (refl, (refl, (refl, tt)));
            reads-all = λ t s m n e.
                let c = s.nonzero_places in
                (refl, ((λ i. mixed (input t) (mix t) (e.0 i) (e.1.0 i) (e.1.1.0 i)), λ l i. next_counted (recount-same (parts s.sample_rate) (writes t s) m n c l i) t s));
          };
      short = λ s e. omega (arith, length-fits s.sample_rate (fits-parts s e).rate);
      distances = λ t s e n.
          let k = tick-fits t n in
          let far = λ (sine : Float). distance-in s.sample_rate (depth t) sine (fits-parts s e).rate (control-in t.depth half k.depth refl) in
          (far t.sine0 k.sine0, (far t.sine1 k.sine1, (far t.sine2 k.sine2, tt)));
    }

-- each of its reads is from the position at which the tick stores
stored : StoresWhereItReads chorus
unfolding next_counted writes reads_from
stored =
    record {
      stores = λ t s m. (inl (omega arith), (inl (omega arith), (inl (omega arith), tt)));
      moves = λ t u s m. ((refl, (refl, refl)), ((refl, (refl, refl)), ((refl, (refl, refl)), tt)));
    }

pub shown : HearsTicks chorus 3 line_length
shown = record { hears = hears-back chorus (λ t. 3) line_length read-laws; in_ticks = stored }

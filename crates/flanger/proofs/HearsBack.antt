-- How far back a flanger hears, by the reads of its two lines. Assumes nothing.
use Rattle.std.proofs.Common.{◌≡◌, ◌+◌, ◌∷◌, [], inl, inr, refl, arith}
use lib.Ieee.{Float, is_nan, round}
use lib.Ieee as Ieee
use Rattle.float64.specs.Number.{half, is_number}
use Rattle.float64.proofs.Ranges.{in-range}
use Rattle.common.specs.Signal.{blended}
use Rattle.common.specs.Line.{recounted}
use Rattle.common.proofs.Sweep.{control-in}
use Rattle.effect.specs.Parts.{sizes}
use Rattle.effect.specs.Effect.{gained}
use Rattle.effect.specs.HearsBack.{StoresWhereItReads, HearsTicks}
use Rattle.effect.proofs.HearsBack.{ReadLaws, hears-back}
use Rattle.flanger.specs.Flanger.{flanger, line_length, parts, input, depth, mix, tap, fed, writes, next_counted, samples}
use Rattle.flanger.proofs.Laws.{fits-parts, length_fits, tick-fits, distance-in}

read-laws : ReadLaws flanger (λ t. 2) line_length
unfolding next_counted writes samples tap is_number Ieee.fits is_nan round
read-laws =
    record {
      reads =
          record {
            many = λ t s. refl;
            lines = λ t s. (refl, (refl, tt));
            reads-all = λ t s m n e.
                let w = s.write_pos in
                let L = line_length s.sample_rate in
                let written : writes t s m ≡ writes t s n = λ i. record { place = w; value = fed t (e.0 i) } ∷ record { place = L + w; value = fed t (e.1.0 i) } ∷ [] in (
                  written,
                  (
                    λ i. blended (input t) (e.0 i) (mix t) ∷ blended (input t) (e.0 i) (mix t) ∷ blended (input t) (e.1.0 i) (mix t) ∷ [],
                    λ l i. next_counted (recounted (sizes (parts s.sample_rate)) s.nonzero_places (gained (written i)) (l i)) t s,
                  ),
                );
          };
      short = λ s e. omega (arith, length_fits s.sample_rate (fits-parts s e).rate);
      distances = λ t s e n.
          let k = tick-fits t n in
          let far = λ (sine : Float). distance-in s.sample_rate (depth t) sine (fits-parts s e).rate (in-range (control-in t.depth half k.depth refl)) in
          (far t.sine0 k.sine0, (far t.sine1 k.sine1, tt));
    }

-- each of its reads is from the position at which the tick stores
stored : StoresWhereItReads flanger
unfolding next_counted writes
stored =
    record {
      stores = λ t s m. (inl (omega arith), (inr (inl (omega arith)), tt));
      moves = λ t u s m. ((refl, (refl, refl)), ((refl, (refl, refl)), tt));
    }

pub shown : HearsTicks flanger 2 line_length
shown = record { hears = hears-back flanger (λ t. 2) line_length read-laws; in_ticks = stored }

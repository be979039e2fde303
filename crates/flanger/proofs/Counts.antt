-- The flanger's count: a tick writes one place of each line, and so two places. Assumes nothing.
use Rattle.std.proofs.Common.{refl, arith}
use Rattle.effect.specs.Counts.{Counts}
use Rattle.effect.proofs.CountLaws.{CountLaws}
use Rattle.effect.proofs.Counts.{counts}
use Rattle.flanger.specs.Flanger.{flanger, next_counted, next, writes}
use Rattle.flanger.proofs.Laws.{fits-parts, length_fits}
use Rattle.flanger.proofs.Demand1.{laws}

pub own : CountLaws flanger
unfolding next_counted writes
own =
    record {
      fresh-count = λ k. refl;
      retuned-count = λ k s. refl;
      next-count = λ t s m f. refl;
      distinct = λ t s m f. ((λ e. omega (arith, e, length_fits s.sample_rate (fits-parts s f).rate), tt), (tt, tt));
      most = λ s f. omega (arith, (fits-parts s f).most);
    }

pub shown : Counts flanger
shown = counts flanger laws own

-- The reverb in both widths of its 25 positions: no line has more than 9,600 places. Assumes nothing.
use Rattle.std.proofs.Common.{ℕ, zero, suc, ◌<◌, replicate, refl, arith}
use lib.Ieee.{nan}
use Rattle.effect.specs.Narrow.{EachBelow, new_width, Narrow}
use Rattle.effect.proofs.Narrow.{Supplied, below-each, one-below, same-array, same-entry, narrows}
use Rattle.reverb.specs.Tunings.{Side, left, right}
use Rattle.reverb.specs.Tank.{Lines, InLines}
use Rattle.reverb.specs.Reverb.{reverb, state_of, combs, allpasses, fields}
use Rattle.reverb.proofs.Laws.{fits-parts}
use Rattle.reverb.proofs.Apart.{line-below, lines_long}
use Rattle.reverb.proofs.Demand1.{laws}

-- positions in their lines, none of which is that long
lines-below : {count most : ℕ} (l : Lines) → InLines count most l → most < new_width → EachBelow new_width l.positions
lines-below l f h = below-each new_width l.positions (λ i k. omega (arith, h, line-below f i (omega (arith, k, lines_long f))))

zeros-below : (k : ℕ) → EachBelow new_width (replicate k 0)
zeros-below zero = tt
zeros-below (suc k) = (omega arith, zeros-below k)

own : Supplied reverb fields 25
own =
    record {
      fields =
          record {
            whole = λ s t e i.
                state_of (same-array e.positions 0 i) (same-array e.positions 1 i) (same-array e.positions 2 i) (same-array e.positions 3 i)
                (same-entry 0 e.positions 4 0 i) (e.count i) (same-array e.floats 0 i) (same-array e.floats 1 i) (same-entry nan e.floats 2 0 i);
            counted = λ s f.
                let p = fits-parts s f in
                omega (arith, lines_long (p.combs left), lines_long (p.combs right), lines_long (p.allpasses left), lines_long (p.allpasses right));
            mapped = λ f s. refl;
            count_stays = λ f s. refl;
            floats_stay = λ f s. refl;
            flags_stay = λ f s. refl;
          };
      fits-below = λ s f.
          let p = fits-parts s f in
          let in-combs = λ (side : Side). lines-below (combs s side) (p.combs side) (omega arith) in
          let in-passes = λ (side : Side). lines-below (allpasses s side) (p.allpasses side) (omega arith) in
          (in-combs left, (in-combs right, (in-passes left, (in-passes right, one-below (omega (arith, p.predelay))))));
      blank-below = (zeros-below 8, (zeros-below 8, (zeros-below 4, (zeros-below 4, one-below (omega arith)))));
    }

pub shown : Narrow reverb fields 25
shown = narrows reverb fields laws 25 own

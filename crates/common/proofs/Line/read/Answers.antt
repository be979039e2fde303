-- `common::Line::read`: what its calls return, put together. Assumes nothing.
use lib.Ieee.{of_bits}
use Rattle.common.proofs.Reading.{read_is, age_is}
use Rattle.common.proofs.Line.read.Goals as goal

pub returns-clause-sample : goal.returns-clause-sample
returns-clause-sample c =
    let line = c.args.self in
    read_is line.places.now line.write_pos c.args.distance _ _ _ _ _ line.short c.requires line.inside c.whole_part_small-whole.ensures
    c.place_back-p.ensures.value c.place_before-q.ensures.value c.from.ensures c.blend.ensures

pub returns-clause-age : goal.returns-clause-age
unfolding of_bits
returns-clause-age c = age_is c.args.distance _ _ c.whole_part_small-whole.ensures c.from.ensures c.nonzero.ensures

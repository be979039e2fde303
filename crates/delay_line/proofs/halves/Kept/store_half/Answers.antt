-- `Kept::store_half` is the store half: the value at the position, which moves on, the count, and what is heard. Assumes nothing.
use Rattle.std.proofs.Common.{length, ◌∙◌}
use Rattle.effect.proofs.Counts.{one-recount}
use Rattle.delay_line.proofs.halves.Kept.store_half.Goals as goal

pub returns-clause-result : goal.returns-clause-result
returns-clause-result c =
    let a = c.args in
    let m = a.places.now in
    let count = c.store-nonzero_places.ensures.count ∙ one-recount (length m) (record { place = a.write_pos; value = a.value }) m a.count in
    λ i. record { write_pos = c.next_place-next.ensures i; nonzero_places = count i; sample = c.blend.ensures i }

pub returns-clause-stored : goal.returns-clause-stored
returns-clause-stored c = c.store-nonzero_places.ensures.stored

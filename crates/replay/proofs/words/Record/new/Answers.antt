-- `replay::words::Record::new`: what is behind the copied bytes is still the zeros. Assumes nothing.
use Rattle.std.proofs.lemmas.List.{drop-replicate}
use Rattle.replay.proofs.words.Record.new.Goals as goal

pub returns : goal.returns
returns c = rw (c.copy_from_slice.ensures.after, drop-replicate)

-- `replay::replayed`: a call is counted for each record.
use Rattle.std.proofs.Common.{◌≡◌, length}
use Rattle.replay.proofs.replayed.Given as goal

abbrev pub invariant-loop-record : goal.invariant-loop-record
invariant-loop-record l = l.tally.calls ≡ length l.yielded

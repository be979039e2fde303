-- The reply of a clearing by its outcome. Assumes nothing.
use mathlib.Core.Path.{◌≡◌, refl, sym}
use Rattle.std.proofs.Common.{Result, Ok, Err}
use Rattle.std.specs.Result.{result_and}
use Rattle.port.specs.declared.Refusal.{Refusal}
use Rattle.port.specs.Answer.{done, refused, number, number_of, outcome_reply}
use Rattle.port.proofs.Laws.{number-some}
use Rattle.effect.specs.Run.{if_none}
use Rattle.effect.proofs.Table.{if_none-some}

pub outcome-reply : {A : Type 0} (o : Result A Refusal) → outcome_reply (result_and o (Ok tt)) ≡ if_none (number_of o) done (refused (number_of o))
outcome-reply (Ok x) = refl
outcome-reply (Err r) = sym (if_none-some (number r) done (refused (number r)) (number-some r))

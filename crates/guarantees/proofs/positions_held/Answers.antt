-- `positions_held`: the reverb's arrays, number by number, which auto does not take apart. Assumes nothing.
use Rattle.std.proofs.Common.{ℕ, List, [], ◌∷◌}
use mir.Val.{Val}
use Rattle.effect.specs.Narrow.{EachBelow, new_width}
use Rattle.guarantees.proofs.positions_held.Goals as goal

-- an array of u32 in the code's memory: each of its numbers is below 2^32
below-held : (ws : List ℕ) (x : List Val) → denote.Shadow.shadow (denote.Array.each (denote.Builtin.u32).Denot (denote.Builtin.u32).own_val ws x) → EachBelow new_width ws
below-held [] x h = tt
below-held (w ∷ ws) [] h = absurd h
below-held (w ∷ ws) (v ∷ x) h = (h.0.1, below-held ws x h.1)

pub returns-clause-of_reverb : goal.returns-clause-of_reverb
returns-clause-of_reverb c =
    let held = c.well_formed.1.1.1.1.0.1.1 in
    (below-held _ _ held.0.1.1, (below-held _ _ held.1.0.1.1, (below-held _ _ held.1.1.0.1.1, (below-held _ _ held.1.1.1.0.1.1, ((held.1.1.1.1.0.1, tt), tt)))))

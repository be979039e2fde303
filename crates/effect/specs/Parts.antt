-- Parts of a memory: which places they are, and what they hold. Definitions only. Assumes nothing.
use Rattle.std.specs.Prelude.{ℕ, ◌+◌, ◌≤◌, ◌<◌, List, [], ◌∷◌, ◌++◌, take, drop, Float}

-- so many places from a place on
pub record Part : Type 0 where
  pub start : ℕ
  pub size : ℕ

abbrev pub part : ℕ → ℕ → Part
part start size = record { start = start; size = size }

-- the first n places, as one part
abbrev pub first_places : ℕ → List Part
first_places n = part 0 n ∷ []

-- how many places they have
abbrev pub sizes : List Part → ℕ
sizes [] = 0
sizes (q ∷ qs) = q.size + sizes qs

-- what they hold, in order
unfoldable pub held_in : List Part → List Float → List Float
held_in [] m = []
held_in (q ∷ qs) m = take q.size (drop q.start m) ++ held_in qs m

-- the place p is in one of them
pub data InPart (p : ℕ) : List Part → Type 0 where
  here : {q : Part} {qs : List Part} → q.start ≤ p → p < q.start + q.size → InPart p (q ∷ qs)
  further : {q : Part} {qs : List Part} → InPart p qs → InPart p (q ∷ qs)

-- they follow each other from place o on and end by n: so no place is in two of them
abbrev pub InOrder : ℕ → ℕ → List Part → Type 0
InOrder o n [] = o ≤ n
InOrder o n (q ∷ qs) = (o ≤ q.start) × InOrder (q.start + q.size) n qs

-- Positions in 32 bits, where they had 64: which fields a state consists of, and what it means that a state of the old width has exactly one of the new and answers
-- alike. In the logic a position is a natural number in either width, and a page is that of both: a state is of a width where its positions lie below 2^64, or below
-- 2^32. What is said of states that pass the test asks for no width: it holds of positions of any size. Definitions only. Assumes nothing.
use Rattle.std.specs.Prelude.{ℕ, ◌+◌, ◌%◌, ◌<◌, ◌≡◌, Bool, true, false, List, [], ◌∷◌, map, length, Float}
use Rattle.effect.specs.Effect.{Effect}
use Rattle.effect.specs.Run.{CallOf, Device, device_of, start, step, reply, after, replies, Run, final}

-- ---- the fields of a state

-- Positions, floats and flags, each in the order of the fields; the count is the effect's `count`. Positions and floats are given array by array, fields that are one number together in an array of
-- their own, so that no number is taken for one of another field.
pub record Fields (S : Type 0) : Type 0 where
  pub positions : S → List (List ℕ)
  pub floats : S → List (List Float)
  pub flags : S → List Bool
  -- the state with f of each position in its place
  pub map_positions : (ℕ → ℕ) → S → S

-- how many numbers the arrays have
abbrev pub how_many : List (List ℕ) → ℕ
how_many [] = 0
how_many (a ∷ rest) = length a + how_many rest

-- each of an array is below n, and each of all arrays
abbrev pub EachBelow : ℕ → List ℕ → Type 0
EachBelow n [] = Unit {0}
EachBelow n (w ∷ ws) = (w < n) × EachBelow n ws

abbrev pub AllBelow : ℕ → List (List ℕ) → Type 0
AllBelow n [] = Unit {0}
AllBelow n (a ∷ rest) = EachBelow n a × AllBelow n rest

-- ---- the two widths: what 64 bits hold is below the one, what 32 bits hold below the other

abbrev pub old_width : ℕ
old_width = 18446744073709551616

abbrev pub new_width : ℕ
new_width = 4294967296

module _ (E : Effect) (F : Fields E.State) where
  abbrev pub OfWidth : ℕ → E.State → Type 0
  OfWidth n s = AllBelow n (F.positions s)

  -- the state in the new width: of each position the low 32 bits
  abbrev pub narrow : E.State → E.State
  narrow s = F.map_positions (λ w. w % new_width) s

  -- the state with each position 2^32 further on: the low 32 bits of each are those of s
  abbrev pub beyond : E.State → E.State
  beyond s = F.map_positions (λ w. w + new_width) s

  -- s and t have the same in every field, positions as numbers, whatever their widths
  pub record SameFields (s t : E.State) : Type 0 where
    pub positions : F.positions s ≡ F.positions t
    pub count : E.count s ≡ E.count t
    pub floats : F.floats s ≡ F.floats t
    pub flags : F.flags s ≡ F.flags t

  -- the call c of either unit is answered with the same reply, and leaves the same state and memory
  pub record Alike (c : CallOf E) (h h' : Device E.State) : Type 0 where
    pub replies : reply E c h ≡ reply E c h'
    pub state : (step E c h).state ≡ (step E c h').state
    pub memory : (step E c h).memory ≡ (step E c h').memory

  -- and so do the calls cs
  pub record AllAlike (cs : List (CallOf E)) (h h' : Device E.State) : Type 0 where
    pub replies : replies E cs h ≡ replies E cs h'
    pub state : (after E cs h).state ≡ (after E cs h').state
    pub memory : (after E cs h).memory ≡ (after E cs h').memory

  -- These are the fields of a state, all of them, and n of them are positions.
  pub record AreFields (n : ℕ) : Type 0 where
    -- two states with the same fields are one
    pub whole : (s t : E.State) → SameFields s t → s ≡ t
    pub counted : (s : E.State) → E.state_fits s ≡ true → how_many (F.positions s) ≡ n
    -- a function that is mapped over the positions changes them alone
    pub mapped : (f : ℕ → ℕ) (s : E.State) → F.positions (F.map_positions f s) ≡ map (map f) (F.positions s)
    pub count_stays : (f : ℕ → ℕ) (s : E.State) → E.count (F.map_positions f s) ≡ E.count s
    pub floats_stay : (f : ℕ → ℕ) (s : E.State) → F.floats (F.map_positions f s) ≡ F.floats s
    pub flags_stay : (f : ℕ → ℕ) (s : E.State) → F.flags (F.map_positions f s) ≡ F.flags s

  pub record Narrow (n : ℕ) : Type 0 where
    pub fields : AreFields n
    -- ---- a state that passes the test has exactly one of the new width: it is narrowed to one with the same fields, and any of the new width with these fields is that one
    pub one : (s : E.State) → E.state_fits s ≡ true → OfWidth new_width (narrow s) × SameFields s (narrow s)
    pub only : (s t : E.State) → OfWidth new_width t → SameFields s t → t ≡ narrow s
    -- ---- and answers as that one does, to every call and every list of calls, in any memory; what is left is of the new width again
    pub alike : (c : CallOf E) (s : E.State) (m : List Float) → E.state_fits s ≡ true → Alike c (device_of s m) (device_of (narrow s) m)
    pub stays : (c : CallOf E) (s : E.State) (m : List Float) → E.state_fits s ≡ true → OfWidth new_width (step E c (device_of (narrow s) m)).state
    pub all_alike : (cs : List (CallOf E)) (s : E.State) (m : List Float) → E.state_fits s ≡ true → AllAlike cs (device_of s m) (device_of (narrow s) m)
    pub all_stay : (cs : List (CallOf E)) (s : E.State) (m : List Float) → E.state_fits s ≡ true
        → OfWidth new_width (after E cs (device_of (narrow s) m)).state
    -- a start, accepted or not, gives a state of the new width, and so does every run
    pub starts : (a : E.Start) (m : List Float) → OfWidth new_width (start E a m).state
    pub runs : (x : Run E) → OfWidth new_width (final E x).state
    -- ---- A state with a position of 2^32 or more has none, and the test refuses it. With each position of a passing state 2^32 further on it is one of the old
    -- width that is refused, and its narrowed form would pass: the test is what makes narrowing safe.
    pub none : (s t : E.State) → ¬ OfWidth new_width s → SameFields s t → ¬ OfWidth new_width t
    pub refused : (s : E.State) → ¬ OfWidth new_width s → E.state_fits s ≡ false
    pub passes_narrowed : (s : E.State) → E.state_fits s ≡ true → 0 < n
        → OfWidth old_width (beyond s) × (E.state_fits (beyond s) ≡ false) × (narrow (beyond s) ≡ s)

-- A list filled from the front with one value, a store at a time. Assumes nothing.
use mathlib.Core.Path.{◌≡◌, refl, ap}
use mathlib.Core.List.{List, [], ◌∷◌, ◌++◌}
use Prim.Native.Nat.{ℕ, zero, suc, ◌+◌, ◌<◌}
use native.Mathlib.Nat.{not-suc-le-zero, le_of_suc-le-suc}
use native.Mathlib.Numerals.{add-one}
use lib.ListN.{length, set, drop, replicate}

module _ {A : Type 0} where
  fill_suc : (n : ℕ) (v : A) (d : List A) → n < length d → set (replicate n v ++ drop n d) n v ≡ replicate (suc n) v ++ drop (suc n) d
  fill_suc n v [] l = absurd (not-suc-le-zero l)
  fill_suc zero v (x ∷ d) l = refl
  fill_suc (suc n) v (x ∷ d) l = ap (λ (t : List A). v ∷ t) (fill_suc n v d (le_of_suc-le-suc l))

  -- a store of v at n, below d's length, makes it the same at n + 1
  pub fill_more : (n : ℕ) (v : A) (d : List A) → n < length d → set (replicate n v ++ drop n d) n v ≡ replicate (n + 1) v ++ drop (n + 1) d
  fill_more n v d l = rw (add-one n) (fill_suc n v d l)

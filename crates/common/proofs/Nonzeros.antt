-- How many floats of a list are neither +0 nor −0: none where all are zeros, and what one that is put in changes. Assumes nothing.
use Prim.Native.Nat.{ℕ, zero, suc, ◌+◌, ◌≤◌, ◌<◌}
use native.Mathlib.Omega.{arith}
use mathlib.Core.Path.{◌≡◌, refl, ap, ◌∙◌}
use mathlib.Core.Bool.{Bool, true, false, ◌&&◌, cond}
use mathlib.Core.List.{List, [], ◌∷◌, ◌++◌}
use lib.ListN.{length, get_or, set, take, drop}
use lib.Dec.{eqb}
use borrow.Author.Tests.{eqb-true, ne_eqb}
use lib.Ieee.{Float, nan}
use Rattle.float64.specs.Number.{is_zero}
use Rattle.common.specs.Line.{all_zero, nonzero, nonzeros}

pub nonzero-once : (x : Float) → nonzero x ≤ 1
nonzero-once x = go (is_zero x)
  where
    go : (b : Bool) → cond b 0 1 ≤ 1
    go true = omega arith
    go false = omega arith

pub nonzeros-append : (a b : List Float) → nonzeros (a ++ b) ≡ nonzeros a + nonzeros b
unfolding nonzeros
nonzeros-append [] b = omega arith
nonzeros-append (x ∷ a) b = omega (arith, nonzeros-append a b)

pub nonzeros-most : (l : List Float) → nonzeros l ≤ length l
unfolding nonzeros
nonzeros-most [] = omega arith
nonzeros-most (x ∷ l) = omega (arith, nonzeros-most l, nonzero-once x)

-- there are none just where all are zeros
pub none-nonzero : (l : List Float) → eqb (nonzeros l) 0 ≡ all_zero l
unfolding nonzeros all_zero
none-nonzero [] = refl
none-nonzero (x ∷ l) = go (is_zero x) (none-nonzero l)
  where
    go : (b : Bool) → eqb (nonzeros l) 0 ≡ all_zero l → eqb (cond b 0 1 + nonzeros l) 0 ≡ b && all_zero l
    go true e = let z : 0 + nonzeros l ≡ nonzeros l = omega arith in ap (λ (n : ℕ). eqb n 0) z ∙ e
    go false e = ne_eqb (1 + nonzeros l) 0 (omega arith)

pub zeros-none : (l : List Float) → all_zero l ≡ true → nonzeros l ≡ 0
zeros-none l h = eqb-true (nonzeros l) 0 (none-nonzero l ∙ h)

-- ---- x put at place p of a memory, and the part of k places from place o on: before it, behind it, and in it

pub put-before : (o k : ℕ) (m : List Float) (p : ℕ) (x : Float) → p < o → take k (drop o (set m p x)) ≡ take k (drop o m)
put-before zero k m p x h = absurd (omega (arith, h))
put-before (suc o) k [] p x h = refl
put-before (suc o) k (y ∷ m) zero x h = refl
put-before (suc o) k (y ∷ m) (suc p) x h = put-before o k m p x (omega (arith, h))

pub put-behind : (o k : ℕ) (m : List Float) (p : ℕ) (x : Float) → o + k ≤ p → take k (drop o (set m p x)) ≡ take k (drop o m)
put-behind zero zero m p x h = refl
put-behind zero (suc k) [] p x h = refl
put-behind zero (suc k) (y ∷ m) zero x h = absurd (omega (arith, h))
put-behind zero (suc k) (y ∷ m) (suc p) x h = ap (λ (l : List Float). y ∷ l) (put-behind zero k m p x (omega (arith, h)))
put-behind (suc o) k [] p x h = refl
put-behind (suc o) k (y ∷ m) zero x h = absurd (omega (arith, h))
put-behind (suc o) k (y ∷ m) (suc p) x h = put-behind o k m p x (omega (arith, h))

-- in the part it is one more where it is none of the zeros, and what stood there is one less where that was none
pub put-nonzeros : (o k : ℕ) (m : List Float) (p : ℕ) (x : Float) → o ≤ p → p < o + k → p < length m
    → nonzeros (take k (drop o (set m p x))) + nonzero (get_or m p nan) ≡ nonzeros (take k (drop o m)) + nonzero x
unfolding nonzeros
put-nonzeros zero zero m p x a b l = absurd (omega (arith, b))
put-nonzeros zero (suc k) [] p x a b l = absurd (omega (arith, l))
put-nonzeros zero (suc k) (y ∷ m) zero x a b l = omega arith
put-nonzeros zero (suc k) (y ∷ m) (suc p) x a b l = omega (arith, put-nonzeros zero k m p x (omega arith) (omega (arith, b)) (omega (arith, l)))
put-nonzeros (suc o) k [] p x a b l = absurd (omega (arith, l))
put-nonzeros (suc o) k (y ∷ m) zero x a b l = absurd (omega (arith, a))
put-nonzeros (suc o) k (y ∷ m) (suc p) x a b l = put-nonzeros o k m p x (omega (arith, a)) (omega (arith, b)) (omega (arith, l))

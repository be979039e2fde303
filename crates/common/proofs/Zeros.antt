-- Zeros place by place and part by part: a list is zeros where both its parts are, and parts of zeros are zeros. Assumes nothing.
use Prim.Native.Nat.{ℕ, zero, suc, ◌+◌, ◌<◌}
use native.Mathlib.Nat.{not-suc-le-zero, le_of_suc-le-suc}
use native.Mathlib.Omega.{arith}
use mathlib.Core.Path.{◌≡◌, refl, sym, ap, ◌∙◌}
use mathlib.Core.Bool.{Bool, true, false, ◌&&◌, and_assoc}
use mathlib.Core.List.{List, [], ◌∷◌, ◌++◌}
use lib.ListN.{length, get_or, set, take, drop}
use lib.Seq.{take-add}
use lib.Dec.{eqb}
use borrow.Author.Tests.{eqb-true}
use lib.Ieee.{Float, eq}
use Rattle.std.specs.List.{fold}
use Rattle.float64.specs.Number.{is_zero}
use Rattle.float64.proofs.Tests.{both, both-true}
use Rattle.common.specs.Line.{zeros, all_zero, are_zeros}

-- b of the places before, and then those of l, one by one
fold-zeros : (b : Bool) (l : List Float) → fold (λ (z : Bool) (x : Float). z && is_zero x) b l ≡ b && all_zero l
unfolding all_zero
fold-zeros true [] = refl
fold-zeros false [] = refl
fold-zeros b (x ∷ l) = fold-zeros (b && is_zero x) l ∙ and_assoc b (is_zero x) (all_zero l)

pub all-by-fold : (l : List Float) → fold (λ (z : Bool) (x : Float). z && is_zero x) true l ≡ all_zero l
all-by-fold l = fold-zeros true l

pub zeros-append : (a b : List Float) → all_zero (a ++ b) ≡ all_zero a && all_zero b
unfolding all_zero
zeros-append [] b = refl
zeros-append (x ∷ a) b = ap (λ (c : Bool). is_zero x && c) (zeros-append a b) ∙ sym (and_assoc (is_zero x) (all_zero a) (all_zero b))

-- the first a + b places: the first a, and the b after them
pub zeros-split : (a b : ℕ) (l : List Float) → all_zero (take (a + b) l) ≡ all_zero (take a l) && all_zero (take b (drop a l))
zeros-split a b l = ap all_zero (take-add a b l) ∙ zeros-append (take a l) (take b (drop a l))

-- ---- a list of zeros

pub zero-at : (l : List Float) (p : ℕ) (z : Float) → all_zero l ≡ true → p < length l → is_zero (get_or l p z) ≡ true
unfolding all_zero
zero-at [] p z h l = absurd (not-suc-le-zero l)
zero-at (x ∷ m) zero z h l = (both (is_zero x) (all_zero m) h).0
zero-at (x ∷ m) (suc p) z h l = zero-at m p z (both (is_zero x) (all_zero m) h).1 (le_of_suc-le-suc l)

-- an entry of n zeros
pub entry-zero : (n : ℕ) (l : List Float) (i : ℕ) (z : Float) → are_zeros n l ≡ true → i < n → is_zero (get_or l i z) ≡ true
entry-zero n l i z e h = let b = both (eqb (length l) n) (all_zero l) e in zero-at l i z b.1 (omega (arith, eqb-true (length l) n b.0))

pub all-zero-by : (l : List Float) (z : Float) → ((p : ℕ) → p < length l → is_zero (get_or l p z) ≡ true) → all_zero l ≡ true
unfolding all_zero
all-zero-by [] z h = refl
all-zero-by (x ∷ l) z h = both-true (h zero (omega arith)) (all-zero-by l z (λ p k. h (suc p) (omega arith)))

take-zeros : (k : ℕ) (l : List Float) → all_zero l ≡ true → all_zero (take k l) ≡ true
unfolding all_zero
take-zeros zero l h = refl
take-zeros (suc k) [] h = refl
take-zeros (suc k) (x ∷ l) h = let b = both (is_zero x) (all_zero l) h in both-true b.0 (take-zeros k l b.1)

drop-zeros : (k : ℕ) (l : List Float) → all_zero l ≡ true → all_zero (drop k l) ≡ true
unfolding all_zero
drop-zeros zero l h = h
drop-zeros (suc k) [] h = refl
drop-zeros (suc k) (x ∷ l) h = drop-zeros k l (both (is_zero x) (all_zero l) h).1

zeros-zero : (n : ℕ) → all_zero (zeros n) ≡ true
unfolding all_zero eq
zeros-zero zero = refl
zeros-zero (suc n) = zeros-zero n

-- so is each part of a cleared memory
pub cleared-part : (o k n : ℕ) → all_zero (take k (drop o (zeros n))) ≡ true
cleared-part o k n = take-zeros k (drop o (zeros n)) (drop-zeros o (zeros n) (zeros-zero n))

-- ---- a zero that is put anywhere leaves zeros

pub zero-put : (l : List Float) (p : ℕ) (x : Float) → is_zero x ≡ true → all_zero l ≡ true → all_zero (set l p x) ≡ true
unfolding all_zero
zero-put [] p x z h = h
zero-put (y ∷ l) zero x z h = both-true z (both (is_zero y) (all_zero l) h).1
zero-put (y ∷ l) (suc p) x z h = let b = both (is_zero y) (all_zero l) h in both-true b.0 (zero-put l p x z b.1)

pub zero-put-part : (o k : ℕ) (m : List Float) (p : ℕ) (x : Float) → is_zero x ≡ true → all_zero (take k (drop o m)) ≡ true
    → all_zero (take k (drop o (set m p x))) ≡ true
unfolding all_zero
zero-put-part zero zero m p x z h = refl
zero-put-part zero (suc k) [] p x z h = h
zero-put-part zero (suc k) (y ∷ m) zero x z h = both-true z (both (is_zero y) (all_zero (take k m)) h).1
zero-put-part zero (suc k) (y ∷ m) (suc p) x z h =
    let b = both (is_zero y) (all_zero (take k m)) h in both-true b.0 (zero-put-part zero k m p x z b.1)
zero-put-part (suc o) k [] p x z h = h
zero-put-part (suc o) k (y ∷ m) zero x z h = h
zero-put-part (suc o) k (y ∷ m) (suc p) x z h = zero-put-part o k m p x z h

-- A float that fits its format is a whole number of the format's smallest value: `mag` counts these units, `one` is how many 1 has and `cap` how many an infinity counts as.
-- `key` is a natural number that orders all values but NaN: `cap + mag` for a value that is not negative, `cap - mag` for one that is. The three tests are those on the keys
-- (`lt-key`, `eq-key`, `le-key`). Assumes nothing.
use Rattle.std.proofs.Common.{◌≡◌, ℕ, zero, suc, ◌+◌, ◌-◌, ◌*◌, ◌/◌, ◌%◌, ◌^◌, ◌<◌, ◌≤◌, Bool, true, false, not, ◌&&◌, ◌||◌, T, eqb, ltb, leb, ℤ, pos, negsuc, sym, refl, ap, ◌∙◌, subst, inl, inr, zero-le, le_trans, le_of_eq, le_refl, lt_of_lt_of_le, lt_of_le_of_lt, le_of_lt, mul_assoc, mul_comm, add-mul, lt_of_mul-lt-mul_right, mul-lt-mul_of_pos_right, mul-pos, one-mul, zero-mul, mul-one, sub-add_cancel, mul_right_comm, not-le_of_lt, le-mul_of_pos_right, mul-div_cancel, arith, eqb→eq, ltb→lt, leb→le, pow_pos, pow-add, le-ltb, lt-ltb, eq-eqb, ne_eqb}
use mathlib.Core.Bool.{beq, and-true}
use Rattle.std.specs.Cmp.{both_ways}
use Rattle.std.proofs.lemmas.Bool.{and_parts, and_from, cases_lt, cases_order, eqb-true, lt-leb, le-leb, ltb-true}
use native.Mathlib.Nat.{eq_of_mul-eq-mul_right}
use lib.Pow.{pow-lt}
use lib.Ieee.{Float, nan, inf, fin, Format, prec, emax, low, up, down, lt, eq, le, below, level, fits, is_nan}
use lib.Ieee.Fits.{and_l, and_r, up_pos, down_pos}
use lib.Ieee.Exact.{HasValue}
use lib.Ieee.Scale.{finite}

-- ---- how many units 1 has, and an infinity
unfoldable pub one : Format → ℕ
one f = 2 ^ low f

unfoldable pub cap : Format → ℕ
cap f = 2 ^ (low f + suc (emax f))

pub one-pos : (f : Format) → 0 < one f
unfolding one
one-pos f = pow_pos (low f)

pub cap-pos : (f : Format) → 0 < cap f
unfolding cap
cap-pos f = pow_pos (low f + suc (emax f))

pub cap-is : (f : Format) → cap f ≡ 2 ^ suc (emax f) * one f
unfolding cap one
cap-is f = pow-add 2 (low f) (suc (emax f)) ∙ mul_comm (2 ^ low f) (2 ^ suc (emax f))

-- ---- the sign, the size in units, and the key
unfoldable pub sign : Float → Bool
sign nan = false
sign (inf s) = s
sign (fin s m e) = s

unfoldable pub mag : Format → Float → ℕ
unfolding one cap
mag f nan = 0
mag f (inf s) = cap f
mag f (fin s m e) = m * up e * one f / down e

abbrev pub signed : ℕ → Bool → ℕ → ℕ
signed c false n = c + n
signed c true n = c - n

unfoldable pub key : Format → Float → ℕ
unfolding sign mag cap
key f x = signed (cap f) (sign x) (mag f x)

-- ---- what fits
pow-back : (a b : ℕ) → 2 ^ a ≤ 2 ^ b → a ≤ b
pow-back a b h = elim (cases_lt b a) [ inl l ↦ absurd (not-le_of_lt (pow-lt l) h) | inr l ↦ l ]

down-le-up : (e : ℤ) → T (eqb (up e * down e) 1) → down e ≤ 1
down-le-up e h = le_trans (le-mul_of_pos_right (down e) (up_pos e)) (le_of_eq (mul_comm (down e) (up e) ∙ eqb→eq (up e * down e) 1 h))

-- what `fits` says of a finite value: digits enough, no finer than a unit, below an infinity
fits-parts : (f : Format) (s : Bool) (m : ℕ) (e : ℤ) → T (fits f (fin s m e)) → (m < 2 ^ prec f) × (down e ≤ one f) × (m * up e < 2 ^ suc (emax f) * down e)
unfolding fits one
fits-parts f s zero e t = (
  pow_pos (prec f),
  le_trans (down-le-up e t) (pow_pos (low f)),
  subst (λ (z : ℕ). z < 2 ^ suc (emax f) * down e) (sym (zero-mul (up e))) (mul-pos (pow_pos (suc (emax f))) (down_pos e)),
)
fits-parts f s (suc m) e t =
    let a : Bool = eqb (suc m % 2) 1 in
    let b : Bool = ltb (suc m) (2 ^ prec f) in
    let c : Bool = leb (down e) (2 ^ low f) in
    let d : Bool = ltb (suc m * up e) (2 ^ suc (emax f) * down e) in
    let p = and_l (a && b && c) d t in (
      ltb→lt (suc m) (2 ^ prec f) (and_r a b (and_l (a && b) c p)),
      leb→le (down e) (2 ^ low f) (and_r (a && b) c p),
      ltb→lt (suc m * up e) (2 ^ suc (emax f) * down e) (and_r (a && b && c) d t),
    )

pub fits-small : (f : Format) (s : Bool) (m : ℕ) (e : ℤ) → T (fits f (fin s m e)) → m < 2 ^ prec f
fits-small f s m e t = (fits-parts f s m e t).0

-- 1 is a whole number of 2 ^ e's units below it
up-down : (f : Format) (e : ℤ) → down e ≤ one f → (j : ℕ) × (up e * one f ≡ 2 ^ j * down e)
unfolding one
up-down f (pos k) h = (k + low f, sym (pow-add 2 k (low f)) ∙ sym (mul-one (2 ^ (k + low f))))
up-down f (negsuc k) h =
    (low f - suc k, one-mul (2 ^ low f) ∙ ap (λ (z : ℕ). 2 ^ z) (sym (sub-add_cancel (pow-back (suc k) (low f) h))) ∙ pow-add 2 (low f - suc k) (suc k))

-- a number of units that the format holds: q * 2 ^ j, with q of no more digits than it keeps
pub record Rep (f : Format) (n : ℕ) : Type 0 where
  pub q : ℕ
  pub j : ℕ
  pub small : q < 2 ^ prec f
  pub is : n ≡ q * 2 ^ j

mag-form : (f : Format) (s : Bool) (m : ℕ) (e : ℤ) → T (fits f (fin s m e)) → (j : ℕ) × (up e * one f ≡ 2 ^ j * down e) × (mag f (fin s m e) ≡ m * 2 ^ j)
unfolding mag
mag-form f s m e t =
    let u = up-down f e (fits-parts f s m e t).1 in
    (u.0, u.1, ap (λ (z : ℕ). z / down e) (mul_assoc m (up e) (one f) ∙ ap (λ (z : ℕ). m * z) u.1 ∙ sym (mul_assoc m (2 ^ u.0) (down e))) ∙ mul-div_cancel (m * 2 ^ u.0) (down_pos e))

pub mag-rep : (f : Format) (x : Float) → T (fits f x) → T (finite x) → Rep f (mag f x)
mag-rep f nan t h = absurd h
mag-rep f (inf s) t h = absurd h
mag-rep f (fin s m e) t h = let v = mag-form f s m e t in record { q = m; j = v.0; small = fits-small f s m e t; is = v.2 }

pub mag-cross : (f : Format) (s : Bool) (m : ℕ) (e : ℤ) → T (fits f (fin s m e)) → m * up e * one f ≡ mag f (fin s m e) * down e
mag-cross f s m e t =
    let v = mag-form f s m e t in
    mul_assoc m (up e) (one f) ∙ ap (λ (z : ℕ). m * z) v.1 ∙ sym (mul_assoc m (2 ^ v.0) (down e)) ∙ ap (λ (z : ℕ). z * down e) (sym v.2)

pub mag-lt : (f : Format) (x : Float) → T (fits f x) → T (finite x) → mag f x < cap f
mag-lt f nan t h = absurd h
mag-lt f (inf s) t h = absurd h
mag-lt f (fin s m e) t h =
    lt_of_mul-lt-mul_right (down e)
    (subst (λ (z : ℕ). z < cap f * down e) (mag-cross f s m e t)
    (subst (λ (z : ℕ). m * up e * one f < z) (mul_right_comm (2 ^ suc (emax f)) (down e) (one f) ∙ ap (λ (z : ℕ). z * down e) (sym (cap-is f)))
    (mul-lt-mul_of_pos_right (fits-parts f s m e t).2 (one-pos f))))

-- any fraction over `one` that x equals
pub mag-of-value : (f : Format) (x : Float) (s : Bool) (n : ℕ) → HasValue x s n (one f) → mag f x ≡ n
unfolding mag
mag-of-value f nan s n h = absurd h
mag-of-value f (inf t) s n h = absurd h
mag-of-value f (fin t m e) s n h = ap (λ (z : ℕ). z / down e) h.1 ∙ mul-div_cancel n (down_pos e)

-- ---- tests that agree
ltb-same : (a b c d : ℕ) → (a < b → c < d) → (c < d → a < b) → ltb a b ≡ ltb c d
ltb-same a b c d p q = both_ways (ltb a b) (ltb c d) (λ t. lt-ltb c d (p (ltb-true a b t))) (λ t. lt-ltb a b (q (ltb-true c d t)))

eqb_same : (a b c d : ℕ) → (a ≡ b → c ≡ d) → (c ≡ d → a ≡ b) → eqb a b ≡ eqb c d
eqb_same a b c d p q = both_ways (eqb a b) (eqb c d) (λ t. eq-eqb c d (p (eqb-true a b t))) (λ t. eq-eqb a b (q (eqb-true c d t)))

-- a / p and b / p against X / q and Y / q
module _ (p q : ℕ) (P : 0 < p) (Q : 0 < q) where
  scale-lt : (a b X Y : ℕ) → a * p ≡ X * q → b * p ≡ Y * q → a < b → X < Y
  scale-lt a b X Y h k l = lt_of_mul-lt-mul_right q (lt_of_le_of_lt (le_of_eq (sym h)) (lt_of_lt_of_le (mul-lt-mul_of_pos_right l P) (le_of_eq k)))

  scale-eq : (a b X Y : ℕ) → a * p ≡ X * q → b * p ≡ Y * q → a ≡ b → X ≡ Y
  scale-eq a b X Y h k e = eq_of_mul-eq-mul_right q Q X Y (sym h ∙ ap (λ (z : ℕ). z * p) e ∙ k)

module _ (p q : ℕ) (P : 0 < p) (Q : 0 < q) (a b X Y : ℕ) (h : a * p ≡ X * q) (k : b * p ≡ Y * q) where
  scale-ltb : ltb a b ≡ ltb X Y
  scale-ltb = ltb-same a b X Y (scale-lt p q P Q a b X Y h k) (scale-lt q p Q P X Y a b (sym h) (sym k))

  scale-eqb : eqb a b ≡ eqb X Y
  scale-eqb = eqb_same a b X Y (scale-eq p q P Q a b X Y h k) (scale-eq q p Q P X Y a b (sym h) (sym k))

module _ (p q : ℕ) (P : 0 < p) (Q : 0 < q) (a b X Y : ℕ) (h : a * p ≡ X * q) (k : b * p ≡ Y * q) where
  nil : 0 * p ≡ 0 * q
  nil = zero-mul p ∙ sym (zero-mul q)

  scale-below : (s t : Bool) → below s a t b ≡ below s X t Y
  scale-below false false = scale-ltb p q P Q a b X Y h k
  scale-below false true = refl
  scale-below true false = scale-ltb p q P Q 0 (a + b) 0 (X + Y) nil (add-mul a b p ∙ ap (λ (z : ℕ). z + b * p) h ∙ ap (λ (z : ℕ). X * q + z) k ∙ sym (add-mul X Y q))
  scale-below true true = scale-ltb p q P Q b a Y X k h

  scale-level : (s t : Bool) → level s a t b ≡ level s X t Y
  scale-level s t =
      ap (λ (z : Bool). z && (beq s t || eqb a 0)) (scale-eqb p q P Q a b X Y h k)
      ∙ ap (λ (z : Bool). eqb X Y && (beq s t || z)) (scale-eqb p q P Q a 0 X 0 h nil)

-- ---- signed sizes below c, by their keys
module _ (c X Y : ℕ) (x : X ≤ c) (y : Y ≤ c) where
  below_key : (s t : Bool) → below s X t Y ≡ ltb (signed c s X) (signed c t Y)
  below_key false false = ltb-same X Y (c + X) (c + Y) (omega arith) (omega arith)
  below_key false true = sym (le-ltb (c + X) (c - Y) (omega arith))
  below_key true false = ltb-same 0 (X + Y) (c - X) (c + Y) (omega arith) (omega arith)
  below_key true true = ltb-same Y X (c - X) (c - Y) (omega arith) (omega arith)

  zeros : (a b : ℕ) → ((X ≡ Y) × (X ≡ 0) → a ≡ b) → (a ≡ b → (X ≡ Y) × (X ≡ 0)) → eqb X Y && eqb X 0 ≡ eqb a b
  zeros a b p q =
      both_ways (eqb X Y && eqb X 0) (eqb a b) (λ h. let v = and_parts (eqb X Y) (eqb X 0) h in eq-eqb a b (p (eqb-true X Y v.0, eqb-true X 0 v.1)))
      (λ h. let v = q (eqb-true a b h) in and_from (eqb X Y) (eqb X 0) (eq-eqb X Y v.0) (eq-eqb X 0 v.1))

  level-key : (s t : Bool) → level s X t Y ≡ eqb (signed c s X) (signed c t Y)
  level-key false false = and-true (eqb X Y) ∙ eqb_same X Y (c + X) (c + Y) (omega arith) (omega arith)
  level-key false true = zeros (c + X) (c - Y) (omega arith) (omega arith)
  level-key true false = zeros (c - X) (c + Y) (omega arith) (omega arith)
  level-key true true = and-true (eqb X Y) ∙ eqb_same X Y (c - X) (c - Y) (omega arith) (omega arith)

-- ---- the tests
pub mag-le : (f : Format) (x : Float) → T (fits f x) → mag f x ≤ cap f
mag-le f nan t = unfold mag in zero-le
mag-le f (inf s) t = unfold mag in le_refl (cap f)
mag-le f (fin s m e) t = le_of_lt (mag-lt f (fin s m e) t tt)

-- the two sides of a test on finite values, as it has them, are mag / one over one denominator
module _ (f : Format) (s : Bool) (m : ℕ) (e : ℤ) (t : Bool) (n : ℕ) (d : ℤ) (h : T (fits f (fin s m e))) (k : T (fits f (fin t n d))) where
  pub cross-l : m * up e * down d * one f ≡ mag f (fin s m e) * (down e * down d)
  cross-l = mul_right_comm (m * up e) (down d) (one f) ∙ ap (λ (z : ℕ). z * down d) (mag-cross f s m e h) ∙ mul_assoc (mag f (fin s m e)) (down e) (down d)

  pub cross-r : n * up d * down e * one f ≡ mag f (fin t n d) * (down e * down d)
  cross-r =
      mul_right_comm (n * up d) (down e) (one f)
      ∙ ap (λ (z : ℕ). z * down e) (mag-cross f t n d k)
      ∙ mul_right_comm (mag f (fin t n d)) (down d) (down e)
      ∙ mul_assoc (mag f (fin t n d)) (down e) (down d)

  fin-lt : lt (fin s m e) (fin t n d) ≡ ltb (key f (fin s m e)) (key f (fin t n d))
  unfolding lt key sign
  fin-lt =
      scale-below (one f) (down e * down d) (one-pos f) (mul-pos (down_pos e) (down_pos d)) (m * up e * down d) (n * up d * down e) (mag f (fin s m e)) (mag f (fin t n d)) cross-l cross-r s t
      ∙ below_key (cap f) (mag f (fin s m e)) (mag f (fin t n d)) (mag-le f (fin s m e) h) (mag-le f (fin t n d) k) s t

  fin-eq : eq (fin s m e) (fin t n d) ≡ eqb (key f (fin s m e)) (key f (fin t n d))
  unfolding eq key sign
  fin-eq =
      scale-level (one f) (down e * down d) (one-pos f) (mul-pos (down_pos e) (down_pos d)) (m * up e * down d) (n * up d * down e) (mag f (fin s m e)) (mag f (fin t n d)) cross-l cross-r s t
      ∙ level-key (cap f) (mag f (fin s m e)) (mag f (fin t n d)) (mag-le f (fin s m e) h) (mag-le f (fin t n d) k) s t

-- an infinity against a finite value, n < c
module _ (c n : ℕ) (h : n < c) where
  inf-lt : (s t : Bool) → s ≡ ltb (signed c s c) (signed c t n)
  inf-lt false false = sym (le-ltb (c + c) (c + n) (omega arith))
  inf-lt false true = sym (le-ltb (c + c) (c - n) (omega arith))
  inf-lt true false = sym (lt-ltb (c - c) (c + n) (omega arith))
  inf-lt true true = sym (lt-ltb (c - c) (c - n) (omega arith))

  lt-inf : (s t : Bool) → not t ≡ ltb (signed c s n) (signed c t c)
  lt-inf false false = sym (lt-ltb (c + n) (c + c) (omega arith))
  lt-inf false true = sym (le-ltb (c + n) (c - c) (omega arith))
  lt-inf true false = sym (lt-ltb (c - n) (c + c) (omega arith))
  lt-inf true true = sym (le-ltb (c - n) (c - c) (omega arith))

  inf-eq : (s t : Bool) → false ≡ eqb (signed c s c) (signed c t n)
  inf-eq false false = sym (ne_eqb (c + c) (c + n) (omega arith))
  inf-eq false true = sym (ne_eqb (c + c) (c - n) (omega arith))
  inf-eq true false = sym (ne_eqb (c - c) (c + n) (omega arith))
  inf-eq true true = sym (ne_eqb (c - c) (c - n) (omega arith))

  eq-inf : (s t : Bool) → false ≡ eqb (signed c s n) (signed c t c)
  eq-inf false false = sym (ne_eqb (c + n) (c + c) (omega arith))
  eq-inf false true = sym (ne_eqb (c + n) (c - c) (omega arith))
  eq-inf true false = sym (ne_eqb (c - n) (c + c) (omega arith))
  eq-inf true true = sym (ne_eqb (c - n) (c - c) (omega arith))

module _ (c : ℕ) (h : 0 < c) where
  infs-lt : (s t : Bool) → s && not t ≡ ltb (signed c s c) (signed c t c)
  infs-lt false false = sym (le-ltb (c + c) (c + c) (omega arith))
  infs-lt false true = sym (le-ltb (c + c) (c - c) (omega arith))
  infs-lt true false = sym (lt-ltb (c - c) (c + c) (omega arith))
  infs-lt true true = sym (le-ltb (c - c) (c - c) (omega arith))

  infs-eq : (s t : Bool) → beq s t ≡ eqb (signed c s c) (signed c t c)
  infs-eq false false = sym (eq-eqb (c + c) (c + c) refl)
  infs-eq false true = sym (ne_eqb (c + c) (c - c) (omega arith))
  infs-eq true false = sym (ne_eqb (c - c) (c + c) (omega arith))
  infs-eq true true = sym (eq-eqb (c - c) (c - c) refl)

pub lt-key : (f : Format) (x y : Float) → T (fits f x) → T (fits f y) → T (not (is_nan x)) → T (not (is_nan y)) → lt x y ≡ ltb (key f x) (key f y)
unfolding lt is_nan key sign mag
lt-key f nan y a b p q = absurd p
lt-key f (inf s) nan a b p q = absurd q
lt-key f (inf s) (inf t) a b p q = infs-lt (cap f) (cap-pos f) s t
lt-key f (inf s) (fin t n d) a b p q = inf-lt (cap f) (mag f (fin t n d)) (mag-lt f (fin t n d) b tt) s t
lt-key f (fin s m e) nan a b p q = absurd q
lt-key f (fin s m e) (inf t) a b p q = lt-inf (cap f) (mag f (fin s m e)) (mag-lt f (fin s m e) a tt) s t
lt-key f (fin s m e) (fin t n d) a b p q = fin-lt f s m e t n d a b

pub eq-key : (f : Format) (x y : Float) → T (fits f x) → T (fits f y) → T (not (is_nan x)) → T (not (is_nan y)) → eq x y ≡ eqb (key f x) (key f y)
unfolding eq is_nan key sign mag
eq-key f nan y a b p q = absurd p
eq-key f (inf s) nan a b p q = absurd q
eq-key f (inf s) (inf t) a b p q = infs-eq (cap f) (cap-pos f) s t
eq-key f (inf s) (fin t n d) a b p q = inf-eq (cap f) (mag f (fin t n d)) (mag-lt f (fin t n d) b tt) s t
eq-key f (fin s m e) nan a b p q = absurd q
eq-key f (fin s m e) (inf t) a b p q = eq-inf (cap f) (mag f (fin s m e)) (mag-lt f (fin s m e) a tt) s t
eq-key f (fin s m e) (fin t n d) a b p q = fin-eq f s m e t n d a b

le-or : (a b : ℕ) → ltb a b || eqb a b ≡ leb a b
le-or a b =
    elim (cases_order a b) [
      | inl e ↦ rw (le-ltb a b (omega arith), eq-eqb a b e, le-leb a b (omega arith))
      | inr r ↦ elim r [ inl l ↦ rw (lt-ltb a b l, le-leb a b (omega arith)) | inr l ↦ rw (le-ltb a b (omega arith), ne_eqb a b (λ e. omega arith), lt-leb a b l) ]
    ]

pub le-key : (f : Format) (x y : Float) → T (fits f x) → T (fits f y) → T (not (is_nan x)) → T (not (is_nan y)) → le x y ≡ leb (key f x) (key f y)
unfolding le
le-key f x y a b p q = ap (λ (z : Bool). z || eq x y) (lt-key f x y a b p q) ∙ ap (λ (z : Bool). ltb (key f x) (key f y) || z) (eq-key f x y a b p q) ∙ le-or (key f x) (key f y)

-- `At f x k`: x fits f, is no NaN, and has the key k. Each operation's key by those of its operands: so a fact about floats becomes one about natural numbers.
-- Assumes nothing.
use Rattle.std.proofs.Common.{◌≡◌, ℕ, zero, suc, ◌+◌, ◌-◌, ◌*◌, ◌/◌, ◌^◌, ◌<◌, ◌≤◌, min, Bool, true, false, cond, not, T, eqb, ltb, leb, ◌⊎◌, ℤ, pos, sym, refl, ap, ◌∙◌, subst, inl, inr, le_refl, zero-lt-suc, mul_assoc, mul_comm, add_comm, mul-pos, mul-zero, ne_of_gt, zero-mul, mul-one, mul_left_comm, arith, le→leb, ltb→lt, lt→ltb, leb→le, nltb→le, ne_eqb}
use native.Mathlib.Nat.{zero-div, zero-min, eq-sub_of_add-eq, mul-mul-mul_comm, eq_of_mul-eq-mul_right}
use lib.Dec.{nleb→lt}
use lib.Ieee.{Float, nan, inf, fin, Format, prec, up, down, unlike, round, sum, add, sub, mul, div, neg, of_int, to_unsigned, fits, is_nan, le, lt}
use lib.Ieee.Fits.{round-fits, neg-fits, up_pos, down_pos}
use lib.Ieee.Nearest.{div_same}
use Rattle.std.proofs.num.Values.{sum_same, sum_comm}
use Rattle.float64.proofs.Units.{one, cap, one-pos, sign, mag, signed, key, Rep, mag-rep, mag-lt, mag-le, mag-cross, cross-l, cross-r, le-key, lt-key}
use Rattle.float64.proofs.Round.{rounded, rounded-same, rounded-exact, rounded-zero, rep-whole, whole-lt, round-key, round-num, difference, difference-pos, difference-neg, difference-same}

pub record At (f : Format) (x : Float) (k : ℕ) : Type 0 where
  pub fit : T (fits f x)
  pub num : T (not (is_nan x))
  pub is : key f x ≡ k

pub at : (f : Format) (x : Float) → T (fits f x) → T (not (is_nan x)) → At f x (key f x)
at f x a b = record { fit = a; num = b; is = refl }

pub rekeyed : {f : Format} {x : Float} {j k : ℕ} → At f x j → j ≡ k → At f x k
rekeyed a e = record { fit = a.fit; num = a.num; is = a.is ∙ e }

pub round-at : (f : Format) (s : Bool) (a c : ℕ) → At f (round f s a c) (signed (cap f) s (rounded f a c))
round-at f s a c = record { fit = round-fits f s a c; num = round-num f s a c; is = round-key f s a c }

-- ---- the order
module _ {f : Format} {x y : Float} {j k : ℕ} (a : At f x j) (b : At f y k) where
  le_is : le x y ≡ leb j k
  le_is = le-key f x y a.fit b.fit a.num b.num ∙ ap (λ (z : ℕ). leb z (key f y)) a.is ∙ ap (λ (z : ℕ). leb j z) b.is

  lt-is : lt x y ≡ ltb j k
  lt-is = lt-key f x y a.fit b.fit a.num b.num ∙ ap (λ (z : ℕ). ltb z (key f y)) a.is ∙ ap (λ (z : ℕ). ltb j z) b.is

  pub le_of : j ≤ k → T (le x y)
  le_of h = subst T (sym le_is) (le→leb j k h)

  pub of_le : T (le x y) → j ≤ k
  of_le h = leb→le j k (subst T le_is h)

  pub of-nle : T (not (le x y)) → k < j
  of-nle h = nleb→lt j k (subst (λ (z : Bool). T (not z)) le_is h)

  pub lt_of : j < k → T (lt x y)
  lt_of h = subst T (sym lt-is) (lt→ltb j k h)

  pub of_lt : T (lt x y) → j < k
  of_lt h = ltb→lt j k (subst T lt-is h)

-- the same for values from 0 on, by their sizes
module _ {f : Format} {x y : Float} {i j : ℕ} (a : At f x (cap f + i)) (b : At f y (cap f + j)) where
  pub le-of-size : i ≤ j → T (le x y)
  le-of-size h = le_of a b (omega arith)

  pub lt-of-size : i < j → T (lt x y)
  lt-of-size h = lt_of a b (omega arith)

  pub size-of-le : T (le x y) → i ≤ j
  size-of-le h = omega (arith, of_le a b h)

  pub size-of-lt : T (lt x y) → i < j
  size-of-lt h = omega (arith, of_lt a b h)

-- ---- a sum
pos-is : (f : Format) (p n d : ℕ) → n + d ≡ p → difference f p n ≡ cap f + rounded f d (one f)
pos-is f p n d e = difference-pos f p n (omega arith) ∙ ap (λ (z : ℕ). cap f + rounded f z (one f)) (sym (eq-sub_of_add-eq d n (add_comm d n ∙ e)))

neg_is : (f : Format) (p n d : ℕ) → p + d ≡ n → difference f p n ≡ cap f - rounded f d (one f)
neg_is f p n d e = difference-neg f p n (omega arith) ∙ ap (λ (z : ℕ). cap f - rounded f z (one f)) (sym (eq-sub_of_add-eq d p (add_comm d p ∙ e)))

-- X units less Y units
less-at : (f : Format) (X Y : ℕ) → X < cap f → Y < cap f → At f (sum f false X true Y (one f)) (difference f (cap f + X + (cap f - Y)) (cap f + cap f))
unfolding sum
less-at f X Y x y = go (ltb X Y) (ltb→lt X Y) (nltb→le X Y)
  where
    go : (t : Bool) → (T t → X < Y) → (T (not t) → Y ≤ X) → At f (cond t (round f true (Y - X) (one f)) (round f false (X - Y) (one f))) (difference f (cap f + X + (cap f - Y)) (cap f + cap f))
    go true p q = let l = p tt in rekeyed (round-at f true (Y - X) (one f)) (sym (neg_is f (cap f + X + (cap f - Y)) (cap f + cap f) (Y - X) (omega arith)))
    go false p q = let l = q tt in rekeyed (round-at f false (X - Y) (one f)) (sym (pos-is f (cap f + X + (cap f - Y)) (cap f + cap f) (X - Y) (omega arith)))

module _ (f : Format) (a b c X Y : ℕ) (C : 0 < c) (h : a * one f ≡ X * c) (k : b * one f ≡ Y * c) (x : X < cap f) (y : Y < cap f) where
  abbrev sum_key : Bool → Bool → ℕ
  sum_key s t = difference f (signed (cap f) s X + signed (cap f) t Y) (cap f + cap f)

  units-at : (s t : Bool) → At f (sum f s X t Y (one f)) (sum_key s t)
  unfolding sum
  units-at false false = rekeyed (round-at f false (X + Y) (one f)) (sym (pos-is f (cap f + X + (cap f + Y)) (cap f + cap f) (X + Y) (omega arith)))
  units-at true true = rekeyed (round-at f true (X + Y) (one f)) (sym (neg_is f (cap f - X + (cap f - Y)) (cap f + cap f) (X + Y) (omega arith)))
  units-at false true = less-at f X Y x y
  units-at true false =
      subst (λ (z : Float). At f z (sum_key true false)) (sum_comm f false true Y X (one f))
      (rekeyed (less-at f Y X y x) (ap (λ (n : ℕ). difference f n (cap f + cap f)) (add_comm (cap f + Y) (cap f - X))))

  -- a / c and b / c are X and Y units
  sum-at : (s t : Bool) → At f (sum f s a t b c) (sum_key s t)
  sum-at s t = subst (λ (z : Float). At f z (sum_key s t)) (sym (sum_same f s t a b c X Y (one f) C (one-pos f) h k)) (units-at s t)

-- a key strictly between those of the infinities is a finite value's
abbrev pub Fin : Format → ℕ → Type 0
Fin f k = (0 < k) × (k < cap f + cap f)

pub inf-key : (c : ℕ) (s : Bool) → 0 < signed c s c → signed c s c < c + c → ⊥
inf-key c false p q = omega arith
inf-key c true p q = omega arith

add-fin : (f : Format) (x y : Float) → T (fits f x) → T (fits f y) → T (not (is_nan x)) → T (not (is_nan y)) → Fin f (key f x) → Fin f (key f y) → At f (add f x y) (difference f (key f x + key f y) (cap f + cap f))
unfolding add is_nan key sign mag
add-fin f nan y a b p q u v = absurd p
add-fin f (inf s) y a b p q u v = absurd (inf-key (cap f) s u.0 u.1)
add-fin f (fin s m e) nan a b p q u v = absurd q
add-fin f (fin s m e) (inf t) a b p q u v = absurd (inf-key (cap f) t v.0 v.1)
add-fin f (fin s m e) (fin t n d) a b p q u v =
    sum-at f (m * up e * down d) (n * up d * down e) (down e * down d) (mag f (fin s m e)) (mag f (fin t n d)) (mul-pos (down_pos e) (down_pos d))
    (cross-l f s m e t n d a b) (cross-r f s m e t n d a b) (mag-lt f (fin s m e) a tt) (mag-lt f (fin t n d) b tt) s t

pub add_at : {f : Format} {x y : Float} {j k : ℕ} → At f x j → At f y k → Fin f j → Fin f k → At f (add f x y) (difference f (j + k) (cap f + cap f))
add_at {f} {x} {y} {j} {k} a b p q =
    rekeyed (add-fin f x y a.fit b.fit a.num b.num (subst (Fin f) (sym a.is) p) (subst (Fin f) (sym b.is) q))
    (ap (λ (z : ℕ). difference f (z + key f y) (cap f + cap f)) a.is ∙ ap (λ (z : ℕ). difference f (j + z) (cap f + cap f)) b.is)

-- ---- the negation, and a difference
neg-signed : (c n : ℕ) (s : Bool) → n ≤ c → signed c (not s) n ≡ c + c - signed c s n
neg-signed c n false h = omega arith
neg-signed c n true h = omega arith

neg-key : (f : Format) (x : Float) → T (fits f x) → T (not (is_nan x)) → (key f (neg x) ≡ cap f + cap f - key f x) × T (not (is_nan (neg x)))
unfolding neg is_nan key sign mag
neg-key f nan a p = absurd p
neg-key f (inf s) a p = (neg-signed (cap f) (cap f) s (le_refl (cap f)), tt)
neg-key f (fin s m e) a p = (neg-signed (cap f) (mag f (fin s m e)) s (mag-le f (fin s m e) a), tt)

neg-at : {f : Format} {x : Float} {k : ℕ} → At f x k → At f (neg x) (cap f + cap f - k)
neg-at {f} {x} a =
    record { fit = neg-fits f x a.fit; num = (neg-key f x a.fit a.num).1; is = (neg-key f x a.fit a.num).0 ∙ ap (λ (z : ℕ). cap f + cap f - z) a.is }

pub sub_at : {f : Format} {x y : Float} {j k : ℕ} → At f x j → At f y k → Fin f j → Fin f k → At f (sub f x y) (difference f j k)
unfolding sub
sub_at {f} {x} {y} {j} {k} a b p q = rekeyed (add_at a (neg-at b) p (omega arith, omega arith)) (difference-same f (j + (cap f + cap f - k)) (cap f + cap f) j k (omega arith))

-- ---- a product, and a quotient
pub same_size : (c X a : ℕ) (s t : Bool) → X < c → a < c → signed c s X ≡ signed c t a → X ≡ a
same_size c X a false false x y e = omega arith
same_size c X a false true x y e = omega arith
same_size c X a true false x y e = omega arith
same_size c X a true true x y e = omega arith

pub same_sign : (c X a : ℕ) (s t : Bool) → X < c → a < c → signed c s X ≡ signed c t a → (s ≡ t) ⊎ (a ≡ 0)
same_sign c X a false false x y e = inl refl
same_sign c X a false true x y e = inr (omega arith)
same_sign c X a true false x y e = inr (omega arith)
same_sign c X a true true x y e = inl refl

no_sign : (c : ℕ) (s t : Bool) → signed c s 0 ≡ signed c t 0
no_sign c false false = refl
no_sign c false true = omega arith
no_sign c true false = omega arith
no_sign c true true = refl

-- the value with the sign s' and the size X, by the s and the a that its key was given with
same_parts : (c X a G : ℕ) (s' s : Bool) (h : Bool → Bool) → X < c → a < c → signed c s' X ≡ signed c s a → (a ≡ 0 → G ≡ 0) → signed c (h s') G ≡ signed c (h s) G
same_parts c X a G s' s h x y e z =
    elim (same_sign c X a s' s x y e) [
      | inl p ↦ ap (λ (w : Bool). signed c (h w) G) p
      | inr p ↦ ap (λ (w : ℕ). signed c (h s') w) (z p) ∙ no_sign c (h s') (h s) ∙ ap (λ (w : ℕ). signed c (h s) w) (sym (z p))
    ]

mul-cross : (o m u n w d e X Y : ℕ) → m * u * o ≡ X * d → n * w * o ≡ Y * e → m * u * (n * w) * (o * o) ≡ X * Y * (d * e)
mul-cross o m u n w d e X Y h k = mul-mul-mul_comm (m * u) (n * w) o o ∙ ap (λ (z : ℕ). z * (n * w * o)) h ∙ ap (λ (z : ℕ). X * d * z) k ∙ mul-mul-mul_comm X d Y e

mul-fin : (f : Format) (x y : Float) (s t : Bool) (a b : ℕ) → At f x (signed (cap f) s a) → At f y (signed (cap f) t b) → a < cap f → b < cap f → Fin f (key f x) → Fin f (key f y)
    → At f (mul f x y) (signed (cap f) (unlike s t) (rounded f (a * b) (one f * one f)))
unfolding mul is_nan key sign mag
mul-fin f nan y s t a b x' y' p q u v = absurd x'.num
mul-fin f (inf r) y s t a b x' y' p q u v = absurd (inf-key (cap f) r u.0 u.1)
mul-fin f (fin s' m e) nan s t a b x' y' p q u v = absurd y'.num
mul-fin f (fin s' m e) (inf r) s t a b x' y' p q u v = absurd (inf-key (cap f) r v.0 v.1)
mul-fin f (fin s' m e) (fin t' n d) s t a b x' y' p q u v =
    let X = mag f (fin s' m e) in
    let Y = mag f (fin t' n d) in
    let xl = mag-lt f (fin s' m e) x'.fit tt in
    let yl = mag-lt f (fin t' n d) y'.fit tt in
    let c = cap f in
    let G = rounded f (a * b) (one f * one f) in
    let P : 0 < one f * one f = mul-pos (one-pos f) (one-pos f) in
    let ea : X ≡ a = same_size c X a s' s xl p x'.is in
    let eb : Y ≡ b = same_size c Y b t' t yl q y'.is in
    let size : rounded f (m * up e * (n * up d)) (down e * down d) ≡ G =
    rounded-same f (m * up e * (n * up d)) (down e * down d) (X * Y) (one f * one f) (mul-pos (down_pos e) (down_pos d)) P
    (mul-cross (one f) m (up e) n (up d) (down e) (down d) X Y (mag-cross f s' m e x'.fit) (mag-cross f t' n d y'.fit))
    ∙ ap (λ (z : ℕ). rounded f (z * Y) (one f * one f)) ea ∙ ap (λ (z : ℕ). rounded f (a * z) (one f * one f)) eb in
    let za : a ≡ 0 → G ≡ 0 = λ z. ap (λ (w : ℕ). rounded f (w * b) (one f * one f)) z ∙ ap (λ (w : ℕ). rounded f w (one f * one f)) (zero-mul b) ∙ rounded-zero f (one f * one f) P in
    let zb : b ≡ 0 → G ≡ 0 = λ z. ap (λ (w : ℕ). rounded f (a * w) (one f * one f)) z ∙ ap (λ (w : ℕ). rounded f w (one f * one f)) (mul-zero a) ∙ rounded-zero f (one f * one f) P in
    rekeyed (round-at f (unlike s' t') (m * up e * (n * up d)) (down e * down d))
    (ap (λ (z : ℕ). signed c (unlike s' t') z) size
    ∙ same_parts c X a G s' s (λ w. unlike w t') xl p x'.is za
    ∙ same_parts c Y b G t' t (λ w. unlike s w) yl q y'.is zb)

pub signed-fin : (c a : ℕ) (s : Bool) → a < c → (0 < signed c s a) × (signed c s a < c + c)
signed-fin c a false h = omega arith
signed-fin c a true h = omega arith

-- a and b are the sizes in units, s and t the signs: any sign for a zero
pub mul_at : {f : Format} {x y : Float} (s t : Bool) (a b : ℕ) → At f x (signed (cap f) s a) → At f y (signed (cap f) t b) → a < cap f → b < cap f
    → At f (mul f x y) (signed (cap f) (unlike s t) (rounded f (a * b) (one f * one f)))
mul_at {f} {x} {y} s t a b x' y' p q = mul-fin f x y s t a b x' y' p q (subst (Fin f) (sym x'.is) (signed-fin (cap f) a s p)) (subst (Fin f) (sym y'.is) (signed-fin (cap f) b t q))

-- (m u d') / (n w e') for m u = X e' / o and n w = Y d' / o
div-cross : (o M N de dd X Y : ℕ) → 0 < o → M * o ≡ X * de → N * o ≡ Y * dd → M * dd * Y ≡ X * (N * de)
div-cross o M N de dd X Y O h k =
    eq_of_mul-eq-mul_right o O (M * dd * Y) (X * (N * de))
    (l ∙ ap (λ (z : ℕ). z * (dd * Y)) h ∙ r ∙ ap (λ (z : ℕ). z * (X * de)) (sym k) ∙ r')
  where
    l : M * dd * Y * o ≡ M * o * (dd * Y)
    l = simp (mul_assoc, mul_comm, mul_left_comm)

    r : X * de * (dd * Y) ≡ Y * dd * (X * de)
    r = simp (mul_assoc, mul_comm, mul_left_comm)

    r' : N * o * (X * de) ≡ X * (N * de) * o
    r' = simp (mul_assoc, mul_comm, mul_left_comm)

mag-zero : (f : Format) (s : Bool) (d : ℤ) → mag f (fin s zero d) ≡ 0
unfolding mag
mag-zero f s d = rw (zero-mul (up d), zero-mul (one f), zero-div (down d))

div-fin : (f : Format) (x y : Float) (s t : Bool) (a b : ℕ) → At f x (signed (cap f) s a) → At f y (signed (cap f) t b) → a < cap f → b < cap f → 0 < b → Fin f (key f x) → Fin f (key f y)
    → At f (div f x y) (signed (cap f) (unlike s t) (rounded f a b))
unfolding div is_nan key sign mag
div-fin f nan y s t a b x' y' p q B u v = absurd x'.num
div-fin f (inf r) y s t a b x' y' p q B u v = absurd (inf-key (cap f) r u.0 u.1)
div-fin f (fin s' m e) nan s t a b x' y' p q B u v = absurd y'.num
div-fin f (fin s' m e) (inf r) s t a b x' y' p q B u v = absurd (inf-key (cap f) r v.0 v.1)
div-fin f (fin s' m e) (fin t' zero d) s t a b x' y' p q B u v =
    absurd (ne_of_gt B (sym (same_size (cap f) (mag f (fin t' zero d)) b t' t (mag-lt f (fin t' zero d) y'.fit tt) q y'.is) ∙ mag-zero f t' d))
div-fin f (fin s' m e) (fin t' (suc n) d) s t a b x' y' p q B u v =
    let X = mag f (fin s' m e) in
    let Y = mag f (fin t' (suc n) d) in
    let xl = mag-lt f (fin s' m e) x'.fit tt in
    let yl = mag-lt f (fin t' (suc n) d) y'.fit tt in
    let c = cap f in
    let G = rounded f a b in
    let ea : X ≡ a = same_size c X a s' s xl p x'.is in
    let eb : Y ≡ b = same_size c Y b t' t yl q y'.is in
    let Yp : 0 < Y = subst (λ (z : ℕ). 0 < z) (sym eb) B in
    let D : 0 < suc n * up d * down e = mul-pos (mul-pos (zero-lt-suc n) (up_pos d)) (down_pos e) in
    let size : rounded f (m * up e * down d) (suc n * up d * down e) ≡ G =
    rounded-same f (m * up e * down d) (suc n * up d * down e) X Y D Yp
    (div-cross (one f) (m * up e) (suc n * up d) (down e) (down d) X Y (one-pos f) (mag-cross f s' m e x'.fit) (mag-cross f t' (suc n) d y'.fit))
    ∙ ap (λ (z : ℕ). rounded f z Y) ea ∙ ap (λ (z : ℕ). rounded f a z) eb in
    let za : a ≡ 0 → G ≡ 0 = λ z. ap (λ (w : ℕ). rounded f w b) z ∙ rounded-zero f b B in
    let zb : b ≡ 0 → G ≡ 0 = λ z. absurd (ne_of_gt B z) in
    subst (λ (z : Bool). At f (cond z (cond (eqb m 0) nan (inf (unlike s' t'))) (round f (unlike s' t') (m * up e * down d) (suc n * up d * down e))) (signed c (unlike s t) G)) (sym (ne_eqb (suc n) 0 (λ z. omega arith)))
    (rekeyed (round-at f (unlike s' t') (m * up e * down d) (suc n * up d * down e))
    (ap (λ (z : ℕ). signed c (unlike s' t') z) size
    ∙ same_parts c X a G s' s (λ w. unlike w t') xl p x'.is za
    ∙ same_parts c Y b G t' t (λ w. unlike s w) yl q y'.is zb))

pub div-at : {f : Format} {x y : Float} (s t : Bool) (a b : ℕ) → At f x (signed (cap f) s a) → At f y (signed (cap f) t b) → a < cap f → b < cap f → 0 < b
    → At f (div f x y) (signed (cap f) (unlike s t) (rounded f a b))
div-at {f} {x} {y} s t a b x' y' p q B = div-fin f x y s t a b x' y' p q B (subst (Fin f) (sym x'.is) (signed-fin (cap f) a s p)) (subst (Fin f) (sym y'.is) (signed-fin (cap f) b t q))

-- ---- the casts
pub of_int-at : (f : Format) (n : ℕ) → n < 2 ^ prec f → At f (of_int f (pos n)) (cap f + n * one f)
unfolding of_int
of_int-at f n h =
    rekeyed (round-at f false n 1) (ap (λ (z : ℕ). cap f + z) (rounded-same f n 1 (n * one f) (one f) (zero-lt-suc 0) (one-pos f) (sym (mul-one (n * one f))) ∙ rounded-exact f (n * one f) (rep-whole f n h) (whole-lt f n h)))

cut-fin : (f : Format) (w : ℕ) (x : Float) (a : ℕ) → At f x (cap f + a) → a < cap f → Fin f (key f x) → to_unsigned w x ≡ min (a / one f) (2 ^ w - 1)
unfolding to_unsigned is_nan key sign mag
cut-fin f w nan a x p u = absurd x.num
cut-fin f w (inf r) a x p u = absurd (inf-key (cap f) r u.0 u.1)
cut-fin f w (fin false m e) a x p u =
    let ea : mag f (fin false m e) ≡ a = same_size (cap f) (mag f (fin false m e)) a false false (mag-lt f (fin false m e) x.fit tt) p x.is in
    ap (λ (z : ℕ). min z (2 ^ w - 1)) (div_same (m * up e) (down e) a (one f) (down_pos e) (one-pos f) (mag-cross f false m e x.fit ∙ ap (λ (z : ℕ). z * down e) ea))
cut-fin f w (fin true m e) a x p u =
    let ea : mag f (fin true m e) ≡ a = same_size (cap f) (mag f (fin true m e)) a true false (mag-lt f (fin true m e) x.fit tt) p x.is in
    let z : a ≡ 0 = elim (same_sign (cap f) (mag f (fin true m e)) a true false (mag-lt f (fin true m e) x.fit tt) p x.is) [ inl q ↦ absurd (subst T q tt) | inr q ↦ q ] in
    sym (ap (λ (v : ℕ). min (v / one f) (2 ^ w - 1)) z ∙ ap (λ (v : ℕ). min v (2 ^ w - 1)) (zero-div (one f)) ∙ zero-min (2 ^ w - 1))

pub to_unsigned-at : {f : Format} (w : ℕ) {x : Float} (a : ℕ) → At f x (cap f + a) → a < cap f → to_unsigned w x ≡ min (a / one f) (2 ^ w - 1)
to_unsigned-at {f} w {x} a h p = cut-fin f w x a h p (subst (Fin f) (sym h.is) (signed-fin (cap f) a false p))

-- ---- the size of a value is one that the format holds
rep-fin : (f : Format) (x : Float) (n : ℕ) → At f x (cap f + n) → n < cap f → Fin f (key f x) → Rep f n
unfolding is_nan key sign mag
rep-fin f nan n h p u = absurd h.num
rep-fin f (inf r) n h p u = absurd (inf-key (cap f) r u.0 u.1)
rep-fin f (fin s m e) n h p u = subst (Rep f) (same_size (cap f) (mag f (fin s m e)) n s false (mag-lt f (fin s m e) h.fit tt) p h.is) (mag-rep f (fin s m e) h.fit tt)

pub rep_at : {f : Format} {x : Float} {n : ℕ} → At f x (cap f + n) → n < cap f → Rep f n
rep_at {f} {x} {n} h p = rep-fin f x n h p (subst (Fin f) (sym h.is) (signed-fin (cap f) n false p))

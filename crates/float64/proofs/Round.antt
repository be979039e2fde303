-- `rounded f a c` is the fraction a / c rounded, in units of the format's smallest value; `cap` where it overflows. It keeps the order, and what the format holds it leaves alone.
-- `difference f p n` is the key of the difference p - n, in units, rounded. Assumes nothing.
use Rattle.std.proofs.Common.{◌≡◌, ℕ, zero, suc, ◌+◌, ◌-◌, ◌*◌, ◌^◌, ◌<◌, ◌≤◌, Bool, true, false, cond, not, T, ltb, leb, sym, refl, ap, ◌∙◌, subst, zero-le, le_trans, le_of_eq, lt_of_lt_of_le, le_of_lt, lt_irrefl, mul-le-mul_right, le_antisymm, mul-lt-mul_of_pos_right, zero-mul, sub-eq-zero_of_le, arith, leb→le, pow_pos, pow_mono, le-leb}
use native.Mathlib.Nat.{sub-zero}
use lib.Dec.{nleb→lt}
use lib.Ieee.{Float, nan, inf, fin, Format, prec, emax, low, odd, units, round, neg, is_nan}
use lib.Ieee.Fits.{round-fits, round_is, reach}
use lib.Ieee.Exact.{round_exact}
use lib.Ieee.Order.{round_mono, kept, drop}
use lib.Ieee.Scale.{finite}
use Rattle.std.proofs.num.Values.{neg-round}
use Rattle.float64.proofs.Units.{one, cap, one-pos, cap-pos, cap-is, sign, mag, signed, key, Rep, mag-rep, mag-of-value, le-key}

-- ---- what `round` makes: a number with the sign that it is handed
mag-neg : (f : Format) (x : Float) → mag f (neg x) ≡ mag f x
unfolding mag neg
mag-neg f nan = refl
mag-neg f (inf s) = refl
mag-neg f (fin s m e) = refl

odd_shape : (d : ℕ) (s : Bool) (q k l : ℕ) → (sign (odd d s q k l) ≡ s) × T (not (is_nan (odd d s q k l)))
unfolding odd sign is_nan
odd_shape d s zero k l = (refl, tt)
odd_shape d s (suc q) k l = (refl, tt)

units-shape : (f : Format) (s : Bool) (q k : ℕ) → (sign (units f s q k) ≡ s) × T (not (is_nan (units f s q k)))
unfolding units
units-shape f s q k = go (ltb (q * 2 ^ k) (2 ^ (low f + suc (emax f))))
  where
    go : (b : Bool) → (sign (cond b (odd (suc (prec f)) s q k (low f)) (inf s)) ≡ s) × T (not (is_nan (cond b (odd (suc (prec f)) s q k (low f)) (inf s))))
    go true = odd_shape (suc (prec f)) s q k (low f)
    go false = unfold sign is_nan in (refl, tt)

pub round-shape : (f : Format) (s : Bool) (a c : ℕ) → (sign (round f s a c) ≡ s) × T (not (is_nan (round f s a c)))
round-shape f s a c =
    subst (λ (z : Float). (sign z ≡ s) × T (not (is_nan z))) (sym (round_is f s a c)) (units-shape f s (kept (prec f) (a * 2 ^ low f) c) (drop (prec f) (a * 2 ^ low f) c))

pub round-num : (f : Format) (s : Bool) (a c : ℕ) → T (not (is_nan (round f s a c)))
round-num f s a c = (round-shape f s a c).1

-- ---- a fraction rounded, in units
unfoldable pub rounded : Format → ℕ → ℕ → ℕ
unfolding mag round
rounded f a c = mag f (round f false a c)

pub round-key : (f : Format) (s : Bool) (a c : ℕ) → key f (round f s a c) ≡ signed (cap f) s (rounded f a c)
unfolding key rounded
round-key f false a c = ap (λ (z : Bool). signed (cap f) z (mag f (round f false a c))) (round-shape f false a c).0
round-key f true a c =
    ap (λ (z : Bool). signed (cap f) z (mag f (round f true a c))) (round-shape f true a c).0
    ∙ ap (λ (z : ℕ). cap f - z) (ap (mag f) (sym (neg-round f a c)) ∙ mag-neg f (round f false a c))

pub rounded-mono : (f : Format) (a b c d : ℕ) → 0 < b → 0 < d → a * d ≤ c * b → rounded f a b ≤ rounded f c d
rounded-mono f a b c d B D h =
    let x = round f false a b in
    let y = round f false c d in
    let l : T (leb (key f x) (key f y)) =
    subst T (le-key f x y (round-fits f false a b) (round-fits f false c d) (round-num f false a b) (round-num f false c d)) (round_mono f a b c d B D h) in
    let k : key f x ≤ key f y = leb→le (key f x) (key f y) l in
    let p = round-key f false a b in
    let q = round-key f false c d in
    omega arith

pub rounded-same : (f : Format) (a b c d : ℕ) → 0 < b → 0 < d → a * d ≡ c * b → rounded f a b ≡ rounded f c d
rounded-same f a b c d B D e = le_antisymm (rounded-mono f a b c d B D (le_of_eq e)) (rounded-mono f c d a b D B (le_of_eq (sym e)))

-- ---- what the format holds
pub rounded-exact : (f : Format) (n : ℕ) → Rep f n → n < cap f → rounded f n (one f) ≡ n
unfolding rounded one cap
rounded-exact f n r h =
    mag-of-value f (round f false n (one f)) false n
    (round_exact f false n (one f) r.q r.j (one-pos f) r.small (subst (λ (z : ℕ). z < cap f) r.is h) (ap (λ (z : ℕ). z * one f) r.is))

rep_zero : (f : Format) → Rep f 0
rep_zero f = record { q = 0; j = 0; small = pow_pos (prec f); is = refl }

pub rounded-zero : (f : Format) (c : ℕ) → 0 < c → rounded f 0 c ≡ 0
rounded-zero f c C = rounded-same f 0 c 0 (one f) C (one-pos f) (zero-mul (one f) ∙ sym (zero-mul c)) ∙ rounded-exact f 0 (rep_zero f) (cap-pos f)

-- the whole numbers below 2 ^ prec
pub rep-whole : (f : Format) (n : ℕ) → n < 2 ^ prec f → Rep f (n * one f)
unfolding one
rep-whole f n h = record { q = n; j = low f; small = h; is = refl }

pub whole-lt : (f : Format) (n : ℕ) → n < 2 ^ prec f → n * one f < cap f
whole-lt f n h = lt_of_lt_of_le (mul-lt-mul_of_pos_right h (one-pos f)) (le_trans (mul-le-mul_right (one f) (pow_mono (reach f))) (le_of_eq (sym (cap-is f))))

pub finite-of-mag : (f : Format) (x : Float) → T (not (is_nan x)) → mag f x < cap f → T (finite x)
unfolding mag is_nan
finite-of-mag f nan n h = absurd n
finite-of-mag f (inf s) n h = absurd (lt_irrefl (cap f) h)
finite-of-mag f (fin s m e) n h = tt

pub rounded-rep : (f : Format) (a c : ℕ) → rounded f a c < cap f → Rep f (rounded f a c)
unfolding rounded
rounded-rep f a c h = mag-rep f (round f false a c) (round-fits f false a c) (finite-of-mag f (round f false a c) (round-num f false a c) h)

-- what is rounded below a value that the format holds is no more than it
pub rounded-le : (f : Format) (a c n : ℕ) → 0 < c → Rep f n → n < cap f → a * one f ≤ n * c → rounded f a c ≤ n
rounded-le f a c n C r h l = le_trans (rounded-mono f a c n (one f) C (one-pos f) l) (le_of_eq (rounded-exact f n r h))

-- a number of units rounded: monotone
pub rounded-units-mono : (f : Format) (a b : ℕ) → a ≤ b → rounded f a (one f) ≤ rounded f b (one f)
rounded-units-mono f a b h = rounded-mono f a (one f) b (one f) (one-pos f) (one-pos f) (mul-le-mul_right (one f) h)

-- ---- the key of the difference p - n, rounded
unfoldable pub difference : Format → ℕ → ℕ → ℕ
unfolding rounded cap one
difference f p n = cond (leb n p) (cap f + rounded f (p - n) (one f)) (cap f - rounded f (n - p) (one f))

pub difference-pos : (f : Format) (p n : ℕ) → n ≤ p → difference f p n ≡ cap f + rounded f (p - n) (one f)
unfolding difference
difference-pos f p n h = rw (le-leb n p h)

pub difference-neg : (f : Format) (p n : ℕ) → p ≤ n → difference f p n ≡ cap f - rounded f (n - p) (one f)
unfolding difference
difference-neg f p n h = go (leb n p) (leb→le n p)
  where
    go : (b : Bool) → (T b → n ≤ p) → cond b (cap f + rounded f (p - n) (one f)) (cap f - rounded f (n - p) (one f)) ≡ cap f - rounded f (n - p) (one f)
    go true k =
        let z = rounded-zero f (one f) (one-pos f) in
        let u : rounded f (p - n) (one f) ≡ 0 = ap (λ (w : ℕ). rounded f w (one f)) (sub-eq-zero_of_le h) ∙ z in
        let v : rounded f (n - p) (one f) ≡ 0 = ap (λ (w : ℕ). rounded f w (one f)) (sub-eq-zero_of_le (k tt)) ∙ z in
        omega arith
    go false k = refl

pub difference-mono : (f : Format) (p n p' n' : ℕ) → p + n' ≤ p' + n → difference f p n ≤ difference f p' n'
difference-mono f p n p' n' h = go (leb n p) (leb n' p') (leb→le n p) (nleb→lt n p) (leb→le n' p') (nleb→lt n' p')
  where
    go : (b b' : Bool) → (T b → n ≤ p) → (T (not b) → p < n) → (T b' → n' ≤ p') → (T (not b') → p' < n') → difference f p n ≤ difference f p' n'
    go true true x y x' y' =
        let u = x tt in
        let u' = x' tt in
        let m = rounded-units-mono f (p - n) (p' - n') (omega arith) in
        omega (arith, difference-pos f p n u, difference-pos f p' n' u')
    go true false x y x' y' = let u = x tt in let v = y' tt in absurd (omega arith)
    go false true x y x' y' = omega (arith, difference-neg f p n (le_of_lt (y tt)), difference-pos f p' n' (x' tt))
    go false false x y x' y' =
        let v = y tt in
        let v' = y' tt in
        let m = rounded-units-mono f (n' - p') (n - p) (omega arith) in
        omega (arith, difference-neg f p n (le_of_lt v), difference-neg f p' n' (le_of_lt v'))

pub difference-same : (f : Format) (p n p' n' : ℕ) → p + n' ≡ p' + n → difference f p n ≡ difference f p' n'
difference-same f p n p' n' e = le_antisymm (difference-mono f p n p' n' (le_of_eq e)) (difference-mono f p' n' p n (le_of_eq (sym e)))

-- ---- a difference against a value that the format holds
difference-at : (f : Format) (n : ℕ) → Rep f n → n < cap f → difference f n 0 ≡ cap f + n
difference-at f n r h = difference-pos f n 0 zero-le ∙ ap (λ (z : ℕ). cap f + rounded f z (one f)) (sub-zero n) ∙ ap (λ (z : ℕ). cap f + z) (rounded-exact f n r h)

pub difference-le : (f : Format) (p q n : ℕ) → Rep f n → n < cap f → p ≤ q + n → difference f p q ≤ cap f + n
difference-le f p q n r h l = le_trans (difference-mono f p q n 0 (omega arith)) (le_of_eq (difference-at f n r h))

pub difference-ge : (f : Format) (p q n : ℕ) → Rep f n → n < cap f → q + n ≤ p → cap f + n ≤ difference f p q
difference-ge f p q n r h l = le_trans (le_of_eq (sym (difference-at f n r h))) (difference-mono f n 0 p q (omega arith))

pub difference-exact : (f : Format) (p q n : ℕ) → Rep f n → n < cap f → p ≡ q + n → difference f p q ≡ cap f + n
difference-exact f p q n r h e = le_antisymm (difference-le f p q n r h (le_of_eq e)) (difference-ge f p q n r h (le_of_eq (sym e)))

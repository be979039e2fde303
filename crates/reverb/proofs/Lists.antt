-- Tests over lists of positions and lengths, entry by entry: positions below their lengths. Assumes nothing.
use Rattle.std.proofs.Common.{◌≡◌, ℕ, zero, suc, ◌<◌, Bool, true, false, ◌&&◌, ltb, List, [], ◌∷◌, length, get_or, fold, refl, sym, ◌∙◌, ap, le_of_suc-le-suc, not-suc-le-zero, arith, ltb-true, le-ltb, lt-ltb}
use mathlib.Core.Bool.{and_assoc, and-true}
use Rattle.std.specs.List.{zip}
use Rattle.float64.proofs.Tests.{both, clash}
use Rattle.common.specs.Line.{next_place, table}
use Rattle.common.proofs.Ring.{next-lt}
use Rattle.reverb.specs.Tank.{all_below}

-- ---- positions below their lengths

pub below_at : (ws ns : List ℕ) (i : ℕ) → all_below ws ns ≡ true → i < length ns → get_or ws i 0 < get_or ns i 0
unfolding all_below
below_at [] [] i e h = absurd (not-suc-le-zero h)
below_at [] (n ∷ ns) i e h = clash e refl
below_at (w ∷ ws) [] i e h = clash e refl
below_at (w ∷ ws) (n ∷ ns) zero e h = ltb-true w n (both (ltb w n) (all_below ws ns) e).0
below_at (w ∷ ws) (n ∷ ns) (suc i) e h = below_at ws ns i (both (ltb w n) (all_below ws ns) e).1 (le_of_suc-le-suc h)

-- as many positions as lengths
pub below-long : (ws ns : List ℕ) → all_below ws ns ≡ true → length ws ≡ length ns
unfolding all_below
below-long [] [] e = refl
below-long [] (n ∷ ns) e = clash e refl
below-long (w ∷ ws) [] e = clash e refl
below-long (w ∷ ws) (n ∷ ns) e = ap suc (below-long ws ns (both (ltb w n) (all_below ws ns) e).1)

-- found in one pass over both, from what was found before
pub below-folded : (b : Bool) (ws ns : List ℕ) → length ws ≡ length ns → fold (λ (a : Bool) (p : ℕ × ℕ). a && ltb p.0 p.1) b (zip ws ns) ≡ b && all_below ws ns
unfolding all_below
below-folded b [] [] e = sym (and-true b)
below-folded b [] (n ∷ ns) e = absurd (omega arith)
below-folded b (w ∷ ws) [] e = absurd (omega arith)
below-folded b (w ∷ ws) (n ∷ ns) e = below-folded (b && ltb w n) ws ns (omega arith) ∙ and_assoc b (ltb w n) (all_below ws ns)

-- no position lies below a length of 0
pub below-zero : (ws ns : List ℕ) → all_below ws (0 ∷ ns) ≡ false
unfolding all_below
below-zero [] ns = refl
below-zero (w ∷ ws) ns = rw (le-ltb w 0 (omega arith))

-- after a move each is below again
pub next-below : (ws ns : List ℕ) → all_below ws ns ≡ true → all_below (table (λ i. next_place (get_or ns i 0) (get_or ws i 0)) (length ns)) ns ≡ true
unfolding all_below table
next-below [] [] e = refl
next-below [] (n ∷ ns) e = clash e refl
next-below (w ∷ ws) [] e = clash e refl
next-below (w ∷ ws) (n ∷ ns) e =
    let b = both (ltb w n) (all_below ws ns) e in
    rw (lt-ltb (next_place n w) n (next-lt n w (ltb-true w n b.0))) (next-below ws ns b.1)

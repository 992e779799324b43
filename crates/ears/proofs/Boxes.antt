-- A triangle that turns left holds no point outside the box of its corners.
use Rattle.std.proofs.Common.{◌≡◌, ℕ, ◌<◌, ◌≤◌, Bool, true, false, not, ◌&&◌, ◌||◌, List, [], ◌∷◌, length, get_or, ℤ, pos, ◌+ℤ◌, ◌-ℤ◌, ◌*ℤ◌, ◌≤ℤ◌, ◌<ℤ◌, int_le, int_lt, refl, sym, ap, ap₂, ⊎_elim, ◌∙◌, le-leb}
use Rattle.std.specs.List.{list_any, range_with_len}
use Rattle.std.proofs.lemmas.Bool.{and_from, and_parts, cases_lt}
use Rattle.std.proofs.lemmas.Int.{by_lt_z}
use Rattle.plane.specs.declared.Point.{Point}
use Rattle.plane.specs.Identities.{width}
use Rattle.plane.specs.Points.{GridPoint, Spot, area, det, grid_point, place_of, spot_at, vertex_of}
use Rattle.plane.proofs.Determinants.{along_width, identities}
use Rattle.plane.proofs.Signs.{lin, times-++, times--+, times->>, times-<>}
use Rattle.tiling.specs.Triangles.{Triangle, closed_holds}
use Rattle.plane.specs.declared.Corners.{Corners}
use Rattle.ears.specs.declared.shape.Shape.{Shape}
use Rattle.ears.specs.Cutting.{triangle_of}
use Rattle.ears.specs.Ears.{is_ear, is_left, is_other, triangle_at}
use Rattle.ears.specs.Shapes.{blocks_in_box, greatest, holds, in_box, in_range, least, shape_at, shape_of, turns_left}

-- ---- over the integers: numbers that balance under weights which are not all 0 are not all of one sign

-- the weights: none below 0, and some above
record Weights (d e f : ℤ) : Type 0 where
  d_low : pos 0 ≤ℤ d
  e_low : pos 0 ≤ℤ e
  f_low : pos 0 ≤ℤ f
  some : pos 0 <ℤ (d +ℤ e +ℤ f)

all_above : (x y z d e f : ℤ) → Weights d e f → x *ℤ d +ℤ y *ℤ e +ℤ z *ℤ f ≡ pos 0 → pos 0 <ℤ x → pos 0 <ℤ y → pos 0 <ℤ z → ⊥
all_above x y z d e f w b hx hy hz =
    let p = times-++ x d (omega lin) w.d_low in
    let q = times-++ y e (omega lin) w.e_low in
    let r = times-++ z f (omega lin) w.f_low in
    by_lt_z (pos 0) d (λ (h : pos 0 <ℤ d). let k = times->> x d hx h in omega lin)
    (λ (h : d ≤ℤ pos 0). by_lt_z (pos 0) e (λ (i : pos 0 <ℤ e). let k = times->> y e hy i in omega lin)
    (λ (i : e ≤ℤ pos 0). by_lt_z (pos 0) f (λ (j : pos 0 <ℤ f). let k = times->> z f hz j in omega lin)
    (λ (j : f ≤ℤ pos 0). let s = w.some in omega lin)))

all_below : (x y z d e f : ℤ) → Weights d e f → x *ℤ d +ℤ y *ℤ e +ℤ z *ℤ f ≡ pos 0 → x <ℤ pos 0 → y <ℤ pos 0 → z <ℤ pos 0 → ⊥
all_below x y z d e f w b hx hy hz =
    let p = times--+ x d (omega lin) w.d_low in
    let q = times--+ y e (omega lin) w.e_low in
    let r = times--+ z f (omega lin) w.f_low in
    by_lt_z (pos 0) d (λ (h : pos 0 <ℤ d). let k = times-<> x d hx h in omega lin)
    (λ (h : d ≤ℤ pos 0). by_lt_z (pos 0) e (λ (i : pos 0 <ℤ e). let k = times-<> y e hy i in omega lin)
    (λ (i : e ≤ℤ pos 0). by_lt_z (pos 0) f (λ (j : pos 0 <ℤ f). let k = times-<> z f hz j in omega lin)
    (λ (j : f ≤ℤ pos 0). let s = w.some in omega lin)))

-- so a number from which three others differ by such is one of the least to the greatest of them
ranged : (u v w x : ℕ) (d e f : ℤ) → Weights d e f
    → (pos x -ℤ pos u *ℤ pos 1) *ℤ d +ℤ (pos x -ℤ pos v *ℤ pos 1) *ℤ e +ℤ (pos x -ℤ pos w *ℤ pos 1) *ℤ f ≡ pos 0
    → in_range (least u v w) (greatest u v w) x ≡ true
ranged u v w x d e f weights balance =
    let low : least u v w ≤ x =
    ⊎_elim (λ (h : x < least u v w). absurd (all_below _ _ _ d e f weights balance (omega lin) (omega lin) (omega lin))) (λ (h : least u v w ≤ x). h) (cases_lt x (least u v w)) in
    let high : x ≤ greatest u v w =
    ⊎_elim (λ (h : greatest u v w < x). absurd (all_above _ _ _ d e f weights balance (omega lin) (omega lin) (omega lin))) (λ (h : x ≤ greatest u v w). h) (cases_lt (greatest u v w) x) in
    and_from _ _ (le-leb _ _ low) (le-leb _ _ high)

-- ---- over the points

above_0 : (d : ℤ) → int_lt (pos 0) d ≡ true → pos 0 <ℤ d
above_0 d h = grind lin

not_below_0 : (d : ℤ) → int_le (pos 0) d ≡ true → pos 0 ≤ℤ d
not_below_0 d h = grind lin

widths : (a b c : GridPoint) (p : Spot) → width a p *ℤ det b c p +ℤ width b p *ℤ det c a p +ℤ width c p *ℤ det a b p ≡ pos 0
widths a b c p =
    rw (← along_width a a a p p (pos 0) (pos 0), ← along_width b b b p p (pos 0) (pos 0), ← along_width c c c p p (pos 0) (pos 0))
    (identities.balance (pos 1) (pos 0) a b c p)

held_is_boxed : (t : Corners) (a b c q : Point) → turns_left (shape_at t a b c) ≡ true → holds (shape_at t a b c) q ≡ true → in_box (shape_at t a b c) q ≡ true
held_is_boxed t a b c q left held =
    let p = spot_at (grid_point q) in
    let d = det (grid_point b) (grid_point c) p in
    let e = det (grid_point c) (grid_point a) p in
    let f = det (grid_point a) (grid_point b) p in
    let ab = and_parts _ _ held in
    let bc = and_parts _ _ ab.1 in
    let area_above = above_0 _ left in
    let sum = identities.sides (grid_point a) (grid_point b) (grid_point c) p in
    let one = one_times (area (grid_point a) (grid_point b) (grid_point c)) in
    let weights : Weights d e f =
    record { d_low = not_below_0 d bc.0; e_low = not_below_0 e bc.1; f_low = not_below_0 f ab.0; some = positive f d e _ _ sum one area_above } in
    and_from _ _
    (ranged a.x b.x c.x q.x d e f weights (widths (grid_point a) (grid_point b) (grid_point c) p))
    (ranged a.y b.y c.y q.y d e f weights (identities.heights (grid_point a) (grid_point b) (grid_point c) p))
  where
    one_times : (n : ℤ) → pos 1 *ℤ n ≡ n
    one_times n = omega lin

    positive : (d e f m n : ℤ) → d +ℤ e +ℤ f ≡ m → m ≡ n → pos 0 <ℤ n → pos 0 <ℤ (e +ℤ f +ℤ d)
    positive d e f m n s i h = omega lin

-- ---- the tests

by_box : (other box held : Bool) → (held ≡ true → box ≡ true) → (other && (box && held)) ≡ (other && held)
by_box false box held h = refl
by_box true true held h = refl
by_box true false true h = h refl
by_box true false false h = refl

any_same : (p q : ℕ → Bool) → ((v : ℕ) → p v ≡ q v) → (vs : List ℕ) → list_any p vs ≡ list_any q vs
any_same p q same [] = refl
any_same p q same (v ∷ vs) = ap₂ ◌||◌ (same v) (any_same p q same vs)

abbrev positions : List ℕ → List ℕ
positions cs = range_with_len 0 (length cs)

-- another corner in the triangle
abbrev blocks_at : (ℕ → GridPoint) → Triangle → List ℕ → (i j : ℕ) → Bool
blocks_at at t cs i j = is_other (length cs) i j && closed_holds at t (spot_at (at (get_or cs j 0)))

blocked_by_box : (ps : List Point) (t : Corners) (cs : List ℕ) (i : ℕ) → turns_left (shape_of ps t) ≡ true
    → list_any (blocks_in_box ps (shape_of ps t) cs i) (positions cs) ≡ list_any (blocks_at (place_of ps) (triangle_of t) cs i) (positions cs)
blocked_by_box ps t cs i left =
    any_same _ _
    (λ j. by_box (is_other (length cs) i j) _ _ (held_is_boxed t (vertex_of ps t.a) (vertex_of ps t.b) (vertex_of ps t.c) (vertex_of ps (get_or cs j 0)) left))
    (positions cs)

ear_is : (at : ℕ → GridPoint) (cs : List ℕ) (i : ℕ) (t : Triangle) → t ≡ triangle_at cs i → is_ear at cs i ≡ (is_left at t && not (list_any (blocks_at at t cs i) (positions cs)))
unfolding is_ear
ear_is at cs i t e = ap (λ u. is_left at u && not (list_any (blocks_at at u cs i) (positions cs))) (sym e)

pub ear_by_box : (ps : List Point) (cs : List ℕ) (i : ℕ) (t : Corners) (s : Shape) (left blocked : Bool) → triangle_of t ≡ triangle_at cs i → s ≡ shape_of ps t
    → left ≡ true → left ≡ turns_left s → blocked ≡ list_any (blocks_in_box ps s cs i) (range_with_len 0 (length cs)) → not blocked ≡ is_ear (place_of ps) cs i
ear_by_box ps cs i t s left blocked corners shape lies told test =
    let turned : turns_left (shape_of ps t) ≡ true = ap turns_left (sym shape) ∙ sym told ∙ lies in
    ap not (test ∙ ap (λ u. list_any (blocks_in_box ps u cs i) (positions cs)) shape ∙ blocked_by_box ps t cs i turned)
    ∙ sym (ear_is (place_of ps) cs i (triangle_of t) corners ∙ ap (λ b. b && not (list_any (blocks_at (place_of ps) (triangle_of t) cs i) (positions cs))) turned)

pub no_ear : (ps : List Point) (cs : List ℕ) (i : ℕ) (t : Corners) (s : Shape) (left : Bool) → triangle_of t ≡ triangle_at cs i → s ≡ shape_of ps t
    → left ≡ false → left ≡ turns_left s → left ≡ is_ear (place_of ps) cs i
no_ear ps cs i t s left corners shape lies told =
    lies
    ∙ sym (ear_is (place_of ps) cs i (triangle_of t) corners ∙ ap (λ b. b && not (list_any (blocks_at (place_of ps) (triangle_of t) cs i) (positions cs))) (ap turns_left (sym shape) ∙ sym told ∙ lies))

-- for the test of an ear
pub ruleset told_by_box = (ear_by_box, no_ear)

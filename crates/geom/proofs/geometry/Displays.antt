-- The search for the nearest display keeps the first of those with the least distance so far; the nearest pixel of that display is then the nearest
-- of all, since no display is nearer than its own nearest pixel.
use Rattle.std.proofs.Common.{ℕ, zero, suc, ◌≤◌, ◌<◌, ◌≡◌, refl, sym, ap, ◌∙◌, Bool, true, false, cond, not, ◌||◌, List, [], ◌∷◌, ◌++◌, append-nil, append_assoc, ⊎_elim, arith, le_refl, length, take, length-append, ltb-true, ltb-false}
use Rattle.std.proofs.Math.Option.{Option, none, some, none-ne-some, some-ne-none, some-injective}
use Rattle.std.proofs.Math.ListN.{get_or-append}
use Rattle.std.proofs.Math.Seq.{take-append_seam, take-append-le, get_or-append_seam}
use Rattle.std.proofs.lemmas.Bool.{not-true}
use Rattle.geom.specs.declared.Rect.{Rect}
use Rattle.geom.specs.Geom.{rect, is_empty, contains}
use Rattle.geom.specs.Lists.{any_has}
use Rattle.geom.specs.Nearest.{nearest_x, nearest_y, distance², Nearest}
use Rattle.geom.specs.Displays.{Located, on, closest, answered, first_on, away², nearer, closest_of, closest_to, on_or, display_for, Numbered, FirstOn, HoldsNearest, ClosestIs, Answers, have_pixels, DisplayForPos}
use Rattle.geom.proofs.basics.Tests.{is_true, is_false, holds, clash, both, fst, snd, or_left, or_right, or_cases, lt_or_le, on_cond}
use Rattle.geom.proofs.basics.Lists.{All, all_append, all_imp}
use Rattle.geom.proofs.geometry.Nearest as Pixel

-- Places -------------------------------------------------------------------------------------------------------------

-- a display before place q has its pixels among those of the first q
among : (ds : List Rect) (p q : ℕ) (d : Rect) (x y : ℕ) → Numbered ds p d → p < q → contains d x y ≡ true → any_has (take q ds) x y ≡ true
among [] p q d x y n l h = absurd (omega (arith, n.low))
among (e ∷ ds) p zero d x y n l h = absurd (omega arith)
among (e ∷ ds) zero (suc q) d x y n l h = or_left (contains e x y) _ (rw n.here h)
among (e ∷ ds) (suc p) (suc q) d x y n l h =
    or_right (contains e x y) _ (among ds p q d x y (record { low = omega (arith, n.low); here = n.here }) (omega arith) h)

-- the first q have no other pixels than all
front_has : (q : ℕ) (ds : List Rect) (x y : ℕ) → any_has (take q ds) x y ≡ true → any_has ds x y ≡ true
front_has zero ds x y h = clash h refl
front_has (suc q) [] x y h = h
front_has (suc q) (e ∷ ds) x y h =
    or_cases (contains e x y) (any_has (take q ds) x y) h (or_left (contains e x y) _) (λ k. or_right (contains e x y) _ (front_has q ds x y k))

among_all : (ds : List Rect) (p : ℕ) (d : Rect) (x y : ℕ) → Numbered ds p d → contains d x y ≡ true → any_has ds x y ≡ true
among_all ds p d x y n h = front_has (suc p) ds x y (among ds p (suc p) d x y n (omega arith) h)

-- where a display differs from another, one comes first
sooner : {A : Type 0} (p q : ℕ) → (p < q → A) → (p ≡ q → A) → (q < p → A) → A
sooner p q f g h = ⊎_elim f (λ l. ⊎_elim h (λ k. g (omega arith)) (lt_or_le q p)) (lt_or_le p q)

module _ (px py : ℕ) where
  -- The first that contains the position -----------------------------------------------------------------------------

  first_on_lem : (ds : List Rect) (d : Rect) → first_on ds px py ≡ some d → FirstOn ds px py d
  first_on_lem [] d e = absurd (none-ne-some d e)
  first_on_lem (c ∷ ds) d e = go (contains c px py) refl e (first_on_lem ds d)
    where
      go : (t : Bool) → contains c px py ≡ t → cond t (some c) (first_on ds px py) ≡ some d → (first_on ds px py ≡ some d → FirstOn ds px py d)
          → FirstOn (c ∷ ds) px py d
      go true h e ih =
          let q : c ≡ d = some-injective c d e in
          record { place = 0; numbered = record { low = omega arith; here = q }; has = holds (rw q at h); first = refl }
      go false h e ih =
          let f = ih e in
          record {
            place = suc f.place;
            numbered = record { low = omega (arith, f.numbered.low); here = f.numbered.here };
            has = f.has;
            first = rw h f.first;
          }

  on_none : (ds : List Rect) → first_on ds px py ≡ none → any_has ds px py ≡ false
  on_none [] e = refl
  on_none (c ∷ ds) e = go (contains c px py) e (on_none ds)
    where
      go : (t : Bool) → cond t (some c) (first_on ds px py) ≡ none → (first_on ds px py ≡ none → any_has ds px py ≡ false) → t || any_has ds px py ≡ false
      go true e ih = absurd (some-ne-none c e)
      go false e ih = ih e

  first_has : (ds : List Rect) (d : Rect) → FirstOn ds px py d → any_has ds px py ≡ true
  first_has ds d f = among_all ds f.place d px py f.numbered (is_true f.has)

  first_one : (ds : List Rect) (d e : Rect) → FirstOn ds px py d → FirstOn ds px py e → d ≡ e
  first_one ds d e f g =
      sooner f.place g.place (λ l. clash (among ds _ _ d px py f.numbered l (is_true f.has)) g.first)
      (λ q. sym f.numbered.here ∙ rw q g.numbered.here) (λ l. clash (among ds _ _ e px py g.numbered l (is_true g.has)) f.first)

  -- The nearest ------------------------------------------------------------------------------------------------------

  abbrev away : Rect → ℕ
  away d = away² d px py

  -- a display that has pixels has none nearer than so far, and one there
  away_least : (d : Rect) (u v : ℕ) → is_empty d ≡ false → contains d u v ≡ true → away d ≤ distance² px py u v
  unfolding away² Nearest
  away_least d u v s h = (Pixel.nearest d px py s).1 u v (holds h)

  -- the first of those at the least distance so far
  record Best (ds : List Rect) (d : Rect) : Type 0 where
    place : ℕ
    numbered : Numbered ds place d
    solid : is_empty d ≡ false
    least : All (λ e. away d ≤ away e) ds
    before : All (λ e. away d < away e) (take place ds)

  best_one : (d : Rect) → is_empty d ≡ false → Best (d ∷ []) d
  best_one d s = record { place = 0; numbered = record { low = omega arith; here = refl }; solid = s; least = (le_refl _, tt); before = tt }

  best_more : (ds : List Rect) (d e : Rect) → Best ds d → is_empty e ≡ false → Best (ds ++ (e ∷ [])) (cond (nearer e d px py) e d)
  best_more ds d e b s = go (nearer e d px py) refl
    where
      go : (t : Bool) → nearer e d px py ≡ t → Best (ds ++ (e ∷ [])) (cond t e d)
      go true q =
          let l : away e < away d = ltb-true _ _ q in
          record {
            place = length ds;
            numbered = record { low = omega (arith, length-append ds (e ∷ [])); here = get_or-append_seam ds e [] _ };
            solid = s;
            least = all_append _ ds (e ∷ []) (all_imp _ _ (λ x h. omega arith) ds b.least) (le_refl _, tt);
            before = rw (take-append_seam ds (e ∷ [])) (all_imp _ _ (λ x h. omega arith) ds b.least);
          }
      go false q =
          record {
            place = b.place;
            numbered = record { low = omega (arith, b.numbered.low, length-append ds (e ∷ [])); here = get_or-append ds (e ∷ []) _ b.place b.numbered.low ∙ b.numbered.here };
            solid = b.solid;
            least = all_append _ ds (e ∷ []) b.least (ltb-false _ _ q, tt);
            before = rw (take-append-le b.place ds (e ∷ []) (omega (arith, b.numbered.low))) b.before;
          }

  best_of : (seen ds : List Rect) (d : Rect) → Best seen d → have_pixels ds ≡ true → Best (seen ++ ds) (closest_of d ds px py)
  unfolding closest_of
  best_of seen [] d b h = rw append-nil b
  best_of seen (e ∷ ds) d b h =
      rw (← append_assoc seen (e ∷ []) ds)
      (best_of (seen ++ (e ∷ [])) ds _ (best_more seen d e b (not-true _ (fst (not (is_empty e)) _ h))) (snd (not (is_empty e)) _ h))

  -- no pixel of displays that are no nearer is nearer
  reach : (n : ℕ) (ds : List Rect) (u v : ℕ) → have_pixels ds ≡ true → All (λ e. n ≤ away e) ds → any_has ds u v ≡ true → n ≤ distance² px py u v
  reach n [] u v p l h = clash h refl
  reach n (e ∷ ds) u v p l h =
      or_cases (contains e u v) (any_has ds u v) h
      (λ k. omega (arith, l.0, away_least e u v (not-true _ (fst (not (is_empty e)) _ p)) k))
      (reach n ds u v (snd (not (is_empty e)) _ p) l.1)

  front_pixels : (n : ℕ) (ds : List Rect) → have_pixels ds ≡ true → have_pixels (take n ds) ≡ true
  front_pixels zero ds p = refl
  front_pixels (suc n) [] p = refl
  front_pixels (suc n) (e ∷ ds) p = both (fst (not (is_empty e)) _ p) (front_pixels n ds (snd (not (is_empty e)) _ p))

  best_nearest : (ds : List Rect) (d : Rect) → have_pixels ds ≡ true → Best ds d → HoldsNearest ds px py d
  unfolding away² Nearest
  best_nearest ds d p b =
      record {
        place = b.place;
        numbered = b.numbered;
        x = nearest_x d px;
        y = nearest_y d py;
        holds = (Pixel.nearest d px py b.solid).0;
        nearest = λ u v h. reach (away d) ds u v p b.least (is_true h);
        first = λ u v h. reach (suc (away d)) (take b.place ds) u v (front_pixels b.place ds p) b.before (is_true h);
      }

  nearest_one : (ds : List Rect) (d e : Rect) → HoldsNearest ds px py d → HoldsNearest ds px py e → d ≡ e
  nearest_one ds d e f g =
      sooner f.place g.place (λ l. absurd (earlier d e f g l)) (λ q. sym f.numbered.here ∙ rw q g.numbered.here)
      (λ l. absurd (earlier e d g f l))
    where
      -- the one that comes first has a pixel nearer than the nearest
      earlier : (d e : Rect) (f : HoldsNearest ds px py d) (g : HoldsNearest ds px py e) → f.place < g.place → ⊥
      earlier d e f g l =
          let a = g.first f.x f.y (holds (among ds _ _ d f.x f.y f.numbered l (is_true f.holds))) in
          let b = f.nearest g.x g.y (holds (among_all ds _ e g.x g.y g.numbered (is_true g.holds))) in
          omega (arith, a, b)

  -- The answer -------------------------------------------------------------------------------------------------------

  closest_is : (ds : List Rect) → have_pixels ds ≡ true → ClosestIs ds px py (closest_to ds px py)
  closest_is [] p = refl
  closest_is (d ∷ ds) p =
      best_nearest (d ∷ ds) (closest_of d ds px py) p
      (best_of (d ∷ []) ds d (best_one d (not-true _ (fst (not (is_empty d)) _ p))) (snd (not (is_empty d)) _ p))

  closest_one : (ds : List Rect) (d e : Rect) → ClosestIs ds px py d → ClosestIs ds px py e → d ≡ e
  closest_one [] d e f g = f ∙ sym g
  closest_one (c ∷ ds) d e f g = nearest_one (c ∷ ds) d e f g

  answer_is : (ds : List Rect) → have_pixels ds ≡ true → Answers ds px py (display_for ds px py)
  unfolding display_for
  answer_is ds p = go (first_on ds px py) refl
    where
      go : (o : Option Rect) → first_on ds px py ≡ o → Answers ds px py (on_or o (closest_to ds px py))
      go none e = (on_none ds e, closest_is ds p)
      go (some d) e = first_on_lem ds d e

  answer_one : (ds : List Rect) (a b : Located) → Answers ds px py a → Answers ds px py b → a ≡ b
  answer_one ds (on d) (on e) f g = ap on (first_one ds d e f g)
  answer_one ds (on d) (closest e) f g = clash (first_has ds d f) g.0
  answer_one ds (closest d) (on e) f g = clash (first_has ds e g) f.0
  answer_one ds (closest d) (closest e) f g = ap closest (closest_one ds d e f.1 g.1)

pub display_for_pos : DisplayForPos
unfolding DisplayForPos
display_for_pos ds px py p = (answer_is px py ds p, λ a h. answer_one px py ds a (display_for ds px py) h (answer_is px py ds p))

-- Its nearest pixel ----------------------------------------------------------------------------------------------------

first_found : (px py : ℕ) (ds : List Rect) (d : Rect) → FirstOn ds px py d → first_on ds px py ≡ some d
first_found px py ds d f = go (first_on ds px py) refl
  where
    go : (o : Option Rect) → first_on ds px py ≡ o → o ≡ some d
    go none e = clash (first_has px py ds d f) (on_none px py ds e)
    go (some c) e = ap some (first_one px py ds c d (first_on_lem px py ds c e) f)

-- the closest display is the first that contains the nearest pixel: all pixels of those before it are farther
pub nearest_first : (px py : ℕ) (ds : List Rect) → have_pixels ds ≡ true
    → answered (on_or (first_on ds (nearest_x (closest_to ds px py) px) (nearest_y (closest_to ds px py) py)) (rect 0 0 0 0)) ≡ closest_to ds px py
unfolding best_nearest
nearest_first px py [] p = refl
nearest_first px py (e ∷ ds) p =
    let d = closest_of e ds px py in
    let b = best_of px py (e ∷ []) ds e (best_one px py e (not-true _ (fst (not (is_empty e)) _ p))) (snd (not (is_empty e)) _ p) in
    let n = best_nearest px py (e ∷ ds) d p b in
    ap (λ (o : Option Rect). answered (on_or o (rect 0 0 0 0)))
    (first_found n.x n.y (e ∷ ds) d
    (record { place = n.place; numbered = n.numbered; has = n.holds; first = is_false (λ h. let l = n.first n.x n.y (holds h) in omega (arith, l)) }))

-- What holds of every display ----------------------------------------------------------------------------------------

-- and of (0,0,0,0) holds of the display answered
module _ (P : Rect → Type 0) (px py : ℕ) where
  closest_in : (best : Rect) (ds : List Rect) → P best → All P ds → P (closest_of best ds px py)
  unfolding closest_of
  closest_in best [] p h = p
  closest_in best (d ∷ ds) p h = closest_in (cond (nearer d best px py) d best) ds (on_cond P (nearer d best px py) d best (λ e. h.0) (λ e. p)) h.1

  to_in : (ds : List Rect) → P (rect 0 0 0 0) → All P ds → P (closest_to ds px py)
  to_in [] z h = z
  to_in (d ∷ ds) z h = closest_in d ds h.0 h.1

  first_in : (ds : List Rect) (r : Rect) → P r → All P ds → P (answered (on_or (first_on ds px py) r))
  first_in [] r p h = p
  first_in (d ∷ ds) r p h =
      on_cond (λ (o : Option Rect). P (answered (on_or o r))) (contains d px py) (some d) (first_on ds px py) (λ e. h.0) (λ e. first_in ds r p h.1)

  pub display_in : (ds : List Rect) → P (rect 0 0 0 0) → All P ds → P (answered (display_for ds px py))
  unfolding display_for
  display_in ds z h = first_in ds (closest_to ds px py) (to_in ds z h) h

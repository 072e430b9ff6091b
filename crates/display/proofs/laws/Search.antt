-- The two searches: of the displays that are left the first says what the rule says of them all, the second of those passed.
use Rattle.std.proofs.Common.{ℕ, ◌+◌, ◌≤◌, ◌<◌, ◌≡◌, refl, sym, ap, ◌∙◌, true, false, cond, ltb, List, [], ◌∷◌, ◌++◌, map, length, get_or, take, drop, arith, add-one, lt-ltb, le-ltb, mul-le-mul, take-suc, take_all}
use Rattle.std.proofs.lemmas.List.{map-append}
use Rattle.std.proofs.Math.Option.{none, some}
use Rattle.std.proofs.lemmas.List.{at_drop_more, at_drop_all}
use Rattle.geom.specs.declared.Rect.{Rect}
use Rattle.geom.specs.declared.inner.rect16.Rect16.{Rect16}
use Rattle.geom.specs.Geom.{contains}
use Rattle.geom.specs.Nearest.{nearest_x, nearest_y, apart}
use Rattle.geom.specs.Displays.{first_on, away², closest_of, closest_to}
use Rattle.geom.specs.Rect16.{rect_of, no_rect16}
use Rattle.display.specs.Represents.{OnScreen}

-- The first that contains the position ---------------------------------------------------------------------------------

-- none of the first i does
pub record Passed (l : List Rect16) (px py i : ℕ) : Type 0 where
  pub so_far : first_on (map rect_of l) px py ≡ first_on (map rect_of (drop i l)) px py

module _ {l : List Rect16} {px py i : ℕ} (q : Passed l px py i) where
  next : i < length l → first_on (map rect_of l) px py
      ≡ cond (contains (rect_of (get_or l i no_rect16)) px py) (some (rect_of (get_or l i no_rect16))) (first_on (map rect_of (drop (i + 1) l)) px py)
  next h = q.so_far ∙ at_drop_more (λ m. first_on (map rect_of m) px py) l i no_rect16 h

  pub hit : i < length l → contains (rect_of (get_or l i no_rect16)) px py ≡ true → some (rect_of (get_or l i no_rect16)) ≡ first_on (map rect_of l) px py
  hit h e = sym (rw (next h, e) refl)

  pub miss : i < length l → contains (rect_of (get_or l i no_rect16)) px py ≡ false → Passed l px py (i + 1)
  miss h e = record { so_far = rw (next h, e) refl }

  pub gone : length l ≤ i → none ≡ first_on (map rect_of l) px py
  gone h = sym (q.so_far ∙ at_drop_all (λ m. first_on (map rect_of m) px py) l i h)

-- The closest ---------------------------------------------------------------------------------------------------------

-- how far the closest of some displays is; where there is none, farther than any
abbrev pub far : List Rect → ℕ → ℕ → ℕ
far [] px py = 18446744073709551615
far (d ∷ ds) px py = away² (closest_of d ds px py) px py

-- any display is nearer than that
pub near_enough : (d : Rect) (px py : ℕ) → OnScreen d → px ≤ 32767 → py ≤ 32767 → away² d px py < 18446744073709551615
unfolding away²
near_enough d px py h l k =
    let a : apart px (nearest_x d px) ≤ 32767 = omega arith in
    let b : apart py (nearest_y d py) ≤ 32767 = omega arith in
    omega (arith, mul-le-mul a a, mul-le-mul b b)

module _ (px py : ℕ) where
  of_one_more : (best : Rect) (ds : List Rect) (d : Rect)
      → closest_of best (ds ++ (d ∷ [])) px py ≡ cond (ltb (away² d px py) (away² (closest_of best ds px py) px py)) d (closest_of best ds px py)
  unfolding closest_of
  of_one_more best [] d = refl
  of_one_more best (e ∷ ds) d = of_one_more (cond (ltb (away² e px py) (away² best px py)) e best) ds d

  -- one display more: it is the closest where it is nearer
  closer : (ds : List Rect) (d : Rect) → away² d px py < far ds px py
      → (closest_to (ds ++ (d ∷ [])) px py ≡ d) × (far (ds ++ (d ∷ [])) px py ≡ away² d px py)
  unfolding closest_of
  closer [] d l = (refl, refl)
  closer (e ∷ ds) d l =
      let same : closest_of e (ds ++ (d ∷ [])) px py ≡ d = of_one_more e ds d ∙ rw (lt-ltb _ _ l) refl in
      (same, ap (λ (r : Rect). away² r px py) same)

  -- and changes nothing where it is not
  farther : (ds : List Rect) (d : Rect) → away² d px py < 18446744073709551615 → far ds px py ≤ away² d px py
      → (closest_to (ds ++ (d ∷ [])) px py ≡ closest_to ds px py) × (far (ds ++ (d ∷ [])) px py ≡ far ds px py)
  farther [] d s l = absurd (omega arith)
  farther (e ∷ ds) d s l =
      let same : closest_of e (ds ++ (d ∷ [])) px py ≡ closest_of e ds px py = of_one_more e ds d ∙ rw (le-ltb _ _ l) refl in
      (same, ap (λ (r : Rect). away² r px py) same)

-- the closest of the first i displays, and how far it is
pub record Nearing (l : List Rect16) (px py dist : ℕ) (near : Rect) (i : ℕ) : Type 0 where
  pub dist_is : dist ≡ far (map rect_of (take i l)) px py
  pub near_is : near ≡ closest_to (map rect_of (take i l)) px py

module _ {l : List Rect16} {px py dist i : ℕ} {near : Rect} (q : Nearing l px py dist near i) where
  module _ (h : i < length l) (m : ℕ) (m_is : m ≡ away² (rect_of (get_or l i no_rect16)) px py) where
    seen : map rect_of (take (i + 1) l) ≡ map rect_of (take i l) ++ (rect_of (get_or l i no_rect16) ∷ [])
    seen = rw add-one (ap (map rect_of) (take-suc l i no_rect16 h) ∙ map-append rect_of (take i l) (get_or l i no_rect16 ∷ []))

    pub is_nearer : m < dist → Nearing l px py m (rect_of (get_or l i no_rect16)) (i + 1)
    is_nearer k =
        let (a, b) = closer px py (map rect_of (take i l)) (rect_of (get_or l i no_rect16)) (omega (arith, m_is, q.dist_is, k)) in
        record { dist_is = rw seen (m_is ∙ sym b); near_is = rw seen (sym a) }

    pub not_nearer : away² (rect_of (get_or l i no_rect16)) px py < 18446744073709551615 → dist ≤ m → Nearing l px py dist near (i + 1)
    not_nearer fits k =
        let (a, b) = farther px py (map rect_of (take i l)) (rect_of (get_or l i no_rect16)) fits (omega (arith, m_is, q.dist_is, k)) in
        record { dist_is = rw seen (q.dist_is ∙ sym b); near_is = rw seen (q.near_is ∙ sym a) }

  pub at_end : length l ≤ i → near ≡ closest_to (map rect_of l) px py
  at_end h = q.near_is ∙ ap (λ (m : List Rect16). closest_to (map rect_of m) px py) (take_all i l h)

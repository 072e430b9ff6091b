-- What is stale: each window has the regions that the code lends, those of the course have all that would be written,
-- and the sides that were found are those of the smallest rectangle.
use Prim.Native.Nat.{ℕ, suc, ◌+◌, ◌-◌, ◌≤◌, ◌<◌}
use mathlib.Core.Path.{◌≡◌, refl, sym, ap, subst, ◌∙◌}
use mathlib.Core.Bool.{Bool, true, false, cond, not, ◌&&◌, ◌||◌, and-false, or-false, or_assoc}
use mathlib.Core.Logic.{⊎_elim}
use mathlib.Core.List.{List, [], ◌∷◌, ◌++◌, map, map-append}
use mathlib.Core.Option.{Option, none, some}
use native.Mathlib.Omega.{arith}
use lib.Dec.{leb, ltb, eqb, eqb-suc-zero}
use lib.ListN.{length, get_or, take, drop, length-drop}
use lib.Seq.{take_all, take-suc}
use Rattle.std.proofs.lemmas.List.{get_or-drop}
use Rattle.std.specs.Prelude.{Err}
use Rattle.geom.specs.declared.refusal.Refusal.{Refusal}
use Rattle.geom.specs.declared.refusal.Refusal.TheVariants.{TooLarge}
use Rattle.geom.specs.Refusals.{number}
use Rattle.geom.specs.Questions.{◌is◌, asked}
use borrow.Author.Tests.{ltb-true, ltb-false, leb-true, le-leb, eq-eqb}
use Rattle.geom.specs.declared.Rect.{Rect}
use Rattle.geom.specs.Geom.{rect, small_rect, contains, meets}
use Rattle.geom.specs.inner.Fits.{Fits}
use Rattle.geom.specs.Lists.{outside_all, meets_of, list_intersect, any_has}
use Rattle.geom.specs.Rect16.{Small, rect_of}
use Rattle.geom.proofs.basics.Tests.{is_false, clash, fst, snd, on_cond}
use Rattle.geom.proofs.geometry.Cover.{any_has_append}
use Rattle.geom.proofs.geometry.Facts.{says_in, says_meet}
use Rattle.geom.proofs.geometry.Pieces.{left_within}
use Rattle.window.specs.declared.Window.{Window}
use Rattle.window.specs.declared.ids.WinId.{WinId}
use Rattle.window.specs.Window.{Win}
use Rattle.window.specs.Represents.{rects}
use Rattle.window.specs.inner.Ids.{no_id}
use Rattle.rules.specs.Group.{Group, win}
use Rattle.rules.specs.Redraw.{none?, onto, hit}
use Rattle.rules.specs.Stale.{goes_through, in_full, is_stale, smallest, Smallest, IsSmallest, can_be_meant, stale}
use Rattle.rules.specs.Visible.{visible}
use Rattle.rules.specs.Walk.{begun, hit_any}
use Rattle.rules.specs.inner.Lent.{AllFit}
use Rattle.rules.proofs.demand.Smallest.{smallest_is, smallest_unique}
use Rattle.order.specs.declared.rects.Rects.{Rects}
use Rattle.order.specs.inner.Rects.{Holds, full_rect, dirty_of}
use Rattle.windows.proofs.laws.Drawn.{fit_drop, rest_is}
use Rattle.order.proofs.laws.Order.{drop_map}
use Rattle.visible.specs.declared.extents.Extents.{Extents}
use Rattle.visible.specs.inner.Extents.{nothing, Spans, Joins}
use Rattle.visible.proofs.laws.Extents.{spans_none, spans_same, joins_same}
use Rattle.windows.specs.declared.Session.{Session}
use Rattle.windows.specs.declared.stale_rect.Course.{Course}
use Rattle.windows.specs.View.{walk_of, group, window_at, Given, stale_in, stale_of}
use Rattle.windows.specs.inner.Stale.{between, course_of, seen, written, written_in, found_by}
use Rattle.windows.proofs.laws.Refused.{before}
use Rattle.windows.proofs.laws.Places.{order_length, id_at, shown_at, win_there, above_there}
use Rattle.windows.proofs.laws.Above.{higher}
use Rattle.windows.proofs.laws.Above.{visible_is}
use Rattle.windows.proofs.laws.Full.{cut_whole, parts_fit}
use Rattle.windows.proofs.laws.Portions.{place_low, walk_is}

-- One window ------------------------------------------------------------------------------------------------------------

module _ (at : Rect) (px py : ℕ) where
  abbrev has : List Rect → Bool
  has rs = any_has (map (onto at) rs) px py

  -- a region cut to the full rectangle; one that misses it has no pixel
  cut_has : (r : Rect) → Fits r → has (meets_of r (full_rect ∷ [])) ≡ contains (onto at r) px py
  unfolding meets_of
  cut_has r f = go (meets r full_rect) refl
    where
      go : (t : Bool) → meets r full_rect ≡ t → has (meets_of r (full_rect ∷ [])) ≡ contains (onto at r) px py
      go true e = rw e (or-false _ ∙ ap (λ (q : Rect). contains (onto at q) px py) (cut_whole r f))
      go false e =
          rw e
          (sym (is_false (λ k. let m = (says_in (onto at r) px py).fact k in clash ((says_meet r full_rect).test (omega arith)) e)))

  full_has : (vs : List Rect) → AllFit vs → has (list_intersect vs (full_rect ∷ [])) ≡ has vs
  unfolding list_intersect AllFit
  full_has [] h = refl
  full_has (r ∷ vs) h =
      ap (λ (rs : List Rect). any_has rs px py) (map-append (onto at) (meets_of r (full_rect ∷ [])) (list_intersect vs (full_rect ∷ [])))
      ∙ any_has_append (map (onto at) (meets_of r (full_rect ∷ []))) (map (onto at) (list_intersect vs (full_rect ∷ []))) px py
      ∙ ap (λ (t : Bool). t || has (list_intersect vs (full_rect ∷ []))) (cut_has r h.0)
      ∙ ap (λ (t : Bool). contains (onto at r) px py || t) (full_has vs h.1)

  -- the full rectangle leaves all that is seen
  whole_has : Small at → (above : List Rect) → has (list_intersect (seen at above) (full_rect ∷ [])) ≡ has (seen at above)
  whole_has s above = full_has (seen at above) (parts_fit at (outside_all (at ∷ []) above) s (left_within at above))

-- what joins of a window at `at`: these regions of it, inside an area
abbrev pub Parts : Rect → Rect → List Rect → Extents → Extents → Type 0
Parts at area rs e r = Joins (λ px py. contains area px py && any_has (map (onto at) rs) px py) e r

-- the entries that a redraw takes for dirty were lent
pub written_joins : (at area : Rect) (above : List Rect) (e r : Extents) → Small at → (full : Bool) (damage : List Rect) {ds : List Rect}
    → ds ≡ dirty_of full damage → Parts at area (list_intersect (seen at above) ds) e r → Parts at area (written at damage full above) e r
written_joins at area above e r s full damage same j = go (full || none? damage) (subst (λ (d : List Rect). Parts at area (list_intersect (seen at above) d) e r) same j)
  where
    go : (t : Bool) → Parts at area (list_intersect (seen at above) (cond t (full_rect ∷ []) damage)) e r
        → Parts at area (cond t (seen at above) (list_intersect (seen at above) damage)) e r
    go true j = joins_same (λ px py. ap (λ (t : Bool). contains area px py && t) (whole_has at px py s above)) j
    go false j = j

-- a window under some rectangles, if it is drawn
module _ (area : Rect) (full : Bool) (w : Window) (above : List Rect) where
  pub undrawn : {e : Extents} → full || w.marked ≡ false → Joins (written_in area full w above) e e
  undrawn n =
      record {
        spans = λ p q.
            spans_same
            (λ px py.
            sym (ap (λ (t : Bool). p px py || (contains area px py && (t && any_has (map (onto (rect_of w.at)) (written (rect_of w.at) (rects w.damage) full above)) px py))) n
            ∙ ap (λ (t : Bool). p px py || t) (and-false (contains area px py)) ∙ or-false (p px py))) q;
      }

  pub drawn : {e r : Extents} → full || w.marked ≡ true → Small (rect_of w.at) → {ds : List Rect} → ds ≡ dirty_of full (rects w.damage)
      → Parts (rect_of w.at) area (list_intersect (seen (rect_of w.at) above) ds) e r → Joins (written_in area full w above) e r
  drawn {e} {r} y small dirty j =
      joins_same
      (λ px py. ap (λ (t : Bool). contains area px py && (t && any_has (map (onto (rect_of w.at)) (written (rect_of w.at) (rects w.damage) full above)) px py)) (sym y))
      (written_joins (rect_of w.at) area above e r small full (rects w.damage) dirty j)

-- the id v was read at place i of a session: what the rule writes of its window
hit_at : (s : Session) (h : Given s) (i : ℕ) (l : i < s.shared.shown) (v : WinId) → v ≡ get_or s.shared.order i no_id → (full : Bool) (px py : ℕ)
    → let w = window_at s v.0 in hit (group s) full v.0 px py
    ≡ (full || w.marked) && any_has (map (onto (rect_of w.at)) (written (rect_of w.at) (rects w.damage) full (higher s (suc i)))) px py
hit_at s h i l v read full px py =
    let e : visible (group s) v.0 ≡ seen (rect_of (window_at s v.0).at) (higher s (suc i)) =
    visible_is (group s) v.0 (rect_of (window_at s v.0).at) (higher s (suc i)) (shown_at s h i l v read) (ap (λ (w : Win). w.at) (win_there s h i l v read))
    (ap (map (λ j. (win (group s) j).at)) (above_there s h i l v read)) in
    rw (e, win_there s h i l v read) refl

-- The windows of a course -----------------------------------------------------------------------------------------------

split : (c u v : Bool) → (c && u) || (c && v) ≡ c && (u || v)
split true u v = refl
split false u v = refl

any_append : (g : Group) (full : Bool) (os rest : List ℕ) (px py : ℕ)
    → hit_any g full (os ++ rest) px py ≡ hit_any g full os px py || hit_any g full rest px py
any_append g full [] rest px py = refl
any_append g full (i ∷ os) rest px py =
    ap (λ (t : Bool). hit g full i px py || t) (any_append g full os rest px py) ∙ sym (or_assoc (hit g full i px py) _ _)

-- the extents of what would be written of the windows from place a on to before p, inside the area
abbrev pub Joining : Session → Bool → Rect → ℕ → ℕ → Extents → Type 0
Joining s full area a p e = Spans (λ px py. contains area px py && hit_any (group s) full (between a p (group s).order) px py) e

module _ (s : Session) (h : Given s) (full : Bool) (area : Rect) (a : ℕ) where
  abbrev os : ℕ → List ℕ
  os p = between a p (group s).order

  pub join_none : {e : Extents} → e ≡ nothing → Joining s full area a a e
  join_none n =
      let z : a - a ≡ 0 = omega arith in
      spans_same
      (λ px py. sym (ap (λ (k : ℕ). contains area px py && hit_any (group s) full (take k (drop a (group s).order)) px py) z ∙ and-false (contains area px py)))
      (spans_none n)

  -- one window more
  module _ (p : ℕ) (from : a ≤ p) (l : p < s.shared.shown) where
    abbrev v : WinId
    v = get_or s.shared.order p no_id

    abbrev w : Window
    w = window_at s v.0

    more : os (p + 1) ≡ os p ++ (v.0 ∷ [])
    more =
        let n : p + 1 - a ≡ suc (p - a) = omega (arith, from) in
        let there : a + (p - a) ≡ p = omega (arith, from) in
        ap (λ (k : ℕ). take k (drop a (group s).order)) n
        ∙ take-suc (drop a (group s).order) (p - a) 0 (omega (arith, from, length-drop a (group s).order, order_length s h))
        ∙ ap (λ (i : ℕ). os p ++ (i ∷ []))
        (get_or-drop a (group s).order (p - a) 0 ∙ ap (λ (k : ℕ). get_or (group s).order k 0) there ∙ id_at s h p l v refl)

    any_more : (px py : ℕ) → hit_any (group s) full (os (p + 1)) px py ≡ hit_any (group s) full (os p) px py || hit (group s) full v.0 px py
    any_more px py =
        ap (λ (o : List ℕ). hit_any (group s) full o px py) more
        ∙ any_append (group s) full (os p) (v.0 ∷ []) px py
        ∙ ap (λ (t : Bool). hit_any (group s) full (os p) px py || t) (or-false (hit (group s) full v.0 px py))

    -- what would be written of it joins
    pub joined : {e r : Extents} {above : List Rect} → above ≡ higher s (suc p) → Joins (written_in area full w above) e r
        → Joining s full area a p e → Joining s full area a (p + 1) r
    joined {e} {r} {above} over j q =
        spans_same
        (λ px py.
        let c = contains area px py in
        ap (λ (t : Bool). (c && hit_any (group s) full (os p) px py) || t)
        (ap (λ (bs : List Rect). written_in area full w bs px py) over ∙ ap (λ (t : Bool). c && t) (sym (hit_at s h p l v refl full px py)))
        ∙ split c (hit_any (group s) full (os p) px py) (hit (group s) full v.0 px py)
        ∙ ap (λ (t : Bool). c && t) (sym (any_more px py)))
        (j.spans (λ px py. contains area px py && hit_any (group s) full (os p) px py) q)

    -- of the rectangles of all shown windows, those behind its own are lent
    module _ {all : Rects} (held : Holds all (higher s 0)) where
      pub lent_over : take (s.shared.shown - (p + 1)) (drop (p + 1) all.rects) ≡ higher s (suc p)
      lent_over = rest_is s h p l v refl held

      pub lent_there : AllFit (take (s.shared.shown - (p + 1)) (drop (p + 1) all.rects)) × (length (take (s.shared.shown - (p + 1)) (drop (p + 1) all.rects)) ≤ 16)
      lent_there =
          let over = lent_over ∙ sym (drop_map (suc p) (λ j. (win (group s) j).at) (group s).order) in (
            subst AllFit (sym over) (fit_drop (suc p) (higher s 0) held.fit),
            omega (arith, ap length over, length-drop (suc p) (higher s 0), held.few),
          )

-- The call --------------------------------------------------------------------------------------------------------------

-- extents of pixels have rows where they have columns
pub solid : {t : ℕ → ℕ → Bool} {e : Extents} → Spans t e → e.left < e.right → e.top < e.bottom
solid {t} {e} q l =
    ⊎_elim (λ n. absurd (omega (arith, ap (λ (d : Extents). d.left) n, ap (λ (d : Extents). d.right) n)))
    (λ k. let i = q.holds e.left k.west.0 k.west.1 in omega (arith, i.north, i.south)) q.tight

-- they are the sides of the smallest rectangle
found_smallest : {t : ℕ → ℕ → Bool} {e : Extents} → Spans t e → IsSmallest t (found_by e).rect
found_smallest {t} {e} q = on_cond (IsSmallest t) (ltb e.left e.right) _ none some_pixel no_pixel
  where
    some_pixel : ltb e.left e.right ≡ true → Smallest t (rect e.left e.top (e.right - e.left) (e.bottom - e.top))
    some_pixel c =
        let l : e.left < e.right = ltb-true e.left e.right c in
        let b : e.top < e.bottom = solid q l in
        let x : e.left + (e.right - e.left) - 1 ≡ e.right - 1 = omega arith in
        let y : e.top + (e.bottom - e.top) - 1 ≡ e.bottom - 1 = omega arith in
        ⊎_elim (λ n. absurd (omega (arith, l, ap (λ (d : Extents). d.left) n, ap (λ (d : Extents). d.right) n)))
        (λ k.
        record {
          holds = λ px py h. let i = q.holds px py h in (says_in (rect e.left e.top (e.right - e.left) (e.bottom - e.top)) px py).test (omega (arith, i.west, i.east, i.north, i.south));
          west = k.west;
          north = k.north;
          east = rw x k.east;
          south = rw y k.south;
        }) q.tight

    no_pixel : ltb e.left e.right ≡ false → (px py : ℕ) → t px py ≡ false
    no_pixel c px py =
        is_false (λ h. let i = q.holds px py h in let n = ltb-false e.left e.right c in omega (arith, i.west, i.east))

-- question 5 as a fact
pub small_area : (area : Rect) → small_rect area ≡ true → Small area
small_area area e = search (fst, snd, leb-true)

-- a walk is on
pub begun_is : (s : Session) → begun (group s).walk ≡ s.shared.due.walk.on
unfolding group walk_of
begun_is s = go s.shared.due.walk.on
  where
    go : (on : Bool) → begun (cond on (some (record { done = s.shared.due.walk.next.0; full = s.shared.due.walk.full })) none) ≡ on
    go true = refl
    go false = refl

module _ (s : Session) (h : Given s) (which : ℕ) where
  abbrev course : Course
  course = course_of s.shared.due s.shared.shown which

  -- question 20, as the code asks it
  pub meant_is : can_be_meant (group s) which ≡ not (eqb which 2) || s.shared.due.walk.on
  meant_is = ap (λ (t : Bool). not (eqb which 2) || t) (begun_is s)

  -- the next portion is meant, and has a window
  pub on_portion : which ≤ 2 → can_be_meant (group s) which ≡ true → ltb which 2 ≡ false → s.shared.due.walk.on ≡ true
  on_portion l m n =
      let e : which ≡ 2 = let k = ltb-false which 2 n in omega arith in
      sym (begun_is s) ∙ (rw (eq-eqb which 2 e) at m)

  module _ (l : which ≤ 2) (m : can_be_meant (group s) which ≡ true) where
    pub next_low : ltb which 2 ≡ false → s.shared.due.walk.next.0 < s.shared.shown
    next_low n = place_low s h (on_portion l m n)

    pub course_low : (course.from ≤ course.to) × (course.to ≤ s.shared.shown)
    course_low =
        on_cond (λ (c : Course). (c.from ≤ c.to) × (c.to ≤ s.shared.shown)) (ltb which 2) _ _ (λ e. (omega arith, omega arith))
        (λ n. (omega arith, omega (arith, next_low n)))

    pub goes : (between course.from course.to (group s).order ≡ goes_through (group s) which) × (course.full ≡ in_full (group s) which)
    unfolding group
    goes = go (ltb which 2) refl
      where
        go : (t : Bool) → ltb which 2 ≡ t
            → (between course.from course.to (group s).order ≡ goes_through (group s) which) × (course.full ≡ in_full (group s) which)
        go true e = rw e (take_all (s.shared.shown - 0) (group s).order (omega (arith, order_length s h)), refl)
        go false e =
            let on = on_portion l m e in
            let k : s.shared.due.walk.next.0 + 1 - s.shared.due.walk.next.0 ≡ 1 = omega arith in
            rw (e, walk_is s h on, k) (refl, refl)

    pub is_stale_lem : (area : Rect) → small_rect area ≡ true → (e : Extents)
        → Spans (λ px py. contains area px py && hit_any (group s) course.full (between course.from course.to (group s).order) px py) e
        → stale_of (found_by e) ≡ stale_of (stale (group s) which area)
    unfolding stale
    is_stale_lem area sm e q =
        let t = is_stale (group s) which area in
        let r : Spans t e = spans_same (λ px py. λ i. contains area px py && hit_any (group s) (goes.1 i) (goes.0 i) px py) q in
        let u : (found_by e).rect ≡ smallest t area =
        smallest_unique t (found_by e).rect (smallest t area) (found_smallest r) (smallest_is t area (λ px py. fst (contains area px py) _)) in
        ap (λ (o : Option Rect). stale_of (record { answer = 0; rect = o })) u ∙ sym (rw (sm, le-leb which 2 l, m) refl)

-- a call that is refused: question 5, or one of the others where the area passed
pub too_large : (g : Group) (which : ℕ) (area : Rect) → small_rect area ≡ false → stale_in (Err TooLarge) ≡ stale_of (stale g which area)
unfolding stale
too_large g which area e = rw e refl

module _ (s : Session) (h : Given s) (which : ℕ) (area : Rect) where
  pub not_meant : (refusal : Refusal) → small_rect area ≡ true
      → asked ((28 is leb which 2) ∷ (20 is (not (eqb which 2) || s.shared.due.walk.on)) ∷ []) ≡ number refusal
      → stale_in (Err refusal) ≡ stale_of (stale (group s) which area)
  unfolding stale
  not_meant refusal e n =
      let k = before refusal in
      let a : asked ((5 is small_rect area) ∷ (28 is leb which 2) ∷ (20 is can_be_meant (group s) which) ∷ []) ≡ number refusal =
      ap (λ (t : Bool). asked ((5 is t) ∷ (28 is leb which 2) ∷ (20 is can_be_meant (group s) which) ∷ [])) e
      ∙ ap (λ (t : Bool). asked ((28 is leb which 2) ∷ (20 is t) ∷ [])) (meant_is s h which) ∙ n in
      let no : eqb (asked ((5 is small_rect area) ∷ (28 is leb which 2) ∷ (20 is can_be_meant (group s) which) ∷ [])) 0 ≡ false =
      ap (λ (j : ℕ). eqb j 0) (a ∙ k.1) ∙ eqb-suc-zero k.0 in
      sym
      ((λ i. stale_of (record { answer = a i; rect = cond (no i) (smallest (is_stale (group s) which area) area) none })))

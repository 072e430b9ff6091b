-- What code that drags a window needs of the rules: a drag by its cases, and what each window is after it, by number:
-- the dragged one, one below it that it uncovered, or another.
use Prim.Native.Nat.{ℕ, suc, ◌<◌}
use mathlib.Core.Path.{◌≡◌, refl, sym, ap, ◌∙◌}
use mathlib.Core.Bool.{Bool, true, false, cond, not, ◌&&◌, ◌||◌}
use mathlib.Core.List.{List, [], ◌∷◌}
use mathlib.Core.Option.{Option, none, some}
use mathlib.Core.Logic.{◌≢◌}
use native.Mathlib.Omega.{arith}
use lib.Dec.{leb, ltb, eqb, leb-suc-zero, leb-suc-suc}
use lib.ListN.{length, take, length-set}
use lib.Seq.{set-set, get_or-set_same, get_or-set_other, ext_get_or}
use borrow.Author.Tests.{lt-leb, lt-ltb, le-ltb, eqb-true, eqb-false, eq-eqb, ne_eqb}
use Rattle.geom.specs.declared.Rect.{Rect}
use Rattle.geom.specs.Geom.{meets}
use Rattle.geom.proofs.basics.Tests.{clash, is_false, on_cond, cond_yes, cond_no, or_left, or_right, or_cases}
use Rattle.window.specs.Window.{Win}
use Rattle.rules.specs.Group.{Group, Walk, win_at, win, used, some_win, the_win, with_windows, set_win, set_maximised, moved_to, moved, note, is_over, sent_back, owing}
use Rattle.rules.specs.Order.{is_in, place_of, shown}
use Rattle.rules.specs.Displays.{each_by_id}
use Rattle.rules.specs.Repair.{pending, repaired_in, wholly_repaired}
use Rattle.rules.specs.Drag.{below, uncovered_area, uncovered, uncovered_all, dragged}
use Rattle.rules.proofs.group.Order.{Distinct, is_in_here}
use Rattle.rules.proofs.group.Invariant.{Ok, used_below, used_set}
use Rattle.rules.proofs.group.Displays.{length_each, each_at}

-- A debt -------------------------------------------------------------------------------------------------------------

-- with a shown window no walk that is sent back is over
back_not_over : (o : List ℕ) (v : Option Walk) → 0 < length o
    → (true && not (is_over o (sent_back v)) ≡ true) × (cond (is_over o (sent_back v)) none (sent_back v) ≡ sent_back v)
back_not_over o none l = (refl, refl)
back_not_over o (some v) l = let e : leb (length o) 0 ≡ false = lt-leb (length o) 0 l in (rw e, rw e)

pub owing_is : (g : Group) → 0 < length g.order → owing g ≡ note true (sent_back g.walk) g
owing_is g l = let q = back_not_over g.order g.walk l in λ i. note (q.0 i) (q.1 i) g

back_twice : (v : Option Walk) → sent_back (sent_back v) ≡ sent_back v
back_twice none = refl
back_twice (some v) = refl

-- a second debt changes nothing
pub owing_twice : (g : Group) → 0 < length g.order → owing (owing g) ≡ owing g
owing_twice g l =
    ap owing (owing_is g l)
    ∙ owing_is (note true (sent_back g.walk) g) l
    ∙ ap (λ (v : Option Walk). note true v g) (back_twice g.walk)
    ∙ sym (owing_is g l)

pub owing_pending : (g : Group) → 0 < length g.order → pending (owing g) ≡ true
owing_pending g l = ap pending (owing_is g l)

uncovered_owing : (old : Rect) (os : List ℕ) (g : Group) → 0 < length g.order → uncovered_all old os (owing g) ≡ owing g
uncovered_owing old [] g l = refl
uncovered_owing old (i ∷ os) g l = ap (uncovered_all old os) same ∙ uncovered_owing old os g l
  where
    same : uncovered old i (owing g) ≡ owing g
    same =
        on_cond (λ (x : Group). x ≡ owing g) (meets (win g i).at old) _ _
        (λ m. cond_yes (λ (x : Group). x ≡ owing g) (pending (owing g)) _ _ (owing_pending g l) (owing_twice g l)) (λ m. refl)

pub some_shown : (id : ℕ) (o : List ℕ) → is_in id o ≡ true → 0 < length o
some_shown id [] h = clash h refl
some_shown id (i ∷ o) h = omega arith

-- A drag by its cases ------------------------------------------------------------------------------------------------

-- the window, repaired where it is now
abbrev pub dragged_win : ℕ → ℕ → Win → Win
dragged_win x y w = wholly_repaired (moved_to x y w)

-- the group with it, and its flag cleared
abbrev pub dragged_to : ℕ → ℕ → ℕ → Group → Group
dragged_to id x y g = set_maximised id false (set_win id (some (dragged_win x y (win g id))) g)

module _ (id x y : ℕ) (g : Group) where
  -- of a hidden window it is a move that owes nothing
  pub drag_hidden : shown g id ≡ false → dragged id x y g ≡ moved id x y g
  drag_hidden s = rw s

  -- of a shown one it is a move where a full redraw is owed or a walk is on
  pub drag_owing : shown g id ≡ true → pending g ≡ true → dragged id x y g ≡ owing (moved id x y g)
  drag_owing s p =
      cond_yes (λ (z : Group). z ≡ owing (moved id x y g)) (shown g id) _ (moved id x y g) s
      (cond_yes (λ (z : Group). uncovered_all (win g id).at (below id g.order) z ≡ owing (moved id x y g)) (pending g) _ _ p
      (uncovered_owing (win g id).at (below id g.order) (moved id x y g) (some_shown id g.order s)))

  -- the window is set twice: at its new place, and repaired there
  moved_then : used g id ≡ true → set_win id (some (wholly_repaired (win (moved id x y g) id))) (moved id x y g) ≡ dragged_to id x y g
  moved_then u =
      let at : Win = moved_to x y (win g id) in
      let is : win (moved id x y g) id ≡ at = ap the_win (get_or-set_same g.windows id (some at) none (used_below g id u)) in
      ap (λ (w : Win). set_win id (some (wholly_repaired w)) (moved id x y g)) is
      ∙ ap (λ (ws : List (Option Win)). with_windows ws (set_maximised id false g)) (set-set g.windows id (some at) (some (wholly_repaired at)))

  -- and else the window is repaired at its new place, and then what it uncovered
  pub drag_now : used g id ≡ true → shown g id ≡ true → pending g ≡ false
      → dragged id x y g ≡ uncovered_all (win g id).at (below id g.order) (dragged_to id x y g)
  drag_now u s p =
      let all : Group → Group = uncovered_all (win g id).at (below id g.order) in
      cond_yes (λ (z : Group). z ≡ all (dragged_to id x y g)) (shown g id) _ (moved id x y g) s
      (cond_no (λ (z : Group). all z ≡ all (dragged_to id x y g)) (pending g) _ _ p (ap all (moved_then u)))

-- One window that was uncovered --------------------------------------------------------------------------------------

-- a lower window that meets the rectangle is set, and another stays
pub uncovered_met : (old : Rect) (i : ℕ) (g : Group) → pending g ≡ false → meets (win g i).at old ≡ true
    → uncovered old i g ≡ set_win i (some (repaired_in (uncovered_area old (win g i)) (win g i))) g
uncovered_met old i g p m = rw (m, p)

pub uncovered_unmet : (old : Rect) (i : ℕ) (g : Group) → meets (win g i).at old ≡ false → uncovered old i g ≡ g
uncovered_unmet old i g m = rw m

-- what becomes of a window by its own rectangle, and by whether it is one of those below
abbrev pub uncovered_win : Rect → Win → Win
uncovered_win old w = cond (meets w.at old) (repaired_in (uncovered_area old w) w) w

abbrev pub uncovered_if : Rect → Bool → Option Win → Option Win
uncovered_if old t none = none
uncovered_if old t (some w) = some (cond t (uncovered_win old w) w)

if_not : (old : Rect) (o : Option Win) → uncovered_if old false o ≡ o
if_not old none = refl
if_not old (some w) = refl

if_some : (old : Rect) (o : Option Win) → some_win o ≡ true → uncovered_if old true o ≡ some (uncovered_win old (the_win o))
if_some old none u = clash u refl
if_some old (some w) u = refl

is_some : (o : Option Win) → some_win o ≡ true → o ≡ some (the_win o)
is_some none u = clash u refl
is_some (some w) u = refl

-- it alone is set
module _ (old : Rect) (i : ℕ) (g : Group) (p : pending g ≡ false) where
  on_one : (P : Group → Type 0) → (meets (win g i).at old ≡ true → P (set_win i (some (repaired_in (uncovered_area old (win g i)) (win g i))) g))
      → (meets (win g i).at old ≡ false → P g) → P (uncovered old i g)
  on_one P f n = on_cond P (meets (win g i).at old) _ _ (λ m. cond_no P (pending g) _ _ p (f m)) n

  one_own : used g i ≡ true → win_at (uncovered old i g) i ≡ some (uncovered_win old (win g i))
  one_own u =
      on_one (λ x. win_at x i ≡ some (uncovered_win old (win g i)))
      (λ m. rw m (get_or-set_same g.windows i _ none (used_below g i u))) (λ m. rw m (is_some (win_at g i) u))

  one_other : (j : ℕ) → j ≢ i → win_at (uncovered old i g) j ≡ win_at g j
  one_other j n = on_one (λ x. win_at x j ≡ win_at g j) (λ m. get_or-set_other g.windows i j _ none n) (λ m. refl)

  one_used : (j : ℕ) → used g j ≡ true → used (uncovered old i g) j ≡ true
  one_used j u = on_one (λ x. used x j ≡ true) (λ m. used_set g i _ j u) (λ m. u)

  one_pending : pending (uncovered old i g) ≡ false
  one_pending = on_one (λ x. pending x ≡ false) (λ m. p) (λ m. p)

  one_rest : (ws : List (Option Win)) → with_windows ws (uncovered old i g) ≡ with_windows ws g
  one_rest ws = on_one (λ x. with_windows ws x ≡ with_windows ws g) (λ m. refl) (λ m. refl)

  one_length : length (uncovered old i g).windows ≡ length g.windows
  one_length = on_one (λ x. length x.windows ≡ length g.windows) (λ m. length-set g.windows i _) (λ m. refl)

-- All of them --------------------------------------------------------------------------------------------------------

-- by number: no other window matters to one
pub uncovered_at : (old : Rect) (os : List ℕ) (g : Group) → pending g ≡ false → Distinct os → ((i : ℕ) → is_in i os ≡ true → used g i ≡ true)
    → (j : ℕ) → win_at (uncovered_all old os g) j ≡ uncovered_if old (is_in j os) (win_at g j)
uncovered_at old [] g p d u j = sym (if_not old (win_at g j))
uncovered_at old (i ∷ os) g p d u j =
    uncovered_at old os (uncovered old i g) (one_pending old i g p) d.1
    (λ n h. one_used old i g p n (u n (or_right (eqb i n) (is_in n os) h))) j
    ∙ go (eqb i j) refl
  where
    go : (t : Bool) → eqb i j ≡ t → uncovered_if old (is_in j os) (win_at (uncovered old i g) j) ≡ uncovered_if old (t || is_in j os) (win_at g j)
    go true e =
        let q : i ≡ j = eqb-true i j e in
        let h : used g i ≡ true = u i (is_in_here i os) in
        rw (← q, d.0) (if_not old _ ∙ one_own old i g p h ∙ sym (if_some old (win_at g i) h))
    go false e = ap (uncovered_if old (is_in j os)) (one_other old i g p j (λ q. eqb-false i j e (sym q)))

-- all else stays, and how many there are
pub uncovered_rest : (old : Rect) (os : List ℕ) (g : Group) → pending g ≡ false
    → (uncovered_all old os g ≡ with_windows (uncovered_all old os g).windows g) × (length (uncovered_all old os g).windows ≡ length g.windows)
uncovered_rest old [] g p = (refl, refl)
uncovered_rest old (i ∷ os) g p =
    let q = uncovered_rest old os (uncovered old i g) (one_pending old i g p) in
    (q.0 ∙ one_rest old i g p _, q.1 ∙ one_length old i g p)

-- so code may go through the windows by number
pub uncovered_each : (old : Rect) (os : List ℕ) (g : Group) → pending g ≡ false → Distinct os → ((i : ℕ) → is_in i os ≡ true → used g i ≡ true)
    → uncovered_all old os g ≡ with_windows (each_by_id (λ j. uncovered_if old (is_in j os)) 0 g.windows) g
uncovered_each old os g p d u =
    let f : ℕ → Option Win → Option Win = λ j. uncovered_if old (is_in j os) in
    (uncovered_rest old os g p).0
    ∙ ap (λ (ws : List (Option Win)). with_windows ws g)
    (ext_get_or none (uncovered_all old os g).windows (each_by_id f 0 g.windows) ((uncovered_rest old os g p).1 ∙ sym (length_each f 0 g.windows))
    (λ j h. uncovered_at old os g p d u j ∙ sym (each_at f 0 g.windows j j none (omega arith) refl)))

-- Those below --------------------------------------------------------------------------------------------------------

-- they stand before its place
pub below_take : (id : ℕ) (o : List ℕ) → below id o ≡ take (place_of id o) o
below_take id [] = refl
below_take id (i ∷ o) = go (eqb i id) (below_take id o)
  where
    go : (t : Bool) → below id o ≡ take (place_of id o) o → cond t [] (i ∷ below id o) ≡ take (cond t 0 (suc (place_of id o))) (i ∷ o)
    go true ih = refl
    go false ih = ap (λ (l : List ℕ). i ∷ l) ih

pub below_length : (id : ℕ) (o : List ℕ) → length (below id o) ≡ place_of id o
below_length id [] = refl
below_length id (i ∷ o) = go (eqb i id) (below_length id o)
  where
    go : (t : Bool) → length (below id o) ≡ place_of id o → length (cond t [] (i ∷ below id o)) ≡ cond t 0 (suc (place_of id o))
    go true ih = refl
    go false ih = ap suc ih

-- each of them by its own place
pub below_place : (id j : ℕ) (o : List ℕ) → is_in j (below id o) ≡ ltb (place_of j o) (place_of id o)
below_place id j [] = refl
below_place id j (i ∷ o) = go (eqb i id) (eqb i j) refl (below_place id j o)
  where
    go : (s t : Bool) → eqb i j ≡ t → is_in j (below id o) ≡ ltb (place_of j o) (place_of id o)
        → is_in j (cond s [] (i ∷ below id o)) ≡ ltb (cond t 0 (suc (place_of j o))) (cond s 0 (suc (place_of id o)))
    go true t e ih = sym (leb-suc-zero (cond t 0 (suc (place_of j o))))
    go false true e ih = or_left (eqb i j) (is_in j (below id o)) e ∙ sym (lt-ltb 0 (suc (place_of id o)) (omega arith))
    go false false e ih = rw e (ih ∙ sym (leb-suc-suc (suc (place_of j o)) (place_of id o)))

-- they are shown, and it is none of them
pub below_shown : (id j : ℕ) (o : List ℕ) → is_in j (below id o) ≡ true → is_in j o ≡ true
below_shown id j [] h = h
below_shown id j (i ∷ o) h = go (eqb i id) h (below_shown id j o)
  where
    go : (t : Bool) → is_in j (cond t [] (i ∷ below id o)) ≡ true → (is_in j (below id o) ≡ true → is_in j o ≡ true) → eqb i j || is_in j o ≡ true
    go true h ih = clash h refl
    go false h ih = or_cases (eqb i j) (is_in j (below id o)) h (or_left (eqb i j) (is_in j o)) (λ k. or_right (eqb i j) (is_in j o) (ih k))

pub below_own : (id : ℕ) (o : List ℕ) → is_in id (below id o) ≡ false
below_own id o = below_place id id o ∙ le-ltb (place_of id o) (place_of id o) (omega arith)

pub below_distinct : (id : ℕ) (o : List ℕ) → Distinct o → Distinct (below id o)
below_distinct id [] d = tt
below_distinct id (i ∷ o) d = go (eqb i id) (below_distinct id o d.1)
  where
    go : (t : Bool) → Distinct (below id o) → Distinct (cond t [] (i ∷ below id o))
    go true ih = tt
    go false ih = (is_false (λ k. clash (below_shown id i o k) d.0), ih)

-- A drag by number ---------------------------------------------------------------------------------------------------

-- window j after a drag of window id that owes nothing: the dragged one, one below it, or another
abbrev pub dragged_at : ℕ → ℕ → ℕ → Group → ℕ → Option Win → Option Win
dragged_at id x y g j none = none
dragged_at id x y g j (some w) =
    some (cond (eqb j id) (dragged_win x y w) (cond (is_in j (below id g.order)) (uncovered_win (win g id).at w) w))

module _ (id x y : ℕ) (g : Group) (ok : Ok g) (s : shown g id ≡ true) (p : pending g ≡ false) where
  u : used g id ≡ true
  u = ok.shown_used id s

  abbrev old : Rect
  old = (win g id).at

  abbrev under : List ℕ
  under = below id g.order

  abbrev to : Group
  to = dragged_to id x y g

  under_used : (i : ℕ) → is_in i under ≡ true → used to i ≡ true
  under_used i h = used_set g id (dragged_win x y (win g id)) i (ok.shown_used i (below_shown id i g.order h))

  by_number : (j : ℕ) → win_at (uncovered_all old under to) j ≡ dragged_at id x y g j (win_at g j)
  by_number j = uncovered_at old under to p (below_distinct id g.order ok.distinct) under_used j ∙ go (eqb j id) refl
    where
      own : (o : Option Win) → some_win o ≡ true → some (dragged_win x y (the_win o)) ≡ dragged_at id x y g id o
      own none h = clash h refl
      own (some w) h = rw (eq-eqb id id refl)

      other : eqb j id ≡ false → (o : Option Win) → uncovered_if old (is_in j under) o ≡ dragged_at id x y g j o
      other e none = refl
      other e (some w) = rw e

      go : (t : Bool) → eqb j id ≡ t → uncovered_if old (is_in j under) (win_at to j) ≡ dragged_at id x y g j (win_at g j)
      go true e =
          let q : j ≡ id = eqb-true j id e in
          rw (q, below_own id g.order) (if_not old (win_at to id) ∙ get_or-set_same g.windows id _ none (used_below g id u) ∙ own (win_at g id) u)
      go false e = ap (uncovered_if old (is_in j under)) (get_or-set_other g.windows id j _ none (eqb-false j id e)) ∙ other e (win_at g j)

  now : dragged id x y g ≡ uncovered_all old under to
  now = drag_now id x y g u s p

  pub drag_at : (j : ℕ) → win_at (dragged id x y g) j ≡ dragged_at id x y g j (win_at g j)
  drag_at j = ap (λ (z : Group). win_at z j) now ∙ by_number j

  -- the window itself: all of it is repaired at its new place
  pub drag_own : win_at (dragged id x y g) id ≡ some (dragged_win x y (win g id))
  drag_own =
      drag_at id ∙ ap (dragged_at id x y g id) (is_some (win_at g id) u)
      ∙ ap (λ (t : Bool). some (cond t (dragged_win x y (win g id)) (cond (is_in id under) (uncovered_win old (win g id)) (win g id)))) (eq-eqb id id refl)

  -- one below it that meets its old rectangle is repaired in what it has in common with it, one that does not stays
  pub drag_met : (j : ℕ) → is_in j under ≡ true → meets (win g j).at old ≡ true
      → win_at (dragged id x y g) j ≡ some (repaired_in (uncovered_area old (win g j)) (win g j))
  drag_met j h m = drag_at j ∙ go (win_at g j) (ok.shown_used j (below_shown id j g.order h)) m
    where
      apart : eqb j id ≡ false
      apart = is_false (λ e. clash (rw (eqb-true j id e) at h) (below_own id g.order))

      go : (o : Option Win) → some_win o ≡ true → meets (the_win o).at old ≡ true
          → dragged_at id x y g j o ≡ some (repaired_in (uncovered_area old (the_win o)) (the_win o))
      go none v m = clash v refl
      go (some w) v m = rw (apart, h, m)

  pub drag_unmet : (j : ℕ) → j ≢ id → meets (win g j).at old ≡ false → win_at (dragged id x y g) j ≡ win_at g j
  drag_unmet j n m = drag_at j ∙ go (win_at g j) m
    where
      go : (o : Option Win) → meets (the_win o).at old ≡ false → dragged_at id x y g j o ≡ o
      go none m = refl
      go (some w) m = rw (ne_eqb j id n, m) (on_cond (λ (v : Win). some v ≡ some w) (is_in j under) w w (λ e. refl) (λ e. refl))

  -- and so does one that is not below it
  pub drag_other : (j : ℕ) → j ≢ id → is_in j under ≡ false → win_at (dragged id x y g) j ≡ win_at g j
  drag_other j n h = drag_at j ∙ go (win_at g j)
    where
      go : (o : Option Win) → dragged_at id x y g j o ≡ o
      go none = refl
      go (some w) = rw (ne_eqb j id n, h)

  -- all windows, and nothing else of the group but the flag of the window
  pub drag_each : dragged id x y g ≡ with_windows (each_by_id (dragged_at id x y g) 0 g.windows) (set_maximised id false g)
  drag_each =
      let f : ℕ → Option Win → Option Win = dragged_at id x y g in
      let q = uncovered_rest old under to p in
      now ∙ q.0
      ∙ ap (λ (ws : List (Option Win)). with_windows ws (set_maximised id false g))
      (ext_get_or none (uncovered_all old under to).windows (each_by_id f 0 g.windows)
      (q.1 ∙ length-set g.windows id _ ∙ sym (length_each f 0 g.windows))
      (λ j h. by_number j ∙ sym (each_at f 0 g.windows j j none (omega arith) refl)))

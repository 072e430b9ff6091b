-- One window's pixels in the store: the part of an area that lies in the window, and what fill and blit make of it.
use Prim.Native.Nat.{ℕ, ◌+◌, ◌*◌, ◌-◌, ◌≤◌, ◌<◌, min, max}
use mathlib.Core.Path.{◌≡◌, refl, sym, ap, subst, ◌∙◌}
use mathlib.Core.Bool.{true, false}
use mathlib.Core.List.{List}
use mathlib.Core.Logic.{⊎_elim}
use native.Mathlib.Nat.{mul-le-mul_right, mul_comm}
use native.Mathlib.Omega.{arith}
use lib.Dec.{ltb}
use lib.ListN.{take}
use borrow.Author.Tests.{ltb-true, lt-ltb}
use Rattle.geom.specs.declared.Rect.{Rect}
use Rattle.geom.specs.declared.inner.rect16.Rect16.{Rect16}
use Rattle.geom.specs.Geom.{rect, left, top, width, height, is_empty, meets, common}
use Rattle.geom.specs.inner.Fits.{Within}
use Rattle.geom.specs.Rect16.{Small}
use Rattle.geom.proofs.basics.Tests.{clash, on_cond, lt_or_le}
use Rattle.geom.proofs.geometry.Facts.{Meet, says_meet, solid, common_within}
use Rattle.scanline.specs.Pixels.{write_rows, part}
use Rattle.scanline.specs.inner.Rows.{Inside, Counted}
use Rattle.scanline.proofs.rows.Altered.{altered_same}
use Rattle.window.specs.declared.Window.{Window}
use Rattle.window.specs.declared.damage.Damage.{Damage}
use Rattle.window.specs.Window.{Win}
use Rattle.window.specs.Represents.{win_of, RepWindow, with_entries}
use Rattle.window.specs.inner.Changes.{PastAs, Dirtied}
use Rattle.window.proofs.laws.Entries.{all_of}
use Rattle.rules.specs.Store.{with_damage, dirtied, bounds, filled_part, filled_at, blit_rows, blit_at}
use Rattle.windows.specs.View.{filled_win, blit_win, holding}
use Rattle.windows.specs.inner.Pixels.{Becomes, RowsIn, Paints}
use Rattle.windows.proofs.laws.Parts.{set_damage}

-- the same window by a rule that gives the same
becomes : {w r : Window} {v v' : Win} → Becomes w v r → v ≡ v' → Becomes w v' r
becomes b e = record { used = b.used; rep = b.rep; is = b.is ∙ e }

-- of the window only the damage changes
pub dirty_win : (w : Window) (a : Rect) (d : Damage) → RepWindow w → Dirtied w.at.w w.at.h w.damage a d → Becomes w (dirtied a (win_of w)) (set_damage d w)
dirty_win w a d r q =
    record {
      used = refl;
      rep = record { at = r.at; damage = q.rep; queue = r.queue; cursor = r.cursor };
      is = ap (λ (l : List Rect). with_damage l (win_of w)) q.is;
    }

-- so the window is the one that holds what the rule says, and is else as it was
pub is_holding : {w : Window} {v : Win} {d : Damage} → Becomes w v (set_damage d w) → PastAs w.damage d → set_damage d w ≡ holding v w
is_holding {w} {v} {d} b e =
    let damage = all_of w.damage d b.rep.damage e ∙ ap (λ (x : Win). with_entries x.damage w.damage) b.is in
    let marked = ap (λ (x : Win). x.marked) b.is in
    λ i. record { queue = w.queue; damage = damage i; at = w.at; cursor = w.cursor; used = w.used; marked = marked i }

-- a side of the common part with (0,0,W,H)
cut_low : (x : ℕ) → max x 0 ≡ x
cut_low x = omega arith

cut_size : (x w W : ℕ) → min (x + w) (0 + W) - max x 0 ≡ min w (W - x)
cut_size x w W = omega arith

-- the same pixels by a rule that gives the same
counts : {rule rule' s t : List ℕ} {n : ℕ} → Counted rule s t n → rule ≡ rule' → Counted rule' s t n
counts c e = record { pixels = c.pixels ∙ e; altered = c.altered }

-- no pixel written
uncounted : {rule s : List ℕ} → s ≡ rule → Counted rule s s 0
uncounted {s = s} e = record { pixels = e; altered = sym (altered_same s) }

-- a window left as it was
same_holding : {w : Window} {v : Win} → RepWindow w → win_of w ≡ v → w ≡ holding v w
same_holding {w} r e = is_holding {w = w} {d = w.damage} (record { used = refl; rep = r; is = e }) refl

-- nothing written
as_it_was : {w : Window} {v : Win} {rule store : List ℕ} → RepWindow w → win_of w ≡ v → store ≡ rule → Paints w v rule store w store 0
as_it_was r e f = record { window = record { used = refl; rep = r; is = e }; whole = same_holding r e; counted = uncounted f }

-- its own pixels, from its corner
abbrev pub bounds_of : Rect16 → Rect
bounds_of at = rect 0 0 at.w at.h

-- The area and the window --------------------------------------------------------------------------------------------

pub in_window : (at : Rect16) (a : Rect) {k : Rect} → meets a (bounds_of at) ≡ true → k ≡ common a (bounds_of at) → Within (bounds_of at) k
in_window at a m e = subst (Within (bounds_of at)) (sym e) (common_within a (bounds_of at) ((says_meet a (bounds_of at)).fact m)).1

module _ {len base : ℕ} {at : Rect16} (q : RowsIn len base at) where
  module _ {k : Rect} (i : Within (bounds_of at) k) where
    pub room : Inside len base at.w (left k) (top k) (width k) (height k)
    room =
        let s : top k + height k ≤ at.h = omega arith in
        let m : (top k + height k) * at.w ≤ at.h * at.w = mul-le-mul_right at.w s in
        let o = q.small in
        let r = q.room in
        record { wide = omega arith; high = omega (arith, mul_comm at.h at.w); small = omega arith }

    pub part_small : Small k
    part_small = let o = q.small in omega arith

-- Fill ----------------------------------------------------------------------------------------------------------------

module _ (base : ℕ) (w : Window) (a : Rect) where
  pub filled : (k : Rect) (v : ℕ) (store t : List ℕ) (n : ℕ) {r : Window} → meets a (bounds_of w.at) ≡ true → k ≡ common a (bounds_of w.at)
      → Becomes w (dirtied k (win_of w)) r → r ≡ holding (dirtied k (win_of w)) w → Counted (filled_part base (win_of w) k v store) store t n
      → Paints w (filled_win a (win_of w)) (filled_at base (win_of w) a v store) store r t n
  unfolding filled_win filled_at
  filled k v store t n m e b h f =
      let rule : dirtied k (win_of w) ≡ filled_win a (win_of w) = ap (λ (p : Rect). dirtied p (win_of w)) e ∙ rw m in
      record {
        window = becomes b rule;
        whole = h ∙ ap (λ (x : Win). holding x w) rule;
        counted = counts f (ap (λ (p : Rect). filled_part base (win_of w) p v store) e ∙ rw m);
      }

  pub not_filled : (v : ℕ) (store : List ℕ) → RepWindow w → meets a (bounds_of w.at) ≡ false
      → Paints w (filled_win a (win_of w)) (filled_at base (win_of w) a v store) store w store 0
  unfolding filled_win filled_at
  not_filled v store r m = as_it_was r (rw m) (rw m)

-- Blit -----------------------------------------------------------------------------------------------------------------

-- an empty area
pub not_blit : (base : ℕ) (w : Window) (a : Rect) (datum : List ℕ) (stride : ℕ) (store : List ℕ) → RepWindow w
    → is_empty a ≡ true
    → Paints w (blit_win a (win_of w)) (blit_at base (win_of w) a datum stride store) store w store 0
unfolding blit_win blit_at
not_blit base w a datum stride store r e = as_it_was r (rw e) (rw e)

-- another
pub blit : (w : Window) (a : Rect) {rule s t : List ℕ} {n : ℕ} {r : Window} → is_empty a ≡ false → Becomes w (dirtied a (win_of w)) r
    → r ≡ holding (dirtied a (win_of w)) w → Counted rule s t n → Paints w (blit_win a (win_of w)) rule s r t n
unfolding blit_win
blit w a e b h f =
    let same : dirtied a (win_of w) ≡ blit_win a (win_of w) = rw e in
    record { window = becomes b same; whole = h ∙ ap (λ (x : Win). holding x w) same; counted = f }

module _ (base : ℕ) (w : Window) (a : Rect) (e : is_empty a ≡ false) where
  some_rows : meets a (bounds_of w.at) ≡ true → blit_rows (win_of w) a ≡ min (height a) (w.at.h - top a)
  some_rows m =
      let i = (says_meet a (bounds (win_of w))).fact m in
      rw (lt-ltb (left a) w.at.w (omega arith))

  no_rows : meets a (bounds_of w.at) ≡ false → blit_rows (win_of w) a ≡ 0
  no_rows m =
      on_cond (λ (n : ℕ). n ≡ 0) (ltb (left a) w.at.w) (min (height a) (w.at.h - top a)) 0
      (λ t. ⊎_elim (λ l. absurd (met (ltb-true (left a) w.at.w t) l)) (λ l. omega arith) (lt_or_le (top a) w.at.h))
      (λ t. refl)
    where
      met : left a < w.at.w → top a < w.at.h → ⊥
      met l h =
          let s = solid a e in
          let i : Meet a (bounds (win_of w)) = omega arith in
          clash ((says_meet a (bounds (win_of w))).test i) m

  module _ (datum : List ℕ) (stride : ℕ) (store : List ℕ) where
    -- rows of an area at (x,y), of m by n
    abbrev rows : ℕ → ℕ → ℕ → ℕ → List ℕ
    rows x y m n = write_rows n (λ r. base + (y + r) * w.at.w + x) (λ r. take m (part (r * stride) stride datum)) store

    at_blit : (n : ℕ) → blit_rows (win_of w) a ≡ n
        → rows (left a) (top a) (min (width a) (w.at.w - left a)) n ≡ blit_at base (win_of w) a datum stride store
    unfolding blit_at
    at_blit n f = ap (rows (left a) (top a) (min (width a) (w.at.w - left a))) (sym f) ∙ rw e

    cut_rows : (k : Rect) → k ≡ common a (bounds (win_of w))
        → rows (left k) (top k) (width k) (height k) ≡ rows (left a) (top a) (min (width a) (w.at.w - left a)) (min (height a) (w.at.h - top a))
    unfolding common
    cut_rows k p =
        ap (λ (b : Rect). rows (left b) (top b) (width b) (height b)) p
        ∙ (λ i. rows (cut_low (left a) i) (cut_low (top a) i) (cut_size (left a) (width a) w.at.w i) (cut_size (top a) (height a) w.at.h i))

    pub some_blit : (k : Rect) (t : List ℕ) (n : ℕ) → meets a (bounds_of w.at) ≡ true → k ≡ common a (bounds_of w.at)
        → Counted (rows (left k) (top k) (width k) (height k)) store t n → Counted (blit_at base (win_of w) a datum stride store) store t n
    some_blit k t n m p f = counts f (cut_rows k p ∙ at_blit (min (height a) (w.at.h - top a)) (some_rows m))

    pub no_blit : meets a (bounds_of w.at) ≡ false → Counted (blit_at base (win_of w) a datum stride store) store store 0
    unfolding write_rows
    no_blit m = uncounted (at_blit 0 (no_rows m))

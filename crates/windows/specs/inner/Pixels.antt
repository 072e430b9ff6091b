-- Fill, blit and resize of one window, without the group: what becomes of the window, whose pixels begin at `base` of
-- the lent store.
use Rattle.std.specs.Prelude.{ℕ, ◌+◌, ◌*◌, ◌≤◌, ◌≡◌, true, false, List, Option, Some, None}
use Rattle.geom.specs.declared.Rect.{Rect}
use Rattle.geom.specs.declared.inner.rect16.Rect16.{Rect16}
use Rattle.geom.specs.Geom.{meets, common}
use Rattle.geom.specs.Rect16.{Small, rect_of}
use Rattle.scanline.specs.inner.Rows.{Counted}
use Rattle.window.specs.declared.Window.{Window}
use Rattle.window.specs.Window.{Win}
use Rattle.window.specs.Represents.{win_of, RepWindow}
use Rattle.windows.specs.View.{holding}

-- the window r is what the rule says, and in use if w was
pub record Becomes (w : Window) (rule : Win) (r : Window) : Type 0 where
  pub used : r.used ≡ w.used
  pub rep : RepWindow r
  pub is : win_of r ≡ rule

-- the part of an area that lies in a rectangle, if there is one
abbrev pub PartIn : Rect → Rect → Option Rect → Type 0
PartIn all area (Some part) = (meets area all ≡ true) × (part ≡ common area all)
PartIn all area None = meets area all ≡ false

-- the rows of a window at this place lie in a store of `len` pixels
pub record RowsIn (len base : ℕ) (at : Rect16) : Type 0 where
  pub small : Small (rect_of at)
  pub room : base + at.w * at.h ≤ len

-- a write to the store p: the window v is what the rule says, and all else of it is as it was; the store has the rule's pixels, of which n
-- differ
pub record Paints (w : Window) (rule : Win) (pixels p : List ℕ) (v : Window) (store : List ℕ) (n : ℕ) : Type 0 where
  pub window : Becomes w rule v
  pub whole : v ≡ holding rule w
  pub counted : Counted pixels p store n

-- the window's c pixels lie in the store, and its rows at the old and at the new place lie in them
pub record Resizable (len base c : ℕ) (at : Rect16) (win : Window) : Type 0 where
  pub rep : RepWindow win
  pub room : base + c ≤ len
  pub old : win.at.w * win.at.h ≤ c
  pub new : at.w * at.h ≤ c
  pub small : Small (rect_of at)

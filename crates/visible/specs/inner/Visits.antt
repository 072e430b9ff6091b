-- What the visitors ask of a part, and what a visit does: a part is counted, its pixels are, it is written, drawn or joined.
use Rattle.std.specs.Prelude.{◌+◌, ◌*◌, ◌≤◌, ◌≡◌, false, [], ◌∷◌, length}
use Rattle.std.proofs.lemmas.List.Edits.{sets}
use Rattle.geom.specs.declared.Rect.{Rect}
use Rattle.geom.specs.Geom.{width, height, is_empty, contains}
use Rattle.geom.specs.inner.Fits.{Fits, Within}
use Rattle.geom.specs.Lists.{relative, numbers}
use Rattle.rules.specs.inner.Lent.{AllFit}
use Rattle.visible.specs.declared.list.Counting.{Counting}
use Rattle.visible.specs.declared.list.Measuring.{Measuring}
use Rattle.visible.specs.declared.list.Writing.{Writing}
use Rattle.visible.specs.declared.draw.Drawing.{Drawing}
use Rattle.visible.specs.declared.extents.Extents.{Extents}
use Rattle.visible.specs.inner.Seen.{Drawable, drawn, regions}
use Rattle.visible.specs.inner.Extents.{Joins}

-- one more part
abbrev pub CanCount : Counting → Rect → Type 0
CanCount s r = s.parts + 1 ≤ 18446744073709551615

abbrev pub Counts : Counting → Rect → Counting → Type 0
Counts s r t = t.parts ≡ s.parts + 1

-- its pixels
abbrev pub CanAdd : Measuring → Rect → Type 0
CanAdd s r = s.pixels + width r * height r ≤ 18446744073709551615

abbrev pub Adds : Measuring → Rect → Measuring → Type 0
Adds s r t = t.pixels ≡ s.pixels + width r * height r

-- its four numbers, relative to the window, at the next place
abbrev pub CanWrite : Writing → Rect → Type 0
CanWrite s r = Within s.at r × (4 * (s.place + 1) ≤ length s.list.now)

pub record Writes (s : Writing) (r : Rect) (t : Writing) : Type 0 where
  pub at : t.at ≡ s.at
  pub same : t.list.ghost_name ≡ s.list.ghost_name
  pub place : t.place ≡ s.place + 1
  pub list : t.list.now ≡ sets s.list.now (4 * s.place) (numbers (relative s.at r ∷ []))

-- what it has in common with the dirty entries
pub record CanDraw (s : Drawing) (r : Rect) : Type 0 where
  pub drawable : Drawable s.view s.store.now s.screen.now
  pub within : Within s.view.at r
  pub fit : AllFit s.dirty.now

pub record Draws (s : Drawing) (r : Rect) (t : Drawing) : Type 0 where
  pub view : t.view ≡ s.view
  pub dirty : t.dirty.now ≡ s.dirty.now
  pub store : t.store.now ≡ s.store.now
  pub same : t.screen.ghost_name ≡ s.screen.ghost_name
  pub size : length t.screen.now ≡ length s.screen.now
  pub screen : t.screen.now ≡ drawn s.view s.store.now (regions s.view.at (r ∷ []) [] s.dirty.now) s.screen.now

-- its pixels join the extents
abbrev pub CanJoin : Extents → Rect → Type 0
CanJoin e r = Fits r × (is_empty r ≡ false)

abbrev pub JoinsPart : Extents → Rect → Extents → Type 0
JoinsPart e r f = Joins (contains r) e f

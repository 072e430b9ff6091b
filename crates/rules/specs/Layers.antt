-- Document 02, "Panels that stay on top": what is promised after every list of calls, beside demand 3. "The emergency stop panel must not slide
-- under the plan." Layers, as who is shown and where, are the book's.
use Rattle.std.specs.Prelude.{ℕ, ◌-◌, ◌≤◌, ◌<◌, ◌≡◌, List, ◌∷◌, ◌++◌, ◌≢◌, T, length, get_or}
use Rattle.std.proofs.Math.Option.{some}
use Rattle.geom.specs.Geom.{left, top, contains}
use Rattle.rules.specs.Group.{Group}
use Rattle.rules.specs.Order.{is_in, above}
use Rattle.rules.specs.Events.{route}
use Rattle.rules.specs.Calls.{Call, does, after}
use Rattle.rules.specs.Book.{Book, page, layer, book_of, topmost}
use Rattle.rules.specs.Ledger.{Ledger, waiting, ledger_of}
use Rattle.rules.specs.Demand.{pixel_at, pixel_of, Press, press_at, Reaches, Unreached, Two}

-- The order -------------------------------------------------------------------------------------------------------------

-- "Each window has a layer, 0 when created, or 1."
abbrev pub ZeroOrOne : Book → Type 0
ZeroOrOne b = (id : ℕ) → layer b id ≤ 1

-- "The render order is always layer 0 before layer 1": in the order o no window of layer 1 stands before one of layer 0
abbrev pub InLayers : Book → List ℕ → Type 0
InLayers b o = (n m : ℕ) → n < m → m < length o → layer b (get_or o n 0) ≡ 1 → layer b (get_or o m 0) ≢ 0

-- so nothing of layer 0 obscures a window of layer 1: what is above it is of layer 1 too
abbrev pub Clear : Book → Type 0
Clear b = (id i : ℕ) → layer b id ≡ 1 → T (is_in i (above id b.order)) → layer b i ≡ 1

-- A point of a shown window of layer 1 ------------------------------------------------------------------------------------

pub record Panel (b : Book) (id px py : ℕ) : Type 0 where
  pub shown : T (is_in id b.order)
  pub high : layer b id ≡ 1
  pub has : T (contains (page b id).at px py)

-- a press at such a point reaches a window of layer 1, the topmost there, exactly when fewer than 16 events wait for it, and never one of layer 0:
-- g and h are the group before and after it
pub record Reached (b : Book) (l : Ledger) (g h : Group) (p : Press) (px py : ℕ) : Type 0 where
  pub to : ℕ
  pub topmost_there : topmost b px py ≡ some to
  pub high : layer b to ≡ 1
  pub reaches : waiting l to < 16 → Reaches g h (press_at p (px - left (page b to).at) (py - top (page b to).at)) to
  pub full : 16 ≤ waiting l to → Unreached g h to
  pub lower : (id : ℕ) → layer b id ≡ 0 → Unreached g h id

unfoldable pub PressesOnTop : ℕ → List Call → Type 0
PressesOnTop c ks =
    (id px py : ℕ) → px ≤ 32767 → py ≤ 32767 → Panel (book_of c ks) id px py → (p : Press) →
    Reached (book_of c ks) (ledger_of c ks) (after c ks) (route (after c ks) (press_at p px py)).group p px py

-- the pixel of the screen at such a point is that of a window of layer 1, the topmost there
pub record Seen (b : Book) (w : ℕ) (screen : List ℕ) (px py : ℕ) : Type 0 where
  pub of : ℕ
  pub topmost_there : topmost b px py ≡ some of
  pub high : layer b of ≡ 1
  pub pixel : pixel_at screen w px py ≡ pixel_of b of px py

-- of two redraws under the conditions of demand 3 the second leaves it so; the book is the one at the second
unfoldable pub PixelsOnTop : ℕ → List Call → Type 0
PixelsOnTop c ks =
    (w h : ℕ) (ks₁ : List Call) (r₁ : Call) (ks₂ : List Call) (r₂ : Call) (rest : List Call) →
    ks ≡ ks₁ ++ (r₁ ∷ (ks₂ ++ (r₂ ∷ rest))) → Two c w h ks₁ r₁ ks₂ r₂ →
    let calls : List Call = ks₁ ++ (r₁ ∷ ks₂) in
    (id px py : ℕ) → px < w → py < h → Panel (book_of c calls) id px py → Seen (book_of c calls) w (does (after c calls) r₂).screen px py

-- All of it -------------------------------------------------------------------------------------------------------------

-- the render order is that of the group
unfoldable pub OnTop : Type 0
OnTop =
    (c : ℕ) (ks : List Call) →
    ZeroOrOne (book_of c ks) × InLayers (book_of c ks) (after c ks).order × Clear (book_of c ks) × PressesOnTop c ks × PixelsOnTop c ks

-- Demand 3: "a single statement over the list, not one for each call", for every list of calls from a fresh session on.
use Rattle.std.specs.Prelude.{ℕ, ◌+◌, ◌-◌, ◌*◌, ◌≤◌, ◌<◌, ◌≡◌, Bool, false, cond, not, ◌&&◌, ◌||◌, List, [], ◌∷◌, ◌++◌, ◌≢◌, T, ltb, length, get_or}
use Rattle.std.proofs.Math.Option.{Option, none, some}
use Rattle.geom.specs.declared.Rect.{Rect}
use Rattle.geom.specs.Geom.{left, top, width, height, contains}
use Rattle.geom.specs.Lists.{any_has, Disjoint, most}
use Rattle.paint.specs.Shade.{tone}
use Rattle.window.specs.declared.Event.{Event}
use Rattle.rules.specs.Group.{Group, start, win}
use Rattle.rules.specs.Order.{is_in, above}
use Rattle.rules.specs.Visible.{Listed, visible_list, rects_of}
use Rattle.geom.specs.Nearest.{nearest_x, nearest_y}
use Rattle.rules.specs.Events.{route}
use Rattle.rules.specs.Calls.{Call, Made, does, by_rule, accepted, after}
use Rattle.rules.specs.Book.{Book, page, book_of, topmost}
use Rattle.rules.specs.Ledger.{Ledger, waiting, grabbed, ledger_of}
use Rattle.rules.specs.Conditions.{deed, Quiet, Sized, no_redraw, ends, wrote, before_last, written, unmarked}

-- Pixels ----------------------------------------------------------------------------------------------------------------

-- the pixel in column px and row py of a screen w wide
abbrev pub pixel_at : List ℕ → ℕ → ℕ → ℕ → ℕ
pixel_at screen w px py = get_or screen (py * w + px) 0

-- "at (px,py) a window has its pixel (px−x,py−y)"; "The pixel that a topmost window has is then read through the table while dimming is on"
abbrev pub pixel_of : Book → ℕ → ℕ → ℕ → ℕ
pixel_of b id px py = tone b.dimmed ((page b id).pixel (px - left (page b id).at) (py - top (page b id).at))

-- "every pixel under a shown window as the topmost window there has it, and every other pixel as the first left it"
abbrev pub expected : Book → Option ℕ → ℕ → ℕ → ℕ → ℕ
expected b none px py first = first
expected b (some id) px py first = pixel_of b id px py

-- "A pixel under no shown window is then as the first left it unless a portion since has written it …; if so, it is as the last such
-- portion left it": the calls that were made since, from the group g on
unfoldable pub left_at : Group → ℕ → ℕ → ℕ → ℕ → List Made → ℕ
left_at g w px py first [] = first
left_at g w px py first (m ∷ ms) =
    left_at (does g m.call).group w px py
    (cond (accepted g m.call && wrote g (deed m.call).draws px py) (pixel_at m.screen w px py) first) ms

-- "undivided redraws and … walks that a portion ended, taken then": r after the calls ks is one, all that was drawn until then "went to
-- this screen at one size", "nobody else wrote screen or store", and "each [window shown] was marked after its last write before [its last]
-- portion"
pub record Ended (c w h : ℕ) (ks : List Call) (r : Call) : Type 0 where
  pub ended : T (ends (after c ks) r)
  pub quiet : Quiet (start c).group none none (ks ++ (r ∷ []))
  pub sized : Sized w h (start c).group (ks ++ (r ∷ []))
  pub marked : (id : ℕ) → T (is_in id (book_of c ks).order) → unmarked id (start c).group false (before_last c id (ks ++ (r ∷ []))) ≡ false

-- "any two accepted redraws in it with no accepted redraw between them": r₁ after the calls ks₁, and r₂ after ks₂ more, under the
-- conditions, "with no write meanwhile". Of the first no condition is needed, and walks may have ended between them
pub record Two (c : ℕ) (w h : ℕ) (ks₁ : List Call) (r₁ : Call) (ks₂ : List Call) (r₂ : Call) : Type 0 where
  pub first : T (ends (after c ks₁) r₁)
  pub second : Ended c w h (ks₁ ++ (r₁ ∷ ks₂)) r₂
  pub between : T (no_redraw (does (after c ks₁) r₁).group ks₂)
  pub unwritten : written (start c).group false ((ks₁ ++ (r₁ ∷ ks₂)) ++ (r₂ ∷ [])) ≡ false

-- "the second leaves every pixel under a shown window as the topmost window there has it, and every other pixel as the first left it", or
-- the last portion since that wrote it: two screens of w by h, the calls between them from the group g on, and the book at the second redraw
abbrev pub Repainted : Book → ℕ → ℕ → Group → List ℕ → List Made → List ℕ → Type 0
Repainted b w h g first between second =
    (px py : ℕ) → px < w → py < h →
    pixel_at second w px py ≡ expected b (topmost b px py) px py (left_at g w px py (pixel_at first w px py) between)

-- `Shown, above … and topmost at a point … are the book's at the second redraw`
unfoldable pub Pixels : ℕ → List Call → Type 0
Pixels c ks =
    (w h : ℕ) (ks₁ : List Call) (r₁ : Call) (ks₂ : List Call) (r₂ : Call) (rest : List Call) →
    ks ≡ ks₁ ++ (r₁ ∷ (ks₂ ++ (r₂ ∷ rest))) → Two c w h ks₁ r₁ ks₂ r₂ →
    let o = does (after c ks₁) r₁ in
    Repainted (book_of c (ks₁ ++ (r₁ ∷ ks₂))) w h o.group o.screen (by_rule o.group ks₂) (does (after c (ks₁ ++ (r₁ ∷ ks₂))) r₂).screen

-- Presses ---------------------------------------------------------------------------------------------------------------

-- "From this request on a press, in demand 3 too, is a MouseDown or a MouseClick": which, with its button and count
pub data Press : Type 0 where
  down : ℕ → Press
  click : ℕ → ℕ → Press

abbrev pub press_at : Press → ℕ → ℕ → Event
press_at (down n) x y = Event.MouseDown x y n
press_at (click n m) x y = Event.MouseClick x y n m

abbrev pub queue_of : Group → ℕ → List Event
queue_of g id = (win g id).queue

-- "it reaches a window if … it joins the end of that window's queue": g and h are the group before and after it
abbrev pub Reaches : Group → Group → Event → ℕ → Type 0
Reaches g h e id = queue_of h id ≡ queue_of g id ++ (e ∷ [])

-- the window's queue is as it was
abbrev pub Unreached : Group → Group → ℕ → Type 0
Unreached g h id = queue_of h id ≡ queue_of g id

-- an event for a window, or for nobody, "reaches [it] exactly when fewer than 16 events wait for it, and never another window": `e` is the event
-- as each window would get it
abbrev pub Taken : Ledger → Group → Group → Option ℕ → (ℕ → Event) → Type 0
Taken l g h to e =
    (id : ℕ) →
    (to ≡ some id → waiting l id < 16 → Reaches g h (e id) id)
    × (to ≡ some id → 16 ≤ waiting l id → Unreached g h id)
    × (to ≢ some id → Unreached g h id)

-- "a press at any point reaches the topmost window there", "position subtracted"
abbrev pub Pressed : Book → Ledger → Group → Group → Press → ℕ → ℕ → Type 0
Pressed b l g h p px py = Taken l g h (topmost b px py) (λ id. press_at p (px - left (page b id).at) (py - top (page b id).at))

unfoldable pub Presses : ℕ → List Call → Type 0
Presses c ks =
    (p : Press) (px py : ℕ) → px ≤ 32767 → py ≤ 32767 →
    Pressed (book_of c ks) (ledger_of c ks) (after c ks) (route (after c ks) (press_at p px py)).group p px py

-- Releases --------------------------------------------------------------------------------------------------------------

-- "MouseUp goes there, at the window pixel nearest to the point": to the window of the grab, if it has pixels by the book
abbrev pub ReleasedTo : Book → Ledger → Group → Group → ℕ → ℕ → ℕ → Option ℕ → Type 0
ReleasedTo b l g h n px py (some to) =
    Taken l g h (some to)
    (λ id. Event.MouseUp (nearest_x (page b id).at px - left (page b id).at) (nearest_y (page b id).at py - top (page b id).at) n)
-- "With none remembered, or a remembered window of no pixels, document 01 holds."
ReleasedTo b l g h n px py none = Taken l g h (topmost b px py) (λ id. Event.MouseUp (px - left (page b id).at) (py - top (page b id).at) n)

-- a MouseUp with button n: where it goes, "exactly when fewer than 16 events wait" there, "and never another window"
abbrev pub Released : Book → Ledger → Group → Group → ℕ → ℕ → ℕ → Type 0
Released b l g h n px py = ReleasedTo b l g h n px py (grabbed b l.grab)

-- beyond the request: since a release is no press any more, it is promised as much, after every list of calls, with any button
unfoldable pub Releases : ℕ → List Call → Type 0
Releases c ks =
    (n px py : ℕ) → px ≤ 32767 → py ≤ 32767 →
    Released (book_of c ks) (ledger_of c ks) (after c ks) (route (after c ks) (Event.MouseUp px py n)).group n px py

-- Visible rectangles ----------------------------------------------------------------------------------------------------

abbrev pub obscured : Book → List ℕ → ℕ → ℕ → Bool
obscured b [] px py = false
obscured b (i ∷ rest) px py = contains (page b i).at px py || obscured b rest px py

-- "Unobscured: its pixels, off the screen too, whose (px,py) is in no rectangle above it."
abbrev pub unobscured : Book → ℕ → ℕ → ℕ → Bool
unobscured b id col row =
    ltb col (width (page b id).at) && ltb row (height (page b id).at)
    && not (obscured b (above id b.order) (left (page b id).at + col) (top (page b id).at + row))

-- the windows shown above a window
abbrev pub higher : Book → ℕ → ℕ
higher b id = length (above id b.order)

-- "disjoint, cover exactly its unobscured pixels, and number at most (k+1)(2k+1), k being the windows shown above it"
pub record Shows (b : Book) (id : ℕ) (rs : List Rect) : Type 0 where
  pub disjoint : Disjoint rs
  pub cover : (col row : ℕ) → any_has rs col row ≡ unobscured b id col row
  pub few : length rs ≤ most (higher b id)

-- "Its visible rectangles are those that a call of the visible list then gives, lent room enough": every such call that is
-- accepted gives them, and one that is lent four numbers for each of the most is accepted
abbrev pub ListShows : Book → ℕ → List ℕ → Listed → Type 0
ListShows b id lent o = (4 * most (higher b id) ≤ length lent → o.answer ≡ 0) × (o.answer ≡ 0 → Shows b id (rects_of o.count o.list))

unfoldable pub Visibles : ℕ → List Call → Type 0
Visibles c ks = (id : ℕ) (lent : List ℕ) → T (is_in id (book_of c ks).order) → ListShows (book_of c ks) id lent (visible_list (after c ks) id lent)

-- Demand 3 --------------------------------------------------------------------------------------------------------------

-- document 01's three parts, and the releases beside them
unfoldable pub Demand3 : Type 0
Demand3 = (c : ℕ) (ks : List Call) → Pixels c ks × Presses c ks × Releases c ks × Visibles c ks

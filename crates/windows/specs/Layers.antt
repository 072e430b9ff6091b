-- Document 02, "Panels that stay on top", of the program: the order, the presses and the screens of a run of calls.
use Rattle.std.specs.Prelude.{ℕ, ◌≤◌, ◌<◌, ◌≡◌, List, ◌∷◌, ◌++◌}
use Rattle.rules.specs.Calls.{Made, Route}
use Rattle.rules.specs.Book.{book_of}
use Rattle.rules.specs.Ledger.{ledger_of}
use Rattle.rules.specs.Demand.{Press, press_at, Two}
use Rattle.rules.specs.Layers.{InLayers, Panel, Reached, Seen}
use Rattle.windows.specs.declared.Session.{Session}
use Rattle.windows.specs.View.{group, Done, Meets}
use Rattle.windows.specs.Run.{calls, Run}

-- the presses: r is what a call of `route` then gives
unfoldable pub RunPressesOnTop : ℕ → List Made → Session → Type 0
RunPressesOnTop c ms s =
    (id px py : ℕ) → px ≤ 32767 → py ≤ 32767 → Panel (book_of c (calls ms)) id px py →
    (p : Press) (r : Done) → Meets (Route (press_at p px py)) s r →
    Reached (book_of c (calls ms)) (ledger_of c (calls ms)) (group s) (group r.session) p px py

-- the pixels: the screen is the one that the second redraw left
unfoldable pub RunPixelsOnTop : ℕ → List Made → Type 0
RunPixelsOnTop c ms =
    (w h : ℕ) (ms₁ : List Made) (m₁ : Made) (ms₂ : List Made) (m₂ : Made) (rest : List Made) →
    ms ≡ ms₁ ++ (m₁ ∷ (ms₂ ++ (m₂ ∷ rest))) → Two c w h (calls ms₁) m₁.call (calls ms₂) m₂.call →
    (id px py : ℕ) → px < w → py < h → Panel (book_of c (calls ms₁ ++ (m₁.call ∷ calls ms₂))) id px py →
    Seen (book_of c (calls ms₁ ++ (m₁.call ∷ calls ms₂))) w m₂.screen px py

-- after every run: in the session's render order no window of layer 1 stands before one of layer 0; a press at a point of a shown window of layer 1
-- reaches one of layer 1, and its pixels on the screen are one's
unfoldable pub ProgramOnTop : Type 0
ProgramOnTop =
    (c : ℕ) (ms : List Made) (s : Session) → Run c ms s →
    InLayers (book_of c (calls ms)) (group s).order × RunPressesOnTop c ms s × RunPixelsOnTop c ms

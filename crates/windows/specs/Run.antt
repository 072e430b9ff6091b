-- Demand 3 of the program: the calls that a caller made, each meeting its contract, and what they left.
use Rattle.std.specs.Prelude.{ℕ, ◌≤◌, ◌<◌, ◌≡◌, List, [], ◌∷◌, ◌++◌, map, T}
use Rattle.std.proofs.Math.Option.{Option, none, some}
use Rattle.window.specs.declared.Event.TheVariants as Event
use Rattle.rules.specs.Group.{Group, start}
use Rattle.rules.specs.Order.{is_in}
use Rattle.rules.specs.Calls.{Call, Made, Route, does, after}
use Rattle.rules.specs.Book.{book_of, topmost}
use Rattle.rules.specs.Ledger.{ledger_of}
use Rattle.rules.specs.Conditions.{lent_store, lent_screen, before_last}
use Rattle.rules.specs.Demand.{pixel_at, pixel_of, Ended, Two, Repainted, Press, press_at, Pressed, Released, ListShows}
use Rattle.windows.specs.declared.Session.{Session}
use Rattle.geom.specs.Refusals.{Listing}
use Rattle.windows.specs.View.{group, Done, Meets, done, Starts, Lists}

-- The calls that were made ----------------------------------------------------------------------------------------------

abbrev pub calls : List Made → List Call
calls ms = map (λ m. m.call) ms

-- what was lent is left as the rule says; what was not lent is not looked at
abbrev pub LeftAs : Option (List ℕ) → List ℕ → List ℕ → Type 0
LeftAs none l rule = Unit {0}
LeftAs (some _) l rule = l ≡ rule

-- the call met its contract and led from session s to session t: `Meets`, and of a store or a screen that it was lent what `MeetsStore` or
-- `MeetsScreen` says
pub record Kept (m : Made) (s t : Session) : Type 0 where
  pub meets : Meets m.call s (done t m.answer)
  pub stored : LeftAs (lent_store m.call) m.store (does (group s) m.call).store
  pub shown : LeftAs (lent_screen m.call) m.screen (does (group s) m.call).screen

-- a start with c, also a refused one, and then these calls in this order, "each call getting the session that the last one gave", led to
-- the session s
pub data Run (c : ℕ) : List Made → Session → Type 0 where
  started : {r : Done} → Starts c r → Run c [] r.session
  called : {ms : List Made} {s t : Session} {m : Made} → Run c ms s → Kept m s t → Run c (ms ++ (m ∷ [])) t

-- What a run promises ---------------------------------------------------------------------------------------------------

-- each call answered what the rule says, and left what it was lent as the rule says
unfoldable pub AsRuled : Group → List Made → Type 0
AsRuled g [] = Unit {0}
AsRuled g (m ∷ ms) =
    (m.answer ≡ (does g m.call).answer)
    × LeftAs (lent_store m.call) m.store (does g m.call).store
    × LeftAs (lent_screen m.call) m.screen (does g m.call).screen
    × AsRuled (does g m.call).group ms

-- the pixels: the screens are those that the two redraws left, and the portions between them
unfoldable pub RunPixels : ℕ → List Made → Type 0
RunPixels c ms =
    (w h : ℕ) (ms₁ : List Made) (m₁ : Made) (ms₂ : List Made) (m₂ : Made) (rest : List Made) →
    ms ≡ ms₁ ++ (m₁ ∷ (ms₂ ++ (m₂ ∷ rest))) → Two c w h (calls ms₁) m₁.call (calls ms₂) m₂.call →
    Repainted (book_of c (calls ms₁ ++ (m₁.call ∷ calls ms₂))) w h (does (after c (calls ms₁)) m₁.call).group m₁.screen ms₂ m₂.screen

-- the pixels under windows when a walk's last portion ends, each read through the table if dimming was on at its window's last portion: the
-- screen is the one that this portion left
unfoldable pub RunPortions : ℕ → List Made → Type 0
RunPortions c ms =
    (w h : ℕ) (ms₁ : List Made) (m : Made) (rest : List Made) → ms ≡ ms₁ ++ (m ∷ rest) → Ended c w h (calls ms₁) m.call →
    (px py id : ℕ) → px < w → py < h → topmost (book_of c (calls ms₁)) px py ≡ some id →
    pixel_at m.screen w px py ≡ pixel_of (book_of c (before_last c id (calls ms₁ ++ (m.call ∷ [])))) id px py

-- the presses: r is what a call of `route` then gives
unfoldable pub RunPresses : ℕ → List Made → Session → Type 0
RunPresses c ms s =
    (p : Press) (px py : ℕ) → px ≤ 32767 → py ≤ 32767 → (r : Done) → Meets (Route (press_at p px py)) s r →
    Pressed (book_of c (calls ms)) (ledger_of c (calls ms)) (group s) (group r.session) p px py

-- the releases: r is what a call of `route` then gives
unfoldable pub RunReleases : ℕ → List Made → Session → Type 0
RunReleases c ms s =
    (n px py : ℕ) → px ≤ 32767 → py ≤ 32767 → (r : Done) → Meets (Route (Event.MouseUp px py n)) s r →
    Released (book_of c (calls ms)) (ledger_of c (calls ms)) (group s) (group r.session) n px py

-- the visible rectangles: r is what a call of `visible` then gives, and `list` what it makes of the list that it is lent
unfoldable pub RunVisibles : ℕ → List Made → Session → Type 0
RunVisibles c ms s =
    (id : ℕ) (lent list : List ℕ) (r : Listing) → T (is_in id (book_of c (calls ms)).order) → Lists (group s) id lent r list →
    ListShows (book_of c (calls ms)) id lent (record { answer = r.answer; count = r.count; list = list })

-- after every run: the session's group is the rules', each call was as ruled, and demand 3 holds of the very screens, sessions and lists
unfoldable pub ProgramDemand3 : Type 0
ProgramDemand3 =
    (c : ℕ) (ms : List Made) (s : Session) → Run c ms s →
    (group s ≡ after c (calls ms)) × AsRuled (start c).group ms × RunPixels c ms × RunPortions c ms × RunPresses c ms s × RunReleases c ms s
    × RunVisibles c ms s

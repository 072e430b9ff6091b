-- Document 03, A2, "What is stale", of the program: what a call of `stale` gives after a run, and what the call that is
-- meant leaves of the screen if it is made next.
use Rattle.std.specs.Prelude.{ℕ, ◌<◌, ◌≡◌, true, false, cond, List}
use Rattle.std.proofs.Math.Option.{Option, none, some}
use Rattle.geom.specs.declared.Rect.{Rect}
use Rattle.geom.specs.Geom.{contains}
use Rattle.rules.specs.Calls.{Made}
use Rattle.rules.specs.Demand.{pixel_at}
use Rattle.rules.specs.Stale as Rule
use Rattle.rules.specs.Stale.{is_stale, IsSmallest, meant, holds}
use Rattle.windows.specs.declared.Session.{Session}
use Rattle.windows.specs.View.{group, Done, Stale, MeetsScreen, stale_of}
use Rattle.windows.specs.Run.{Run}

-- the rectangle that was handed back, if one is due
abbrev pub handed : Stale → Option Rect
handed r = cond r.due (some r.rect) none

-- "that call, if accepted, leaves every pixel of the given rectangle outside the smallest one as it was": on a screen of
-- any size, of which `left` is what the call leaves
unfoldable pub RunUntouched : Session → ℕ → Rect → Option Rect → Type 0
RunUntouched s which area o =
    (w h : ℕ) (store screen left : List ℕ) (d : Done) → MeetsScreen (meant which w h store screen) s d left → d.answer ≡ 0 →
    (px py : ℕ) → px < w → py < h → contains area px py ≡ true → holds o px py ≡ false →
    pixel_at left w px py ≡ pixel_at screen w px py

-- a pixel that counts as stale is written: whatever the screen had before, it has the same after the call
unfoldable pub RunOverwritten : Session → ℕ → Rect → Type 0
RunOverwritten s which area =
    (w h : ℕ) (store screen left other left' : List ℕ) (d d' : Done) →
    MeetsScreen (meant which w h store screen) s d left → d.answer ≡ 0 →
    MeetsScreen (meant which w h store other) s d' left' → d'.answer ≡ 0 →
    (px py : ℕ) → px < w → py < h → is_stale (group s) which area px py ≡ true → pixel_at left w px py ≡ pixel_at left' w px py

-- after every run: r is what a call of `stale` gives
unfoldable pub ProgramStale : Type 0
ProgramStale =
    (c : ℕ) (ms : List Made) (s : Session) → Run c ms s →
    (which : ℕ) (area : Rect) (r : Stale) → r ≡ stale_of (Rule.stale (group s) which area) → r.answer ≡ 0 →
    IsSmallest (is_stale (group s) which area) (handed r) × RunUntouched s which area (handed r) × RunOverwritten s which area

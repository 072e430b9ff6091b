-- The call that a line makes: the tables of CALL-SCRIPT.md.
use Rattle.std.specs.Prelude.{ℕ, ◌-◌, ◌≤◌, Bool, false, cond, ◌&&◌, ◌||◌, List, [], ◌∷◌, ◌++◌, ◌≡◌, ◌⊎◌, pos, leb, eqb, take, drop}
use Rattle.std.proofs.Math.Option.{Option, none, some}
use Rattle.window.specs.declared.Event.{Event}
use Rattle.window.specs.declared.Event.TheVariants.{Resize, KeyDown, KeyUp, KeyFire, Text, MouseMove, MouseDown, MouseClick, MouseUp}
use Rattle.script.specs.Kind as Kind
use Rattle.rules.specs.Calls.{Call}
use Rattle.bare_lines.specs.Numbers.{num, id_of, rect_at}

-- the call of a kind in a table
abbrev pub pick : ℕ → List (ℕ × Call) → Option Call
pick k [] = none
pick k (e ∷ es) = cond (eqb k e.0) (some e.1) (pick k es)

-- there is such a call, and P says what holds of it
pub record Picked (o : Option Call) (P : Call → Type 0) : Type 0 where
  pub call : Call
  pub is : o ≡ some call
  pub so : P call

-- "`show ID` · `hide ID` · `drop ID` · `mark ID`: show, hide, drop, mark"; "`move ID X Y`: move";
-- "`begin FULL`: begin; FULL is 0 or 1"; "`dim B`: dim; B is 0 or 1"; "`layer ID L`: set_layer";
-- "`display X Y W H`: add_display"; "`raise ID`: raise"; "`drag ID X Y`: drag"
abbrev pub window_calls : List ℕ → List (ℕ × Call)
window_calls ns =
    (Kind.show, Call.Show (id_of ns))
    ∷ (Kind.hide, Call.Hide (id_of ns))
    ∷ (Kind.drop, Call.Drop (id_of ns))
    ∷ (Kind.mark, Call.Mark (id_of ns))
    ∷ (Kind.move, Call.Move (id_of ns) (num ns 1) (num ns 2))
    ∷ (Kind.begin, Call.Begin (eqb (num ns 0) 1))
    ∷ (Kind.dim, Call.Dim (eqb (num ns 0) 1))
    ∷ (Kind.layer, Call.SetLayer (id_of ns) (num ns 1))
    ∷ (Kind.display, Call.AddDisplay (rect_at ns 0))
    ∷ (Kind.raise, Call.Raise (id_of ns))
    ∷ (Kind.drag, Call.Drag (id_of ns) (num ns 1) (num ns 2))
    ∷ []

-- "`keydown V` · `keyup V` · `keyfire V` · `text V`: route"; "`mousemove X Y`: route a MouseMove, its differences 0"; "`mousedown X Y B` ·
-- `mouseup X Y B`: route"; "`mouseclick X Y B N`: route"; "`resized`: route a Resize"
abbrev pub route_calls : List ℕ → List (ℕ × Call)
route_calls ns =
    (Kind.keydown, Call.Route (KeyDown (num ns 0)))
    ∷ (Kind.keyup, Call.Route (KeyUp (num ns 0)))
    ∷ (Kind.keyfire, Call.Route (KeyFire (num ns 0)))
    ∷ (Kind.text, Call.Route (Text (num ns 0)))
    ∷ (Kind.mousemove, Call.Route (MouseMove (num ns 0) (num ns 1) (pos 0) (pos 0)))
    ∷ (Kind.mousedown, Call.Route (MouseDown (num ns 0) (num ns 1) (num ns 2)))
    ∷ (Kind.mouseup, Call.Route (MouseUp (num ns 0) (num ns 1) (num ns 2)))
    ∷ (Kind.mouseclick, Call.Route (MouseClick (num ns 0) (num ns 1) (num ns 2) (num ns 3)))
    ∷ (Kind.resized, Call.Route Resize)
    ∷ []

-- "`who KIND A B C D`: route, telling who took it; KIND is 1 Resize, 2 KeyDown, 3 KeyUp, 4 KeyFire, 5 Text, 6 MouseMove,
-- 7 MouseDown, 8 MouseClick, 9 MouseUp"; "of 2 to 5 A is the value, of 6 to 9 A B is the point; C is the button and D the
-- count"
unfoldable pub who_event : List ℕ → Event
who_event ns =
    cond (eqb (num ns 0) 2) (KeyDown (num ns 1))
    (cond (eqb (num ns 0) 3) (KeyUp (num ns 1))
    (cond (eqb (num ns 0) 4) (KeyFire (num ns 1))
    (cond (eqb (num ns 0) 5) (Text (num ns 1))
    (cond (eqb (num ns 0) 6) (MouseMove (num ns 1) (num ns 2) (pos 0) (pos 0))
    (cond (eqb (num ns 0) 7) (MouseDown (num ns 1) (num ns 2) (num ns 3))
    (cond (eqb (num ns 0) 8) (MouseClick (num ns 1) (num ns 2) (num ns 3) (num ns 4))
    (cond (eqb (num ns 0) 9) (MouseUp (num ns 1) (num ns 2) (num ns 3)) Resize)))))))

-- "`resize ID W H`: resize"; "`fill ID X Y W H COLOUR`: fill"; "`blit ID X Y W H STRIDE DATA…`: blit"; "`maximise ID`: maximise_window";
-- "`update-dims`: update_dims". n is how many numbers the line has
abbrev pub store_calls : ℕ → List ℕ → List ℕ → List (ℕ × Call)
store_calls n ns store =
    (Kind.resize, Call.Resize (id_of ns) (num ns 1) (num ns 2) store)
    ∷ (Kind.fill, Call.Fill (id_of ns) (rect_at ns 1) (num ns 5) store)
    ∷ (Kind.blit, Call.Blit (id_of ns) (rect_at ns 1) (take (n - 6) (drop 6 ns)) (num ns 5) store)
    ∷ (Kind.maximise, Call.Maximise (id_of ns) store)
    ∷ (Kind.update_dims, Call.UpdateDims store)
    ∷ []

unfoldable pub plain_call : ℕ → List ℕ → Option Call
plain_call k ns = pick k (window_calls ns ++ route_calls ns)

unfoldable pub store_call : ℕ → ℕ → List ℕ → List ℕ → Option Call
store_call k n ns store = pick k (store_calls n ns store)

-- "`redraw FULL W H`: redraw; FULL is 0 or 1"; "`portion W H`: portion"
abbrev pub screen_call : ℕ → List ℕ → List ℕ → List ℕ → Call
screen_call k ns store screen =
    cond (eqb k Kind.portion) (Call.Portion (num ns 0) (num ns 1) store screen)
    (Call.Redraw (eqb (num ns 0) 1) (num ns 1) (num ns 2) store screen)

-- "`look ID XHI XLO YHI YLO FHI FLO TW TH`"; "`look-fit ID XHI XLO YHI YLO TW TH`": where TW stands
abbrev pub size_at : ℕ → ℕ
size_at k = cond (eqb k Kind.look_fit) 5 7

-- Which function plays a line -----------------------------------------------------------------------------------------

abbrev pub kinds : List (ℕ × Call) → List ℕ
kinds [] = []
kinds (e ∷ es) = e.0 ∷ kinds es

abbrev pub is_one : ℕ → List ℕ → Bool
is_one k [] = false
is_one k (j ∷ js) = eqb k j || is_one k js

abbrev pub within : ℕ → ℕ → ℕ → Bool
within low high k = leb low k && leb k high

-- an event is routed
abbrev pub routes : ℕ → Bool
routes k = within Kind.keydown Kind.resized k

-- a call is made that is lent nothing and hands back an answer alone
abbrev pub is_plain : ℕ → Bool
is_plain k = is_one k (kinds (window_calls [])) || routes k

-- the store is lent, to be written
abbrev pub OnStore : ℕ → Type 0
OnStore k = ((Kind.resize ≤ k) × (k ≤ Kind.blit)) ⊎ ((Kind.maximise ≤ k) × (k ≤ Kind.update_dims))

-- to a call that resizes windows, and counts no pixels
abbrev pub Resizes : ℕ → Type 0
Resizes k = (k ≡ Kind.resize) ⊎ ((Kind.maximise ≤ k) × (k ≤ Kind.update_dims))

-- of which calls the pixels altered are written too: `fill` and `blit`
abbrev pub is_counted : ℕ → Bool
is_counted k = eqb k Kind.fill || eqb k Kind.blit

-- pixels of the screen are lent
abbrev pub OnScreen : ℕ → Type 0
OnScreen k = (k ≡ Kind.redraw) ⊎ (k ≡ Kind.portion)

-- pixels of the screen are shown
abbrev pub OnShow : ℕ → Type 0
OnShow k = (k ≡ Kind.screen) ⊎ (k ≡ Kind.picture)

-- a target is lent
abbrev pub OnTarget : ℕ → Type 0
OnTarget k = (k ≡ Kind.look) ⊎ (k ≡ Kind.look_fit)

-- pixels or a list are lent
abbrev pub is_lent : ℕ → Bool
is_lent k =
    within Kind.resize Kind.blit k
    || (eqb k Kind.redraw || (eqb k Kind.portion || (eqb k Kind.visible || (eqb k Kind.hits || (eqb k Kind.look || (eqb k Kind.look_fit || (eqb k Kind.read_sheet || (within Kind.screen Kind.region k || within Kind.maximise Kind.update_dims k))))))))

-- pixels of the screen or of a window are shown, or what needs no session: `screen` to `region`
abbrev pub OnShown : ℕ → Type 0
OnShown k = (Kind.screen ≤ k) × (k ≤ Kind.region)

-- it says how much the next line of a kind is lent
abbrev pub is_lend : ℕ → Bool
is_lend k = is_one k (Kind.lend ∷ Kind.lend_screen ∷ Kind.lend_list ∷ Kind.lend_target ∷ Kind.lend_sheet ∷ [])

-- what the program has of it
abbrev pub most_lent : ℕ → ℕ
most_lent k =
    cond (eqb k Kind.lend) 6144000
    (cond (eqb k Kind.lend_screen) 3072000 (cond (eqb k Kind.lend_list) 7812 (cond (eqb k Kind.lend_target) 65536 2048)))

-- The program's calls: what the rules give for them, by computation, and that the code's calls are a run of them, by
-- their contracts.
use Rattle.std.proofs.Common.{ℕ, ◌≡◌, true, List, [], ◌∷◌, ◌++◌, replicate, false, Result, Ok, Err, refl, ap, ◌∙◌, is_ok, arith}
use Rattle.std.proofs.Math.Option.{some}
use Rattle.geom.specs.declared.Rect.{Rect}
use Rattle.geom.specs.declared.refusal.Refusal.{Refusal}
use Rattle.geom.specs.Geom as Geom
use Rattle.geom.specs.Geom.{rect}
use Rattle.geom.specs.Lists as Lists
use Rattle.geom.specs.Refusals.{answer_of}
use Rattle.geom.proofs.basics.Refusals.{number_positive}
use Rattle.scanline.specs.Altered as Altered
use Rattle.scanline.specs.Pixels as Pixels
use Rattle.window.specs.declared.Event.TheVariants as Kind
use Rattle.window.specs.Window as Window
use Rattle.rules.specs.Group as Group
use Rattle.rules.specs.Group.{Group}
use Rattle.rules.specs.Order as Order
use Rattle.rules.specs.Visible as Visible
use Rattle.rules.specs.Events as Events
use Rattle.rules.specs.Store as Store
use Rattle.rules.specs.Redraw as Draw
use Rattle.rules.specs.Calls as Calls
use Rattle.rules.specs.Calls.{Call, Made, Create, Show, Mark, Pop, Resize, Fill, Route, Redraw, does, after}
use Rattle.rules.specs.Panels.{Write}
use Rattle.windows.specs.declared.Session.{Session}
use Rattle.windows.specs.View.{Done, Created, Written, Popped, done, group, Starts, Meets, MeetsId, MeetsMark, MeetsStore, MeetsAltered, MeetsScreen, MeetsEvent}
use Rattle.windows.specs.Run.{calls, Kept, Run, started, called}
use Rattle.windows.proofs.demand.Runs.{made, calls_append, reached, by_meets, by_store, by_screen}

-- The calls -----------------------------------------------------------------------------------------------------------

-- the store's 64 pixels, of which the panel has the first four
abbrev pub store : ℕ → List ℕ
store colour = colour ∷ colour ∷ colour ∷ colour ∷ replicate 60 0

abbrev pub resize : Call
resize = Resize 0 2 2 (store 0)

abbrev pub fill : Call
fill = Fill 0 (rect 0 0 2 2) 7 (store 0)

abbrev pub redraw : Call
redraw = Redraw false 3 2 (store 7) (replicate 6 5)

abbrev pub press : Call
press = Route (Kind.MouseDown 1 1 1)

-- the calls so far, after each of them
abbrev pub after_create : List Call
after_create = Create ∷ []

abbrev pub after_resize : List Call
after_resize = after_create ++ (resize ∷ [])

abbrev pub after_show : List Call
after_show = after_resize ++ (Show 0 ∷ [])

abbrev pub after_fill : List Call
after_fill = after_show ++ (fill ∷ [])

abbrev pub after_mark : List Call
after_mark = after_fill ++ (Mark 0 ∷ [])

abbrev pub after_redraw : List Call
after_redraw = after_mark ++ (redraw ∷ [])

abbrev pub after_press : List Call
after_press = after_redraw ++ (press ∷ [])

abbrev pub after_pop : List Call
after_pop = after_press ++ (Pop 0 ∷ [])

-- the screen that the redraw leaves
abbrev pub picture : List ℕ
picture = 7 ∷ 7 ∷ 5 ∷ 7 ∷ 7 ∷ 5 ∷ []

-- What the rules give -------------------------------------------------------------------------------------------------

-- what the program checks, and the stores and the screen that its calls leave
record Computed : Type 0 where
  create_answer : (does (after 4 []) Create).answer ≡ 0
  resize_answer : (does (after 4 after_create) resize).answer ≡ 0
  resize_store : (does (after 4 after_create) resize).store ≡ store 0
  show_answer : (does (after 4 after_resize) (Show 0)).answer ≡ 0
  fill_answer : (does (after 4 after_show) fill).answer ≡ 0
  fill_store : (does (after 4 after_show) fill).store ≡ store 7
  fill_altered : (does (after 4 after_show) fill).altered ≡ 4
  mark_answer : (does (after 4 after_fill) (Mark 0)).answer ≡ 0
  redraw_answer : (does (after 4 after_mark) redraw).answer ≡ 0
  redraw_screen : (does (after 4 after_mark) redraw).screen ≡ picture
  press_answer : (does (after 4 after_redraw) press).answer ≡ 0
  pop_answer : (does (after 4 after_press) (Pop 0)).answer ≡ 0
  pop_event : (does (after 4 after_pop) (Pop 0)).event ≡ some (Kind.MouseDown 1 1 1)

computed : Computed
unfolding Geom.meets Geom.common Geom.contains Geom.contains_rect Geom.pieces Geom.around Geom.if_any Lists.outside Lists.outside_all Lists.meets_of Lists.list_intersect Altered.altered Pixels.write_rows Pixels.resized_at Window.add_dirty Window.any_contains Window.merges Window.merge_or_append Window.pushed Group.create Group.mark Order.show Visible.visible Events.route Events.pop Store.resize Store.fill Store.filled_at Draw.redraw Calls.does Calls.run Calls.after
computed =
    record {
      create_answer = refl;
      resize_answer = refl;
      resize_store = refl;
      show_answer = refl;
      fill_answer = refl;
      fill_store = refl;
      fill_altered = refl;
      mark_answer = refl;
      redraw_answer = refl;
      redraw_screen = refl;
      press_answer = refl;
      pop_answer = refl;
      pop_event = refl;
    }

-- What the contracts give ---------------------------------------------------------------------------------------------

-- the program's run: the calls ks led to the session s
record Ran (ks : List Call) (s : Session) : Type 0 where
  steps : List Made
  run : Run 4 steps s
  all : calls steps ≡ ks

abbrev given : {ks : List Call} {s : Session} → Ran ks s → group s ≡ after 4 ks
given p = reached p.run ∙ ap (after 4) p.all

-- r is what the call k gave after the calls ks
record Next (ks : List Call) (k : Call) (r : Done) : Type 0 where
  answer : r.answer ≡ (does (after 4 ks) k).answer
  ran : Ran (ks ++ (k ∷ [])) r.session

-- the code's call j is the call k, and the run goes on with it. It left the store and the screen, where it was lent
-- them
next : {j : Call} {s : Session} {r : Done} {store screen : List ℕ} (ks : List Call) (k : Call) → j ≡ k → Ran ks s
    → Kept (made j r store screen) s r.session → Next ks k r
next ks k same p m =
    record {
      answer = m.meets.answer ∙ (λ i. (does (given p i) (same i)).answer);
      ran = record { steps = _; run = called p.run m; all = calls_append p.steps _ ∙ (λ i. p.all i ++ (same i ∷ [])) };
    }

-- a call that was answered 0 is Ok
pub ok : {A : Type 0} (r : Result A Refusal) → answer_of r ≡ 0 → is_ok r ≡ true
ok (Ok a) e = refl
ok (Err refusal) e = absurd (let p = number_positive refusal in omega arith)

-- The code's calls in their order, each by its contract, and what is known after it
module _ {r₀ : Done} (start : Starts 4 r₀) where
  module _ {r₁ : Created} (create : MeetsId Create r₀.session r₁) where
    created : Next [] Create (done r₁.session r₁.answer)
    created = next [] Create refl (record { steps = []; run = started start; all = refl }) (by_meets refl refl create.meets)

    pub created_0 : r₁.answer ≡ 0
    created_0 = created.answer ∙ computed.create_answer

    module _ {r₂ : Done} {cleared : List ℕ} (size : MeetsStore resize r₁.session r₂ cleared) where
      resized : Next after_create resize r₂
      resized = next after_create resize refl created.ran (by_store refl size)

      pub resized_0 : r₂.answer ≡ 0
      resized_0 = resized.answer ∙ computed.resize_answer

      cleared_is : cleared ≡ store 0
      cleared_is = size.stored ∙ ap (λ (g : Group). (does g resize).store) (given created.ran) ∙ computed.resize_store

      module _ {r₃ : Done} (show : Meets (Show 0) r₂.session r₃) where
        shown : Next after_resize (Show 0) r₃
        shown = next after_resize (Show 0) refl resized.ran (by_meets refl refl show)

        pub shown_0 : r₃.answer ≡ 0
        shown_0 = shown.answer ∙ computed.show_answer

        module _ {r₄ : Written} {area : Rect} {coloured : List ℕ} (whole : area ≡ rect 0 0 2 2)
            (paint : MeetsAltered 0 (Write.fill area 7) cleared r₃.session r₄ coloured) where
          same_fill : Fill 0 area 7 cleared ≡ fill
          same_fill = λ i. Fill 0 (whole i) 7 (cleared_is i)

          filled : Next after_show fill (done r₄.session r₄.answer)
          filled = next after_show fill same_fill shown.ran (by_store refl paint.meets)

          pub filled_0 : r₄.answer ≡ 0
          filled_0 = filled.answer ∙ computed.fill_answer

          pub altered_4 : r₄.altered ≡ 4
          altered_4 = paint.altered ∙ (λ i. (does (given shown.ran i) (same_fill i)).altered) ∙ computed.fill_altered

          coloured_is : coloured ≡ store 7
          coloured_is = paint.meets.stored ∙ (λ i. (does (given shown.ran i) (same_fill i)).store) ∙ computed.fill_store

          module _ {r₅ : Done} (note : MeetsMark 0 r₄.session r₅) where
            marked : Next after_fill (Mark 0) r₅
            marked = next after_fill (Mark 0) refl filled.ran (by_meets refl refl note.meets)

            pub marked_0 : r₅.answer ≡ 0
            marked_0 = marked.answer ∙ computed.mark_answer

            module _ {r₆ : Done} {screen : List ℕ} (draw : MeetsScreen (Redraw false 3 2 coloured (replicate 6 5)) r₅.session r₆ screen) where
              same_redraw : Redraw false 3 2 coloured (replicate 6 5) ≡ redraw
              same_redraw = ap (λ (l : List ℕ). Redraw false 3 2 l (replicate 6 5)) coloured_is

              redrawn : Next after_mark redraw r₆
              redrawn = next after_mark redraw same_redraw marked.ran (by_screen draw)

              pub redrawn_0 : r₆.answer ≡ 0
              redrawn_0 = redrawn.answer ∙ computed.redraw_answer

              pub screen_is : screen ≡ picture
              screen_is = draw.shown ∙ (λ i. (does (given marked.ran i) (same_redraw i)).screen) ∙ computed.redraw_screen

              module _ {r₇ : Done} (route : Meets press r₆.session r₇) where
                pressed : Next after_redraw press r₇
                pressed = next after_redraw press refl redrawn.ran (by_meets refl refl route)

                pub pressed_0 : r₇.answer ≡ 0
                pressed_0 = pressed.answer ∙ computed.press_answer

                module _ {r₈ : Popped} (pop : MeetsEvent (Pop 0) r₇.session r₈) where
                  popped : Next after_press (Pop 0) (done r₈.session r₈.answer)
                  popped = next after_press (Pop 0) refl pressed.ran (by_meets refl refl pop.meets)

                  pub popped_0 : r₈.answer ≡ 0
                  popped_0 = popped.answer ∙ computed.pop_answer

                  pub second_is : {r₉ : Popped} → MeetsEvent (Pop 0) r₈.session r₉ → r₉.event ≡ some (Kind.MouseDown 1 1 1)
                  second_is again = again.event ∙ ap (λ (g : Group). (does g (Pop 0)).event) (given popped.ran) ∙ computed.pop_event

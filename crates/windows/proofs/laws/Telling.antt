-- A window told of an event: a move, an event that finds a free place, and one that does not; and the window in its session.
use Prim.Native.Nat.{ℕ, zero, suc, ◌≤◌, ◌<◌}
use mathlib.Core.Path.{◌≡◌, refl, sym, ap, subst, ◌∙◌}
use mathlib.Core.Bool.{Bool, true, false, cond}
use mathlib.Core.List.{List, [], ◌∷◌, ◌++◌}
use mathlib.Core.Option.{Option, some}
use native.Mathlib.Omega.{arith}
use lib.IntN.{ℤ}
use lib.Dec.{ltb, eqb, eqb-suc-zero}
use lib.ListN.{length}
use borrow.Author.Tests.{lt-ltb, le-ltb}
use Rattle.geom.specs.Questions.{Question, ◌is◌, asked}
use Rattle.window.specs.declared.Event.{Event}
use Rattle.window.specs.declared.Event.TheVariants.{Resize, KeyDown, KeyUp, KeyFire, Text, MouseMove, MouseDown, MouseClick, MouseUp}
use Rattle.window.specs.declared.CursorPos.{CursorPos}
use Rattle.window.specs.declared.Window.{Window}
use Rattle.window.specs.declared.queue.Queue.{Queue}
use Rattle.window.specs.declared.ids.WinId.{WinId}
use Rattle.window.specs.Window.{Win, pushed, cursor_to}
use Rattle.window.specs.Represents.{win_of, events, RepCursor, RepWindow}
use Rattle.window.specs.inner.Changes.{Queued, PushedTo}
use Rattle.window.proofs.laws.Events.{events_count}
use Rattle.rules.specs.Group.{Group, Outcome, win, set_win, with_grab, leaves}
use Rattle.rules.specs.Events.{with_queue, with_cursor}
use Rattle.rules.specs.Calls.{Call, does}
use Rattle.order.specs.Ids.{grab_of}
use Rattle.windows.specs.declared.Session.{Session}
use Rattle.windows.specs.View.{group, window_at, Rep, Given, Meets, done}
use Rattle.windows.specs.inner.One.{with_window}
use Rattle.windows.specs.inner.Sharing.{grabbing}
use Rattle.windows.specs.inner.Events.{move_or, Tellable, takes, told, ToldTo}
use Rattle.windows.specs.inner.Aimed.{remembered}
use Rattle.windows.proofs.laws.Session.{win_at_lem, put_group, put_rep, refuses, gives}
use Rattle.windows.proofs.laws.One.{put_back}
use Rattle.windows.proofs.laws.Parts.{set_queue, set_cursor, queue_rep, cursor_rep}

-- One window ---------------------------------------------------------------------------------------------------------

-- what the last arm of a match knows, whose other arm is a move's: the event is of another kind
abbrev pub Other : Event → Type 0
Other e = (x y : ℕ) (dx dy : ℤ) → e ≡ MouseMove x y dx dy → ⊥

by_other {ℓ} : {A : Type ℓ} (move : ℕ → ℕ → A) (other : Event → A) (e : Event) → Other e → move_or move other e ≡ other e
by_other move other Resize k = refl
by_other move other (KeyDown v) k = refl
by_other move other (KeyUp v) k = refl
by_other move other (KeyFire v) k = refl
by_other move other (Text v) k = refl
by_other move other (MouseMove x y dx dy) k = absurd (k x y dx dy refl)
by_other move other (MouseDown x y b) k = refl
by_other move other (MouseClick x y b n) k = refl
by_other move other (MouseUp x y b) k = refl

pub queued : (e : Event) → Other e → Tellable e → Queued e
queued e k h = subst (λ (P : Type 0). P) (by_other (λ x y. (x ≤ 32767) × (y ≤ 32767)) Queued e k) h

module _ (w : Window) (r : RepWindow w) (e : Event) where
  pub moves : {x y : ℕ} {dx dy : ℤ} → e ≡ MouseMove x y dx dy → (p : CursorPos) → p ≡ cursor_to w.cursor x y → RepCursor p
      → ToldTo w e (set_cursor p w) 0
  moves k p to h =
      subst (λ (o : Event). ToldTo w o (set_cursor p w) 0) (sym k)
      (record {
        answer = refl;
        becomes = ap (λ (q : CursorPos). with_cursor q (win_of w)) to;
        same = λ n. absurd (n refl);
        used = refl;
        rep = cursor_rep p w r h;
      })

  module _ (k : Other e) where
    takes_is : takes (win_of w) e ≡ ltb (length (events w.queue)) 16
    takes_is = by_other (λ x y. true) (λ _. ltb (length (events w.queue)) 16) e k

    told_is : told (win_of w) e ≡ with_queue (pushed (events w.queue) e) (win_of w)
    told_is =
        by_other (λ x y. with_cursor (cursor_to w.cursor x y) (win_of w)) (λ o. with_queue (pushed (events w.queue) o) (win_of w)) e k

    pub joins : w.queue.len < 16 → (q : Queue) → PushedTo w.queue e q → ToldTo w e (set_queue q w) 0
    joins l q h =
        record {
          answer =
              sym
              (ap (λ (b : Bool). asked ((12 is b) ∷ []))
              (takes_is ∙ lt-ltb (length (events w.queue)) 16 (omega (arith, events_count w.queue r.queue))));
          becomes = ap (λ (l : List Event). with_queue l (win_of w)) h.is ∙ sym told_is;
          same = λ n. absurd (n refl);
          used = refl;
          rep = queue_rep q w r h.rep;
        }

    pub dropped : 16 ≤ w.queue.len → ToldTo w e w 12
    unfolding pushed
    dropped l =
        let full : ltb (length (events w.queue)) 16 ≡ false =
        le-ltb (length (events w.queue)) 16 (omega (arith, events_count w.queue r.queue)) in
        record {
          answer = sym (ap (λ (b : Bool). asked ((12 is b) ∷ [])) (takes_is ∙ full));
          becomes =
              sym (told_is ∙ ap (λ (b : Bool). with_queue (cond b (events w.queue ++ (e ∷ [])) (events w.queue)) (win_of w)) full);
          same = λ n. refl;
          used = refl;
          rep = r;
        }

-- The window of a session --------------------------------------------------------------------------------------------

-- a window put back, and another one remembered
grab_group : (s : Session) (id : ℕ) (v : Window) (m : WinId) → v.used ≡ true
    → group (with_window id v (grabbing m s.shared) s) ≡ with_grab (grab_of m) (set_win id (some (win_of v)) (group s))
unfolding group
grab_group s id v m u = ap (λ (g : Group). with_grab (grab_of m) g) (put_group s id v u)

grab_rep : (s : Session) (id : ℕ) (v : Window) (m : WinId) → Rep s → RepWindow v → Rep (with_window id v (grabbing m s.shared) s)
grab_rep s id v m r h =
    let q = put_rep s id v r h in
    record { windows = q.windows; order = q.order; shown = q.shown; each = q.each; displays = q.displays }

-- a call whose last question is 12, and which tells one window; `held` is remembered then, which m stands for
module _ (k : Call) (s : Session) (id : ℕ) (e : Event) (v : Window) (n : ℕ) (h : Given s)
    (u : (window_at s id).used ≡ true) (to : ToldTo (window_at s id) e v n)
    (m : WinId) (grab : Option ℕ) (stands : grab_of m ≡ grab)
    (qs : List Question) (d : does (group s) k ≡ leaves qs (group s) (with_grab grab (set_win id (some (told (win (group s) id) e)) (group s))))
    (a : asked qs ≡ asked ((12 is takes (win (group s) id) e) ∷ [])) where
  answers : asked qs ≡ n
  answers = a ∙ ap (λ (w : Win). asked ((12 is takes w e) ∷ [])) (win_at_lem s id u) ∙ sym to.answer

  -- what the call leaves, by its answer
  abbrev Left : ℕ → Type 0
  Left j = Meets k s (done (with_window id v (remembered j m s.shared) s) j)

  tells_yes : n ≡ 0 → Left 0
  tells_yes z =
      gives k s _ h (grab_rep s id v m h.rep to.rep) (ap (λ (o : Outcome). o.answer) d ∙ answers ∙ z)
      (grab_group s id v m (to.used ∙ u)
      ∙ (λ i. with_grab (stands i) (set_win id (some ((to.becomes ∙ ap (λ (w : Win). told w e) (sym (win_at_lem s id u))) i)) (group s)))
      ∙ sym
      (ap (λ (o : Outcome). o.group) d
      ∙ ap
      (λ (j : ℕ). cond (eqb j 0) (with_grab grab (set_win id (some (told (win (group s) id) e)) (group s))) (group s))
      (answers ∙ z)))

  tells_no : (j : ℕ) → n ≡ suc j → Left (suc j)
  tells_no j z =
      let was : window_at s id ≡ v = sym (to.same (λ o. let q : suc j ≡ 0 = sym z ∙ o in omega arith)) in
      rw (eqb-suc-zero j)
      (subst (λ (r : Session). Meets k s (done r (suc j))) (sym (put_back s id was refl))
      (refuses k s j h (ap (λ (o : Outcome). o.answer) d ∙ answers ∙ z)))

  pub tells : Left n
  tells = go n refl
    where
      go : (j : ℕ) → n ≡ j → Left j
      go zero z = tells_yes z
      go (suc j) z = tells_no j z

-- Demand 1 of the program: "The answer to every call, with any arguments, is 0 or the number of the first failed
-- question of document 01; a refused call changes no session, store, list or screen." Of the calls that a caller made,
-- and of the next one, by their contracts. The questions are the tables of `rules/specs/Demand1.antt`.
use Rattle.std.specs.Prelude.{ℕ, ◌≡◌, ◌≢◌, List, [], ◌∷◌, ◌++◌}
use Rattle.std.proofs.Math.Option.{none, some}
use Rattle.geom.specs.Questions.{◌is◌, asked}
use Rattle.geom.specs.Refusals.{Listing}
use Rattle.geom.specs.Lists.{numbers}
use Rattle.geom.specs.declared.Rect.{Rect}
use Rattle.window.specs.declared.ids.WinId.{WinId}
use Rattle.look.specs.declared.Look as View
use Rattle.rules.specs.Group.{Group, allowed_c, fresh}
use Rattle.rules.specs.Calls.{Call, Mark, Made, after}
use Rattle.rules.specs.Panels.{Write, call_of}
use Rattle.rules.specs.Conditions.{lent_store, lent_screen}
use Rattle.rules.specs.Stale.{stale}
use Rattle.rules.specs.Waiting.{waiting}
use Rattle.rules.specs.State.{window_state, session_state}
use Rattle.rules.specs.Demand1 as Rule
use Rattle.rules.specs.Demand1.{questions, Query, query_questions, Reply, reply, refusal, bit, located_numbers}
use Rattle.display.specs.Represents.{located_of}
use Rattle.windows.specs.declared.Session.{Session}
use Rattle.windows.specs.declared.SessionState.{SessionState}
use Rattle.windows.specs.View.{Done, Written, Created, Popped, Placed, InView, ForPos, Stale, WindowState, group, Meets, MeetsStore, MeetsAltered, MeetsMark, MeetsScreen, MeetsId, MeetsEvent, Starts, Lists, Shares, Prints, Hits, Looks, Locates, placed, stale_of, window_of, state_of}
use Rattle.windows.specs.Run.{calls, Run}

-- The calls that were made ------------------------------------------------------------------------------------------

-- a call that was made while the session held the group g: its answer is the table's, and, where it was refused, the
-- store and the screen are as it was lent them
pub record WasAnswered (g : Group) (m : Made) : Type 0 where
  pub answer : m.answer ≡ asked (questions g m.call)
  pub store : m.answer ≢ 0 → (p : List ℕ) → lent_store m.call ≡ some p → m.store ≡ p
  pub screen : m.answer ≢ 0 → (z : List ℕ) → lent_screen m.call ≡ some z → m.screen ≡ z

-- each call of a run: the calls before it are ms₁
unfoldable pub RunAnswered : ℕ → List Made → Type 0
RunAnswered c ms = (ms₁ : List Made) (m : Made) (rest : List Made) → ms ≡ ms₁ ++ (m ∷ rest) → WasAnswered (after c (calls ms₁)) m

-- The next call -----------------------------------------------------------------------------------------------------

-- the answer of call k, made on session s, and the session t that it hands back: a refused call hands back the very
-- session
pub record Answered (s : Session) (k : Call) (a : ℕ) (t : Session) : Type 0 where
  pub answer : a ≡ asked (questions (group s) k)
  pub same : a ≢ 0 → t ≡ s

-- what a query hands back is the table's answer and, where it was refused, what it was lent as it was, and zeros
pub record Replied (s : Session) (q : Query) (r : Reply) : Type 0 where
  pub answer : r.answer ≡ asked (query_questions (group s) q)
  pub refused : r.answer ≢ 0 → r ≡ refusal q r.answer

-- how a window stands and how the session does, as numbers
abbrev pub window_numbers : WindowState → List ℕ
window_numbers w =
    numbers (w.rect ∷ [])
    ++ (bit w.shown ∷ w.place ∷ w.layer ∷ bit w.maximised ∷ bit w.marked ∷ w.queued ∷ bit w.moved ∷ [])

abbrev pub session_numbers : SessionState → List ℕ
session_numbers t =
    t.c ∷ t.shown ∷ t.focus.0 ∷ t.grab.0 ∷ bit t.dimmed ∷ bit t.owed ∷ bit t.walk ∷ bit t.full ∷ t.left ∷ t.displays ∷ []

-- of session s, for each contract that a call may have: r is what the call hands back, `lent` the store, screen, list,
-- buffer or target that it was lent, and `left` the same after it
pub record NextCall (s : Session) : Type 0 where
  -- the calls of the list: "an id or event asked for is then absent", and 0 pixels are altered
  pub call : (k : Call) (r : Done) → Meets k s r → Answered s k r.answer r.session
  pub stored : (k : Call) (r : Done) (lent left : List ℕ) → lent_store k ≡ some lent → MeetsStore k s r left
      → Answered s k r.answer r.session × (r.answer ≢ 0 → left ≡ lent)
  pub altered : (id : ℕ) (u : Write) (r : Written) (lent left : List ℕ) → lent_store (call_of id u lent) ≡ some lent
      → MeetsAltered id u lent s r left
      → Answered s (call_of id u lent) r.answer r.session × (r.answer ≢ 0 → (left ≡ lent) × (r.altered ≡ 0))
  pub marked : (id : ℕ) (r : Done) → MeetsMark id s r → Answered s (Mark id) r.answer r.session
  pub drawn : (k : Call) (r : Done) (lent left : List ℕ) → lent_screen k ≡ some lent → MeetsScreen k s r left
      → Answered s k r.answer r.session × (r.answer ≢ 0 → left ≡ lent)
  pub created : (k : Call) (r : Created) → MeetsId k s r
      → Answered s k r.answer r.session × (r.answer ≢ 0 → r.id ≡ none)
  pub popped : (k : Call) (r : Popped) → MeetsEvent k s r
      → Answered s k r.answer r.session × (r.answer ≢ 0 → r.event ≡ none)
  -- the calls that change nothing
  pub visible : (id : ℕ) (lent left : List ℕ) (r : Listing) → Lists (group s) id lent r left
      → Replied s (Rule.Visible id lent) (reply r.answer left (r.count ∷ []))
  pub share : (id : ℕ) (r : InView) → Shares (group s) id r
      → Replied s (Rule.Share id) (reply r.answer [] (r.percent ∷ r.remainder ∷ []))
  pub sheet : (id : ℕ) (lent left : List ℕ) (r : Listing) → Prints (group s) id lent r left
      → Replied s (Rule.Sheet id lent) (reply r.answer left (r.count ∷ []))
  pub hits : (points lent left : List ℕ) (a : ℕ) → Hits (group s) points lent a left
      → Replied s (Rule.Hits points lent) (reply a left [])
  pub look : (id : ℕ) (l : View.Look) (store lent left : List ℕ) (tw th a : ℕ) → Looks (group s) id l store lent tw th a left
      → Replied s (Rule.Look id l store lent tw th) (reply a left [])
  pub display : (px py : ℕ) (r : ForPos) → Locates (group s) px py r
      → Replied s (Rule.GetDisplayForPos px py) (reply r.answer [] (located_numbers (located_of r.located)))
  pub rect : (id : ℕ) (r : Placed) → r ≡ placed (group s) id
      → Replied s (Rule.RectOf id) (reply r.answer [] (numbers (r.rect ∷ [])))
  pub focus : (f : WinId) → f.0 ≡ (group s).focus → Replied s Rule.Focus (reply 0 [] (f.0 ∷ []))
  pub stale : (which : ℕ) (area : Rect) (r : Stale) → r ≡ stale_of (stale (group s) which area)
      → Replied s (Rule.Stale which area) (reply r.answer [] (bit r.due ∷ numbers (r.rect ∷ [])))
  pub waiting : (n : ℕ) → n ≡ waiting (group s) → Replied s Rule.Waiting (reply 0 [] (n ∷ []))
  pub window : (id : ℕ) (r : WindowState) → r ≡ window_of (window_state (group s) id)
      → Replied s (Rule.Window id) (reply r.answer [] (window_numbers r))
  pub session : (r : SessionState) → r ≡ state_of (session_state (group s)) → Replied s Rule.Session (reply 0 [] (session_numbers r))

-- a start: "On a no the session handed over is a fresh one with C = 1."
pub record StartAnswered (c : ℕ) (r : Done) : Type 0 where
  pub answer : r.answer ≡ asked ((2 is allowed_c c) ∷ [])
  pub refused : r.answer ≢ 0 → group r.session ≡ fresh 1

-- The demand --------------------------------------------------------------------------------------------------------

-- of every start, and after every run of each call that was made and of any call that is made next
pub record ProgramDemand1 : Type 0 where
  pub starts : (c : ℕ) (r : Done) → Starts c r → StartAnswered c r
  pub made : (c : ℕ) (ms : List Made) (s : Session) → Run c ms s → RunAnswered c ms
  pub next : (c : ℕ) (ms : List Made) (s : Session) → Run c ms s → NextCall s

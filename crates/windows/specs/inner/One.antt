-- A call as a function of one window and of what the windows share: what it promises of every session that holds them.
use Rattle.std.specs.Prelude.{ℕ, ◌<◌, ◌≡◌, true, false, set}
use Rattle.window.specs.declared.Window.{Window}
use Rattle.rules.specs.Calls.{Call}
use Rattle.windows.specs.declared.Shared.{Shared}
use Rattle.windows.specs.declared.Session.{Session}
use Rattle.window.specs.Window.{cursor_at_origin}
use Rattle.windows.specs.View.{window_at, done, Given, Meets, MeetsMark}

-- where the window of an id lies: at its number. Any place will do for a number that no window has
pub record At (id at : ℕ) : Type 0 where
  pub inside : at < 16
  pub same : id < 16 → at ≡ id

-- the session s holds this window at the id's place, and shares this
pub record Holds (id : ℕ) (w : Window) (k : Shared) (s : Session) (at : ℕ) : Type 0 where
  pub given : Given s
  pub place : At id at
  pub window : window_at s at ≡ w
  pub shared : s.shared ≡ k

-- some session does
pub record Held (id : ℕ) (w : Window) (k : Shared) : Type 0 where
  pub session : Session
  pub at : ℕ
  pub holds : Holds id w k session at

-- what a call makes of one window and of what the windows share, and the answer
pub record Changed : Type 0 where
  pub window : Window
  pub shared : Shared
  pub answer : ℕ

abbrev pub changed : Window → Shared → ℕ → Changed
changed w k a = record { window = w; shared = k; answer = a }

-- some session shares this
pub record SharedBy (k : Shared) : Type 0 where
  pub session : Session
  pub given : Given session
  pub shared : session.shared ≡ k

-- the session with another window at a place, sharing k
abbrev pub with_window : ℕ → Window → Shared → Session → Session
with_window at w k s = record { windows = set s.windows at w; shared = k; displays = s.displays }

-- every session that holds the window, with the new one put in its place, is the session that the call promises
abbrev pub MeetsAt : Call → ℕ → Window → Shared → Changed → Type 0
MeetsAt call id w k r =
    (s : Session) (at : ℕ) → Holds id w k s at → Meets call s (done (with_window at r.window r.shared s) r.answer)

-- the same of a mark
abbrev pub MeetsMarkAt : ℕ → Window → Shared → Changed → Type 0
MeetsMarkAt id w k r = (s : Session) (at : ℕ) → Holds id w k s at → MeetsMark id s (done (with_window at r.window r.shared s) r.answer)

-- the same of a call that touches what the windows share and no window, and is never refused: every session that shares this, with what the
-- call makes of it
abbrev pub MeetsShared : Call → Shared → Shared → Type 0
MeetsShared call k r = (s : Session) → Given s → s.shared ≡ k → Meets call s (done (record { windows = s.windows; shared = r; displays = s.displays }) 0)

-- a new window in the place of another, whose arrays stay as they were past the entries
abbrev pub renewed : Window → Window
renewed w =
    record {
      queue = record { slots = w.queue.slots; head = w.queue.head; len = 0 };
      damage = record { areas = w.damage.areas; len = 0 };
      at = record { x = 0; y = 0; w = 0; h = 0 };
      cursor = cursor_at_origin;
      used = true;
      marked = false;
    }

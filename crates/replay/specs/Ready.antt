-- What holds of a player between two lines, and how a line leaves it.
use Rattle.std.specs.Prelude.{ℕ, ◌+◌, ◌≤◌, ◌≡◌, cond, ltb, List, Option, Some, None}
use Rattle.windows.specs.declared.Session.{Session}
use Rattle.windows.specs.View.{Given}
use Rattle.answer_text.specs.Text.{Piece}
use Rattle.answer_text.specs.Added.{Output, Says, waits}
use Rattle.replay.specs.declared.player.Player.{Player}

-- where so much was said to be lent, it is at most n
abbrev pub Within : ℕ → Option ℕ → Type 0
Within n (Some m) = m ≤ n
Within n None = Unit

-- "a store of at most 6,144,000 pixels, a screen of at most 3,072,000 (6,400 × 480), a list of at most 7,812 numbers, a
-- target of at most 65,536 pixels, a buffer of at most 2,048 bytes"; the session is one that a start and later calls gave, and what waits to be written
-- has its place in the output's block
pub record Ready (p : Player) : Type 0 where
  pub given : Given p.session
  pub lent : p.lent ≤ 6144000
  pub screen : Within 3072000 p.screen
  pub list : Within 7812 p.list
  pub target : Within 65536 p.target
  pub sheet : Within 2048 p.sheet
  pub at : (waits p.out).at ≤ 65536
  pub sent : p.out.sent ≤ 18446744073709551615

-- r is p with the session s, and the text ps was added to its output
pub record Next (ps : List Piece) (p : Player) (s : Session) (r : Player) : Type 0 where
  pub ready : Ready r
  pub adds : Says ps p.out r.out
  pub session : r.session ≡ s
  pub lent : r.lent ≡ p.lent
  pub screen : r.screen ≡ p.screen
  pub list : r.list ≡ p.list
  pub target : r.target ≡ p.target
  pub sheet : r.sheet ≡ p.sheet
  pub lines : r.lines ≡ p.lines

-- the output is this
abbrev pub with_output : Output → Player → Player
with_output o p = record { session = p.session; lent = p.lent; screen = p.screen; list = p.list; target = p.target; sheet = p.sheet; out = o; lines = p.lines }

-- a store of n pixels is lent
abbrev pub lend_store : ℕ → Player → Player
lend_store n p = record { session = p.session; lent = n; screen = p.screen; list = p.list; target = p.target; sheet = p.sheet; out = p.out; lines = p.lines }

-- the next redraw or portion is lent a screen of n pixels
abbrev pub lend_screen : ℕ → Player → Player
lend_screen n p = record { session = p.session; lent = p.lent; screen = Some n; list = p.list; target = p.target; sheet = p.sheet; out = p.out; lines = p.lines }

-- nothing was said of the next screen
abbrev pub unset : Player → Player
unset p = record { session = p.session; lent = p.lent; screen = None; list = p.list; target = p.target; sheet = p.sheet; out = p.out; lines = p.lines }

-- the next visible list, hits or reader of a sheet is lent n numbers
abbrev pub lend_list : ℕ → Player → Player
lend_list n p = record { session = p.session; lent = p.lent; screen = p.screen; list = Some n; target = p.target; sheet = p.sheet; out = p.out; lines = p.lines }

-- nothing was said of the next list
abbrev pub unlisted : Player → Player
unlisted p = record { session = p.session; lent = p.lent; screen = p.screen; list = None; target = p.target; sheet = p.sheet; out = p.out; lines = p.lines }

-- the next look is lent a target of n pixels
abbrev pub lend_target : ℕ → Player → Player
lend_target n p = record { session = p.session; lent = p.lent; screen = p.screen; list = p.list; target = Some n; sheet = p.sheet; out = p.out; lines = p.lines }

-- nothing was said of the next target
abbrev pub untargeted : Player → Player
untargeted p = record { session = p.session; lent = p.lent; screen = p.screen; list = p.list; target = None; sheet = p.sheet; out = p.out; lines = p.lines }

-- the next sheet is lent a buffer of n bytes
abbrev pub lend_sheet : ℕ → Player → Player
lend_sheet n p = record { session = p.session; lent = p.lent; screen = p.screen; list = p.list; target = p.target; sheet = Some n; out = p.out; lines = p.lines }

-- nothing was said of the next buffer
abbrev pub unsheeted : Player → Player
unsheeted p = record { session = p.session; lent = p.lent; screen = p.screen; list = p.list; target = p.target; sheet = None; out = p.out; lines = p.lines }

-- "N being the line's number counted from 1, all lines counted", as far as 64 bits go
abbrev pub counted : Player → Player
counted p =
    record {
      session = p.session;
      lent = p.lent;
      screen = p.screen;
      list = p.list;
      target = p.target;
      sheet = p.sheet;
      out = p.out;
      lines = cond (ltb p.lines 18446744073709551615) (p.lines + 1) p.lines;
    }

-- what was said to be lent, or as much as else
abbrev pub lent_or : ℕ → Option ℕ → ℕ
lent_or other (Some n) = n
lent_or other None = other

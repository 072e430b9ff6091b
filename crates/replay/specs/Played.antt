-- What playing a line does to the player and to the pixels that it lends: the tables of CALL-SCRIPT.md, a constructor for each row or
-- for the rows that are alike.
use Rattle.std.specs.Prelude.{ℕ, ◌*◌, ◌/◌, ◌≤◌, ◌<◌, ◌≡◌, Bool, true, cond, ◌⊎◌, List, [], ◌++◌, eqb, length, take, drop, replicate}
use Rattle.script.specs.declared.shape.Line.{Line}
use Rattle.script.specs.Kind as Kind
use Rattle.script.specs.Kind.{code_of}
use Rattle.script.specs.Script.{hears, heard_of}
use Rattle.rules.specs.Group.{Group, start, session_c}
use Rattle.rules.specs.Visible.{visible_list}
use Rattle.rules.specs.Hits.{hits}
use Rattle.rules.specs.Calls.{Call, does}
use Rattle.windows.specs.declared.Session.{Session}
use Rattle.geom.specs.Refusals.{Listing}
use Rattle.windows.specs.View.{Done, Written, group, done, Meets}
use Rattle.replay.specs.declared.player.Player.{Player}
use Rattle.busiest.specs.Busiest.{busiest}
use Rattle.sheet.specs.Reader.{Reads}
use Rattle.rules.specs.DisplayAt.{display_at}
use Rattle.rules.specs.Share.{share}
use Rattle.rules.specs.Sheets.{sheet}
use Rattle.rules.specs.Stale.{stale}
use Rattle.rules.specs.State.{window_state, session_state}
use Rattle.rules.specs.Taker.{taker}
use Rattle.answer_text.specs.Text.{Piece, line, beyond, malformed}
use Rattle.bare_lines.specs.Numbers.{num, id_of, rect_at}
use Rattle.bare_lines.specs.Told.{rect_line, pixel_line, part_line}
use Rattle.replay.specs.Called.{Picked, plain_call, store_call, who_event, is_counted, OnScreen, OnShow, screen_call, OnTarget}
use Rattle.replay.specs.Ready.{Next, lend_store, lend_screen, unset, lend_list, unlisted, lend_target, untargeted, lend_sheet, unsheeted, counted, lent_or}
use Rattle.replay.specs.Looks.{target_len, asks}
use Rattle.replay.specs.Told.{create_line, pop_line, who_line, wrote_line, waiting_line, stale_line, display_line, rects_line, focus_line, window_line, session_line, share_line, hits_line, sheet_line, busiest_line, screen_line, pixels_line}

-- "The program owns one store, one screen"
pub record Pixels : Type 0 where
  pub store : List ℕ
  pub screen : List ℕ

abbrev pub pixels : List ℕ → List ℕ → Pixels
pixels store screen = record { store = store; screen = screen }

-- the call was made on p's session, r has what it left, and ps was written; a refused call leaves the very session
pub record Makes (k : Call) (ps : List Piece) (p r : Player) : Type 0 where
  pub next : Next ps p r.session r
  pub after : group r.session ≡ (does (group p.session) k).group
  pub refused : ((does (group p.session) k).answer ≡ 0 → ⊥) → r.session ≡ p.session

-- the same of a call that hands back an answer alone
abbrev pub Answers : Call → Player → Player → Type 0
Answers k p r = Makes k (line (does (group p.session) k).answer []) p r

-- "start; from here on the store lent has 16 pixels for each of the session's C (C = 1 after a refused start), all as they were"
pub record Begins (c : ℕ) (p r : Player) : Type 0 where
  pub next : Next (line (start c).answer []) (lend_store (16 * session_c c) p) r.session r
  pub after : group r.session ≡ (start c).group

-- how many pixels of the screen a redraw or a portion is lent: what `lend-screen` said, or "the screen lent has W × H pixels"
abbrev pub screen_len : Player → ℕ → List ℕ → ℕ
screen_len p k ns = lent_or (cond (eqb k Kind.portion) (num ns 0 * num ns 1) (num ns 1 * num ns 2)) p.screen

-- a call that is lent the first n pixels of the store leaves the others as they were
pub record MeetsPart (k : Call) (n : ℕ) (store : List ℕ) (s : Session) (r : Done) (after : List ℕ) : Type 0 where
  pub meets : Meets k s r
  pub stored : after ≡ (does (group s) k).store ++ drop n store

-- the same of a call that also counts the pixels that it alters, where `counts`
pub record WritesPart (counts : Bool) (k : Call) (n : ℕ) (store : List ℕ) (s : Session) (r : Written) (after : List ℕ) : Type 0 where
  pub part : MeetsPart k n store s (done r.session r.answer) after
  pub altered : counts ≡ true → r.altered ≡ (does (group s) k).altered

-- the same of the screen
pub record DrawsPart (k : Call) (n : ℕ) (screen : List ℕ) (s : Session) (r : Done) (after : List ℕ) : Type 0 where
  pub meets : Meets k s r
  pub shown : after ≡ (does (group s) k).screen ++ drop n screen

-- the visible list of a window, lent the first n numbers of the list
pub record ListsPart (g : Group) (id n : ℕ) (list : List ℕ) (r : Listing) (after : List ℕ) : Type 0 where
  pub answer : r.answer ≡ (visible_list g id (take n list)).answer
  pub count : r.count ≡ (visible_list g id (take n list)).count
  pub listed : after ≡ (visible_list g id (take n list)).list ++ drop n list
  pub room : 4 * r.count ≤ n

-- many points, lent the first n numbers of the list: an accepted call has three for each
pub record HitsPart (g : Group) (points : List ℕ) (n : ℕ) (list : List ℕ) (a : ℕ) (after : List ℕ) : Type 0 where
  pub answer : a ≡ (hits g points (take n list)).answer
  pub listed : after ≡ (hits g points (take n list)).list ++ drop n list
  pub room : a ≡ 0 → 3 * (length points / 2) ≤ n

-- how many bytes the buffer of a sheet has: what `lend-sheet` said, or "lent 2,048 bytes"
abbrev pub sheet_len : Player → ℕ
sheet_len p = lent_or 2048 p.sheet

-- how many numbers of the list a line is lent: what `lend-list` said, or as many as else
abbrev pub list_len : ℕ → Player → ℕ
list_len n p = lent_or n p.list

-- `resize`, `fill`, `blit`, `maximise` and `update-dims` are lent the store as `lend` says; l is the line's kind
pub record Stores (l : ℕ) (k : Call) (p : Player) (store : List ℕ) (r : Player) (after : List ℕ) : Type 0 where
  pub makes : Makes k (wrote_line (is_counted l) (does (group p.session) k).answer (does (group p.session) k).altered) p r
  pub stored : after ≡ (does (group p.session) k).store ++ drop p.lent store

-- "lend the next `redraw` or `portion` a screen of LEN pixels, whatever its W and H": either uses that up
pub record Draws (k : ℕ) (ns : List ℕ) (len : ℕ) (p : Player) (store screen : List ℕ) (r : Player) (after : List ℕ) : Type 0 where
  pub makes : Answers (screen_call k ns (take p.lent store) (take len screen)) (unset p) r
  pub shown : after ≡ (does (group p.session) (screen_call k ns (take p.lent store) (take len screen))).screen ++ drop len screen

-- "A `start` whose C document 01 accepts but whose store the program cannot lend (C from 384,001 on), a `lend`,
-- `lend-screen`, `lend-list`, `lend-target` or `lend-sheet` above those limits, a `redraw` or `portion` (with no
-- `lend-screen` pending), `screen` or `picture` of more than 3,072,000 pixels, and a `look` or `look-fit` (with no
-- `lend-target` pending) of more than 65,536 are answered by `!`, and nothing is called."
pub data Beyond (k : ℕ) (ns : List ℕ) (p : Player) : Type 0 where
  no_start : k ≡ Kind.start → 384000 < num ns 0 → num ns 0 ≤ 1048576 → Beyond k ns p
  no_redraw : OnScreen k → 3072000 < screen_len p k ns → Beyond k ns p
  no_store : k ≡ Kind.lend → 6144000 < num ns 0 → Beyond k ns p
  no_screen : k ≡ Kind.lend_screen → 3072000 < num ns 0 → Beyond k ns p
  no_list : k ≡ Kind.lend_list → 7812 < num ns 0 → Beyond k ns p
  no_look : OnTarget k → 65536 < target_len p k ns → Beyond k ns p
  no_target : k ≡ Kind.lend_target → 65536 < num ns 0 → Beyond k ns p
  no_sheet : k ≡ Kind.lend_sheet → 2048 < num ns 0 → Beyond k ns p
  no_show : OnShow k → 3072000 < num ns 0 * num ns 1 → Beyond k ns p

-- The line l with the numbers ns was played: the player p with the pixels a is r with the pixels b after it, and ps was written
pub data Plays (l : Line) (ns : List ℕ) (p : Player) (a : Pixels) (ps : List Piece) (r : Player) (b : Pixels) : Type 0 where
  -- "An empty line and a line whose first character is `#` are passed over, and nothing is written for them."
  passes : code_of l.kind ≡ Kind.passed → ps ≡ [] → Next ps p p.session r → b ≡ a → Plays l ns p a ps r b
  -- "A malformed line … makes no call, changes nothing, and is answered by `? N`"
  spoils : code_of l.kind ≡ Kind.malformed → ps ≡ malformed p.lines → Next ps p p.session r → b ≡ a → Plays l ns p a ps r b
  exceeds : Beyond (code_of l.kind) ns p → ps ≡ beyond → Next ps p p.session r → b ≡ a → Plays l ns p a ps r b
  starts : code_of l.kind ≡ Kind.start → ps ≡ line (start (num ns 0)).answer [] → Begins (num ns 0) p r → b ≡ a → Plays l ns p a ps r b
  creates : code_of l.kind ≡ Kind.create → ps ≡ create_line (does (group p.session) Call.Create) → Makes Call.Create ps p r → b ≡ a
      → Plays l ns p a ps r b
  plain : Picked (plain_call (code_of l.kind) ns) (λ c. (ps ≡ line (does (group p.session) c).answer []) × Makes c ps p r) → b ≡ a
      → Plays l ns p a ps r b
  stores : Picked (store_call (code_of l.kind) l.count ns (take p.lent a.store))
      (λ c. (ps ≡ wrote_line (is_counted (code_of l.kind)) (does (group p.session) c).answer (does (group p.session) c).altered)
      × Stores (code_of l.kind) c p a.store r b.store) → b.screen ≡ a.screen → Plays l ns p a ps r b
  pops : code_of l.kind ≡ Kind.pop → ps ≡ pop_line (does (group p.session) (Call.Pop (id_of ns))) → Makes (Call.Pop (id_of ns)) ps p r → b ≡ a
      → Plays l ns p a ps r b
  redraws : OnScreen (code_of l.kind) → screen_len p (code_of l.kind) ns ≤ 3072000
      → ps ≡ line (does (group p.session) (screen_call (code_of l.kind) ns (take p.lent a.store) (take (screen_len p (code_of l.kind) ns) a.screen))).answer []
      → Draws (code_of l.kind) ns (screen_len p (code_of l.kind) ns) p a.store a.screen r b.screen → b.store ≡ a.store → Plays l ns p a ps r b
  -- "the visible list, lent 1,984 numbers", or as many as `lend-list` said, which it uses up
  lists : code_of l.kind ≡ Kind.visible → (lent : List ℕ) → length lent ≡ list_len 1984 p
      → (let v = visible_list (group p.session) (id_of ns) lent in ps ≡ rects_line v.answer v.count v.list)
      → Next ps (unlisted p) p.session r → b ≡ a → Plays l ns p a ps r b
  -- "lent 96 numbers", or as many as `lend-list` said, which it uses up
  asks_hits : code_of l.kind ≡ Kind.hits → (lent : List ℕ) → length lent ≡ list_len 96 p
      → (let h = hits (group p.session) (take l.count ns) lent in ps ≡ hits_line h.answer (3 * (l.count / 2)) h.list)
      → Next ps (unlisted p) p.session r → b ≡ a → Plays l ns p a ps r b
  asks_focus : code_of l.kind ≡ Kind.focus → ps ≡ focus_line (group p.session) → Next ps p p.session r → b ≡ a → Plays l ns p a ps r b
  -- "from here on lend a store of STORE pixels, until the next `start`"
  lends : code_of l.kind ≡ Kind.lend → num ns 0 ≤ 6144000 → ps ≡ line 0 [] → Next ps (lend_store (num ns 0) p) p.session r → b ≡ a
      → Plays l ns p a ps r b
  lends_screen : code_of l.kind ≡ Kind.lend_screen → num ns 0 ≤ 3072000 → ps ≡ line 0 [] → Next ps (lend_screen (num ns 0) p) p.session r → b ≡ a
      → Plays l ns p a ps r b
  lends_list : code_of l.kind ≡ Kind.lend_list → num ns 0 ≤ 7812 → ps ≡ line 0 [] → Next ps (lend_list (num ns 0) p) p.session r → b ≡ a
      → Plays l ns p a ps r b
  -- event times
  asks_busiest : code_of l.kind ≡ Kind.busiest → ps ≡ busiest_line (busiest (take l.count ns)) → Next ps p p.session r → b ≡ a
      → Plays l ns p a ps r b
  -- "the share of the window that no higher window covers"
  asks_share : code_of l.kind ≡ Kind.share → ps ≡ share_line (share (group p.session) (id_of ns)) → Next ps p p.session r → b ≡ a
      → Plays l ns p a ps r b
  -- "the display that the position is on, or the closest one"
  asks_display : code_of l.kind ≡ Kind.display_at → ps ≡ display_line (display_at (group p.session) (num ns 0) (num ns 1)) → Next ps p p.session r
      → b ≡ a → Plays l ns p a ps r b
  -- "the target has TW × TH pixels, and starts as ones (4294967295)", or as many as `lend-target` said, which it uses up
  asks_look : OnTarget (code_of l.kind) → target_len p (code_of l.kind) ns ≤ 65536
      → (let s = asks (group p.session) (code_of l.kind) ns (take p.lent a.store) (replicate (target_len p (code_of l.kind) ns) 4294967295)
      in ps ≡ part_line s.answer s.target)
      → Next ps (untargeted p) p.session r → b ≡ a → Plays l ns p a ps r b
  lends_target : code_of l.kind ≡ Kind.lend_target → num ns 0 ≤ 65536 → ps ≡ line 0 [] → Next ps (lend_target (num ns 0) p) p.session r → b ≡ a
      → Plays l ns p a ps r b
  -- "lent 7,812 numbers", or as many as `lend-list` said, which it uses up
  reads_sheet : code_of l.kind ≡ Kind.read_sheet → (lent : List ℕ) → length lent ≡ list_len 7812 p → (found : Listing) (list : List ℕ)
      → Reads (take l.count ns) lent found list → ps ≡ rects_line found.answer found.count list
      → Next ps (unlisted p) p.session r → b ≡ a → Plays l ns p a ps r b
  -- "lent 2,048 bytes", or as many as `lend-sheet` said, which it uses up
  asks_sheet : code_of l.kind ≡ Kind.sheet → (lent : List ℕ) → length lent ≡ sheet_len p
      → (let s = sheet (group p.session) (id_of ns) lent in ps ≡ sheet_line s.answer s.count s.bytes)
      → Next ps (unsheeted p) p.session r → b ≡ a → Plays l ns p a ps r b
  lends_sheet : code_of l.kind ≡ Kind.lend_sheet → num ns 0 ≤ 2048 → ps ≡ line 0 [] → Next ps (lend_sheet (num ns 0) p) p.session r → b ≡ a
      → Plays l ns p a ps r b
  -- "what is stale in the rectangle"; "None of these lines uses up a pending lend."
  asks_stale : code_of l.kind ≡ Kind.stale → ps ≡ stale_line (stale (group p.session) (num ns 0) (rect_at ns 1)) → Next ps p p.session r → b ≡ a
      → Plays l ns p a ps r b
  -- "what waits"
  asks_waiting : code_of l.kind ≡ Kind.waiting → ps ≡ waiting_line (group p.session) → Next ps p p.session r → b ≡ a
      → Plays l ns p a ps r b
  -- "how a window stands", "how the session stands"
  asks_window : code_of l.kind ≡ Kind.window → ps ≡ window_line (window_state (group p.session) (id_of ns)) → Next ps p p.session r → b ≡ a
      → Plays l ns p a ps r b
  asks_session : code_of l.kind ≡ Kind.session → ps ≡ session_line (session_state (group p.session)) → Next ps p p.session r → b ≡ a
      → Plays l ns p a ps r b
  -- "route, telling who took it"
  asks_who : code_of l.kind ≡ Kind.who
      → (let g = group p.session in let e = who_event ns in ps ≡ who_line (does g (Call.Route e)).answer (taker g e))
      → Makes (Call.Route (who_event ns)) ps p r → b ≡ a → Plays l ns p a ps r b
  -- "no call: the first W × H pixels of the screen"
  shows_screen : code_of l.kind ≡ Kind.screen → num ns 0 * num ns 1 ≤ 3072000 → ps ≡ screen_line (num ns 0 * num ns 1) a.screen
      → Next ps p p.session r → b ≡ a → Plays l ns p a ps r b
  -- "no call: the w × h pixels of window ID in the store"
  shows_pixels : code_of l.kind ≡ Kind.pixels → ps ≡ pixels_line (group p.session) (id_of ns) p.lent a.store → Next ps p p.session r → b ≡ a
      → Plays l ns p a ps r b
  -- "`0`, or `!` where it cannot be written"
  shows_picture : code_of l.kind ≡ Kind.picture → num ns 0 * num ns 1 ≤ 3072000 → (ps ≡ line 0 []) ⊎ (ps ≡ beyond) → Next ps p p.session r → b ≡ a
      → Plays l ns p a ps r b
  -- bare geometry and bare pixels
  shows_rect : Kind.intersect ≤ code_of l.kind → code_of l.kind ≤ Kind.within → ps ≡ rect_line (code_of l.kind) ns → Next ps p p.session r → b ≡ a
      → Plays l ns p a ps r b
  shows_part : Kind.scanline ≤ code_of l.kind → code_of l.kind ≤ Kind.region → ps ≡ pixel_line (code_of l.kind) l.count ns → Next ps p p.session r → b ≡ a
      → Plays l ns p a ps r b

-- a line was played, and there is a text that it wrote
pub record Writes (l : Line) (ns : List ℕ) (p : Player) (a : Pixels) (r : Player) (b : Pixels) : Type 0 where
  pub text : List Piece
  pub plays : Plays l ns p a text r b

-- a line of the kind k that is lent no pixels
abbrev pub PlaysAt : ℕ → List ℕ → Player → Player → Type 0
PlaysAt k ns p r = (l : Line) (a : Pixels) → code_of l.kind ≡ k → Writes l ns p a r a

-- the bytes bs of a line were played, and ps was written: the line that they mean, counted
pub record Hears (bs : List ℕ) (p : Player) (a : Pixels) (ps : List Piece) (r : Player) (b : Pixels) : Type 0 where
  pub line : Line
  pub numbers : List ℕ
  pub name : List ℕ
  pub heard : hears bs ≡ heard_of line numbers name
  pub plays : Plays line numbers (counted p) a ps r b

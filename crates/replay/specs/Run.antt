-- What a whole input does: its lines in turn, played from the start on, and the text that they write.
use Rattle.std.specs.Prelude.{ℕ, ◌≡◌, None, List, [], ◌∷◌, ◌++◌, length}
use Rattle.rules.specs.Group.{start}
use Rattle.windows.specs.View.{group}
use Rattle.answer_text.specs.Text.{Piece, said}
use Rattle.answer_text.specs.Added.{counted as counting, handed_over, Output, waits}
use Rattle.replay.specs.declared.player.Player.{Player}
use Rattle.replay.specs.Ready.{Ready, with_output}
use Rattle.replay.specs.Played.{Pixels, Hears}

-- "Before the first `start` the session is that of a refused one." Nothing is pending, nothing waits, and no line was read
pub record Fresh (p : Player) : Type 0 where
  pub ready : Ready p
  pub session : group p.session ≡ (start 0).group
  pub lent : p.lent ≡ 16
  pub screen : p.screen ≡ None
  pub list : p.list ≡ None
  pub target : p.target ≡ None
  pub sheet : p.sheet ≡ None
  pub out : waits p.out ≡ record { at = 0; sent = 0 }
  pub lines : p.lines ≡ 0

-- the program between two bytes of its input: the player, its pixels, and the bytes so far of the line that has not ended
pub record Stage : Type 0 where
  pub player : Player
  pub pixels : Pixels
  pub line : List ℕ

-- no byte is a newline
abbrev pub OneLine : List ℕ → Type 0
OneLine [] = Unit
OneLine (b ∷ bs) = (b ≡ 10 → ⊥) × OneLine bs

-- an input takes a stage to t, and the text is that of its lines
pub data Runs (t : Stage) : Stage → List ℕ → List Piece → Type 0 where
  -- the end of the input, so far: bytes of a line that has not ended
  pends : {s : Stage} (input : List ℕ) → OneLine input → t ≡ record { player = s.player; pixels = s.pixels; line = s.line ++ input } → Runs t s input []
  -- a line ends at a newline, and is played
  ends : {s : Stage} (bs rest : List ℕ) (ps qs : List Piece) (r : Player) (b : Pixels) → OneLine bs → Hears (s.line ++ bs) s.player s.pixels ps r b
      → Runs t (record { player = r; pixels = b; line = [] }) rest qs → Runs t s (bs ++ (10 ∷ rest)) (ps ++ qs)
  -- what waits is handed over
  hands : {s : Stage} {input : List ℕ} {ps : List Piece} (o : Output) → waits o ≡ handed_over (waits s.player.out)
      → Runs t (record { player = with_output o s.player; pixels = s.pixels; line = s.line }) input ps → Runs t s input ps

-- The whole of a run from the pixels a on. There is an input, what was read; its lines, played by the rules from a fresh player on, and "The last
-- line may lack its newline", write the text ps and qs; and all of its bytes were handed over, in this order, as `Adds` says of each line: `count` of them,
-- as far as 64 bits count, and none waits
pub record Finished (a : Pixels) : Type 0 where
  pub first : Player
  pub fresh : Fresh first
  pub input : List ℕ
  pub text : List Piece
  pub last : Stage
  pub runs : Runs last (record { player = first; pixels = a; line = [] }) input text
  pub tail : List Piece
  pub end : Player
  pub pixels : Pixels
  pub hears : Hears last.line last.player last.pixels tail end pixels
  pub count : ℕ
  pub is : handed_over (waits end.out) ≡ record { at = 0; sent = counting count }
  pub all : count ≡ length (said (text ++ tail))

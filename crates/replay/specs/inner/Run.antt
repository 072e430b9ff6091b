-- What the functions say that read the input: a line was played, and a block was.
use Rattle.std.specs.Prelude.{ℕ, ◌≡◌, List}
use Rattle.script.specs.declared.Reading.{Reading}
use Rattle.script.specs.Machine.{Reads}
use Rattle.answer_text.specs.Text.{Piece}
use Rattle.answer_text.specs.Added.{handed_over, waits}
use Rattle.replay.specs.declared.player.Player.{Player}
use Rattle.replay.specs.Played.{Pixels, Hears}
use Rattle.replay.specs.Run.{Stage, Runs}

-- the bytes bs of a line were played, and there is a text that was written
pub record HearsOut (bs : List ℕ) (p : Player) (a : Pixels) (r : Player) (b : Pixels) : Type 0 where
  pub text : List Piece
  pub hears : Hears bs p a text r b

-- the bytes bs of the last line were played, and what waited after it was handed over
pub record Ends (bs : List ℕ) (p : Player) (a : Pixels) (r : Player) (b : Pixels) : Type 0 where
  pub end : Player
  pub hears : HearsOut bs p a end b
  pub handed : waits r.out ≡ handed_over (waits end.out)

-- the input took s to the player r, and the reading stands for the bytes so far of the line that has not ended
pub record RunsTo (s : Stage) (input : List ℕ) (r : Player) (b : Pixels) (reading : Reading) (word ns name : List ℕ) : Type 0 where
  pub text : List Piece
  pub line : List ℕ
  pub runs : Runs (record { player = r; pixels = b; line = line }) s input text
  pub reads : Reads line reading word ns name

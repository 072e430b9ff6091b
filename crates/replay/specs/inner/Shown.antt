-- The lines that show the screen: `screen` and `picture`.
use Rattle.std.specs.Prelude.{ℕ, ◌*◌, ◌≤◌, ◌<◌, ◌≡◌, List, []}
use Rattle.script.specs.Kind as Kind
use Rattle.answer_text.specs.Text.{line, beyond}
use Rattle.answer_text.specs.Added.{Output, Says}
use Rattle.bare_lines.specs.Numbers.{num}
use Rattle.replay.specs.Told.{screen_line}

pub data ShowsScreen (k : ℕ) (ns screen : List ℕ) (o r : Output) : Type 0 where
  too_large : 3072000 < num ns 0 * num ns 1 → Says beyond o r → ShowsScreen k ns screen o r
  shown : k ≡ Kind.screen → num ns 0 * num ns 1 ≤ 3072000 → Says (screen_line (num ns 0 * num ns 1) screen) o r → ShowsScreen k ns screen o r
  pictured : k ≡ Kind.picture → num ns 0 * num ns 1 ≤ 3072000 → Says (line 0 []) o r → ShowsScreen k ns screen o r
  unwritten : k ≡ Kind.picture → num ns 0 * num ns 1 ≤ 3072000 → Says beyond o r → ShowsScreen k ns screen o r

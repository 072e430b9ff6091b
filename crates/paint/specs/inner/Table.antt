-- What a table of dimming holds.
use Rattle.std.specs.Prelude.{ℕ, ◌<◌, ◌≡◌, List, get_or}
use Rattle.paint.specs.Shade.{entry}

-- "a fixed table of 256 entries, entry i being (i·i+127) divided by 255, rounded down"
pub record Entries (table : List ℕ) : Type 0 where
  pub rule : (i : ℕ) → i < 256 → get_or table i 0 ≡ entry i

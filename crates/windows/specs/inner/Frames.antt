-- Where the windows of a session are, and which ids are in use, as arrays.
use Rattle.std.specs.Prelude.{ℕ, ◌<◌, ◌≡◌, false, length, get_or}
use Rattle.geom.specs.Rect16.{no_rect16}
use Rattle.order.specs.declared.frames.Frames.{Frames}
use Rattle.windows.specs.declared.Session.{Session}
use Rattle.windows.specs.View.{window_at}

-- of the first n windows
pub record Framed (s : Session) (n : ℕ) (f : Frames) : Type 0 where
  pub areas : length f.areas ≡ 16
  pub flags : length f.used ≡ 16
  pub at : (i : ℕ) → i < n → get_or f.areas i no_rect16 ≡ (window_at s i).at
  pub used : (i : ℕ) → i < n → get_or f.used i false ≡ (window_at s i).used

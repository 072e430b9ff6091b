-- What is written of the structs that tell how a window and how the session stand.
use Rattle.std.specs.Prelude.{cond, List, [], ◌∷◌, ◌++◌}
use Rattle.windows.specs.View.{WindowState}
use Rattle.windows.specs.declared.SessionState.{SessionState}
use Rattle.answer_text.specs.Text.{Piece, number, flag, line, answered, rectangle}

abbrev pub standing_line : WindowState → List Piece
standing_line s =
    answered s.answer
    (rectangle s.rect
    ++ (flag s.shown ∷ number s.place ∷ number s.layer ∷ flag s.maximised ∷ flag s.marked ∷ number s.queued ∷ flag s.moved ∷ []))

abbrev pub stands_line : SessionState → List Piece
stands_line s =
    line 0
    (number s.c
    ∷ number s.shown
    ∷ number s.focus.0
    ∷ number s.grab.0
    ∷ flag s.dimmed
    ∷ flag s.owed
    ∷ number (cond s.walk (cond s.full 2 1) 0)
    ∷ number s.left
    ∷ number s.displays
    ∷ [])

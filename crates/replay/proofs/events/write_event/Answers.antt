-- Each arm of the match gives the event, at which its text computes: the name, and the values behind it.
use Prim.Native.Nat.{ℕ}
use mathlib.Core.Path.{sym, ap}
use mathlib.Core.List.{List, [], ◌∷◌}
use lib.IntN.{ℤ}
use mir.Syntax.{w16}
use mir.Val.{SFits, of_z, to_z}
use mir.Facts.{to_z-of_z}
use borrow.Author.Rules.{rules}
use Rattle.script.specs.Text.{bytes}
use Rattle.answer_text.specs.Text.{word, number, signed}
use Rattle.answer_text.specs.Added.{Output, Says}
use Rattle.answer_text.proofs.laws.Added.{then}
use Rattle.replay.specs.Told.{event_pieces}
use Rattle.replay.proofs.laws.Nexts.{retold}
use Rattle.replay.proofs.events.write_event.Goals as goal

-- differences that were kept in 16 bits
moved : (name : List ℕ) (x y : ℕ) (dx dy : ℤ) {o r : Output} → SFits w16 dx → SFits w16 dy
    → Says (word name ∷ number x ∷ number y ∷ signed (to_z w16 (of_z w16 dx)) ∷ signed (to_z w16 (of_z w16 dy)) ∷ []) o r
    → Says (word name ∷ number x ∷ number y ∷ signed dx ∷ signed dy ∷ []) o r
moved name x y dx dy p q a = retold (λ i. word name ∷ number x ∷ number y ∷ signed (to_z-of_z p i) ∷ signed (to_z-of_z q i) ∷ []) a

pub returns-in-Resize : goal.returns-in-Resize
unfolding event_pieces
returns-in-Resize c =
    retold (sym (ap event_pieces c.in-Resize.is)) c.word.ensures

pub returns-in-KeyDown : goal.returns-in-KeyDown
unfolding event_pieces
returns-in-KeyDown c =
    retold (sym (ap event_pieces c.in-KeyDown.is)) c.write_key.ensures

pub returns-in-KeyUp : goal.returns-in-KeyUp
unfolding event_pieces
returns-in-KeyUp c =
    retold (sym (ap event_pieces c.in-KeyUp.is)) c.write_key-in-KeyUp.ensures

pub returns-in-KeyFire : goal.returns-in-KeyFire
unfolding event_pieces
returns-in-KeyFire c =
    retold (sym (ap event_pieces c.in-KeyFire.is)) c.write_key-in-KeyFire.ensures

pub returns-in-Text : goal.returns-in-Text
unfolding event_pieces
returns-in-Text c =
    retold (sym (ap event_pieces c.in-Text.is)) c.write_key-in-Text.ensures

pub returns-in-MouseMove : goal.returns-in-MouseMove
unfolding event_pieces
returns-in-MouseMove c =
    let m = c.in-MouseMove in
    retold (sym (ap event_pieces m.is))
    (moved (bytes "MouseMove") m.x m.y m.dx m.dy (search rules) (search rules)
    (then c.write_point.ensures (then c.signed.ensures c.signed-in-MouseMove.ensures)))

pub returns-in-MouseDown : goal.returns-in-MouseDown
unfolding event_pieces
returns-in-MouseDown c =
    retold (sym (ap event_pieces c.in-MouseDown.is)) c.write_press.ensures

pub returns-in-MouseClick : goal.returns-in-MouseClick
unfolding event_pieces
returns-in-MouseClick c =
    retold (sym (ap event_pieces c.in-MouseClick.is)) (then c.write_press-in-MouseClick.ensures c.more.ensures)

pub returns-in-MouseUp : goal.returns-in-MouseUp
unfolding event_pieces
returns-in-MouseUp c =
    retold (sym (ap event_pieces c.in-MouseUp.is)) c.write_press-in-MouseUp.ensures

-- Each arm makes the call that the kind picks; the kinds that are left route an event.
use Rattle.std.proofs.Common.{ap, refl, subst}
use Rattle.geom.specs.declared.Rect.{Rect}
use Rattle.geom.specs.Refusals.{answer_of}
use Rattle.script.specs.Kind.{code_of}
use Rattle.rules.specs.Calls.{Call}
use Rattle.windows.specs.View.{done, Meets}
use Rattle.bare_lines.specs.Numbers.{num}
use Rattle.replay.proofs.laws.Picked.{by_id, by_pos, plain_at}
use Rattle.replay.proofs.calls.plain.Goals as goal

pub returns-in-Show : goal.returns-in-Show
returns-in-Show c = by_id (ap code_of c.in-Show.is) _ Call.Show refl c.id-id.ensures c.show.ensures

pub returns-in-Hide : goal.returns-in-Hide
returns-in-Hide c = by_id (ap code_of c.in-Hide.is) _ Call.Hide refl c.id-id.ensures c.hide.ensures

pub returns-in-Drop : goal.returns-in-Drop
returns-in-Drop c = by_id (ap code_of c.in-Drop.is) _ Call.Drop refl c.id-id.ensures c.drop.ensures

pub returns-in-Raise : goal.returns-in-Raise
returns-in-Raise c = by_id (ap code_of c.in-Raise.is) _ Call.Raise refl c.id-id.ensures c.raise.ensures

pub returns-in-Mark : goal.returns-in-Mark
returns-in-Mark c = by_id (ap code_of c.in-Mark.is) _ Call.Mark refl c.id-id.ensures c.mark.ensures.meets

pub returns-in-Move : goal.returns-in-Move
returns-in-Move c = by_pos (ap code_of c.in-Move.is) _ Call.Move refl c.id-id.ensures c.pos.ensures c.move_window.ensures

pub returns-in-Begin : goal.returns-in-Begin
returns-in-Begin c = plain_at (ap code_of c.in-Begin.is) _ refl c.begin.ensures

pub returns-in-Dim : goal.returns-in-Dim
returns-in-Dim c = plain_at (ap code_of c.in-Dim.is) _ refl c.dim.ensures

pub returns-in-Layer : goal.returns-in-Layer
returns-in-Layer c = by_id (ap code_of c.in-Layer.is) _ (λ id. Call.SetLayer id (num c.args.ns.now 1)) refl c.id-id.ensures c.set_layer.ensures

pub returns-in-Display : goal.returns-in-Display
returns-in-Display c = plain_at (ap code_of c.in-Display.is) c.args.ns.now refl
    (subst (λ (area : Rect). Meets (Call.AddDisplay area) c.args.s.now (done c.add_display.new.self (answer_of c.add_display.result))) c.rect.ensures c.add_display.ensures)

pub returns-in-Drag : goal.returns-in-Drag
returns-in-Drag c = by_pos (ap code_of c.in-Drag.is) _ Call.Drag refl c.id-id.ensures c.pos-in-Drag.ensures c.drag.ensures

-- Each arm's event is the one that the kind picks; the kind that is left is `resized`.
use Rattle.std.proofs.Common.{ap, refl}
use Rattle.script.specs.Kind.{code_of}
use Rattle.replay.proofs.laws.Picked.{event_at}
use Rattle.replay.proofs.laws.Arms.{apart, resized_left}
use Rattle.replay.proofs.events.event.Goals as goal

pub returns-in-KeyDown : goal.returns-in-KeyDown
returns-in-KeyDown c = event_at (ap code_of c.in-KeyDown.is) c.args.ns.now refl

pub returns-in-KeyUp : goal.returns-in-KeyUp
returns-in-KeyUp c = event_at (ap code_of c.in-KeyUp.is) c.args.ns.now refl

pub returns-in-KeyFire : goal.returns-in-KeyFire
returns-in-KeyFire c = event_at (ap code_of c.in-KeyFire.is) c.args.ns.now refl

pub returns-in-Text : goal.returns-in-Text
returns-in-Text c = event_at (ap code_of c.in-Text.is) c.args.ns.now refl

pub returns-in-MouseMove : goal.returns-in-MouseMove
returns-in-MouseMove c = event_at (ap code_of c.in-MouseMove.is) c.args.ns.now refl

pub returns-in-MouseDown : goal.returns-in-MouseDown
returns-in-MouseDown c = event_at (ap code_of c.in-MouseDown.is) c.args.ns.now refl

pub returns-in-MouseUp : goal.returns-in-MouseUp
returns-in-MouseUp c = event_at (ap code_of c.in-MouseUp.is) c.args.ns.now refl

pub returns-in-MouseClick : goal.returns-in-MouseClick
returns-in-MouseClick c = event_at (ap code_of c.in-MouseClick.is) c.args.ns.now refl

pub returns-in_default : goal.returns-in_default
returns-in_default c =
    let d = c.in_default in
    event_at
    (resized_left _ Unit c.requires.1
    ((((((((tt, apart d.not-KeyDown), apart d.not-KeyUp), apart d.not-KeyFire), apart d.not-Text), apart d.not-MouseMove), apart d.not-MouseDown), apart d.not-MouseUp), apart d.not-MouseClick))
    c.args.ns.now refl

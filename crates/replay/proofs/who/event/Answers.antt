-- Each arm's event is the one of its kind; the kind that is left is a Resize.
use Prim.Native.Nat.{ℕ}
use mathlib.Core.Path.{◌≡◌}
use mathlib.Core.List.{List}
use borrow.Author.Rules.{rules}
use borrow.Author.Tests.{ne_eqb}
use Rattle.window.specs.declared.Event.TheVariants.{Resize}
use Rattle.bare_lines.specs.Numbers.{num}
use Rattle.replay.specs.Called.{who_event}
use Rattle.replay.proofs.laws.Arms.{NoneOf, run}
use Rattle.replay.proofs.who.event.Goals as goal

-- a kind that is none of 2 to 9
resize_left : (ns : List ℕ) (B : Type 0) → NoneOf (num ns 0) B (run 2 8) → Resize ≡ who_event ns
unfolding who_event
resize_left ns B no_mouse =
    let no_text = no_mouse.0.0.0.0 in
    rw (
      ne_eqb (num ns 0) 2 no_text.0.0.0.1,
      ne_eqb (num ns 0) 3 no_text.0.0.1,
      ne_eqb (num ns 0) 4 no_text.0.1,
      ne_eqb (num ns 0) 5 no_text.1,
      ne_eqb (num ns 0) 6 no_mouse.0.0.0.1,
      ne_eqb (num ns 0) 7 no_mouse.0.0.1,
      ne_eqb (num ns 0) 8 no_mouse.0.1,
      ne_eqb (num ns 0) 9 no_mouse.1,
    )

pub returns-in-2 : goal.returns-in-2
unfolding who_event
returns-in-2 c = rw c.in-2.is

pub returns-in-3 : goal.returns-in-3
unfolding who_event
returns-in-3 c = rw c.in-3.is

pub returns-in-4 : goal.returns-in-4
unfolding who_event
returns-in-4 c = rw c.in-4.is

pub returns-in-5 : goal.returns-in-5
unfolding who_event
returns-in-5 c = rw c.in-5.is

pub returns-in-6 : goal.returns-in-6
unfolding who_event
returns-in-6 c = rw c.in-6.is

pub returns-in-7 : goal.returns-in-7
unfolding who_event
returns-in-7 c = rw c.in-7.is

pub returns-in-8 : goal.returns-in-8
unfolding who_event
returns-in-8 c = rw c.in-8.is

pub returns-in-9 : goal.returns-in-9
unfolding who_event
returns-in-9 c = rw c.in-9.is

pub returns-in_default : goal.returns-in_default
returns-in_default c =
    resize_left c.args.ns.now Unit (search rules)

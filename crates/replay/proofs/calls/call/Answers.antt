-- Each arm plays the line of its own kind; the kinds that are left are those of the plain calls.
use Rattle.std.proofs.Common.{ap, refl, []}
use Rattle.script.specs.Kind.{code_of}
use Rattle.replay.specs.Played.{passes, spoils, creates, pops, asks_focus, asks_busiest, asks_share, asks_display, asks_stale, asks_waiting, asks_window, asks_session, asks_who}
use Rattle.replay.proofs.laws.Nexts.{tells}
use Rattle.replay.proofs.laws.Arms.{stays}
use Rattle.replay.proofs.calls.call.Goals as goal

pub returns-in-Passed : goal.returns-in-Passed
returns-in-Passed c = λ a. record { text = []; plays = passes (ap code_of c.in-Passed.is) refl (stays c.args.p.now c.requires.0) refl }

pub returns-in-Create : goal.returns-in-Create
returns-in-Create c = λ a. record { text = _; plays = creates (ap code_of c.in-Create.is) refl c.create.ensures refl }

pub returns-in-Pop : goal.returns-in-Pop
returns-in-Pop c = λ a. record { text = _; plays = pops (ap code_of c.in-Pop.is) refl c.pop.ensures refl }

pub returns-in-Who : goal.returns-in-Who
returns-in-Who c = λ a. record { text = _; plays = asks_who (ap code_of c.in-Who.is) refl c.who.ensures refl }

pub returns-in-Focus : goal.returns-in-Focus
returns-in-Focus c = λ a. record { text = _; plays = asks_focus (ap code_of c.in-Focus.is) refl c.focus.ensures refl }

pub returns-in-Busiest : goal.returns-in-Busiest
returns-in-Busiest c = λ a. record { text = _; plays = asks_busiest (ap code_of c.in-Busiest.is) refl c.busiest.ensures refl }

pub returns-in-Share : goal.returns-in-Share
returns-in-Share c = λ a. record { text = _; plays = asks_share (ap code_of c.in-Share.is) refl c.share.ensures refl }

pub returns-in-DisplayAt : goal.returns-in-DisplayAt
returns-in-DisplayAt c = λ a. record { text = _; plays = asks_display (ap code_of c.in-DisplayAt.is) refl c.display_at.ensures refl }

pub returns-in-Stale : goal.returns-in-Stale
returns-in-Stale c = λ a. record { text = _; plays = asks_stale (ap code_of c.in-Stale.is) refl c.stale.ensures refl }

pub returns-in-Waiting : goal.returns-in-Waiting
returns-in-Waiting c = λ a. record { text = _; plays = asks_waiting (ap code_of c.in-Waiting.is) refl c.waiting.ensures refl }

pub returns-in-Window : goal.returns-in-Window
returns-in-Window c = λ a. record { text = _; plays = asks_window (ap code_of c.in-Window.is) refl c.window.ensures refl }

pub returns-in-Session : goal.returns-in-Session
returns-in-Session c = λ a. record { text = _; plays = asks_session (ap code_of c.in-Session.is) refl c.session.ensures refl }

pub returns-in-Malformed : goal.returns-in-Malformed
returns-in-Malformed c = λ a. record { text = _; plays = spoils (ap code_of c.in-Malformed.is) refl (tells c.args.p.now c.requires.0 c.malformed.ensures) refl }

pub returns-in-Start : goal.returns-in-Start
returns-in-Start c = λ a. c.start.ensures _ a (ap code_of c.in-Start.is)

pub returns-in-Sheet : goal.returns-in-Sheet
returns-in-Sheet c = λ a. c.sheet.ensures _ a (ap code_of c.in-Sheet.is)

pub returns-in-Lend : goal.returns-in-Lend
returns-in-Lend c = λ a. c.lend.ensures _ a refl

-- The screen is shown, or a picture of it is written.
use Rattle.std.proofs.Common.{ℕ, ◌≤◌, ◌*◌, ap, subst}
use mathlib.Core.Logic.{inl, inr}
use Rattle.script.specs.Kind.{code_of}
use Rattle.bare_lines.specs.Numbers.{num}
use Rattle.replay.specs.Told.{screen_line}
use Rattle.replay.specs.inner.Shown.{shown, pictured, unwritten}
use Rattle.replay.proofs.laws.Nexts.{retold}
use Rattle.replay.proofs.laws.Arms.{apart}
use Rattle.replay.proofs.laws.Shows.{is_picture}
use Rattle.replay.proofs.show.screen.Goals as goal

pub returns-in-Screen : goal.returns-in-Screen
returns-in-Screen g c =
    let small : num c.args.ns.now 0 * num c.args.ns.now 1 ≤ 3072000 = subst (λ (n : ℕ). n ≤ 3072000) c.size-n.ensures c.if-n-gt3072000.false in
    shown (ap code_of c.in-Screen.is) small (retold (ap (λ (n : ℕ). screen_line n c.args.screen.now) c.size-n.ensures) c.write_pixels.ensures)

pub returns-in_default : goal.returns-in_default
returns-in_default g c =
    let small : num c.args.ns.now 0 * num c.args.ns.now 1 ≤ 3072000 = subst (λ (n : ℕ). n ≤ 3072000) c.size-n.ensures c.if-n-gt3072000.false in
    let picture = is_picture c.requires.1 (apart c.in_default.not-Screen) in
    elim c.write_picture.ensures [ inl d ↦ pictured picture small d | inr d ↦ unwritten picture small d ]

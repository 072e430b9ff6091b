-- Only the damage changes, and of its array what is past the entries stays.
use Rattle.window.specs.Represents.{win_of}
use Rattle.rules.specs.Store.{dirtied}
use Rattle.windows.specs.inner.Pixels.{Becomes}
use Rattle.windows.proofs.laws.Parts.{set_damage}
use Rattle.windows.proofs.laws.Pixels.{dirty_win, is_holding}
use Rattle.windows.proofs.inner.store.damage.Goals as goal

pub returns : goal.returns
returns c =
    let w = c.args.win.now in
    let q = c.add.ensures in
    let b : Becomes w (dirtied c.args.area (win_of w)) (set_damage c.add.new.self w) = dirty_win w c.args.area _ c.requires.0 q in
    (b, is_holding b q.past)

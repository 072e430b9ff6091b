-- What is lent for the window of a session is what its drawing asks.
use Rattle.windows.proofs.inner.redraw.draw_at.Goals as goal

pub draw_window-requires-clause-lent : goal.draw_window-requires-clause-lent
draw_window-requires-clause-lent c = let p = c.requires.lent in (p.rep, p.pixels, p.fit, p.few)

-- Questions 1 and 3; the rest is a look at the window, whose pixels lie in the store.
use Rattle.windows.proofs.laws.Refused.{exit}
use Rattle.windows.proofs.laws.Store.{stored}
use Rattle.windows.proofs.laws.Looked.{not_begun, looked}
use Rattle.windows.proofs.Session.look.Goals as goal

pub returns-in_err-base : goal.returns-in_err-base
returns-in_err-base c =
    let a = c.args in
    rw (exit c.from_residual.ensures.1)
    (not_begun c.requires c.slot-at.ensures a.look a.store.now a.target.now a.tw a.th _ c.in_err-base.ensures)

pub look_window-requires : goal.look_window-requires
look_window-requires c =
    let r = stored c.requires c.slot-at.ensures c.args.store.now c.in_ok-base.ensures in
    (r.small.width≤, r.small.height≤, r.room)

pub returns : goal.returns
returns c =
    let a = c.args in
    looked c.requires c.slot-at.ensures a.look a.store.now a.target.now a.tw a.th c.in_ok-base.ensures c.look_window.ensures

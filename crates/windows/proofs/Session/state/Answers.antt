-- Each number is the rule's, of what is shared and of the displays.
use Rattle.windows.proofs.laws.Portions.{place_low}
use Rattle.windows.proofs.laws.State.{session_stands}
use Rattle.windows.proofs.Session.state.Goals as goal

pub portions_left-requires : goal.portions_left-requires
portions_left-requires c = let h = c.requires in (h.rep.shown, λ on. place_low _ h on)

pub returns : goal.returns
returns c =
    rw c.from.ensures
    (session_stands _ c.requires _ _ _ _ c.someone.ensures c.someone-2.ensures c.is_full.ensures c.portions_left.ensures)

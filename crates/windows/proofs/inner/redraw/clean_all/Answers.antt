-- One window after the other is cleaned, where it was drawn.
use Rattle.std.specs.Prelude.{get_or}
use mathlib.Core.Path.{ap}
use Rattle.window.specs.inner.Ids.{no_id}
use Rattle.windows.specs.declared.Shared.{Shared}
use Rattle.windows.proofs.laws.Cleaned.{clean_none, clean_next, clean_end}
use Rattle.windows.proofs.laws.Places.{id_low}
use Rattle.windows.proofs.inner.redraw.clean_all.Goals as goal

pub loop-p-init : goal.loop-p-init
loop-p-init c = clean_none _ _ c.requires

pub bounds-s-at : goal.bounds-s-at
bounds-s-at c =
    id_low _ c.requires _ c.loop-p-test.true _ (ap (λ (k : Shared). get_or k.order c.loop-p.p no_id) c.loop-p.invariant.shared)

pub loop-p-preserved : goal.loop-p-preserved
loop-p-preserved c =
    rw c.clean.ensures
    (clean_next c.requires c.loop-p.invariant c.loop-p-test.true _ (ap (λ (k : Shared). get_or k.order c.loop-p.p no_id) c.loop-p.invariant.shared))

pub returns : goal.returns
returns c = clean_end c.requires c.loop-p.invariant c.loop-p-test.false

-- The windows passed, the highest first, do not contain the point; each turn looks at the highest of those that are left.
use Rattle.std.proofs.Common.{◌≡◌, ◌<◌, ◌-◌, sym, ◌∙◌, length, get_or, arith}
use Rattle.std.proofs.lemmas.List.{length_push, length-reverse}
use Rattle.std.proofs.lemmas.Iterator.Adapters.{YieldsList-from_rev_slice}
use Rattle.std.proofs.lemmas.Iterator.Consumers.{YieldsList-turn, YieldsList-end}
use Rattle.window.specs.inner.Ids.{no_id}
use Rattle.topmost.proofs.laws.Topmost.{turn, hit, miss, gone}
use Rattle.topmost.proofs.topmost.Goals as goal
use Rattle.topmost.proofs.topmost.Goals.{In-Some}

-- the window of this turn
here : (c : In-Some) → let l = c.args.shown.now in let k = length c.loop-id.yielded in (k < length l) × (c.in-Some.id.now ≡ get_or l (length l - k - 1) no_id)
here c =
    turn c.args.shown.now (length c.loop-id.yielded) c.in-Some.id.now
    (YieldsList-turn (YieldsList-from_rev_slice c.args.shown.now cc) c.loop-id.yielded _ c.loop-id.yielded_by _ _ c.in-Some.id c.in-Some.is c.next.ensures.steps)

pub returns-then-has : goal.returns-then-has
returns-then-has c =
    let (k, e) = here (goal.at.returns-then-has c).In-Some in
    hit c.loop-id.invariant (omega arith) c.in-Some.id.now e (sym c.has.ensures ∙ c.if-has.true)

pub loop-id-preserved : goal.loop-id-preserved
loop-id-preserved c =
    let (k, e) = here (goal.at.loop-id-preserved c).In-Some in
    miss c.loop-id.invariant (omega arith) c.in-Some.id.now e (sym c.has.ensures ∙ c.if-has.false) _
    (omega (arith, length_push c.loop-id.yielded c.in-Some.id))

pub returns : goal.returns
returns c =
    let t = YieldsList-end (YieldsList-from_rev_slice c.args.shown.now cc) c.loop-id.yielded _ c.loop-id.yielded_by _ _ c.in-None.is c.next.ensures.steps in
    gone c.loop-id.invariant (omega (arith, t.1, length-reverse c.args.shown.now))

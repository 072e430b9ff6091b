-- The bands are checked in turn; then the sheet has to end in the last byte, before zero bits.
use Rattle.sheet.proofs.laws.Checking.{going_none, going_broken, going_next, checked_rules, checked_size, checked_fill, checked_yes}
use Rattle.std.proofs.Common.{arith}
use Rattle.sheet.proofs.inner.valid.check.Goals as goal
use Rattle.sheet.proofs.inner.valid.check.Goals.{else-bytes-size-via-then-bytes-size+else-read-eq0, else-bytes-size-via-else-bytes-size}

pub loop-i-init : goal.loop-i-init
loop-i-init c = going_none

pub returns-then-not-band_keeps : goal.returns-then-not-band_keeps
returns-then-not-band_keeps c =
    let r = c.read-n in
    let l = c.loop-i in
    let b = c.band_keeps in
    checked_rules r.ensures (going_broken l.invariant c.loop-i-test.true b.ensures c.if-not-band_keeps.true)

pub loop-i-preserved : goal.loop-i-preserved
loop-i-preserved c =
    let l = c.loop-i in
    let b = c.band_keeps in
    let r2 = c.read-end in
    let r3 = c.read-m in
    going_next l.invariant c.loop-i-test.true b.ensures c.if-not-band_keeps.false r2.ensures r3.ensures

pub returns-then-read-eq0 : goal.returns-then-read-eq0
returns-then-read-eq0 c =
    let r = c.read-n in
    let l = c.loop-i in
    checked_yes r.ensures l.invariant c.loop-i-test.false c.if-bytes-size.true c.read.ensures (λ j. omega (arith, c.type_inv.bytes j)) c.if-read-eq0.true

pub returns : goal.returns
returns c =
    let field = c.read-n.ensures in
    let l = c.loop-i in
    elim c.else-bytes-size.branch [
      | else-bytes-size-via-then-bytes-size+else-read-eq0 w ↦ checked_fill field l.invariant c.loop-i-test.false w.if-bytes-size.true w.read.ensures w.if-read-eq0.false
      | else-bytes-size-via-else-bytes-size w ↦ checked_size field l.invariant c.loop-i-test.false w.if-bytes-size.false
    ]

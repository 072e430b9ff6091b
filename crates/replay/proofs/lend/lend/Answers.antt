-- As much is lent as the line says, or the line is beyond its limit.
use Rattle.std.proofs.Common.{ℕ, ◌≤◌, ◌<◌, ◌≡◌, subst, ap}
use Rattle.script.specs.Kind.{code_of}
use Rattle.replay.specs.Called.{most_lent}
use Rattle.replay.proofs.laws.Nexts.{tells, beyond_at, lent_store, lent_screen, lent_list, lent_target, lent_sheet}
use Rattle.replay.proofs.laws.Lends.{too_much, sheet_left}
use Rattle.replay.proofs.lend.lend.Goals as goal

-- the limit, by the kind's number
enough : (k : ℕ) {m n : ℕ} → m ≡ most_lent k → n ≤ m → n ≤ most_lent k
enough k {n = n} e h = subst (λ (i : ℕ). n ≤ i) e h

within : {n j k : ℕ} → k ≡ j → n ≤ most_lent k → n ≤ most_lent j
within {n = n} e h = subst (λ (i : ℕ). n ≤ most_lent i) e h

above : (k : ℕ) {m n : ℕ} → m ≡ most_lent k → m < n → most_lent k < n
above k {n = n} e h = subst (λ (i : ℕ). i < n) e h

pub returns-then-most_lent-ns : goal.returns-then-most_lent-ns
returns-then-most_lent-ns c =
    beyond_at (too_much (code_of c.args.k) c.args.ns.now c.args.p.now c.requires.1 (above (code_of c.args.k) c.most_lent.ensures c.if-most_lent-ns.true))
    (tells c.args.p.now c.requires.0 c.refused.ensures)

pub returns-in-Lend : goal.returns-in-Lend
returns-in-Lend c =
    let e = ap code_of c.in-Lend.is in
    lent_store c.args.p.now c.requires.0 c.answer.ensures e (within e (enough (code_of c.args.k) c.most_lent.ensures c.if-most_lent-ns.false))

pub returns-in-LendScreen : goal.returns-in-LendScreen
returns-in-LendScreen c =
    let e = ap code_of c.in-LendScreen.is in
    lent_screen c.args.p.now c.requires.0 c.answer.ensures e (within e (enough (code_of c.args.k) c.most_lent.ensures c.if-most_lent-ns.false))

pub returns-in-LendList : goal.returns-in-LendList
returns-in-LendList c =
    let e = ap code_of c.in-LendList.is in
    lent_list c.args.p.now c.requires.0 c.answer.ensures e (within e (enough (code_of c.args.k) c.most_lent.ensures c.if-most_lent-ns.false))

pub returns-in-LendTarget : goal.returns-in-LendTarget
returns-in-LendTarget c =
    let e = ap code_of c.in-LendTarget.is in
    lent_target c.args.p.now c.requires.0 c.answer.ensures e (within e (enough (code_of c.args.k) c.most_lent.ensures c.if-most_lent-ns.false))

pub returns-in_default : goal.returns-in_default
returns-in_default c =
    let d = c.in_default in
    let e = sheet_left c.args.k c.requires.1 d.not-Lend d.not-LendScreen d.not-LendList d.not-LendTarget in
    lent_sheet c.args.p.now c.requires.0 c.answer.ensures e (within e (enough (code_of c.args.k) c.most_lent.ensures c.if-most_lent-ns.false))

-- Each arm makes the call that the kind picks: its id and size are the numbers'.
use Rattle.std.proofs.Common.{ℕ, ◌≡◌, refl, subst, ap}
use Rattle.geom.specs.Refusals.{answer_of}
use Rattle.script.specs.Kind.{code_of}
use Rattle.script.specs.Kind as Kind
use Rattle.rules.specs.Calls.{Call}
use Rattle.windows.specs.View.{done, MeetsStore}
use Rattle.bare_lines.specs.Numbers.{num, id_of}
use Rattle.replay.proofs.laws.Picked.{store_at}
use Rattle.replay.proofs.laws.Arms.{resize_left}
use Rattle.replay.proofs.lend.resize.Goals as goal

pub returns-in-Maximise : goal.returns-in-Maximise
returns-in-Maximise c =
    let args = c.args in
    store_at (ap code_of c.in-Maximise.is) args.line.count args.ns.now args.store.now refl
    (subst (λ (id : ℕ). MeetsStore (Call.Maximise id args.store.now) args.s.now (done c.maximise_window.new.self (answer_of c.maximise_window.result)) c.maximise_window.new.store)
    c.id-id.ensures c.maximise_window.ensures)

pub returns-in-UpdateDims : goal.returns-in-UpdateDims
returns-in-UpdateDims c =
    let args = c.args in
    store_at (ap code_of c.in-UpdateDims.is) args.line.count args.ns.now args.store.now refl c.update_dims.ensures

pub returns-in_default : goal.returns-in_default
returns-in_default c =
    let args = c.args in
    let ns = args.ns.now in
    let size = c.dims in
    let id = c.id-id in
    let left : code_of args.line.kind ≡ Kind.resize = resize_left c.requires.1 c.in_default.not-Maximise c.in_default.not-UpdateDims in
    let call : Call.Resize id.result.0 size.result.w size.result.h args.store.now ≡ Call.Resize (id_of ns) (num ns 1) (num ns 2) args.store.now =
    λ i. Call.Resize (id.ensures i) (size.ensures.0 i) (size.ensures.1 i) args.store.now in
    store_at left args.line.count ns args.store.now refl
    (subst (λ (k : Call). MeetsStore k args.s.now (done c.resize.new.self (answer_of c.resize.result)) c.resize.new.store) call c.resize.ensures)

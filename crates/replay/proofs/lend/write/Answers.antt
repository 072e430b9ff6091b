-- Each arm makes the call that the kind picks.
use Rattle.std.proofs.Common.{ℕ, ◌≡◌, refl, subst, ap, Bool, true, List}
use Rattle.script.specs.Kind.{code_of}
use Rattle.rules.specs.Calls.{Call, does}
use Rattle.windows.specs.declared.Session.{Session}
use Rattle.windows.specs.View.{Written, group, done, written, MeetsStore}
use Rattle.bare_lines.specs.Numbers.{num, id_of, rect_at}
use Rattle.replay.specs.Called.{is_counted}
use Rattle.replay.proofs.laws.Picked.{store_at}
use Rattle.replay.proofs.lend.write.Goals as goal

-- what a call says that is lent the store, and also counts the pixels that it alters, where `counts`
abbrev Wrote : Bool → Session → Written → List ℕ → Call → Type 0
Wrote counts s r last c = MeetsStore c s (done r.session r.answer) last × (counts ≡ true → r.altered ≡ (does (group s) c).altered)

pub returns-in-Fill : goal.returns-in-Fill
returns-in-Fill c =
    let args = c.args in
    let ns = args.ns.now in
    let f = c.fill in
    let made : Call.Fill c.id.result.0 c.rect.result (num ns 5) args.store.now ≡ Call.Fill (id_of ns) (rect_at ns 1) (num ns 5) args.store.now =
    λ i. Call.Fill (c.id.ensures i) (c.rect.ensures i) (num ns 5) args.store.now in
    store_at (ap code_of c.in-Fill.is) args.line.count ns args.store.now refl
    (subst (Wrote (is_counted (code_of args.line.kind)) args.s.now (written f.new.self f.result) f.new.store) made (f.ensures.meets, λ t. f.ensures.altered))

pub returns-in-Blit : goal.returns-in-Blit
returns-in-Blit c =
    let args = c.args in
    store_at (ap code_of c.in-Blit.is) args.line.count args.ns.now args.store.now refl (c.blit.ensures.meets, λ t. c.blit.ensures.altered)

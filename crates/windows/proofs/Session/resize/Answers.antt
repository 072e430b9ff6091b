-- Questions 1, 3, 5 and 6; then the window has its new size and is not maximised, and a full redraw is owed.
use mathlib.Core.Bool.{not}
use Prim.Native.Nat.{ℕ, ◌*◌}
use mathlib.Core.Path.{◌≡◌, refl, ap, ◌∙◌}
use mathlib.Core.Bool.{Bool, true, false, ◌&&◌}
use mathlib.Core.List.{List, [], ◌∷◌}
use lib.Dec.{leb}
use borrow.Author.Tests.{le-leb, lt-leb}
use Rattle.geom.specs.Questions as Questions
use Rattle.geom.specs.Questions.{◌is◌}
use Rattle.geom.specs.Geom.{width, height}
use Rattle.geom.specs.declared.refusal.Refusal.TheVariants.{TooLarge, WindowSize}
use Rattle.scanline.specs.Pixels.{resized_at}
use Rattle.rules.specs.Group.{set_maximised, owing}
use Rattle.rules.specs.Store as Spec
use Rattle.rules.specs.Store.{resized_win}
use Rattle.rules.specs.Calls.{Resize, does}
use Rattle.windows.specs.View.{group}
use Rattle.windows.proofs.laws.Asked.{passed, failed}
use Rattle.windows.proofs.laws.Refused.{exit}
use Rattle.windows.proofs.laws.Shared.{flag_debt}
use Rattle.windows.proofs.laws.Store.{Rule, c_is, small_size_lem, not_begun, no, yes, rep, resizable, resized_there, flagged}
use Rattle.windows.proofs.Session.resize.Goals as goal

abbrev small_size : ℕ → ℕ → Bool
small_size w h = Questions.small w && Questions.small h

-- the rule, read at one window
rule : {id w h : ℕ} {store : List ℕ}
    → Rule (Resize id w h store) id store (λ g. (5 is small_size w h) ∷ (6 is leb (w * h) g.c) ∷ []) (λ _. resized_win w h)
    (λ g v. resized_at (id * g.c) g.c (width v.at) (height v.at) w h store) (λ g. owing (set_maximised id false g))
unfolding does Spec.resize
rule = record { lent = refl; asks = λ g. refl; after = λ g u. refl; stored = λ g. refl }

pub returns-in_err-base : goal.returns-in_err-base
returns-in_err-base c =
    rw (exit c.from_residual.ensures.1) (not_begun c.requires c.slot-at.ensures c.args.store.now rule _ c.in_err-base.ensures)

pub returns-then-not-is_small_size : goal.returns-then-not-is_small_size
returns-then-not-is_small_size c =
    let a = c.args in
    let e : small_size a.size.w a.size.h ≡ false = failed c.is_small_size.ensures (ap not c.if-not-is_small_size.true) in
    no c.requires c.slot-at.ensures a.store.now rule c.in_ok-base.ensures TooLarge (rw e)

pub returns-then-self-size : goal.returns-then-self-size
returns-then-self-size c =
    let a = c.args in
    let e : small_size a.size.w a.size.h ≡ true = passed c.is_small_size.ensures (ap not c.if-not-is_small_size.false) in
    let n : leb (a.size.w * a.size.h) (group a.self.now).c ≡ false =
    ap (leb (a.size.w * a.size.h)) (c_is a.self.now) ∙ lt-leb (a.size.w * a.size.h) a.self.now.shared.c c.if-self-size.true in
    no c.requires c.slot-at.ensures a.store.now rule c.in_ok-base.ensures WindowSize (rw (e, n))

pub resize_pixels-requires : goal.resize_pixels-requires
resize_pixels-requires c =
    let a = c.args in
    let b = c.in_ok-base.ensures in
    let r = rep c.requires c.slot-at.ensures a.store.now b in
    let n = small_size_lem a.size.w a.size.h (passed c.is_small_size.ensures (ap not c.if-not-is_small_size.false)) in
    resizable c.requires c.slot-at.ensures a.store.now b _
    (record { left≤ = r.at.left≤; top≤ = r.at.top≤; width≤ = n.0; height≤ = n.1 }) c.if-self-size.false

pub returns : goal.returns
returns c =
    let a = c.args in
    let b = c.in_ok-base.ensures in
    let e : small_size a.size.w a.size.h ≡ true = passed c.is_small_size.ensures (ap not c.if-not-is_small_size.false) in
    let n : leb (a.size.w * a.size.h) (group a.self.now).c ≡ true =
    ap (leb (a.size.w * a.size.h)) (c_is a.self.now) ∙ le-leb (a.size.w * a.size.h) a.self.now.shared.c c.if-self-size.false in
    let q = c.resize_pixels.ensures in
    rw (flagged c.requires c.slot-at.ensures a.store.now b false c.owe.ensures)
    (yes c.requires c.slot-at.ensures a.store.now rule b (flag_debt a.id.0 false) (rw (e, n)) q.0
    (resized_there c.requires c.slot-at.ensures a.store.now b _ _ _ _ q.1))

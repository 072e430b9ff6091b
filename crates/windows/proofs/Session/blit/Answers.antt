-- Questions 1, 3, 5 and 7; then the window becomes what the blit leaves of it.
use mathlib.Core.Bool.{not}
use Prim.Native.Nat.{ℕ, ◌*◌}
use mathlib.Core.Path.{◌≡◌, refl, ap}
use mathlib.Core.Bool.{true, false, cond}
use mathlib.Core.List.{List, [], ◌∷◌}
use lib.Dec.{leb}
use borrow.Author.Tests.{le-leb, lt-leb}
use Rattle.geom.specs.declared.Rect.{Rect}
use Rattle.geom.specs.Questions.{◌is◌}
use Rattle.geom.specs.Geom.{small_rect, is_empty}
use Rattle.geom.specs.declared.refusal.Refusal.TheVariants.{TooLarge, Stride}
use Rattle.scanline.proofs.rows.Altered.{altered_cond}
use Rattle.window.specs.Window.{Win}
use Rattle.rules.specs.Group.{Group, win}
use Rattle.rules.specs.Store as Spec
use Rattle.rules.specs.Store.{blit_at}
use Rattle.rules.specs.Calls.{Blit, does, accepted}
use Rattle.rules.specs.Panels as Panels
use Rattle.windows.specs.View.{blit_win}
use Rattle.windows.proofs.laws.Asked.{passed, failed}
use Rattle.windows.proofs.laws.Refused.{exit}
use Rattle.windows.proofs.laws.Store.{Rule, Counts, small_rect_lem, set_unless, not_begun, no, rep, stored, refused_one, painted}
use Rattle.windows.proofs.Session.blit.Goals as goal

abbrev blits : Rect → List ℕ → ℕ → List ℕ → ℕ → Win → List ℕ
blits a d stride store base w = blit_at base w a d stride store

-- the rule, read at one window
rule : {id : ℕ} {a : Rect} {d : List ℕ} {stride : ℕ} {store : List ℕ}
    → Rule (Blit id a d stride store) id store (λ _. (5 is small_rect a) ∷ (7 is leb 1 stride) ∷ []) (λ _. blit_win a)
    (λ g. blits a d stride store (id * g.c)) (λ g. g)
unfolding does Spec.blit blit_win
rule {id} {a} {d} {stride} {store} =
    record {
      lent = refl;
      asks = λ g. refl;
      after = λ g u. ap (λ (h : Group). cond (accepted g (Blit id a d stride store)) h g) (set_unless g id (is_empty a) _ u);
      stored = λ g. refl;
    }

counts : {id : ℕ} {a : Rect} {d : List ℕ} {stride : ℕ} {store : List ℕ} → Counts (Blit id a d stride store) store
unfolding does Spec.blit
counts {id} {a} {d} {stride} {store} =
    record { counts = λ g. altered_cond (accepted g (Blit id a d stride store)) store (blit_at (id * g.c) (win g id) a d stride store) }

pub returns-in_err-base : goal.returns-in_err-base
returns-in_err-base c =
    let h = c.requires in
    let p = c.slot-at.ensures in
    let a = c.args in
    rw (exit c.from_residual.ensures.1)
    (refused_one h p (Panels.blit a.area a.«data».now a.stride) a.store.now counts _ (not_begun h p a.store.now rule _ c.in_err-base.ensures))

pub returns-then-not-is_small : goal.returns-then-not-is_small
returns-then-not-is_small c =
    let h = c.requires in
    let p = c.slot-at.ensures in
    let a = c.args in
    let e : small_rect a.area ≡ false = failed c.is_small.ensures (ap not c.if-not-is_small.true) in
    refused_one h p (Panels.blit a.area a.«data».now a.stride) a.store.now counts TooLarge
    (no h p a.store.now rule c.in_ok-base.ensures TooLarge (rw e))

pub returns-then-stride-lt1 : goal.returns-then-stride-lt1
returns-then-stride-lt1 c =
    let h = c.requires in
    let p = c.slot-at.ensures in
    let a = c.args in
    let e : small_rect a.area ≡ true = passed c.is_small.ensures (ap not c.if-not-is_small.false) in
    refused_one h p (Panels.blit a.area a.«data».now a.stride) a.store.now counts Stride
    (no h p a.store.now rule c.in_ok-base.ensures Stride (rw (e, lt-leb 1 a.stride c.if-stride-lt1.true)))

pub blit_rect-requires : goal.blit_rect-requires
blit_rect-requires c =
    let h = c.requires in
    let p = c.slot-at.ensures in
    let b = c.in_ok-base.ensures in
    (stored h p c.args.store.now b, rep h p c.args.store.now b, small_rect_lem c.args.area (passed c.is_small.ensures (ap not c.if-not-is_small.false)))

pub returns : goal.returns
returns c =
    let h = c.requires in
    let p = c.slot-at.ensures in
    let a = c.args in
    let e : small_rect a.area ≡ true = passed c.is_small.ensures (ap not c.if-not-is_small.false) in
    painted h p (Panels.blit a.area a.«data».now a.stride) a.store.now counts (blits a.area a.«data».now a.stride a.store.now) rule
    c.in_ok-base.ensures (rw (e, le-leb 1 a.stride c.if-stride-lt1.false)) c.blit_rect.ensures

-- Questions 1, 3 and 5; then the window becomes what the fill leaves of it.
use mathlib.Core.Bool.{not}
use Prim.Native.Nat.{ℕ, ◌*◌}
use mathlib.Core.Path.{◌≡◌, refl, ap}
use mathlib.Core.Bool.{true, false, cond}
use mathlib.Core.List.{List, [], ◌∷◌}
use Rattle.geom.specs.declared.Rect.{Rect}
use Rattle.geom.specs.Questions.{◌is◌}
use Rattle.geom.specs.Geom.{small_rect, meets}
use Rattle.geom.specs.declared.refusal.Refusal.TheVariants.{TooLarge}
use Rattle.scanline.proofs.rows.Altered.{altered_cond}
use Rattle.window.specs.Window.{Win}
use Rattle.rules.specs.Group.{Group, win}
use Rattle.rules.specs.Store as Spec
use Rattle.rules.specs.Store.{bounds, filled_at}
use Rattle.rules.specs.Calls.{Fill, does, accepted}
use Rattle.rules.specs.Panels as Panels
use Rattle.windows.specs.View.{filled_win}
use Rattle.windows.proofs.laws.Asked.{passed, failed}
use Rattle.windows.proofs.laws.Refused.{exit}
use Rattle.windows.proofs.laws.Store.{Rule, Counts, small_rect_lem, set_if, not_begun, no, rep, stored, refused_one, painted}
use Rattle.windows.proofs.Session.fill.Goals as goal

abbrev fills : Rect → ℕ → List ℕ → ℕ → Win → List ℕ
fills a v store base w = filled_at base w a v store

-- the rule, read at one window
rule : {id : ℕ} {a : Rect} {v : ℕ} {store : List ℕ}
    → Rule (Fill id a v store) id store (λ _. (5 is small_rect a) ∷ []) (λ _. filled_win a) (λ g. fills a v store (id * g.c)) (λ g. g)
unfolding does Spec.fill filled_win
rule {id} {a} {v} {store} =
    record {
      lent = refl;
      asks = λ g. refl;
      after = λ g u. ap (λ (h : Group). cond (accepted g (Fill id a v store)) h g) (set_if g id (meets a (bounds (win g id))) _ u);
      stored = λ g. refl;
    }

counts : {id : ℕ} {a : Rect} {v : ℕ} {store : List ℕ} → Counts (Fill id a v store) store
unfolding does Spec.fill
counts {id} {a} {v} {store} =
    record { counts = λ g. altered_cond (accepted g (Fill id a v store)) store (filled_at (id * g.c) (win g id) a v store) }

pub returns-in_err-base : goal.returns-in_err-base
returns-in_err-base c =
    let h = c.requires in
    let p = c.slot-at.ensures in
    let a = c.args in
    rw (exit c.from_residual.ensures.1)
    (refused_one h p (Panels.fill a.area a.colour) a.store.now counts _ (not_begun h p a.store.now rule _ c.in_err-base.ensures))

pub returns-then-not-is_small : goal.returns-then-not-is_small
returns-then-not-is_small c =
    let h = c.requires in
    let p = c.slot-at.ensures in
    let a = c.args in
    let e : small_rect a.area ≡ false = failed c.is_small.ensures (ap not c.if-not-is_small.true) in
    refused_one h p (Panels.fill a.area a.colour) a.store.now counts TooLarge (no h p a.store.now rule c.in_ok-base.ensures TooLarge (rw e))

pub fill_rect-requires : goal.fill_rect-requires
fill_rect-requires c =
    let h = c.requires in
    let p = c.slot-at.ensures in
    let b = c.in_ok-base.ensures in
    (stored h p c.args.store.now b, rep h p c.args.store.now b, small_rect_lem c.args.area (passed c.is_small.ensures (ap not c.if-not-is_small.false)))

pub returns : goal.returns
returns c =
    let h = c.requires in
    let p = c.slot-at.ensures in
    let a = c.args in
    let e : small_rect a.area ≡ true = passed c.is_small.ensures (ap not c.if-not-is_small.false) in
    painted h p (Panels.fill a.area a.colour) a.store.now counts (fills a.area a.colour a.store.now) rule c.in_ok-base.ensures (rw e)
    c.fill_rect.ensures

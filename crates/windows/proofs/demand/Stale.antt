-- What the rules promise of what is stale, read of what a call of `stale` gives and of the screens that the meant call
-- leaves.
use Prim.Native.Nat.{ℕ}
use mathlib.Core.Path.{◌≡◌, refl, sym, ap, subst, ◌∙◌}
use mathlib.Core.List.{List}
use mathlib.Core.Option.{Option, none, some}
use lib.Dec.{T}
use borrow.Author.Tests.{eq-eqb}
use Rattle.geom.specs.declared.Rect.{Rect}
use Rattle.geom.proofs.basics.Tests.{holds}
use Rattle.rules.specs.Group.{Group}
use Rattle.rules.specs.Calls.{Call, does, accepted}
use Rattle.rules.specs.Demand.{pixel_at}
use Rattle.rules.specs.Stale as Rule
use Rattle.rules.specs.Stale.{StaleRect, is_stale, IsSmallest, meant, Untouched, Overwritten}
use Rattle.rules.proofs.demand.Stale.{stale_promise}
use Rattle.windows.specs.declared.Session.{Session}
use Rattle.windows.specs.View.{Done, Stale, group, MeetsScreen, stale_of}
use Rattle.windows.specs.Run.{calls}
use Rattle.windows.specs.Stale.{handed, RunUntouched, RunOverwritten, ProgramStale}
use Rattle.windows.proofs.demand.Runs.{reached}

-- what is handed back is the rule's rectangle
handed_is : (o : StaleRect) → handed (stale_of o) ≡ o.rect
handed_is o = go o.rect
  where
    go : (q : Option Rect) → handed (stale_of (record { answer = o.answer; rect = q })) ≡ q
    go none = refl
    go (some r) = refl

-- a call that answered 0 was accepted
was_accepted : {k : Call} {s : Session} {d : Done} {left : List ℕ} → MeetsScreen k s d left → d.answer ≡ 0 → T (accepted (group s) k)
was_accepted {k} {s} m e = holds (eq-eqb (does (group s) k).answer 0 (sym m.meets.answer ∙ e))

run_untouched : (s : Session) (which : ℕ) (area : Rect) (o : Option Rect) → Untouched (group s) which area o → RunUntouched s which area o
unfolding Untouched RunUntouched
run_untouched s which area o u w h store screen left d m e px py hx hy i n =
    ap (λ (l : List ℕ). pixel_at l w px py) m.shown ∙ u w h store screen (was_accepted m e) px py hx hy i n

run_overwritten : (s : Session) (which : ℕ) (area : Rect) → Overwritten (group s) which area → RunOverwritten s which area
unfolding Overwritten RunOverwritten
run_overwritten s which area v w h store screen left other left' d d' m e m' e' px py hx hy i =
    ap (λ (l : List ℕ). pixel_at l w px py) m.shown
    ∙ v w h store screen other (was_accepted m e) (was_accepted m' e') px py hx hy i
    ∙ ap (λ (l : List ℕ). pixel_at l w px py) (sym m'.shown)

pub program_stale : ProgramStale
unfolding ProgramStale Rule.Stale
program_stale c ms s run which area r is e =
    let a : (Rule.stale (group s) which area).answer ≡ 0 = sym (ap (λ (x : Stale). x.answer) is) ∙ e in
    let promise = subst
    (λ (g : Group). (Rule.stale g which area).answer ≡ 0 → IsSmallest (is_stale g which area) (Rule.stale g which area).rect × Untouched g which area (Rule.stale g which area).rect × Overwritten g which area)
    (sym (reached run)) (stale_promise c (calls ms) which area) a in
    subst (λ (o : Option Rect). IsSmallest (is_stale (group s) which area) o × RunUntouched s which area o × RunOverwritten s which area)
    (sym (ap handed is ∙ handed_is (Rule.stale (group s) which area)))
    (promise.0, run_untouched s which area _ promise.1, run_overwritten s which area promise.2)

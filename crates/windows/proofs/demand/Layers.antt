-- What the rules promise of panels that stay on top, read of the sessions and screens that the calls of a run left.
use Prim.Native.Nat.{ℕ}
use mathlib.Core.Path.{◌≡◌, refl, sym, ap, subst, subst₂, ◌∙◌}
use mathlib.Core.List.{List, [], ◌∷◌, ◌++◌}
use Rattle.rules.specs.Group.{Group, start}
use Rattle.rules.specs.Calls.{Made, Route, does, after}
use Rattle.rules.specs.Book.{book_of}
use Rattle.rules.specs.Ledger.{ledger_of}
use Rattle.rules.specs.Demand.{press_at}
use Rattle.rules.specs.Layers.{OnTop, PressesOnTop, PixelsOnTop, InLayers, Reached, Seen}
use Rattle.rules.proofs.demand.OnTop.{on_top}
use Rattle.windows.specs.declared.Session.{Session}
use Rattle.windows.specs.View.{group}
use Rattle.windows.specs.Run.{calls, AsRuled}
use Rattle.windows.specs.Layers.{RunPressesOnTop, RunPixelsOnTop, ProgramOnTop}
use Rattle.windows.proofs.demand.Runs.{reached, ruled}
use Rattle.windows.proofs.demand.Program.{second_screen}

run_presses : (c : ℕ) (ms : List Made) (s : Session) → group s ≡ after c (calls ms) → RunPressesOnTop c ms s
unfolding RunPressesOnTop OnTop PressesOnTop does
run_presses c ms s e id px py hx hy panel p r m =
    subst₂ (λ (g h : Group). Reached (book_of c (calls ms)) (ledger_of c (calls ms)) g h p px py) (sym e)
    (sym (m.after ∙ ap (λ (g : Group). (does g (Route (press_at p px py))).group) e))
    ((on_top c (calls ms)).3 id px py hx hy panel p)

run_pixels : (c : ℕ) (ms : List Made) → AsRuled (start c).group ms → RunPixelsOnTop c ms
unfolding RunPixelsOnTop OnTop PixelsOnTop
run_pixels c ms h w v ms₁ m₁ ms₂ m₂ rest e two id px py hx hy panel =
    let b = book_of c (calls ms₁ ++ (m₁.call ∷ calls ms₂)) in
    subst (λ (z : List ℕ). Seen b w z px py) (sym (second_screen c ms₁ m₁ ms₂ m₂ rest (subst (AsRuled (start c).group) e h) two))
    ((on_top c (calls ms₁ ++ (m₁.call ∷ (calls ms₂ ++ (m₂.call ∷ []))))).4 w v (calls ms₁) m₁.call (calls ms₂) m₂.call [] refl two id px py hx hy panel)

pub program_on_top : ProgramOnTop
unfolding ProgramOnTop OnTop
program_on_top c ms s r = (
  subst (λ (g : Group). InLayers (book_of c (calls ms)) g.order) (sym (reached r)) (on_top c (calls ms)).1,
  run_presses c ms s (reached r),
  run_pixels c ms (ruled r),
)

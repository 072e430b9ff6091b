-- Demand 3 of the rules, read of the screens, sessions and lists that the calls of a run left.
use Prim.Native.Nat.{ℕ}
use mathlib.Core.Path.{◌≡◌, refl, sym, ap, subst, subst₂, ◌∙◌}
use mathlib.Core.Bool.{Bool, true, false, cond, ◌&&◌}
use lib.Dec.{T}
use mathlib.Core.List.{List, [], ◌∷◌, ◌++◌, append_assoc}
use Rattle.geom.proofs.basics.Tests.{is_true, clash, snd}
use Rattle.window.specs.declared.Event.TheVariants.{MouseUp}
use Rattle.rules.specs.Group.{Group, start}
use Rattle.rules.specs.Visible.{visible_list}
use Rattle.rules.specs.Walk.{begun}
use Rattle.rules.specs.Calls.{Call, Made, Route, does, accepted, by_rule, after}
use Rattle.rules.specs.Book.{book_of, topmost}
use Rattle.rules.specs.Ledger.{ledger_of}
use Rattle.rules.specs.Conditions.{Drawing, nothing, undivided, portion, deed, screen_of, is_end, ends, wrote}
use Rattle.rules.specs.Demand as Demand
use Rattle.rules.specs.Demand.{pixel_at, expected, left_at, press_at, Pressed, Released, ListShows}
use Rattle.rules.specs.Portions as Portions
use Rattle.rules.proofs.demand.Demand3.{demand_3}
use Rattle.rules.proofs.demand.Walks.{walks}
use Rattle.windows.specs.declared.Session.{Session}
use Rattle.windows.specs.View.{group}
use Rattle.windows.specs.Run.{calls, LeftAs, AsRuled, RunPixels, RunPortions, RunPresses, RunReleases, RunVisibles, ProgramDemand3}
use Rattle.windows.proofs.demand.Runs.{calls_append, ruled_from, reached, ruled}

-- The screens --------------------------------------------------------------------------------------------------------

-- what draws is lent a screen
ends_drawn : (on : Bool) (d : Drawing) (l rule : List ℕ) → is_end on d ≡ true → LeftAs (screen_of d) l rule → l ≡ rule
ends_drawn on nothing l rule e h = clash e refl
ends_drawn on (undivided w v screen) l rule e h = h
ends_drawn on (portion w v screen) l rule e h = h

-- the screen that a redraw or a walk's last portion left is the rule's
screen_is : (c : ℕ) (ms : List Made) (m : Made) (rest : List Made) → AsRuled (start c).group (ms ++ (m ∷ rest)) → T (ends (after c (calls ms)) m.call)
    → m.screen ≡ (does (after c (calls ms)) m.call).screen
unfolding after AsRuled
screen_is c ms m rest h e =
    let g = after c (calls ms) in
    ends_drawn (begun (does g m.call).group.walk) (deed m.call).draws m.screen _ (snd (accepted g m.call) _ (is_true e))
    (ruled_from (start c).group ms (m ∷ rest) h).2

-- where a portion wrote a point, its screen is the rule's too
wrote_same : (g : Group) (t : Bool) (d : Drawing) (l rule : List ℕ) (w px py n : ℕ) → LeftAs (screen_of d) l rule
    → cond (t && wrote g d px py) (pixel_at l w px py) n ≡ cond (t && wrote g d px py) (pixel_at rule w px py) n
wrote_same g false d l rule w px py n h = refl
wrote_same g true nothing l rule w px py n h = refl
wrote_same g true (undivided x y screen) l rule w px py n h = refl
wrote_same g true (portion x y screen) l rule w px py n h = ap (λ (z : List ℕ). cond (wrote g (portion x y screen) px py) (pixel_at z w px py) n) h

left_same : (w px py : ℕ) (g : Group) (ms more : List Made) (n : ℕ) → AsRuled g (ms ++ more) → left_at g w px py n ms ≡ left_at g w px py n (by_rule g (calls ms))
unfolding left_at by_rule AsRuled
left_same w px py g [] more n h = refl
left_same w px py g (m ∷ ms) more n h =
    ap (λ (k : ℕ). left_at (does g m.call).group w px py k ms) (wrote_same g (accepted g m.call) (deed m.call).draws m.screen _ w px py n h.2)
    ∙ left_same w px py (does g m.call).group ms more _ h.3

-- the screen that the second of two redraws left
pub second_screen : (c : ℕ) (ms₁ : List Made) (m₁ : Made) (ms₂ : List Made) (m₂ : Made) (rest : List Made)
    → AsRuled (start c).group (ms₁ ++ (m₁ ∷ (ms₂ ++ (m₂ ∷ rest)))) → {w h : ℕ} → Demand.Two c w h (calls ms₁) m₁.call (calls ms₂) m₂.call
    → m₂.screen ≡ (does (after c (calls ms₁ ++ (m₁.call ∷ calls ms₂))) m₂.call).screen
second_screen c ms₁ m₁ ms₂ m₂ rest all two =
    let same = calls_append ms₁ (m₁ ∷ ms₂) in
    screen_is c (ms₁ ++ (m₁ ∷ ms₂)) m₂ rest (rw append_assoc all) (subst (λ (ks : List Call). T (ends (after c ks) m₂.call)) (sym same) two.second.ended)
    ∙ ap (λ (ks : List Call). (does (after c ks) m₂.call).screen) same

run_pixels : (c : ℕ) (ms : List Made) → AsRuled (start c).group ms → RunPixels c ms
unfolding RunPixels Demand.Demand3 Demand.Pixels after AsRuled
run_pixels c ms h w v ms₁ m₁ ms₂ m₂ rest e two px py hx hy =
    let all : AsRuled (start c).group (ms₁ ++ (m₁ ∷ (ms₂ ++ (m₂ ∷ rest)))) = subst (AsRuled (start c).group) e h in
    let g = (does (after c (calls ms₁)) m₁.call).group in
    let b = book_of c (calls ms₁ ++ (m₁.call ∷ calls ms₂)) in
    ap (λ (z : List ℕ). pixel_at z w px py) (second_screen c ms₁ m₁ ms₂ m₂ rest all two)
    ∙ (demand_3 c (calls ms₁ ++ (m₁.call ∷ (calls ms₂ ++ (m₂.call ∷ []))))).0 w v (calls ms₁) m₁.call (calls ms₂) m₂.call [] refl two px py hx hy
    ∙ ap (expected b (topmost b px py) px py)
    (sym (left_same w px py g ms₂ (m₂ ∷ rest) (pixel_at m₁.screen w px py) (ruled_from (start c).group ms₁ (m₁ ∷ (ms₂ ++ (m₂ ∷ rest))) all).3
    ∙ ap (λ (z : List ℕ). left_at g w px py (pixel_at z w px py) (by_rule g (calls ms₂))) (screen_is c ms₁ m₁ (ms₂ ++ (m₂ ∷ rest)) all two.first)))

run_portions : (c : ℕ) (ms : List Made) → AsRuled (start c).group ms → RunPortions c ms
unfolding RunPortions Portions.Walks Portions.LastPortions
run_portions c ms h w v ms₁ m rest e ended px py id hx hy t =
    ap (λ (z : List ℕ). pixel_at z w px py) (screen_is c ms₁ m rest (subst (AsRuled (start c).group) e h) ended.ended)
    ∙ walks.1 c w v (calls ms₁) m.call ended px py id hx hy t

-- Presses, releases and lists ----------------------------------------------------------------------------------------

run_presses : (c : ℕ) (ms : List Made) (s : Session) → group s ≡ after c (calls ms) → RunPresses c ms s
unfolding RunPresses Demand.Demand3 Demand.Presses does
run_presses c ms s e p px py hx hy r m =
    subst₂ (λ (g h : Group). Pressed (book_of c (calls ms)) (ledger_of c (calls ms)) g h p px py) (sym e)
    (sym (m.after ∙ ap (λ (g : Group). (does g (Route (press_at p px py))).group) e))
    ((demand_3 c (calls ms)).1 p px py hx hy)

run_releases : (c : ℕ) (ms : List Made) (s : Session) → group s ≡ after c (calls ms) → RunReleases c ms s
unfolding RunReleases Demand.Demand3 Demand.Releases does
run_releases c ms s e n px py hx hy r m =
    subst₂ (λ (g h : Group). Released (book_of c (calls ms)) (ledger_of c (calls ms)) g h n px py) (sym e)
    (sym (m.after ∙ ap (λ (g : Group). (does g (Route (MouseUp px py n))).group) e))
    ((demand_3 c (calls ms)).2 n px py hx hy)

run_visibles : (c : ℕ) (ms : List Made) (s : Session) → group s ≡ after c (calls ms) → RunVisibles c ms s
unfolding RunVisibles Demand.Demand3 Demand.Visibles
run_visibles c ms s e id lent list r shown l =
    subst (ListShows (book_of c (calls ms)) id lent)
    (sym ((λ i. record { answer = l.answer i; count = l.count i; list = l.list i }) ∙ ap (λ (g : Group). visible_list g id lent) e))
    ((demand_3 c (calls ms)).3 id lent shown)

pub program_demand_3 : ProgramDemand3
unfolding ProgramDemand3
program_demand_3 c ms s r = (
  reached r,
  ruled r,
  run_pixels c ms (ruled r),
  run_portions c ms (ruled r),
  run_presses c ms s (reached r),
  run_releases c ms s (reached r),
  run_visibles c ms s (reached r),
)

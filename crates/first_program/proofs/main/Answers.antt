-- Each check is true of what the calls before it left.
use Rattle.std.proofs.Common.{ℕ, ◌≡◌, List, Ok, refl, ap, subst, ◌∙◌, eqb, get_or}
use Rattle.std.proofs.Math.Option.{Option}
use Rattle.geom.proofs.basics.Refusals.{accepted}
use Rattle.window.specs.declared.Event.{Event}
use Rattle.rules.specs.Calls.{Call, Resize}
use Rattle.windows.specs.declared.Session.{Session}
use Rattle.windows.specs.View.{Done, MeetsStore}
use Rattle.first_program.specs.inner.Press.{is_press}
use Rattle.first_program.proofs.laws.Calls.{ok, created_0, resized_0, shown_0, filled_0, altered_4, marked_0, redrawn_0, screen_is, pressed_0, popped_0, second_is}
use Rattle.first_program.proofs.main.Goals as goal

-- the size that the code makes is 2 by 2
sized : {w h : ℕ} {s : Session} {r : Done} {p t : List ℕ} → (w ≡ 2) × (h ≡ 2) → MeetsStore (Resize 0 w h p) s r t → MeetsStore (Resize 0 2 2 p) s r t
sized {s = s} {r = r} {p = p} {t = t} e = subst (λ (k : Call). MeetsStore k s r t) (λ i. Resize 0 (e.0 i) (e.1 i) p)

pub expect-requires-2 : goal.expect-requires-2
expect-requires-2 c = c.is_ok-2.ensures.value ∙ ok _ (created_0 c.start-begun.ensures c.create.ensures)

pub expect-requires-3 : goal.expect-requires-3
expect-requires-3 c = c.is_ok-3.ensures.value ∙ ok _ (resized_0 c.start-begun.ensures c.create.ensures (sized c.new-size.ensures c.resize.ensures))

pub expect-requires-4 : goal.expect-requires-4
expect-requires-4 c = c.is_ok-4.ensures.value ∙ ok _ (shown_0 c.start-begun.ensures c.create.ensures (sized c.new-size.ensures c.resize.ensures) c.show.ensures)

pub expect-requires-5 : goal.expect-requires-5
expect-requires-5 c =
    let is_4 : c.fill.result ≡ Ok 4 = accepted 0 _ (filled_0 c.start-begun.ensures c.create.ensures (sized c.new-size.ensures c.resize.ensures) c.show.ensures c.new-whole.ensures c.fill.ensures) ∙ ap Ok (altered_4 c.start-begun.ensures c.create.ensures (sized c.new-size.ensures c.resize.ensures) c.show.ensures c.new-whole.ensures c.fill.ensures) in
    rw c.eq.ensures (rw is_4 refl)

pub expect-requires-6 : goal.expect-requires-6
expect-requires-6 c = c.is_ok-5.ensures.value ∙ ok _ (marked_0 c.start-begun.ensures c.create.ensures (sized c.new-size.ensures c.resize.ensures) c.show.ensures c.new-whole.ensures c.fill.ensures c.mark.ensures)

pub expect-requires-7 : goal.expect-requires-7
expect-requires-7 c = c.is_ok-6.ensures.value ∙ ok _ (redrawn_0 c.start-begun.ensures c.create.ensures (sized c.new-size.ensures c.resize.ensures) c.show.ensures c.new-whole.ensures c.fill.ensures c.mark.ensures c.redraw.ensures)

pub expect-requires-8 : goal.expect-requires-8
expect-requires-8 c = ap (λ (l : List ℕ). eqb (get_or l 1 0) 7) (screen_is c.start-begun.ensures c.create.ensures (sized c.new-size.ensures c.resize.ensures) c.show.ensures c.new-whole.ensures c.fill.ensures c.mark.ensures c.redraw.ensures)

pub expect-requires-9 : goal.expect-requires-9
expect-requires-9 c = ap (λ (l : List ℕ). eqb (get_or l 2 0) 5) (screen_is c.start-begun.ensures c.create.ensures (sized c.new-size.ensures c.resize.ensures) c.show.ensures c.new-whole.ensures c.fill.ensures c.mark.ensures c.redraw.ensures)

pub expect-requires-10 : goal.expect-requires-10
expect-requires-10 c = c.is_ok-7.ensures.value ∙ ok _ (pressed_0 c.start-begun.ensures c.create.ensures (sized c.new-size.ensures c.resize.ensures) c.show.ensures c.new-whole.ensures c.fill.ensures c.mark.ensures c.redraw.ensures c.route.ensures)

pub expect-requires-11 : goal.expect-requires-11
expect-requires-11 c = c.is_ok-8.ensures.value ∙ ok _ (popped_0 c.start-begun.ensures c.create.ensures (sized c.new-size.ensures c.resize.ensures) c.show.ensures c.new-whole.ensures c.fill.ensures c.mark.ensures c.redraw.ensures c.route.ensures c.pop.ensures)

pub expect-requires-12 : goal.expect-requires-12
expect-requires-12 c = c.is_press.ensures ∙ ap (λ (e : Option Event). is_press e 1 1) (second_is c.start-begun.ensures c.create.ensures (sized c.new-size.ensures c.resize.ensures) c.show.ensures c.new-whole.ensures c.fill.ensures c.mark.ensures c.redraw.ensures c.route.ensures c.pop.ensures c.pop-2.ensures)

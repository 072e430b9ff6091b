-- The window's pixels lie in its part of the store; of no window, or where less is lent, none are shown.
use Rattle.std.proofs.Common.{ℕ, ◌+◌, ◌*◌, ◌≤◌, refl, sym, ap, ◌∙◌, arith, List}
use Rattle.geom.specs.Refusals.{answer_of}
use Rattle.geom.proofs.basics.Refusals.{number_positive}
use Rattle.windows.specs.View.{group, placed_of}
use Rattle.answer_text.specs.Text.{line, numbers}
use Rattle.std.specs.Prelude.{Ok}
use Rattle.replay.specs.Told.{window_pixels}
use Rattle.replay.proofs.laws.Nexts.{retold}
use Rattle.replay.proofs.laws.Shows.{pixels_of, no_window, no_store}
use Rattle.replay.proofs.laws.Sizes.{in_store}
use Rattle.replay.proofs.show.pixels.Goals as goal

pub returns-in_default : goal.returns-in_default
returns-in_default c =
    let a = c.args in
    let id = c.id-id in
    let none = no_window a.s.now id.result.0 a.lent a.store.now (placed_of c.rect_of.result) c.rect_of.ensures
    (λ z. omega (arith, number_positive c.in_default.field-0, sym (ap answer_of c.in_default.is) ∙ z)) in
    retold
    (ap (λ (l : List ℕ). line 0 (numbers l)) (sym none ∙ ap (λ (i : ℕ). window_pixels (group a.s.now) i a.lent a.store.now) id.ensures))
    c.answer.ensures

pub returns-then-lent-c : goal.returns-then-lent-c
returns-then-lent-c c =
    let a = c.args in
    let id = c.id-id in
    retold
    (ap (λ (l : List ℕ). line 0 (numbers l))
    (sym (no_store a.s.now id.result.0 a.lent a.store.now c.if-lent-c.true) ∙ ap (λ (i : ℕ). window_pixels (group a.s.now) i a.lent a.store.now) id.ensures))
    c.answer-then-lent-c.ensures

pub write_part-requires : goal.write_part-requires
write_part-requires c =
    let s = c.args.s.now in
    let inside : c.id-id.result.0 * s.shared.c + c.in-Ok.rect.dims.w * c.in-Ok.rect.dims.h ≤ 16 * s.shared.c =
    in_store s c.id-id.result.0 (placed_of (Ok c.in-Ok.rect)) c.requires.0 c.in-Ok.ensures refl in
    let lent = c.if-lent-c.false in
    let most = c.requires.1 in
    omega (arith, inside, lent, most)

pub returns : goal.returns
returns c =
    let a = c.args in
    let s = a.s.now in
    let id = c.id-id in
    retold
    (ap (λ (l : List ℕ). line 0 (numbers l))
    (pixels_of s id.result.0 a.lent a.store.now (placed_of (Ok c.in-Ok.rect)) c.in-Ok.ensures refl c.if-lent-c.false
    ∙ ap (λ (i : ℕ). window_pixels (group s) i a.lent a.store.now) id.ensures))
    c.write_part.ensures

-- `look_rows`: after j turns the first j rows are written.
use Rattle.std.proofs.Common.{◌≡◌, ℕ, ◌+◌, ◌*◌, ◌/◌, ◌≤◌, List, length, replicate, refl, ap, ◌∙◌, suc-mul, mul_comm, add-one, arith}
use Rattle.look.specs.declared.Steps.{Steps}
use Rattle.look.specs.View.{window_pixel}
use Rattle.look.specs.Quarters.{place_quarters}
use Rattle.look.specs.inner.Steps.{look_row}
use Rattle.look.proofs.laws.Picture.{painted, painted_none, painted_all}
use Rattle.look.proofs.laws.Rows.{in_window, below_window, row_in_lem, row_more}
use Rattle.look.proofs.rows.look_rows.Goals as goal
use Rattle.look.proofs.rows.look_rows.Goals.{then-row-h, else-row-h}

-- the pixel of the rule
abbrev seen : List ℕ → ℕ → ℕ → ℕ → Steps → ℕ → ℕ → ℕ
seen store base w h t i j = window_pixel base w h store (place_quarters t.x t.step i) (place_quarters t.y t.step j)

pub loop-j-init : goal.loop-j-init
loop-j-init c =
    let a = c.args in
    (painted_none (seen a.store.now a.base a.w a.h a.t) a.tw a.target.now, refl)

pub loop-j-preserved : goal.loop-j-preserved
loop-j-preserved c =
    let a = c.args in
    let l = c.loop-j in
    let n = c.columns-n in
    let f = seen a.store.now a.base a.w a.h a.t in
    let at : ℕ = l.j * a.tw in
    let row : ℕ = (a.t.y + l.j * a.t.step) / 4 in
    let room : at + a.tw ≤ length a.target.now =
    omega (arith, row_in_lem l.j a.th a.tw c.loop-j-test.true, mul_comm a.tw a.th, c.requires.1) in
    let next : (l.j + 1) * a.tw ≡ l.j * a.tw + a.tw = ap (λ (k : ℕ). k * a.tw) (add-one l.j) ∙ suc-mul l.j a.tw in
    let fits : (l.j + 1) * a.tw ≤ length a.target.now = omega arith in
    let more = row_more f a.tw a.target.now l.target c.if-row-h.target at l.j l.invariant.0 refl fits in (
      elim c.if-row-h.branch [
        | then-row-h w ↦
            more (look_row a.store.now (a.base + row * a.w) a.t.x a.t.step n.result a.tw) (w.target-is ∙ w.look_row.ensures)
            (in_window a.base a.w a.h a.store.now a.t.x a.t.step a.tw n.result (row) w.if-row-h.true n.ensures)
        | else-row-h w ↦
            more (replicate a.tw 0) (w.target-is ∙ w.fill_part.ensures.pixels)
            (below_window a.base a.w a.h a.store.now a.t.x a.t.step a.tw n.result (row) w.if-row-h.false)
      ],
      elim c.if-row-h.branch [
        | then-row-h w ↦ ap length w.target-is ∙ w.look_row.auto.target ∙ l.invariant.1
        | else-row-h w ↦ ap length w.target-is ∙ w.fill_part.auto.px ∙ l.invariant.1
      ],
    )

pub returns : goal.returns
returns c =
    let a = c.args in
    let l = c.loop-j in
    let f = seen a.store.now a.base a.w a.h a.t in
    let e : l.j ≡ a.th = omega arith in
    l.invariant.0
    ∙ ap (λ (k : ℕ). painted f a.tw k a.target.now) e
    ∙ painted_all f a.tw a.th a.target.now (c.requires.1 ∙ mul_comm a.tw a.th)

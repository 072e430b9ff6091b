-- The number of the kind chooses the arm, and each arm is handed the numbers of the line.
use Rattle.std.proofs.Common.{ℕ, ◌≡◌, sym, ap, ◌∙◌, List, Bool, true, false, eqb}
use Rattle.geom.specs.declared.Rect.{Rect}
use Rattle.geom.specs.declared.Pos.{Pos}
use Rattle.geom.specs.Bare.{Tested, answer14, both_fit, bare_contains, bare_contains_rect, bare_within, bare_union, bare_intersect, bare_pieces}
use Rattle.script.specs.Kind as Kind
use Rattle.bare_lines.specs.Numbers.{num, rect_at}
use Rattle.bare_lines.specs.Told.{met_line, united_line, pieces_line, tested_line, rect_line}
use Rattle.answer_text.proofs.laws.Added.{told}
use Rattle.bare_lines.proofs.geometry.rect_line.Goals as goal

-- the arms, of a kind that is none of those before
module _ (ns : List ℕ) (k : ℕ) {a b : Rect} (e : a ≡ rect_at ns 0) (f : b ≡ rect_at ns 4) where
  met_arm : eqb k Kind.intersect ≡ true → met_line (bare_intersect a b) ≡ rect_line k ns
  unfolding rect_line
  met_arm h = rw (h, e, f)

  module _ (m : eqb k Kind.intersect ≡ false) where
    pieces_arm : eqb k Kind.pieces ≡ true → pieces_line (answer14 (both_fit a b)) (bare_pieces a b) ≡ rect_line k ns
    unfolding rect_line
    pieces_arm h = rw (m, h, e, f)

    module _ (p : eqb k Kind.pieces ≡ false) where
      united_arm : eqb k Kind.union ≡ true → united_line (bare_union a b) ≡ rect_line k ns
      unfolding rect_line
      united_arm h = rw (m, p, h, e, f)

      module _ (u : eqb k Kind.union ≡ false) where
        contains_arm : eqb k Kind.contains ≡ true → {q : Pos} {t : Tested} → (q.x ≡ num ns 4) × (q.y ≡ num ns 5) → t ≡ bare_contains a q.x q.y
            → tested_line t ≡ rect_line k ns
        unfolding rect_line
        contains_arm h at q = ap tested_line q ∙ rw (m, p, u, h, e, at.0, at.1)

        module _ (o : eqb k Kind.contains ≡ false) where
          inside_arm : eqb k Kind.contains_rect ≡ true → {t : Tested} → t ≡ bare_contains_rect a b → tested_line t ≡ rect_line k ns
          unfolding rect_line
          inside_arm h q = ap tested_line q ∙ rw (m, p, u, o, h, e, f)

          within_arm : eqb k Kind.contains_rect ≡ false → {t : Tested} → t ≡ bare_within a (num ns 4) (num ns 5) → tested_line t ≡ rect_line k ns
          unfolding rect_line
          within_arm h q = ap tested_line q ∙ rw (m, p, u, o, h, e)

-- The needs -----------------------------------------------------------------------------------------------------------

pub returns-then-is : goal.returns-then-is
returns-then-is g c =
    told (λ ps. ps) (ap met_line c.intersect.ensures ∙ met_arm c.args.ns.now _ c.rect-a.ensures c.rect-b.ensures (sym c.is.ensures ∙ c.if-is.true)) c.found.ensures

pub returns-then-is-2 : goal.returns-then-is-2
returns-then-is-2 g c =
    told (λ ps. ps)
    (pieces_arm c.args.ns.now _ c.rect-a.ensures c.rect-b.ensures (sym c.is.ensures ∙ c.if-is.false) (sym c.is-2.ensures ∙ c.if-is-2.true))
    c.pieces.ensures

pub returns-then-is-3 : goal.returns-then-is-3
returns-then-is-3 g c =
    told (λ ps. ps)
    (ap united_line c.union.ensures
    ∙ united_arm c.args.ns.now _ c.rect-a.ensures c.rect-b.ensures (sym c.is.ensures ∙ c.if-is.false) (sym c.is-2.ensures ∙ c.if-is-2.false) (sym c.is-3.ensures ∙ c.if-is-3.true))
    c.united.ensures

pub returns-then-is-4 : goal.returns-then-is-4
returns-then-is-4 g c =
    told (λ ps. ps)
    (contains_arm c.args.ns.now _ c.rect-a.ensures c.rect-b.ensures (sym c.is.ensures ∙ c.if-is.false) (sym c.is-2.ensures ∙ c.if-is-2.false) (sym c.is-3.ensures ∙ c.if-is-3.false)
    (sym c.is-4.ensures ∙ c.if-is-4.true) c.pos.ensures c.contains.ensures)
    c.tested.ensures

pub returns-then-is-5 : goal.returns-then-is-5
returns-then-is-5 g c =
    told (λ ps. ps)
    (inside_arm c.args.ns.now _ c.rect-a.ensures c.rect-b.ensures (sym c.is.ensures ∙ c.if-is.false) (sym c.is-2.ensures ∙ c.if-is-2.false) (sym c.is-3.ensures ∙ c.if-is-3.false)
    (sym c.is-4.ensures ∙ c.if-is-4.false) (sym c.is-5.ensures ∙ c.if-is-5.true) c.contains_rect.ensures)
    c.tested-then-is-5.ensures

pub returns : goal.returns
returns g c =
    told (λ ps. ps)
    (within_arm c.args.ns.now _ c.rect-a.ensures c.rect-b.ensures (sym c.is.ensures ∙ c.if-is.false) (sym c.is-2.ensures ∙ c.if-is-2.false) (sym c.is-3.ensures ∙ c.if-is-3.false)
    (sym c.is-4.ensures ∙ c.if-is-4.false) (sym c.is-5.ensures ∙ c.if-is-5.false) c.within.ensures)
    c.tested-2.ensures

-- What visits of the four pieces change, one after the other, is what visits of the part's change. A piece has the rectangles
-- behind the one that split the part.
use Rattle.std.proofs.Common.{ℕ, ◌+◌, ◌-◌, ◌<◌, ◌≡◌, refl, false, [], ◌∷◌, ◌++◌, length, get_or, arith}
use Rattle.std.specs.List.{FoldsTo}
use Rattle.geom.specs.declared.Rect.{Rect}
use Rattle.geom.specs.Geom.{rect, is_empty, if_any}
use Rattle.geom.specs.inner.Fits.{Fits, Within}
use Rattle.geom.specs.Lists.{outside_all}
use Rattle.visible.specs.inner.Walk.{AllSolid}
use Rattle.visible.proofs.laws.Parts.{within_fits}
use Rattle.visible.proofs.laws.Split.{left_whole, behind, behind_fewer, split, solid_at, solid_behind}
use Rattle.visible.proofs.laws.Walks.{folds_done, folds_whole, can_whole, piece_walked, piece_skipped, can_first, can_second, can_third, can_fourth, walked_all}
use Rattle.visible.proofs.laws.Cuts.{Cuts, cuts, above, left_of, right_of, below}
use Rattle.visible.proofs.laws.Cuts.{above_is, left_of_is, right_of_is, below_is}
use Rattle.visible.proofs.laws.Cuts.{above_some, left_of_some, right_of_some, below_some}
use Rattle.visible.proofs.laws.Cuts.{above_none, left_of_none, right_of_none, below_none}
use Rattle.visible.proofs.laws.Cuts.{above_in, left_of_in, right_of_in, below_in}
use Rattle.visible.proofs.walk.+walk.Goals as goal
use Rattle.visible.proofs.walk.+walk.Goals.{After-min-b, Joined-y-u, Joined-x-l, Joined-r-right}
use Rattle.visible.proofs.walk.+walk.Goals.{then-y-u, else-y-u, then-x-l, else-x-l, then-r-right, else-r-right}

abbrev Cut : (g : _) (t : ℕ) → After-min-b g t → Type 0
Cut g t c = Cuts c.args.x c.args.y c.args.w c.args.h (get_or c.args.rects.now c.in-Some.k (rect 0 0 0 0)) c.max-l.result c.max-u.result c.min-r.result c.min-b.result

cut : (g : _) (t : ℕ) (c : After-min-b g t) → Cut g t c
cut g t c =
    let k = c.in-Some.ensures in
    cuts k.1 c.max-l.ensures c.max-u.ensures (omega (arith, c.min-r.ensures, c.right.ensures)) (omega (arith, c.min-b.ensures, c.bottom.ensures))

-- the part's pieces
pieces : (g : _) (t : ℕ) (c : After-min-b g t) (q : Cut g t c) → let a = c.args in let bs = behind c.in-Some.k a.rects.now in
    outside_all (rect a.x a.y a.w a.h ∷ []) a.rects.now
    ≡ outside_all (if_any (above q)) bs ++ (outside_all (if_any (left_of q)) bs ++ (outside_all (if_any (right_of q)) bs ++ outside_all (if_any (below q)) bs))
pieces g t c q =
    let a = c.args in
    split (rect a.x a.y a.w a.h) a.rects.now c.in-Some.ensures (above_is q) (left_of_is q) (right_of_is q) (below_is q)

-- what a piece asks
asks : (g : _) (t : ℕ) (c : After-min-b g t) (p : Rect) → let a = c.args in let bs = behind c.in-Some.k a.rects.now in
    Within (rect a.x a.y a.w a.h) p → is_empty p ≡ false → (Fits p × (0 < length bs → is_empty p ≡ false)) × AllSolid bs
asks g t c p inside some =
    let a = c.args in
    ((within_fits (rect a.x a.y a.w a.h) p c.requires.part.0 inside, λ _. some), solid_behind c.in-Some.k a.rects.now c.requires.rects)

fewer : (g : _) (t : ℕ) (c : After-min-b g t) → length (behind c.in-Some.k c.args.rects.now) < t
fewer g t c = omega (arith, c.decreases, behind_fewer c.in-Some.k c.args.rects.now c.in-Some.ensures.0)

pub returns-then-is_done : goal.returns-then-is_done
returns-then-is_done g t c =
    let a = c.args in
    folds_done g.V.Visitor.Step (rect a.x a.y a.w a.h) a.rects.now a.visitor.now (c.is_done.ensures c.if-is_done.true)

pub visit-requires : goal.visit-requires
visit-requires g t c =
    let a = c.args in
    can_whole g.V.Visitor.Can g.V.Visitor.Step a.visitor.now (left_whole (rect a.x a.y a.w a.h) a.rects.now c.in_default.ensures) c.requires.walkable

pub returns-in_default : goal.returns-in_default
returns-in_default g t c =
    let a = c.args in
    folds_whole g.V.Visitor.Step a.visitor.now c.visit.new.self (left_whole (rect a.x a.y a.w a.h) a.rects.now c.in_default.ensures) c.visit.ensures

pub right-requires : goal.right-requires
right-requires g t c = (solid_at c.args.rects.now c.in-Some.k c.requires.rects c.in-Some.ensures.0).0

pub bottom-requires : goal.bottom-requires
bottom-requires g t c = (solid_at c.args.rects.now c.in-Some.k c.requires.rects c.in-Some.ensures.0).0

-- The pieces in turn --------------------------------------------------------------------------------------------------

after_above : (g : _) (t : ℕ) (c : Joined-y-u g t) → let a = c.args in
    FoldsTo g.V.Visitor.Step a.visitor.now (outside_all (if_any (rect a.x a.y a.w (c.max-u.result - a.y))) (behind c.in-Some.k a.rects.now)) c.if-y-u.visitor
after_above g t c =
    let b = (goal.at.Joined-y-u g t c).After-min-b in
    let q = cut g t b in
    let bs = behind c.in-Some.k c.args.rects.now in
    let step = g.V.Visitor.Step in
    elim c.if-y-u.branch [
      | then-y-u v ↦ piece_walked step (above q) bs c.args.visitor.now _ _ (above_some q v.if-y-u.true) v.walk.ensures v.visitor-is
      | else-y-u v ↦ piece_skipped step (above q) bs c.args.visitor.now _ (above_none q v.if-y-u.false) v.visitor-is
    ]

after_left : (g : _) (t : ℕ) (c : Joined-x-l g t) → let a = c.args in
    FoldsTo g.V.Visitor.Step c.if-y-u.visitor
    (outside_all (if_any (rect a.x c.max-u.result (c.max-l.result - a.x) (c.min-b.result - c.max-u.result))) (behind c.in-Some.k a.rects.now)) c.if-x-l.visitor
after_left g t c =
    let b = (goal.at.Joined-x-l g t c).After-min-b in
    let q = cut g t b in
    let bs = behind c.in-Some.k c.args.rects.now in
    let step = g.V.Visitor.Step in
    elim c.if-x-l.branch [
      | then-x-l v ↦ piece_walked step (left_of q) bs c.if-y-u.visitor _ _ (left_of_some q v.if-x-l.true) v.walk-then-x-l.ensures v.visitor-is
      | else-x-l v ↦ piece_skipped step (left_of q) bs c.if-y-u.visitor _ (left_of_none q v.if-x-l.false) v.visitor-is
    ]

after_right : (g : _) (t : ℕ) (c : Joined-r-right g t) → let a = c.args in
    FoldsTo g.V.Visitor.Step c.if-x-l.visitor
    (outside_all (if_any (rect c.min-r.result c.max-u.result (a.x + a.w - c.min-r.result) (c.min-b.result - c.max-u.result))) (behind c.in-Some.k a.rects.now)) c.if-r-right.visitor
after_right g t c =
    let b = (goal.at.Joined-r-right g t c).After-min-b in
    let q = cut g t b in
    let bs = behind c.in-Some.k c.args.rects.now in
    let step = g.V.Visitor.Step in
    elim c.if-r-right.branch [
      | then-r-right v ↦ piece_walked step (right_of q) bs c.if-x-l.visitor _ _ (right_of_some q v.if-r-right.true) v.walk-then-r-right.ensures v.visitor-is
      | else-r-right v ↦ piece_skipped step (right_of q) bs c.if-x-l.visitor _ (right_of_none q v.if-r-right.false) v.visitor-is
    ]

pub walk-requires : goal.walk-requires
walk-requires g t c κs within =
    let b = (goal.at.walk-requires g t c).After-min-b in
    let q = cut g t b in
    let some = above_some q c.if-y-u.true in
    let a = asks g t b (above q) (above_in q) some in
    let can =
    can_first g.V.Visitor.Can g.V.Visitor.Step (above q) (left_of q) (right_of q) (below q) (behind c.in-Some.k c.args.rects.now)
    c.args.visitor.now (pieces g t b q) c.requires.walkable in
    (fewer g t b, (within, (a.0, (a.1, can some))))

pub overflow_sub-b : goal.overflow_sub-b
overflow_sub-b g t c = let q = cut g t (goal.at.overflow_sub-b g t c).After-min-b in omega (arith, q.high)

pub walk-requires-then-x-l : goal.walk-requires-then-x-l
walk-requires-then-x-l g t c κs within =
    let h = goal.at.walk-requires-then-x-l g t c in
    let b = h.After-min-b in
    let q = cut g t b in
    let some = left_of_some q c.if-x-l.true in
    let a = asks g t b (left_of q) (left_of_in q) some in
    let can =
    can_second g.V.Visitor.Can g.V.Visitor.Step (above q) (left_of q) (right_of q) (below q) (behind c.in-Some.k c.args.rects.now)
    c.args.visitor.now (pieces g t b q) c.requires.walkable c.if-y-u.visitor (after_above g t h.Joined-y-u) in
    (fewer g t b, (within, (a.0, (a.1, can some))))

pub overflow_sub-b-then-r-right : goal.overflow_sub-b-then-r-right
overflow_sub-b-then-r-right g t c = let q = cut g t (goal.at.overflow_sub-b-then-r-right g t c).After-min-b in omega (arith, q.high)

pub walk-requires-then-r-right : goal.walk-requires-then-r-right
walk-requires-then-r-right g t c κs within =
    let h = goal.at.walk-requires-then-r-right g t c in
    let b = h.After-min-b in
    let q = cut g t b in
    let some = right_of_some q c.if-r-right.true in
    let a = asks g t b (right_of q) (right_of_in q) some in
    let can =
    can_third g.V.Visitor.Can g.V.Visitor.Step (above q) (left_of q) (right_of q) (below q) (behind c.in-Some.k c.args.rects.now)
    c.args.visitor.now (pieces g t b q) c.requires.walkable c.if-y-u.visitor (after_above g t h.Joined-y-u) c.if-x-l.visitor (after_left g t h.Joined-x-l) in
    (fewer g t b, (within, (a.0, (a.1, can some))))

pub walk-requires-then-b-bottom : goal.walk-requires-then-b-bottom
walk-requires-then-b-bottom g t c κs within =
    let h = goal.at.walk-requires-then-b-bottom g t c in
    let b = h.After-min-b in
    let q = cut g t b in
    let some = below_some q c.if-b-bottom.true in
    let a = asks g t b (below q) (below_in q) some in
    let can =
    can_fourth g.V.Visitor.Can g.V.Visitor.Step (above q) (left_of q) (right_of q) (below q) (behind c.in-Some.k c.args.rects.now)
    c.args.visitor.now (pieces g t b q) c.requires.walkable c.if-y-u.visitor (after_above g t h.Joined-y-u) c.if-x-l.visitor (after_left g t h.Joined-x-l)
    c.if-r-right.visitor (after_right g t h.Joined-r-right) in
    (fewer g t b, (within, (a.0, (a.1, can some))))

pub returns-then-b-bottom : goal.returns-then-b-bottom
returns-then-b-bottom g t c =
    let h = goal.at.returns-then-b-bottom g t c in
    let b = h.After-min-b in
    let q = cut g t b in
    let bs = behind c.in-Some.k c.args.rects.now in
    let step = g.V.Visitor.Step in
    walked_all g.V.Visitor.Can step (above q) (left_of q) (right_of q) (below q) bs
    c.args.visitor.now (pieces g t b q) c.requires.walkable c.if-y-u.visitor (after_above g t h.Joined-y-u) c.if-x-l.visitor (after_left g t h.Joined-x-l)
    c.if-r-right.visitor (after_right g t h.Joined-r-right) _
    (piece_walked step (below q) bs c.if-r-right.visitor _ _ (below_some q c.if-b-bottom.true) c.walk-then-b-bottom.ensures refl)

pub returns-else-b-bottom : goal.returns-else-b-bottom
returns-else-b-bottom g t c =
    let h = goal.at.returns-else-b-bottom g t c in
    let b = h.After-min-b in
    let q = cut g t b in
    let bs = behind c.in-Some.k c.args.rects.now in
    let step = g.V.Visitor.Step in
    walked_all g.V.Visitor.Can step (above q) (left_of q) (right_of q) (below q) bs
    c.args.visitor.now (pieces g t b q) c.requires.walkable c.if-y-u.visitor (after_above g t h.Joined-y-u) c.if-x-l.visitor (after_left g t h.Joined-x-l)
    c.if-r-right.visitor (after_right g t h.Joined-r-right) _
    (piece_skipped step (below q) bs c.if-r-right.visitor _ (below_none q c.if-b-bottom.false) refl)

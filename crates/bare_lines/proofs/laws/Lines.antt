-- A list of rectangles, and what the struct of four holds.
use Rattle.std.proofs.Common.{ℕ, ◌+◌, ◌-◌, ◌<◌, ◌≡◌, refl, sym, ap, ◌∙◌, List, [], ◌∷◌, ◌++◌, add-one, length, take, get_or, replicate}
use lib.Seq.{take-suc, take-append_seam}
use Rattle.geom.specs.declared.Rect.{Rect}
use Rattle.geom.specs.declared.Pieces.{Pieces}
use Rattle.geom.specs.Geom.{rect}
use Rattle.geom.specs.Bare.{Holds}
use Rattle.answer_text.specs.Text.{Piece, number, line, rectangle, rectangles}
use Rattle.answer_text.specs.Added.{Adds, Waiting}
use Rattle.answer_text.proofs.laws.Added.{then, told}

rectangles_append : (a b : List Rect) → rectangles (a ++ b) ≡ rectangles a ++ rectangles b
rectangles_append [] b = refl
rectangles_append (r ∷ a) b = ap (λ (l : List Piece). rectangle r ++ l) (rectangles_append a b)

-- the rectangles of a list up to its entry i, and that one
pub one_rect_more : (l : List Rect) (i : ℕ) (d : Rect) {w v x : Waiting} {b c e : List ℕ} → i < length l
    → Adds (rectangles (take i l)) w b v c → Adds (rectangle (get_or l i d)) v c x e → Adds (rectangles (take (i + 1) l)) w b x e
one_rect_more l i d h p q =
    let n : take (i + 1) l ≡ take i l ++ (get_or l i d ∷ []) = rw add-one (take-suc l i d h) in
    told (λ (ps : List Piece). ps) (sym (ap rectangles n ∙ rectangles_append (take i l) (get_or l i d ∷ []))) (then p q)

-- the struct of four holds the list
pub held : {p : Pieces} {rs : List Rect} → Holds p rs → take p.count p.rects ≡ rs
held {rs = rs} h =
    (λ i. take (h.count i) (h.list i)) ∙ take-append_seam rs (replicate (4 - length rs) (rect 0 0 0 0))

-- a list by what the struct holds of it
abbrev listed : ℕ → List Rect → List Piece
listed n rs = line 0 (number n ∷ rectangles rs)

pub pieces_told : {p : Pieces} {rs : List Rect} {w r : Waiting} {b c : List ℕ} → Holds p rs
    → Adds (listed p.count (take p.count p.rects)) w b r c → Adds (listed (length rs) rs) w b r c
pieces_told h a = told (λ (ps : List Piece). ps) (λ i. listed (h.count i) (held h i)) a

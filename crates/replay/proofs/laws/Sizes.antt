-- Sizes that the rules bound: a window's pixels in the store, the rectangles of a visible list, the answers of many points, the rectangles and bytes of a sheet, and C after a start.
use Prim.Native.Nat.{ℕ, suc, ◌+◌, ◌*◌, ◌/◌, ◌%◌, ◌≤◌, ◌<◌}
use mathlib.Core.Path.{◌≡◌, refl, sym, ap, subst, ◌∙◌}
use mathlib.Core.Bool.{Bool, true, false, cond, ◌&&◌}
use mathlib.Core.List.{List, [], ◌∷◌}
use mathlib.Core.Logic.{◌⊎◌, inl, inr}
use native.Mathlib.Nat.{mul-le-mul_right}
use native.Mathlib.Omega.{arith}
use lib.Dec.{leb, eqb}
use lib.ListN.{length}
use borrow.Author.Tests.{eq-eqb}
use Rattle.geom.specs.Questions.{◌is◌, asked}
use Rattle.geom.specs.Geom.{rect}
use Rattle.geom.proofs.basics.Questions.{asked₂}
use Rattle.geom.proofs.basics.Tests.{snd, on_cond, on_test, says_le}
use Rattle.geom.specs.Refusals.{Listing}
use Rattle.sheet.specs.Sheet.{rects}
use Rattle.sheet.specs.Bytes.{encode}
use Rattle.sheet.specs.Reader.{Reads, broken, short, whole}
use Rattle.rules.specs.Group.{Group, used, win, allowed_c, session_c}
use Rattle.rules.specs.Visible.{visible, visible_list}
use Rattle.rules.specs.Hits.{all_small, fit, hits}
use Rattle.rules.specs.Sheets.{region, sheet}
use Rattle.rules.proofs.group.Invariant.{Ok, used_small}
use Rattle.windows.specs.declared.Session.{Session}
use Rattle.windows.specs.View.{Done, Placed, group, Given, Starts, placed}
use Rattle.rules.proofs.group.Kept.{ok_after}

-- A window's pixels ---------------------------------------------------------------------------------------------------

is_used : (t : Bool) → asked ((3 is t) ∷ []) ≡ 0 → t ≡ true
is_used true e = refl
is_used false e = absurd (omega arith)

given_ok : (s : Session) → Given s → Ok (group s)
given_ok s h = subst Ok (sym h.reached) (ok_after h.c h.calls)

pub in_store : (s : Session) (id : ℕ) (r : Placed) → Given s → r ≡ placed (group s) id → r.answer ≡ 0
    → id * s.shared.c + r.rect.dims.w * r.rect.dims.h ≤ 16 * s.shared.c
unfolding group
in_store s id r h e a =
    let u : used (group s) id ≡ true = is_used (used (group s) id) (sym (ap (λ (p : Placed). p.answer) e) ∙ a) in
    let at : r.rect ≡ (win (group s) id).at =
    ap (λ (p : Placed). p.rect) e ∙ ap (λ (t : Bool). cond t (win (group s) id).at (rect 0 0 0 0)) u in
    let low : suc id * s.shared.c ≤ 16 * s.shared.c = mul-le-mul_right s.shared.c (used_small (group s) id (given_ok s h) u) in
    let area : r.rect.dims.w * r.rect.dims.h ≤ s.shared.c = rw at ((given_ok s h).fits id).area≤ in
    omega (arith, low, area)

-- A visible list ------------------------------------------------------------------------------------------------------

few : (u : Bool) (n m : ℕ) → 4 * cond (eqb (asked ((3 is u) ∷ (9 is leb (4 * n) m) ∷ [])) 0) n 0 ≤ m
few u n m =
    on_test (λ (k : ℕ). 4 * k ≤ m) (asked₂ 2 8 u (leb (4 * n) m)) n 0 (λ t. (says_le (4 * n) m).fact (snd u (leb (4 * n) m) t)) (λ t. omega arith)

-- it holds four numbers for each rectangle
pub counted : (g : Group) (id : ℕ) (l : List ℕ) → 4 * (visible_list g id l).count ≤ length l
unfolding visible_list
counted g id l = few (used g id) (length (visible g id)) (length l)

-- Many points ---------------------------------------------------------------------------------------------------------

-- an accepted call has three numbers for each
pub hits_room : (g : Group) (points l : List ℕ) → (hits g points l).answer ≡ 0 → 3 * (length points / 2) ≤ length l
unfolding hits
hits_room g points l e =
    let n = length points in
    let f = fit n (length l) in
    let t : f ≡ true = snd (all_small points) f (sym (asked₂ 4 24 (all_small points) f) ∙ eq-eqb _ 0 e) in
    (says_le (3 * (n / 2)) (length l)).fact (snd (leb n 64 && eqb (n % 2) 0) (leb (3 * (n / 2)) (length l)) t)

-- A sheet that is read --------------------------------------------------------------------------------------------------

-- its list holds four numbers for each rectangle
pub read_room : (bytes list after : List ℕ) (r : Listing) → Reads bytes list r after → 4 * r.count ≤ length list
read_room bytes list after r (broken n e a) = let c : r.count ≡ 0 = ap (λ (k : Listing). k.count) e in omega arith
read_room bytes list after r (short s i l e a) = let c : r.count ≡ 0 = ap (λ (k : Listing). k.count) e in omega arith
read_room bytes list after r (whole s i l e a) = let c : r.count ≡ length (rects s) = ap (λ (k : Listing). k.count) e in omega arith

-- A sheet that is printed -----------------------------------------------------------------------------------------------

fits : (u : Bool) (n m : ℕ) → cond (eqb (asked ((3 is u) ∷ (19 is leb n m) ∷ [])) 0) n 0 ≤ m
fits u n m = on_test (λ (k : ℕ). k ≤ m) (asked₂ 2 18 u (leb n m)) n 0 (λ t. (says_le n m).fact (snd u (leb n m) t)) (λ t. omega arith)

-- its bytes have room in the buffer
pub print_room : (g : Group) (id : ℕ) (l : List ℕ) → (sheet g id l).count ≤ length l
unfolding sheet
print_room g id l = fits (used g id) (length (encode (region g id))) (length l)

-- A start -------------------------------------------------------------------------------------------------------------

pub begun_c : (c : ℕ) (r : Done) → Starts c r → 16 * session_c c ≤ 6144000 → 16 * r.session.shared.c ≤ 6144000
unfolding group
begun_c c r h l = let e : r.session.shared.c ≡ session_c c = ap (λ (g : Group). g.c) h.after in rw e l

-- a start that the program plays, for the store that it can lend
pub playable : (c : ℕ) → (c ≤ 384000) ⊎ (1048576 < c) → 16 * session_c c ≤ 6144000
playable c (inl h) = on_cond (λ (k : ℕ). 16 * k ≤ 6144000) (allowed_c c) c 1 (λ t. omega arith) (λ t. omega arith)
playable c (inr h) =
    on_cond (λ (k : ℕ). 16 * k ≤ 6144000) (allowed_c c) c 1
    (λ t. let l : c ≤ 1048576 = (says_le c 1048576).fact (snd (leb 1 c) (leb c 1048576) t) in absurd (omega arith)) (λ t. omega arith)

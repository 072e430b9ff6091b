-- The pixels that a line shows, and what is stale.
use Rattle.std.proofs.Common.{ℕ, ◌+◌, ◌-◌, ◌*◌, ◌≤◌, ◌<◌, ◌≡◌, refl, sym, ap, ◌∙◌, arith, List, [], ◌∷◌, Bool, true, false, cond}
use Rattle.std.specs.Prelude.{◌&&◌, leb, eqb, length, take, drop, replicate, Result, Ok, Err, Some, None}
use Rattle.std.specs.Prelude as Std
use mathlib.Core.Logic.{inl, inr}
use Rattle.std.proofs.Math.Option.{Option, none, some}
use lib.ListN.{length-append, length-drop, length-replicate, replicate-append-replicate}
use lib.Seq.{take_at}
use borrow.Author.Tests.{le-leb, lt-leb, eqb-true, eqb-false}
use Rattle.geom.specs.declared.Rect.{Rect}
use Rattle.geom.specs.declared.refusal.Refusal.{Refusal}
use Rattle.geom.specs.Geom.{rect}
use Rattle.geom.specs.Bare.{met}
use Rattle.geom.specs.Refusals.{answer_of, value_or, option_of}
use Rattle.geom.specs.Questions.{◌is◌, asked}
use Rattle.script.specs.Kind as Kind
use Rattle.script.specs.Kind.{code_of}
use Rattle.script.specs.declared.shape.Line.{Line}
use Rattle.answer_text.specs.Text.{line, answered, beyond}
use Rattle.answer_text.specs.Added.{Output}
use Rattle.rules.specs.Group.{Group, used, win}
use Rattle.rules.specs.Stale.{StaleRect}
use Rattle.windows.specs.declared.Session.{Session}
use Rattle.windows.specs.View.{group, Placed, Stale, placed, stale_in, stale_of, is_due, rect_in}
use Rattle.bare_lines.specs.Numbers.{num}
use Rattle.bare_lines.specs.Told.{rectangle_or, met_line, part_line}
use Rattle.replay.specs.declared.player.Player.{Player}
use Rattle.replay.specs.Ready.{Ready}
use Rattle.replay.specs.Called.{OnShow}
use Rattle.replay.specs.Told.{window_pixels, screen_line, stale_line}
use Rattle.replay.specs.Looks.{LooksPart, asks}
use Rattle.replay.specs.Played.{Pixels, Writes, exceeds, no_show, shows_screen, shows_picture}
use Rattle.replay.specs.inner.Shown.{ShowsScreen, too_large, shown, pictured, unwritten}
use Rattle.replay.proofs.laws.Nexts.{onward, tells}

-- What is stale -------------------------------------------------------------------------------------------------------

-- the rectangle that the call gives or not is the rule's
same_answer : (r : Result (Std.Option Rect) Refusal) → answer_of r ≡ (stale_in r).answer
same_answer (Ok None) = refl
same_answer (Ok (Some x)) = refl
same_answer (Err f) = refl

same_rect : (r : Result (Std.Option Rect) Refusal) (q : Option Rect) → (stale_in r).due ≡ is_due q → (stale_in r).rect ≡ rect_in q
    → option_of (value_or None r) ≡ q
same_rect (Ok None) none d e = refl
same_rect (Ok None) (some x) d e = cc
same_rect (Ok (Some y)) none d e = cc
same_rect (Ok (Some y)) (some x) d e = ap some e
same_rect (Err f) none d e = refl
same_rect (Err f) (some x) d e = cc

pub stale_told : (r : Result (Std.Option Rect) Refusal) (o : StaleRect) → stale_in r ≡ stale_of o → met_line (met r) ≡ stale_line o
stale_told r o e =
    let answer = same_answer r ∙ ap (λ (s : Stale). s.answer) e in
    let found = same_rect r o.rect (ap (λ (s : Stale). s.due) e) (ap (λ (s : Stale). s.rect) e) in
    λ i. answered (answer i) (rectangle_or (found i))

-- What is shown -------------------------------------------------------------------------------------------------------

pub is_picture : {k : ℕ} → OnShow k → (k ≡ Kind.screen → ⊥) → k ≡ Kind.picture
is_picture (inl e) n = absurd (n e)
is_picture (inr e) n = e

is_used : (t : Bool) → asked ((3 is t) ∷ []) ≡ 0 → t ≡ true
is_used true e = refl
is_used false e = absurd (omega arith)

is_unused : (t : Bool) → (asked ((3 is t) ∷ []) ≡ 0 → ⊥) → t ≡ false
is_unused true n = absurd (n refl)
is_unused false n = refl

module _ (s : Session) (id lent : ℕ) (store : List ℕ) (r : Placed) (e : r ≡ placed (group s) id) where
  -- a window in use and the whole store
  pub pixels_of : r.answer ≡ 0 → 16 * s.shared.c ≤ lent
      → take (r.rect.dims.w * r.rect.dims.h) (drop (id * s.shared.c) store) ≡ window_pixels (group s) id lent store
  unfolding group window_pixels
  pixels_of a l =
      let u : used (group s) id ≡ true = is_used (used (group s) id) (sym (ap (λ (p : Placed). p.answer) e) ∙ a) in
      let at : r.rect ≡ (win (group s) id).at =
      ap (λ (p : Placed). p.rect) e ∙ ap (λ (t : Bool). cond t (win (group s) id).at (rect 0 0 0 0)) u in
      rw (at, u, le-leb (16 * s.shared.c) lent l)

  pub no_window : (r.answer ≡ 0 → ⊥) → window_pixels (group s) id lent store ≡ []
  unfolding group window_pixels
  no_window n =
      rw (is_unused (used (group s) id) (λ z. n (ap (λ (p : Placed). p.answer) e ∙ z)))

-- not the whole store
pub no_store : (s : Session) (id lent : ℕ) (store : List ℕ) → lent < 16 * s.shared.c → window_pixels (group s) id lent store ≡ []
unfolding group window_pixels
no_store s id lent store l = go (used (group s) id)
  where
    go : (t : Bool)
        → cond (t && leb (16 * s.shared.c) lent) (take ((win (group s) id).at.dims.w * (win (group s) id).at.dims.h) (drop (id * s.shared.c) store)) [] ≡ []
    go true = rw (lt-leb (16 * s.shared.c) lent l)
    go false = refl

-- the kinds that show the screen, beside that of a window's pixels
pub on_show : {k : ℕ} → Kind.screen ≤ k → (k ≡ Kind.pixels → ⊥) → k ≤ Kind.picture → OnShow k
on_show {k} l n h = go (eqb k Kind.screen) refl
  where
    go : (t : Bool) → eqb k Kind.screen ≡ t → OnShow k
    go true e = inl (eqb-true k Kind.screen e)
    go false e = inr (omega (arith, n, eqb-false k Kind.screen e))

pub screen_shown : {l : Line} {ns : List ℕ} (p : Player) {a : Pixels} {o : Output} → Ready p → OnShow (code_of l.kind)
    → ShowsScreen (code_of l.kind) ns a.screen p.out o → Writes l ns p a (onward p.session o p) a
screen_shown p h k (too_large n x) = record { text = beyond; plays = exceeds (no_show k n) refl (tells p h x) refl }
screen_shown {ns = ns} p {a = a} h k (shown e n x) =
    record { text = screen_line (num ns 0 * num ns 1) a.screen; plays = shows_screen e n refl (tells p h x) refl }
screen_shown p h k (pictured e n x) = record { text = line 0 []; plays = shows_picture e n (inl refl) (tells p h x) refl }
screen_shown p h k (unwritten e n x) = record { text = beyond; plays = shows_picture e n (inr refl) (tells p h x) refl }

-- A closer look -------------------------------------------------------------------------------------------------------

front : (n m v : ℕ) → n ≤ m → take n (replicate m v) ≡ replicate n v
front n m v h =
    let e : n + (m - n) ≡ m = omega arith in
    ap (λ (l : List ℕ). take n l) (sym (replicate-append-replicate n (m - n) v ∙ ap (λ (k : ℕ). replicate k v) e))
    ∙ take_at (replicate n v) (replicate (m - n) v) n (length-replicate n v)

-- the front of a target of m pixels v was lent, and is written
pub look_told : (g : Group) (k : ℕ) (ns store : List ℕ) (n m v a : ℕ) (target after : List ℕ) → target ≡ replicate m v → n ≤ m
    → length after ≡ length target → LooksPart g k ns store n target a after
    → part_line a (take n after) ≡ part_line (asks g k ns store (replicate n v)).answer (asks g k ns store (replicate n v)).target
look_told g k ns store n m v a target after e i l h =
    let lent : take n target ≡ replicate n v = ap (λ (t : List ℕ). take n t) e ∙ front n m v i in
    let t : List ℕ = (asks g k ns store (take n target)).target in
    let all : length target ≡ m = ap length e ∙ length-replicate m v in
    let size : length t ≡ n = omega (arith, ap length h.shown, length-append t (drop n target), length-drop n target) in
    let told : take n after ≡ t = ap (λ (t : List ℕ). take n t) h.shown ∙ take_at t (drop n target) n size in
    (λ x. part_line (h.answer x) (told x))
    ∙ ap (λ (t : List ℕ). part_line (asks g k ns store t).answer (asks g k ns store t).target) lent

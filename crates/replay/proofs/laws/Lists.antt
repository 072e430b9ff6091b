-- Lines that lend the front of a list, a buffer, the store or the screen: what is left there and written is the rule's.
use Prim.Native.Nat.{ℕ, ◌+◌, ◌*◌, ◌/◌, ◌≤◌}
use mathlib.Core.Path.{◌≡◌, refl, ap, subst, ◌∙◌}
use mathlib.Core.List.{List, [], ◌∷◌, ◌++◌}
use native.Mathlib.Omega.{arith}
use lib.Dec.{eqb}
use lib.ListN.{length, take, drop, length-append, length-drop}
use lib.Seq.{length-take-le, take-append-le}
use borrow.Author.Tests.{eqb-true}
use Rattle.geom.proofs.basics.Tests.{cond_same}
use Rattle.geom.specs.Refusals.{Listing}
use Rattle.script.specs.declared.shape.Line.{Line}
use Rattle.script.specs.Kind as Kind
use Rattle.script.specs.Kind.{code_of}
use Rattle.rules.specs.Visible.{visible_list}
use Rattle.rules.specs.Hits.{hits}
use Rattle.rules.specs.Sheets.{sheet}
use Rattle.rules.specs.Calls.{does}
use Rattle.windows.specs.View.{group}
use Rattle.answer_text.specs.Text.{number, line, answered, numbers}
use Rattle.answer_text.specs.Added.{Output, Says}
use Rattle.bare_lines.specs.Numbers.{id_of}
use Rattle.replay.specs.declared.player.Player.{Player}
use Rattle.replay.specs.Called.{OnScreen, screen_call}
use Rattle.replay.specs.Ready.{Ready, unlisted, unsheeted}
use Rattle.replay.specs.Told.{rects_line, hits_line, sheet_line}
use Rattle.replay.specs.Played.{Pixels, pixels, screen_len, Draws, redraws, ListsPart, HitsPart, list_len, sheet_len, Writes, PlaysAt, lists, asks_hits, reads_sheet, asks_sheet}
use Rattle.replay.specs.inner.Sheets.{ReadsPart, PrintsPart}
use Rattle.replay.proofs.laws.Nexts.{onward, next_of, unlisted_ready, unsheeted_ready}

-- Texts ---------------------------------------------------------------------------------------------------------------

-- the first k numbers of a list whose first n are those that the call left
front : (k n : ℕ) (list after part : List ℕ) → length after ≡ length list → n ≤ length list → k ≤ n → after ≡ part ++ drop n list
    → take k after ≡ take k part
front k n list after part e l h f =
    let sizes : length after ≡ length part + length (drop n list) = ap (λ (t : List ℕ). length t) f ∙ length-append part (drop n list) in
    ap (λ (t : List ℕ). take k t) f ∙ take-append-le k part (drop n list) (omega (arith, e, l, h, sizes, length-drop n list))

rects_line_lem : (a b n m : ℕ) (s t : List ℕ) → a ≡ b → n ≡ m → take (4 * n) s ≡ take (4 * n) t → rects_line a n s ≡ rects_line b m t
rects_line_lem a b n m s t e f g = ap (λ (x : List ℕ). answered a (number n ∷ numbers x)) g ∙ (λ i. rects_line (e i) (f i) t)

sheet_line_lem : (a b n m : ℕ) (s t : List ℕ) → a ≡ b → n ≡ m → take n s ≡ take n t → sheet_line a n s ≡ sheet_line b m t
sheet_line_lem a b n m s t e f g = ap (λ (x : List ℕ). answered a (number n ∷ numbers x)) g ∙ (λ i. sheet_line (e i) (f i) t)

-- the numbers count only where the call was accepted
hits_line_lem : (a b k : ℕ) (s t : List ℕ) → a ≡ b → (a ≡ 0 → take k s ≡ take k t) → hits_line a k s ≡ hits_line b k t
hits_line_lem a b k s t e f =
    cond_same (eqb a 0) (line 0 (numbers (take k s))) (line 0 (numbers (take k t))) (line a []) (λ z. ap (λ (x : List ℕ). line 0 (numbers x)) (f (eqb-true a 0 z)))
    ∙ ap (λ (x : ℕ). hits_line x k t) e

-- Lines that are lent a list ------------------------------------------------------------------------------------------

module _ (p : Player) (ready : Ready p) {o : Output} (n : ℕ) (list after : List ℕ) (inside : n ≤ length list) (whole : length after ≡ length list) where
  pub lists_visible : (ns : List ℕ) (r : Listing) → n ≡ list_len 1984 p → ListsPart (group p.session) (id_of ns) n list r after
      → Says (rects_line r.answer r.count after) p.out o → PlaysAt Kind.visible ns p (onward p.session o (unlisted p))
  lists_visible ns r e h d l a k =
      let v = visible_list (group p.session) (id_of ns) (take n list) in
      record {
        text = rects_line r.answer r.count after;
        plays =
            lists k (take n list) (length-take-le n list inside ∙ e)
            (rects_line_lem r.answer v.answer r.count v.count after v.list h.answer h.count
            (front (4 * r.count) n list after v.list whole inside h.room h.listed))
            (next_of (unlisted p) (unlisted_ready ready) ready.given d) refl;
      }

  pub lists_hits : (l : Line) (ns : List ℕ) (a : ℕ) → n ≡ list_len 96 p → l.count ≤ length ns → HitsPart (group p.session) (take l.count ns) n list a after
      → Says (hits_line a (3 * (l.count / 2)) after) p.out o
      → (b : Pixels) → code_of l.kind ≡ Kind.hits → Writes l ns p b (onward p.session o (unlisted p)) b
  lists_hits l ns a e c h d b k =
      let v = hits (group p.session) (take l.count ns) (take n list) in
      let room : a ≡ 0 → 3 * (l.count / 2) ≤ n = λ z. subst (λ (x : ℕ). 3 * (x / 2) ≤ n) (length-take-le l.count ns c) (h.room z) in
      record {
        text = hits_line a (3 * (l.count / 2)) after;
        plays =
            asks_hits k (take n list) (length-take-le n list inside ∙ e)
            (hits_line_lem a v.answer (3 * (l.count / 2)) after v.list h.answer
            (λ z. front (3 * (l.count / 2)) n list after v.list whole inside (room z) h.listed))
            (next_of (unlisted p) (unlisted_ready ready) ready.given d) refl;
      }

  pub lists_read : (l : Line) (ns : List ℕ) (r : Listing) → code_of l.kind ≡ Kind.read_sheet → n ≡ list_len 7812 p → ReadsPart (take l.count ns) n list r after
      → Says (rects_line r.answer r.count after) p.out o → (b : Pixels) → Writes l ns p b (onward p.session o (unlisted p)) b
  lists_read l ns r k e h d b =
      record {
        text = rects_line r.answer r.count after;
        plays =
            reads_sheet k (take n list) (length-take-le n list inside ∙ e) r h.front h.reads
            (rects_line_lem r.answer r.answer r.count r.count after h.front refl refl
            (front (4 * r.count) n list after h.front whole inside h.room h.listed))
            (next_of (unlisted p) (unlisted_ready ready) ready.given d) refl;
      }

  pub prints_sheet : (ns : List ℕ) (r : Listing) → n ≡ sheet_len p → PrintsPart (group p.session) (id_of ns) n list r after
      → Says (sheet_line r.answer r.count after) p.out o → PlaysAt Kind.sheet ns p (onward p.session o (unsheeted p))
  prints_sheet ns r e h d l a k =
      let v = sheet (group p.session) (id_of ns) (take n list) in
      record {
        text = sheet_line r.answer r.count after;
        plays =
            asks_sheet k (take n list) (length-take-le n list inside ∙ e)
            (sheet_line_lem r.answer v.answer r.count v.count after v.bytes h.answer h.count
            (front r.count n list after v.bytes whole inside h.room h.printed))
            (next_of (unsheeted p) (unsheeted_ready ready) ready.given d) refl;
      }

-- Lines that are lent the screen -------------------------------------------------------------------------------------

pub draws_line : (l : Line) (ns : List ℕ) (p : Player) (store screen : List ℕ) (n : ℕ) (r : Player) (after : List ℕ) → OnScreen (code_of l.kind)
    → n ≡ screen_len p (code_of l.kind) ns → n ≤ 3072000 → Draws (code_of l.kind) ns n p store screen r after
    → Writes l ns p (pixels store screen) r (pixels store after)
draws_line l ns p store screen n r after k e h d =
    record {
      text = line (does (group p.session) (screen_call (code_of l.kind) ns (take p.lent store) (take (screen_len p (code_of l.kind) ns) screen))).answer [];
      plays = redraws k (subst (λ (m : ℕ). m ≤ 3072000) e h) refl (subst (λ (m : ℕ). Draws (code_of l.kind) ns m p store screen r after) e d) refl;
    }

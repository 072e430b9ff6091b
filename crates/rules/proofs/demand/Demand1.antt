-- Demand 1: each rule answers `asked` of the questions of the table, and keeps everything where that is not 0; by
-- cases over the calls.
use Prim.Native.Nat.{ℕ, ◌*◌}
use mathlib.Core.Path.{◌≡◌, refl, sym, ap, ◌∙◌}
use mathlib.Core.Bool.{false, not, ◌&&◌}
use mathlib.Core.List.{List, [], ◌∷◌}
use mathlib.Core.Logic.{inl, inr}
use lib.Dec.{eqb}
use lib.ListN.{length}
use borrow.Author.Tests.{eqb-true, ne_eqb, le-leb, lt-leb}
use Rattle.geom.specs.Questions.{◌is◌, asked}
use Rattle.geom.specs.Bare.{edges_fit, both_fit}
use Rattle.geom.proofs.basics.Tests.{clash, fst, on_cond}
use Rattle.geom.proofs.basics.Questions.{asked₁}
use Rattle.busiest.specs.Busiest.{Second}
use Rattle.busiest.specs.Busiest as Rate
use Rattle.busiest.specs.Busiest.{busiest}
use Rattle.scanline.specs.Pixels.{part}
use Rattle.winbuf.specs.Pixels as Pixels
use Rattle.geom.specs.Refusals.{Listing}
use Rattle.sheet.specs.Sheet as Bands
use Rattle.sheet.specs.Sheet.{rects}
use Rattle.sheet.specs.Reader.{IsSheet, Reads, broken, short, whole}
use Rattle.sheet.proofs.laws.Packing.{bytes_unique}
use Rattle.rules.specs.Group as Group
use Rattle.rules.specs.Group.{Group, used, allowed_c}
use Rattle.rules.specs.Order as Order
use Rattle.rules.specs.Visible as Visibles
use Rattle.rules.specs.Events as Events
use Rattle.rules.specs.Store as Store
use Rattle.rules.specs.Redraw as Draw
use Rattle.rules.specs.Walk as Walk
use Rattle.rules.specs.Dim as Dimming
use Rattle.rules.specs.Displays as Displays
use Rattle.rules.specs.Repair as Repair
use Rattle.rules.specs.Drag as Dragging
use Rattle.rules.specs.Share as Shares
use Rattle.rules.specs.Sheets as Sheets
use Rattle.rules.specs.Hits as Points
use Rattle.rules.specs.Look as Looks
use Rattle.rules.specs.DisplayAt as DisplayAt
use Rattle.rules.specs.Stale as Stales
use Rattle.rules.specs.State as State
use Rattle.rules.specs.Calls.{Call, Create, Show, Hide, Drop, Mark, Pop, Move, Resize, Fill, Blit, Route, Redraw, Begin, Portion, Dim, SetLayer, AddDisplay, Maximise, UpdateDims, Raise, Drag, does, accepted, after}
use Rattle.rules.specs.Demand1.{questions, Answers, Query, Visible, Share, Sheet, Hits, Look, GetDisplayForPos, RectOf, Focus, Stale, Waiting, Window, Session, window_numbers, query_questions, replies, reply, refusal, Replies, Bare, Contains, Within, ContainsRect, Union, Intersect, NotIntersect, ScanlineRange, Scanline, FillScanline, SetScanline, Region, Busiest, line_lies, bare_questions, bare_replies, bare_refusal, BareReplies, Started, ReadsSheet, Demand1}
use Rattle.rules.proofs.group.Invariant.{Ok}
use Rattle.rules.proofs.group.Kept.{ok_after}
use Rattle.rules.proofs.group.Refused.{refused_group, refused_store, refused_lent, refused_nothing}
use Rattle.rules.proofs.demand.Asked.{in_use_lem, any_unused_lem, waits_pop, routed}

-- Calls of the list -------------------------------------------------------------------------------------------------

answers : (g : Group) → Ok g → (k : Call) → (does g k).answer ≡ asked (questions g k)
unfolding does questions Group.create Order.show Order.set_layer Order.hide Order.drop_window Group.mark Events.pop Group.move Store.resize Store.fill Store.blit Draw.redraw Walk.begin Walk.portion Dimming.dim Displays.add_display Displays.maximise Displays.update_dims Repair.raise Dragging.drag
answers g ok Create = rw (any_unused_lem g.windows 0)
answers g ok (Show id) = rw (in_use_lem g ok id)
answers g ok (Hide id) = rw (in_use_lem g ok id)
answers g ok (Drop id) = rw (in_use_lem g ok id)
answers g ok (Mark id) = rw (in_use_lem g ok id)
answers g ok (Pop id) = rw (in_use_lem g ok id, waits_pop (Group.win g id))
answers g ok (Move id x y) = rw (in_use_lem g ok id)
answers g ok (Resize id w h s) = rw (in_use_lem g ok id)
answers g ok (Fill id a v s) = rw (in_use_lem g ok id)
answers g ok (Blit id a d stride s) = rw (in_use_lem g ok id)
answers g ok (Route e) = routed g e
answers g ok (Redraw forced w h s screen) = refl
answers g ok (Begin forced) = refl
answers g ok (Portion w h s screen) = refl
answers g ok (Dim on) = refl
answers g ok (SetLayer id l) = rw (in_use_lem g ok id)
answers g ok (AddDisplay r) = refl
answers g ok (Maximise id s) = rw (in_use_lem g ok id)
answers g ok (UpdateDims s) = refl
answers g ok (Raise id) = rw (in_use_lem g ok id)
answers g ok (Drag id x y) = rw (in_use_lem g ok id)

calls_answer : (g : Group) → Ok g → (k : Call) → Answers g k
calls_answer g ok k =
    record {
      answer = answers g ok k;
      refused = λ ne.
          let n : accepted g k ≡ false = ne_eqb _ 0 ne in
          let a = refused_nothing g k n in
          record {
            group = refused_group g k n;
            store = λ s e. refused_store g k s e n;
            screen = λ z e. refused_lent g k z e n;
            id = a.0;
            event = a.1;
            altered = a.2;
          };
    }

-- Calls that change nothing -----------------------------------------------------------------------------------------

-- how a window stands
window_answers : (g : Group) (id : ℕ) → (State.window_state g id).answer ≡ asked ((3 is used g id) ∷ [])
unfolding State.window_state
window_answers g id = on_cond (λ (w : State.WindowState). w.answer ≡ asked ((3 is used g id) ∷ [])) (used g id) _ _ (λ e. rw e) (λ e. refl)

window_refused : (g : Group) (id : ℕ) → eqb (State.window_state g id).answer 0 ≡ false
    → State.window_state g id ≡ State.no_window (State.window_state g id).answer
unfolding State.window_state
window_refused g id =
    on_cond (λ (w : State.WindowState). eqb w.answer 0 ≡ false → w ≡ State.no_window w.answer) (used g id) _ _ (λ e no. clash refl no) (λ e no. refl)

query_answers : (g : Group) → Ok g → (q : Query) → (replies g q).answer ≡ asked (query_questions g q)
unfolding replies query_questions Visibles.visible_list Shares.share Sheets.sheet Points.hits Looks.look DisplayAt.display_at Stales.stale
query_answers g ok (Visible id list) = rw (in_use_lem g ok id)
query_answers g ok (Share id) = rw (in_use_lem g ok id)
query_answers g ok (Sheet id bytes) = rw (in_use_lem g ok id)
query_answers g ok (Hits points list) = refl
query_answers g ok (Look id l s target tw th) = rw (in_use_lem g ok id)
query_answers g ok (GetDisplayForPos px py) = refl
query_answers g ok (RectOf id) = rw (in_use_lem g ok id)
query_answers g ok Focus = refl
query_answers g ok (Stale which area) = refl
query_answers g ok Waiting = refl
query_answers g ok (Window id) = window_answers g id ∙ rw (in_use_lem g ok id)
query_answers g ok Session = refl

query_refused : (g : Group) (q : Query) → eqb (replies g q).answer 0 ≡ false → replies g q ≡ refusal q (replies g q).answer
unfolding replies refusal Visibles.visible_list Shares.share Sheets.sheet Points.hits Looks.look DisplayAt.display_at Stales.stale
query_refused g (Visible id list) n = rw n
query_refused g (Share id) n = rw n
query_refused g (Sheet id bytes) n = rw n
query_refused g (Hits points list) n = rw n
query_refused g (Look id l s target tw th) n = rw n
query_refused g (GetDisplayForPos px py) n = rw n
query_refused g (RectOf id) n = rw (sym (asked₁ 2 (used g id)) ∙ n)
query_refused g Focus n = clash refl n
query_refused g (Stale which area) n = rw n
query_refused g Waiting n = clash refl n
query_refused g (Window id) n = ap (λ (w : State.WindowState). reply w.answer [] (window_numbers w)) (window_refused g id n)
query_refused g Session n = clash refl n

queries_answer : (g : Group) → Ok g → (q : Query) → Replies g q
queries_answer g ok q = record { answer = query_answers g ok q; refused = λ ne. query_refused g q (ne_eqb _ 0 ne) }

-- Calls without a session -------------------------------------------------------------------------------------------

-- a place that is handed back
abbrev range_asked : ℕ → ℕ → ℕ → ℕ → ℕ → ℕ → ℕ
range_asked n w h line ofs len = asked ((5 is Pixels.small_line w h line ofs len) ∷ (13 is line_lies n w h line ofs len) ∷ [])

range_answers : (n w h line ofs len : ℕ) → (Pixels.scanline_range n w h line ofs len).answer ≡ range_asked n w h line ofs len
unfolding Pixels.scanline_range
range_answers n w h line ofs len =
    on_cond (λ (r : Pixels.ScanlineRange). r.answer ≡ range_asked n w h line ofs len) (eqb (range_asked n w h line ofs len) 0 && not (eqb w 0)) _ _ (λ e. refl) (λ e. refl)

range_refused : (n w h line ofs len : ℕ) → eqb (Pixels.scanline_range n w h line ofs len).answer 0 ≡ false
    → Pixels.scanline_range n w h line ofs len ≡ Pixels.no_part (Pixels.scanline_range n w h line ofs len).answer
unfolding Pixels.scanline_range
range_refused n w h line ofs len =
    on_cond (λ (r : Pixels.ScanlineRange). eqb r.answer 0 ≡ false → r ≡ Pixels.no_part r.answer) (eqb (range_asked n w h line ofs len) 0 && not (eqb w 0)) _ _
    (λ e no. clash (fst (eqb (range_asked n w h line ofs len) 0) _ e) no) (λ e no. refl)

-- a run of times
busiest_answers : (run : List ℕ) → (busiest run).answer ≡ Rate.answer run
busiest_answers run =
    on_cond (λ (s : Second). s.answer ≡ Rate.answer run) (eqb (Rate.answer run) 0) _ _ (λ e. sym (eqb-true (Rate.answer run) 0 e)) (λ e. refl)

busiest_refused : (run : List ℕ) → eqb (busiest run).answer 0 ≡ false → busiest run ≡ Rate.refused (busiest run).answer
busiest_refused run =
    on_cond (λ (s : Second). eqb s.answer 0 ≡ false → s ≡ Rate.refused s.answer) (eqb (Rate.answer run) 0) _ _
    (λ e no. clash refl no) (λ e no. refl)

bare_answers : (b : Bare) → (bare_replies b).answer ≡ asked (bare_questions b)
unfolding bare_replies bare_questions Pixels.scanline_range Pixels.line_written Pixels.region
bare_answers (Contains a px py) = refl
bare_answers (Within a w h) = refl
bare_answers (ContainsRect a b) = refl
bare_answers (Union a b) = refl
bare_answers (Intersect a b) = refl
bare_answers (NotIntersect a b) = refl
bare_answers (ScanlineRange n w h line ofs len) = range_answers n w h line ofs len
bare_answers (Scanline ps w h line ofs len) = range_answers (length ps) w h line ofs len
bare_answers (FillScanline ps w h line ofs len v) = refl
bare_answers (SetScanline ps w h line ofs len vs) = refl
bare_answers (Region ps stride x y w h) = refl
bare_answers (Busiest run) = busiest_answers run

bare_refused : (b : Bare) → eqb (bare_replies b).answer 0 ≡ false → bare_replies b ≡ bare_refusal b (bare_replies b).answer
unfolding bare_replies bare_refusal Pixels.scanline_range Pixels.line_written Pixels.region
bare_refused (Contains a px py) n = rw (sym (asked₁ 13 (edges_fit a)) ∙ n)
bare_refused (Within a w h) n = rw (sym (asked₁ 13 (edges_fit a)) ∙ n)
bare_refused (ContainsRect a b) n = rw (sym (asked₁ 13 (both_fit a b)) ∙ n)
bare_refused (Union a b) n = rw (sym (asked₁ 13 (both_fit a b)) ∙ n)
bare_refused (Intersect a b) n = rw (sym (asked₁ 13 (both_fit a b)) ∙ n)
bare_refused (NotIntersect a b) n = rw (sym (asked₁ 13 (both_fit a b)) ∙ n)
bare_refused (ScanlineRange m w h line ofs len) n = ap (λ r. reply r.answer [] (r.start ∷ r.count ∷ [])) (range_refused m w h line ofs len n)
bare_refused (Scanline ps w h line ofs len) n =
    ap (λ r. reply r.answer [] (part r.start r.count ps)) (range_refused (length ps) w h line ofs len n)
bare_refused (FillScanline ps w h line ofs len v) n = rw n
bare_refused (SetScanline ps w h line ofs len vs) n = rw n
bare_refused (Region ps stride x y w h) n = rw n
bare_refused (Busiest run) n = ap (λ (s : Second). reply s.answer [] (s.count ∷ s.place ∷ [])) (busiest_refused run n)

bare_answer : (b : Bare) → BareReplies b
bare_answer b = record { answer = bare_answers b; refused = λ ne. bare_refused b (ne_eqb _ 0 ne) }

-- a refused start
started : (c : ℕ) → Started c
started c = record { answer = refl; refused = λ ne. rw (sym (asked₁ 1 (allowed_c c)) ∙ ne_eqb _ 0 ne) }

-- the reader: bytes are those of one sheet at most
same_sheet : {bytes : List ℕ} (s t : Bands.Sheet) → IsSheet bytes s → IsSheet bytes t → s ≡ t
same_sheet s t i j = bytes_unique s t i.valid j.valid (sym i.same ∙ j.same)

reads : (bytes list : List ℕ) (r : Listing) (after : List ℕ) → Reads bytes list r after → ReadsSheet bytes list r after
reads bytes list r after (broken never e l) =
    record { either = inl never; broken = λ n. ap (λ (c : Listing). c.answer) e; sound = λ s i. absurd (never s i); refused = λ ne. (ap (λ (c : Listing). c.count) e, l) }
reads bytes list r after (short s i few e l) =
    record {
      either = inr (s, i);
      broken = λ never. absurd (never s i);
      sound = λ t j. ap (λ (c : Listing). c.answer) e ∙ rw (same_sheet t s j i, lt-leb (4 * length (rects s)) (length list) few);
      refused = λ ne. (ap (λ (c : Listing). c.count) e, l);
    }
reads bytes list r after (whole s i many e l) =
    record {
      either = inr (s, i);
      broken = λ never. absurd (never s i);
      sound = λ t j. ap (λ (c : Listing). c.answer) e ∙ rw (same_sheet t s j i, le-leb (4 * length (rects s)) (length list) many);
      refused = λ ne. absurd (ne (ap (λ (c : Listing). c.answer) e));
    }

pub demand_1 : Demand1
demand_1 =
    record {
      calls = λ c ks. calls_answer (after c ks) (ok_after c ks);
      queries = λ c ks. queries_answer (after c ks) (ok_after c ks);
      starts = started;
      bare = bare_answer;
      reader = reads;
    }

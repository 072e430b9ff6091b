-- One run behind another is a run, a run adds its text to what waited, and the parts of a block are read in turn.
use Prim.Native.Nat.{ℕ, suc, ◌+◌, ◌≤◌, ◌<◌}
use mathlib.Core.Path.{◌≡◌, refl, sym, ap, subst, subst₂, ◌∙◌}
use mathlib.Core.List.{List, [], ◌∷◌, ◌++◌, append_assoc, append-nil}
use native.Mathlib.Omega.{arith}
use native.Mathlib.Numerals.{add-one}
use lib.ListN.{length, take, drop, get_or, take-append-drop, length-append, length-drop}
use lib.Seq.{slice, length-slice, length-take-le, take-take, take-suc, get_or-drop, get_or-take}
use Rattle.std.proofs.lemmas.List.{take_all}
use Rattle.script.specs.declared.shape.Line.{Line}
use Rattle.script.specs.declared.Reading.{Reading}
use Rattle.script.specs.Machine.{Reads, ReadTo}
use Rattle.script.specs.Script.{hears, heard_of}
use Rattle.answer_text.specs.Text.{Piece, said}
use Rattle.answer_text.specs.Added.{counted as counting, handed_over, Waiting, Output, waits, Says}
use Rattle.answer_text.proofs.laws.Added.{same, then, flush_says}
use Rattle.replay.specs.declared.player.Player.{Player}
use Rattle.replay.specs.Ready.{Ready, Next, with_output, counted}
use Rattle.replay.specs.Played.{Pixels, Plays, Writes, Hears, passes, spoils, exceeds, starts, creates, plain, stores, pops, redraws, lists, asks_hits, asks_focus, lends, lends_screen, lends_list, asks_busiest, asks_share, asks_display, asks_look, lends_target, reads_sheet, asks_sheet, lends_sheet, asks_stale, asks_waiting, asks_window, asks_session, asks_who, shows_screen, shows_pixels, shows_picture, shows_rect, shows_part}
use Rattle.replay.specs.Run.{Fresh, Stage, OneLine, Runs, pends, ends, hands, Finished}
use Rattle.replay.specs.inner.Run.{Ends, HearsOut, RunsTo}

-- A line --------------------------------------------------------------------------------------------------------------

-- what every line leaves: a player that is ready for the next, and its text behind what waited
pub record Left (ps : List Piece) (o : Output) (r : Player) : Type 0 where
  pub ready : Ready r
  pub adds : Says ps o r.out

left : {ps qs : List Piece} {p r : Player} {s : _} → ps ≡ qs → Next qs p s r → Left ps p.out r
left {p = p} {r = r} e n = record { ready = n.ready; adds = subst (λ (ps : List Piece). Says ps p.out r.out) (sym e) n.adds }

pub left_of : {l : Line} {ns : List ℕ} {p : Player} {a : Pixels} {ps : List Piece} {r : Player} {b : Pixels} → Plays l ns p a ps r b → Left ps p.out r
left_of (passes k t n e) = left refl n
left_of (spoils k t n e) = left refl n
left_of (exceeds k t n e) = left refl n
left_of (starts k t h e) = left t h.next
left_of (creates k t m e) = left refl m.next
left_of (plain m e) = left refl m.so.1.next
left_of (stores h e) = left h.so.0 h.so.1.makes.next
left_of (pops k t m e) = left refl m.next
left_of (redraws k j t h e) = left t h.makes.next
left_of (lists k lent j t n e) = left refl n
left_of (asks_hits k lent j t n e) = left refl n
left_of (asks_focus k t n e) = left refl n
left_of (lends k j t n e) = left refl n
left_of (lends_screen k j t n e) = left refl n
left_of (lends_list k j t n e) = left refl n
left_of (asks_busiest k t n e) = left refl n
left_of (asks_share k t n e) = left refl n
left_of (asks_display k t n e) = left refl n
left_of (asks_look k j t n e) = left refl n
left_of (lends_target k j t n e) = left refl n
left_of (reads_sheet k lent j found list d t n e) = left refl n
left_of (asks_sheet k lent j t n e) = left refl n
left_of (lends_sheet k j t n e) = left refl n
left_of (asks_stale k t n e) = left refl n
left_of (asks_waiting k t n e) = left refl n
left_of (asks_window k t n e) = left refl n
left_of (asks_session k t n e) = left refl n
left_of (asks_who k t m e) = left refl m.next
left_of (shows_screen k j t n e) = left refl n
left_of (shows_pixels k t n e) = left refl n
left_of (shows_picture k j t n e) = left refl n
left_of (shows_rect k j t n e) = left refl n
left_of (shows_part k j t n e) = left refl n

-- the line that the bytes mean was played, by a player that had counted it
pub heard_out : {bs : List ℕ} {l : Line} {ns : List ℕ} (name : List ℕ) {p c : Player} {a : Pixels} {r : Player} {b : Pixels}
    → hears bs ≡ heard_of l ns name → c ≡ counted p → Writes l ns c a r b → HearsOut bs p a r b
heard_out {l = l} {ns = ns} name {a = a} {r = r} {b = b} h e w =
    record {
      text = w.text;
      hears =
          record {
            line = l;
            numbers = ns;
            name = name;
            heard = h;
            plays = subst (λ (c : Player). Plays l ns c a w.text r b) e w.plays;
          };
    }

-- One run behind another ----------------------------------------------------------------------------------------------

one_append : (xs ys : List ℕ) → OneLine xs → OneLine ys → OneLine (xs ++ ys)
one_append [] ys o p = p
one_append (x ∷ xs) ys o p = (o.0, one_append xs ys o.1 p)

-- a stage with these bytes of its line
abbrev at_line : Stage → List ℕ → Stage
at_line s l = record { player = s.player; pixels = s.pixels; line = l }

-- all that waits is handed over
abbrev handed : Output → Stage → Stage
handed o s = record { player = with_output o s.player; pixels = s.pixels; line = s.line }

-- bytes of a line that has not ended, and what comes behind them
joins : {t : Stage} (s u : Stage) (xs : List ℕ) {ys : List ℕ} {qs : List Piece} → u ≡ at_line s (s.line ++ xs) → OneLine xs → Runs t u ys qs
    → Runs t s (xs ++ ys) qs
joins s u xs v o (pends ys p e) =
    pends (xs ++ ys) (one_append xs ys o p)
    (e ∙ ap (λ (m : Stage). at_line m (m.line ++ ys)) v ∙ ap (λ (l : List ℕ). at_line s l) (append_assoc s.line xs ys))
joins {t} s u xs v o (ends bs rest ps qs r b p h k) =
    subst (λ (l : List ℕ). Runs t s l (ps ++ qs)) (append_assoc xs bs (10 ∷ rest))
    (ends (xs ++ bs) rest ps qs r b (one_append xs bs o p)
    (subst (λ (l : List ℕ). Hears l s.player s.pixels ps r b) (append_assoc s.line xs bs)
    (subst (λ (m : Stage). Hears (m.line ++ bs) m.player m.pixels ps r b) v h)) k)
joins s u xs v o (hands w f k) =
    hands w (subst (λ (m : Stage). waits w ≡ handed_over (waits m.player.out)) v f) (joins (handed w s) (handed w u) xs (ap (handed w) v) o k)

pub runs_then : {m t s : Stage} {xs ys : List ℕ} {ps qs : List Piece} → Runs m s xs ps → Runs t m ys qs → Runs t s (xs ++ ys) (ps ++ qs)
runs_then {t = t} {s = s} {ys = ys} {qs = qs} (pends xs o e) k = joins s (at_line s (s.line ++ xs)) xs refl o (subst (λ (u : Stage). Runs t u ys qs) e k)
runs_then {t = t} {s = s} {ys = ys} {qs = qs} (ends bs rest ps os r b o h j) k =
    subst₂ (λ (l : List ℕ) (text : List Piece). Runs t s l text) (sym (append_assoc bs (10 ∷ rest) ys)) (sym (append_assoc ps os qs))
    (ends bs (rest ++ ys) ps (os ++ qs) r b o h (runs_then j k))
runs_then (hands w f j) k = hands w f (runs_then j k)

-- The text of a run ---------------------------------------------------------------------------------------------------

pub runs_adds : {t s : Stage} {input : List ℕ} {ps : List Piece} → (waits s.player.out).at ≤ 65536 → s.player.out.sent ≤ 18446744073709551615
    → Runs t s input ps → Says ps s.player.out t.player.out
runs_adds {s = s} h f (pends input o e) =
    subst (λ (u : Stage). Says [] s.player.out u.player.out) (sym e) (same (waits s.player.out) s.player.out.bytes h f)
runs_adds h f (ends bs rest ps qs r b o d k) =
    let a = (left_of d.plays).adds in
    then a (runs_adds a.room (omega (arith, a.count)) k)
runs_adds {s = s} h f (hands w i k) =
    let n : length w.bytes ≡ 0 = ap (λ (x : Waiting). x.at) i in
    let m : w.sent ≡ counting (s.player.out.sent + length s.player.out.bytes) = ap (λ (x : Waiting). x.sent) i in
    then (flush_says i) (runs_adds (omega arith) (omega arith) k)

-- from nothing on: when what waits is handed over too, all bytes of the text are
all_handed : {ps : List Piece} {o r : Output} → waits o ≡ record { at = 0; sent = 0 } → Says ps o r
    → handed_over (waits r) ≡ record { at = 0; sent = counting (length (said ps)) }
all_handed {ps} {o} {r} z d =
    let none : length o.bytes ≡ 0 = ap (λ (w : Waiting). w.at) z in
    let sent : o.sent ≡ 0 = ap (λ (w : Waiting). w.sent) z in
    let total : length (take (length o.bytes) o.bytes ++ said ps) ≡ length (said ps) =
    length-append (take (length o.bytes) o.bytes) (said ps) ∙ (omega (arith, length-take-le (length o.bytes) o.bytes (omega arith))) in
    let w : length r.bytes ≡ length (drop d.handed (take (length o.bytes) o.bytes ++ said ps)) =
    sym (length-take-le (length r.bytes) r.bytes (omega arith)) ∙ ap length d.waits in
    let n : counting (r.sent + length r.bytes) ≡ counting (length (said ps)) =
    omega (arith, length-drop d.handed (take (length o.bytes) o.bytes ++ said ps), d.count, d.inside, total, w, sent) in
    ap (λ (k : ℕ). record { at = 0; sent = k }) n

-- A block -------------------------------------------------------------------------------------------------------------

none_ends : (l : List ℕ) → ((i : ℕ) → i < length l → get_or l i 0 ≡ 10 → ⊥) → OneLine l
none_ends [] h = tt
none_ends (x ∷ l) h = (h 0 (omega arith), none_ends l (λ i j. h (suc i) (omega arith)))

-- what was read up to a newline is of one line
one_read : (l : List ℕ) (from at : ℕ) → ReadTo l from at → OneLine (slice from at l)
one_read l from at d =
    none_ends (slice from at l)
    (λ i h e.
    let j : from + i < at = omega (arith, length-slice from at l d.inside, d.forward) in
    d.none (from + i) (omega arith) j (sym (get_or-drop from (take at l) i 0 ∙ get_or-take at l (from + i) 0 j) ∙ e))

take_slice : (l : List ℕ) (from at : ℕ) → from ≤ at → take from l ++ slice from at l ≡ take at l
take_slice l from at h = ap (λ (k : List ℕ). k ++ slice from at l) (sym (take-take from at l h)) ∙ take-append-drop from (take at l)

-- none of them, at the start
pub run_none : {p : Player} {a : Pixels} {line : List ℕ} {reading : Reading} {w ns name : List ℕ} → Reads line reading w ns name
    → RunsTo (record { player = p; pixels = a; line = line }) [] p a reading w ns name
run_none {p} {a} {line} h =
    let now : Stage = record { player = p; pixels = a; line = line } in
    record { text = []; line = line; runs = pends [] tt (ap (λ (l : List ℕ). at_line now l) (sym (append-nil line))); reads = h }

module _ {s : Stage} (bytes : List ℕ) {p : Player} {a : Pixels} where
  -- the bytes up to a newline, or to the end of the block, belong to the line
  pub run_read : (from at : ℕ) {reading next : Reading} {w ns name w' ns' name' : List ℕ} → RunsTo s (take from bytes) p a reading w ns name
      → ReadTo bytes from at → ((bs : List ℕ) → Reads bs reading w ns name → Reads (bs ++ slice from at bytes) next w' ns' name')
      → RunsTo s (take at bytes) p a next w' ns' name'
  run_read from at q d f =
      let line = q.line ++ slice from at bytes in
      record {
        text = q.text ++ [];
        line = line;
        runs =
            subst (λ (l : List ℕ). Runs (record { player = p; pixels = a; line = line }) s l (q.text ++ [])) (take_slice bytes from at d.forward)
            (runs_then q.runs (pends (slice from at bytes) (one_read bytes from at d) refl));
        reads = f q.line q.reads;
      }

  -- a newline ends the line, which is played
  pub run_ends : (at : ℕ) {reading next : Reading} {w ns name w' ns' name' : List ℕ} {r : Player} {b : Pixels} → RunsTo s (take at bytes) p a reading w ns name
      → at < length bytes → get_or bytes at 0 ≡ 10 → ((bs : List ℕ) → Reads bs reading w ns name → HearsOut bs p a r b) → Reads [] next w' ns' name'
      → RunsTo s (take (at + 1) bytes) r b next w' ns' name'
  run_ends at {r = r} {b = b} q h e f g =
      let heard = f q.line q.reads in
      let after : Stage = record { player = r; pixels = b; line = [] } in
      let taken : take at bytes ++ (10 ∷ []) ≡ take (at + 1) bytes = rw (add-one, take-suc bytes at 0 h, e) in
      record {
        text = q.text ++ (heard.text ++ []);
        line = [];
        runs =
            subst (λ (l : List ℕ). Runs after s l (q.text ++ (heard.text ++ []))) taken
            (runs_then q.runs (ends [] [] heard.text [] r b tt
            (subst (λ (l : List ℕ). Hears l p a heard.text r b) (sym (append-nil q.line)) heard.hears) (pends [] tt refl)));
        reads = g;
      }

-- all bytes of a block have been passed
pub all_read : {s : Stage} {p : Player} {a : Pixels} {reading : Reading} {w ns name : List ℕ} (at : ℕ) (block : List ℕ) → length block ≤ at
    → RunsTo s (take at block) p a reading w ns name → RunsTo s block p a reading w ns name
all_read {s} {p} {a} {reading} {w} {ns} {name} at block e q = subst (λ (l : List ℕ). RunsTo s l p a reading w ns name) (take_all at block e) q

-- The whole input -----------------------------------------------------------------------------------------------------

-- what was read so far, from a fresh player on
pub record SoFar (a : Pixels) (p : Player) (b : Pixels) (reading : Reading) (word ns name : List ℕ) : Type 0 where
  pub first : Player
  pub fresh : Fresh first
  pub input : List ℕ
  pub run : RunsTo (record { player = first; pixels = a; line = [] }) input p b reading word ns name

pub none_read : {a : Pixels} {p : Player} {reading : Reading} {w ns name : List ℕ} → Fresh p → Reads [] reading w ns name → SoFar a p a reading w ns name
none_read {p = p} f d =
    record { first = p; fresh = f; input = []; run = record { text = []; line = []; runs = pends [] tt refl; reads = d } }

module _ {a : Pixels} {p : Player} {b : Pixels} {reading : Reading} {w ns name : List ℕ} (q : SoFar a p b reading w ns name) where
  pub flushed_run : {o : Output} → waits o ≡ handed_over (waits p.out) → SoFar a (with_output o p) b reading w ns name
  flushed_run {o} e =
      let line = q.run.line in
      let now : Stage = record { player = p; pixels = b; line = line } in
      let none : handed o now ≡ at_line (handed o now) (line ++ []) = ap (λ (l : List ℕ). at_line (handed o now) l) (sym (append-nil line)) in
      record {
        first = q.first;
        fresh = q.fresh;
        input = q.input ++ [];
        run = record { text = q.run.text ++ []; line = line; runs = runs_then q.run.runs (hands o e (pends [] tt none)); reads = q.run.reads };
      }

  pub block_run : (bytes : List ℕ) {r : Player} {c : Pixels} {next : Reading} {w' ns' name' : List ℕ}
      → ((bs : List ℕ) → Reads bs reading w ns name → RunsTo (record { player = p; pixels = b; line = bs }) bytes r c next w' ns' name')
      → SoFar a r c next w' ns' name'
  block_run bytes f =
      let m = f q.run.line q.run.reads in
      record {
        first = q.first;
        fresh = q.fresh;
        input = q.input ++ bytes;
        run = record { text = q.run.text ++ m.text; line = m.line; runs = runs_then q.run.runs m.runs; reads = m.reads };
      }

  -- the last line was played; what waits then is handed over
  finished_line : {r : Player} {c : Pixels} → HearsOut q.run.line p b r c → Finished a
  finished_line {r} {c} heard =
      let last : Stage = record { player = p; pixels = b; line = q.run.line } in
      let text = q.run.text ++ heard.text in
      let ran = runs_adds q.fresh.ready.at q.fresh.ready.sent q.run.runs in
      let adds : Says text q.first.out r.out = then ran (left_of heard.hears.plays).adds in
      record {
        first = q.first;
        fresh = q.fresh;
        input = q.input;
        text = q.run.text;
        last = last;
        runs = q.run.runs;
        tail = heard.text;
        end = r;
        pixels = c;
        hears = heard.hears;
        count = length (said text);
        is = all_handed q.fresh.out adds;
        all = refl;
      }

  pub finished : {r : Player} {c : Pixels} → ((bs : List ℕ) → Reads bs reading w ns name → HearsOut bs p b r c) → Finished a
  finished f = finished_line (f q.run.line q.run.reads)

  -- the same where that was handed over, as `finish` does
  pub finished_handed : {r : Player} {c : Pixels} → ((bs : List ℕ) → Reads bs reading w ns name → Ends bs p b r c) → Finished a
  finished_handed f = finished_line (f q.run.line q.run.reads).hears

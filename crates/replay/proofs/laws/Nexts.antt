-- A player that has another session and another output than before; and what a line of its own kind writes.
use Rattle.std.proofs.Common.{ℕ, ◌≤◌, ◌≡◌, refl, sym, subst, ◌∙◌, arith, List, []}
use Rattle.rules.specs.Calls.{Call}
use Rattle.windows.specs.declared.Session.{Session}
use Rattle.windows.specs.View.{done, Given, Meets}
use Rattle.script.specs.Kind as Kind
use Rattle.answer_text.specs.Text.{Piece, line, beyond}
use Rattle.answer_text.specs.Added.{Output, Says}
use Rattle.bare_lines.specs.Numbers.{num}
use Rattle.replay.specs.declared.player.Player.{Player}
use Rattle.replay.specs.Ready.{Ready, Next, unset, unlisted, untargeted, unsheeted, lend_store, lend_screen, lend_list, lend_target, lend_sheet}
use Rattle.replay.specs.Played.{Makes, Beyond, PlaysAt, exceeds, lends, lends_screen, lends_list, lends_target, lends_sheet}

-- the same text of what is equal
pub retold : {ps qs : List Piece} {o r : Output} → ps ≡ qs → Says ps o r → Says qs o r
retold {o = o} {r = r} e a = subst (λ (l : List Piece). Says l o r) e a

-- The player ----------------------------------------------------------------------------------------------------------

-- the player with another session and another output
abbrev pub onward : Session → Output → Player → Player
onward s o p = record { session = s; lent = p.lent; screen = p.screen; list = p.list; target = p.target; sheet = p.sheet; out = o; lines = p.lines }

pub next_of : (p : Player) {s : Session} {o : Output} {ps : List Piece} → Ready p → Given s → Says ps p.out o → Next ps p s (onward s o p)
next_of p r g a =
    record {
      ready =
          record { given = g; lent = r.lent; screen = r.screen; list = r.list; target = r.target; sheet = r.sheet; at = a.room; sent = omega (arith, a.count) };
      adds = a;
      session = refl;
      lent = refl;
      screen = refl;
      list = refl;
      target = refl;
      sheet = refl;
      lines = refl;
    }

-- the player is as it was, but for its output
pub tells : {ps : List Piece} {o : Output} (p : Player) → Ready p → Says ps p.out o → Next ps p p.session (onward p.session o p)
tells p h a = next_of p h h.given a

-- a call was made, and this was written
pub makes : (k : Call) (p : Player) {s : Session} {a : ℕ} {o : Output} {ps : List Piece} → Ready p → Meets k p.session (done s a) → Says ps p.out o
    → Makes k ps p (onward s o p)
makes k p h m a =
    record { next = next_of p h m.given a; after = m.after; refused = λ f. m.same (λ e. f (sym m.answer ∙ e)) }

-- what was said of a lend is used up
pub unset_ready : {p : Player} → Ready p → Ready (unset p)
unset_ready h = record { given = h.given; lent = h.lent; screen = tt; list = h.list; target = h.target; sheet = h.sheet; at = h.at; sent = h.sent }

pub unlisted_ready : {p : Player} → Ready p → Ready (unlisted p)
unlisted_ready h = record { given = h.given; lent = h.lent; screen = h.screen; list = tt; target = h.target; sheet = h.sheet; at = h.at; sent = h.sent }

pub untargeted_ready : {p : Player} → Ready p → Ready (untargeted p)
untargeted_ready h = record { given = h.given; lent = h.lent; screen = h.screen; list = h.list; target = tt; sheet = h.sheet; at = h.at; sent = h.sent }

pub unsheeted_ready : {p : Player} → Ready p → Ready (unsheeted p)
unsheeted_ready h = record { given = h.given; lent = h.lent; screen = h.screen; list = h.list; target = h.target; sheet = tt; at = h.at; sent = h.sent }

-- A line beyond the program's limits, and the lines that say how much is lent -----------------------------------------

pub beyond_at : {k : ℕ} {ns : List ℕ} {p r : Player} → Beyond k ns p → Next beyond p p.session r → PlaysAt k ns p r
beyond_at {ns = ns} {p = p} b n =
    λ l a e. record { text = beyond; plays = exceeds (subst (λ (j : ℕ). Beyond j ns p) (sym e) b) refl n refl }

module _ {k : ℕ} {ns : List ℕ} (p : Player) {o : Output} (h : Ready p) (a : Says (line 0 []) p.out o) where
  pub lent_store : k ≡ Kind.lend → num ns 0 ≤ 6144000 → PlaysAt k ns p (onward p.session o (lend_store (num ns 0) p))
  lent_store e m = λ l b i.
      record {
        text = line 0 [];
        plays =
            lends (i ∙ e) m refl
            (next_of (lend_store (num ns 0) p)
            (record { given = h.given; lent = m; screen = h.screen; list = h.list; target = h.target; sheet = h.sheet; at = h.at; sent = h.sent }) h.given a) refl;
      }

  pub lent_screen : k ≡ Kind.lend_screen → num ns 0 ≤ 3072000 → PlaysAt k ns p (onward p.session o (lend_screen (num ns 0) p))
  lent_screen e m = λ l b i.
      record {
        text = line 0 [];
        plays =
            lends_screen (i ∙ e) m refl
            (next_of (lend_screen (num ns 0) p)
            (record { given = h.given; lent = h.lent; screen = m; list = h.list; target = h.target; sheet = h.sheet; at = h.at; sent = h.sent }) h.given a) refl;
      }

  pub lent_list : k ≡ Kind.lend_list → num ns 0 ≤ 7812 → PlaysAt k ns p (onward p.session o (lend_list (num ns 0) p))
  lent_list e m = λ l b i.
      record {
        text = line 0 [];
        plays =
            lends_list (i ∙ e) m refl
            (next_of (lend_list (num ns 0) p)
            (record { given = h.given; lent = h.lent; screen = h.screen; list = m; target = h.target; sheet = h.sheet; at = h.at; sent = h.sent }) h.given a) refl;
      }

  pub lent_target : k ≡ Kind.lend_target → num ns 0 ≤ 65536 → PlaysAt k ns p (onward p.session o (lend_target (num ns 0) p))
  lent_target e m = λ l b i.
      record {
        text = line 0 [];
        plays =
            lends_target (i ∙ e) m refl
            (next_of (lend_target (num ns 0) p)
            (record { given = h.given; lent = h.lent; screen = h.screen; list = h.list; target = m; sheet = h.sheet; at = h.at; sent = h.sent }) h.given a) refl;
      }

  pub lent_sheet : k ≡ Kind.lend_sheet → num ns 0 ≤ 2048 → PlaysAt k ns p (onward p.session o (lend_sheet (num ns 0) p))
  lent_sheet e m = λ l b i.
      record {
        text = line 0 [];
        plays =
            lends_sheet (i ∙ e) m refl
            (next_of (lend_sheet (num ns 0) p)
            (record { given = h.given; lent = h.lent; screen = h.screen; list = h.list; target = h.target; sheet = m; at = h.at; sent = h.sent }) h.given a) refl;
      }

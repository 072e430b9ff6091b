-- What a call's own contract says of the session is what the line promises of the player.
use Prim.Native.Nat.{ℕ, ◌*◌, ◌≤◌}
use mathlib.Core.Path.{◌≡◌, refl, sym, ap, subst, ◌∙◌}
use mathlib.Core.Bool.{Bool, true, false}
use mathlib.Core.List.{List, [], ◌++◌}
use mathlib.Core.Option.{Option}
use native.Mathlib.Omega.{arith}
use lib.ListN.{length, take, drop}
use lib.Seq.{length-take-le}
use Rattle.geom.specs.Refusals.{Listing}
use Rattle.rules.specs.Group.{Group, session_c}
use Rattle.rules.specs.Calls.{Call, does}
use Rattle.windows.specs.declared.Session.{Session}
use Rattle.windows.specs.View.{group, Done, Written, done, MeetsStore, Starts, Lists, Hits, Prints}
use Rattle.answer_text.specs.Text as Text
use Rattle.answer_text.specs.Text.{Piece}
use Rattle.answer_text.specs.Added.{Output, Says}
use Rattle.replay.specs.declared.player.Player.{Player}
use Rattle.replay.specs.Ready.{Ready, lend_store}
use Rattle.replay.specs.Told.{wrote_line}
use Rattle.replay.specs.Played.{Begins, WritesPart, ListsPart, HitsPart, Stores}
use Rattle.replay.specs.Called.{Picked, is_counted}
use Rattle.replay.specs.inner.Sheets.{PrintsPart}
use Rattle.replay.proofs.laws.Sizes.{counted, hits_room, print_room}
use Rattle.replay.proofs.laws.Picked.{picked_so}
use Rattle.replay.proofs.laws.Nexts.{retold, onward, next_of, makes}

c_of : (c : ℕ) (d : Done) → Starts c d → d.session.shared.c ≡ session_c c
unfolding group
c_of c d h = ap (λ (g : Group). g.c) h.after

pub begins : (c : ℕ) (p : Player) (s : Session) (a : ℕ) {o : Output} → Ready p → Starts c (done s a) → 16 * s.shared.c ≤ 6144000
    → Says (Text.line a []) p.out o → Begins c p (onward s o (lend_store (16 * s.shared.c) p))
begins c p s a {o} h m l d =
    let lent : Player = lend_store (16 * s.shared.c) p in
    let ready : Ready lent =
    record { given = h.given; lent = l; screen = h.screen; list = h.list; target = h.target; sheet = h.sheet; at = h.at; sent = h.sent } in
    let n = next_of lent ready m.given (retold (ap (λ (n : ℕ). Text.line n []) m.answer) d) in
    record {
      next = record { ready = n.ready; adds = n.adds; session = refl; lent = ap (λ (k : ℕ). 16 * k) (c_of c (done s a) m); screen = refl; list = refl; target = refl; sheet = refl; lines = refl };
      after = m.after;
    }

-- Parts ---------------------------------------------------------------------------------------------------------------

-- what a call says that is lent the store, and also counts the pixels that it alters, where `counts`
abbrev pub Counts : Bool → Session → Written → List ℕ → Call → Type 0
Counts counts s r last c = MeetsStore c s (done r.session r.answer) last × (counts ≡ true → r.altered ≡ (does (group s) c).altered)

-- the number of pixels altered counts where it is written
same_count : (b c : Bool) (a d n m : ℕ) → b ≡ c → a ≡ d → (c ≡ true → n ≡ m) → wrote_line b a n ≡ wrote_line c d m
same_count b true a d n m e z f = λ i. wrote_line (e i) (z i) (f refl i)
same_count b false a d n m e z f = λ i. wrote_line (e i) (z i) n

-- the line of a call that was lent the store
pub stored_so : {k : Option Call} (l : ℕ) (p : Player) (b : Bool) (w : Written) {store after : List ℕ} {o : Output} → b ≡ is_counted l → Ready p
    → Picked k (λ c. WritesPart (is_counted l) c p.lent store p.session w after)
    → Says (wrote_line b w.answer w.altered) p.out o → Picked k (λ c. Stores l c p store (onward w.session o p) after)
stored_so l p b w e h m d =
    picked_so
    (λ c q. record {
      makes = makes c p h q.part.meets (retold (same_count b (is_counted l) w.answer _ w.altered _ e q.part.meets.answer q.altered) d);
      stored = q.part.stored;
    })
    m

pub list_part : (g : Group) (id j n : ℕ) (list last : List ℕ) (r : Listing) → j ≡ id → n ≤ length list → Lists g j (take n list) r last
    → ListsPart g id n list r (last ++ drop n list)
list_part g id j n list last r i l h =
    subst (λ (k : ℕ). ListsPart g k n list r (last ++ drop n list)) i
    (record {
      answer = h.answer;
      count = h.count;
      listed = ap (λ (t : List ℕ). t ++ drop n list) h.list;
      room = omega (arith, counted g j (take n list), length-take-le n list l, h.count);
    })

pub hits_part : (g : Group) (points : List ℕ) (n : ℕ) (list last : List ℕ) (a : ℕ) → n ≤ length list → Hits g points (take n list) a last
    → HitsPart g points n list a (last ++ drop n list)
hits_part g points n list last a l h =
    record {
      answer = h.answer;
      listed = ap (λ (t : List ℕ). t ++ drop n list) h.list;
      room = λ z. omega (arith, hits_room g points (take n list) (sym h.answer ∙ z), length-take-le n list l);
    }

pub print_part : (g : Group) (id j n : ℕ) (bytes last : List ℕ) (r : Listing) → j ≡ id → n ≤ length bytes → Prints g j (take n bytes) r last
    → PrintsPart g id n bytes r (last ++ drop n bytes)
print_part g id j n bytes last r i l h =
    subst (λ (k : ℕ). PrintsPart g k n bytes r (last ++ drop n bytes)) i
    (record {
      answer = h.answer;
      count = h.count;
      printed = ap (λ (t : List ℕ). t ++ drop n bytes) h.bytes;
      room = omega (arith, print_room g j (take n bytes), length-take-le n bytes l, h.count);
    })

-- What waits: a pop of a window in use finds an event in its queue or an unread move; and one bit after the other.
use Prim.Native.Nat.{ℕ, suc, ◌+◌, ◌*◌, ◌-◌, ◌≤◌, ◌<◌}
use mathlib.Core.Path.{◌≡◌, refl, sym, ap, ◌∙◌}
use mathlib.Core.Bool.{Bool, true, false, cond, ◌&&◌, ◌||◌}
use native.Mathlib.Omega.{arith}
use lib.Dec.{ltb}
use Rattle.window.specs.declared.Window.{Window}
use Rattle.window.specs.Represents.{win_of, RepWindow}
use Rattle.window.proofs.laws.Events.{events_count}
use Rattle.rules.specs.Group.{win}
use Rattle.rules.specs.Waiting.{would_pop, bits_from}
use Rattle.rules.specs.Demand1.{waits}
use Rattle.rules.proofs.demand.Waiting.{would_pop_lem}
use Rattle.windows.specs.declared.Session.{Session}
use Rattle.windows.specs.View.{group, window_at, Given}
use Rattle.windows.proofs.laws.Session.{used_at, win_at_lem}

-- One window ---------------------------------------------------------------------------------------------------------

-- as the code reads a window
abbrev pub finds : Window → Bool
finds w = w.used && (ltb 0 w.queue.len || w.cursor.is_dirty)

window_waits : (w : Window) → RepWindow w → waits (win_of w) ≡ ltb 0 w.queue.len || w.cursor.is_dirty
unfolding waits
window_waits w r = ap (λ (n : ℕ). ltb 0 n || w.cursor.is_dirty) (events_count w.queue r.queue)

finds_event : (s : Session) (i : ℕ) → Given s → i < 16 → would_pop (group s) i ≡ finds (window_at s i)
finds_event s i h l = would_pop_lem (group s) i ∙ ap (λ (b : Bool). b && waits (win (group s) i)) (used_at s i) ∙ go (window_at s i).used refl
  where
    go : (b : Bool) → (window_at s i).used ≡ b → b && waits (win (group s) i) ≡ b && (ltb 0 (window_at s i).queue.len || (window_at s i).cursor.is_dirty)
    go true u = ap waits (win_at_lem s i u) ∙ window_waits (window_at s i) (h.rep.each i l)
    go false u = refl

-- The bits -----------------------------------------------------------------------------------------------------------

pub bit_low : (w : Window) {n : ℕ} → n ≡ cond (finds w) 1 0 → n ≤ 1
bit_low w e = go (finds w) e
  where
    go : (t : Bool) {n : ℕ} → n ≡ cond t 1 0 → n ≤ 1
    go true e = omega arith
    go false e = omega arith

-- one bit more, of the window below
bits_more : (p : ℕ → Bool) (i : ℕ) → i < 16
    → 2 * bits_from p (16 - i) i + cond (p (15 - i)) 1 0 ≡ bits_from p (16 - (i + 1)) (i + 1)
bits_more p i h =
    let next : 16 - i ≡ suc (15 - i) = omega arith in
    let there : 16 - (i + 1) ≡ 15 - i = omega arith in
    let more : i + 1 ≡ suc i = omega arith in
    rw (there, more, next) (omega arith)

-- the same as the code has it: n are the bits so far, and b is that of the window below
pub next : (s : Session) → Given s → {i n b : ℕ} → i < 16 → n ≡ bits_from (would_pop (group s)) (16 - i) i
    → b ≡ cond (finds (window_at s (15 - i))) 1 0 → 2 * n + b ≡ bits_from (would_pop (group s)) (16 - (i + 1)) (i + 1)
next s h {i} {n} {b} l e is =
    let bit : b ≡ cond (would_pop (group s) (15 - i)) 1 0 =
    is ∙ ap (λ (t : Bool). cond t 1 0) (sym (finds_event s (15 - i) h (omega arith))) in
    (λ k. 2 * e k + bit k) ∙ bits_more (would_pop (group s)) i l

-- The queue of events: its slots are the events again, and what a push and a pop do to those from the head on.
use Rattle.std.proofs.Common.{ℕ, suc, ◌+◌, ◌-◌, ◌≤◌, ◌<◌, ◌≡◌, refl, sym, ap, ◌∙◌, List, [], ◌∷◌, ◌++◌, map, append_assoc, append-nil, arith, add-one, zero-add, suc-add, ltb, length, get_or, set, take, drop, length-set, length-append, length-drop, drop_of_length-le, length-take-le, take_all, take-suc, take-suc-set, drop-cons, drop-set-lt, ltb-true, ltb-false, lt-ltb, le-ltb}
use Rattle.std.proofs.lemmas.List.{map-append}
use Rattle.std.proofs.Math.ListN.{length-map}
use Rattle.std.proofs.Math.Seq.{take-append-le, take-set-le, take-set-lt, drop-set-add, set-append_left}
use Rattle.geom.proofs.basics.Tests.{on_cond}
use Rattle.window.specs.declared.Event.{Event}
use Rattle.window.specs.declared.Event.TheVariants.{Resize, KeyDown, KeyUp, KeyFire, Text, MouseMove, MouseDown, MouseClick, MouseUp}
use Rattle.window.specs.declared.slots.Slot.{Slot}
use Rattle.window.specs.declared.queue.Queue.{Queue}
use Rattle.window.specs.Window.{pushed}
use Rattle.window.specs.Represents.{event_of, place, no_slot, ring, events, RepQueue}
use Rattle.window.specs.inner.Changes.{Queued, slot_of, PushedTo, PoppedFrom}

-- what a queue can hold comes out of its slot again
pub event_again : (e : Event) → Queued e → event_of (slot_of e) ≡ e
unfolding slot_of event_of
event_again Resize h = refl
event_again (KeyDown v) h = refl
event_again (KeyUp v) h = refl
event_again (KeyFire v) h = absurd h
event_again (Text v) h = refl
event_again (MouseDown x y b) h = refl
event_again (MouseClick x y b n) h = refl
event_again (MouseUp x y b) h = refl
event_again (MouseMove x y dx dy) h = absurd h

-- The slots from the head on ----------------------------------------------------------------------------------------

-- a write behind the first list is one in the second
set_behind : (xs ys : List Slot) (n : ℕ) (s : Slot) → set (xs ++ ys) (length xs + n) s ≡ xs ++ set ys n s
set_behind [] ys n s = ap (λ (k : ℕ). set ys k s) (zero-add n)
set_behind (x ∷ xs) ys n s =
    ap (λ (k : ℕ). set (x ∷ (xs ++ ys)) k s) (suc-add (length xs) n)
    ∙ ap (λ (l : List Slot). x ∷ l) (set_behind xs ys n s)

module _ (l : List Slot) (h : ℕ) (size : length l ≡ 16) (low : h < 16) where
  behind : length (drop h l) ≡ 16 - h
  behind = length-drop h l ∙ ap (λ (n : ℕ). n - h) size

  before : length (take h l) ≡ h
  before = length-take-le h l (omega arith)

  ring_size : length (ring h l) ≡ 16
  ring_size = length-append (drop h l) (take h l) ∙ omega (arith, behind, before)

  -- a slot that was set is the n-th from the head on
  ring_set : (n : ℕ) (s : Slot) → n < 16 → ring h (set l (place h n) s) ≡ set (ring h l) n s
  unfolding place
  ring_set n s few =
      on_cond (λ (k : ℕ). ring h (set l k s) ≡ set (ring h l) n s) (ltb (h + n) 16) (h + n) (h + n - 16)
      (λ e.
      (λ i. drop-set-add h l n s i ++ take-set-le h l (h + n) s (omega arith) i)
      ∙ sym (set-append_left (drop h l) (take h l) n s (omega (arith, behind, ltb-true (h + n) 16 e))))
      (λ e.
      let k = h + n - 16 in
      let past : 16 ≤ h + n = ltb-false (h + n) 16 e in
      let at : n ≡ length (drop h l) + k = omega (arith, behind) in
      let low : k < h = omega arith in
      (λ i. drop-set-lt h l k s low i ++ take-set-lt h l k s low i)
      ∙ sym (set_behind (drop h l) (take h l) k s)
      ∙ ap (λ (m : ℕ). set (ring h l) m s) (sym at))

  -- the slots behind the head's, round the end
  others : List Slot
  others = drop (suc h) l ++ take h l

  ring_head : ring h l ≡ get_or l h no_slot ∷ others
  unfolding others
  ring_head = ap (λ (m : List Slot). m ++ take h l) (drop-cons l h no_slot (omega arith))

  -- from the next place on, the head's slot is the last
  ring_turned : ring (place h 1) l ≡ others ++ (get_or l h no_slot ∷ [])
  unfolding place others
  ring_turned =
      let shown : take (suc h) l ≡ take h l ++ (get_or l h no_slot ∷ []) = take-suc l h no_slot (omega arith) in
      on_cond (λ (k : ℕ). ring k l ≡ others ++ (get_or l h no_slot ∷ [])) (ltb (h + 1) 16) (h + 1) (h + 1 - 16)
      (λ e. rw (add-one, shown) (sym (append_assoc (drop (suc h) l) (take h l) (get_or l h no_slot ∷ []))))
      (λ e.
      let last : suc h ≡ 16 = omega (arith, ltb-false (h + 1) 16 e) in
      let none : drop (suc h) l ≡ [] = drop_of_length-le l {i = suc h} (omega arith) in
      let all : take (suc h) l ≡ l = take_all (suc h) l (omega arith) in
      let start : h + 1 - 16 ≡ 0 = omega arith in
      ap (λ (k : ℕ). ring k l) start ∙ append-nil l ∙ sym all ∙ shown ∙ rw none)

  others_size : length others ≡ 15
  unfolding others
  others_size = length-append (drop (suc h) l) (take h l) ∙ omega (arith, length-drop (suc h) l, before)

-- A push -------------------------------------------------------------------------------------------------------------

pub events_count : (q : Queue) → RepQueue q → length (events q) ≡ q.len
events_count q ok =
    let all = ring q.head q.slots in
    length-map (take q.len all) event_of
    ∙ length-take-le q.len all (omega (arith, ring_size q.slots q.head ok.slots ok.head, ok.len))

module _ (q : Queue) (e : Event) (ok : RepQueue q) where
  -- there is a free place
  pub joins : Queued e → q.len < 16 → (s : Slot) → s ≡ slot_of e → (at : ℕ) → at ≡ place q.head q.len
      → PushedTo q e (record { slots = set q.slots at s; head = q.head; len = q.len + 1 })
  unfolding pushed
  joins h l s is at there =
      let all = ring q.head q.slots in
      let size : length all ≡ 16 = ring_size q.slots q.head ok.slots ok.head in
      record {
        rep = record { slots = length-set q.slots at s ∙ ok.slots; head = ok.head; len = omega arith };
        is =
            rw (
              there,
              ring_set q.slots q.head ok.slots ok.head q.len s l,
              add-one,
              take-suc-set all q.len s (omega arith),
              lt-ltb (length (events q)) 16 (omega (arith, events_count q ok)),
            )
            (map-append event_of (take q.len all) (s ∷ [])
            ∙ ap (λ (a : Event). events q ++ (a ∷ [])) (ap event_of is ∙ event_again e h));
      }

  -- 16 wait
  pub dropped : 16 ≤ q.len → PushedTo q e q
  unfolding pushed
  dropped l = record { rep = ok; is = rw (le-ltb (length (events q)) 16 (omega (arith, events_count q ok))) }

-- A pop --------------------------------------------------------------------------------------------------------------

-- the oldest event was taken, and the next place is the head
pub pops : (q : Queue) → RepQueue q → 1 ≤ q.len → (e : Event) → e ≡ event_of (get_or q.slots q.head no_slot)
    → (next : ℕ) → next ≡ place q.head 1 → next < 16
    → PoppedFrom q (record { queue = record { slots = q.slots; head = next; len = q.len - 1 }; event = e })
pops q ok h e is next there low =
    let l = q.slots in
    let first = get_or l q.head no_slot in
    let rest = others l q.head ok.slots ok.head in
    let n : q.len ≡ suc (q.len - 1) = omega arith in
    let turn = ring_head l q.head ok.slots ok.head in
    let few : q.len - 1 ≤ length rest = omega (arith, others_size l q.head ok.slots ok.head, ok.len) in
    let kept : take (q.len - 1) (ring next l) ≡ take (q.len - 1) rest =
    ap (λ (k : ℕ). take (q.len - 1) (ring k l)) there
    ∙ ap (take (q.len - 1)) (ring_turned l q.head ok.slots ok.head)
    ∙ take-append-le (q.len - 1) rest (first ∷ []) few in
    record {
      rep = record { slots = ok.slots; head = low; len = omega (arith, ok.len) };
      is =
          ap (λ (k : ℕ). map event_of (take k (ring q.head l))) n
          ∙ ap (λ (m : List Slot). map event_of (take (suc (q.len - 1)) m)) turn
          ∙ sym (λ i. is i ∷ map event_of (kept i));
    }

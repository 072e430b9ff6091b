-- A block of bytes, read one after the other up to a newline.
use Rattle.std.proofs.Common.{ℕ, ◌+◌, ◌≤◌, ◌<◌, ◌≡◌, sym, ap, ◌∙◌, List, [], ◌∷◌, ◌++◌, arith, add-one, length, take, get_or, take-suc, length-take-le, below_more}
use mathlib.Core.List.{foldl, foldl-append}
use Rattle.std.proofs.Math.Seq.{slice, slice_empty, drop-append-le}
use Rattle.script.specs.declared.Reading.{Reading}
use Rattle.script.specs.Machine.{State, at_start, step, state_of, run, Reads, ReadTo}

-- the part of a block with one byte more
slice_more : (l : List ℕ) (a t : ℕ) → a ≤ t → t < length l → slice a (t + 1) l ≡ slice a t l ++ (get_or l t 0 ∷ [])
slice_more l a t h k =
    rw (add-one, take-suc l t 0 k)
    (drop-append-le a (take t l) (get_or l t 0 ∷ []) (omega (arith, length-take-le t l (omega arith))))

-- the block was read from a to t, from the state s on, and no newline was met
pub record Fed (block : List ℕ) (a : ℕ) (s : State) (w ns name : List ℕ) (r : Reading) (t : ℕ) : Type 0 where
  pub forward : a ≤ t
  pub inside : t ≤ length block
  pub none : (i : ℕ) → i < t → a ≤ i → get_or block i 0 ≡ 10 → ⊥
  pub word_room : length w ≡ 16
  pub number_room : length ns ≡ 384006
  pub name_room : length name ≡ 64
  pub state : state_of r w ns name ≡ foldl step s (slice a t block)

pub fed_starts : {block w ns name : List ℕ} {a : ℕ} {r : Reading} → a ≤ length block → length w ≡ 16 → length ns ≡ 384006 → length name ≡ 64
    → Fed block a (state_of r w ns name) w ns name r a
fed_starts {block} {w} {ns} {name} {a} {r} h e f g =
    record {
      forward = omega arith;
      inside = h;
      none = λ i l k n. omega arith;
      word_room = e;
      number_room = f;
      name_room = g;
      state = sym (ap (foldl step (state_of r w ns name)) (slice_empty a block));
    }

module _ {block w ns name : List ℕ} {a : ℕ} {s : State} {r : Reading} {t : ℕ} (q : Fed block a s w ns name r t) where
  pub fed_more : {w' ns' name' : List ℕ} {r' : Reading} → t < length block → (get_or block t 0 ≡ 10 → ⊥) → length w' ≡ length w → length ns' ≡ length ns
      → length name' ≡ length name → state_of r' w' ns' name' ≡ step (state_of r w ns name) (get_or block t 0) → Fed block a s w' ns' name' r' (t + 1)
  fed_more l other e f g is =
      record {
        forward = omega (arith, q.forward);
        inside = omega arith;
        none = below_more (λ i. a ≤ i → get_or block i 0 ≡ 10 → ⊥) t q.none (λ _ n. other n);
        word_room = e ∙ q.word_room;
        number_room = f ∙ q.number_room;
        name_room = g ∙ q.name_room;
        state =
            is
            ∙ ap (λ (x : State). step x (get_or block t 0)) q.state
            ∙ sym (foldl-append step s (slice a t block) (get_or block t 0 ∷ []))
            ∙ ap (foldl step s) (sym (slice_more block a t q.forward l));
      }

  pub fed_to : (t < length block → get_or block t 0 ≡ 10) → ReadTo block a t
  fed_to f = record { forward = q.forward; inside = q.inside; none = λ i h l. q.none i l h; stops = f }

-- what was read before a block, and the block
pub reads_on : {r r' : Reading} {w ns name w' ns' name' : List ℕ} (bs more : List ℕ)
    → state_of r' w' ns' name' ≡ foldl step (state_of r w ns name) more → Reads bs r w ns name → Reads (bs ++ more) r' w' ns' name'
unfolding run
reads_on bs more e h = record { state = e ∙ ap (λ (s : State). foldl step s more) h.state ∙ sym (foldl-append step at_start bs more) }

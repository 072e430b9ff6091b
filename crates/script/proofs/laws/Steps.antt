-- One byte: what the code does with the lists is what the machine does with what they hold.
use Rattle.std.proofs.Common.{ℕ, ◌+◌, ◌≤◌, ◌<◌, ◌≡◌, refl, sym, ◌∙◌, Bool, true, false, cond, ◌&&◌, List, [], arith, add-one, leb, ltb, eqb, length, take, get_or, set, length-take-le, take_all, take-suc, take-suc-set, get_or-set_same, ne_eqb, leb-true, leb-false, lt-ltb, le-ltb, ⊎_elim}
use Rattle.std.proofs.Math.Option.{none, some}
use Rattle.std.proofs.Math.Seq.{take-set-le}
use Rattle.geom.proofs.basics.Tests.{lt_or_le}
use Rattle.script.specs.Kind as Kind
use Rattle.script.specs.Script.{name_next}
use Rattle.script.specs.Machine.{State, at_start, spaces, in_word, between, in_number, in_name, after_name, in_comment, spoiled, digit, may_follow, longer, named, space, letter, step}

-- A number -------------------------------------------------------------------------------------------------------------

module _ (k : ℕ) (ns : List ℕ) (n : ℕ) (room : length ns ≡ 384006) where
  has_room : n < 384006 → ltb (length (take n ns)) 384006 ≡ true
  has_room h = rw (length-take-le n ns (omega arith)) (lt-ltb n 384006 h)

  no_room : 384006 ≤ n → ltb (length (take n ns)) 384006 ≡ false
  no_room h = rw (take_all n ns (omega arith)) (le-ltb (length ns) 384006 (omega arith))

  pub longer_full : (v b : ℕ) → 384006 ≤ n → longer k (take n ns) v b ≡ spoiled
  longer_full v b h = rw (no_room h)

  pub longer_bad : (v b : ℕ) → n < 384006 → digit (some v) b ≡ none → longer k (take n ns) v b ≡ spoiled
  longer_bad v b h e = rw (has_room h, e)

  pub longer_good : (v b x : ℕ) → n < 384006 → digit (some v) b ≡ some x
      → in_number k (take n (set ns n x)) (get_or (set ns n x) n 0) ≡ longer k (take n ns) v b
  longer_good v b x h e = rw (has_room h, e, take-set-le n ns n x (omega arith), get_or-set_same ns n x 0 (omega arith))

  pub from_zero : (b : ℕ) → n < 384006 → longer k (take n (set ns n 0)) (get_or (set ns n 0) n 0) b ≡ longer k (take n ns) 0 b
  from_zero b h = rw (take-set-le n ns n 0 (omega arith), get_or-set_same ns n 0 0 (omega arith))

  pub number_full : (b : ℕ) → b ≡ 32 → 384006 ≤ n → step (in_number k (take n ns) (get_or ns n 0)) b ≡ spoiled
  unfolding space
  number_full b e h = rw (e, no_room h)

  pub number_ends : (b : ℕ) → b ≡ 32 → n < 384006 → between k (take (n + 1) ns) ≡ step (in_number k (take n ns) (get_or ns n 0)) b
  unfolding space
  number_ends b e h = rw (e, has_room h, add-one, take-suc ns n 0 (omega arith))

  pub number_goes_on : (v b : ℕ) → (b ≡ 32 → ⊥) → longer k (take n ns) v b ≡ step (in_number k (take n ns) v) b
  unfolding letter
  number_goes_on v b h = rw (ne_eqb b 32 h)

  -- the count that the code tests
  two : eqb (length (take n ns)) 2 ≡ eqb n 2
  two = go (leb n 384006) refl
    where
      go : (t : Bool) → leb n 384006 ≡ t → eqb (length (take n ns)) 2 ≡ eqb n 2
      go true e = rw (length-take-le n ns (omega (arith, leb-true n 384006 e)))
      go false e =
          let l : 384006 < n = leb-false n 384006 e in
          rw (take_all n ns (omega arith), ne_eqb n 2 (λ f. omega arith), ne_eqb (length ns) 2 (λ f. omega arith))

  module _ {t : Bool} (asked : t ≡ eqb k Kind.picture && eqb n 2) where
    next_is : t ≡ name_next k (take n ns)
    next_is = asked ∙ rw two

    pub name_begins : (b : ℕ) → (b ≡ 32 → ⊥) → t ≡ true → named k (take n ns) [] b ≡ step (between k (take n ns)) b
    unfolding letter
    name_begins b h e = rw (ne_eqb b 32 h, sym next_is ∙ e)

    pub number_begins : (b : ℕ) → (b ≡ 32 → ⊥) → t ≡ false → longer k (take n ns) 0 b ≡ step (between k (take n ns)) b
    unfolding letter
    number_begins b h e = rw (ne_eqb b 32 h, sym next_is ∙ e)

-- A name ---------------------------------------------------------------------------------------------------------------

module _ (k : ℕ) (ns name : List ℕ) (at b : ℕ) (room : length name ≡ 64) where
  pub name_full : 64 ≤ at → named k ns (take at name) b ≡ spoiled
  unfolding may_follow
  name_full h = rw (take_all at name (omega arith), le-ltb (length name) 64 (omega arith))

  module _ (h : at < 64) {t : Bool} (asked : t ≡ may_follow at b) where
    pub name_longer : t ≡ true → in_name k ns (take (at + 1) (set name at b)) ≡ named k ns (take at name) b
    name_longer e =
        rw (length-take-le at name (omega arith), sym asked ∙ e, add-one, take-suc-set name at b (omega arith))

    pub name_bad : t ≡ false → named k ns (take at name) b ≡ spoiled
    name_bad e = rw (length-take-le at name (omega arith), sym asked ∙ e)

-- a byte that may not stand there
pub name_no : (k : ℕ) (ns name : List ℕ) (at b : ℕ) → length name ≡ 64 → {t : Bool} → t ≡ may_follow at b → t ≡ false → named k ns (take at name) b ≡ spoiled
name_no k ns name at b room asked e =
    ⊎_elim (λ h. name_bad k ns name at b room h asked e) (λ h. name_full k ns name at b room h) (lt_or_le at 64)

pub name_goes_on : (k : ℕ) (ns name : List ℕ) (b : ℕ) → (b ≡ 32 → ⊥) → named k ns name b ≡ step (in_name k ns name) b
unfolding letter
name_goes_on k ns name b h = rw (ne_eqb b 32 h)

pub name_ends : (k : ℕ) (ns name : List ℕ) (b : ℕ) → b ≡ 32 → after_name k ns name ≡ step (in_name k ns name) b
unfolding space
name_ends k ns name b e = rw e

pub after_space : (k : ℕ) (ns name : List ℕ) (b : ℕ) → b ≡ 32 → after_name k ns name ≡ step (after_name k ns name) b
unfolding space
after_space k ns name b e = rw e

pub after_letter : (k : ℕ) (ns name : List ℕ) (b : ℕ) → (b ≡ 32 → ⊥) → spoiled ≡ step (after_name k ns name) b
unfolding letter
after_letter k ns name b h = rw (ne_eqb b 32 h)

-- The first word -------------------------------------------------------------------------------------------------------

module _ (w : List ℕ) (at b : ℕ) (room : length w ≡ 16) where
  pub word_full : 16 ≤ at → letter (in_word (take at w)) b ≡ spoiled
  unfolding letter
  word_full h = rw (take_all at w (omega arith), le-ltb (length w) 16 (omega arith))

  pub word_longer : at < 16 → in_word (take (at + 1) (set w at b)) ≡ letter (in_word (take at w)) b
  unfolding letter
  word_longer h =
      rw (length-take-le at w (omega arith), lt-ltb at 16 h, add-one, take-suc-set w at b (omega arith))

pub a_letter : (s : State) (b : ℕ) → (b ≡ 32 → ⊥) → letter s b ≡ step s b
a_letter s b h = rw (ne_eqb b 32 h)

pub a_space : (s : State) (b : ℕ) → b ≡ 32 → space s ≡ step s b
a_space s b e = rw e

pub no_comment : (b : ℕ) → (b ≡ 35 → ⊥) → step spaces b ≡ step at_start b
unfolding space letter
no_comment b h = rw (ne_eqb b 35 h)

-- a comment and a malformed line
pub stays : (b : ℕ) → (in_comment ≡ step in_comment b) × (spoiled ≡ step spoiled b)
unfolding space letter
stays b = go (eqb b 32)
  where
    go : (t : Bool) → (in_comment ≡ cond t (space in_comment) (letter in_comment b)) × (spoiled ≡ cond t (space spoiled) (letter spoiled b))
    go true = (refl, refl)
    go false = (refl, refl)

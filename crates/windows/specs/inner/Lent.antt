-- The first two questions of a call that is lent the store and names a window.
use Rattle.std.specs.Prelude.{ℕ, ◌*◌, ◌≡◌, Bool, true, ◌&&◌, List, ◌∷◌, eqb, ltb, Result, Ok, Err}
use Rattle.geom.specs.declared.refusal.Refusal.{Refusal}
use Rattle.geom.specs.Refusals.{number}
use Rattle.geom.specs.Questions.{Question, ◌is◌, asked}

-- 1 and 3, of a store of `len` pixels, then others
abbrev pub questions : ℕ → Bool → ℕ → ℕ → List Question → List Question
questions id used c len rest = (1 is eqb len (16 * c)) ∷ (3 is (ltb id 16 && used)) ∷ rest

-- both are answered yes, and the pixels of window id begin at its number times C
pub record Begins (id : ℕ) (used : Bool) (c len base : ℕ) : Type 0 where
  pub whole : len ≡ 16 * c
  pub in_use : ltb id 16 && used ≡ true
  pub begins : base ≡ id * c

-- or one is answered no, and that is the answer whatever is asked after it
abbrev pub BeginsAt : ℕ → Bool → ℕ → ℕ → Result ℕ Refusal → Type 0
BeginsAt id used c len (Ok base) = Begins id used c len base
BeginsAt id used c len (Err refusal) = (rest : List Question) → asked (questions id used c len rest) ≡ number refusal

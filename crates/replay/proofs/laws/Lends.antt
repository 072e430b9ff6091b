-- The lines that say how much is lent: their kinds, and what is beyond the program's limits.
use Rattle.std.proofs.Common.{ℕ, ◌<◌, ◌≡◌, refl, subst, List, [], ◌∷◌, Bool, true, false}
use Rattle.std.specs.Prelude.{◌||◌, eqb}
use mathlib.Core.Logic.{◌⊎◌, inl, inr}
use borrow.Author.Tests.{eqb-true}
use Rattle.script.specs.Kind as Kind
use Rattle.script.specs.Kind.{code_of}
use Rattle.script.specs.declared.kind.Kind.{Kind as AKind}
use Rattle.script.specs.declared.kind.Kind.TheVariants as kind
use Rattle.bare_lines.specs.Numbers.{num}
use Rattle.replay.specs.declared.player.Player.{Player}
use Rattle.replay.specs.Called.{is_one, is_lend, most_lent}
use Rattle.replay.specs.Played.{Beyond, no_store, no_screen, no_list, no_target, no_sheet}
use Rattle.replay.proofs.laws.Arms.{apart}

abbrev Among : ℕ → List ℕ → Type 0
Among k [] = ⊥
Among k (j ∷ js) = (k ≡ j) ⊎ Among k js

among : (k : ℕ) (js : List ℕ) → is_one k js ≡ true → Among k js
among k [] e = cc
among k (j ∷ js) e = go (eqb k j) refl e (among k js)
  where
    go : (t : Bool) → eqb k j ≡ t → t || is_one k js ≡ true → (is_one k js ≡ true → Among k js) → Among k (j ∷ js)
    go true d h f = inl (eqb-true k j d)
    go false d h f = inr (f h)

abbrev kinds_lent : List ℕ
kinds_lent = Kind.lend ∷ Kind.lend_screen ∷ Kind.lend_list ∷ Kind.lend_target ∷ Kind.lend_sheet ∷ []

beyond_of : (k : ℕ) (ns : List ℕ) (p : Player) → Among k kinds_lent → most_lent k < num ns 0 → Beyond k ns p
beyond_of k ns p (inl e) h = no_store e (subst (λ (j : ℕ). most_lent j < num ns 0) e h)
beyond_of k ns p (inr (inl e)) h = no_screen e (subst (λ (j : ℕ). most_lent j < num ns 0) e h)
beyond_of k ns p (inr (inr (inl e))) h = no_list e (subst (λ (j : ℕ). most_lent j < num ns 0) e h)
beyond_of k ns p (inr (inr (inr (inl e)))) h = no_target e (subst (λ (j : ℕ). most_lent j < num ns 0) e h)
beyond_of k ns p (inr (inr (inr (inr (inl e))))) h = no_sheet e (subst (λ (j : ℕ). most_lent j < num ns 0) e h)
beyond_of k ns p (inr (inr (inr (inr (inr e))))) h = absurd e

pub too_much : (k : ℕ) (ns : List ℕ) (p : Player) → is_lend k ≡ true → most_lent k < num ns 0 → Beyond k ns p
too_much k ns p e h = beyond_of k ns p (among k kinds_lent e) h

pub sheet_left : (k : AKind) → is_lend (code_of k) ≡ true → (k ≡ kind.Lend → ⊥) → (k ≡ kind.LendScreen → ⊥) → (k ≡ kind.LendList → ⊥)
    → (k ≡ kind.LendTarget → ⊥) → code_of k ≡ Kind.lend_sheet
sheet_left k e a b c d = go (among (code_of k) kinds_lent e)
  where
    go : Among (code_of k) kinds_lent → code_of k ≡ Kind.lend_sheet
    go (inl h) = absurd (apart a h)
    go (inr (inl h)) = absurd (apart b h)
    go (inr (inr (inl h))) = absurd (apart c h)
    go (inr (inr (inr (inl h)))) = absurd (apart d h)
    go (inr (inr (inr (inr (inl h))))) = h
    go (inr (inr (inr (inr (inr h))))) = absurd h

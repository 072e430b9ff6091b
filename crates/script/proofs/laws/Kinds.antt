-- The rows of the tables: what the search has passed gives no kind, and a word of 17 letters has none.
use Rattle.std.proofs.Common.{ℕ, suc, ◌+◌, ◌≤◌, ◌<◌, ◌≡◌, refl, sym, ap, ◌-◌, ◌∙◌, arith, min, Bool, true, false, cond, ◌&&◌, List, [], ◌∷◌, length, take, leb, eqb, eqb-true, eq-eqb, leb-true, leb-false, le-leb}
use Rattle.std.proofs.lemmas.List.{take_all}
use Rattle.std.specs.Prelude as Std
use Rattle.std.specs.Prelude.{Some, None, find}
use Rattle.std.proofs.Math.Option.{Option, none, some}
use lib.Pointwise.{pointwise}
use denote.Enum.Bare.{sameb, same_true}
use denote.Enum.Declared.{tag_of}
use Rattle.std.proofs.lemmas.Bool.{lt-leb}
use Rattle.geom.proofs.basics.Tests.{fst, snd, clash, is_false, says_le, same}
use Rattle.geom.proofs.basics.Tables.{every}
use Rattle.script.specs.contracts.kind.Kind.{the_type}
use Rattle.script.specs.declared.kind.Kind.{Kind as AKind}
use Rattle.script.specs.declared.kind.Kind.TheVariants as kind
use Rattle.script.specs.Kind as Kind
use Rattle.script.specs.Kind.{code_of}
use Rattle.script.specs.Script.{Row, table, same_word, kind_in, kind_of, row_in, counted_by, counted}
use Rattle.script.specs.inner.Table.{Held, row_of, rows_of}

-- Tests that are the same ----------------------------------------------------------------------------------------------

pub same_is : (v w : List ℕ) → same_word v w ≡ true → v ≡ w
same_is [] [] e = refl
same_is [] (y ∷ ys) e = clash e refl
same_is (x ∷ xs) [] e = clash e refl
same_is (x ∷ xs) (y ∷ ys) e =
    let h : x ≡ y = eqb-true x y (fst (eqb x y) (same_word xs ys) e) in
    let t : xs ≡ ys = same_is xs ys (snd (eqb x y) (same_word xs ys) e) in
    cc

same_words : (v w : List ℕ) → pointwise eqb v w ≡ same_word v w
same_words [] [] = refl
same_words [] (y ∷ ys) = refl
same_words (x ∷ xs) [] = refl
same_words (x ∷ xs) (y ∷ ys) = ap (λ (t : Bool). eqb x y && t) (same_words xs ys)

tag_is : (k : AKind) → tag_of the_type k ≡ code_of k
tag_is kind.Passed = refl
tag_is kind.Malformed = refl
tag_is kind.Start = refl
tag_is kind.Create = refl
tag_is kind.Show = refl
tag_is kind.Hide = refl
tag_is kind.Drop = refl
tag_is kind.Mark = refl
tag_is kind.Move = refl
tag_is kind.Resize = refl
tag_is kind.Fill = refl
tag_is kind.Blit = refl
tag_is kind.KeyDown = refl
tag_is kind.KeyUp = refl
tag_is kind.KeyFire = refl
tag_is kind.Text = refl
tag_is kind.MouseMove = refl
tag_is kind.MouseDown = refl
tag_is kind.MouseUp = refl
tag_is kind.MouseClick = refl
tag_is kind.Resized = refl
tag_is kind.Pop = refl
tag_is kind.Redraw = refl
tag_is kind.Visible = refl
tag_is kind.Focus = refl
tag_is kind.Lend = refl
tag_is kind.LendScreen = refl
tag_is kind.LendList = refl
tag_is kind.Screen = refl
tag_is kind.Pixels = refl
tag_is kind.Picture = refl
tag_is kind.Intersect = refl
tag_is kind.Pieces = refl
tag_is kind.Union = refl
tag_is kind.Contains = refl
tag_is kind.ContainsRect = refl
tag_is kind.Within = refl
tag_is kind.Scanline = refl
tag_is kind.FillScanline = refl
tag_is kind.SetScanline = refl
tag_is kind.Region = refl
tag_is kind.Begin = refl
tag_is kind.Portion = refl
tag_is kind.Busiest = refl
tag_is kind.Share = refl
tag_is kind.Hits = refl
tag_is kind.Dim = refl
tag_is kind.Layer = refl
tag_is kind.Look = refl
tag_is kind.LookFit = refl
tag_is kind.LendTarget = refl
tag_is kind.Display = refl
tag_is kind.DisplayAt = refl
tag_is kind.Maximise = refl
tag_is kind.UpdateDims = refl
tag_is kind.Sheet = refl
tag_is kind.ReadSheet = refl
tag_is kind.LendSheet = refl
tag_is kind.Raise = refl
tag_is kind.Drag = refl
tag_is kind.Stale = refl
tag_is kind.Waiting = refl
tag_is kind.Window = refl
tag_is kind.Session = refl
tag_is kind.Who = refl

pub same_kinds : (k j : AKind) → sameb the_type k j ≡ eqb (code_of k) (code_of j)
same_kinds k j = rw (tag_is k, tag_is j)

-- a kind that is another has another number
pub other_kind : (k j : AKind) → (k ≡ j → ⊥) → eqb (code_of k) (code_of j) ≡ false
other_kind k j n = is_false (λ e. n (same_true the_type tt k j (same_kinds k j ∙ e)))

-- a kind is told by its number
pub code_one : (k j : AKind) → code_of k ≡ code_of j → k ≡ j
code_one k j e = same_true the_type tt k j (same_kinds k j ∙ eq-eqb (code_of k) (code_of j) e)

-- The search -----------------------------------------------------------------------------------------------------------

abbrev kind_or : Std.Option Held → ℕ
kind_or None = Kind.malformed
kind_or (Some r) = code_of r.1

kind_search : (w : List ℕ) (rows : List Held) → kind_in w (rows_of rows) ≡ kind_or (find (λ r. pointwise eqb w r.0.now) rows)
kind_search w [] = refl
kind_search w (r ∷ rows) = rw (same_words w r.0.now) (go (same_word w r.0.now) (kind_search w rows))
  where
    go : (t : Bool) → kind_in w (rows_of rows) ≡ kind_or (find (λ q. pointwise eqb w q.0.now) rows)
        → cond t (code_of r.1) (kind_in w (rows_of rows)) ≡ kind_or (cond t (Some r) (find (λ q. pointwise eqb w q.0.now) rows))
    go true e = refl
    go false e = e

-- what a search for a word has found
pub word_found : (w : List ℕ) (rows : List Held) (o : Std.Option Held) → o ≡ find (λ r. pointwise eqb w r.0.now) rows → kind_or o ≡ kind_in w (rows_of rows)
word_found w rows o e = ap kind_or e ∙ sym (kind_search w rows)

abbrev row_or : Std.Option Held → Option Row
row_or None = none
row_or (Some r) = some (row_of r)

row_search : (k : AKind) (rows : List Held) → row_in (code_of k) (rows_of rows) ≡ row_or (find (λ r. sameb the_type k r.1) rows)
row_search k [] = refl
row_search k (r ∷ rows) = rw (same_kinds k r.1) (go (eqb (code_of k) (code_of r.1)) (row_search k rows))
  where
    go : (t : Bool) → row_in (code_of k) (rows_of rows) ≡ row_or (find (λ q. sameb the_type k q.1) rows)
        → cond t (some (row_of r)) (row_in (code_of k) (rows_of rows)) ≡ row_or (cond t (Some r) (find (λ q. sameb the_type k q.1) rows))
    go true e = refl
    go false e = e

-- what a search for a kind has found
module _ (k : AKind) (rows : List Held) (n : ℕ) where
  pub row_found : (o : Std.Option Held) → o ≡ find (λ r. sameb the_type k r.1) rows → counted_by (row_or o) n ≡ counted_by (row_in (code_of k) (rows_of rows)) n
  row_found o e = ap (λ (r : Option Row). counted_by r n) (ap row_or e ∙ sym (row_search k rows))

  pub too_few : (r : Held) → Some r ≡ find (λ q. sameb the_type k q.1) rows → n < r.2 → leb r.2 n ≡ counted_by (row_in (code_of k) (rows_of rows)) n
  too_few r e h = rw (lt-leb r.2 n h) (rw (lt-leb r.2 n h) at (row_found (Some r) e))

  pub enough : (r : Held) → Some r ≡ find (λ q. sameb the_type k q.1) rows → r.2 ≤ n → leb (n - r.2) r.3 ≡ counted_by (row_in (code_of k) (rows_of rows)) n
  enough r e h =
      same (says_le (n - r.2) r.3) (says_le n (r.2 + r.3)) (λ m. omega arith) (λ m. omega arith) ∙ (rw (le-leb r.2 n h) at (row_found (Some r) e))

-- the letters of a word are no more than it has
pub take_min : {A : Type 0} (n : ℕ) (l : List A) → take (min n (length l)) l ≡ take n l
take_min n l = go (leb n (length l)) refl
  where
    go : (t : Bool) → leb n (length l) ≡ t → take (min n (length l)) l ≡ take n l
    go true h =
        let m : min n (length l) ≡ n = omega (arith, leb-true n (length l) h) in
        rw m
    go false h =
        let m : min n (length l) ≡ length l = omega (arith, leb-false n (length l) h) in
        rw m (take_all (length l) l (omega arith) ∙ sym (take_all n l (omega (arith, leb-false n (length l) h))))

-- The tables -----------------------------------------------------------------------------------------------------------

-- a row of the tables with so many numbers
pub record Found (f : Row → Bool) (k n : ℕ) : Type 0 where
  pub row : Row
  pub kind : k ≡ row.kind
  pub passes : f row ≡ true
  pub numbers : counted_by (some row) n ≡ true

found_in : (f : Row → Bool) (rs : List Row) (i : ℕ) → every (λ _. f) i rs ≡ true → (k n : ℕ) → counted_by (row_in k rs) n ≡ true → Found f k n
found_in f [] i t k n c = clash c refl
found_in f (r ∷ rs) i t k n c = go (eqb k r.kind) refl c (found_in f rs (suc i) (snd (f r) _ t) k n)
  where
    go : (u : Bool) → eqb k r.kind ≡ u → counted_by (cond u (some r) (row_in k rs)) n ≡ true → (counted_by (row_in k rs) n ≡ true → Found f k n) → Found f k n
    go true e d more = record { row = r; kind = eqb-true k r.kind e; passes = fst (f r) _ t; numbers = d }
    go false e d more = more d

-- what each row of the tables passes
pub passing : (f : Row → Bool) → every (λ _. f) 0 table ≡ true → (k n : ℕ) → counted k n ≡ true → Found f k n
unfolding counted
passing f t k n c = found_in f table 0 t k n c

-- A word of more than 16 letters ---------------------------------------------------------------------------------------

abbrev short_word : ℕ → Row → Bool
short_word _ r = leb (length r.word) 16

long : (w : List ℕ) (rs : List Row) (k : ℕ) → every short_word k rs ≡ true → 16 < length w → kind_in w rs ≡ Kind.malformed
long w [] k e h = refl
long w (r ∷ rs) k e h =
    let s : length r.word ≤ 16 = leb-true (length r.word) 16 (fst (short_word k r) (every short_word (suc k) rs) e) in
    let d : same_word w r.word ≡ false = is_false (λ y. omega (arith, ap length (same_is w r.word y))) in
    rw d (long w rs (suc k) (snd (short_word k r) (every short_word (suc k) rs) e) h)

pub long_unknown : (w : List ℕ) → 16 < length w → kind_of w ≡ Kind.malformed
unfolding kind_of table
long_unknown w h = long w table 0 refl h

-- CALL-SCRIPT.md, "Lines": what the bytes of a line mean. A byte is a number: a space is 32, `#` is 35, the digits are 48 to 57.
use Rattle.std.specs.Prelude.{ℕ, ◌+◌, ◌*◌, ◌-◌, ◌≤◌, ◌<◌, Bool, true, false, cond, not, ◌&&◌, ◌||◌, ◌≡◌, leb, ltb, eqb, length, take, get_or}
use Prim.Native.String.{String}
use mathlib.Core.List.{List, [], ◌∷◌, ◌++◌, foldl}
use Rattle.std.proofs.Math.Option.{Option, none, some}
use Rattle.script.specs.Text.{bytes}
use Rattle.script.specs.Kind as Kind
use Rattle.script.specs.Kind.{code_of}
use Rattle.script.specs.declared.shape.Line.{Line}

-- Words ---------------------------------------------------------------------------------------------------------------

-- the words that have ended, and the letters of the one that has not; none of them: the last byte was a space, or there is none
pub record Cutting : Type 0 where
  pub ended : List (List ℕ)
  pub letters : List ℕ

-- the words so far, with the one that has not ended
abbrev pub closed : List (List ℕ) → List ℕ → List (List ℕ)
closed ws [] = ws
closed ws (b ∷ bs) = ws ++ ((b ∷ bs) ∷ [])

-- "Words are separated by one or more spaces; spaces before the first and after the last are passed over."
abbrev pub with_space : Cutting → Cutting
with_space s = record { ended = closed s.ended s.letters; letters = [] }

abbrev pub with_letter : Cutting → ℕ → Cutting
with_letter s b = record { ended = s.ended; letters = s.letters ++ (b ∷ []) }

abbrev pub cut : Cutting → ℕ → Cutting
cut s b = cond (eqb b 32) (with_space s) (with_letter s b)

unfoldable pub split : List ℕ → Cutting
split bs = foldl cut (record { ended = []; letters = [] }) bs

unfoldable pub words : List ℕ → List (List ℕ)
words bs = closed (split bs).ended (split bs).letters

-- Numbers and names ---------------------------------------------------------------------------------------------------

abbrev pub is_digit : ℕ → Bool
is_digit b = leb 48 b && leb b 57

-- every one of a list passes a test
abbrev pub all : (ℕ → Bool) → List ℕ → Bool
all p [] = true
all p (b ∷ bs) = p b && all p bs

abbrev pub is_byte : ℕ → Bool
is_byte n = leb n 255

-- what the digits of a word say
unfoldable pub value : List ℕ → ℕ
value w = foldl (λ n b. n * 10 + (b - 48)) 0 w

-- "A number is decimal digits, 0 to 4294967295, leading zeros allowed; a larger one, a sign or any other character makes the line
-- malformed."
unfoldable pub number : List ℕ → Option ℕ
number w = cond (all is_digit w && leb (value w) 4294967295) (some (value w)) none

-- "letters, digits, `-`, `_`, `.`"
unfoldable pub name_byte : ℕ → Bool
name_byte b =
    is_digit b || (leb 65 b && leb b 90) || (leb 97 b && leb b 122) || eqb b 45 || eqb b 95 || eqb b 46

abbrev pub no_dot_first : List ℕ → Bool
no_dot_first [] = true
no_dot_first (b ∷ bs) = not (eqb b 46)

-- "1 to 64 letters, digits, `-`, `_`, `.`, the first no `.`". A word has a letter
unfoldable pub is_name : List ℕ → Bool
is_name w = leb (length w) 64 && (no_dot_first w && all name_byte w)

-- Kinds ---------------------------------------------------------------------------------------------------------------

-- a row of the tables: the word that a line begins with, the line's kind, how many numbers it has, PIXELS, DATA, points, bytes and times not counted,
-- and how many of these may follow
pub record Row : Type 0 where
  pub word : List ℕ
  pub kind : ℕ
  pub numbers : ℕ
  pub more : ℕ

abbrev pub row : String → ℕ → ℕ → Row
row w k n = record { word = bytes w; kind = k; numbers = n; more = 0 }

-- "PIXELS and DATA are at most 4,096 numbers together"; "0 to 4,096 numbers, x and y in turn"; "0 to 4,096 numbers, each 0 to 255"
abbrev pub row_more : String → ℕ → ℕ → Row
row_more w k n = record { word = bytes w; kind = k; numbers = n; more = 4096 }

-- "DATA is 0 to 384,000 numbers"
abbrev pub row_blit : String → ℕ → ℕ → Row
row_blit w k n = record { word = bytes w; kind = k; numbers = n; more = 384000 }

-- "0 to 4,200 times"
abbrev pub row_times : String → ℕ → Row
row_times w k = record { word = bytes w; kind = k; numbers = 0; more = 4200 }

unfoldable pub table : List Row
table =
    row "start" Kind.start 1
    ∷ row "create" Kind.create 0
    ∷ row "show" Kind.show 1
    ∷ row "hide" Kind.hide 1
    ∷ row "drop" Kind.drop 1
    ∷ row "mark" Kind.mark 1
    ∷ row "move" Kind.move 3
    ∷ row "resize" Kind.resize 3
    ∷ row "fill" Kind.fill 6
    ∷ row_blit "blit" Kind.blit 6
    ∷ row "keydown" Kind.keydown 1
    ∷ row "keyup" Kind.keyup 1
    ∷ row "keyfire" Kind.keyfire 1
    ∷ row "text" Kind.text 1
    ∷ row "mousemove" Kind.mousemove 2
    ∷ row "mousedown" Kind.mousedown 3
    ∷ row "mouseup" Kind.mouseup 3
    ∷ row "mouseclick" Kind.mouseclick 4
    ∷ row "resized" Kind.resized 0
    ∷ row "pop" Kind.pop 1
    ∷ row "redraw" Kind.redraw 3
    ∷ row "visible" Kind.visible 1
    ∷ row "focus" Kind.focus 0
    ∷ row "lend" Kind.lend 1
    ∷ row "lend-screen" Kind.lend_screen 1
    ∷ row "lend-list" Kind.lend_list 1
    ∷ row "screen" Kind.screen 2
    ∷ row "pixels" Kind.pixels 1
    ∷ row "picture" Kind.picture 2
    ∷ row "intersect" Kind.intersect 8
    ∷ row "pieces" Kind.pieces 8
    ∷ row "union" Kind.union 8
    ∷ row "contains" Kind.contains 6
    ∷ row "contains-rect" Kind.contains_rect 8
    ∷ row "within" Kind.within 6
    ∷ row_more "scanline" Kind.scanline 5
    ∷ row_more "fill-scanline" Kind.fill_scanline 6
    ∷ row_more "set-scanline" Kind.set_scanline 6
    ∷ row_more "region" Kind.region 5
    ∷ row "begin" Kind.begin 1
    ∷ row "portion" Kind.portion 2
    ∷ row_times "busiest" Kind.busiest
    ∷ row "share" Kind.share 1
    ∷ row_more "hits" Kind.hits 0
    ∷ row "dim" Kind.dim 1
    ∷ row "layer" Kind.layer 2
    ∷ row "look" Kind.look 9
    ∷ row "look-fit" Kind.look_fit 7
    ∷ row "lend-target" Kind.lend_target 1
    ∷ row "display" Kind.display 4
    ∷ row "display-at" Kind.display_at 2
    ∷ row "maximise" Kind.maximise 1
    ∷ row "update-dims" Kind.update_dims 0
    ∷ row "sheet" Kind.sheet 1
    ∷ row_more "read-sheet" Kind.read_sheet 0
    ∷ row "lend-sheet" Kind.lend_sheet 1
    ∷ row "raise" Kind.raise 1
    ∷ row "drag" Kind.drag 3
    ∷ row "stale" Kind.stale 5
    ∷ row "waiting" Kind.waiting 0
    ∷ row "window" Kind.window 1
    ∷ row "session" Kind.session 0
    ∷ row "who" Kind.who 5
    ∷ []

abbrev pub same_word : List ℕ → List ℕ → Bool
same_word [] [] = true
same_word [] (y ∷ ys) = false
same_word (x ∷ xs) [] = false
same_word (x ∷ xs) (y ∷ ys) = eqb x y && same_word xs ys

-- the kind of the row that has the word; "unknown word"
abbrev pub kind_in : List ℕ → List Row → ℕ
kind_in w [] = Kind.malformed
kind_in w (r ∷ rs) = cond (same_word w r.word) r.kind (kind_in w rs)

unfoldable pub kind_of : List ℕ → ℕ
kind_of w = kind_in w table

-- the row of a kind
abbrev pub row_in : ℕ → List Row → Option Row
row_in k [] = none
row_in k (r ∷ rs) = cond (eqb k r.kind) (some r) (row_in k rs)

-- "too few or too many numbers"; "more make the line malformed"
abbrev pub counted_by : Option Row → ℕ → Bool
counted_by none n = false
counted_by (some r) n = leb r.numbers n && leb n (r.numbers + r.more)

unfoldable pub counted : ℕ → ℕ → Bool
counted k n = counted_by (row_in k table) n

-- `who KIND A B C D`: "KIND is 1 Resize, … 9 MouseUp, else malformed"; "C is the button and D the count, each 0 to 255,
-- else malformed, of every kind"
unfoldable pub is_event : List ℕ → Bool
is_event ns = leb 1 (get_or ns 0 0) && (leb (get_or ns 0 0) 9 && (leb (get_or ns 3 0) 255 && leb (get_or ns 4 0) 255))

-- "B is 0 to 255, else malformed", "B and N are 0 to 255", "FULL is 0 or 1, else malformed", `dim`'s "B is 0 or 1, else malformed",
-- "N is how many DATA come"; "each 0 to 255, else malformed"
unfoldable pub ranged : ℕ → ℕ → List ℕ → Bool
ranged k n ns =
    cond (eqb k Kind.mousedown) (leb (get_or ns 2 0) 255)
    (cond (eqb k Kind.mouseup) (leb (get_or ns 2 0) 255)
    (cond (eqb k Kind.mouseclick) (leb (get_or ns 2 0) 255 && leb (get_or ns 3 0) 255)
    (cond (eqb k Kind.redraw) (leb (get_or ns 0 0) 1)
    (cond (eqb k Kind.begin) (leb (get_or ns 0 0) 1)
    (cond (eqb k Kind.dim) (leb (get_or ns 0 0) 1)
    (cond (eqb k Kind.set_scanline) (leb (6 + get_or ns 5 0) n)
    (cond (eqb k Kind.read_sheet) (all is_byte (take n ns))
    (cond (eqb k Kind.who) (is_event ns) true))))))))

-- a `picture` has a name, and no other line has
unfoldable pub name_fits : ℕ → ℕ → Bool
name_fits k m = cond (eqb k Kind.picture) (ltb 0 m) (eqb m 0)

unfoldable pub accepts : ℕ → List ℕ → List ℕ → Bool
accepts k ns name = counted k (length ns) && ranged k (length ns) ns && name_fits k (length name)

-- A line --------------------------------------------------------------------------------------------------------------

-- what is heard of a line: nothing, that it is malformed, or a call with its kind, its numbers and the name of a picture
pub data Heard : Type 0 where
  silent : Heard
  malformed : Heard
  call : ℕ → List ℕ → List ℕ → Heard

abbrev pub begun : ℕ → Heard
begun k = cond (eqb k Kind.malformed) malformed (call k [] [])

abbrev pub with_number : ℕ → List ℕ → Option ℕ → Heard
with_number k ns none = malformed
with_number k ns (some n) = call k (ns ++ (n ∷ [])) []

-- there is one name
abbrev pub with_name : ℕ → List ℕ → List ℕ → List ℕ → Heard
with_name k ns [] w = cond (is_name w) (call k ns w) malformed
with_name k ns (b ∷ bs) w = malformed

-- `picture W H NAME`: the word after two numbers is a name
abbrev pub name_next : ℕ → List ℕ → Bool
name_next k ns = eqb k Kind.picture && eqb (length ns) 2

-- what is heard with one word more
unfoldable pub with_word : Heard → List ℕ → Heard
with_word silent w = begun (kind_of w)
with_word malformed w = malformed
with_word (call k ns name) w = cond (name_next k ns) (with_name k ns name w) (with_number k ns (number w))

-- "unknown word, too few or too many numbers, no number where one stands below, spaces alone"
unfoldable pub complete : Heard → Heard
complete silent = malformed
complete malformed = malformed
complete (call k ns name) = cond (accepts k ns name) (call k ns name) malformed

-- "An empty line and a line whose first character is `#` are passed over"
unfoldable pub hears : List ℕ → Heard
hears [] = silent
hears (b ∷ bs) = cond (eqb b 35) silent (complete (foldl with_word silent (words (b ∷ bs))))

-- What a program is handed --------------------------------------------------------------------------------------------

-- what a line says, with the numbers and the name that were read
unfoldable pub heard_of : Line → List ℕ → List ℕ → Heard
heard_of l ns name =
    cond (eqb (code_of l.kind) Kind.passed) silent
    (cond (eqb (code_of l.kind) Kind.malformed) malformed (call (code_of l.kind) (take l.count ns) (take l.name name)))

-- what a program may rely on of any line: of its kind k, its n numbers, the m bytes of its name, and the numbers
pub record Shaped (k n m : ℕ) (ns : List ℕ) : Type 0 where
  pub few : n ≤ 384006
  pub named : m ≤ 64
  pub kinds : k ≤ Kind.last
  pub blit : k ≡ Kind.blit → 6 ≤ n
  pub scan : k ≡ Kind.scanline → 5 ≤ n
  pub fills : k ≡ Kind.fill_scanline → 6 ≤ n
  pub sets : k ≡ Kind.set_scanline → (6 ≤ n) × (6 + get_or ns 5 0 ≤ n) × (n ≤ 4102)
  pub rgn : k ≡ Kind.region → 5 ≤ n
  pub down : k ≡ Kind.mousedown → get_or ns 2 0 ≤ 255
  pub up : k ≡ Kind.mouseup → get_or ns 2 0 ≤ 255
  pub click : k ≡ Kind.mouseclick → (get_or ns 2 0 ≤ 255) × (get_or ns 3 0 ≤ 255)
  pub forced : k ≡ Kind.redraw → get_or ns 0 0 ≤ 1
  pub who : k ≡ Kind.who → (1 ≤ get_or ns 0 0) × (get_or ns 0 0 ≤ 9) × (get_or ns 3 0 ≤ 255) × (get_or ns 4 0 ≤ 255)
  pub bytes : k ≡ Kind.read_sheet → (n ≤ 4096) × ((i : ℕ) → i < n → get_or ns i 0 ≤ 255)

-- The machine says of a line what the line means. Between two bytes its state agrees with the words so far (`Agrees`); where it is spoiled,
-- the line is malformed whatever follows.
use Rattle.std.proofs.Common.{ℕ, ◌<◌, ◌≡◌, refl, sym, ap, subst, ◌∙◌, Bool, true, false, cond, List, [], ◌∷◌, ◌++◌, append_assoc, append-nil, not-suc-le-zero, arith, ltb, eqb, length, length-append, eqb-true, ne_eqb, ltb-false}
use Rattle.std.proofs.Math.Bool.{and-false}
use mathlib.Core.List.{foldl, foldl-append}
use Rattle.std.proofs.Math.Option.{Option, none, some}
use Rattle.std.proofs.lemmas.Bool.{eqb-false}
use Rattle.script.specs.declared.Reading.{Reading}
use Rattle.script.specs.declared.shape.Line.{Line}
use Rattle.geom.proofs.basics.Tests.{is_false}
use Rattle.script.specs.Kind as Kind
use Rattle.script.specs.Script.{Cutting, closed, with_space, with_letter, cut, split, words, value, number, is_name, kind_of, counted, accepts, Heard, silent, malformed, call, with_number, name_next, with_word, complete, hears, heard_of}
use Rattle.script.specs.Machine.{State, at_start, spaces, in_word, between, in_number, in_name, after_name, in_comment, spoiled, digit, may_follow, grown, longer, named, space, letter, step, run, ends, Reads, Ended}
use Rattle.script.proofs.laws.Kinds.{long_unknown}
use Rattle.script.proofs.laws.Calls.{not_over}
use Rattle.script.proofs.laws.Letters.{number_snoc, no_number, name_snoc, no_name}
use Rattle.script.proofs.laws.Steps.{no_comment}

-- What is heard so far -------------------------------------------------------------------------------------------------

-- the words that have ended, and the one that ends here
abbrev after : Heard → List ℕ → Heard
after h [] = h
after h (b ∷ w) = with_word h (b ∷ w)

after_closed : (ws : List (List ℕ)) (w : List ℕ) → foldl with_word silent (closed ws w) ≡ after (foldl with_word silent ws) w
after_closed ws [] = refl
after_closed ws (b ∷ w) = foldl-append with_word silent ws ((b ∷ w) ∷ [])

-- a line that is malformed whatever follows: of a bad word, or with too many numbers
data Lost : Heard → Type 0 where
  bad : Lost malformed
  over : (k : ℕ) (ns name : List ℕ) → 384006 < length ns → Lost (call k ns name)

lost_more : {h : Heard} → Lost h → (w : List ℕ) → Lost (with_word h w)
unfolding with_word
lost_more bad w = bad
lost_more (over k ns name l) w =
    let e : eqb (length ns) 2 ≡ false = ne_eqb (length ns) 2 (λ f. omega arith) in
    rw (e, and-false (eqb k Kind.picture)) (go (number w))
  where
    go : (o : Option ℕ) → Lost (with_number k ns o)
    go none = bad
    go (some n) = over k (ns ++ (n ∷ [])) [] (omega (arith, length-append ns (n ∷ [])))

lost_after : {h : Heard} → Lost h → (w : List ℕ) → Lost (after h w)
lost_after l [] = l
lost_after l (b ∷ w) = lost_more l (b ∷ w)

lost_is : {h : Heard} → Lost h → complete h ≡ malformed
unfolding complete accepts
lost_is bad = refl
lost_is (over k ns name l) =
    let e : counted k (length ns) ≡ false = is_false (λ t. omega (arith, not_over k (length ns) t)) in
    rw e

-- the last number of a line, or one too many
one_more : (k : ℕ) (ns : List ℕ) (n : ℕ) → ltb (length ns) 384006 ≡ false → Lost (call k (ns ++ (n ∷ [])) [])
one_more k ns n e = over k (ns ++ (n ∷ [])) [] (omega (arith, ltb-false (length ns) 384006 e, length-append ns (n ∷ [])))

-- what is heard of the words that have ended, the letters of the one that has not, and the machine's state
data Agrees : Heard → List ℕ → State → Type 0 where
  of_spaces : Agrees silent [] spaces
  of_word : (b : ℕ) (w : List ℕ) → Agrees silent (b ∷ w) (in_word (b ∷ w))
  of_between : (k : ℕ) (ns : List ℕ) → Agrees (call k ns []) [] (between k ns)
  of_number : (k : ℕ) (ns : List ℕ) (n b : ℕ) (w : List ℕ) → name_next k ns ≡ false → number (b ∷ w) ≡ some n
      → Agrees (call k ns []) (b ∷ w) (in_number k ns n)
  of_name : (k : ℕ) (ns : List ℕ) (b : ℕ) (w : List ℕ) → name_next k ns ≡ true → is_name (b ∷ w) ≡ true
      → Agrees (call k ns []) (b ∷ w) (in_name k ns (b ∷ w))
  of_after : (k : ℕ) (ns : List ℕ) (b : ℕ) (w : List ℕ) → name_next k ns ≡ true → Agrees (call k ns (b ∷ w)) [] (after_name k ns (b ∷ w))
  -- the words that have ended spoil the line
  of_lost : {h : Heard} (w : List ℕ) → Lost h → Agrees h w spoiled
  -- the word that has not does
  of_spoiled : (h : Heard) (b : ℕ) (w : List ℕ) → ((bs : List ℕ) → Lost (with_word h ((b ∷ w) ++ bs))) → Agrees h (b ∷ w) spoiled

-- A space --------------------------------------------------------------------------------------------------------------

spaced : {h : Heard} {w : List ℕ} {s : State} → Agrees h w s → Agrees (after h w) [] (space s)
unfolding space with_word
spaced of_spaces = of_spaces
spaced (of_word b w) = go (eqb (kind_of (b ∷ w)) 1)
  where
    go : (t : Bool) → Agrees (cond t malformed (call (kind_of (b ∷ w)) [] [])) [] (cond t spoiled (between (kind_of (b ∷ w)) []))
    go true = of_lost [] bad
    go false = of_between (kind_of (b ∷ w)) []
spaced (of_between k ns) = of_between k ns
spaced (of_number k ns n b w e f) = rw (e, f) (go (ltb (length ns) 384006) refl)
  where
    go : (t : Bool) → ltb (length ns) 384006 ≡ t → Agrees (call k (ns ++ (n ∷ [])) []) [] (cond t (between k (ns ++ (n ∷ []))) spoiled)
    go true d = of_between k (ns ++ (n ∷ []))
    go false d = of_lost [] (one_more k ns n d)
spaced (of_name k ns b w e f) = rw (e, f) (of_after k ns b w e)
spaced (of_after k ns b w e) = of_after k ns b w e
spaced (of_lost w l) = of_lost [] (lost_after l w)
spaced (of_spoiled h b w f) = of_lost [] (subst (λ (v : List ℕ). Lost (with_word h v)) (append-nil (b ∷ w)) (f []))

-- A letter -------------------------------------------------------------------------------------------------------------

some_letter : (w : List ℕ) (c : ℕ) → 0 < length (w ++ (c ∷ []))
some_letter w c = simp length-append (omega arith)

module _ (k : ℕ) (ns : List ℕ) where
  a_name : (w : List ℕ) → 0 < length w → name_next k ns ≡ true → is_name w ≡ true → Agrees (call k ns []) w (in_name k ns w)
  a_name [] h e f = absurd (not-suc-le-zero h)
  a_name (b ∷ w) h e f = of_name k ns b w e f

  name_lost : (w : List ℕ) → 0 < length w → name_next k ns ≡ true → is_name w ≡ false → Agrees (call k ns []) w spoiled
  unfolding with_word
  name_lost [] h e f = absurd (not-suc-le-zero h)
  name_lost (b ∷ w) h e f = of_spoiled (call k ns []) b w (λ bs. rw (e, no_name (b ∷ w) bs f) bad)

  a_number : (w : List ℕ) (n : ℕ) → 0 < length w → name_next k ns ≡ false → number w ≡ some n → Agrees (call k ns []) w (in_number k ns n)
  a_number [] n h e f = absurd (not-suc-le-zero h)
  a_number (b ∷ w) n h e f = of_number k ns n b w e f

  number_lost : (w : List ℕ) → 0 < length w → name_next k ns ≡ false → number w ≡ none → Agrees (call k ns []) w spoiled
  unfolding with_word
  number_lost [] h e f = absurd (not-suc-le-zero h)
  number_lost (b ∷ w) h e f = of_spoiled (call k ns []) b w (λ bs. rw (e, no_number (b ∷ w) bs f) bad)

  -- a number too many
  number_over : (w : List ℕ) → 0 < length w → name_next k ns ≡ false → ltb (length ns) 384006 ≡ false → Agrees (call k ns []) w spoiled
  unfolding with_word
  number_over [] h e f = absurd (not-suc-le-zero h)
  number_over (b ∷ w) h e f = of_spoiled (call k ns []) b w (λ bs. rw e (go (number ((b ∷ w) ++ bs))))
    where
      go : (o : Option ℕ) → Lost (with_number k ns o)
      go none = bad
      go (some n) = one_more k ns n f

  name_letter : (w : List ℕ) (c : ℕ) → name_next k ns ≡ true → is_name w ≡ true → Agrees (call k ns []) (w ++ (c ∷ [])) (named k ns w c)
  name_letter w c e f = go (may_follow (length w) c) refl
    where
      go : (t : Bool) → may_follow (length w) c ≡ t → Agrees (call k ns []) (w ++ (c ∷ [])) (named k ns w c)
      go true d = rw d (a_name (w ++ (c ∷ [])) (some_letter w c) e (name_snoc w c ∙ rw (f, d)))
      go false d = rw d (name_lost (w ++ (c ∷ [])) (some_letter w c) e (name_snoc w c ∙ rw (f, d)))

  number_letter : (w : List ℕ) (n c : ℕ) → name_next k ns ≡ false → number w ≡ some n → Agrees (call k ns []) (w ++ (c ∷ [])) (longer k ns n c)
  number_letter w n c e f = go (ltb (length ns) 384006) refl
    where
      grow : (o : Option ℕ) → digit (some n) c ≡ o → Agrees (call k ns []) (w ++ (c ∷ [])) (grown k ns o)
      grow none d = number_lost (w ++ (c ∷ [])) (some_letter w c) e (number_snoc w c ∙ rw (f, d))
      grow (some m) d = a_number (w ++ (c ∷ [])) m (some_letter w c) e (number_snoc w c ∙ rw (f, d))

      go : (t : Bool) → ltb (length ns) 384006 ≡ t → Agrees (call k ns []) (w ++ (c ∷ [])) (longer k ns n c)
      go true d = rw d (grow (digit (some n) c) refl)
      go false d = rw d (number_over (w ++ (c ∷ [])) (some_letter w c) e d)

  -- a word after the name
  after_lost : (b : ℕ) (w : List ℕ) (c : ℕ) → name_next k ns ≡ true → Agrees (call k ns (b ∷ w)) (c ∷ []) spoiled
  unfolding with_word
  after_lost b w c e = of_spoiled (call k ns (b ∷ w)) c [] (λ bs. rw e bad)

-- the 17th letter of the first word
word_lost : (b : ℕ) (w : List ℕ) → 16 < length (b ∷ w) → Agrees silent (b ∷ w) spoiled
unfolding with_word
word_lost b w h =
    of_spoiled silent b w
    (λ bs. rw (long_unknown ((b ∷ w) ++ bs) (omega (arith, length-append (b ∷ w) bs))) bad)

lettered : {h : Heard} {w : List ℕ} {s : State} (c : ℕ) → Agrees h w s → Agrees h (w ++ (c ∷ [])) (letter s c)
unfolding letter is_name number value
lettered c of_spaces = of_word c []
lettered c (of_word b w) = go (ltb (length (b ∷ w)) 16) refl
  where
    go : (t : Bool) → ltb (length (b ∷ w)) 16 ≡ t → Agrees silent (b ∷ (w ++ (c ∷ []))) (cond t (in_word (b ∷ (w ++ (c ∷ [])))) spoiled)
    go true d = of_word b (w ++ (c ∷ []))
    go false d =
        word_lost b (w ++ (c ∷ []))
        (omega (arith, ltb-false (length (b ∷ w)) 16 d, length-append w (c ∷ [])))
lettered c (of_between k ns) = go (name_next k ns) refl
  where
    go : (t : Bool) → name_next k ns ≡ t → Agrees (call k ns []) (c ∷ []) (cond t (named k ns [] c) (longer k ns 0 c))
    go true d = name_letter k ns [] c d refl
    go false d = number_letter k ns [] 0 c d refl
lettered c (of_number k ns n b w e f) = number_letter k ns (b ∷ w) n c e f
lettered c (of_name k ns b w e f) = name_letter k ns (b ∷ w) c e f
lettered c (of_after k ns b w e) = after_lost k ns b w c e
lettered c (of_lost w l) = of_lost (w ++ (c ∷ [])) l
lettered c (of_spoiled h b w f) =
    of_spoiled h b (w ++ (c ∷ [])) (λ bs. subst (λ (v : List ℕ). Lost (with_word h v)) (sym (append_assoc (b ∷ w) (c ∷ []) bs)) (f (c ∷ bs)))

-- The end --------------------------------------------------------------------------------------------------------------

ended : {h : Heard} {w : List ℕ} {s : State} → Agrees h w s → complete (after h w) ≡ ends s
unfolding ends with_word complete
ended of_spaces = refl
ended (of_word b w) = refl
ended (of_between k ns) = refl
ended (of_number k ns n b w e f) = rw (e, f) (go (ltb (length ns) 384006) refl)
  where
    go : (t : Bool) → ltb (length ns) 384006 ≡ t
        → complete (call k (ns ++ (n ∷ [])) []) ≡ cond t (complete (call k (ns ++ (n ∷ [])) [])) malformed
    go true d = refl
    go false d = lost_is (one_more k ns n d)
ended (of_name k ns b w e f) = rw (e, f)
ended (of_after k ns b w e) = refl
ended (of_lost w l) = lost_is (lost_after l w)
ended (of_spoiled h b w f) = lost_is (subst (λ (v : List ℕ). Lost (with_word h v)) (append-nil (b ∷ w)) (f []))

-- All bytes ------------------------------------------------------------------------------------------------------------

-- what the words of a line mean
abbrev meaning : Cutting → Heard
meaning q = complete (foldl with_word silent (closed q.ended q.letters))

abbrev Agreed : Cutting → State → Type 0
Agreed q s = Agrees (foldl with_word silent q.ended) q.letters s

follows : (bs : List ℕ) (q : Cutting) (s : State) → Agreed q s → meaning (foldl cut q bs) ≡ ends (foldl step s bs)
follows [] q s a = ap complete (after_closed q.ended q.letters) ∙ ended a
follows (b ∷ bs) q s a = follows bs (cut q b) (step s b) (go (eqb b 32))
  where
    go : (t : Bool) → Agreed (cond t (with_space q) (with_letter q b)) (cond t (space s) (letter s b))
    go true = subst (λ (h : Heard). Agrees h [] (space s)) (sym (after_closed q.ended q.letters)) (spaced a)
    go false = lettered b a

comment_stays : (bs : List ℕ) → foldl step in_comment bs ≡ in_comment
unfolding space letter
comment_stays [] = refl
comment_stays (b ∷ bs) = ap (λ (s : State). foldl step s bs) (go (eqb b 32)) ∙ comment_stays bs
  where
    go : (t : Bool) → cond t (space in_comment) (letter in_comment b) ≡ in_comment
    go true = refl
    go false = refl

pub hears_is : (bs : List ℕ) → hears bs ≡ ends (run bs)
unfolding hears run ends words split letter
hears_is [] = refl
hears_is (b ∷ bs) = go (eqb b 35) refl
  where
    go : (t : Bool) → eqb b 35 ≡ t
        → cond t silent (complete (foldl with_word silent (words (b ∷ bs)))) ≡ ends (foldl step (step at_start b) bs)
    go true d = rw (eqb-true b 35 d, comment_stays bs)
    go false d =
        follows (b ∷ bs) (record { ended = []; letters = [] }) spaces of_spaces
        ∙ ap (λ (s : State). ends (foldl step s bs)) (no_comment b (eqb-false b 35 d))

-- the line of a reading says what the bytes mean
pub line_is : {r : Reading} {w ns name : List ℕ} {l : Line} (bs : List ℕ) → Ended r w ns l → length name ≡ 64 → Reads bs r w ns name
    → hears bs ≡ heard_of l ns name
line_is {name = name} bs e full h = hears_is bs ∙ sym (e.heard name full ∙ ap ends h.state)

-- One interval or one band more at the end.
use Rattle.std.proofs.Common.{ℕ, ◌+◌, ◌≤◌, ◌<◌, ◌≡◌, refl, ap, sym, ◌∙◌, Bool, ◌&&◌, ◌||◌, List, [], ◌∷◌, ◌++◌, leb, ltb}
use mathlib.Core.Bool.{or_assoc, or-false}
use Rattle.sheet.specs.Sheet.{Span, Band, Sheet, in_spans, has, Apart, Proper, Follows, Bands, BandFits, BandsFit}

-- where the next interval may begin
abbrev pub after : ℕ → List Span → ℕ
after n [] = n
after n (i ∷ is) = after (i.right + 1) is

pub after_more : (n : ℕ) (is : List Span) (j : Span) → after n (is ++ (j ∷ [])) ≡ j.right + 1
after_more n [] j = refl
after_more n (i ∷ is) j = after_more (i.right + 1) is j

pub apart_more : (n : ℕ) (is : List Span) (j : Span) → Apart n is → after n is ≤ j.left → j.left < j.right → Apart n (is ++ (j ∷ []))
unfolding Apart
apart_more n [] j a h k = (h, k, tt)
apart_more n (i ∷ is) j a h k = (a.0, a.1, apart_more (i.right + 1) is j a.2 h k)

pub in_more : (is : List Span) (j : Span) (c : ℕ) → in_spans (is ++ (j ∷ [])) c ≡ in_spans is c || leb j.left c && ltb c j.right
unfolding in_spans
in_more [] j c = or-false _
in_more (i ∷ is) j c = ap (λ (t : Bool). leb i.left c && ltb c i.right || t) (in_more is j c) ∙ sym (or_assoc (leb i.left c && ltb c i.right) (in_spans is c) _)

-- Bands --------------------------------------------------------------------------------------------------------------

-- the last band, behind another
abbrev pub last_of : Band → Sheet → Band
last_of a [] = a
last_of a (b ∷ bs) = last_of b bs

pub last_more : (a : Band) (s : Sheet) (b : Band) → last_of a (s ++ (b ∷ [])) ≡ b
last_more a [] b = refl
last_more a (c ∷ s) b = last_more c s b

pub bands_more : (a : Band) (s : Sheet) (b : Band) → Bands a s → Follows (last_of a s) b → Proper b → Bands a (s ++ (b ∷ []))
unfolding Bands
bands_more a [] b h f p = (f, p, tt)
bands_more a (c ∷ s) b h f p = (h.0, h.1, bands_more c s b h.2 f p)

pub fit_more : (s : Sheet) (b : Band) → BandsFit s → BandFits b → BandsFit (s ++ (b ∷ []))
unfolding BandsFit
fit_more [] b h f = (f, tt)
fit_more (c ∷ s) b h f = (h.0, fit_more s b h.1 f)

pub has_more : (s : Sheet) (b : Band) (c r : ℕ) → has (s ++ (b ∷ [])) c r ≡ has s c r || leb b.top r && ltb r b.bottom && in_spans b.spans c
unfolding has
has_more [] b c r = or-false _
has_more (d ∷ s) b c r =
    ap (λ (t : Bool). leb d.top r && ltb r d.bottom && in_spans d.spans c || t) (has_more s b c r)
    ∙ sym (or_assoc (leb d.top r && ltb r d.bottom && in_spans d.spans c) (has s c r) _)

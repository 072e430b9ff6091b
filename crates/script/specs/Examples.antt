-- Lines and what they mean, by computation.
use Prim.Native.String.{String}
use Rattle.std.specs.Prelude.{true, false, ◌≡◌, refl, [], ◌∷◌}
use Rattle.script.specs.Text.{bytes}
use Rattle.script.specs.Kind as Kind
use Rattle.script.specs.Script.{split, words, value, number, name_byte, is_name, table, kind_of, counted, is_event, ranged, name_fits, accepts, Heard, silent, malformed, call, with_word, complete, hears}

infix 20 ◌means◌
abbrev ◌means◌ : String → Heard → Type 0
s means h = hears (bytes s) ≡ h

pub calls : ("start 4294967295" means call Kind.start (4294967295 ∷ []) [])
    × ("  resize 0  010 10 " means call Kind.resize (0 ∷ 10 ∷ 10 ∷ []) [])
    × ("mouseclick 3 4 255 2" means call Kind.mouseclick (3 ∷ 4 ∷ 255 ∷ 2 ∷ []) [])
    × ("blit 0 1 2 1 2 1 7 8" means call Kind.blit (0 ∷ 1 ∷ 2 ∷ 1 ∷ 2 ∷ 1 ∷ 7 ∷ 8 ∷ []) [])
    × ("picture 8 4 2.ppm" means call Kind.picture (8 ∷ 4 ∷ []) (bytes "2.ppm"))
    × ("picture 8 4 12" means call Kind.picture (8 ∷ 4 ∷ []) (bytes "12"))
    × ("begin 1" means call Kind.begin (1 ∷ []) [])
    × ("portion 8 4" means call Kind.portion (8 ∷ 4 ∷ []) [])
    × ("busiest" means call Kind.busiest [] [])
    × ("busiest 5 5 1004" means call Kind.busiest (5 ∷ 5 ∷ 1004 ∷ []) [])
    × ("share 3" means call Kind.share (3 ∷ []) [])
    × ("hits" means call Kind.hits [] [])
    × ("hits 8 2 9" means call Kind.hits (8 ∷ 2 ∷ 9 ∷ []) [])
    × ("dim 0" means call Kind.dim (0 ∷ []) [])
    × ("layer 3 2" means call Kind.layer (3 ∷ 2 ∷ []) [])
    × ("read-sheet 4 255" means call Kind.read_sheet (4 ∷ 255 ∷ []) [])
    × ("stale 3 0 0 8 4" means call Kind.stale (3 ∷ 0 ∷ 0 ∷ 8 ∷ 4 ∷ []) [])
    × ("waiting" means call Kind.waiting [] [])
    × ("window 16" means call Kind.window (16 ∷ []) [])
    × ("session" means call Kind.session [] [])
    × ("who 1 0 0 0 0" means call Kind.who (1 ∷ 0 ∷ 0 ∷ 0 ∷ 0 ∷ []) [])
    × ("who 9 3 4294967295 255 255" means call Kind.who (9 ∷ 3 ∷ 4294967295 ∷ 255 ∷ 255 ∷ []) [])
unfolding split words value number name_byte is_name table kind_of counted is_event ranged name_fits accepts with_word complete hears
calls = (refl, refl, refl, refl, refl, refl, refl, refl, refl, refl, refl, refl, refl, refl, refl, refl, refl, refl, refl, refl, refl, refl)

pub no_calls : ("" means silent)
    × ("# start 1" means silent)
    × ("   " means malformed)
    × (" # start 1" means malformed)
    × ("started 1" means malformed)
    × ("start" means malformed)
    × ("start 1 2" means malformed)
    × ("start -1" means malformed)
    × ("start 4294967296" means malformed)
    × ("redraw 2 8 4" means malformed)
    × ("begin 2" means malformed)
    × ("dim 2" means malformed)
    × ("layer 3" means malformed)
    × ("read-sheet 4 256" means malformed)
    × ("stale 0 0 0 8" means malformed)
    × ("who 0 0 0 0 0" means malformed)
    × ("who 10 0 0 0 0" means malformed)
    × ("who 2 7 0 256 0" means malformed)
    × ("who 1 0 0 0 256" means malformed)
    × ("who 2 7 0 0" means malformed)
    × ("set-scanline 2 2 0 0 1 2 7" means malformed)
    × ("picture 8 4 .ppm" means malformed)
    × ("picture 8 4" means malformed)
unfolding split words value number name_byte is_name table kind_of counted is_event ranged name_fits accepts with_word complete hears
no_calls = (refl, refl, refl, refl, refl, refl, refl, refl, refl, refl, refl, refl, refl, refl, refl, refl, refl, refl, refl, refl, refl, refl, refl)

-- the most numbers of a line
pub most : (counted Kind.blit 4103 ≡ true)
    × (counted Kind.blit 384006 ≡ true)
    × (counted Kind.blit 384007 ≡ false)
    × (counted Kind.set_scanline 4102 ≡ true)
    × (counted Kind.set_scanline 4103 ≡ false)
    × (counted Kind.busiest 4200 ≡ true)
    × (counted Kind.busiest 4201 ≡ false)
    × (counted Kind.read_sheet 4096 ≡ true)
    × (counted Kind.read_sheet 4097 ≡ false)
    × (counted Kind.hits 4096 ≡ true)
    × (counted Kind.hits 4097 ≡ false)
unfolding table counted
most = (refl, refl, refl, refl, refl, refl, refl, refl, refl, refl, refl)

-- The lines `look` and `look-fit`: the look that a line names, and how many pixels its target has.
use Rattle.std.specs.Prelude.{ℕ, ◌+◌, ◌*◌, ◌≡◌, Bool, true, false, List, ◌++◌, eqb, take, drop}
use Rattle.look.specs.declared.Look.{Look}
use Rattle.look.specs.declared.Zoom.{Zoom}
use Rattle.look.specs.declared.Zoom.TheVariants.{Factor, Fit}
use Rattle.script.specs.Kind as Kind
use Rattle.rules.specs.Group.{Group}
use Rattle.rules.specs.Look.{Looked, look}
use Rattle.replay.specs.declared.player.Player.{Player}
use Rattle.bare_lines.specs.Numbers.{num, id_of, float_of}
use Rattle.replay.specs.Called.{size_at}
use Rattle.replay.specs.Ready.{lent_or}

abbrev pub zoom_of : Bool → List ℕ → Zoom
zoom_of true ns = Fit
zoom_of false ns = Factor (float_of (num ns 5) (num ns 6))

abbrev pub look_of : ℕ → List ℕ → Look
look_of k ns = record { x = float_of (num ns 1) (num ns 2); y = float_of (num ns 3) (num ns 4); zoom = zoom_of (eqb k Kind.look_fit) ns }

-- how many pixels a target has: what `lend-target` said, or "the target has TW × TH pixels"
abbrev pub target_len : Player → ℕ → List ℕ → ℕ
target_len p k ns = lent_or (num ns (size_at k) * num ns (size_at k + 1)) p.target

-- what the line's call gives, lent a store and a target
abbrev pub asks : Group → ℕ → List ℕ → List ℕ → List ℕ → Looked
asks g k ns store target = look g (id_of ns) (look_of k ns) store target (num ns (size_at k)) (num ns (size_at k + 1))

-- a look, lent the first n pixels of a target
pub record LooksPart (g : Group) (k : ℕ) (ns store : List ℕ) (n : ℕ) (target : List ℕ) (a : ℕ) (after : List ℕ) : Type 0 where
  pub answer : a ≡ (asks g k ns store (take n target)).answer
  pub shown : after ≡ (asks g k ns store (take n target)).target ++ drop n target

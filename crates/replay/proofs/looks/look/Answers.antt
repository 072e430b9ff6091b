-- As many pixels are lent as was said or as the size asks for, or the line is beyond its limit.
use Prim.Native.Nat.{ℕ, ◌≤◌, ◌<◌}
use mathlib.Core.Path.{refl, subst}
use mathlib.Core.List.{List}
use lib.ListN.{take, replicate}
use Rattle.answer_text.specs.Text.{Piece, beyond}
use Rattle.windows.specs.View.{group}
use Rattle.bare_lines.specs.Told.{part_line}
use Rattle.replay.specs.declared.player.Player.{Player}
use Rattle.replay.specs.Ready.{Next, untargeted}
use Rattle.replay.specs.Looks.{target_len, asks}
use Rattle.replay.specs.Played.{asks_look, exceeds, no_look}
use Rattle.script.specs.Kind.{code_of}
use Rattle.replay.proofs.laws.Nexts.{tells}
use Rattle.replay.proofs.looks.look.Goals as goal

-- the line of a look with a target of n pixels
abbrev told : Player → ℕ → List ℕ → List ℕ → ℕ → List Piece
told p k ns store n =
    let s = asks (group p.session) k ns (take p.lent store) (replicate n 4294967295) in
    part_line s.answer s.target

pub returns-then-len-gt65536 : goal.returns-then-len-gt65536
returns-then-len-gt65536 c = λ screen.
    record {
      text = beyond;
      plays =
          exceeds (no_look c.requires.1 (subst (λ (n : ℕ). 65536 < n) c.target_len-len.ensures c.if-len-gt65536.true)) refl
          (tells c.args.p.now c.requires.0 c.refused.ensures) refl;
    }

pub returns : goal.returns
returns c = λ screen.
    let k = code_of c.args.line.kind in
    record {
      text = told c.args.p.now k c.args.ns.now c.args.store.now (target_len c.args.p.now k c.args.ns.now);
      plays =
          asks_look c.requires.1 (subst (λ (n : ℕ). n ≤ 65536) c.target_len-len.ensures c.if-len-gt65536.false) refl
          (subst (λ (n : ℕ). Next (told c.args.p.now k c.args.ns.now c.args.store.now n) (untargeted c.args.p.now) c.args.p.now.session c.looked.new.p)
          c.target_len-len.ensures c.looked.ensures) refl;
    }

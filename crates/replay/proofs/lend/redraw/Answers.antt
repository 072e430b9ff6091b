-- As much of the screen is lent as was said or as the size asks for, or the line is beyond its limit.
use Rattle.std.proofs.Common.{ℕ, ◌<◌, refl, subst}
use Rattle.answer_text.specs.Text.{beyond}
use Rattle.replay.specs.Played.{exceeds, no_redraw}
use Rattle.replay.proofs.laws.Lists.{draws_line}
use Rattle.replay.proofs.laws.Nexts.{tells}
use Rattle.replay.proofs.lend.redraw.Goals as goal

pub returns-then-len-gt3072000 : goal.returns-then-len-gt3072000
returns-then-len-gt3072000 c =
    record {
      text = beyond;
      plays =
          exceeds (no_redraw c.requires.1 (subst (λ (n : ℕ). 3072000 < n) c.screen_len-len.ensures c.if-len-gt3072000.true)) refl
          (tells c.args.p.now c.requires.0 c.refused.ensures) refl;
    }

pub returns : goal.returns
returns c =
    let args = c.args in
    draws_line args.line args.ns.now args.p.now args.store.now args.screen.now c.screen_len-len.result
    c.drawn.new.p c.drawn.new.screen c.requires.1 c.screen_len-len.ensures c.if-len-gt3072000.false c.drawn.ensures

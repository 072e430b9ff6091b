-- One block more: its pixels are the first of those that are left.
use Rattle.std.proofs.Common.{List, ℕ, ◌++◌, rules, ap, sym, ◌∙◌, append_assoc}
use Rattle.std.proofs.KnownBytes.{Appends-trans}
use Rattle.std.specs.Slice.Iter.{chunks_rest}
use Rattle.answer_text.specs.Picture.{colours}
use Rattle.answer_text.proofs.laws.Pixels.{colours_append}
use Rattle.answer_text.proofs.picture.whole.Goals as goal

pub loop-next-preserved : goal.loop-next-preserved
loop-next-preserved g c =
    let steps = c.in-Some.ensures.steps in
    let done = c.loop-next.invariant.3 in
    let next = c.in-Some.next.now in
    let rest = chunks_rest c.next.new.self in (
      search rules,
      tt,
      steps.0 ∙ c.loop-next.invariant.2,
      done ++ colours next,
      Appends-trans _ _ _ done (colours next) c.loop-next.invariant.4 c.in_ok-part.ensures.file,
      append_assoc done (colours next) (colours rest)
          ∙ ap (λ (l : List ℕ). done ++ l) (sym (colours_append next rest) ∙ ap colours (sym steps.1.0))
          ∙ c.loop-next.invariant.5,
    )

-- One stage after the other.
use Rattle.std.proofs.Common.{inl, inr, refl}
use Rattle.script.specs.Machine.{ends}
use Rattle.script.proofs.laws.Calls.{ends_word, ends_between, ends_number, ends_name, ends_after, ends_silent, ends_malformed, no_number}
use Rattle.script.proofs.complete.line_of.Goals as goal

pub returns-in-AtStart : goal.returns-in-AtStart
unfolding ends
returns-in-AtStart c =
    elim c.in-AtStart.is [
      | inl e ↦ rw e (ends_silent _ _ _ (λ name. refl) c.no_call.ensures)
      | inr e ↦ rw e (ends_silent _ _ _ (λ name. refl) c.no_call.ensures)
    ]

pub returns-in-InWord : goal.returns-in-InWord
returns-in-InWord c = rw c.in-InWord.is (ends_word _ _ c.requires c.kind_of.ensures c.checked.ensures)

pub returns-in-Between : goal.returns-in-Between
returns-in-Between c = rw c.in-Between.is (ends_between _ _ c.requires c.min.ensures c.checked-in-Between.ensures)

pub returns-else-count-ge-MOST : goal.returns-else-count-ge-MOST
returns-else-count-ge-MOST c = rw c.in-InNumber.is (ends_number _ _ c.requires c.if-count-ge-MOST.false c.checked-in-InNumber.ensures)

pub returns-then-count-ge-MOST : goal.returns-then-count-ge-MOST
returns-then-count-ge-MOST c =
    rw c.in-InNumber.is (ends_malformed _ _ _ (no_number _ _ c.args.word.now _ c.requires c.if-count-ge-MOST.true) c.no_call-then-count-ge-MOST.ensures)

pub returns-in-InName : goal.returns-in-InName
returns-in-InName c =
    elim c.in-InName.is [
      | inl e ↦ rw e (ends_name _ _ c.requires c.min-in-InName-2.ensures c.min-in-InName.ensures c.checked-in-InName.ensures)
      | inr e ↦ rw e (ends_after _ _ c.requires c.min-in-InName-2.ensures c.min-in-InName.ensures c.checked-in-InName.ensures)
    ]

pub returns-in-Spaces : goal.returns-in-Spaces
unfolding ends
returns-in-Spaces c =
    elim c.in-Spaces.is [
      | inl e ↦ rw e (ends_malformed _ _ _ (λ name. refl) c.no_call-in-Spaces.ensures)
      | inr e ↦ rw e (ends_malformed _ _ _ (λ name. refl) c.no_call-in-Spaces.ensures)
    ]

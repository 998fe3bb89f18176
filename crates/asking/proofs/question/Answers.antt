use Rattle.asking.proofs.Refusing.{bad-question, bad-records, good-question}
use Rattle.asking.proofs.question.Goals as goal
use Rattle.asking.proofs.question.Goals.{then-bank-gt3-via-then-bank-gt3, then-bank-gt3-via-else-bank-gt3+then-n-event}
use mathlib.Core.Logic.{inl, inr}

pub returns-then-bank-gt3 : goal.returns-then-bank-gt3
returns-then-bank-gt3 c = elim c.then-bank-gt3.branch [
  | then-bank-gt3-via-then-bank-gt3 w ↦ bad-question _ _ _ _ (inl w.if-bank-gt3.true)
  | then-bank-gt3-via-else-bank-gt3+then-n-event w ↦ bad-question _ _ _ _ (inr w.if-n-event.true)
]

pub returns-then-records-lt4 : goal.returns-then-records-lt4
returns-then-records-lt4 c = bad-records _ _ _ _ c.if-bank-gt3.false c.if-n-event.false c.if-records-lt4.true

pub returns : goal.returns
returns c = good-question _ _ _ _ c.if-bank-gt3.false c.if-n-event.false c.if-records-lt4.false

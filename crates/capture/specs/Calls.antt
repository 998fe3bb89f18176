-- What promises and laws say of calls: whether a capture is accepted, and that an answer and a buffer are those of an outcome.
use Rattle.std.specs.Prelude.{ℕ, List, ◌≡◌}
use Rattle.reading.specs.Capture.{most_events}
use Rattle.reading.specs.Answers.{Answer, answered, accepted_to, Outcome}

-- what refusals 1 to 4 say of a capture, where there may be so many events, and none of them
abbrev pub opened_to : ℕ → List ℕ → Answer (Unit {0})
opened_to most capture = accepted_to most capture (answered tt)

abbrev pub AcceptedTo : ℕ → List ℕ → Type 0
AcceptedTo most capture = opened_to most capture ≡ answered tt

abbrev pub opened : List ℕ → Answer (Unit {0})
opened = opened_to most_events

abbrev pub Accepted : List ℕ → Type 0
Accepted = AcceptedTo most_events

-- a call answers so, and leaves this in the lent buffer
abbrev pub Meets : Answer ℕ → List ℕ → Outcome → Type 0
Meets answer left o = (answer ≡ o.answer) × (left ≡ o.buffer)

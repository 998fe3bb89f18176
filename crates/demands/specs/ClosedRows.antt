-- What the scheduler answered before rows could stay open: every row closed behind its burst, and no policy asked for.
use Rattle.std.specs.Prelude.{ℕ, not, List, length, eqb}
use Rattle.reading.specs.Search.{given}
use Rattle.reading.specs.Settings.{settings_count, settings_of, bad_setting}
use Rattle.reading.specs.Rules.{placing}
use Rattle.reading.specs.Schedule.{bad_request, capture_of}
use Rattle.reading.specs.Answers.{Outcome, unless, fitting, leaves, when_planned}
use Rattle.memory.specs.ClosedRows.{closed_rows}

abbrev pub closed_outcome : List ℕ → List ℕ → List ℕ → Outcome
closed_outcome settings requests buffer =
    leaves
    (unless 2 (given 0 (not (eqb (length settings) settings_count)))
    (unless 3 (bad_setting settings)
    (unless 5 (bad_request (settings_of settings) requests)
    (when_planned (closed_rows placing (settings_of settings) requests) (λ es. fitting buffer (capture_of settings es))))))
    buffer

-- From a capture's bytes to the verdict on its events.
use Prim.Native.Nat.{ℕ}
use mathlib.Core.List.{List}
use mathlib.Core.Path.{◌≡◌, sym}
use native.Mathlib.Omega.{arith}
use Rattle.reading.specs.Settings.{settings_of}
use Rattle.reading.specs.Answers.{answered, verdict_in, judge_answer_to}
use Rattle.capture.proofs.Accepted.{rest-to}
use Rattle.capture.proofs.Opened.{Opened}
use Rattle.judge.specs.Meaning.{Fit, report_on}

-- an accepted capture
module _ {most : ℕ} {c settings : List ℕ} {n : ℕ} {bytes : List ℕ} (x : Opened most c settings n bytes) where
  pub fit : Fit settings bytes n
  fit = record { long = x.there; rows = omega (arith, x.rows); ticks = x.ticks; events = x.rise }

  pub judged-so : answered (report_on (settings_of settings) bytes n) ≡ judge_answer_to most c
  unfolding report_on judge_answer_to verdict_in
  judged-so = rw (x.settings-are, x.events-are, x.count-is) (sym (rest-to most c _ x.open-to))

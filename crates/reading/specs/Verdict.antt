-- Judging: the first event that breaks a rule ends it.
use Rattle.std.specs.Prelude.{ℕ, suc, List, [], ◌∷◌}
use Rattle.std.proofs.Math.Option.{Option, none, some}
use Rattle.reading.specs.Settings.{Settings}
use Rattle.reading.specs.Capture.{Event}
use Rattle.reading.specs.Part.{Part, start, step}
use Rattle.reading.specs.Rules.{rules, broken_among}

pub data Verdict : Type 0 where
  clean : Verdict
  -- the lowest rule, the event's index from 0, its cycle
  broken : ℕ → ℕ → ℕ → Verdict

abbrev pub broken_or : Option ℕ → ℕ → ℕ → Verdict → Verdict
broken_or none i t v = v
broken_or (some r) i t v = broken r i t

-- by some rules, listed by their numbers
unfoldable pub judge_by : List ℕ → Settings → Part → ℕ → List Event → Verdict
judge_by rs s p i [] = clean
judge_by rs s p i (e ∷ es) = broken_or (broken_among rs s p e) i e.cycle (judge_by rs s (step s p e) (suc i) es)

unfoldable pub verdict_by : List ℕ → Settings → List Event → Verdict
verdict_by rs s es = judge_by rs s (start s) 0 es

-- by all rules
abbrev pub judge_from : Settings → Part → ℕ → List Event → Verdict
judge_from = judge_by rules

abbrev pub verdict_of : Settings → List Event → Verdict
verdict_of = verdict_by rules

-- "judged" of N events: N if clean, else the number of events before the broken one
abbrev pub judged_of : ℕ → Verdict → ℕ
judged_of n clean = n
judged_of n (broken r i t) = i

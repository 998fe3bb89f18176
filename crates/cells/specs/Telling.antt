-- What is said of a clean capture and its events, by its settings and bytes.
use Rattle.std.specs.Prelude.{ℕ, List}
use Rattle.std.proofs.Math.Option.{Option}
use Rattle.reading.specs.Settings.{Settings, settings_of}
use Rattle.reading.specs.Bursts as reading
use Rattle.cells.specs.Meaning as is
use Rattle.cells.specs.Meaning.{Burst, bursts_on, cells_on, given_at, At}
use Rattle.cells.specs.declared.held.Clean.{Clean}

abbrev pub judged_by : Clean → Settings
judged_by x = settings_of x.opened.settings

-- its bursts and their cells
abbrev pub bursts : Clean → List reading.Burst
bursts x = bursts_on (judged_by x) x.opened.events.bytes.now x.opened.events.count

abbrev pub cells : Clean → List ℕ
cells x = cells_on (judged_by x) x.opened.events.bytes.now x.opened.events.count

-- what event i gives
abbrev pub given : Clean → ℕ → Option Burst
given x i = given_at (judged_by x) x.opened.events.bytes.now x.opened.events.count i

abbrev pub KeepsPair : Clean → ℕ → ℕ → Type 0
KeepsPair x i mode = is.KeepsPair (judged_by x) x.opened.events.bytes.now x.opened.events.count i mode

-- first cells and mode word are those before event i
abbrev pub Before : Clean → ℕ → List ℕ → ℕ → Type 0
Before x i firsts mode = At (judged_by x) x.opened.events.bytes.now i firsts mode

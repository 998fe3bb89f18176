-- The fixed schedule of a list of requests.
use Rattle.std.specs.Prelude.{ℕ, zero, suc, ◌+◌, ◌*◌, ◌/◌, ◌%◌, ◌^◌, Bool, cond, not, ◌&&◌, List, [], ◌∷◌, ◌++◌, length, get_or, ltb, eqb}
use Rattle.std.proofs.Math.Option.{Option, none, some}
use Rattle.reading.specs.Search.{every, lowest}
use Rattle.reading.specs.Words.{bit, bytes_of}
use Rattle.reading.specs.Settings.{Settings}
use Rattle.reading.specs.Capture.{Event, settings_start, events_start, capture_size, last_cycle}
use Rattle.reading.specs.RefreshClock.{in_time}
use Rattle.reading.specs.Commands.{Command, ACTIVE, READ, WRITE, PRECHARGE, AUTO-REFRESH, command_of, pins_of}
use Rattle.reading.specs.Part.{Bank, Part, start, run, cut_by}
use Rattle.reading.specs.Rules.{every_bank, keeps_rule, placing}

-- the row policies by their numbers: 0 leaves rows open, 1 closes each behind its burst
abbrev pub policy_fits : ℕ → Bool
policy_fits policy = ltb policy 2

abbrev pub closes_rows : ℕ → Bool
closes_rows policy = eqb policy 1

-- bit 31 write, bits 27-30 zero, bits 0-26 the cell where the burst starts
abbrev pub asks_write : ℕ → Bool
asks_write q = eqb (bit 31 q) 1

abbrev pub first_cell : ℕ → ℕ
first_cell q = q % 2 ^ 27

abbrev pub cell_bank : Settings → ℕ → ℕ
cell_bank s cell = cell / 2 ^ s.column_bits / 2 ^ s.row_bits

abbrev pub cell_row : Settings → ℕ → ℕ
cell_row s cell = cell / 2 ^ s.column_bits % 2 ^ s.row_bits

abbrev pub cell_column : Settings → ℕ → ℕ
cell_column s cell = cell % 2 ^ s.column_bits

-- bits 27-30 are zero and the part, of four banks, has the cell
unfoldable pub request_fits : Settings → ℕ → Bool
request_fits s q = eqb (q / 2 ^ 27 % 2 ^ 4) 0 && ltb (cell_bank s (first_cell q)) 4

unfoldable pub bad_request : Settings → List ℕ → Option ℕ
bad_request s qs = cond (ltb 2000 (length qs)) (some 2000) (lowest (λ i. not (request_fits s (get_or qs i 0))) (length qs))

-- the pins of a schedule's commands; those that are not named are 0
abbrev pub active_pins : Settings → ℕ → ℕ
active_pins s q = pins_of ACTIVE (cell_bank s (first_cell q)) (cell_row s (first_cell q))

-- column bits 0-9 on A0-A9, bit 10 on A11; A10 asks for auto precharge
abbrev pub column_pins : Bool → ℕ → ℕ
column_pins A10 column = column % 2 ^ 10 + cond A10 (2 ^ 10) 0 + 2 ^ 11 * (column / 2 ^ 10)

abbrev pub burst_pins : Bool → Settings → ℕ → ℕ
burst_pins A10 s q =
    pins_of (cond (asks_write q) WRITE READ) (cell_bank s (first_cell q)) (column_pins A10 (cell_column s (first_cell q)))

-- PRECHARGE of a request's bank, and of all banks
abbrev pub close_pins : Settings → ℕ → ℕ
close_pins s q = pins_of PRECHARGE (cell_bank s (first_cell q)) 0

abbrev pub close_all_pins : ℕ
close_all_pins = pins_of PRECHARGE 0 (2 ^ 10)

abbrev pub refresh_pins : ℕ
refresh_pins = pins_of AUTO-REFRESH 0 0

-- what opens a request's row: nothing where it is open, ACTIVE where the bank is idle, else PRECHARGE before it
abbrev pub row_commands : Settings → Bank → ℕ → List ℕ
row_commands s x q =
    cond (not x.opened) (active_pins s q ∷ [])
    (cond (eqb x.row (cell_row s (first_cell q))) [] (close_pins s q ∷ active_pins s q ∷ []))

-- the commands of a request, for the part as it stands; where rows are closed its burst asks for auto precharge
abbrev pub request_commands : Bool → Settings → Part → ℕ → List ℕ
request_commands closed s p q = row_commands s (p.banks (cell_bank s (first_cell q))) q ++ (burst_pins closed s q ∷ [])

-- those of a refresh
abbrev pub refresh_commands : Part → List ℕ
refresh_commands p = cond (every_bank (λ b. not (p.banks b).opened)) (refresh_pins ∷ []) (close_all_pins ∷ refresh_pins ∷ [])

-- a command at t cuts nothing: no burst loses a pair that it kept
unfoldable pub cuts_nothing : Settings → Part → ℕ → Command → Bool
cuts_nothing s p t c = every (λ x. eqb (cut_by s p t c x).n x.n) p.bursts

-- the earliest cycle, not before `from`, at which f holds, looked for through n cycles
unfoldable pub earliest : (ℕ → Bool) → ℕ → ℕ → ℕ
earliest f from zero = from
earliest f from (suc n) = let rest = earliest f (suc from) n in cond (f from) from rest

-- the cycle after the last event, 0 at the start
unfoldable pub free_from : ℕ → List Event → ℕ
free_from from [] = from
free_from from (e ∷ es) = free_from (suc e.cycle) es

-- the cycle of the last event
unfoldable pub last_from : ℕ → List Event → ℕ
last_from t [] = t
last_from t (e ∷ es) = last_from e.cycle es

pub data Schedule : Type 0 where
  planned : List Event → Schedule
  -- the request at which refresh cannot be kept
  late : ℕ → Schedule

abbrev pub when_served : Option (List Event) → (List Event → Schedule) → ℕ → Schedule
when_served none f i = late i
when_served (some es) f i = f es

-- by some rules, listed by their numbers
module _ (rs : List ℕ) (s : Settings) where
  -- the rules pass the pins at t
  unfoldable pub passes : Part → ℕ → ℕ → Bool
  passes p pins t = every (λ r. keeps_rule r s p t (command_of pins)) rs

  -- so they do, and it cuts nothing
  unfoldable pub goes : Part → ℕ → ℕ → Bool
  goes p pins t = passes p pins t && cuts_nothing s p t (command_of pins)

  -- where a command behind these events is placed: the earliest cycle after them at which it goes
  unfoldable pub placed : List Event → ℕ → ℕ
  placed es pins = earliest (goes (run s (start s) es) pins) (free_from 0 es) last_cycle

  unfoldable pub send : List Event → ℕ → List Event
  send es pins = es ++ (record { cycle = placed es pins; pins = pins } ∷ [])

  unfoldable pub send_all : List Event → List ℕ → List Event
  send_all es [] = es
  send_all es (pins ∷ more) = send_all (send es pins) more

  unfoldable pub send_refresh : List Event → List Event
  send_refresh es = send_all es (refresh_commands (run s (start s) es))

  -- the AUTO REFRESH of a refresh sent next comes in time
  unfoldable pub refresh_in_time : List Event → Bool
  refresh_in_time es = in_time s (run s (start s) es).clock (last_from 0 (send_refresh es))

  -- with rows left open, or closed
  module _ (closed : Bool) where
    unfoldable pub send_request : List Event → ℕ → List Event
    send_request es q = send_all es (request_commands closed s (run s (start s) es) q)

    -- the events with those of one more request; none if refresh cannot be kept
    unfoldable pub served : List Event → ℕ → Option (List Event)
    served es q =
        let alone = send_request es q in
        let behind = send_request (send_refresh es) q in
        cond (refresh_in_time alone) (some alone) (cond (refresh_in_time behind) (some behind) none)

    unfoldable pub schedule_from : List Event → ℕ → List ℕ → Schedule
    schedule_from es i [] = planned es
    schedule_from es i (q ∷ qs) = when_served (served es q) (λ next. schedule_from next (suc i) qs) i

    unfoldable pub schedule_by : List ℕ → Schedule
    schedule_by qs = schedule_from [] 0 qs

-- by a row policy
abbrev pub schedule_of : Settings → ℕ → List ℕ → Schedule
schedule_of s policy = schedule_by placing s (closes_rows policy)

-- ---- a whole capture: header, settings, events

unfoldable pub event_words : List Event → List ℕ
event_words [] = []
event_words (e ∷ es) = e.cycle ∷ e.pins ∷ event_words es

-- the header of so many settings and n events
abbrev pub header_of : ℕ → ℕ → ℕ → List ℕ
header_of edition settings n = capture_size settings n ∷ settings ∷ settings_start ∷ n ∷ events_start settings ∷ edition ∷ []

unfoldable pub capture_in : ℕ → List ℕ → List Event → List ℕ
capture_in edition settings es = bytes_of (header_of edition (length settings) (length es) ++ settings ++ event_words es)

-- that of a schedule, which keeps to the old rules
abbrev pub capture_of : List ℕ → List Event → List ℕ
capture_of = capture_in 0

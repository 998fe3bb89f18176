-- Exports of the handheld analyser: records of a 16-bit stamp and a pin word, read into a capture and written from one.
use Rattle.std.specs.Prelude.{ℕ, zero, suc, ◌+◌, ◌-◌, ◌*◌, ◌/◌, ◌%◌, ◌^◌, Bool, not, ◌&&◌, ◌||◌, List, [], ◌∷◌, ◌++◌, map, length, ltb, eqb}
use Rattle.std.proofs.Math.Option.{Option, none, some}
use Rattle.reading.specs.Search.{count, find, lowest, given, or_else}
use Rattle.reading.specs.Words.{word_at, word_bytes, half_at, half_bytes}
use Rattle.reading.specs.Settings.{Settings, settings_count, sleeping_count, bad_setting}
use Rattle.reading.specs.RefreshClock.{Clock, in_time}
use Rattle.reading.specs.Capture.{Event, newest_edition, count_in, events_of}
use Rattle.reading.specs.Commands.{NOP, pins_of}
use Rattle.reading.specs.Verdict.{Verdict, broken}
use Rattle.reading.specs.Schedule.{capture_in}
use Rattle.reading.specs.Answers.{Outcome, unless, accepted, fitting, leaves}

-- ---- records: a stamp of two bytes, and behind it the pins

abbrev pub record_size : ℕ
record_size = 6

abbrev pub most_records : ℕ
most_records = 8000

abbrev pub record_count : List ℕ → ℕ
record_count export = length export / record_size

abbrev pub stamp_at : List ℕ → ℕ → ℕ
stamp_at export i = half_at export (record_size * i)

abbrev pub record_pins : List ℕ → ℕ → ℕ
record_pins export i = word_at export (record_size * i + 2)

-- the stamp goes round
abbrev pub around : ℕ
around = 2 ^ 16

-- the difference of a stamp and the one before
abbrev pub apart : ℕ → ℕ → ℕ
apart before stamp = (stamp + around - before) % around

-- the first cycle is the first stamp; each later one adds the difference
unfoldable pub cycle_of : List ℕ → ℕ → ℕ
cycle_of export zero = stamp_at export 0
cycle_of export (suc i) = cycle_of export i + apart (stamp_at export i) (stamp_at export (suc i))

abbrev pub record_of : List ℕ → ℕ → Event
record_of export i = record { cycle = cycle_of export i; pins = record_pins export i }

unfoldable pub records_of : List ℕ → List Event
records_of export = map (record_of export) (count 0 (record_count export))

-- ---- NOPs, where the next event is further away than stamps can tell

abbrev pub reach : ℕ
reach = 65535

abbrev pub nop_at : ℕ → Event
nop_at t = record { cycle = t; pins = pins_of NOP 0 0 }

-- how many stand before an event at t: one 65,535 cycles after the last record, again and again, while the event is further away
abbrev pub between : ℕ → ℕ → ℕ
between last t = (t - last - 1) / reach

abbrev pub nop : ℕ → ℕ → Event
nop last j = nop_at (last + reach * suc j)

unfoldable pub nops : ℕ → ℕ → List Event
nops last t = map (nop last) (count 0 (between last t))

unfoldable pub bridged_from : ℕ → List Event → List Event
bridged_from last [] = []
bridged_from last (e ∷ es) = nops last e.cycle ++ e ∷ bridged_from e.cycle es

-- from cycle 0 on: no first event that may be written is further away, so that none comes before it
abbrev pub bridged : List Event → List Event
bridged es = bridged_from 0 es

-- how many come before event i
abbrev pub added_from : ℕ → List Event → ℕ → ℕ
added_from last [] i = 0
added_from last (e ∷ es) zero = between last e.cycle
added_from last (e ∷ es) (suc i) = between last e.cycle + added_from e.cycle es i

abbrev pub added_before : List Event → ℕ → ℕ
added_before es i = added_from 0 es i

-- the cycle of the event before event i
abbrev pub last_before : ℕ → List Event → ℕ → ℕ
last_before last es zero = last
last_before last [] (suc i) = last
last_before last (e ∷ es) (suc i) = last_before e.cycle es i

-- ---- an export in bytes

abbrev pub record_bytes : Event → List ℕ
record_bytes e = half_bytes (e.cycle % around) ++ word_bytes e.pins

unfoldable pub export_of : List Event → List ℕ
export_of [] = []
export_of (e ∷ es) = record_bytes e ++ export_of es

-- ---- reading: refusals 2, 3, 11, 4, 7

-- the stamp is that of the record before
abbrev pub stands : List ℕ → ℕ → Bool
stands export i = not (eqb i 0) && eqb (apart (stamp_at export (i - 1)) (stamp_at export i)) 0

-- refusal 11: no whole records, too many, or a stamp that stands
unfoldable pub bad_export : List ℕ → Option ℕ
bad_export export =
    or_else (given 0 (not (eqb (length export % record_size) 0)))
    (or_else (given most_records (ltb most_records (record_count export))) (lowest (stands export) (record_count export)))

-- refusal 4: bits above the pins are zero, and there is no CKE
unfoldable pub bad_pins : List ℕ → Option ℕ
bad_pins export = lowest (λ i. not (ltb (record_pins export i) (2 ^ 20))) (record_count export)

unfoldable pub read_outcome : List ℕ → List ℕ → ℕ → List ℕ → Outcome
read_outcome export settings edition buffer =
    leaves
    (unless 2 (given 0 (not (eqb (length settings) settings_count) || ltb newest_edition edition))
    (unless 3 (bad_setting settings)
    (unless 11 (bad_export export)
    (unless 4 (bad_pins export) (fitting buffer (capture_in edition settings (records_of export)))))))
    buffer

-- ---- writing: refusals 1 to 4, 12, 7

-- the cycle of the first event
abbrev pub first_cycle : List Event → ℕ
first_cycle [] = 0
first_cycle (e ∷ es) = e.cycle

-- refusal 12: with sleep, or first too late, or too many records
unfoldable pub unwritable : List ℕ → Bool
unwritable capture =
    eqb (count_in capture) sleeping_count
    || (ltb reach (first_cycle (events_of capture)) || ltb most_records (length (bridged (events_of capture))))

unfoldable pub write_outcome : List ℕ → List ℕ → Outcome
write_outcome capture buffer =
    leaves (accepted capture (unless 12 (given 0 (unwritable capture)) (fitting buffer (export_of (bridged (events_of capture)))))) buffer

-- ---- what the NOPs change of a verdict

-- the first of those before an event at t that comes when more than eight refreshes are owed
abbrev pub late_nop : Settings → Clock → ℕ → ℕ → Option ℕ
late_nop s k last t = find (λ j. not (in_time s k (nop last j).cycle)) (count 0 (between last t))

-- it is reported, as the event that it is behind m events, or else what would be without it
abbrev pub late_or : Option ℕ → ℕ → ℕ → Verdict → Verdict
late_or none last m v = v
late_or (some j) last m v = broken 14 (m + j) (nop last j).cycle

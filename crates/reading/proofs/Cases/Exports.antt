-- Exports of the handheld analyser: read, written, and what the NOPs between far events change of a verdict.
use Prim.Native.Nat.{ℕ, ◌+◌, ◌/◌, ◌%◌}
use mathlib.Core.Bool.{true, false}
use mathlib.Core.List.{List, [], ◌∷◌, ◌++◌, map}
use mathlib.Core.Option.{none, some}
use mathlib.Core.Path.{◌≡◌, refl}
use lib.ListN.{length, set, take, replicate}
use Rattle.reading.specs.Search.{lowest}
use Rattle.reading.specs.Words.{half_at, half_bytes}
use Rattle.reading.specs.Settings.{Settings, settings_of}
use Rattle.reading.specs.RefreshClock.{clock_at_start}
use Rattle.reading.specs.Capture.{Event}
use Rattle.reading.specs.Verdict.{clean, broken}
use Rattle.reading.specs.Schedule.{capture_in, capture_of}
use Rattle.reading.specs.Answers.{Outcome, refused, answered}
use Rattle.reading.specs.Export.{records_of, cycle_of, stands, bad_export, bad_pins, read_outcome, nops, bridged_from, bridged, export_of, unwritable, write_outcome, added_before, last_before, late_nop, late_or}
use Rattle.reading.proofs.Cases.{ACTIVE, READ, WRITE, NOP, A10, LOW, bank, at, usual, sleeping, Said, touches, breaks, said, said_of}

-- ---- bytes

half-read : half_at (9 ∷ 0x02 ∷ 0x01 ∷ 9 ∷ []) 1 ≡ 0x0102
unfolding half_at
half-read = refl

half-written : half_bytes 0x0102 ≡ 0x02 ∷ 0x01 ∷ []
unfolding half_bytes
half-written = refl

-- a record as a person would write it
abbrev stamped : ℕ → ℕ → List ℕ
stamped t w = t % 256 ∷ t / 256 ∷ w % 256 ∷ w / 256 % 256 ∷ w / 65536 % 256 ∷ w / 16777216 ∷ []

-- ---- reading

record Read : Type 0 where
  export : List ℕ
  settings : List ℕ
  edition : ℕ
  buffer : List ℕ
  leaves : Outcome

-- into a buffer of so many 9s, of which some are left
abbrev reading : ℕ → List ℕ → ℕ → ℕ → List Event → Read
reading edition export n left es =
    record {
      export = export;
      settings = usual;
      edition = edition;
      buffer = replicate (n + left) 9;
      leaves = record { answer = answered n; buffer = capture_in edition usual es ++ replicate left 9 };
    }

abbrev refusing : List ℕ → List ℕ → ℕ → List ℕ → ℕ → ℕ → Read
refusing export settings edition buffer number place =
    record {
      export = export;
      settings = settings;
      edition = edition;
      buffer = buffer;
      leaves = record { answer = refused number place; buffer = buffer };
    }

-- under the usual settings, into nothing
abbrev refuses : List ℕ → ℕ → ℕ → Read
refuses export number place = refusing export usual 0 [] number place

abbrev HIGH : ℕ
HIGH = 0x100000

reads : List Read
reads =
    reading 0 (stamped 65000 NOP ++ stamped 100 NOP ++ stamped 99 NOP) 104 2 (at 65000 NOP ∷ at 65636 NOP ∷ at 131171 NOP ∷ [])
    -- literal bytes: stamp 0x0102, then 0x0304; pins 0x0C0123 and 0x0A4025
    ∷ reading 0 (0x02 ∷ 0x01 ∷ 0x23 ∷ 0x01 ∷ 0x0c ∷ 0 ∷ 0x04 ∷ 0x03 ∷ 0x25 ∷ 0x40 ∷ 0x0a ∷ 0 ∷ []) 96 0
    (at 0x0102 (ACTIVE + 0x123) ∷ at 0x0304 (READ + bank 1 + 0x25) ∷ [])
    -- none, and one, from stamp 0 on; every edition
    ∷ reading 0 [] 80 0 []
    ∷ reading 1 [] 80 1 []
    ∷ reading 1 (stamped 0 ACTIVE ++ stamped 3 WRITE ++ stamped 6 READ) 104 0 (at 0 ACTIVE ∷ at 3 WRITE ∷ at 6 READ ∷ [])
    -- the longest differences, and the shortest; all pins that there are
    ∷ reading 0 (stamped 0 NOP ++ stamped 65535 NOP ++ stamped 65534 NOP ++ stamped 65535 0xfffff) 112 0
    (at 0 NOP ∷ at 65535 NOP ∷ at 131070 NOP ∷ at 131071 0xfffff ∷ [])
    -- 2: the settings' count, and the edition, before anything else
    ∷ refusing [] (take 13 usual) 0 [] 2 0
    ∷ refusing [] sleeping 0 [] 2 0
    ∷ refusing [] usual 2 [] 2 0
    ∷ refusing (9 ∷ []) (set usual 7 11) 2 (9 ∷ []) 2 0
    -- 3
    ∷ refusing [] (set usual 7 11) 0 [] 3 7
    ∷ refusing (9 ∷ []) (set usual 0 0) 1 (9 ∷ []) 3 0
    -- 11: no whole records
    ∷ refuses (replicate 7 0) 11 0
    ∷ refuses (replicate 5 0) 11 0
    ∷ refuses (stamped 5 NOP ++ stamped 5 NOP ++ (0 ∷ [])) 11 0
    -- a stamp that stands
    ∷ refuses (stamped 5 NOP ++ stamped 5 NOP) 11 1
    ∷ refuses (stamped 5 (NOP + HIGH) ++ stamped 5 NOP) 11 1
    ∷ refuses (stamped 0 NOP ++ stamped 0 NOP) 11 1
    ∷ refuses (stamped 5 NOP ++ stamped 6 NOP ++ stamped 6 NOP ++ stamped 6 NOP) 11 2
    -- 4: pins that there are not
    ∷ refuses (stamped 5 NOP ++ stamped 6 HIGH) 4 1
    ∷ refuses (stamped 5 0x80000000 ++ stamped 6 HIGH) 4 0
    -- 7: the bytes of the capture
    ∷ refusing (stamped 65000 NOP ++ stamped 100 NOP ++ stamped 99 NOP) usual 0 (replicate 103 9) 7 104
    ∷ refuses [] 7 80
    ∷ []

read-exports : map (λ x. read_outcome x.export x.settings x.edition x.buffer) reads ≡ map (λ x. x.leaves) reads
unfolding reads said read_outcome bad_export bad_pins records_of cycle_of half_at
read-exports = refl

-- 8,001 records, and one byte more; 8,000 are not too many
module _ (export : List ℕ) where
  too_many : length export ≡ 48006 → bad_export export ≡ some 8000
  unfolding bad_export
  too_many l = rw l

  none-whole : length export ≡ 48007 → bad_export export ≡ some 0
  unfolding bad_export
  none-whole l = rw l

  most : length export ≡ 48000 → bad_export export ≡ lowest (stands export) 8000
  unfolding bad_export
  most l = rw l

-- ---- writing

record Written : Type 0 where
  capture : List ℕ
  buffer : List ℕ
  leaves : Outcome

abbrev patient : List ℕ
patient = set usual 13 1000000

-- into a buffer of so many 9s, of which some are left
abbrev writing : List Event → ℕ → ℕ → List ℕ → Written
writing es n left out =
    record {
      capture = capture_of patient es;
      buffer = replicate (n + left) 9;
      leaves = record { answer = answered n; buffer = out ++ replicate left 9 };
    }

abbrev unwritten : List ℕ → List ℕ → ℕ → ℕ → Written
unwritten capture buffer number place =
    record { capture = capture; buffer = buffer; leaves = record { answer = refused number place; buffer = buffer } }

writes : List Written
writes =
    writing (at 0 NOP ∷ at 65535 NOP ∷ []) 12 1 (stamped 0 NOP ++ stamped 65535 NOP)
    ∷ writing (at 0 NOP ∷ at 65536 NOP ∷ []) 18 0 (stamped 0 NOP ++ stamped 65535 NOP ++ stamped 0 NOP)
    ∷ writing (at 5 NOP ∷ at 131076 NOP ∷ []) 24 2 (stamped 5 NOP ++ stamped 4 NOP ++ stamped 3 NOP ++ stamped 4 NOP)
    ∷ writing (at 0 NOP ∷ at 131070 NOP ∷ []) 18 0 (stamped 0 NOP ++ stamped 65535 NOP ++ stamped 65534 NOP)
    ∷ writing (at 0 NOP ∷ at 131071 NOP ∷ []) 24 0 (stamped 0 NOP ++ stamped 65535 NOP ++ stamped 65534 NOP ++ stamped 65535 NOP)
    -- the last record that the next is counted from; all pins; a broken rule is nothing to it
    ∷ writing (at 65535 (WRITE + A10 + bank 3) ∷ at 131070 ACTIVE ∷ at 131071 0xfffff ∷ []) 18 0
    (0xff ∷ 0xff ∷ 0 ∷ 0xc4 ∷ 0x02 ∷ 0 ∷ 0xfe ∷ 0xff ∷ 0 ∷ 0 ∷ 0x0c ∷ 0 ∷ 0xff ∷ 0xff ∷ 0xff ∷ 0xff ∷ 0x0f ∷ 0 ∷ [])
    ∷ writing [] 0 1 []
    ∷ record {
      capture = capture_in 1 usual (at 1 NOP ∷ []);
      buffer = replicate 6 9;
      leaves = record { answer = answered 6; buffer = stamped 1 NOP };
    }
    -- 1 to 4 come first
    ∷ unwritten [] [] 1 0
    ∷ unwritten (capture_in 2 sleeping (at 65536 NOP ∷ [])) [] 2 0
    ∷ unwritten (capture_of (set sleeping 7 11) (at 65536 NOP ∷ [])) [] 3 7
    ∷ unwritten (capture_of usual (at 65536 NOP ∷ at 5 NOP ∷ [])) [] 4 1
    -- 12: with sleep, first too late, too many
    ∷ unwritten (capture_of sleeping []) [] 12 0
    ∷ unwritten (capture_of sleeping (at 0 (NOP + LOW) ∷ [])) (9 ∷ []) 12 0
    ∷ unwritten (capture_of patient (at 65536 NOP ∷ [])) [] 12 0
    ∷ unwritten (capture_of patient (at 0 NOP ∷ at 2000000000 NOP ∷ [])) [] 12 0
    -- 7: the bytes of the export
    ∷ unwritten (capture_of patient (at 0 NOP ∷ at 65536 NOP ∷ [])) (replicate 17 9) 7 18
    ∷ []

write-exports : map (λ x. write_outcome x.capture x.buffer) writes ≡ map (λ x. x.leaves) writes
unfolding writes said write_outcome unwritable bridged_from nops export_of half_bytes
write-exports = refl

-- 7,998 NOPs between two events are not too many, 7,999 are
records-counted :
    map (λ t. unwritable (capture_of patient (at 0 NOP ∷ at t NOP ∷ []))) (524214465 ∷ 524214466 ∷ []) ≡ false ∷ true ∷ []
unfolding said unwritable bridged_from nops
records-counted = refl

-- ---- what the NOPs change of a verdict

record Back : Type 0 where
  settings : List ℕ
  events : List Event
  before : Said
  after : Said

abbrev far : ℕ → List Event → Said → Said → Back
far t_refi es before after = record { settings = set usual 13 t_refi; events = es; before = before; after = after }

backs : List Back
backs =
    far 1000000 (at 0 NOP ∷ at 70000 READ ∷ []) (breaks 1 3 1 70000) (breaks 2 3 2 70000)
    ∷ far 7500 (at 0 NOP ∷ at 70000 READ ∷ []) (breaks 1 3 1 70000) (breaks 2 3 2 70000)
    ∷ far 1000 (at 0 NOP ∷ at 70000 READ ∷ []) (breaks 1 3 1 70000) (breaks 1 14 1 65535)
    -- clean stays so; the second NOP is late; of an event before, none
    ∷ far 1000000 (at 0 ACTIVE ∷ at 200000 READ ∷ []) (touches 2 (0 ∷ 1 ∷ 2 ∷ 3 ∷ [])) (touches 5 (0 ∷ 1 ∷ 2 ∷ 3 ∷ []))
    ∷ far 10000 (at 5 NOP ∷ at 200000 NOP ∷ []) (breaks 1 14 1 200000) (breaks 2 14 2 131075)
    ∷ far 10000 (at 5 READ ∷ at 200000 NOP ∷ []) (breaks 0 3 0 5) (breaks 0 3 0 5)
    ∷ far 1000000 (at 0 NOP ∷ at 200000 NOP ∷ at 200001 READ ∷ []) (breaks 2 3 2 200001) (breaks 5 3 5 200001)
    ∷ []

before-and-after :
    map (λ x. said_of (settings_of x.settings) x.events ∷ said_of (settings_of x.settings) (bridged x.events) ∷ []) backs ≡
    map (λ x. x.before ∷ x.after ∷ []) backs
unfolding backs said_of bridged_from nops
before-and-after = refl

abbrev gaps : List Event
gaps = at 5 NOP ∷ at 200000 NOP ∷ at 200001 NOP ∷ at 300000 NOP ∷ []

added : map (added_before gaps) (0 ∷ 1 ∷ 2 ∷ 3 ∷ []) ≡ 0 ∷ 3 ∷ 3 ∷ 4 ∷ []
added = refl

before-each : map (last_before 7 gaps) (0 ∷ 1 ∷ 2 ∷ 3 ∷ []) ≡ 7 ∷ 5 ∷ 200000 ∷ 200001 ∷ []
before-each = refl

abbrev slow : ℕ → Settings
slow t_refi = settings_of (set usual 13 t_refi)

late-first : map (λ r. late_nop (slow r) clock_at_start 5 200000) (1000000 ∷ 20000 ∷ 10000 ∷ 1000 ∷ []) ≡ none ∷ some 2 ∷ some 1 ∷ some 0 ∷ []
late-first = refl

late-or : late_or none 5 2 clean ∷ late_or (some 1) 5 2 clean ∷ [] ≡ clean ∷ broken 14 3 131075 ∷ []
late-or = refl

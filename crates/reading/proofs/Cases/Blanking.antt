-- Addresses blanked: which pins of each command, whole captures, two that differ only in addresses, and what is not alike.
use Prim.Native.Nat.{ℕ, zero, suc, ◌+◌, ◌^◌, ◌<◌}
use mathlib.Core.List.{List, [], ◌∷◌, ◌++◌, map}
use mathlib.Core.Path.{◌≡◌, refl, ap}
use native.Mathlib.Omega.{arith}
use lib.ListN.{get_or, set, replicate}
use Rattle.reading.specs.Search.{count}
use Rattle.reading.specs.Settings.{settings_of}
use Rattle.reading.specs.Capture.{Event, event_bytes, event_at}
use Rattle.reading.specs.Schedule.{capture_of}
use Rattle.reading.specs.Answers.{refused, answered, settings_in}
use Rattle.reading.specs.Blank.{Alike, same, columns, rows, blank_pins, OnlyAddressesDiffer, blanked, blank_outcome}
use Rattle.reading.proofs.Cases.{ACTIVE, READ, WRITE, TERMINATE, PRECHARGE, REFRESH, MODE, NOP, DESELECT, A10, LOW, bank, at, usual, sleeping, touches, breaks, said, Case, case, bytes, Hold}

-- ---- pin words, in a part of so many row bits

record Blank : Type 0 where
  row_bits : ℕ
  pins : ℕ
  becomes : ℕ

abbrev blank : ℕ → ℕ → Blank
blank w v = record { row_bits = 13; pins = w; becomes = v }

abbrev stays : ℕ → Blank
stays w = blank w w

abbrev of : ℕ → ℕ → ℕ → Blank
of bits w v = record { row_bits = bits; pins = w; becomes = v }

abbrev HoldPins : List Blank → Type 0
HoldPins cases = map (λ x. blank_pins (settings_of (set usual 1 x.row_bits)) x.pins) cases ≡ map (λ x. x.becomes) cases

-- all address pins, and all but A10
abbrev ALL : ℕ
ALL = 0x3fff

abbrev REST : ℕ
REST = 0x3bff

commands : List Blank
commands =
    -- A10 and the bank stay
    blank (READ + REST) READ
    ∷ blank (READ + ALL) (READ + A10)
    ∷ blank (READ + bank 3 + ALL) (READ + bank 3 + A10)
    ∷ blank (WRITE + REST) WRITE
    ∷ blank (WRITE + bank 1 + ALL) (WRITE + bank 1 + A10)
    ∷ blank (ACTIVE + 0x1fff) ACTIVE
    ∷ blank (ACTIVE + bank 2 + 0x1fff) (ACTIVE + bank 2)
    -- a row that the part does not have is left whole
    ∷ stays (ACTIVE + 0x2000)
    ∷ stays (ACTIVE + bank 1 + 0x2005)
    ∷ stays (ACTIVE + ALL)
    ∷ of 12 (ACTIVE + 0x0fff) ACTIVE
    ∷ of 12 (ACTIVE + 0x1000) (ACTIVE + 0x1000)
    ∷ of 14 (ACTIVE + ALL) ACTIVE
    -- with CKE low as with CKE high
    ∷ blank (READ + LOW + bank 2 + ALL) (READ + LOW + bank 2 + A10)
    ∷ blank (WRITE + LOW + 5) (WRITE + LOW)
    ∷ blank (ACTIVE + LOW + 5) (ACTIVE + LOW)
    ∷ stays (ACTIVE + LOW + 0x2000)
    -- CS# high: no ACTIVE, READ or WRITE
    ∷ stays (DESELECT + ACTIVE + 5)
    ∷ stays (DESELECT + READ + 5)
    ∷ stays (DESELECT + WRITE + 5)
    ∷ stays (DESELECT + LOW + READ + 5)
    -- every other command
    ∷ stays (TERMINATE + ALL)
    ∷ stays (PRECHARGE + ALL)
    ∷ stays (REFRESH + ALL)
    ∷ stays (MODE + bank 2 + ALL)
    ∷ stays (NOP + ALL)
    ∷ stays (DESELECT + ALL)
    ∷ stays (NOP + LOW + ALL)
    ∷ []

each-command : HoldPins commands
unfolding commands blank_pins
each-command = refl

-- pin by pin, A0 first
pins : List Blank
pins =
    map (λ i. blank (READ + 2 ^ i) READ) (count 0 10)
    ++ (stays (READ + A10) ∷ [])
    ++ map (λ i. blank (WRITE + 2 ^ i) WRITE) (count 11 3)
    ++ map (λ i. blank (ACTIVE + 2 ^ i) ACTIVE) (count 0 13)
    ++ map (λ i. stays (NOP + 2 ^ i)) (count 0 14)

each-pin : HoldPins pins
unfolding pins blank_pins
each-pin = refl

-- ---- captures: what is said of one, and of the capture that it becomes

record Whole : Type 0 where
  settings : List ℕ
  before : List Event
  after : List Event

wholes : List Whole
wholes =
    record { settings = usual; before = []; after = [] }
    ∷ record {
      settings = usual;
      before = at 0x10203 (ACTIVE + bank 1 + 0x123) ∷ at 0x10206 (READ + bank 1 + A10 + 0x25) ∷ at 0x10300 (PRECHARGE + 7) ∷ [];
      after = at 0x10203 (ACTIVE + bank 1) ∷ at 0x10206 (READ + bank 1 + A10) ∷ at 0x10300 (PRECHARGE + 7) ∷ [];
    }
    ∷ record {
      settings = sleeping;
      before = at 0 (ACTIVE + 3) ∷ at 3 (WRITE + LOW + 9) ∷ at 9 (NOP + 9) ∷ [];
      after = at 0 ACTIVE ∷ at 3 (WRITE + LOW) ∷ at 9 (NOP + 9) ∷ [];
    }
    ∷ []

each-capture : map (λ x. blanked (capture_of x.settings x.before)) wholes ≡ map (λ x. capture_of x.settings x.after) wholes
unfolding wholes said blanked blank_pins
each-capture = refl

verdicts : List Case
verdicts =
    case (at 0 (ACTIVE + 1) ∷ at 3 (READ + 5) ∷ []) (touches 2 (1029 ∷ 1030 ∷ 1031 ∷ 1028 ∷ []))
    ∷ bytes (blanked (capture_of usual (at 0 (ACTIVE + 1) ∷ at 3 (READ + 5) ∷ []))) (touches 2 (0 ∷ 1 ∷ 2 ∷ 3 ∷ []))
    -- rule 1 stays broken
    ∷ bytes (blanked (capture_of usual (at 0 (ACTIVE + 1) ∷ at 7 (ACTIVE + bank 1 + 0x2000) ∷ []))) (breaks 1 1 1 7)
    -- auto precharge stays: its bank is idle
    ∷ bytes (blanked (capture_of usual (at 0 ACTIVE ∷ at 3 (READ + A10 + 5) ∷ at 9 (READ + 5) ∷ []))) (breaks 2 3 2 9)
    -- with CKE low
    ∷ bytes (blanked (capture_of sleeping (at 0 (NOP + LOW) ∷ at 5 (ACTIVE + LOW + 0x2000) ∷ []))) (breaks 1 1 1 5)
    ∷ []

each-verdict : Hold verdicts
unfolding verdicts said blanked blank_pins
each-verdict = refl

-- ---- two captures that differ only in addresses: the same verdict and other burst cells, also behind a broken event

one : List ℕ
one = capture_of usual (at 0 (ACTIVE + 1) ∷ at 3 (READ + 5) ∷ [])

other : List ℕ
other = capture_of usual (at 0 (ACTIVE + 0x1ff0) ∷ at 3 (READ + 0x3008) ∷ [])

pair : Hold (bytes one (touches 2 (1029 ∷ 1030 ∷ 1031 ∷ 1028 ∷ [])) ∷ bytes other (touches 2 (8372232 ∷ 8372233 ∷ 8372234 ∷ 8372235 ∷ [])) ∷ [])
unfolding one other said
pair = refl

pair-differs : OnlyAddressesDiffer one other
unfolding one other said
pair-differs = record { size = refl; front = refl; cycles = cycles; pins = alike }
  where
    cycles : (i : ℕ) → i < 2 → (event_at (event_bytes one) i).cycle ≡ (event_at (event_bytes other) i).cycle
    cycles zero l = refl
    cycles (suc zero) l = refl
    cycles (suc (suc i)) l = absurd (omega arith)

    alike : (i : ℕ) → i < 2 → Alike (settings_in one) (event_at (event_bytes one) i).pins (event_at (event_bytes other) i).pins
    alike zero l = rows refl refl refl
    alike (suc zero) l = columns refl refl refl
    alike (suc (suc i)) l = absurd (omega arith)

pair-blanked : blanked one ≡ blanked other
unfolding one other said blanked blank_pins
pair-blanked = refl

-- ---- what is not alike, in a part of 13 row bits

abbrev Unlike : ℕ → ℕ → Type 0
Unlike v w = Alike (settings_of usual) v w → ⊥

-- A10
unlike-ten : Unlike READ (READ + A10)
unlike-ten (same e) = omega arith
unlike-ten (columns c a b) = omega arith
unlike-ten (rows r q a) = let z : ◌≡◌ {A = ℕ} 0 1 = cc in omega arith

-- a bank pin, of WRITE and of ACTIVE
unlike-bank : Unlike (WRITE + 5) (WRITE + bank 1 + 5)
unlike-bank (same e) = omega arith
unlike-bank (columns c a b) = omega arith
unlike-bank (rows r q a) = omega arith

unlike-active-bank : Unlike ACTIVE (ACTIVE + bank 2)
unlike-active-bank (same e) = omega arith
unlike-active-bank (columns c a b) = omega arith
unlike-active-bank (rows r q a) = omega arith

-- a row that the part does not have, on either side
unlike-row : Unlike ACTIVE (ACTIVE + 0x2000)
unlike-row (same e) = omega arith
unlike-row (columns c a b) = let z : ◌≡◌ {A = ℕ} 0 1 = cc in omega arith
unlike-row (rows r q a) = let z : ◌≡◌ {A = ℕ} 0 1 = cc in omega arith

unlike-rows : Unlike (ACTIVE + 0x2000) ACTIVE
unlike-rows (same e) = omega arith
unlike-rows (columns c a b) = let z : ◌≡◌ {A = ℕ} 0 1 = cc in omega arith
unlike-rows (rows r q a) = let z : ◌≡◌ {A = ℕ} 0 1 = cc in omega arith

-- any pin of another command, or with CS# high
unlike-precharge : Unlike PRECHARGE (PRECHARGE + 1)
unlike-precharge (same e) = omega arith
unlike-precharge (columns c a b) = let z : ◌≡◌ {A = ℕ} 0 1 = cc in omega arith
unlike-precharge (rows r q a) = let z : ◌≡◌ {A = ℕ} 0 1 = cc in omega arith

unlike-deselect : Unlike (DESELECT + READ) (DESELECT + READ + 1)
unlike-deselect (same e) = omega arith
unlike-deselect (columns c a b) = let z : ◌≡◌ {A = ℕ} 0 1 = cc in omega arith
unlike-deselect (rows r q a) = let z : ◌≡◌ {A = ℕ} 0 1 = cc in omega arith

-- ---- captures that differ in something else

abbrev first : List Event
first = at 0 ACTIVE ∷ at 3 READ ∷ []

abbrev NotOnly : List ℕ → Type 0
NotOnly b = OnlyAddressesDiffer (capture_of usual first) b → ⊥

longer : NotOnly (capture_of usual first ++ (0 ∷ []))
unfolding said
longer k = omega (arith, k.size)

other-setting : NotOnly (capture_of (set usual 13 999) first)
unfolding said
other-setting k = omega (arith, ap (λ (l : List ℕ). get_or l 76 0) k.front)

other-cycle : NotOnly (capture_of usual (at 0 ACTIVE ∷ at 4 READ ∷ []))
unfolding said
other-cycle k = omega (arith, k.cycles 1 (omega arith))

other-pins : NotOnly (capture_of usual (at 0 ACTIVE ∷ at 3 (READ + A10) ∷ []))
unfolding said
other-pins k = unlike-ten (k.pins 1 (omega arith))

-- ---- the call: refusals 1 to 4, then 7; bytes behind the capture stay

abbrev nop : ℕ → List ℕ
nop w = capture_of usual (at 0 w ∷ [])

calls :
    blank_outcome [] (9 ∷ []) ∷ blank_outcome (nop 0x100000) [] ∷ blank_outcome (nop NOP) (replicate 87 9)
    ∷ blank_outcome (nop (ACTIVE + 5)) (replicate 88 9) ∷ blank_outcome (nop (READ + 5)) (replicate 90 9) ∷ [] ≡
    record { answer = refused 1 0; buffer = 9 ∷ [] }
    ∷ record { answer = refused 4 0; buffer = [] }
    ∷ record { answer = refused 7 88; buffer = replicate 87 9 }
    ∷ record { answer = answered 88; buffer = nop ACTIVE }
    ∷ record { answer = answered 88; buffer = nop READ ++ (9 ∷ 9 ∷ []) }
    ∷ []
unfolding said blank_outcome blanked blank_pins
calls = refl

-- Every limit of a capture and of a setting, from both sides. A capture of 64,080 bytes is too long to compute, so what its
-- length and its 8,000 events mean is two laws.
use Prim.Native.Nat.{ℕ, ◌+◌, ◌-◌, ◌*◌}
use mathlib.Core.Bool.{Bool, true, false, cond, not, ◌&&◌, and-false}
use mathlib.Core.List.{List, [], ◌∷◌, ◌++◌, map}
use mathlib.Core.Option.{Option, none, some}
use mathlib.Core.Path.{◌≡◌, refl}
use native.Mathlib.Omega.{arith}
use lib.ListN.{length, set, take}
use lib.Dec.{leb, eqb}
use borrow.Author.Tests.{ne_eqb}
use Rattle.reading.specs.Search.{given}
use Rattle.reading.specs.Words.{bytes_of}
use Rattle.reading.specs.Settings.{setting_fits, bad_setting}
use Rattle.reading.specs.Capture.{header_word, event_count, capture_size, most_events, setting_words, event_bytes, length_fits_to, header_fits_to, pin_limit, bad_event}
use Rattle.reading.specs.Answers.{Answer, refused, unless, accepted, accepted_to}
use Rattle.reading.proofs.Cases.{NOP, at, usual, sleeping, refuses, touches, said, Case, case, bytes, Hold}

-- settings, and the lowest that does not fit
record Fit : Type 0 where
  settings : List ℕ
  lacks : Option ℕ

-- one word is changed; with tRAS 10,000 and tRC 1 its range alone decides
abbrev word : ℕ → ℕ → Option ℕ → Fit
word i w o = record { settings = set (set (set usual 6 10000) 7 1) i w; lacks = o }

abbrev row : ℕ → ℕ → ℕ → List Fit
row i least most = word i (least - 1) (some i) ∷ word i least none ∷ word i most none ∷ word i (most + 1) (some i) ∷ []

table : List Fit
table =
    row 0 1 2
    ++ row 1 12 14
    ++ row 2 8 11
    ++ row 4 1 10000
    ++ row 5 1 10000
    ++ row 6 1 10000
    ++ row 7 1 10000
    ++ row 8 1 10000
    ++ row 9 1 10000
    ++ row 10 1 10000
    ++ row 11 1 10000
    ++ row 12 1 10000
    ++ row 13 1 1000000
    -- row 3: the least and the greatest mode word, and words beside each of its fields
    ++ (word 3 0x21 none
    ∷ word 3 0x3c none
    ∷ word 3 0x20 (some 3)
    ∷ word 3 0x25 (some 3)
    ∷ word 3 0x14 (some 3)
    ∷ word 3 0x41 (some 3)
    ∷ word 3 0x61 (some 3)
    ∷ word 3 0xa1 (some 3)
    ∷ [])

-- tRP, tRAS and tRC are changed
abbrev times : ℕ → ℕ → ℕ → Option ℕ → Fit
times rp ras rc o = record { settings = set (set (set usual 5 rp) 6 ras) 7 rc; lacks = o }

together : List Fit
together =
    times 3 7 10 none
    ∷ times 3 7 11 (some 7)
    ∷ times 1 9 10 none
    ∷ times 1 9 11 (some 7)
    ∷ times 9 1 10 none
    ∷ times 9 1 11 (some 7)
    -- at the ends of their ranges
    ∷ times 1 1 1 none
    ∷ times 1 1 2 none
    ∷ times 1 1 3 (some 7)
    ∷ times 10000 10000 10000 none
    ∷ times 1 9999 10000 none
    ∷ times 1 9998 10000 (some 7)
    ∷ times 9999 1 10000 none
    ∷ times 9998 1 10000 (some 7)
    -- a range decides first, of a setting before them and of one behind
    ∷ times 0 7 11 (some 5)
    ∷ times 3 0 11 (some 6)
    ∷ record { settings = set (set usual 7 11) 3 0x02; lacks = some 3 }
    ∷ record { settings = set (set usual 7 11) 8 0; lacks = some 8 }
    ∷ record { settings = set (set usual 7 11) 13 0; lacks = some 13 }
    ∷ record { settings = set (set sleeping 7 11) 14 0; lacks = some 14 }
    ∷ record { settings = set (set sleeping 7 11) 15 0; lacks = some 15 }
    ∷ []

each_limit : map (λ x. bad_setting x.settings) (table ++ together) ≡ map (λ x. x.lacks) (table ++ together)
unfolding table together bad_setting setting_fits
each_limit = refl

shapes : List Case
shapes =
    -- 79 bytes that state 79, and 81 that state 81
    bytes (take 79 (bytes_of ((79 ∷ 14 ∷ 24 ∷ 0 ∷ 80 ∷ 0 ∷ []) ++ usual))) (refuses 1 0)
    ∷ bytes (bytes_of ((81 ∷ 14 ∷ 24 ∷ 0 ∷ 80 ∷ 0 ∷ []) ++ usual) ++ (0 ∷ [])) (refuses 2 0)
    -- header words below what they should be
    ∷ bytes (bytes_of ((80 ∷ 13 ∷ 24 ∷ 0 ∷ 80 ∷ 0 ∷ []) ++ usual)) (refuses 2 0)
    ∷ bytes (bytes_of ((80 ∷ 14 ∷ 20 ∷ 0 ∷ 80 ∷ 0 ∷ []) ++ usual)) (refuses 2 0)
    ∷ bytes (bytes_of ((80 ∷ 14 ∷ 24 ∷ 0 ∷ 72 ∷ 0 ∷ []) ++ usual)) (refuses 2 0)
    -- thirteen and fifteen settings, and settings from byte 28 on, where all else goes with it
    ∷ bytes (bytes_of ((84 ∷ 13 ∷ 24 ∷ 1 ∷ 76 ∷ 0 ∷ []) ++ take 13 usual ++ (0 ∷ NOP ∷ []))) (refuses 2 0)
    ∷ bytes (bytes_of ((84 ∷ 15 ∷ 24 ∷ 0 ∷ 84 ∷ 0 ∷ []) ++ usual ++ (0 ∷ []))) (refuses 2 0)
    ∷ bytes (bytes_of ((84 ∷ 14 ∷ 28 ∷ 0 ∷ 84 ∷ 0 ∷ []) ++ (0 ∷ []) ++ usual)) (refuses 2 0)
    -- an event that is there and not counted
    ∷ bytes (bytes_of ((88 ∷ 14 ∷ 24 ∷ 0 ∷ 80 ∷ 0 ∷ []) ++ usual ++ (0 ∷ NOP ∷ []))) (refuses 2 0)
    -- a cycle above the first and not above the one before, below it or the same
    ∷ case (at 5 NOP ∷ at 7 NOP ∷ at 6 NOP ∷ []) (refuses 4 2)
    ∷ case (at 5 NOP ∷ at 7 NOP ∷ at 7 NOP ∷ []) (refuses 4 2)
    ∷ case (at 5 NOP ∷ at 7 NOP ∷ at 8 NOP ∷ []) (touches 3 [])
    -- the lowest of two events, and pin bits between 20 and 31
    ∷ case (at 0 NOP ∷ at 1 (NOP + 0x200000) ∷ at 2 (NOP + 0x100000) ∷ []) (refuses 4 1)
    ∷ case (at 0 (NOP + 0x8000000) ∷ []) (refuses 4 0)
    -- and bit 20 with no pin high
    ∷ case (at 0 0x100000 ∷ []) (refuses 4 0)
    ∷ []

each-shape : Hold shapes
unfolding shapes said
each-shape = refl

-- ---- 64,080 bytes and N = 8,000, whatever is asked of the capture

module _ {A : Type 0} (capture : List ℕ) (rest : Answer A) where
  -- no header saves a longer one, and none but sixteen settings one of 64,081 to 64,088
  too_long : length capture ≡ 64089 → accepted capture rest ≡ refused 1 0
  unfolding accepted_to length_fits_to
  too_long l = rw l (go (eqb (header_word capture 1) 16) _)
    where
      go : (b : Bool) (x : Answer A) →
          unless 1
          (given 0 (not (leb (capture_size (cond b 16 14) 0) 64089 && leb 64089 (capture_size (cond b 16 14) most_events) && eqb (header_word capture 0) 64089)))
          x ≡ refused 1 0
      go true x = refl
      go false x = refl

  -- lengths of fourteen settings for every count but sixteen
  longer : eqb (header_word capture 1) 16 ≡ false → length capture ≡ 64084 → accepted capture rest ≡ refused 1 0
  unfolding accepted_to length_fits_to
  longer c l = rw (c, l)

  sixteen-longer : header_word capture 1 ≡ 16 → header_word capture 0 ≡ 64084 → length capture ≡ 64084 → accepted capture rest ≡ refused 2 0
  unfolding accepted_to length_fits_to header_fits_to
  sixteen-longer c total l = rw (c, total, l, ne_eqb 64084 (88 + 8 * event_count capture) (λ e. omega arith), and-false _)

  -- of such a one that its header states, only settings and events are left to ask
  longest :
      length capture ≡ 64080 →
      header_word capture 0 ≡ 64080 →
      header_word capture 1 ≡ 14 →
      header_word capture 2 ≡ 24 →
      event_count capture ≡ 8000 →
      header_word capture 4 ≡ 80 →
      header_word capture 5 ≡ 0 →
      accepted capture rest ≡ unless 3 (bad_setting (setting_words capture)) (unless 4 (bad_event (pin_limit capture) (event_bytes capture) 8000) rest)
  unfolding accepted_to length_fits_to header_fits_to
  longest l total settings from events onwards zeros = rw (l, total, settings, from, events, onwards, zeros)

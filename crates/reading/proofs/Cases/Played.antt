-- Captures played against a window: what the window holds and what is read, and what is refused.
use Prim.Native.Nat.{ℕ, ◌+◌}
use mathlib.Core.List.{List, [], ◌∷◌, ◌++◌, map}
use mathlib.Core.Path.{◌≡◌, refl}
use lib.ListN.{take, set, replicate}
use Rattle.reading.specs.Search.{count}
use Rattle.reading.specs.Words.{word_at, word_bytes, bytes_of}
use Rattle.reading.specs.Settings.{setting_fits, bad_setting}
use Rattle.reading.specs.Capture.{setting_words, events_of, length_fits_to, header_fits_to, event_fits, bad_event}
use Rattle.reading.specs.Bursts.{burst_cells, beat_cell, beat_column, place}
use Rattle.reading.specs.Cells.{bursts_of}
use Rattle.reading.specs.Verdict.{judge_by, verdict_by}
use Rattle.reading.specs.Schedule.{capture_in, capture_of, event_words}
use Rattle.reading.specs.Memory.{merged, store, load, store_beats, play, replay_bursts, replay}
use Rattle.reading.specs.Answers.{refused, answered, accepted_to, verdict_in}
use Rattle.reading.specs.Player.{PlayOutcome, data_of, unplayable, event_of_burst, played_on, playing, play_outcome}
use Rattle.reading.proofs.Cases.{ACTIVE, READ, WRITE, PRECHARGE, NOP, LOW, at, usual, sleeping}

-- the words read, of so many that are lent and hold nines; to unfold this is to unfold all that a play is made of
played : List ℕ → ℕ → List ℕ → List ℕ → ℕ → PlayOutcome
unfolding play_outcome playing played_on event_of_burst unplayable data_of replay replay_bursts play store_beats store load merged bursts_of burst_cells beat_cell beat_column place capture_in event_words bytes_of word_bytes word_at setting_words events_of length_fits_to header_fits_to bad_setting setting_fits bad_event event_fits accepted_to verdict_in verdict_by judge_by
played capture first window writes room = play_outcome capture first window writes (replicate room 9)

refuses : ℕ → ℕ → List ℕ → ℕ → PlayOutcome
refuses number place window room = record { answer = refused number place; window = window; reads = replicate room 9 }

-- a write from column 1, and a read of the block
abbrev wrote : List ℕ → List ℕ
wrote settings = capture_of settings (at 0 ACTIVE ∷ at 3 (WRITE + 1) ∷ at 7 READ ∷ [])

abbrev eight : List ℕ
eight = map (λ i. 0xaaaa0000 + i) (count 0 8)

-- four words with these masks
abbrev masked : ℕ → ℕ → ℕ → ℕ → List ℕ
masked a b c d = 0x11111111 ∷ a ∷ 0x22222222 ∷ b ∷ 0x33333333 ∷ c ∷ 0x44444444 ∷ d ∷ []

-- lane code 1: the upper half of a word of the window stays, and is not read; lane code 2; two words of `reads` lie behind
lanes-played : (played (wrote usual) 0 eight (masked 0 1 2 3) 6 ∷ played (wrote (set usual 0 2)) 0 eight (masked 0 1 6 15) 4 ∷ [])
    ≡ (record {
      answer = answered 4;
      window = 0xaaaa0000 ∷ 0xaaaa1111 ∷ 0xaaaa2202 ∷ 0xaaaa0033 ∷ 0xaaaa0004 ∷ 0xaaaa0005 ∷ 0xaaaa0006 ∷ 0xaaaa0007 ∷ [];
      reads = 0x0000 ∷ 0x1111 ∷ 0x2202 ∷ 0x0033 ∷ 9 ∷ 9 ∷ [];
    }
    ∷ record {
      answer = answered 4;
      window = 0xaaaa0000 ∷ 0x11111111 ∷ 0x22222202 ∷ 0x33aa0033 ∷ 0xaaaa0004 ∷ 0xaaaa0005 ∷ 0xaaaa0006 ∷ 0xaaaa0007 ∷ [];
      reads = 0xaaaa0000 ∷ 0x11111111 ∷ 0x22222202 ∷ 0x33aa0033 ∷ [];
    }
    ∷ [])
unfolding played
lanes-played = refl

-- a cut write takes all its words and stores those of its kept beats
cut-played : played (capture_of usual (at 0 ACTIVE ∷ at 3 WRITE ∷ at 4 (WRITE + 8) ∷ at 8 READ ∷ [])) 0 (replicate 12 7)
    (0x100 ∷ 0 ∷ 0x101 ∷ 0 ∷ 0x102 ∷ 0 ∷ 0x103 ∷ 0 ∷ 0x104 ∷ 0 ∷ 0x105 ∷ 0 ∷ 0x106 ∷ 0 ∷ 0x107 ∷ 0 ∷ []) 4
    ≡ record {
      answer = answered 4;
      window = 0x100 ∷ 0x101 ∷ 7 ∷ 7 ∷ 7 ∷ 7 ∷ 7 ∷ 7 ∷ 0x104 ∷ 0x105 ∷ 0x106 ∷ 0x107 ∷ [];
      reads = 0x100 ∷ 0x101 ∷ 7 ∷ 7 ∷ [];
    }
unfolding played
cut-played = refl

-- edition 1: the PRECHARGE behind the READ takes pairs of the write, and the read does not see them; power-down between a write
-- and its read
later-played : (played (capture_in 1 (set (set usual 3 0x34) 9 6) (at 0 ACTIVE ∷ at 3 WRITE ∷ at 9 READ ∷ at 12 PRECHARGE ∷ [])) 0 (replicate 16 7)
    (1 ∷ 0 ∷ 2 ∷ 0 ∷ 3 ∷ 0 ∷ 4 ∷ 0 ∷ 5 ∷ 0 ∷ 6 ∷ 0 ∷ masked 0 0 0 0 ++ masked 0 0 0 0 ++ (7 ∷ 0 ∷ 8 ∷ 0 ∷ [])) 6
    ∷ played (capture_of sleeping (at 0 ACTIVE ∷ at 3 WRITE ∷ at 12 (NOP + LOW) ∷ at 20 NOP ∷ at 22 READ ∷ [])) 0 (replicate 4 7) (masked 0 0 0 0) 4
    ∷ [])
    ≡ (record {
      answer = answered 6;
      window = 1 ∷ 2 ∷ 3 ∷ 4 ∷ replicate 12 7;
      reads = 1 ∷ 2 ∷ 3 ∷ 4 ∷ 7 ∷ 7 ∷ [];
    }
    ∷ record {
      answer = answered 4;
      window = 0x1111 ∷ 0x2222 ∷ 0x3333 ∷ 0x4444 ∷ [];
      reads = 0x1111 ∷ 0x2222 ∷ 0x3333 ∷ 0x4444 ∷ [];
    }
    ∷ [])
unfolding played
later-played = refl

-- reads too short; a mask too few, a word and a mask too few; a window that begins behind the write's cells; 1 to 4 and 8 first
plays-refused : (played (wrote usual) 0 eight (masked 0 1 2 3) 3
    ∷ played (wrote usual) 0 eight (take 7 (masked 0 1 2 3)) 4
    ∷ played (wrote usual) 0 eight (take 6 (masked 0 1 2 3)) 4
    ∷ played (wrote usual) 2 eight (masked 0 1 2 3) 4
    ∷ played (wrote usual) 33554428 (7 ∷ 7 ∷ 7 ∷ 7 ∷ []) [] 0
    -- the window before the events, and these before the room: too far, leaving the part
    ∷ played (wrote usual) 0xffffffff eight [] 0
    ∷ played (wrote usual) 33554428 (7 ∷ 7 ∷ 7 ∷ 7 ∷ 7 ∷ []) [] 0
    -- 8 before 15
    ∷ played (capture_of usual (at 0 ACTIVE ∷ at 2 READ ∷ [])) 0xffffffff eight [] 0
    ∷ played (capture_of usual (at 0 NOP ∷ at 0 NOP ∷ [])) 0xffffffff eight [] 0
    -- the window holds the write and not the read behind it
    ∷ played (capture_of usual (at 0 ACTIVE ∷ at 3 (WRITE + 8) ∷ at 8 READ ∷ [])) 8 (7 ∷ 7 ∷ 7 ∷ 7 ∷ []) (masked 0 0 0 0) 0
    ∷ [])
    ≡ (refuses 7 4 eight 3
    ∷ refuses 15 1 eight 4
    ∷ refuses 15 1 eight 4
    ∷ refuses 15 1 eight 4
    ∷ refuses 15 1 (7 ∷ 7 ∷ 7 ∷ 7 ∷ []) 0
    ∷ refuses 15 0 eight 0
    ∷ refuses 15 0 (7 ∷ 7 ∷ 7 ∷ 7 ∷ 7 ∷ []) 0
    ∷ refuses 8 1 eight 0
    ∷ refuses 4 1 eight 0
    ∷ refuses 15 2 (7 ∷ 7 ∷ 7 ∷ 7 ∷ []) 0
    ∷ [])
unfolding played refuses
plays-refused = refl

-- cells behind the window; the cell right behind it; a write behind a cut one lacks a word, since that one took four
plays-short : (played (capture_of usual (at 0 ACTIVE ∷ at 3 (READ + 4) ∷ [])) 0 (7 ∷ 7 ∷ 7 ∷ 7 ∷ []) [] 4
    ∷ played (capture_of usual (at 0 ACTIVE ∷ at 3 READ ∷ [])) 0 (7 ∷ 7 ∷ 7 ∷ []) [] 4
    ∷ played (capture_of usual (at 0 ACTIVE ∷ at 3 WRITE ∷ at 4 (WRITE + 8) ∷ [])) 0 (replicate 12 7) (masked 0 0 0 0 ++ take 6 (masked 0 0 0 0)) 0
    ∷ [])
    ≡ (refuses 15 1 (7 ∷ 7 ∷ 7 ∷ 7 ∷ []) 4 ∷ refuses 15 1 (7 ∷ 7 ∷ 7 ∷ []) 4 ∷ refuses 15 2 (replicate 12 7) 0 ∷ [])
unfolding played refuses
plays-short = refl

-- so many words may be lent, and not one more
large-windows : ((played (capture_of usual []) 0 (replicate 16384 7) [] 0).answer ∷ (played (capture_of usual []) 0 (replicate 16385 7) [] 0).answer ∷ [])
    ≡ (answered 0 ∷ refused 15 0 ∷ [])
unfolding played
large-windows = refl

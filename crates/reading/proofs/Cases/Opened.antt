-- Which row was open: records, index and answers of some captures, and what is refused.
use Prim.Native.Nat.{ℕ, ◌+◌}
use mathlib.Core.List.{List, [], ◌∷◌, map}
use mathlib.Core.Option.{Option, none, some}
use mathlib.Core.Path.{◌≡◌, refl}
use lib.ListN.{get_or, replicate}
use Rattle.reading.specs.Search.{count}
use Rattle.reading.specs.Words.{word_at, word_bytes, bytes_of}
use Rattle.reading.specs.Settings.{setting_fits, bad_setting}
use Rattle.reading.specs.Capture.{setting_words, events_of, length_fits_to, header_fits_to, event_fits, bad_event}
use Rattle.reading.specs.Verdict.{judge_by, verdict_by}
use Rattle.reading.specs.Schedule.{capture_in, capture_of, event_words}
use Rattle.reading.specs.Answers.{refused, answered, accepted_to, verdict_in}
use Rattle.reading.specs.Openings.{Record, row_after, openings_of, index_of, records_of}
use Rattle.reading.specs.OpenRow.{RowOutcome, index_in, records_in, row_in, open_row_answer, open_row_outcome, looked_up}
use Rattle.reading.proofs.Cases.{ACTIVE, READ, WRITE, PRECHARGE, NOP, A10, LOW, bank, at, usual, sleeping}

abbrev of : ℕ → ℕ → Record
of before count = record { before = before; count = count }

-- lent records, and words of an index, that hold nines
abbrev lent_records : ℕ → List Record
lent_records n = replicate n (of 9 9)

abbrev lent_words : ℕ → List ℕ
lent_words n = replicate n 9

-- bank, event, records, words; to unfold this is to unfold all that the answer is made of
asks : List ℕ → ℕ → ℕ → ℕ → ℕ → RowOutcome
unfolding open_row_outcome open_row_answer index_in records_in row_in row_after openings_of index_of records_of capture_in event_words bytes_of word_bytes word_at setting_words events_of length_fits_to header_fits_to bad_setting setting_fits bad_event event_fits accepted_to verdict_in verdict_by judge_by
asks capture b j records words = open_row_outcome capture b j (lent_records records) (lent_words words)

-- every question about a bank, looked up in the records and the index alone
looks_up : List ℕ → ℕ → ℕ → List (Option ℕ)
unfolding records_in index_in openings_of records_of index_of looked_up capture_in event_words bytes_of word_bytes word_at setting_words events_of
looks_up capture b n = map (looked_up (get_or (records_in capture) b (of 0 0)) (index_in capture)) (count 0 n)

refuses : ℕ → ℕ → ℕ → ℕ → RowOutcome
refuses number place records words = record { answer = refused number place; records = lent_records records; index = lent_words words }

-- two openings of bank 0, one of bank 1
abbrev reopened : List ℕ
reopened =
    capture_of usual
    (at 0 (ACTIVE + 5) ∷ at 2 (ACTIVE + bank 1 + 6) ∷ at 5 READ ∷ at 9 PRECHARGE ∷ at 12 (ACTIVE + 7) ∷ at 13 NOP ∷ [])

-- what is said of it, with a fifth record and a tenth word behind
says : Option ℕ → RowOutcome
says row =
    record {
      answer = answered row;
      records = of 0 2 ∷ of 2 1 ∷ of 3 0 ∷ of 3 0 ∷ of 9 9 ∷ [];
      index = 5 ∷ 0 ∷ 2 ∷ 7 ∷ 4 ∷ 5 ∷ 6 ∷ 1 ∷ 5 ∷ 9 ∷ [];
    }

rows-asked : (asks reopened 0 2 5 10 ∷ asks reopened 0 3 5 10 ∷ asks reopened 0 4 5 10 ∷ asks reopened 1 0 5 10 ∷ [])
    ≡ (says (some 5) ∷ says none ∷ says (some 7) ∷ says none ∷ [])
unfolding asks says
rows-asked = refl

rows-looked-up : (looks_up reopened 0 6 ∷ looks_up reopened 1 6 ∷ looks_up reopened 2 6 ∷ [])
    ≡ ((some 5 ∷ some 5 ∷ some 5 ∷ none ∷ some 7 ∷ some 7 ∷ [])
    ∷ (none ∷ some 6 ∷ some 6 ∷ some 6 ∷ some 6 ∷ some 6 ∷ [])
    ∷ (none ∷ none ∷ none ∷ none ∷ none ∷ none ∷ []) ∷ [])
unfolding looks_up
rows-looked-up = refl

-- auto precharge closes at once, PRECHARGE all; a row stays open in power-down
other-openings : (asks (capture_of usual (at 0 (ACTIVE + 5) ∷ at 3 (READ + A10) ∷ at 10 (ACTIVE + 6) ∷ at 14 WRITE ∷ at 30 (PRECHARGE + A10) ∷ [])) 0 1 4 6
    ∷ asks (capture_of sleeping (at 0 (ACTIVE + bank 2 + 9) ∷ at 1 (NOP + LOW) ∷ at 8 NOP ∷ at 10 (PRECHARGE + bank 2) ∷ [])) 2 2 4 3
    ∷ [])
    ≡ (record { answer = answered none; records = of 0 2 ∷ of 2 0 ∷ of 2 0 ∷ of 2 0 ∷ []; index = 5 ∷ 0 ∷ 0 ∷ 6 ∷ 2 ∷ 3 ∷ [] }
    ∷ record { answer = answered (some 9); records = of 0 0 ∷ of 0 0 ∷ of 0 1 ∷ of 1 0 ∷ []; index = 9 ∷ 0 ∷ 2 ∷ [] }
    ∷ [])
unfolding asks
other-openings = refl

rows-refused : (asks (capture_of usual (at 0 NOP ∷ at 0 NOP ∷ [])) 4 0 0 0
    -- 8 before 13: case b at 2
    ∷ asks (capture_of usual (at 0 ACTIVE ∷ at 2 READ ∷ [])) 4 9 0 0
    -- 13 before 7: a bank above 3, an event at N; no events
    ∷ asks reopened 4 0 0 0
    ∷ asks reopened 0 6 0 0
    ∷ asks (capture_of usual []) 0 0 4 0
    -- 7: the records before the index
    ∷ asks reopened 0 2 3 0
    ∷ asks reopened 0 2 4 8
    ∷ [])
    ≡ (refuses 4 1 0 0 ∷ refuses 8 1 0 0 ∷ refuses 13 0 0 0 ∷ refuses 13 0 0 0 ∷ refuses 13 0 4 0 ∷ refuses 7 4 3 0 ∷ refuses 7 9 4 8 ∷ [])
unfolding asks refuses
rows-refused = refl

-- The part replayed, and the plain memory.
use Rattle.std.specs.Prelude.{ℕ, zero, suc, ◌+◌, ◌*◌, ◌/◌, ◌%◌, ◌^◌, true, cond, List, [], ◌∷◌, ◌++◌, map, take, drop, eqb}
use Rattle.reading.specs.Search.{count}
use Rattle.reading.specs.Words.{bit}
use Rattle.reading.specs.Mode.{BL, h}
use Rattle.reading.specs.Settings.{Settings}
use Rattle.reading.specs.Capture.{Event}
use Rattle.reading.specs.Bursts.{Burst, beat_cell}
use Rattle.reading.specs.Cells.{bursts_of}
use Rattle.reading.specs.Schedule.{asks_write, first_cell, cell_bank, cell_row, cell_column}

-- what each cell holds
abbrev pub Contents : Type 0
Contents = ℕ → ℕ

-- a word to be written and its mask
pub record Datum : Type 0 where
  pub word : ℕ
  pub mask : ℕ

-- lane code 1: 2 bytes wide, 2: 4 bytes
abbrev pub lanes : Settings → ℕ
lanes s = 2 * s.lane

-- lane i is bits 8 i to 8 i + 7
abbrev pub lane_of : ℕ → ℕ → ℕ
lane_of i word = word / 2 ^ (8 * i) % 2 ^ 8

abbrev pub with_lane : ℕ → ℕ → ℕ → ℕ
with_lane i byte word = word / 2 ^ (8 * suc i) * 2 ^ (8 * suc i) + byte * 2 ^ (8 * i) + word % 2 ^ (8 * i)

-- the first n lanes of the new word, where bit i of the mask is 0; the rest is as it was
unfoldable pub merged : ℕ → Datum → ℕ → ℕ
merged zero d old = old
merged (suc i) d old = cond (eqb (bit i d.mask) 0) (with_lane i (lane_of i d.word) (merged i d old)) (merged i d old)

unfoldable pub store : Settings → ℕ → Datum → Contents → Contents
store s cell d m x = cond (eqb x cell) (merged (lanes s) d (m x)) (m x)

unfoldable pub load : Settings → Contents → ℕ → ℕ
load s m cell = m cell % 2 ^ (8 * lanes s)

-- the contents, the words and masks still to be taken, the words returned so far
pub record Run : Type 0 where
  pub contents : Contents
  pub supply : List Datum
  pub returned : List ℕ

-- the beats of a write from beat j on
unfoldable pub store_beats : Settings → Burst → ℕ → List Datum → Contents → Contents
store_beats s x j [] m = m
store_beats s x j (d ∷ ds) m = store_beats s x (suc j) ds (store s (beat_cell s x j) d m)

-- the first `beats` beats of a burst: a write takes BL words and masks and stores those, a read returns those
unfoldable pub play : Settings → ℕ → Burst → Run → Run
play s beats x r =
    cond x.writes
    (record {
      contents = store_beats s x 0 (take beats (take (BL x.mode) r.supply)) r.contents;
      supply = drop (BL x.mode) r.supply;
      returned = r.returned;
    })
    (record {
      contents = r.contents;
      supply = r.supply;
      returned = r.returned ++ map (λ j. load s r.contents (beat_cell s x j)) (count 0 beats);
    })

-- the bursts in event order, their kept beats only
unfoldable pub replay_bursts : Settings → List Burst → Run → Run
replay_bursts s [] r = r
replay_bursts s (x ∷ xs) r = replay_bursts s xs (play s (2 * x.n) x r)

unfoldable pub replay : Settings → List Event → Run → Run
replay s es r = replay_bursts s (bursts_of s es) r

-- the burst that a request asks for, in the settings' mode
abbrev pub requested : Settings → ℕ → Burst
requested s q =
    record {
      writes = asks_write q;
      bank = cell_bank s (first_cell q);
      row = cell_row s (first_cell q);
      column = cell_column s (first_cell q);
      mode = s.mode;
      k = 0;
      n = h s.mode;
      auto = true;
    }

-- all BL beats of each request, in list order
unfoldable pub plain : Settings → List ℕ → Run → Run
plain s [] r = r
plain s (q ∷ qs) r = plain s qs (play s (BL s.mode) (requested s q) r)

-- The openings by pins alone: what an event does to a bank, how many openings there are, how a bank stands, and which openings
-- have ended.
use Rattle.std.specs.Prelude.{ℕ, zero, suc, ◌+◌, ◌-◌, ◌^◌, ◌≤◌, ◌<◌, Bool, cond, ◌&&◌, ◌||◌, List, [], ◌∷◌, ◌++◌, map, ◌≡◌, length, get_or, set, replicate, eqb}
use Rattle.std.specs.Prelude as std
use Rattle.std.specs.Prelude.{Some, None}
use Rattle.std.proofs.Math.Option.{Option, none, some}
use Rattle.reading.specs.Search.{count}
use Rattle.reading.specs.Capture.{Event, event_bytes, event_at}
use Rattle.reading.specs.Openings.{Opening}
use Rattle.pins.specs.Pins.{code_of, bank_of, address_of, ten_of, gives}
use Rattle.beats.specs.Kept.{shuts_bank}
use Rattle.browser.specs.declared.Event as seen
use Rattle.browser.specs.Browsed.{seen_at}
use Rattle.rows.specs.declared.Tally.{Tally}
use Rattle.rows.specs.declared.OpenRow.{OpenRow}

-- the first n events in these bytes, and of a capture
abbrev pub events_among : List ℕ → ℕ → List Event
events_among bytes n = map (event_at bytes) (count 0 n)

abbrev pub events_up_to : List ℕ → ℕ → List Event
events_up_to capture n = events_among (event_bytes capture) n

-- ---- what the pins do to a bank

abbrev pub opens_bank : ℕ → ℕ → Bool
opens_bank b w = eqb (code_of w) 12 && eqb b (bank_of w)

-- PRECHARGE, or READ or WRITE with auto precharge
abbrev pub closes_bank : ℕ → ℕ → Bool
closes_bank b w = shuts_bank b w || (gives w && (eqb b (bank_of w) && ten_of w))

-- ---- how many openings each bank has

abbrev pub none_yet : Tally
none_yet = record { counts = replicate 4 0 }

-- there is room for one more of each
abbrev pub Room : Tally → Type 0
Room t = (b : ℕ) → get_or t.counts b 0 + 1 < 2 ^ 32

-- four counts, none above i
pub record Few (t : Tally) (i : ℕ) : Type 0 where
  pub four : length t.counts ≡ 4
  pub each : (b : ℕ) → get_or t.counts b 0 ≤ i

abbrev pub noted_pins : Tally → ℕ → Tally
noted_pins t w = cond (eqb (code_of w) 12) (record { counts = set t.counts (bank_of w) (get_or t.counts (bank_of w) 0 + 1) }) t

abbrev pub noted_of : Tally → std.Option seen.Event → Tally
noted_of t (Some e) = noted_pins t e.pins
noted_of t None = t

-- n events from event i on
unfoldable pub tallied_from : List ℕ → Tally → ℕ → ℕ → Tally
tallied_from capture t i zero = t
tallied_from capture t i (suc n) = tallied_from capture (noted_of t (seen_at capture i)) (i + 1) n

-- ---- how a bank stands: idle, or open on a row since an event

abbrev pub Standing : Type 0
Standing = std.Option OpenRow

abbrev pub idle : Standing
idle = None

abbrev pub open_row : ℕ → ℕ → Standing
open_row row first = Some (record { row = row; first = first })

abbrev pub stood_of : ℕ → Standing → ℕ → ℕ → Standing
stood_of b x i w = cond (opens_bank b w) (open_row (address_of w) i) (cond (closes_bank b w) idle x)

-- after these events, the first of which is event i
abbrev pub stand_of : ℕ → Standing → ℕ → List Event → Standing
stand_of b x i [] = x
stand_of b x i (e ∷ es) = stand_of b (stood_of b x i e.pins) (suc i) es

abbrev pub stand_after : ℕ → List Event → Standing
stand_after b es = stand_of b idle 0 es

-- the row, or idle
abbrev pub row_stood : Standing → Option ℕ
row_stood None = none
row_stood (Some x) = some x.row

-- ---- the openings that have ended

-- an opening begins before it ends
abbrev pub Begun : Standing → ℕ → Type 0
Begun None end = Unit {0}
Begun (Some x) end = x.first < end

abbrev pub ended : Standing → ℕ → List Opening
ended None end = []
ended (Some x) end = record { row = x.row; first = x.first; last = end - 1 } ∷ []

abbrev pub ended_by : ℕ → Standing → ℕ → ℕ → List Opening
ended_by b x i w = cond (closes_bank b w) (ended x i) []

-- of a bank that stands so, by these events, the first of which is event i, and by their end
abbrev pub opened_from : ℕ → Standing → ℕ → List Event → List Opening
opened_from b x i [] = ended x i
opened_from b x i (e ∷ es) = ended_by b x i e.pins ++ opened_from b (stood_of b x i e.pins) (suc i) es

unfoldable pub opened_by : ℕ → List Event → List Opening
opened_by b es = opened_from b idle 0 es

unfoldable pub opened_by_all : List Event → List Opening
opened_by_all es = opened_by 0 es ++ opened_by 1 es ++ opened_by 2 es ++ opened_by 3 es

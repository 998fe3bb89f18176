-- The pairs that a burst keeps, found by looking ahead at the events behind it.
use Rattle.std.specs.Prelude.{ℕ, ◌+◌, ◌-◌, Bool, cond, not, ◌&&◌, ◌||◌, List, [], ◌∷◌, map, ltb, eqb}
use Rattle.reading.specs.Search.{count, lesser}
use Rattle.reading.specs.Mode.{h}
use Rattle.reading.specs.Settings.{Settings, newer}
use Rattle.reading.specs.Capture.{Event, event_at}
use Rattle.capture.specs.declared.held.Events.{Events}
use Rattle.pins.specs.Pins.{code_of, bank_of, ten_of, gives}

-- of n events those from event i on
abbrev pub events_from : List ℕ → ℕ → ℕ → List Event
events_from bytes n i = map (event_at bytes) (count i (n - i))

-- of the events of an accepted capture event i, and those behind it
abbrev pub at : Events → ℕ → Event
at x i = event_at x.bytes.now i

abbrev pub behind : Events → ℕ → List Event
behind x i = events_from x.bytes.now x.count (i + 1)

-- with A10 high PRECHARGE names all banks
abbrev pub names_bank : ℕ → ℕ → Bool
names_bank bank w = ten_of w || eqb bank (bank_of w)

-- the pins ask for a PRECHARGE of the bank
abbrev pub shuts_bank : ℕ → ℕ → Bool
shuts_bank bank w = eqb (code_of w) 4 && names_bank bank w

-- the pins w cut the burst that the pins b gave
abbrev pub cuts_burst : ℕ → ℕ → Bool
cuts_burst b w = cond (eqb (code_of b) 2) (eqb (code_of w) 2) (eqb (code_of w) 10 || (eqb (code_of w) 6 || shuts_bank (bank_of b) w))

-- of the pairs kept before it, those that an event leaves to a burst given at k
abbrev pub kept_by : ℕ → ℕ → ℕ → Event → ℕ
kept_by b k pairs e = cond (cuts_burst b e.pins) (lesser pairs (e.cycle - k)) pairs

-- those that are left by the events before cycle `end`
unfoldable pub kept_ahead : ℕ → ℕ → ℕ → ℕ → List Event → ℕ
kept_ahead b k end pairs [] = pairs
kept_ahead b k end pairs (e ∷ es) = cond (ltb e.cycle end) (kept_ahead b k end (kept_by b k pairs e) es) pairs

-- the pairs of a burst that can be cut, given by an event in some mode; the events behind it are es
abbrev pub cut_ahead : ℕ → Event → List Event → ℕ
cut_ahead mode e es = kept_ahead e.pins e.cycle (e.cycle + h mode) (h mode) es

-- ---- a write that can be interrupted: it was given at k, of so many pairs

-- what the READ or WRITE that comes first behind it leaves
abbrev pub left_by_burst : Settings → ℕ → ℕ → Event → ℕ
left_by_burst s k pairs e = lesser pairs (e.cycle - cond (eqb (code_of e.pins) 10) (k + 1 + s.t_wtr) k)

unfoldable pub next_leaves : Settings → ℕ → ℕ → List Event → ℕ
next_leaves s k pairs [] = pairs
next_leaves s k pairs (e ∷ es) = cond (gives e.pins) (left_by_burst s k pairs e) (next_leaves s k pairs es)

-- ACTIVE, WRITE and READ with auto precharge of its bank: a PRECHARGE behind it finds another write there, or none, or an idle bank
abbrev pub takes_bank : ℕ → ℕ → Bool
takes_bank bank w = eqb bank (bank_of w) && (eqb (code_of w) 12 || (eqb (code_of w) 2 || (eqb (code_of w) 10 && ten_of w)))

-- what is left by the PRECHARGE of its bank, if that comes before these
unfoldable pub row_leaves : Settings → ℕ → ℕ → ℕ → List Event → ℕ
row_leaves s bank k pairs [] = pairs
row_leaves s bank k pairs (e ∷ es) =
    cond (shuts_bank bank e.pins) (lesser pairs (e.cycle - (k + 1 + s.t_wr)))
    (cond (takes_bank bank e.pins) pairs (row_leaves s bank k pairs es))

abbrev pub interrupted_ahead : Settings → ℕ → Event → List Event → ℕ
interrupted_ahead s mode e es = lesser (next_leaves s e.cycle (h mode) es) (row_leaves s (bank_of e.pins) e.cycle (h mode) es)

-- in the newer edition READ and PRECHARGE interrupt a write without auto precharge
abbrev pub interruptible : Settings → ℕ → Bool
interruptible s w = newer s && (eqb (code_of w) 2 && not (ten_of w))

-- the pairs of any other burst that an event gives, none if it gives none
unfoldable pub kept_whole : ℕ → Event → List Event → ℕ
kept_whole mode e es = cond (gives e.pins) (cond (ten_of e.pins) (h mode) (cut_ahead mode e es)) 0

unfoldable pub kept_of : Settings → ℕ → Event → List Event → ℕ
kept_of s mode e es = cond (interruptible s e.pins) (interrupted_ahead s mode e es) (kept_whole mode e es)

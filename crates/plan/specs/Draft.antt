-- A schedule while it is written, and what one request makes of it: the deadlines of the part, where the schedule stands, and
-- the words of its events, from the front on.
use Rattle.std.specs.Prelude.{ℕ, ◌+◌, ◌*◌, ◌%◌, ◌^◌, Bool, true, cond, List, [], ◌∷◌, ltb, eqb, set}
use Rattle.std.proofs.lemmas.List.Edits.{sets}
use Rattle.reading.specs.Search.{later}
use Rattle.reading.specs.Settings.{Settings}
use Rattle.reading.specs.Commands.{ACTIVE, PRECHARGE, pins_of}
use Rattle.reading.specs.Schedule.{asks_write, first_cell, cell_bank, cell_row, burst_pins, close_all_pins, refresh_pins}
use Rattle.deadlines.specs.Deadlines.{OPENED, OVERDUE, PAIRS, at, pace_of, all_idle, active_after, read_after, write_after, close_after, close_all_after, refresh_after}
use Rattle.plan.specs.Behind.{ROW, READ-END, WRITE-END, FREE, EVENTS}
use Rattle.plan.specs.Soonest.{active_soonest, burst_soonest, close_soonest, close_all_soonest, refresh_soonest}

pub record Draft : Type 0 where
  pub deadlines : List ℕ
  pub standing : List ℕ
  pub words : List ℕ

-- a cycle is a word
unfoldable pub cycle_for : ℕ → ℕ → ℕ
cycle_for free soonest = later free soonest % 2 ^ 32

-- one more event, at t, which leaves the deadlines d and, beside the next free cycle and the count, the standing k
unfoldable pub noted : Draft → ℕ → ℕ → List ℕ → List ℕ → Draft
noted x t pins d k =
    record {
      deadlines = d;
      standing = set (set k FREE (t + 1)) EVENTS (at x.standing EVENTS + 1);
      words = sets x.words (2 * at x.standing EVENTS) (t ∷ pins ∷ []);
    }

-- the first cycle that is free and not before `soonest`
abbrev pub placed_at : Draft → ℕ → ℕ
placed_at x soonest = cycle_for (at x.standing FREE) soonest

-- the end of a burst at t, until which it can be cut
abbrev pub end_of : Bool → Settings → ℕ → ℕ
end_of closed s t = cond closed 0 (t + at (pace_of s.mode) PAIRS)

-- READ or WRITE of bank b at t
abbrev pub burst_after : Bool → Bool → Settings → List ℕ → ℕ → ℕ → List ℕ
burst_after closed write s d t b = cond write (write_after s d (pace_of s.mode) t b closed) (read_after s d (pace_of s.mode) t b closed)

abbrev pub burst_ends : Bool → Bool → Settings → List ℕ → ℕ → List ℕ
burst_ends closed write s k t = cond write (set k WRITE-END (end_of closed s t)) (set k READ-END (end_of closed s t))

module _ (s : Settings) where
  -- ---- the commands

  -- of bank b
  unfoldable pub activating : ℕ → ℕ → Draft → Draft
  activating b row x =
      let t = placed_at x (active_soonest x.deadlines b) in
      noted x t (pins_of ACTIVE b row) (active_after s x.deadlines t b) (set x.standing (ROW + b) row)

  unfoldable pub closing_bank : ℕ → Draft → Draft
  closing_bank b x =
      let t = placed_at x (close_soonest x.deadlines x.standing b) in
      noted x t (pins_of PRECHARGE b 0) (close_after s x.deadlines (pace_of s.mode) t b) x.standing

  unfoldable pub bursting : Bool → Bool → ℕ → ℕ → Draft → Draft
  bursting closed write b pins x =
      let t = placed_at x (burst_soonest write x.deadlines x.standing b) in
      noted x t pins (burst_after closed write s x.deadlines t b) (burst_ends closed write s x.standing t)

  -- what opens the row
  unfoldable pub opening : ℕ → ℕ → Draft → Draft
  opening b row x =
      cond (eqb (at x.deadlines (OPENED + b)) 0) (activating b row x)
      (cond (eqb (at x.standing (ROW + b)) row) x (activating b row (closing_bank b x)))

  unfoldable pub requesting : ℕ → Bool → Draft → Draft
  requesting q closed x =
      let b = cell_bank s (first_cell q) in
      bursting closed (asks_write q) b (burst_pins closed s q) (opening b (cell_row s (first_cell q)) x)

  unfoldable pub closing_all : Draft → Draft
  closing_all x =
      let t = placed_at x (close_all_soonest x.deadlines x.standing) in
      noted x t close_all_pins (close_all_after s x.deadlines (pace_of s.mode) t) x.standing

  unfoldable pub idling : Draft → Draft
  idling x = cond (all_idle x.deadlines) x (closing_all x)

  unfoldable pub refresh_at : Draft → ℕ
  refresh_at x = placed_at x (refresh_soonest x.deadlines)

  -- with all banks idle
  unfoldable pub refreshing_idle : Draft → Draft
  refreshing_idle x = noted x (refresh_at x) refresh_pins (refresh_after s x.deadlines (refresh_at x)) x.standing

  unfoldable pub refreshing : Draft → Draft
  refreshing x = refreshing_idle (idling x)

  -- ---- a request's turn

  -- of an AUTO REFRESH behind a PRECHARGE of all banks
  unfoldable pub closed_refresh_at : Draft → ℕ
  closed_refresh_at x =
      let t = placed_at x (close_all_soonest x.deadlines x.standing) in
      cycle_for (t + 1) (refresh_soonest (close_all_after s x.deadlines (pace_of s.mode) t))

  -- an AUTO REFRESH sent next, the banks closed before it if one is open, comes while at most eight are owed
  unfoldable pub timely : Draft → Bool
  timely x = ltb (cond (all_idle x.deadlines) (refresh_at x) (closed_refresh_at x)) (at x.deadlines OVERDUE)

  -- a draft goes on from what was kept before; words behind it do not matter
  abbrev pub from : Draft → Draft → Draft
  from x tried = record { deadlines = x.deadlines; standing = x.standing; words = tried.words }

  module _ (closed : Bool) (q : ℕ) (x : Draft) where
    abbrev pub alone : Draft
    alone = requesting q closed x

    -- with a refresh before it, worked out anew
    abbrev pub behind : Draft
    behind = requesting q closed (refreshing (from x alone))

    unfoldable pub turned : Draft
    turned = cond (timely alone) alone behind

    -- refresh is kept
    unfoldable pub kept : Bool
    kept = cond (timely alone) true (timely behind)

-- What a play answers fits the bits that it is packed into.
use Prim.Native.Nat.{ℕ, suc, ◌≤◌}
use mathlib.Core.Bool.{Bool, true, false, cond, not}
use mathlib.Core.List.{List, [], ◌∷◌}
use mathlib.Core.Option.{Option, none, some, map}
use mathlib.Core.Path.{◌≡◌, refl}
use native.Mathlib.Omega.{arith}
use lib.Dec.{eqb, ltb}
use lib.ListN.{length}
use Rattle.reading.specs.Search.{given}
use Rattle.reading.specs.Settings.{Settings}
use Rattle.reading.specs.Capture.{Event, most_events, event_count, events_of}
use Rattle.reading.specs.Bursts.{Burst}
use Rattle.reading.specs.Cells.{bursts_of}
use Rattle.reading.specs.Memory.{Run, replay}
use Rattle.reading.specs.Answers.{Answer, answered, unless, settings_in, verdict_in, not_clean, cells_in}
use Rattle.reading.specs.Player.{window_fits, windowed, data_of, unplayable, event_of_burst, played_on, playing, plays, play_outcome}
use Rattle.capture.proofs.Accepted.{accepted-sound}
use Rattle.beats.proofs.Sums.{beats-together, cells-length}
use Rattle.player.proofs.Calling.{returned-length}
use Rattle.morgazell.specs.Packing.{count_told}
use Rattle.morgazell.proofs.Fitting.{Value, Fits, on-accepted, events-length, not-clean-fits, cells-few}

-- the number of an event is at most how many there are
event-few : (es : List Event) (x : Burst) → event_of_burst es x ≤ length es
unfolding event_of_burst
event-few [] x = omega arith
event-few (e ∷ es) x = go (eqb e.cycle x.k) (event-few es x)
  where
    go : (v : Bool) → event_of_burst es x ≤ length es → cond v 0 (suc (event_of_burst es x)) ≤ suc (length es)
    go true l = omega arith
    go false l = omega (arith, l)

-- the words read are among the cells
words-few : (capture : List ℕ) (first : ℕ) (window writes : List ℕ) → event_count capture ≤ 8000 →
    Value (length (played_on (settings_in capture) (events_of capture) first window writes).returned)
unfolding played_on replay cells_in
words-few capture first window writes short =
    let s = settings_in capture in
    let xs = bursts_of s (events_of capture) in
    omega (arith, returned-length s xs (record { contents = windowed first window; supply = data_of writes; returned = [] }), beats-together xs, cells-length s xs, cells-few capture short)

pub play-fits : (capture : List ℕ) (first : ℕ) (window writes reads : List ℕ) → Fits (count_told (play_outcome capture first window writes reads).answer)
unfolding play_outcome playing
play-fits capture first window writes reads =
    on-accepted Played most_events (omega arith) capture _ (λ number place n v. (n, v))
    (λ open-to. go (accepted-sound capture open-to).sized.few (not_clean (verdict_in capture)) refl)
  where
    s : Settings
    s = settings_in capture

    es : List Event
    es = events_of capture

    r : Run
    r = played_on s es first window writes

    Played : Answer Run → Type 0
    Played a = Fits (count_told (plays first window reads a).answer)

    tests : event_count capture ≤ 8000 → (a : Bool) (q : Option Burst) (b : Bool) →
        Played (unless 15 (given 0 a) (unless 15 (map (event_of_burst es) q) (unless 7 (given (length r.returned) b) (answered r))))
    tests short true q b = (omega arith, omega arith)
    tests short false (some x) b = (omega arith, omega (arith, event-few es x, events-length capture (omega arith)))
    tests short false none true = (omega arith, words-few capture first window writes short)
    tests short false none false = words-few capture first window writes short

    go : event_count capture ≤ 8000 → (o : Option ℕ) → not_clean (verdict_in capture) ≡ o → Played (unless 8 o (playing s es first window writes (length reads)))
    go short none e =
        tests short (not (window_fits s first (length window))) (unplayable s first (length window) (length (data_of writes)) (bursts_of s es))
        (ltb (length reads) (length r.returned))
    go short (some place) e = (omega arith, not-clean-fits capture (omega arith) (verdict_in capture) refl place e)

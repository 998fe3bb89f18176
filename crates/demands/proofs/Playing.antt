-- Plays, of whatever `player::play` may answer: refused exactly so, and then both buffers stay; else window and words read are
-- those of the reading's replay, whatever the rest of the part holds; a schedule that is played is the plain memory; and with
-- lane code 1 the upper halves stay.
use Prim.Native.Nat.{ℕ, ◌+◌, ◌-◌, ◌/◌, ◌^◌, ◌<◌}
use mathlib.Core.Bool.{Bool, true, false, not}
use mathlib.Core.List.{List, ◌++◌, map}
use mathlib.Core.Logic.{◌↔◌, ◌⊎◌, inl, inr}
use mathlib.Core.Option
use mathlib.Core.Option.{Option, none, some}
use mathlib.Core.Path.{◌≡◌, refl, sym, ap, ◌∙◌, subst}
use native.Mathlib.Omega.{arith}
use borrow.Author.Tests.{le-leb, leb-true, lt-ltb, ltb-true}
use lib.Dec.{leb, ltb}
use lib.ListN.{length, get_or, take, drop}
use lib.Seq.{take_at, drop_at, get_or-take}
use Rattle.reading.specs.Search.{count, given}
use Rattle.reading.specs.Settings.{Settings, settings_of}
use Rattle.reading.specs.Capture.{Event, most_events, events_of}
use Rattle.reading.specs.Bursts.{Burst, cell_number}
use Rattle.reading.specs.Cells.{bursts_of}
use Rattle.reading.specs.Verdict as is
use Rattle.reading.specs.Memory.{Contents, Run, replay, plain}
use Rattle.reading.specs.Answers.{Answer, refused, answered, unless, accepted, settings_in, verdict_in, not_clean}
use Rattle.reading.specs.Player.{most_window, window_fits, in_window, windowed, data_of, event_of_burst, played_on, playing, plays, PlayOutcome, play_outcome}
use Rattle.reading.proofs.Laws.{both}
use Rattle.reading.proofs.Meaning.{verdict-clean, verdict-broken}
use Rattle.words.proofs.Counting.{at_count}
use Rattle.capture.proofs.Outcome.{not-refused, not-answered, passed}
use Rattle.capture.proofs.Accepted.{accepted-rest, refused-rest, refused-in, answered-in}
use Rattle.player.proofs.Window.{inside}
use Rattle.std.specs.Prelude.{Ok}
use Rattle.demands.specs.Allowed.{Counted, Refuses, Plays, Schedules}
use Rattle.demands.specs.Refused.{opened, Accepted, Clean}
use Rattle.demands.specs.Played.{Within, needed, first_bad, PlayRefused, unopened, unsound, outside, unplayed, unread, starting, Shows}
use Rattle.demands.proofs.Opening.{capture-refused-exactly}
use Rattle.demands.proofs.Scheduling.{schedule-is-memory}
use Rattle.demands.proofs.Windows.{Same, replays-alike, replays-apart, all_in, shows_alike, replays-upper, replays-low}

-- ---- the window

module _ (s : Settings) (first size : ℕ) where
  fits-within : window_fits s first size ≡ true → Within s first size
  fits-within e =
      let two = both (leb size most_window) (leb (first + size) (cell_number s 4 0 0)) e in
      (leb-true size most_window two.0, leb-true (first + size) (cell_number s 4 0 0) two.1)

  within-fits : Within s first size → window_fits s first size ≡ true
  within-fits w = rw (le-leb size most_window w.0, le-leb (first + size) (cell_number s 4 0 0) w.1)

-- ---- refused exactly so

module _ (capture : List ℕ) (first : ℕ) (window writes reads : List ℕ) where
  abbrev s : Settings
  s = settings_in capture

  abbrev es : List Event
  es = events_of capture

  abbrev r : Run
  r = played_on s es first window writes

  abbrev most : ℕ
  most = needed capture first window writes

  -- by what is known of the capture, the window, the bursts and the room
  abbrev by : Option ℕ → Bool → Option Burst → Bool → Answer Run
  by o fits bad short = unless 8 o (unless 15 (given 0 (not fits)) (unless 15 (Option.map (event_of_burst es) bad) (unless 7 (given most short) (answered r))))

  abbrev rest : Answer Run
  rest = by (not_clean (verdict_in capture)) (window_fits s first (length window)) (first_bad capture first window writes) (ltb (length reads) most)

  outcome-is : play_outcome capture first window writes reads ≡ plays first window reads (accepted capture rest)
  unfolding play_outcome playing
  outcome-is = refl

  -- a refusal is that of the answer, and leaves both buffers
  plays-refused : (x : Answer Run) {number place : ℕ} → (plays first window reads x).answer ≡ refused number place →
      (x ≡ refused number place) × (((plays first window reads x).window ≡ window) × ((plays first window reads x).reads ≡ reads))
  plays-refused (refused k p) e = (cc, (refl, refl))
  plays-refused (answered q) e = not-refused e

  answer-of : {number place : ℕ} → (play_outcome capture first window writes reads).answer ≡ refused number place → accepted capture rest ≡ refused number place
  answer-of e = (plays-refused (accepted capture rest) (ap (λ (o : PlayOutcome). o.answer) (sym outcome-is) ∙ e)).0

  refuses : {number place : ℕ} → accepted capture rest ≡ refused number place → (play_outcome capture first window writes reads).answer ≡ refused number place
  refuses e = ap (λ (o : PlayOutcome). o.answer) outcome-is ∙ ap (λ (x : Answer Run). (plays first window reads x).answer) e

  module _ (number place : ℕ) where
    play-case : (play_outcome capture first window writes reads).answer ≡ refused number place → PlayRefused capture first window writes reads number place
    unfolding verdict_in
    play-case k = go (refused-in most_events capture rest (answer-of k))
      where
        tests : Accepted capture → Clean capture → (fits : Bool) (bad : Option Burst) (short : Bool) → window_fits s first (length window) ≡ fits →
            first_bad capture first window writes ≡ bad → ltb (length reads) most ≡ short → by none fits bad short ≡ refused number place →
            PlayRefused capture first window writes reads number place
        tests h c false bad short f g l e =
            let n : 15 ≡ number = cc in
            let p : 0 ≡ place = cc in
            outside h c (λ w. let z : true ≡ false = sym (within-fits s first (length window) w) ∙ f in no_such z) (sym n) (sym p)
          where
            no_such : true ≡ false → ⊥
            no_such z = let one : ◌≡◌ {A = ℕ} 0 1 = cc in omega (arith, one)
        tests h c true (some x) short f g l e =
            let n : 15 ≡ number = cc in
            let p : event_of_burst es x ≡ place = cc in
            unplayed h c (fits-within s first (length window) f) x g (sym n) (sym p)
        tests h c true none true f g l e =
            let n : 7 ≡ number = cc in
            let p : most ≡ place = cc in
            unread h c (fits-within s first (length window) f) g (sym n) (sym p) (omega (arith, p, ltb-true (length reads) most l))
        tests h c true none false f g l e = not-refused e

        decided : Accepted capture → (v : is.Verdict) → verdict_in capture ≡ v →
            by (not_clean v) (window_fits s first (length window)) (first_bad capture first window writes) (ltb (length reads) most) ≡ refused number place →
            PlayRefused capture first window writes reads number place
        decided h is.clean e k =
            tests h ((verdict-clean s es).0 e) (window_fits s first (length window)) (first_bad capture first window writes) (ltb (length reads) most) refl refl refl k
        decided h (is.broken rule event cycle) e k =
            let n : 8 ≡ number = cc in
            let p : event ≡ place = cc in
            unsound h (sym n) rule cycle ((verdict-broken s es rule place cycle).0 (e ∙ ap (λ (i : ℕ). is.broken rule i cycle) p))

        go : (opened capture ≡ refused number place) ⊎ (Accepted capture × (rest ≡ refused number place)) → PlayRefused capture first window writes reads number place
        go (inl h) = unopened ((capture-refused-exactly capture number place).0 h)
        go (inr (h, e)) = decided h (verdict_in capture) refl e

    judged-as : Accepted capture → (v : is.Verdict) → verdict_in capture ≡ v →
        accepted capture rest ≡ by (not_clean v) (window_fits s first (length window)) (first_bad capture first window writes) (ltb (length reads) most)
    judged-as h v e =
        accepted-rest capture rest h
        ∙ ap (λ (w : is.Verdict). by (not_clean w) (window_fits s first (length window)) (first_bad capture first window writes) (ltb (length reads) most)) e

    of-clean : Accepted capture → Clean capture → {fits : Bool} {bad : Option Burst} {short : Bool} → window_fits s first (length window) ≡ fits →
        first_bad capture first window writes ≡ bad → ltb (length reads) most ≡ short → accepted capture rest ≡ by none fits bad short
    unfolding verdict_in
    of-clean h c f g l = judged-as h is.clean ((verdict-clean s es).1 c) ∙ (λ i. by none (f i) (g i) (l i))

    case-play : PlayRefused capture first window writes reads number place → (play_outcome capture first window writes reads).answer ≡ refused number place
    unfolding verdict_in
    case-play (unopened c) = refuses (refused-rest capture rest ((capture-refused-exactly capture number place).1 c))
    case-play (unsound h n rule cycle b) =
        refuses (judged-as h (is.broken rule place cycle) ((verdict-broken s es rule place cycle).1 b) ∙ ap (λ (k : ℕ). refused k place) (sym n))
    case-play (outside h c w n p) =
        refuses
        (of-clean h c (unfit (window_fits s first (length window)) refl) refl refl ∙ (λ i. refused (sym n i) (sym p i)))
      where
        unfit : (v : Bool) → window_fits s first (length window) ≡ v → window_fits s first (length window) ≡ false
        unfit true e = absurd (w (fits-within s first (length window) e))
        unfit false e = e
    case-play (unplayed h c w x g n p) =
        refuses (of-clean h c (within-fits s first (length window) w) g refl ∙ (λ i. refused (sym n i) (sym p i)))
    case-play (unread h c w g n p l) =
        refuses
        (of-clean h c (within-fits s first (length window) w) g (lt-ltb (length reads) most (omega (arith, p, l))) ∙ (λ i. refused (sym n i) (sym p i)))

pub play-refused-exactly : (capture : List ℕ) (first : ℕ) (window writes reads : List ℕ) (q : Counted) (left words : List ℕ) →
    Plays capture first window writes reads q left words → (number place : ℕ) →
    Refuses q number place ↔ PlayRefused capture first window writes reads number place
play-refused-exactly capture first window writes reads q left words a number place = (
  λ e. play-case capture first window writes reads number place (sym a.0 ∙ e),
  λ c. a.0 ∙ case-play capture first window writes reads number place c,
)

-- Refused, it leaves the window and the words read as they were.
pub play-refused : (capture : List ℕ) (first : ℕ) (window writes reads left words : List ℕ) (number place : ℕ) →
    (q : Counted) → Refuses q number place → Plays capture first window writes reads q left words → (left ≡ window) × (words ≡ reads)
play-refused capture first window writes reads left words number place q e a =
    let is = outcome-is capture first window writes reads in
    let kept = (plays-refused capture first window writes reads (accepted capture (rest capture first window writes reads))
    (ap (λ (o : PlayOutcome). o.answer) (sym is) ∙ sym a.0 ∙ e)).1 in
    (a.1.0 ∙ ap (λ (o : PlayOutcome). o.window) is ∙ kept.0, a.1.1 ∙ ap (λ (o : PlayOutcome). o.reads) is ∙ kept.1)

-- ---- what was played

module _ (capture : List ℕ) (first : ℕ) (window writes reads left words : List ℕ) (k : ℕ)
    (a : Plays capture first window writes reads (Ok k) left words) where
  abbrev run : Run
  run = r capture first window writes reads

  record Answered : Type 0 where
    playable : first_bad capture first window writes ≡ none
    counted : k ≡ length run.returned
    cells : left ≡ map run.contents (count first (length window))
    read : words ≡ run.returned ++ drop (length run.returned) reads

  answered-so : Answered
  answered-so = go (accepted capture (rest capture first window writes reads)) refl (ap (λ (o : PlayOutcome). o.answer) (sym is) ∙ sym a.0)
    where
      is : play_outcome capture first window writes reads ≡ plays first window reads (accepted capture (rest capture first window writes reads))
      is = outcome-is capture first window writes reads

      go : (x : Answer Run) → accepted capture (rest capture first window writes reads) ≡ x → (plays first window reads x).answer ≡ answered k → Answered
      go (refused number place) f e = not-answered e
      go (answered q) f e =
          let sound = (passed 8 (not_clean (verdict_in capture)) _ (answered-in most_events capture (rest capture first window writes reads) f).1).1 in
          let fit = (passed 15 (given 0 (not (window_fits (settings_in capture) first (length window)))) _ sound).1 in
          let can = passed 15 (Option.map (event_of_burst (events_of capture)) (first_bad capture first window writes)) _ fit in
          let room = (passed 7 (given (most capture first window writes reads) (ltb (length reads) (most capture first window writes reads))) _ can.1).1 in
          let same : run ≡ q = cc in
          let all = is ∙ ap (plays first window reads) (f ∙ ap answered (sym same)) in
          record {
            playable = none-mapped (first_bad capture first window writes) can.0;
            counted = let n : length q.returned ≡ k = cc in sym n ∙ ap (λ (p : Run). length p.returned) (sym same);
            cells = a.1.0 ∙ ap (λ (o : PlayOutcome). o.window) all;
            read = a.1.1 ∙ ap (λ (o : PlayOutcome). o.reads) all;
          }
        where
          none-mapped : (o : Option Burst) → Option.map (event_of_burst (events_of capture)) o ≡ none → o ≡ none
          none-mapped none g = refl
          none-mapped (some x) g = let zero_one : ◌≡◌ {A = ℕ} 0 1 = cc in absurd (omega arith)

  -- whatever the rest of the part holds
  module _ (m : Contents) (agrees : (i : ℕ) → i < length window → m (first + i) ≡ get_or window i 0) where
    abbrev bursts : List Burst
    bursts = bursts_of (settings_in capture) (events_of capture)

    abbrev whole : Run
    whole = replay (settings_in capture) (events_of capture) (starting m writes)

    alike : Same (settings_in capture) (in_window first (length window)) run whole
    unfolding played_on replay
    alike =
        replays-alike (settings_in capture) (in_window first (length window)) bursts
        (all_in (settings_in capture) first (length window) (length (data_of writes)) bursts answered-so.playable)
        (starting (windowed first window) writes) (starting m writes)
        (record { supply = refl; returned = refl; contents = inside-same })
      where
        inside-same : (y : ℕ) → in_window first (length window) y ≡ true → windowed first window y ≡ m y
        inside-same y h =
            let two = inside first (length window) y h in
            sym (agrees (y - first) (omega (arith, two.0, two.1))) ∙ ap m (omega (arith, two.0))

    replays-so : Shows first window reads left words k m whole
    unfolding replay
    replays-so =
        record {
          cells =
              answered-so.cells
              ∙ shows_alike first (length window) run.contents whole.contents
              (λ i l. alike.contents (first + i) (rw (le-leb first (first + i) (omega arith), lt-ltb (first + i) (first + length window) (omega (arith, l)))));
          others = λ y f.
              replays-apart (settings_in capture) (in_window first (length window)) bursts
              (all_in (settings_in capture) first (length window) (length (data_of writes)) bursts answered-so.playable) (starting m writes) y f;
          read =
              ap (take k) answered-so.read
              ∙ take_at run.returned (drop (length run.returned) reads) k (sym answered-so.counted)
              ∙ alike.returned;
          counted = answered-so.counted ∙ ap length alike.returned;
          behind =
              ap (drop k) answered-so.read
              ∙ drop_at run.returned (drop (length run.returned) reads) k (sym answered-so.counted)
              ∙ ap (λ (n : ℕ). drop n reads) (sym answered-so.counted);
        }

  -- with lane code 1
  module _ (e : (settings_in capture).lane ≡ 1) where
    upper-so : (i : ℕ) → i < length window → get_or left i 0 / 2 ^ 16 ≡ get_or window i 0 / 2 ^ 16
    unfolding played_on replay
    upper-so i l =
        let here : first + i - first ≡ i = omega arith in
        ap (λ (ws : List ℕ). get_or ws i 0 / 2 ^ 16) answered-so.cells
        ∙ ap (λ (w : ℕ). w / 2 ^ 16) (at_count run.contents 0 first (length window) i l)
        ∙ replays-upper (settings_in capture) e (bursts_of (settings_in capture) (events_of capture)) (starting (windowed first window) writes) (first + i)
        ∙ ap (λ (j : ℕ). get_or window j 0 / 2 ^ 16) here

    low-so : (i : ℕ) → i < k → get_or words i 0 < 2 ^ 16
    unfolding played_on replay
    low-so i l =
        let front : take k words ≡ run.returned =
        ap (take k) answered-so.read ∙ take_at run.returned (drop (length run.returned) reads) k (sym answered-so.counted) in
        subst (λ (w : ℕ). w < 2 ^ 16) (ap (λ (ws : List ℕ). get_or ws i 0) (sym front) ∙ get_or-take k words i 0 l)
        (replays-low (settings_in capture) e (bursts_of (settings_in capture) (events_of capture)) (starting (windowed first window) writes) (λ j. omega arith) i)

-- For any contents that agree with the window, window and words read are those of the replay; cells outside and words behind stay.
pub play-replays : (capture : List ℕ) (first : ℕ) (window writes reads left words : List ℕ) (k : ℕ) →
    Plays capture first window writes reads (Ok k) left words → (m : Contents) → ((i : ℕ) → i < length window → m (first + i) ≡ get_or window i 0) →
    Shows first window reads left words k m (replay (settings_in capture) (events_of capture) (starting m writes))
play-replays capture first window writes reads left words k a m agrees = replays-so capture first window writes reads left words k a m agrees

-- A schedule, by either policy, played with the requests' words is the plain memory on the window.
pub play-of-schedule : (ws qs : List ℕ) (policy : ℕ) (out bytes : List ℕ) (n : ℕ) → Schedules ws qs policy out (Ok n) bytes →
    (first : ℕ) (window writes reads left words : List ℕ) (k : ℕ) → Plays (take n bytes) first window writes reads (Ok k) left words →
    (m : Contents) → ((i : ℕ) → i < length window → m (first + i) ≡ get_or window i 0) →
    Shows first window reads left words k m (plain (settings_of ws) qs (starting m writes))
play-of-schedule ws qs policy out bytes n scheduled first window writes reads left words k a m agrees =
    subst (Shows first window reads left words k m) (schedule-is-memory ws qs policy out bytes n scheduled (starting m writes)) (replays-so (take n bytes) first window writes reads left words k a m agrees)

-- With lane code 1 the upper half of every word of the window stays, and every word read has zeros there.
pub upper-half : (capture : List ℕ) (first : ℕ) (window writes reads left words : List ℕ) (k : ℕ) →
    Plays capture first window writes reads (Ok k) left words → (settings_in capture).lane ≡ 1 →
    ((i : ℕ) → i < length window → get_or left i 0 / 2 ^ 16 ≡ get_or window i 0 / 2 ^ 16) × ((i : ℕ) → i < k → get_or words i 0 < 2 ^ 16)
upper-half capture first window writes reads left words k a e = (upper-so capture first window writes reads left words k a e, low-so capture first window writes reads left words k a e)

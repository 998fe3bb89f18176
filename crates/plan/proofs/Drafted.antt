-- A draft keeps what a schedule needs of its events: each command, each request and each turn on the draft is that of document 01.
use Prim.Native.Nat.{ℕ, zero, suc, ◌+◌, ◌*◌, ◌%◌, ◌^◌, ◌≤◌, ◌<◌}
use mathlib.Core.Bool.{Bool, true, false, cond, not, ◌&&◌}
use mathlib.Core.List.{List, [], ◌∷◌, ◌++◌, append_assoc}
use mathlib.Core.Option.{none, some}
use mathlib.Core.Path.{◌≡◌, refl, sym, ap, ◌∙◌}
use native.Mathlib.Nat.{mod-eq_of_lt}
use native.Mathlib.Numerals.{add-one}
use native.Mathlib.Omega.{arith}
use lib.Dec.{ltb, eqb}
use lib.ListN.{length, take, set, length-set, length-append}
use lib.Seq.{sets, length-sets, take-append_seam, take-take, take-suc-set, take-set-le}
use Rattle.reading.specs.Settings.{Settings}
use Rattle.reading.specs.Capture.{Event}
use Rattle.reading.specs.Rules.{every_bank, placing}
use Rattle.reading.specs.Schedule.{asks_write, first_cell, cell_bank, cell_row, request_fits, active_pins, burst_pins, close_pins, close_all_pins, row_commands}
use Rattle.reading.specs.Schedule.{free_from, placed, send, send_all, send_request, send_refresh, refresh_in_time, served, event_words}
use Rattle.words.proofs.Events.{words-length, words_append}
use Rattle.deadlines.specs.Deadlines.{OPENED, OVERDUE, at, pace_of, all_idle, active_after, close_after, close_all_after, refresh_after}
use Rattle.bridge.specs.Summary.{summary}
use Rattle.bridge.proofs.Laid as laid
use Rattle.bridge.proofs.Tests.{open_is}
use Rattle.memory.proofs.Pins.{bank-small}
use Rattle.plan.specs.Behind.{ROW, FREE, EVENTS, stood, part_of, deadlines_of, standing_of}
use Rattle.plan.specs.Margin.{margin_of}
use Rattle.plan.specs.Soonest.{active_soonest, burst_soonest, close_soonest, close_all_soonest, refresh_soonest}
use Rattle.plan.specs.Draft.{Draft, cycle_for, noted, placed_at, burst_after, burst_ends, activating, closing_bank, bursting, opening, requesting}
use Rattle.plan.specs.Draft.{closing_all, idling, refresh_at, refreshing_idle, refreshing, closed_refresh_at, timely, from, alone, behind, turned, kept}
use Rattle.plan.proofs.Ranged.{Ranged}
use Rattle.plan.proofs.Sending.{length-sent}
use Rattle.plan.proofs.Reached.{Reached, Sent}
use Rattle.plan.proofs.Awake.{awake-now}
use Rattle.plan.proofs.Placed.{Open, OnRow, refresh-sent, close-all-sent, close-sent, close-shuts, active-sent, burst-sent}
use Rattle.plan.proofs.Leading.{overdue_of, rowed, Requested, requested, request-is, idled, all-idle, refresh-is, refreshed_at, Refreshed, refreshed, in-time, far-in-time}

-- ---- the words of the events

-- two words more
more-words : (n t pins : ℕ) (w front : List ℕ) → 2 * suc n ≤ length w → take (2 * n) w ≡ front →
    take (2 * suc n) (sets w (2 * n) (t ∷ pins ∷ [])) ≡ front ++ (t ∷ pins ∷ [])
more-words n t pins w front room e =
    let two : 2 * suc n ≡ suc (suc (2 * n)) = omega arith in
    ap (λ (m : ℕ). take m (sets w (2 * n) (t ∷ pins ∷ []))) two
    ∙ take-suc-set (set w (2 * n) t) (suc (2 * n)) pins (omega (arith, length-set w (2 * n) t))
    ∙ ap (λ (l : List ℕ). l ++ (pins ∷ [])) (take-suc-set w (2 * n) t (omega arith) ∙ ap (λ (l : List ℕ). l ++ (t ∷ [])) e)
    ∙ append_assoc front (t ∷ []) (pins ∷ [])

-- what is below stays
below_stays : (i j t pins : ℕ) (w : List ℕ) → i ≤ j → take i (sets w j (t ∷ pins ∷ [])) ≡ take i w
below_stays i j t pins w h = take-set-le i (set w j t) (suc j) pins (omega arith) ∙ take-set-le i w j t h

-- ---- a draft of some events

pub record Drafted (s : Settings) (es : List Event) (x : Draft) : Type 0 where
  pub deadlines : x.deadlines ≡ deadlines_of s es
  pub standing : x.standing ≡ standing_of s es
  pub words : take (2 * length es) x.words ≡ event_words es

-- more events on it: the words before stay, and there are as many
pub record Drafts (s : Settings) (es : List Event) (x : Draft) (next : List Event) (y : Draft) : Type 0 where
  pub drafted : Drafted s next y
  pub before : take (2 * length es) y.words ≡ take (2 * length es) x.words
  pub room : length y.words ≡ length x.words
  pub longer : length es ≤ length next

drafts-none : {s : Settings} {es : List Event} {x : Draft} → Drafted s es x → Drafts s es x es x
drafts-none v = record { drafted = v; before = refl; room = refl; longer = omega arith }

drafts-on : {s : Settings} {es mid next : List Event} {x y z : Draft} → Drafts s es x mid y → Drafts s mid y next z → Drafts s es x next z
drafts-on {es = es} {mid = mid} {y = y} {z = z} a b =
    let l : 2 * length es ≤ 2 * length mid = omega (arith, a.longer) in
    record {
      drafted = b.drafted;
      before =
          sym (take-take (2 * length es) (2 * length mid) z.words l) ∙ ap (take (2 * length es)) b.before
          ∙ take-take (2 * length es) (2 * length mid) y.words l ∙ a.before;
      room = b.room ∙ a.room;
      longer = omega (arith, a.longer, b.longer);
    }

-- ---- one command

free-kept : (s : Settings) (es : List Event) → at (standing_of s es) FREE ≡ free_from 0 es
unfolding standing_of
free-kept s es = refl

count_kept : (s : Settings) (es : List Event) → at (standing_of s es) EVENTS ≡ length es
unfolding standing_of
count_kept s es = refl

-- no cycle of so many events is near the end of the 32-bit words
cycle-is : {s : Settings} {asked now : List ℕ} {es : List Event} {pins soonest : ℕ} {d k : ℕ → List ℕ} → Reached s asked es → Sent s now es pins soonest d k →
    length es ≤ 10000 → cycle_for (free_from 0 es) soonest ≡ placed placing s es pins
unfolding cycle_for
cycle-is r w few = ap (λ (t : ℕ). t % 2 ^ 32) (sym w.cycle) ∙ mod-eq_of_lt (omega (arith, w.soon, w.short, r.early))

sent-words : (s : Settings) (es : List Event) (pins : ℕ) → event_words es ++ (placed placing s es pins ∷ pins ∷ []) ≡ event_words (send placing s es pins)
unfolding send event_words
sent-words s es pins = sym (words_append es (record { cycle = placed placing s es pins; pins = pins } ∷ []))

module _ {s : Settings} {now : List ℕ} {es : List Event} {pins soonest : ℕ} {d k : ℕ → List ℕ} (w : Sent s now es pins soonest d k)
    {x : Draft} (v : Drafted s es x) (room : 2 * suc (length es) ≤ length x.words) where
  drafts-sent : {t : ℕ} → t ≡ placed placing s es pins → {d' k' : List ℕ} → d' ≡ d (placed placing s es pins) → k' ≡ k (placed placing s es pins) →
      Drafts s es x (send placing s es pins) (noted x t pins d' k')
  unfolding noted
  drafts-sent {t} tt dd kk =
      let n = length es in
      let counted : at x.standing EVENTS ≡ n = ap (λ (l : List ℕ). at l EVENTS) v.standing ∙ count_kept s es in
      record {
        drafted =
            record {
              deadlines = dd ∙ sym w.leaves;
              standing =
                  (λ i. set (set (kk i) FREE ((add-one t ∙ ap suc tt) i)) EVENTS ((ap (λ (m : ℕ). m + 1) counted ∙ add-one n) i))
                  ∙ sym w.stands;
              words =
                  (λ i. take (2 * length-sent s es pins i) (sets x.words (2 * counted i) (tt i ∷ pins ∷ [])))
                  ∙ more-words n (placed placing s es pins) pins x.words (event_words es) room v.words
                  ∙ sent-words s es pins;
            };
        before = ap (λ (m : ℕ). take (2 * n) (sets x.words (2 * m) (t ∷ pins ∷ []))) counted ∙ below_stays (2 * n) (2 * n) t pins x.words (omega arith);
        room = length-sets x.words (2 * at x.standing EVENTS) (t ∷ pins ∷ []);
        longer = omega (arith, length-sent s es pins);
      }

-- ---- the commands of a request

at_row : (row : ℕ → ℕ) (reads writes free events b : ℕ) → b < 4 → at (stood row reads writes free events) (ROW + b) ≡ row b
at_row row reads writes free events zero l = refl
at_row row reads writes free events (suc zero) l = refl
at_row row reads writes free events (suc (suc zero)) l = refl
at_row row reads writes free events (suc (suc (suc zero))) l = refl
at_row row reads writes free events (suc (suc (suc (suc b)))) l = absurd (omega arith)

module _ {s : Settings} (g : Ranged s) {asked : List ℕ} {es : List Event} (r : Reached s asked es) {x : Draft} (v : Drafted s es x)
    (few : length es ≤ 10000) where
  -- the cycle of a command whose waits are read off the draft
  placed-is : {now : List ℕ} {pins : ℕ} (soonest : List ℕ → List ℕ → ℕ) {d k : ℕ → List ℕ} →
      Sent s now es pins (soonest (deadlines_of s es) (standing_of s es)) d k → placed_at x (soonest x.deadlines x.standing) ≡ placed placing s es pins
  placed-is soonest w =
      (λ i. cycle_for (at (v.standing i) FREE) (soonest (v.deadlines i) (v.standing i)))
      ∙ ap (λ (f : ℕ). cycle_for f (soonest (deadlines_of s es) (standing_of s es))) (free-kept s es) ∙ cycle-is r w few

  module _ (q : ℕ) (fits : request_fits s q ≡ true) (room : 2 * suc (length es) ≤ length x.words) where
    abbrev bank : ℕ
    bank = cell_bank s (first_cell q)

    drafts-active : ((part_of s es).banks bank).opened ≡ false → Drafts s es x (send placing s es (active_pins s q)) (activating s bank (cell_row s (first_cell q)) x)
    unfolding activating
    drafts-active idle =
        let w = active-sent g r q fits idle in
        let t = placed-is (λ d k. active_soonest d bank) w in
        drafts-sent w v room t (λ i. active_after s (v.deadlines i) (t i) bank) (λ i. set (v.standing i) (ROW + bank) (cell_row s (first_cell q)))

    drafts-close : Open s q es → Drafts s es x (send placing s es (close_pins s q)) (closing_bank s bank x)
    unfolding closing_bank
    drafts-close o =
        let w = close-sent g r q fits o in
        let t = placed-is (λ d k. close_soonest d k bank) w in
        drafts-sent w v room t (λ i. close_after s (v.deadlines i) (pace_of s.mode) (t i) bank) v.standing

    drafts-burst : (closed : Bool) → OnRow s q es → Drafts s es x (send placing s es (burst_pins closed s q)) (bursting s closed (asks_write q) bank (burst_pins closed s q) x)
    unfolding bursting
    drafts-burst closed o =
        let w = burst-sent g r q fits closed o in
        let t = placed-is (λ d k. burst_soonest (asks_write q) d k bank) w in
        drafts-sent w v room t (λ i. burst_after closed (asks_write q) s (v.deadlines i) (t i) bank) (λ i. burst_ends closed (asks_write q) s (v.standing i) (t i))

  -- what the draft tells of the request's bank
  module _ (q : ℕ) (fits : request_fits s q ≡ true) where
    told-open : eqb (at x.deadlines (OPENED + cell_bank s (first_cell q))) 0 ≡ not ((part_of s es).banks (cell_bank s (first_cell q))).opened
    unfolding deadlines_of
    told-open =
        let b = cell_bank s (first_cell q) in
        ap (λ (d : List ℕ). eqb (at d (OPENED + b)) 0) v.deadlines
        ∙ ap (λ (n : ℕ). eqb n 0) (laid.stands (summary s (part_of s es)) b (bank-small s g.sized q fits)).opened
        ∙ open_is ((part_of s es).banks b).opened

    told-row : at x.standing (ROW + cell_bank s (first_cell q)) ≡ ((part_of s es).banks (cell_bank s (first_cell q))).row
    unfolding standing_of
    told-row =
        let b = cell_bank s (first_cell q) in
        ap (λ (k : List ℕ). at k (ROW + b)) v.standing
        ∙ at_row (λ i. ((part_of s es).banks i).row) _ _ _ _ b (bank-small s g.sized q fits)

  told-idle : all_idle x.deadlines ≡ every_bank (λ b. not ((part_of s es).banks b).opened)
  unfolding deadlines_of
  told-idle =
      let o : ℕ → Bool = λ b. ((part_of s es).banks b).opened in
      ap all_idle v.deadlines ∙ (λ i. open_is (o 0) i && (open_is (o 1) i && (open_is (o 2) i && open_is (o 3) i)))

  told-overdue : at x.deadlines OVERDUE ≡ overdue_of s es
  unfolding deadlines_of
  told-overdue =
      ap (λ (d : List ℕ). at d OVERDUE) v.deadlines ∙ ap (λ (asleep : Bool). cond asleep 0 (overdue_of s es)) (awake-now r)

-- ---- a request

module _ {s : Settings} (g : Ranged s) (q : ℕ) (fits : request_fits s q ≡ true) where
  abbrev own : ℕ
  own = cell_bank s (first_cell q)

  drafts-row : {asked : List ℕ} {es : List Event} (r : Reached s asked es) {x : Draft} → Drafted s es x → length es ≤ 9000 →
      2 * (length es + 2) ≤ length x.words → Drafts s es x (send_all placing s es (row_commands s ((part_of s es).banks own) q)) (opening s own (cell_row s (first_cell q)) x)
  unfolding opening send_all
  drafts-row {es = es} r {x} v few room =
      go ((part_of s es).banks own).opened refl (told-open g r v (omega arith) q fits)
      (eqb ((part_of s es).banks own).row (cell_row s (first_cell q))) refl
      (ap (λ (n : ℕ). eqb n (cell_row s (first_cell q))) (told-row g r v (omega arith) q fits))
    where
      go : (o : Bool) → ((part_of s es).banks own).opened ≡ o → {o' : Bool} → o' ≡ not o →
          (e : Bool) → eqb ((part_of s es).banks own).row (cell_row s (first_cell q)) ≡ e → {e' : Bool} → e' ≡ e →
          Drafts s es x (send_all placing s es (cond (not o) (active_pins s q ∷ []) (cond e [] (close_pins s q ∷ active_pins s q ∷ []))))
          (cond o' (activating s own (cell_row s (first_cell q)) x) (cond e' x (activating s own (cell_row s (first_cell q)) (closing_bank s own x))))
      go false k oo e m ee = rw oo (drafts-active g r v (omega arith) q fits (omega arith) k)
      go true k oo true m ee = rw (oo, ee) (drafts-none v)
      go true k oo false m ee =
          let w = close-sent g r q fits k in
          let first = drafts-close g r v (omega arith) q fits (omega arith) k in
          let n = length-sent s es (close_pins s q) in
          rw (oo, ee)
          (drafts-on first (drafts-active g w.reached first.drafted (omega (arith, n)) q fits (omega (arith, n, first.room)) (close-shuts g r q fits k)))

  module _ (closed : Bool) where
    pub drafts-request : {asked : List ℕ} {es : List Event} → Reached s asked es → {x : Draft} → Drafted s es x → length es ≤ 9000 →
        2 * (length es + 3) ≤ length x.words → Drafts s es x (send_request placing s closed es q) (requesting s q closed x)
    unfolding requesting
    drafts-request {es = es} r {x} v few room =
        let y = rowed g q fits r in
        let first = drafts-row r v few (omega arith) in
        rw (request-is g q fits closed es)
        (drafts-on first
        (drafts-burst g y.reached first.drafted (omega (arith, y.few)) q fits (omega (arith, y.few, first.room)) closed y.on))

    -- of a bank that is idle: two events
    pub drafts-request-idle : {asked : List ℕ} {es : List Event} (r : Reached s asked es) → ((part_of s es).banks own).opened ≡ false → {x : Draft} → Drafted s es x →
        length es ≤ 9000 → 2 * (length es + 2) ≤ length x.words → Drafts s es x (send_request placing s closed es q) (requesting s q closed x)
    unfolding requesting
    drafts-request-idle {es = es} r idle {x} v few room =
        let y = rowed g q fits r in
        let first = drafts-row r v few room in
        rw (request-is g q fits closed es)
        (drafts-on first
        (drafts-burst g y.reached first.drafted (omega (arith, y.few)) q fits (omega (arith, y.fewer idle, first.room)) closed y.on))

-- ---- a refresh

next-free : (s : Settings) (es : List Event) (free events : ℕ) → at (set (set (standing_of s es) FREE free) EVENTS events) FREE ≡ free
unfolding standing_of
next-free s es free events = refl

closed-refresh-at : {s : Settings} {es : List Event} {x : Draft} → Drafted s es x → closed_refresh_at s x ≡ refresh_at s (closing_all s x)
unfolding closed_refresh_at refresh_at closing_all noted
closed-refresh-at {s} {es} {x} v =
    let t = placed_at x (close_all_soonest x.deadlines x.standing) in
    let n = at x.standing EVENTS + 1 in
    sym (ap (λ (free : ℕ). cycle_for free (refresh_soonest (close_all_after s x.deadlines (pace_of s.mode) t)))
    (ap (λ (k : List ℕ). at (set (set k FREE (t + 1)) EVENTS n) FREE) v.standing ∙ next-free s es (t + 1) n))

module _ {s : Settings} (g : Ranged s) {asked : List ℕ} {es : List Event} (r : Reached s asked es) {x : Draft} (v : Drafted s es x)
    (few : length es ≤ 9000) where
  module _ (room : 2 * (length es + 1) ≤ length x.words) where
    drafts-idle : Drafts s es x (idled g es) (idling s x)
    unfolding idling closing_all
    drafts-idle = go (every_bank (λ b. not ((part_of s es).banks b).opened)) (told-idle g r v (omega arith))
      where
        go : (o : Bool) → {o' : Bool} → o' ≡ o → Drafts s es x (cond o es (send placing s es close_all_pins)) (cond o' x (closing_all s x))
        go true oo = rw oo (drafts-none v)
        go false oo =
            let w = close-all-sent g r in
            let t = placed-is g r v (omega arith) close_all_soonest w in
            rw oo (drafts-sent w v (omega arith) t (λ i. close_all_after s (v.deadlines i) (pace_of s.mode) (t i)) v.standing)

    refresh-at : refresh_at s (idling s x) ≡ refreshed_at g es
    unfolding refresh_at
    refresh-at =
        let y = all-idle g r in
        placed-is g y.reached drafts-idle.drafted (omega (arith, y.few)) (λ d k. refresh_soonest d) (refresh-sent g y.reached y.idle)

    timely-here : timely s x ≡ refresh_in_time placing s es
    unfolding timely idling
    timely-here =
        (λ i. ltb ((go (all_idle x.deadlines) ∙ refresh-at) i) (told-overdue g r v (omega arith) i)) ∙ sym (in-time g es)
      where
        go : (idle : Bool) → cond idle (refresh_at s x) (closed_refresh_at s x) ≡ refresh_at s (cond idle x (closing_all s x))
        go true = refl
        go false = closed-refresh-at v

  pub drafts-refresh : 2 * (length es + 2) ≤ length x.words → Drafts s es x (send_refresh placing s es) (refreshing s x)
  unfolding refreshing refreshing_idle
  drafts-refresh room =
      let y = all-idle g r in
      let first = drafts-idle (omega arith) in
      let w = refresh-sent g y.reached y.idle in
      let t = refresh-at (omega arith) in
      rw (refresh-is g es)
      (drafts-on first
      (drafts-sent w first.drafted (omega (arith, y.few, first.room)) t (λ i. refresh_after s (first.drafted.deadlines i) (t i)) first.drafted.standing))

-- the test asks nothing of the words, so there need be no room for more
pub wordless : (s : Settings) (x : Draft) (words : List ℕ) → timely s x ≡ timely s (record { deadlines = x.deadlines; standing = x.standing; words = words })
unfolding timely refresh_at closed_refresh_at
wordless s x words = refl

pub timely-is : {s : Settings} → Ranged s → {asked : List ℕ} {es : List Event} → Reached s asked es → {x : Draft} → Drafted s es x →
    length es ≤ 9000 → timely s x ≡ refresh_in_time placing s es
timely-is {s} g {es = es} r {x} v few =
    let words = event_words es ++ (0 ∷ 0 ∷ []) in
    let long : length words ≡ length (event_words es) + 2 = length-append (event_words es) (0 ∷ 0 ∷ []) in
    let front : take (2 * length es) words ≡ event_words es =
    ap (λ (n : ℕ). take n words) (sym (words-length es)) ∙ take-append_seam (event_words es) (0 ∷ 0 ∷ []) in
    wordless s x words
    ∙ timely-here g r (record { deadlines = v.deadlines; standing = v.standing; words = front }) few (omega (arith, long, words-length es))

-- ---- a request's turn

pub record Turned (s : Settings) (closed : Bool) (es : List Event) (q : ℕ) (y : Draft) : Type 0 where
  pub next : List Event
  pub serves : served placing s closed es q ≡ some next
  pub drafted : Drafted s next y

module _ {s : Settings} (g : Ranged s) (closed : Bool) (q : ℕ) (fits : request_fits s q ≡ true) {asked : List ℕ} {es : List Event} (r : Reached s asked es)
    {x : Draft} (v : Drafted s es x) (few : length es ≤ 8000) (room : 2 * (length es + 4) ≤ length x.words) where
  abbrev first : List Event
  first = send_request placing s closed es q

  abbrev second : List Event
  second = send_request placing s closed (send_refresh placing s es) q

  lb : cell_bank s (first_cell q) < 4
  lb = bank-small s g.sized q fits

  drafts-first : Drafts s es x first (alone s closed q x)
  drafts-first = drafts-request g q fits closed r v (omega arith) (omega arith)

  -- the draft of before, with the words of the request tried
  again : Drafted s es (from s x (alone s closed q x))
  again = record { deadlines = v.deadlines; standing = v.standing; words = drafts-first.before ∙ v.words }

  ahead : Refreshed g asked es (send_refresh placing s es)
  ahead = refreshed g r

  drafts-ahead : Drafts s es (from s x (alone s closed q x)) (send_refresh placing s es) (refreshing s (from s x (alone s closed q x)))
  drafts-ahead = drafts-refresh g r again (omega arith) (omega (arith, drafts-first.room))

  one_more : Requested g q fits closed asked es first
  one_more = requested g q fits closed r

  anew : Requested g q fits closed asked (send_refresh placing s es) second
  anew = requested g q fits closed ahead.reached

  drafts-second : Drafts s (send_refresh placing s es) (refreshing s (from s x (alone s closed q x))) second (behind s closed q x)
  drafts-second =
      drafts-request-idle g q fits closed ahead.reached (ahead.idle (cell_bank s (first_cell q)) lb) drafts-ahead.drafted (omega (arith, ahead.few))
      (omega (arith, ahead.few, drafts-ahead.room, drafts-first.room))

  in-time₁ : timely s (alone s closed q x) ≡ refresh_in_time placing s first
  in-time₁ = timely-is g one_more.reached drafts-first.drafted (omega (arith, one_more.few))

  in-time₂ : timely s (behind s closed q x) ≡ refresh_in_time placing s second
  in-time₂ = timely-is g anew.reached drafts-second.drafted (omega (arith, anew.few, ahead.few))

  pub turn-late : kept s closed q x ≡ false → served placing s closed es q ≡ none
  unfolding kept served
  turn-late e = go (timely s (alone s closed q x)) refl e
    where
      go : (a : Bool) → timely s (alone s closed q x) ≡ a → cond a true (timely s (behind s closed q x)) ≡ false →
          cond (refresh_in_time placing s first) (some first) (cond (refresh_in_time placing s second) (some second) none) ≡ none
      go true k m = let z : ◌≡◌ {A = ℕ} 0 1 = cc in absurd (omega arith)
      go false k m = rw (sym in-time₁ ∙ k, sym in-time₂ ∙ m)

  pub turn-taken : kept s closed q x ≡ true → Turned s closed es q (turned s closed q x)
  unfolding kept served turned
  turn-taken e = go (timely s (alone s closed q x)) refl e
    where
      go : (a : Bool) → timely s (alone s closed q x) ≡ a → cond a true (timely s (behind s closed q x)) ≡ true →
          Turned s closed es q (cond a (alone s closed q x) (behind s closed q x))
      go true k m = record { next = first; serves = rw (sym in-time₁ ∙ k); drafted = drafts-first.drafted }
      go false k m = record { next = second; serves = rw (sym in-time₁ ∙ k, sym in-time₂ ∙ m); drafted = drafts-second.drafted }

  -- far from the ninth refresh owed the request alone is in time
  pub turn-sure : at x.standing FREE + margin_of s < at x.deadlines OVERDUE → timely s (alone s closed q x) ≡ true
  turn-sure far =
      let free : at x.standing FREE ≡ free_from 0 es = ap (λ (k : List ℕ). at k FREE) v.standing ∙ free-kept s es in
      in-time₁ ∙ far-in-time g q fits closed r (omega (arith, far, free, told-overdue g r v (omega arith)))

  -- the words stay as many
  pub turn-room : length (turned s closed q x).words ≡ length x.words
  unfolding turned
  turn-room = go (timely s (alone s closed q x))
    where
      go : (a : Bool) → length (cond a (alone s closed q x) (behind s closed q x)).words ≡ length x.words
      go true = drafts-first.room
      go false = drafts-second.room ∙ drafts-ahead.room ∙ drafts-first.room

-- The walk over the requests: what holds before request i, and what is planned where it stops.
use Prim.Native.Nat.{ℕ, suc, ◌+◌, ◌*◌, ◌≤◌, ◌<◌}
use mathlib.Core.Bool.{Bool, true, false, not}
use mathlib.Core.List.{List, [], ◌∷◌}
use mathlib.Core.Option.{Option}
use mathlib.Core.Path.{◌≡◌, refl, sym, ap, ◌∙◌}
use native.Mathlib.Numerals.{add-one}
use native.Mathlib.Omega.{arith}
use lib.ListN.{length, get_or, take, drop, replicate}
use lib.Seq.{drop-cons}
use borrow.Author.Tests.{ltb-true}
use Rattle.std.specs.Prelude.{Result, Ok, Err}
use Rattle.reading.specs.Search.{given}
use Rattle.reading.specs.Answers.{answered}
use Rattle.reading.specs.Settings.{Settings, settings_count, settings_of}
use Rattle.reading.specs.Capture.{Event}
use Rattle.reading.specs.Rules.{placing}
use Rattle.reading.specs.Schedule.{Schedule, planned, late, request_fits, free_from, served, when_served, schedule_from, schedule_by, event_words}
use Rattle.words.proofs.Runs.{none-behind}
use Rattle.settings.proofs.Fitting.{in-range}
use Rattle.deadlines.specs.Deadlines.{OVERDUE, at, start_of}
use Rattle.bridge.proofs.Turn.{start-laid}
use Rattle.requests.specs.Asked.{Asked}
use Rattle.plan.specs.Behind.{FREE, EVENTS, deadlines_of, standing_of}
use Rattle.plan.specs.Margin.{margin_of}
use Rattle.plan.specs.Draft.{Draft, turned, kept}
use Rattle.plan.proofs.Ranged.{Ranged, ranged}
use Rattle.plan.proofs.Ready.{Ready, start-ready, Served, served-ready, few-requests, requests-fit}
use Rattle.plan.proofs.Near.{never-longer}
use Rattle.plan.proofs.Drafted.{Drafted, Turned, turn-sure, turn-late, turn-taken, turn-room}
use Rattle.soonest.specs.declared.State.{State}
use Rattle.soonest.proofs.Places.{free-is, events-are, four-of}
use Rattle.drafts.specs.Room.{Room, draft}
use Rattle.serving.specs.declared.Late.{Late}
use Rattle.serving.specs.Sure.{Sure}
use Rattle.serving.specs.Means.{means}
use Rattle.refusal.specs.Refusal.{told}
use Rattle.refusal.specs.declared.Refusal.TheVariants as refusal
use Rattle.schedule.specs.Meaning.{plan_answer, Noted, Plannable}

module _ (ws qs : List ℕ) (closed : Bool) (w₀ : List ℕ) where
  abbrev s : Settings
  s = settings_of ws

  abbrev all : Schedule
  all = schedule_by placing s closed qs

  -- before request i: the events of the requests before it, of which the draft is, and from which the rest decides the schedule
  pub record Walked (words : List ℕ) (x : State) (i : ℕ) : Type 0 where
    pub asked : List ℕ
    pub es : List Event
    pub ready : Ready (settings_of ws) asked es
    pub drafted : Drafted (settings_of ws) es (draft x words)
    pub few : length es ≤ 4 * i
    pub within : i ≤ length qs
    pub size : length words ≡ length w₀
    pub decides : schedule_by placing (settings_of ws) closed qs ≡ schedule_from placing (settings_of ws) closed es i (drop i qs)

  module _ (p : Plannable ws qs w₀) where
    g : Ranged s
    g = ranged ws (in-range ws settings_count p.right) p.old

    pub walk_begins : Walked w₀ (record { deadlines = start_of (settings_of ws); rows = replicate 4 0; read_end = 0; write_end = 0; free = 0; events = 0 }) 0
    unfolding schedule_by deadlines_of standing_of free_from event_words
    walk_begins =
        record {
          asked = [];
          es = [];
          ready = start-ready s g;
          drafted = record { deadlines = start-laid s; standing = refl; words = refl };
          few = omega arith;
          within = omega arith;
          size = refl;
          decides = refl;
        }

    module _ {words : List ℕ} {x : State} {i : ℕ} (v : Walked words x i) where
      pub most : length qs ≤ 2000
      most = few-requests s qs p.fine

      four : length x.rows ≡ 4
      unfolding standing_of
      four = four-of x (ap (λ (l : List ℕ). length l) v.drafted.standing)

      counted : x.events ≡ length v.es
      unfolding standing_of
      counted = sym (events-are x four) ∙ ap (λ (l : List ℕ). at l EVENTS) v.drafted.standing

      pub few-events : x.events ≤ 8000
      few-events = omega (arith, counted, v.few, v.within, most)

      -- no request is left
      pub walk_ends : length qs ≤ i →
          (told (λ n. n) (Ok x.events) ≡ plan_answer (schedule_by placing (settings_of ws) closed qs)) × Noted (schedule_by placing (settings_of ws) closed qs) words
      unfolding schedule_from
      walk_ends l =
          let e : all ≡ planned v.es = v.decides ∙ ap (schedule_from placing s closed v.es i) (none-behind qs i l) in
          rw e (
            ap answered counted,
            record { front = λ es m. let z : v.es ≡ es = cc in ap (λ (l : List Event). take (2 * length l) words) (sym z) ∙ v.drafted.words ∙ ap event_words z },
          )

      module _ (l : i < length qs) where
        abbrev q : ℕ
        q = get_or qs i 0

        fits : request_fits s q ≡ true
        fits = requests-fit s qs p.fine i l

        pub asked-for : Asked (settings_of ws) (get_or qs i 0)
        asked-for = record { sized = g.sized; fits = fits }

        pub room : Room x words 5
        room = record { more = omega (arith, counted, events-are x four, v.few, v.size, p.room) }

        abbrev draft-now : Draft
        draft-now = draft x words

        short : length v.es ≤ 8000
        short = omega (arith, v.few, most)

        enough : 2 * (length v.es + 4) ≤ length words
        enough = omega (arith, v.few, v.size, p.room)

        -- far from the ninth refresh owed the request alone is in time
        pub sure : Sure (settings_of ws) closed (get_or qs i 0) (margin_of (settings_of ws)) x words
        unfolding standing_of
        sure =
            let free : x.free ≡ free_from 0 v.es = sym (free-is x four) ∙ ap (λ (l : List ℕ). at l FREE) v.drafted.standing in
            record {
              small = omega (arith, free, v.ready.reached.early, short, never-longer s g);
              sure = λ far. turn-sure g closed q fits v.ready.reached v.drafted short enough (omega (arith, ltb-true (x.free + margin_of s) (at x.deadlines OVERDUE) far, free-is x four));
            }

        unfolds : all ≡ when_served (served placing s closed v.es q) (λ more. schedule_from placing s closed more (suc i) (drop (suc i) qs)) i
        unfolding schedule_from
        unfolds = v.decides ∙ ap (schedule_from placing s closed v.es i) (drop-cons qs i 0 l)

        module _ {placed : Result (Unit {0}) Late} (said : means placed ≡ given 6 (not (kept (settings_of ws) closed (get_or qs i 0) (draft x words)))) where
          told-kept : placed ≡ Ok tt → kept s closed q draft-now ≡ true
          told-kept e = go (kept s closed q draft-now) (sym (ap means e) ∙ said)
            where
              go : (v : Bool) → means (Ok tt) ≡ given 6 (not v) → v ≡ true
              go true h = refl
              go false h = let z : ◌≡◌ {A = ℕ} 0 1 = cc in absurd (omega arith)

          told-late : {late : Late} → placed ≡ Err late → kept s closed q draft-now ≡ false
          told-late {late} e = go (kept s closed q draft-now) (sym (ap means e) ∙ said)
            where
              go : (v : Bool) → means (Err late) ≡ given 6 (not v) → v ≡ false
              go true h = let z : ◌≡◌ {A = ℕ} 0 1 = cc in absurd (omega arith)
              go false h = refl

          -- refresh cannot be kept
          pub walk-stops : {late : Late} → placed ≡ Err late → {words' : List ℕ} →
              (told (λ n. n) (Err (refusal.Late i)) ≡ plan_answer (schedule_by placing (settings_of ws) closed qs)) × Noted (schedule_by placing (settings_of ws) closed qs) words'
          walk-stops e =
              let none_is = turn-late g closed q fits v.ready.reached v.drafted short enough (told-late e) in
              let so : all ≡ late i =
              unfolds ∙ ap (λ (o : Option (List Event)). when_served o (λ more. schedule_from placing s closed more (suc i) (drop (suc i) qs)) i) none_is in
              rw so (refl, record { front = λ es m. let z : ◌≡◌ {A = ℕ} 0 1 = cc in absurd (omega arith) })

          -- the request was served
          pub walk-on : placed ≡ Ok tt → (x' : State) {words' : List ℕ} → draft x' words' ≡ turned (settings_of ws) closed (get_or qs i 0) (draft x words) →
              Walked words' x' (i + 1)
          walk-on e x' {words'} left =
              let u : Turned s closed v.es q (turned s closed q draft-now) = turn-taken g closed q fits v.ready.reached v.drafted short enough (told-kept e) in
              let y : Served g closed v.asked q v.es u.next = served-ready g closed v.es v.ready q fits u.next u.serves in
              let size : length words' ≡ length (turned s closed q draft-now).words = ap (λ (z : Draft). length z.words) left in
              record {
                asked = q ∷ v.asked;
                es = u.next;
                ready = y.ready;
                drafted = rw left u.drafted;
                few = omega (arith, y.few, v.few);
                within = omega arith;
                size = size ∙ turn-room g closed q fits v.ready.reached v.drafted short enough ∙ v.size;
                decides =
                    unfolds
                    ∙ ap (λ (o : Option (List Event)). when_served o (λ z. schedule_from placing s closed z (suc i) (drop (suc i) qs)) i) u.serves
                    ∙ ap (λ (j : ℕ). schedule_from placing s closed u.next j (drop j qs)) (sym (add-one i));
              }

-- The second walk: the run of the part up to event i, and that the rest of it ends the whole.
use Prim.Native.Nat.{ℕ, ◌+◌, ◌-◌, ◌*◌, ◌≤◌, ◌<◌}
use mathlib.Core.Bool.{Bool, true, false, cond, not}
use mathlib.Core.List.{List, [], ◌∷◌, ◌++◌, map}
use mathlib.Core.Option.{none, some}
use mathlib.Core.Path.{◌≡◌, refl, sym, ap, ◌∙◌}
use native.Mathlib.Nat.{zero-add, sub-zero}
use native.Mathlib.Omega.{arith}
use borrow.Author.Tests.{leb-true}
use lib.Dec.{leb}
use lib.ListN.{length, take, drop, length-append}
use lib.Seq.{sets, length-sets, take-take, drop-drop}
use Rattle.reading.specs.Search.{count, every}
use Rattle.reading.specs.Mode.{BL}
use Rattle.reading.specs.Settings.{Settings, settings_of}
use Rattle.reading.specs.Bursts.{Burst, beat_cell, burst_cells}
use Rattle.reading.specs.Memory.{Datum, Run, lanes, load, store_beats, play, replay_bursts, replay}
use Rattle.reading.specs.Player.{in_window, windowed, datum_at, data_of, takes, playable, unplayable, played_on}
use Rattle.reading.proofs.Laws.{both}
use Rattle.words.proofs.Runs.{sets-append}
use Rattle.judge.specs.Meaning.{events_in}
use Rattle.beats.specs.declared.Burst as held
use Rattle.beats.proofs.Columns.{length-pos}
use Rattle.cells.specs.Meaning.{burst_at, bursts_on, At, Listable, Clean}
use Rattle.cells.proofs.Walked.{rest, rest-begins, rest-ends}
use Rattle.player.specs.Playing.{cell_of, cells_of, lanes_by, stored_from, shown_at, words_read}
use Rattle.player.proofs.Given.{Found, next-none, there, next-some, cells_are, kept-are}
use Rattle.player.proofs.Window.{shows, length-counted, stored-shows, window-shows, data-length, some-data, shown-loads}

-- the first burst can be played, and so can the others
pub can-play : (s : Settings) (first size left : ℕ) (x : Burst) (xs : List Burst) → unplayable s first size left (x ∷ xs) ≡ none →
    (playable s first size left x ≡ true) × (unplayable s first size (left - takes x) xs ≡ none)
unfolding unplayable
can-play s first size left x xs e = go (playable s first size left x) refl e
  where
    go : (v : Bool) → playable s first size left x ≡ v → cond v (unplayable s first size (left - takes x) xs) (some x) ≡ none →
        (playable s first size left x ≡ true) × (unplayable s first size (left - takes x) xs ≡ none)
    go true f q = (f, q)
    go false f q = let zero_one : ◌≡◌ {A = ℕ} 0 1 = cc in absurd (omega arith)

module _ (settings bytes : List ℕ) (n first : ℕ) (window₀ writes reads₀ : List ℕ) where
  abbrev s : Settings
  s = settings_of settings

  abbrev size : ℕ
  size = length window₀

  abbrev supply : ℕ
  supply = length (data_of writes)

  abbrev whole : Run
  whole = played_on s (events_in bytes n) first window₀ writes

  pub record Ran (window reads firsts : List ℕ) (mode taken next i : ℕ) : Type 0 where
    pub at : At s bytes i firsts mode
    pub within : i ≤ n
    pub run : Run
    pub same : replay_bursts s (rest settings bytes n i) run ≡ whole
    pub holds : window ≡ shows first size run.contents
    pub supplied : run.supply ≡ drop taken (data_of writes)
    pub counted : next ≡ length run.returned
    pub stored : reads ≡ sets reads₀ 0 run.returned
    pub left : unplayable s first size (supply - taken) (rest settings bytes n i) ≡ none
    pub room : next + words_read (rest settings bytes n i) ≤ length reads₀

  module _ {window reads firsts : List ℕ} {mode taken next i : ℕ} (b : Ran window reads firsts mode taken next i) where
    pub as_wide : length window ≡ size
    as_wide = ap length b.holds ∙ length-counted b.run.contents first size

    pub as_long : length reads ≡ length reads₀
    as_long = ap length b.stored ∙ length-sets reads₀ 0 b.run.returned

    pub ends : n ≤ i → (window ≡ map whole.contents (count first size)) × (reads ≡ sets reads₀ 0 whole.returned)
    unfolding replay_bursts
    ends l =
        let all : b.run ≡ whole = ap (λ (xs : List Burst). replay_bursts s xs b.run) (sym (rest-ends settings bytes n i l)) ∙ b.same in
        (b.holds ∙ ap (λ (r : Run). shows first size r.contents) all, b.stored ∙ ap (λ (r : Run). sets reads₀ 0 r.returned) all)

  module _ (z : Listable settings bytes n) (k : Clean s bytes n) where
    pub begins : {firsts : List ℕ} {mode : ℕ} → At s bytes 0 firsts mode → unplayable s first size supply (bursts_on s bytes n) ≡ none →
        words_read (bursts_on s bytes n) ≤ length reads₀ → Ran window₀ reads₀ firsts mode 0 0 0
    unfolding played_on replay
    begins a c r =
        let from-there = rest-begins settings bytes n z k in
        record {
          at = a;
          within = omega arith;
          run = record { contents = windowed first window₀; supply = data_of writes; returned = [] };
          same = ap (λ (xs : List Burst). replay_bursts s xs (record { contents = windowed first window₀; supply = data_of writes; returned = [] })) (sym from-there);
          holds = window-shows first window₀;
          supplied = refl;
          counted = refl;
          stored = refl;
          left = (λ u. unplayable s first size (sub-zero supply u) (sym from-there u)) ∙ c;
          room = omega (arith, r, ap words_read from-there);
        }

    module _ {window reads firsts : List ℕ} {mode taken next i : ℕ} (b : Ran window reads firsts mode taken next i) (l : i < n) where
      abbrev xs : List Burst
      xs = rest settings bytes n (i + 1)

      -- an event that gives no burst
      pub passes : {firsts' : List ℕ} {mode' : ℕ} → burst_at s bytes n i ≡ none → At s bytes (i + 1) firsts' mode' →
          Ran window reads firsts' mode' taken next (i + 1)
      passes e a =
          let on = next-none settings bytes n i z k l e in
          record {
            at = a;
            within = omega arith;
            run = b.run;
            same = ap (λ (ys : List Burst). replay_bursts s ys b.run) (sym on) ∙ b.same;
            holds = b.holds;
            supplied = b.supplied;
            counted = b.counted;
            stored = b.stored;
            left = ap (unplayable s first size (supply - taken)) (sym on) ∙ b.left;
            room = omega (arith, b.room, ap words_read on);
          }

      -- one that does
      module _ {y : held.Burst} (f : Found settings bytes n i y) where
        abbrev x : Burst
        x = f.burst

        on : rest settings bytes n i ≡ x ∷ xs
        on = next-some settings bytes n i z k l f

        can : (playable s first size (supply - taken) x ≡ true) × (unplayable s first size (supply - taken - takes x) xs ≡ none)
        can = can-play s first size (supply - taken) x xs (ap (unplayable s first size (supply - taken)) (sym on) ∙ b.left)

        parts : (every (in_window first size) (burst_cells s x) ≡ true) × (leb (takes x) (supply - taken) ≡ true)
        parts = both (every (in_window first size) (burst_cells s x)) (leb (takes x) (supply - taken)) can.0

        inside : every (in_window first size) (map (beat_cell s x) (count 0 (2 * x.n))) ≡ true
        unfolding burst_cells
        inside = parts.0

        pub holds-all : every (in_window first (length window)) (cells_of y) ≡ true
        holds-all = (λ u. every (in_window first (as_wide b u)) (kept-are settings bytes n i z k l f u)) ∙ parts.0

        from-here : replay_bursts s xs (play s (2 * x.n) x b.run) ≡ whole
        unfolding replay_bursts
        from-here = ap (λ (ys : List Burst). replay_bursts s ys b.run) (sym on) ∙ b.same

        abbrev wrote : Run
        wrote =
            record {
              contents = store_beats s x 0 (take (2 * x.n) (take (BL x.mode) b.run.supply)) b.run.contents;
              supply = drop (BL x.mode) b.run.supply;
              returned = b.run.returned;
            }

        abbrev read : Run
        read =
            record {
              contents = b.run.contents;
              supply = b.run.supply;
              returned = b.run.returned ++ map (λ j. load s b.run.contents (beat_cell s x j)) (count 0 (2 * x.n));
            }

        played : {v : Bool} → y.writes ≡ v → play s (2 * x.n) x b.run ≡ cond v wrote read
        unfolding play
        played w = ap (λ (v : Bool). cond v wrote read) (sym f.kind ∙ w)

        module _ (lane : ℕ) (e : lanes_by lane ≡ lanes s) where
          -- ---- a WRITE

          module _ (w : y.writes ≡ true) where
            mode_of : x.mode ≡ y.mode
            mode_of = sym f.moded

            taking : takes x ≡ BL y.mode
            taking = ap (λ (v : Bool). cond v (BL x.mode) 0) (sym f.kind ∙ w) ∙ ap BL mode_of

            pub enough : BL y.mode ≤ supply - taken
            enough = omega (arith, taking, leb-true (takes x) (supply - taken) parts.1)

            few : 2 * x.n ≤ BL x.mode
            few = omega (arith, (there settings bytes n i z k l f).kept)

            pub all-taken : taken + BL y.mode ≤ supply
            all-taken = omega (arith, enough, length-pos y.mode)

            all_there : taken + 2 * x.n ≤ supply
            all_there = omega (arith, few, all-taken, ap BL mode_of)

            pub masks-fit : 2 * (taken + 2 * y.pairs) ≤ length writes
            masks-fit = omega (arith, all_there, f.pairs_is, data-length writes)

            data-are : map (λ j. datum_at writes (taken + j)) (count 0 (2 * x.n)) ≡ take (2 * x.n) (take (BL x.mode) b.run.supply)
            data-are =
                sym (some-data writes taken (2 * x.n) all_there)
                ∙ ap (take (2 * x.n)) (sym b.supplied)
                ∙ sym (take-take (2 * x.n) (BL x.mode) b.run.supply few)

            stored-so : {window' : List ℕ} →
                window' ≡ stored_from (lanes_by lane) first (cell_of y) (λ j. datum_at writes (taken + j)) (2 * y.pairs) 0 window →
                window' ≡ shows first size wrote.contents
            stored-so c =
                c
                ∙ (λ u.
                stored_from (lanes_by lane) first (cells_are settings bytes n i z k l f u) (λ j. datum_at writes (taken + j)) (2 * f.pairs_is u) 0 (b.holds u))
                ∙ stored-shows first size s x (λ j. datum_at writes (taken + j)) e (2 * x.n) 0 b.run.contents inside
                ∙ ap (λ (ds : List Datum). shows first size (store_beats s x 0 ds b.run.contents)) data-are

            supplied-so : {length : ℕ} → length ≡ BL y.mode → wrote.supply ≡ drop (taken + length) (data_of writes)
            supplied-so c =
                ap (drop (BL x.mode)) b.supplied
                ∙ drop-drop (BL x.mode) taken (data_of writes)
                ∙ ap (λ (t : ℕ). drop (taken + t) (data_of writes)) (ap BL mode_of ∙ sym c)

            pub stores-on : {window' : List ℕ} {length : ℕ} → length ≡ BL y.mode →
                window' ≡ stored_from (lanes_by lane) first (cell_of y) (λ j. datum_at writes (taken + j)) (2 * y.pairs) 0 window →
                {firsts' : List ℕ} {mode' : ℕ} → At s bytes (i + 1) firsts' mode' → Ran window' reads firsts' mode' (taken + length) next (i + 1)
            stores-on {length = length} q c a =
                let further : supply - taken - takes x ≡ supply - (taken + length) = omega (arith, taking, q) in
                record {
                  at = a;
                  within = omega arith;
                  run = wrote;
                  same = ap (replay_bursts s xs) (sym (played w)) ∙ from-here;
                  holds = stored-so c;
                  supplied = supplied-so q;
                  counted = b.counted;
                  stored = b.stored;
                  left = ap (λ (t : ℕ). unplayable s first size t xs) (sym further) ∙ can.1;
                  room = omega (arith, b.room, ap words_read on);
                }

          -- ---- a READ

          module _ (w : y.writes ≡ false) where
            none-taken : takes x ≡ 0
            none-taken = ap (λ (v : Bool). cond v (BL x.mode) 0) (sym f.kind ∙ w)

            words_are : words_read (x ∷ xs) ≡ 2 * y.pairs + words_read xs
            words_are =
                (λ u. cond (not ((sym f.kind ∙ w) u)) (2 * x.n) 0 + words_read xs) ∙ ap (λ (p : ℕ). 2 * p + words_read xs) (sym f.pairs_is)

            pub reads_fit : next + 2 * y.pairs ≤ length reads
            reads_fit = omega (arith, b.room, ap words_read on, words_are, as_long b)

            abbrev words : List ℕ
            words = map (λ j. load s b.run.contents (beat_cell s x j)) (count 0 (2 * x.n))

            shown-so : map (λ j. shown_at lane first window (cell_of y j)) (count 0 (2 * y.pairs)) ≡ words
            shown-so =
                (λ u. map (λ j. shown_at lane first (b.holds u) (cells_are settings bytes n i z k l f u j)) (count 0 (2 * f.pairs_is u)))
                ∙ shown-loads s first size b.run.contents lane e (beat_cell s x) (count 0 (2 * x.n)) inside

            put-so : {reads' : List ℕ} →
                reads' ≡ sets reads next (map (λ j. shown_at lane first window (cell_of y j)) (count 0 (2 * y.pairs))) →
                reads' ≡ sets reads₀ 0 read.returned
            put-so c =
                c
                ∙ (λ u. sets (b.stored u) ((b.counted ∙ sym (zero-add (length b.run.returned))) u) (shown-so u))
                ∙ sets-append reads₀ 0 b.run.returned words

            pub reads_on : {reads' : List ℕ} →
                reads' ≡ sets reads next (map (λ j. shown_at lane first window (cell_of y j)) (count 0 (2 * y.pairs))) →
                {firsts' : List ℕ} {mode' : ℕ} → At s bytes (i + 1) firsts' mode' → Ran window reads' firsts' mode' taken (next + 2 * y.pairs) (i + 1)
            reads_on c a =
                let nothing : supply - taken - takes x ≡ supply - taken = omega (arith, none-taken) in
                record {
                  at = a;
                  within = omega arith;
                  run = read;
                  same = ap (replay_bursts s xs) (sym (played w)) ∙ from-here;
                  holds = b.holds;
                  supplied = b.supplied;
                  counted =
                      omega (
                        arith,
                        b.counted,
                        f.pairs_is,
                        length-append b.run.returned words,
                        length-counted (λ j. load s b.run.contents (beat_cell s x j)) 0 (2 * x.n),
                      );
                  stored = put-so c;
                  left = ap (λ (t : ℕ). unplayable s first size t xs) (sym nothing) ∙ can.1;
                  room = omega (arith, b.room, ap words_read on, words_are);
                }

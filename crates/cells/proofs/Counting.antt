-- Counting the beats: what is counted before event i, and the beats of the events from i on.
use Prim.Native.Nat.{ℕ, ◌+◌, ◌*◌, ◌≤◌, ◌<◌}
use mathlib.Core.Bool.{Bool, true, false, cond, ◌||◌}
use mathlib.Core.List.{List, [], ◌∷◌}
use mathlib.Core.Path.{◌≡◌, refl, sym, ap, ◌∙◌}
use native.Mathlib.Nat.{add-zero, zero-add}
use native.Mathlib.Omega.{arith}
use borrow.Author.Tests.{eqb-true}
use lib.Dec.{eqb}
use lib.ListN.{length}
use Rattle.reading.specs.Settings.{Settings, settings_of}
use Rattle.reading.specs.Capture.{Event, event_at}
use Rattle.reading.specs.Commands.{WRITE, is, command_of}
use Rattle.reading.specs.Bursts.{Burst, reads}
use Rattle.reading.specs.Cells.{beats_by, beats_of}
use Rattle.reading.specs.Part.{Part}
use Rattle.pins.specs.Pins.{code_of, mode_after, gives}
use Rattle.pins.proofs.Commands.{write-is}
use Rattle.judge.specs.Meaning.{part_at}
use Rattle.beats.specs.Kept.{events_from, kept_of}
use Rattle.beats.proofs.Looking.{kept-le}
use Rattle.beats.proofs.Ahead.{burst_left, event_bursts}
use Rattle.beats.proofs.Sums.{beats-append, beats-together, cells-length}
use Rattle.cells.specs.Meaning.{Listable, Clean, bursts_on, cells_on}
use Rattle.cells.proofs.Walked as walked
use Rattle.cells.proofs.Walked.{Walked, walks-on, rest, rest-begins, rest-next, rest-ends}

abbrev writes : Burst → Bool
writes x = x.writes

-- ---- the beats of one event

module _ (s : Settings) (p : Part) (e : Event) (es : List Event) where
  abbrev kept : ℕ
  kept = 2 * kept_of s p.mode e es

  -- a READ is no WRITE
  no_write : eqb (code_of e.pins) 10 ≡ true → eqb (code_of e.pins) 2 ≡ false
  no_write f = let z = eqb-true (code_of e.pins) 10 f in rw z

  read-beats : cond (eqb (code_of e.pins) 10) kept 0 ≡ beats_by reads (event_bursts s p e es)
  read-beats = go (eqb (code_of e.pins) 10) (eqb (code_of e.pins) 2) (write-is e.pins) no_write
    where
      go : (u v : Bool) → is WRITE (command_of e.pins) ≡ v → (u ≡ true → v ≡ false) → cond u kept 0 ≡ beats_by reads (cond (u || v) (burst_left s p e es ∷ []) [])
      go true v f g = rw (f ∙ g refl) (sym (add-zero kept))
      go false true f g = rw f
      go false false f g = refl

  written-beats : cond (eqb (code_of e.pins) 2) kept 0 ≡ beats_by writes (event_bursts s p e es)
  written-beats = go (eqb (code_of e.pins) 10) (eqb (code_of e.pins) 2) (write-is e.pins)
    where
      go : (u v : Bool) → is WRITE (command_of e.pins) ≡ v → cond v kept 0 ≡ beats_by writes (cond (u || v) (burst_left s p e es ∷ []) [])
      go true true f = rw f (sym (add-zero kept))
      go true false f = rw f
      go false true f = rw f (sym (add-zero kept))
      go false false f = refl

  few-beats : beats_of (event_bursts s p e es) ≤ kept
  few-beats = go (gives e.pins)
    where
      go : (v : Bool) → beats_of (cond v (burst_left s p e es ∷ []) []) ≤ kept
      go true = omega arith
      go false = omega arith

-- ---- those of all events

module _ (settings bytes : List ℕ) (n : ℕ) where
  abbrev s : Settings
  s = settings_of settings

  pub record Counted (mode read written i : ℕ) : Type 0 where
    pub on : Walked settings bytes n mode (read + written) i
    pub reads-are : beats_by reads (bursts_on s bytes n) ≡ read + beats_by reads (rest settings bytes n i)
    pub writes_are : beats_by writes (bursts_on s bytes n) ≡ written + beats_by writes (rest settings bytes n i)

  pub begins : Listable settings bytes n → Clean s bytes n → Counted s.mode 0 0 0
  begins z k =
      record {
        on = walked.begins settings bytes n;
        reads-are = ap (beats_by reads) (rest-begins settings bytes n z k) ∙ sym (zero-add _);
        writes_are = ap (beats_by writes) (rest-begins settings bytes n z k) ∙ sym (zero-add _);
      }

  module _ {mode read written i : ℕ} (b : Counted mode read written i) (l : i < n) {pins pairs : ℕ} (ew : pins ≡ (event_at bytes i).pins)
      (ep : pairs ≡ kept_of s mode (event_at bytes i) (events_from bytes n (i + 1))) where
    abbrev p : Part
    p = part_at s bytes i

    abbrev e : Event
    e = event_at bytes i

    abbrev later : List Event
    later = events_from bytes n (i + 1)

    pairs-are : pairs ≡ kept_of s p.mode e later
    pairs-are = ep ∙ ap (λ (m : ℕ). kept_of s m e later) b.on.moded

    split : (kind : Burst → Bool) → beats_by kind (rest settings bytes n i) ≡ beats_by kind (event_bursts s p e later) + beats_by kind (rest settings bytes n (i + 1))
    split kind = ap (beats_by kind) (rest-next settings bytes n i l) ∙ beats-append kind (event_bursts s p e later) (rest settings bytes n (i + 1))

    -- there is room for some of them
    pub room : (code : ℕ) {beats some : ℕ} → beats ≤ 2 * pairs → some ≡ cond (eqb (code_of pins) code) beats 0 → read + written + some ≤ 128 * (i + 1)
    room code {beats} {some} eb es = omega (arith, b.on.small, ep, kept-le s mode e later, most (eqb (code_of pins) code) es)
      where
        most : (v : Bool) → some ≡ cond v beats 0 → some ≤ beats
        most true f = omega arith
        most false f = omega arith

    module _ {beats r w : ℕ} (eb : beats ≡ 2 * pairs) (er : r ≡ cond (eqb (code_of pins) 10) beats 0) (ewr : w ≡ cond (eqb (code_of pins) 2) beats 0) where
      r-is : r ≡ beats_by reads (event_bursts s p e later)
      r-is = er ∙ rw (ew, eb, pairs-are) (read-beats s p e later)

      w-is : w ≡ beats_by writes (event_bursts s p e later)
      w-is = ewr ∙ rw (ew, eb, pairs-are) (written-beats s p e later)

      few : r + w ≤ 2 * pairs
      few = omega (arith, r-is, w-is, beats-together (event_bursts s p e later), few-beats s p e later, pairs-are)

      pub goes_on : {next : ℕ} → next ≡ mode_after mode pins → Counted next (read + r) (written + w) (i + 1)
      goes_on {next} em =
          let same : read + written + (r + w) ≡ read + r + (written + w) = omega arith in
          record {
            on = rw same at (walks-on settings bytes n b.on l ew ep em few);
            reads-are = b.reads-are ∙ omega (arith, split reads, r-is);
            writes_are = b.writes_are ∙ omega (arith, split writes, w-is);
          }

  module _ {mode read written i : ℕ} (b : Counted mode read written i) (l : n ≤ i) where
    none_left : (kind : Burst → Bool) → beats_by kind (rest settings bytes n i) ≡ 0
    none_left kind = ap (beats_by kind) (rest-ends settings bytes n i l)

    pub all_read : read ≡ beats_by reads (bursts_on s bytes n)
    all_read = omega (arith, b.reads-are, none_left reads)

    pub all-written : written ≡ beats_by writes (bursts_on s bytes n)
    all-written = omega (arith, b.writes_are, none_left writes)

  -- together they are the cells
  pub all-beats : {read written : ℕ} → read ≡ beats_by reads (bursts_on s bytes n) → written ≡ beats_by writes (bursts_on s bytes n) →
      read + written ≡ length (cells_on s bytes n)
  unfolding cells_on
  all-beats f g = omega (arith, f, g, beats-together (bursts_on s bytes n), cells-length s (bursts_on s bytes n))

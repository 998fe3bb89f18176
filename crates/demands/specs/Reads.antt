-- What each read returns, read by read: of bursts that are replayed, and of requests to the plain memory.
use Rattle.std.specs.Prelude.{ℕ, ◌*◌, cond, List, [], ◌∷◌, ◌++◌, map}
use Rattle.reading.specs.Mode.{BL}
use Rattle.reading.specs.Settings.{Settings}
use Rattle.reading.specs.Capture.{Event}
use Rattle.reading.specs.Bursts.{Burst}
use Rattle.reading.specs.Cells.{bursts_of}
use Rattle.reading.specs.Memory.{Run, play, requested}

-- the first `beats` beats of a burst
pub record Played : Type 0 where
  pub beats : ℕ
  pub burst : Burst

-- nothing has been returned yet
abbrev pub silent : Run → Run
silent r = record { contents = r.contents; supply = r.supply; returned = [] }

-- the words of each read, one list for each, in their order
unfoldable pub reads_of : Settings → List Played → Run → List (List ℕ)
reads_of s [] r = []
reads_of s (x ∷ xs) r =
    let rest = reads_of s xs (play s x.beats x.burst r) in
    cond x.burst.writes rest ((play s x.beats x.burst (silent r)).returned ∷ rest)

-- one read after the other
unfoldable pub joined : List (List ℕ) → List ℕ
joined [] = []
joined (ws ∷ more) = ws ++ joined more

-- of the part that is run by some events: the kept beats of its bursts
abbrev pub kept_beats : List Burst → List Played
kept_beats = map (λ x. record { beats = 2 * x.n; burst = x })

abbrev pub part_reads : Settings → List Event → Run → List (List ℕ)
part_reads s es = reads_of s (kept_beats (bursts_of s es))

-- of the plain memory: all BL beats of each request
abbrev pub all_beats : Settings → List ℕ → List Played
all_beats s = map (λ q. record { beats = BL s.mode; burst = requested s q })

abbrev pub plain_reads : Settings → List ℕ → Run → List (List ℕ)
plain_reads s qs = reads_of s (all_beats s qs)

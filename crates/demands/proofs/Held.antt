-- The public functions that hold a reference to a struct or a struct with one: what each
-- contract ensures is one fact, an equation for the result and for each lent buffer as it is left. So any two results, and any
-- two contents of a buffer, that it allows for the same arguments are equal.
use Prim.Native.Nat.{◌+◌}
use mathlib.Core.List.{map}
use mathlib.Core.Path.{◌≡◌, refl}
use lib.ListN.{length}
use seplogic.Ra.Ura.{Ura}
use base.Logic.{SProp}
use prog.Memory.{Memory}
use prog.Routine.{Routine}
use types.Logic.{Logic}
use contract.Monad.{Fun, fact}
use Rattle.reading.specs.Search.{lesser}
use Rattle.reading.specs.OpenRow.{open_row_outcome}
use Rattle.banks.specs.Banks.{bank_of, record_of, filled_from}
use Rattle.browser.specs.Browsed.{seen_at}
use Rattle.rows.specs.Walks.{none_yet, tallied_from}
use Rattle.morgazell.specs.Packing.{packed, row_told}
use Rattle.browser.specs.contracts.start as browser-start
use Rattle.browser.specs.contracts.next as browser-next
use Rattle.browser.specs.contracts.onward as browser-onward
use Rattle.rows.specs.contracts.count as rows-count
use Rattle.banks.specs.contracts.fill as banks-fill
use Rattle.morgazell.specs.contracts.morgazell_open_row as morgazell-morgazell-open-row

module _ {M : Type 1} {𝓤 : Ura M} (𝓛 : Logic 𝓤) (mem : Memory → SProp 𝓤) (run : Routine → Fun 𝓤) where
  pub browser-start-says : (κs : _) (a : _) (g : _) (z : _) (e : _) →
      (browser-start.clauses 𝓛 mem run κs a).ensures g z e ≡ fact 𝓤 ((z.capture ≡ a.0) × (z.at ≡ 0))
  browser-start-says κs a g z e = refl

  pub browser-next-says : (κs : _) (a : _) (g : _) (z : _) (e : _) →
      (browser-next.clauses 𝓛 mem run κs a).ensures g z e ≡ fact 𝓤 (z ≡ seen_at a.0.capture.now a.0.at)
  browser-next-says κs a g z e = refl

  pub browser-onward-says : (κs : _) (a : _) (g : _) (z : _) (e : _) →
      (browser-onward.clauses 𝓛 mem run κs a).ensures g z e ≡ fact 𝓤 ((z.capture ≡ a.0.capture) × (z.at ≡ a.0.at + 1))
  browser-onward-says κs a g z e = refl

  pub rows-count-says : (κs : _) (a : _) (g : _) (z : _) (e : _) →
      (rows-count.clauses 𝓛 mem run κs a).ensures g z e ≡ fact 𝓤 (z ≡ tallied_from a.0.now none_yet 0 a.1.0)
  rows-count-says κs a g z e = refl

  pub banks-fill-says : (κs : _) (a : _) (g : _) (z : _) (e : _) →
      (banks-fill.clauses 𝓛 mem run κs a).ensures g z e ≡
      fact 𝓤 (e.0.now ≡ filled_from a.1.0.now a.0.now 0 (lesser (length a.0.now) 4))
  banks-fill-says κs a g z e = refl

  pub morgazell-morgazell-open-row-says : (κs : _) (a : _) (g : _) (z : _) (e : _) →
      (morgazell-morgazell-open-row.clauses 𝓛 mem run κs a).ensures g z e ≡
      fact 𝓤
      ((z ≡ packed (row_told (open_row_outcome a.0.now a.1.0 a.1.1.0 (map record_of a.1.1.1.0.now) a.1.1.1.1.0.now).answer))
      × (e.1.1.1.0.now ≡
      map bank_of (open_row_outcome a.0.now a.1.0 a.1.1.0 (map record_of a.1.1.1.0.now) a.1.1.1.1.0.now).records)
      × (e.1.1.1.1.0.now ≡ (open_row_outcome a.0.now a.1.0 a.1.1.0 (map record_of a.1.1.1.0.now) a.1.1.1.1.0.now).index))
  morgazell-morgazell-open-row-says κs a g z e = refl

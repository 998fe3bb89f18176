-- Where a schedule stands after a command that cuts nothing.
use Prim.Native.Nat.{ℕ, zero, suc, ◌+◌, ◌<◌}
use mathlib.Core.Bool.{Bool, true, false, cond}
use mathlib.Core.Path.{◌≡◌, refl}
use native.Mathlib.Omega.{arith}
use lib.Dec.{eqb}
use lib.ListN.{set}
use Rattle.reading.specs.Part.{Bank, open_on, idle_from}
use Rattle.plan.specs.Behind.{ROW, FREE, EVENTS, stood}

-- a bank that becomes idle, or not, keeps its row; one that is opened has the row of now
pub kept_row : (v : Bool) (u : ℕ) (x : Bank) → (cond v (idle_from u x) x).row ≡ x.row
kept_row true u x = refl
kept_row false u x = refl

pub opened-row : (v : Bool) (row t : ℕ) (x : Bank) → (cond v (open_on row t x) x).row ≡ cond v row x.row
opened-row true row t x = refl
opened-row false row t x = refl

-- the next free cycle and the count are new; the row of bank b too
pub row-stood : (f : ℕ → ℕ) (v reads writes free events free' events' b : ℕ) → b < 4 →
    stood (λ i. cond (eqb i b) v (f i)) reads writes free events ≡
    set (set (set (stood f reads writes free' events') (ROW + b) v) FREE free) EVENTS events
row-stood f v reads writes free events free' events' zero l = refl
row-stood f v reads writes free events free' events' (suc zero) l = refl
row-stood f v reads writes free events free' events' (suc (suc zero)) l = refl
row-stood f v reads writes free events free' events' (suc (suc (suc zero))) l = refl
row-stood f v reads writes free events free' events' (suc (suc (suc (suc b)))) l = absurd (omega arith)

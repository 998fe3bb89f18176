-- The contracts of `burst_cells`, `kept_beats` and `burst_at` allow one answer alone; the buffer stands in the first as it is.
use Prim.Native.Nat.{ℕ}
use mathlib.Core.HLevel.{is_prop→PathP}
use mathlib.Core.List.{List}
use Rattle.reading.specs.Settings.{Settings}
use Rattle.cells.specs.declared.held.State.{State}
use Rattle.cells.specs.Meaning.{At}
use mathlib.Core.Path.{◌≡◌, refl, sym, ◌∙◌}
use native.Mathlib.Omega.{arith}
use Rattle.std.proofs.Props.{props}
use Rattle.cells.specs.Meaning as meaning
use Rattle.cells.specs.Meaning.{given_means}
use Rattle.std.specs.Prelude.{Some, None}
use Rattle.std.specs.Prelude as std
use Rattle.beats.specs.declared.Burst as held
use Rattle.beats.specs.Rows.{InRow}
use Rattle.cells.specs.declared.held.Beats.{Beats}

pub one-count : (r q : Beats) → r.read ≡ q.read → r.written ≡ q.written → r ≡ q
one-count r q f g = λ i. record { read = f i; written = g i }

pub one-given : (r q : std.Option held.Burst) → given_means r ≡ given_means q → r ≡ q
one-given None None h = refl
one-given None (Some y) h = let z : ◌≡◌ {A = ℕ} 0 1 = cc in absurd (omega arith)
one-given (Some x) None h = let z : ◌≡◌ {A = ℕ} 0 1 = cc in absurd (omega arith)
one-given (Some x) (Some y) h =
    let f : ◌≡◌ {A = meaning.Burst} (record { writes = x.writes; first = x.first; mode = x.mode; column = x.column; pairs = x.pairs })
    (record { writes = y.writes; first = y.first; mode = y.mode; column = y.column; pairs = y.pairs }) = cc in
    λ i.
    Some
    (record {
      writes = (f i).writes;
      first = (f i).first;
      mode = (f i).mode;
      column = (f i).column;
      pairs = (f i).pairs;
      in_row = is_prop→PathP (λ j. InRow (f j).first (f j).column (f j).pairs) (λ j. hlevel props) x.in_row y.in_row i;
    })

pub one-state : {s : Settings} {bytes : List ℕ} {i : ℕ} (x y : State) → At s bytes i x.firsts x.mode → At s bytes i y.firsts y.mode → x ≡ y
one-state x y a b = λ k. record { firsts = (a.rowed ∙ sym b.rowed) k; mode = (a.moded ∙ sym b.moded) k }

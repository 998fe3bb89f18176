-- A write overwrites what it would have cut in its own bank.
use Prim.Native.Nat.{ℕ, ◌+◌, ◌%◌}
use mathlib.Core.Bool.{Bool, true, false, cond}
use mathlib.Core.List.{List}
use mathlib.Core.Path.{◌≡◌, refl, sym, ap, ◌∙◌}
use lib.Dec.{eqb}
use lib.ListN.{set}
use lib.Seq.{set-set}
use borrow.Author.Tests.{eqb-true}
use Rattle.reading.specs.Search.{lesser}
use Rattle.reading.specs.Settings.{Settings}
use Rattle.deadlines.specs.Deadlines.{WRITTEN, WRITER, END, LAST, at, cut_write, cut_other, new_write}

pub cut-over : (s : Settings) (d : List ℕ) (t pairs b : ℕ) → new_write s (cut_other s d t b) t pairs b ≡ new_write s (cut_write s d t) t pairs b
unfolding cut_other cut_write new_write
cut-over s d t pairs b = go (eqb (at d WRITER % 4) b) refl
  where
    cut : ℕ → List ℕ
    cut o = set d (WRITTEN + o) (lesser (at d (WRITTEN + o)) (t + 1 + 0 + s.t_wr))

    over : List ℕ → List ℕ
    over x = set (set x END (t + 1 + pairs + s.t_wtr)) LAST (t + 1 + pairs + 5)

    written : List ℕ → List ℕ
    written x = over (set x (WRITTEN + b) (t + 1 + pairs + s.t_wr))

    go : (v : Bool) → eqb (at d WRITER % 4) b ≡ v →
        written (cond v d (cut (at d WRITER % 4))) ≡ written (cut (at d WRITER % 4))
    go true e =
        sym (ap (λ (o : ℕ). written (cut o)) (eqb-true (at d WRITER % 4) b e)
        ∙ ap over (set-set d (WRITTEN + b) _ _))
    go false e = refl

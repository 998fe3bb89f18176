-- One event on a part whose bursts serve requests, however rows are closed.
use Prim.Native.Nat.{ℕ}
use mathlib.Core.Bool.{Bool, true, false, cond, ◌&&◌}
use mathlib.Core.List.{List, [], ◌∷◌, ◌++◌, map}
use mathlib.Core.Path.{◌≡◌, refl, ap, ◌∙◌}
use lib.Dec.{eqb}
use borrow.Author.Tests.{eq-eqb}
use Rattle.reading.specs.Settings.{Settings}
use Rattle.reading.specs.Capture.{Event}
use Rattle.reading.specs.Commands.{Command, READ, WRITE, MODE-REGISTER-SET, is, among}
use Rattle.reading.specs.Bursts.{column_of}
use Rattle.reading.specs.Part.{Part, cut_by, burst_given, part_after, step, run}
use Rattle.reading.specs.Schedule.{asks_write, first_cell, cell_bank, cell_row, cell_column}
use Rattle.memory.specs.Serving.{Serves, Each, cons}
use Rattle.memory.proofs.Pins.{active_command, burst_command}

pub run_more : (s : Settings) (p : Part) (es : List Event) (e : Event) → run s p (es ++ (e ∷ [])) ≡ step s (run s p es) e
run_more s p [] e = refl
run_more s p (x ∷ es) e = run_more s (step s p x) es e

-- the bursts of a part serve requests, both the latest first, and the mode is still the settings'
pub record Serving (s : Settings) (p : Part) (asked : List ℕ) : Type 0 where
  pub mode : p.mode ≡ s.mode
  pub bursts : Each (Serves s) p.bursts asked

-- a command at t cuts none of the bursts
abbrev pub Uncut : Settings → ℕ → Command → Part → Type 0
Uncut s t c p = map (cut_by s p t c) p.bursts ≡ p.bursts

-- what a request asks for stands open and on the pins
pub record Ready (s : Settings) (p : Part) (q address : ℕ) : Type 0 where
  pub row : (p.banks (cell_bank s (first_cell q))).row ≡ cell_row s (first_cell q)
  pub column : column_of s address ≡ cell_column s (first_cell q)

pub record Kind (writes : Bool) (c : Command) : Type 0 where
  pub burst : among (READ ∷ WRITE ∷ []) c ≡ true
  pub mode : is MODE-REGISTER-SET c ≡ false
  pub same : is WRITE c ≡ writes

-- READ or WRITE, as the request says
kind : (writes : Bool) (bank address : ℕ) (auto : Bool) →
    Kind writes (record { op = cond writes WRITE READ; bank = bank; address = address; A10 = auto; low = false })
kind true bank address auto = record { burst = refl; mode = refl; same = refl }
kind false bank address auto = record { burst = refl; mode = refl; same = refl }

pub asked-kind : (s : Settings) (q address : ℕ) (auto : Bool) → Kind (asks_write q) (burst_command s q address auto)
asked-kind s q address auto = kind (asks_write q) (cell_bank s (first_cell q)) address auto

module _ (s : Settings) (p : Part) (asked : List ℕ) (v : Serving s p asked) (t : ℕ) where
  mode-stays : (c : Command) → is MODE-REGISTER-SET c ≡ false → (part_after s p t c).mode ≡ s.mode
  mode-stays c m = ap (λ (b : Bool). cond (b && eqb c.bank 0) c.address p.mode) m ∙ v.mode

  -- a command that gives no burst
  pub serving-on : (c : Command) → Uncut s t c p → among (READ ∷ WRITE ∷ []) c ≡ false → is MODE-REGISTER-SET c ≡ false →
      Serving s (part_after s p t c) asked
  serving-on c u b m = record { mode = mode-stays c m; bursts = rw (b, u) v.bursts }

  -- the command of one more request
  pub serving-more : (q address : ℕ) (auto : Bool) → Uncut s t (burst_command s q address auto) p → Ready s p q address →
      Serving s (part_after s p t (burst_command s q address auto)) (q ∷ asked)
  serving-more q address auto u e =
      let c = burst_command s q address auto in
      let k = asked-kind s q address auto in
      let w : Serves s (burst_given s p t c) q =
      record {
        alike = record { writes = k.same; bank = refl; row = e.row; column = e.column; mode = v.mode };
        whole = refl;
      } in
      record { mode = mode-stays c k.mode; bursts = rw (k.burst, u) (cons w v.bursts) }

pub active-row : (s : Settings) (p : Part) (t q : ℕ) → ((part_after s p t (active_command s q)).banks (cell_bank s (first_cell q))).row ≡ cell_row s (first_cell q)
active-row s p t q = rw (eq-eqb (cell_bank s (first_cell q)) (cell_bank s (first_cell q)) refl)

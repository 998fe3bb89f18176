-- What the command of a pin word is to a burst, to the mode word and to the rows.
use Prim.Native.Nat.{ℕ}
use mathlib.Core.Bool.{Bool, true, false, cond, ◌&&◌, ◌||◌}
use mathlib.Core.List.{[], ◌∷◌}
use mathlib.Core.Path.{◌≡◌, refl, ◌∙◌}
use lib.Dec.{eqb}
use Rattle.reading.specs.Commands.{Command, ACTIVE, READ, WRITE, command_of, is, among}
use Rattle.reading.specs.Settings.{Settings}
use Rattle.reading.specs.Capture.{Event}
use Rattle.reading.specs.Bursts.{Burst}
use Rattle.reading.specs.Part.{Part, Bank, open_on, idle_from, auto_precharge, closes, step}
use Rattle.reading.proofs.Alone.{cuts_alone}
use Rattle.pins.specs.Pins.{code_of, bank_of, address_of, mode_after}
use Rattle.pins.proofs.Commands.{active-is, read_is, write-is, terminate-is, precharge-is, mode-set-is}
use Rattle.beats.specs.Kept.{cuts_burst}

module _ (w : ℕ) where
  -- ---- what bursts ask of it

  -- the pins b gave the burst x
  pub cuts-is : (b : ℕ) (x : Burst) → x.writes ≡ eqb (code_of b) 2 → x.bank ≡ bank_of b → cuts_alone (command_of w) x ≡ cuts_burst b w
  cuts-is b x e f = rw (e, f, read_is, write-is, terminate-is, precharge-is) (go (eqb (code_of b) 2) (eqb (code_of w) 10) (eqb (code_of w) 6) _ _)
    where
      go : (v p q y z : Bool) → cond v y ((p || (q || false)) || z) ≡ cond v y (p || (q || z))
      go true p q y z = refl
      go false true q y z = refl
      go false false true y z = refl
      go false false false y z = refl

-- ---- what it makes of the mode word and of the rows

module _ (s : Settings) (p : Part) (e : Event) where
  pub mode-is : (step s p e).mode ≡ mode_after p.mode e.pins
  unfolding mode_after
  mode-is = rw (mode-set-is e.pins)

  abbrev c : Command
  c = command_of e.pins

  pub row_is : (b : ℕ) → ((step s p e).banks b).row ≡ cond (eqb (code_of e.pins) 12 && eqb b (bank_of e.pins)) (address_of e.pins) (p.banks b).row
  row_is b =
      go (is ACTIVE c && eqb b c.bank) (among (READ ∷ WRITE ∷ []) c && (eqb b c.bank && c.A10)) (closes c b (p.banks b))
      c.address e.cycle (auto_precharge s p.mode e.cycle c (p.banks b)) e.cycle (p.banks b)
      ∙ rw (active-is e.pins)
    where
      go : (a r q : Bool) (address t u v : ℕ) (x : Bank) →
          (cond a (open_on address t x) (cond r (idle_from u x) (cond q (idle_from v x) x))).row ≡ cond a address x.row
      go true r q address t u v x = refl
      go false true q address t u v x = refl
      go false false true address t u v x = refl
      go false false false address t u v x = refl

-- Mode words of a clean capture are valid, so a burst has one pair at least and eight at most.
use Prim.Native.Nat.{ℕ, zero, suc, ◌%◌, ◌≤◌}
use mathlib.Core.Bool.{Bool, true, false, cond, ◌&&◌, ◌||◌}
use mathlib.Core.List.{List, Memᴰ}
use mathlib.Core.Option.{none}
use mathlib.Core.Path.{◌≡◌, refl, sym, ap, ◌∙◌, subst}
use native.Mathlib.Numerals.{add-one}
use native.Mathlib.Omega.{arith}
use borrow.Author.Tests.{leb-true, eqb-true}
use lib.Dec.{leb, eqb}
use lib.Pow.{pow_mono}
use Rattle.reading.specs.Search.{implies}
use Rattle.reading.specs.Mode.{h, mode_word}
use Rattle.reading.specs.Settings.{Settings, settings_of}
use Rattle.reading.specs.Capture.{Event, event_at}
use Rattle.reading.specs.Commands.{MODE-REGISTER-SET, Command, command_of, is}
use Rattle.reading.specs.Part.{Part, step}
use Rattle.reading.specs.Rules.{broken_by}
use Rattle.reading.proofs.Meaning.{none-broken}
use Rattle.reading.proofs.Laws.{both}
use Rattle.judge.specs.Meaning.{part_at}
use Rattle.judge.proofs.Events.{part-next}
use Rattle.cells.specs.Meaning.{Listable, Clean}
use Rattle.cells.proofs.Alone.{sounds}

pub few-pairs : (m : ℕ) → mode_word m ≡ true → h m ≤ 8
few-pairs m v =
    let length-and-latency = both _ _ (both _ _ v).0 in
    let most = (both (leb 1 (m % 8)) (leb (m % 8) 4) length-and-latency.0).1 in
    omega (arith, pow_mono {i = m % 8} {j = 4} (leb-true (m % 8) 4 most))

pub some_pair : (m : ℕ) → mode_word m ≡ true → 1 ≤ h m
some_pair m v =
    let length-and-latency = both _ _ (both _ _ v).0 in
    let least = (both (leb 1 (m % 8)) (leb (m % 8) 4) length-and-latency.0).0 in
    omega (arith, pow_mono {i = 1} {j = m % 8} (leb-true 1 (m % 8) least))

module _ (s : Settings) (p : Part) (e : Event) (v : mode_word p.mode ≡ true) where
  abbrev c : Command
  c = command_of e.pins

  -- rule 2
  pub mode-valid : broken_by s p e ≡ none → mode_word (step s p e).mode ≡ true
  mode-valid n =
      go (is MODE-REGISTER-SET c) (eqb c.bank 0) refl ((none-broken s p e).0 n 2 (Memᴰ.tail (Memᴰ.head refl)))
    where
      go : (x y : Bool) → eqb c.bank 0 ≡ y → implies x ((y && mode_word c.address) || eqb c.bank 2) ≡ true →
          mode_word (cond (x && y) c.address p.mode) ≡ true
      go false y g k = v
      go true false g k = v
      go true true g k = valid (mode_word c.address) refl
        where
          other : eqb c.bank 2 ≡ false
          other = let z = eqb-true c.bank 0 g in rw z

          valid : (z : Bool) → mode_word c.address ≡ z → mode_word c.address ≡ true
          valid true f = f
          valid false f = f ∙ sym (ap (λ (z : Bool). z || eqb c.bank 2) f ∙ other) ∙ k

-- before every event
module _ (settings bytes : List ℕ) (n : ℕ) (z : Listable settings bytes n) (k : Clean (settings_of settings) bytes n) where
  abbrev s : Settings
  s = settings_of settings

  pub valid-at : (i : ℕ) → i ≤ n → mode_word (part_at s bytes i).mode ≡ true
  valid-at zero l = z.moded
  valid-at (suc i) l =
      subst (λ (p : Part). mode_word p.mode ≡ true) (sym (part-next s bytes i) ∙ ap (part_at s bytes) (add-one i))
      (mode-valid s (part_at s bytes i) (event_at bytes i) (valid-at i (omega arith)) (sounds settings bytes n z k i (omega arith)).kept)

-- Rules 1 to 13 pass a command from one cycle on: the latest of the deadlines that they ask of it.
use Prim.Native.Nat.{ℕ, zero, suc, ◌+◌, ◌^◌, ◌≤◌, ◌<◌}
use mathlib.Core.Bool.{Bool, true, false, cond, ◌&&◌, and_assoc, and-true, or-false}
use mathlib.Core.List.{List, [], ◌∷◌, map}
use mathlib.Core.Path.{◌≡◌, refl, sym, ap, ◌∙◌}
use native.Mathlib.Nat.{le_refl, le_trans}
use native.Mathlib.Omega.{arith}
use lib.ListN.{get_or}
use lib.Dec.{leb, eqb, leb-zero}
use borrow.Author.Tests.{lt-ltb}
use Rattle.reading.specs.Search.{implies, ever, every, find, after, later}
use Rattle.reading.specs.Settings.{Settings}
use Rattle.reading.specs.Commands.{ACTIVE, READ, WRITE, PRECHARGE, AUTO-REFRESH, Command, command_of}
use Rattle.reading.specs.Bursts.{rests_from}
use Rattle.reading.specs.Part.{Part, bank_write}
use Rattle.reading.specs.Rules.{keeps_rule, placing}
use Rattle.reading.specs.Schedule.{passes}
use Rattle.reading.proofs.Laws.{later_first, later_second}
use Rattle.deadlines.specs.Deadlines.{CLOSE, WRITTEN, Wait, read_waits, write_waits, soonest}
use Rattle.deadlines.proofs.Waits.{unasked}
use Rattle.bridge.specs.Summary.{Held, laid, summary, from}
use Rattle.bridge.proofs.Laid.{stands}
use Rattle.bridge.proofs.Tests.{after_is, ended_is, cleared-is, leb-later, held-is}
use Rattle.bridge.proofs.Rules.{does, one-is}
use Rattle.plan.specs.Soonest.{active_soonest, close_waits, open_till, all_till, refresh_soonest}

-- all waits are over once the latest is
pub leb-soonest : (t : ℕ) (ws : List Wait) → leb (soonest ws) t ≡ every (λ w. leb w.till t) ws
unfolding soonest
leb-soonest t [] = leb-zero t
leb-soonest t (w ∷ []) = sym (and-true (leb w.till t))
leb-soonest t (w ∷ v ∷ ws) =
    leb-later w.till (soonest (v ∷ ws)) t ∙ ap (λ (u : Bool). leb w.till t && u) (leb-soonest t (v ∷ ws))

-- a bank that is idle is not waited for
till-is : (o : Bool) (till t : ℕ) → leb (cond (eqb (cond o 1 0) 0) 0 till) t ≡ implies o (leb till t)
till-is true till t = refl
till-is false till t = leb-zero t

all-till-is : (d : List ℕ) (place rest t : ℕ) → leb (all_till d place rest) t ≡
    (leb (open_till d place 0) t && (leb (open_till d place 1) t && (leb (open_till d place 2) t && (leb (open_till d place 3) t && leb rest t))))
unfolding all_till
all-till-is d place rest t =
    leb-later (open_till d place 0) _ t
    ∙ ap (λ (v : Bool). leb (open_till d place 0) t && v)
    (leb-later (open_till d place 1) _ t
    ∙ ap (λ (v : Bool). leb (open_till d place 1) t && v)
    (leb-later (open_till d place 2) _ t ∙ ap (λ (v : Bool). leb (open_till d place 2) t && v) (leb-later (open_till d place 3) rest t)))

-- not before any of the waits
pub waited : (ws : List Wait) (i : ℕ) → get_or (map (λ (w : Wait). w.till) ws) i 0 ≤ soonest ws
unfolding soonest
waited [] i = omega arith
waited (w ∷ []) zero = le_refl w.till
waited (w ∷ []) (suc i) = omega arith
waited (w ∷ v ∷ ws) zero = later_first w.till (soonest (v ∷ ws))
waited (w ∷ v ∷ ws) (suc i) = le_trans (waited (v ∷ ws) i) (later_second w.till (soonest (v ∷ ws)))

module _ (s : Settings) (p : Part) (t : ℕ) where
  abbrev pub passed : Command → Bool
  passed c = every (λ r. keeps_rule r s p t c) placing

  pub carried-passes : (pins : ℕ) {c : Command} → command_of pins ≡ c → passes placing s p pins t ≡ passed c
  unfolding passes
  carried-passes pins e = ap passed e

  abbrev X : Held
  X = summary s p

  busy-is : leb X.busy t ≡ (leb (from p.last_refresh s.t_rfc) t && leb (from p.last_mode_set s.t_mrd) t)
  busy-is = leb-later (from p.last_refresh s.t_rfc) (from p.last_mode_set s.t_mrd) t

  pub read-passed : (b a : ℕ) (ten : Bool) → b < 4 → (p.banks b).opened ≡ true → passed (does READ b a ten) ≡ leb (soonest (read_waits (laid X) b)) t
  read-passed b a ten l o =
      rw (leb-soonest t, busy-is, o, (stands X b l).column) (simp (after_is, ended_is, held-is, and_assoc, and-true))

  pub write-passed : (b a : ℕ) (ten : Bool) → b < 4 → (p.banks b).opened ≡ true → passed (does WRITE b a ten) ≡ leb (soonest (write_waits (laid X) b)) t
  write-passed b a ten l o =
      rw (leb-soonest t, busy-is, o, (stands X b l).column) (simp (after_is, cleared-is, held-is, and_assoc, and-true))

  pub active-passed : (b a : ℕ) (ten : Bool) → b < 4 → a < 2 ^ s.row_bits → (p.banks b).opened ≡ false →
      passed (does ACTIVE b a ten) ≡ leb (active_soonest (laid X) b) t
  unfolding active_soonest
  active-passed b a ten l r o =
      rw (leb-soonest t, busy-is, lt-ltb a (2 ^ s.row_bits) r, o, (stands X b l).rest)
      (simp (after_is, unasked, and_assoc, and-true))

  pub refresh-passed : (b a : ℕ) (ten : Bool) → ((i : ℕ) → i < 4 → (p.banks i).opened ≡ false) → passed (does AUTO-REFRESH b a ten) ≡ leb (refresh_soonest (laid X)) t
  unfolding refresh_soonest
  refresh-passed b a ten o =
      rw (leb-soonest t, busy-is, o 0 (omega arith), o 1 (omega arith), o 2 (omega arith), o 3 (omega arith)) (simp (after_is, cleared-is, and_assoc, and-true))

  -- PRECHARGE of a bank that is open, and of all banks
  pub close_passed : (b a : ℕ) → b < 4 → (p.banks b).opened ≡ true → passed (does PRECHARGE b a false) ≡ leb (soonest (close_waits (laid X) b)) t
  close_passed b a l o =
      rw (
        leb-soonest t,
        busy-is,
        one-is (λ i. (p.banks i).opened) (λ i. after s.t_ras (p.banks i).last_active t) b l,
        one-is (λ i. (p.banks i).opened) (λ i. ever (find (bank_write p i) p.bursts) (λ x. leb (rests_from s x + s.t_wr) t)) b l,
        o,
        (stands X b l).close,
        (stands X b l).written,
      )
      (simp (after_is, ended_is, or-false, and_assoc, and-true))

  pub close-all-passed : (b a end : ℕ) → (passed (does PRECHARGE b a true) && leb end t) ≡
      leb (later X.busy (all_till (laid X) CLOSE (all_till (laid X) WRITTEN end))) t
  close-all-passed b a end =
      let written = all_till (laid X) WRITTEN end in
      rw (leb-later X.busy (all_till (laid X) CLOSE written) t, busy-is, all-till-is (laid X) CLOSE written t, all-till-is (laid X) WRITTEN end t)
      (simp (till-is, after_is, ended_is, and_assoc, and-true))

-- READ or WRITE of a bank that is open, with auto precharge or without, on a part that a schedule reached.
use Prim.Native.Nat.{ℕ, suc, ◌+◌, ◌≤◌, ◌<◌}
use mathlib.Core.Bool.{Bool, true, false, cond, ◌&&◌}
use mathlib.Core.List.{List, map}
use mathlib.Core.Path.{◌≡◌, sym, ap, ◌∙◌}
use native.Mathlib.Nat.{le_trans}
use lib.Dec.{leb, eqb}
use lib.ListN.{set}
use borrow.Author.Tests.{le-leb}
use Rattle.reading.specs.Search.{find}
use Rattle.reading.specs.Mode.{h}
use Rattle.reading.specs.Settings.{Settings, newer}
use Rattle.reading.specs.Commands.{READ, WRITE, Command}
use Rattle.reading.specs.Sleep.{sleep_at_start}
use Rattle.reading.specs.Bursts.{reads}
use Rattle.reading.specs.Part.{Part, auto_precharge, cut_by, part_after, last_read, last_write}
use Rattle.reading.specs.Schedule.{cuts_nothing}
use Rattle.reading.proofs.Cuts.{All}
use Rattle.reading.proofs.Laws.{later_first}
use Rattle.deadlines.specs.Deadlines.{read_waits, write_waits, soonest, pace_of, read_after, write_after}
use Rattle.bridge.specs.Summary.{Held, laid, summary}
use Rattle.bridge.proofs.Tests.{ended_is, leb-later}
use Rattle.bridge.proofs.Rules.{does}
use Rattle.bridge.proofs.Next.{Sound, read_next, write-next}
use Rattle.bridge.proofs.Kept.{kept_read, kept-write}
use Rattle.plan.specs.Behind.{FREE, EVENTS, cut_end, stood}
use Rattle.plan.specs.Soonest.{read_soonest, write_soonest, burst_soonest}
use Rattle.plan.specs.Draft.{burst_after, burst_ends}
use Rattle.plan.proofs.Ranged.{Ranged}
use Rattle.plan.proofs.Passing.{passed, waited, read-passed, write-passed}
use Rattle.plan.proofs.Uncut.{Whole, read-uncut, write-uncut}
use Rattle.plan.proofs.Near.{Near, near-read, near-write}
use Rattle.plan.proofs.Awake.{awake-clock}
use Rattle.plan.proofs.Standing.{kept_row}

abbrev pub standing_by : Part → ℕ → ℕ → List ℕ
standing_by p free events = stood (λ b. (p.banks b).row) (cut_end (last_read p)) (cut_end (last_write p)) free events

module _ (s : Settings) (p : Part) (old : newer s ≡ false) (mode : p.mode ≡ s.mode) (b a : ℕ) (closed : Bool) (lb : b < 4) (own : (p.banks b).opened ≡ true) where
  abbrev pub bursts : Bool → Command
  bursts write = does (cond write WRITE READ) b a closed

  abbrev X : Held
  X = summary s p

  module _ (from t : ℕ) (l : from ≤ t) (g : Sound from p) (w : All Whole p.bursts) (free events : ℕ) where
    abbrev k : List ℕ
    k = standing_by p free events

    pub burst-going : (write : Bool) → (passed s p t (bursts write) && cuts_nothing s p t (bursts write)) ≡ leb (burst_soonest write (laid X) k b) t
    unfolding read_soonest write_soonest
    burst-going true =
        (λ i. write-passed s p t b a closed lb own i && write-uncut s p old from t l g w b a closed i)
        ∙ sym (leb-later (soonest (write_waits (laid X) b)) (cut_end (last_write p)) t)
    burst-going false =
        (λ i. read-passed s p t b a closed lb own i && read-uncut s p old from t l g w b a closed i)
        ∙ sym (leb-later (soonest (read_waits (laid X) b)) (cut_end (last_read p)) t)

    module _ (write : Bool) (soon : burst_soonest write (laid X) k b ≤ t) where
      pub burst-leaves : p.sleep.asleep ≡ false → laid (summary s (part_after s p t (bursts write))) ≡ burst_after closed write s (laid X) t b
      unfolding read_soonest write_soonest
      burst-leaves up = go write soon
        where
          go : (write : Bool) → burst_soonest write (laid X) k b ≤ t → laid (summary s (part_after s p t (bursts write))) ≡ burst_after closed write s (laid X) t b
          go true soon =
              write-next s p from t l g up b a closed lb (le_trans (waited (write_waits (laid X) b) 3) (le_trans (later_first _ _) soon))
              ∙ ap (λ (m : ℕ). write_after s (laid X) (pace_of m) t b closed) mode
          go false soon =
              read_next s p from t l g up b a closed lb (le_trans (waited (read_waits (laid X) b) 3) (le_trans (later_first _ _) soon))
              ∙ ap (λ (m : ℕ). read_after s (laid X) (pace_of m) t b closed) mode

      pub burst-sound : Sound (suc t) (part_after s p t (bursts write))
      unfolding read_soonest write_soonest
      burst-sound = go write soon
        where
          go : (write : Bool) → burst_soonest write (laid X) k b ≤ t → Sound (suc t) (part_after s p t (bursts write))
          go true soon =
              let over = le_trans (later_first _ _) soon in
              kept-write s p from t l g b a closed lb own (le_trans (waited (write_waits (laid X) b) 2) over) (le_trans (waited (write_waits (laid X) b) 3) over)
          go false soon =
              kept_read s p from t l g b a closed lb own
              (ended_is s (last_write p) s.t_wtr t
              ∙ le-leb X.write.end t (le_trans (waited (read_waits (laid X) b) 2) (le_trans (later_first _ _) soon)))

  pub burst-near : Ranged s → {from t : ℕ} → from ≤ t → {d : List ℕ} → Near s from d → (write : Bool) → Near s (suc t) (burst_after closed write s d t b)
  burst-near r {t = t} l n true = near-write s r n t l b lb closed
  burst-near r {t = t} l n false = near-read s r n t l b lb closed

  pub burst-clock : p.sleep ≡ sleep_at_start → (t : ℕ) (write : Bool) → (part_after s p t (bursts write)).clock ≡ p.clock
  burst-clock up t true = awake-clock s p up t (bursts true)
  burst-clock up t false = awake-clock s p up t (bursts false)

  -- rows stay; the burst is the last of its kind, the other kind's last is as it was
  pub burst-stood : (t : ℕ) (write : Bool) → map (cut_by s p t (bursts write)) p.bursts ≡ p.bursts → (free events free' events' : ℕ) →
      standing_by (part_after s p t (bursts write)) free events ≡ set (set (burst_ends closed write s (standing_by p free' events') t) FREE free) EVENTS events
  burst-stood t true st free events free' events' =
      λ i.
      stood (λ j. kept_row (eqb j b && closed) (auto_precharge s p.mode t (bursts true) (p.banks j)) (p.banks j) i)
      (cut_end (find reads (st i))) (cond closed 0 (t + h (mode i))) free events
  burst-stood t false st free events free' events' =
      λ i.
      stood (λ j. kept_row (eqb j b && closed) (auto_precharge s p.mode t (bursts false) (p.banks j)) (p.banks j) i)
      (cond closed 0 (t + h (mode i))) (cut_end (find (λ x. x.writes) (st i))) free events

-- One event: the step answers by the summary what the reading answers by the part, and leaves the next summary.
use Prim.Native.Nat.{ℕ, suc, ◌≤◌, ◌<◌}
use mathlib.Core.Bool.{Bool, true, false, cond, ◌&&◌}
use mathlib.Core.List.{List, [], ◌∷◌}
use mathlib.Core.Option.{none, some}
use mathlib.Core.Path.{◌≡◌, refl, sym, ap, ◌∙◌, subst}
use native.Mathlib.Nat.{zero-add}
use native.Mathlib.Omega.{arith}
use lib.Dec.{leb, eqb}
use borrow.Author.Tests.{leb-true, eqb-false}
use Rattle.reading.specs.Search.{find, after}
use Rattle.reading.specs.Settings.{Settings}
use Rattle.reading.specs.Commands.{Op, is, among, quiet, ACTIVE, READ, WRITE, BURST-TERMINATE, PRECHARGE, AUTO-REFRESH, MODE-REGISTER-SET, Command, op_of, command_of}
use Rattle.reading.specs.Bursts.{reads}
use Rattle.reading.specs.Part.{Part, start, part_after}
use Rattle.reading.specs.Rules.{keeps_rule, rules, lowest_broken}
use Rattle.reading.proofs.Laws.{both}
use Rattle.reading.proofs.Cuts.{nil}
use Rattle.reading.proofs.Found.{listed}
use Rattle.reading.proofs.Meaning.{each-kept}
use Rattle.deadlines.specs.Deadlines.{pace_of, start_of, close_breaks, close_all_breaks}
use Rattle.pins.specs.Pins.{code_of, bank_of, address_of, ten_of, low_of, quiet_code}
use Rattle.steps.specs.Steps.{unless_lower, high_breaks, step_breaks, step_after, pace_after}
use Rattle.steps.proofs.Codes as codes
use Rattle.steps.proofs.Codes.{Coded, is-active, is_read, is-write, is-close, is-terminate, is-refresh, is-mode-set, is-quiet, coded}
use Rattle.pins.proofs.Pins.{turned, op-is}
use Rattle.pins.proofs.Commands.{Quietly, asks-quietly}
use Rattle.bridge.specs.Summary.{Held, Timed, laid, summary, from}
use Rattle.bridge.proofs.Tests.{num, after_is, leb-later, held-is, cleared-is}
use Rattle.bridge.proofs.Bursts.{terminate-is, nothing}
use Rattle.bridge.proofs.Rules.{does, does_low, says, as-nop}
use Rattle.bridge.proofs.Rules.{quiet-agrees, read-agrees, write-agrees, active-agrees, terminate-agrees, close-agrees, close-all-agrees, refresh-agrees, mode-agrees}
use Rattle.bridge.proofs.Next.{Sound, quiet_next, low-next, self-next, refresh-next, mode-next, active-next, read_next, write-next, terminate-next, close-next, close-all-next}
use Rattle.bridge.proofs.Low.{command-agrees, low-agrees, self-agrees}
use Rattle.bridge.proofs.Kept.{kept-plain, kept-mode, kept_read, kept-write}

as-told : (w : ℕ) {v : Bool} {o : Op} → low_of w ≡ v → (command_of w).op ≡ o →
    command_of w ≡ record { op = o; bank = bank_of w; address = address_of w; A10 = ten_of w; low = v }
as-told w n e = λ i. record { op = e i; bank = bank_of w; address = address_of w; A10 = ten_of w; low = n i }

carries : (w q : ℕ) (v : Bool) → low_of w ≡ v → code_of w ≡ q →
    command_of w ≡ record { op = op_of (turned q); bank = bank_of w; address = address_of w; A10 = ten_of w; low = v }
carries w q v n e = as-told w n (op-is w ∙ ap (λ (k : ℕ). op_of (turned k)) e)

-- ---- one event

module _ (s : Settings) (wide : s.row_bits < 32) (p : Part) (from₀ t : ℕ) (l : from₀ ≤ t) (timed : Timed s t) (g : Sound from₀ p) (w : ℕ) where
  -- the deadlines, h and CL, and what holds of the part, after an event that keeps every rule
  pub record Onward (c : Command) : Type 0 where
    pub leaves : step_after s (laid (summary s p)) (pace_of p.mode) t w ≡ laid (summary s (part_after s p t c))
    pub sets : pace_after (pace_of p.mode) w ≡ pace_of (part_after s p t c).mode
    pub sound : Sound (suc t) (part_after s p t c)

  pub record Turned (c : Command) : Type 0 where
    pub breaks : step_breaks s (laid (summary s p)) t w ≡ num (lowest_broken rules s p t c)
    pub onward : lowest_broken rules s p t c ≡ none → Onward c

  -- a rule that an unbroken event keeps
  kept : (c : Command) → lowest_broken rules s p t c ≡ none → (r : ℕ) → find (eqb r) rules ≡ some r → keeps_rule r s p t c ≡ true
  kept c e r m = each-kept rules s p t c e r (listed r rules m)

  -- what is left is sound, after a command that gives no burst and leaves the mode
  plain : (c : Command) → among (READ ∷ WRITE ∷ []) c ≡ false → is MODE-REGISTER-SET c ≡ false → lowest_broken rules s p t c ≡ none →
      Sound (suc t) (part_after s p t c)
  plain c e m z = kept-plain s p from₀ t l g c e m (kept c z 3 refl) (kept c z 10 refl)

  -- a command that waits comes awake
  awake : (v : Bool) → cond p.sleep.asleep false v ≡ true → p.sleep.asleep ≡ false
  awake v = go p.sleep.asleep
    where
      go : (a : Bool) → cond a false v ≡ true → a ≡ false
      go true e = let z : ◌≡◌ {A = ℕ} 0 1 = cc in absurd (omega arith)
      go false e = refl

  abbrev X : Held
  X = summary s p

  -- what rules 4, 12 and 13 say of the summary
  busy-past : (leb (from p.last_refresh s.t_rfc) t && leb (from p.last_mode_set s.t_mrd) t) ≡ true → X.busy ≤ t
  busy-past e = leb-true X.busy t (leb-later (from p.last_refresh s.t_rfc) (from p.last_mode_set s.t_mrd) t ∙ e)

  both-after : (after s.t_rfc p.last_refresh t && after s.t_mrd p.last_mode_set t) ≡ true → X.busy ≤ t
  both-after e = busy-past (rw (after_is s.t_rfc p.last_refresh t, after_is s.t_mrd p.last_mode_set t) at e)

  -- a command by its pins, once its laws are in hand
  turn : (c : Command) → command_of w ≡ c → {rule : ℕ} {left pace : List ℕ} → codes.Does s (laid X) (pace_of p.mode) t w rule left pace →
      num (lowest_broken rules s p t c) ≡ rule → (lowest_broken rules s p t c ≡ none → laid (summary s (part_after s p t c)) ≡ left) →
      pace ≡ pace_of (part_after s p t c).mode → (lowest_broken rules s p t c ≡ none → Sound (suc t) (part_after s p t c)) → Turned (command_of w)
  turn c e d agrees next pace sound =
      subst (λ (k : Command). Turned k) (sym e)
      (record {
        breaks = d.breaks ∙ sym agrees;
        onward = λ z. record { leaves = d.leaves ∙ sym (next z); sets = d.sets ∙ pace; sound = sound z };
      })

  b : ℕ
  b = bank_of w

  a : ℕ
  a = address_of w

  ten : Bool
  ten = ten_of w

  small : b < 4
  unfolding b
  small = omega arith

  turn-active : low_of w ≡ false → code_of w ≡ 12 → Turned (command_of w)
  unfolding b a ten
  turn-active n e =
      turn (does ACTIVE b a ten) (carries w 12 false n e) (codes.active s (laid X) (pace_of p.mode) t w refl refl n e) (active-agrees s p t timed b a ten small wide)
      (λ z. active-next s p from₀ t l g (awake _ (kept (does ACTIVE b a ten) z 15 refl)) b a ten small) refl
      (plain (does ACTIVE b a ten) refl refl)

  turn-read : low_of w ≡ false → code_of w ≡ 10 → Turned (command_of w)
  unfolding b a ten
  turn-read n e =
      turn c (carries w 10 false n e) (codes.read s (laid X) (pace_of p.mode) t w refl refl n e) (read-agrees s p t timed b a ten small)
      (λ z. read_next s p from₀ t l g (awake _ (kept c z 15 refl)) b a ten small (leb-true X.read.reads t (sym (held-is reads t p.bursts) ∙ kept c z 13 refl)))
      refl (λ z. kept_read s p from₀ t l g b a ten small (kept c z 3 refl) (kept c z 11 refl))
    where
      c : Command
      c = does READ b a ten

  turn-write : low_of w ≡ false → code_of w ≡ 2 → Turned (command_of w)
  unfolding b a ten
  turn-write n e =
      turn c (carries w 2 false n e) (codes.write s (laid X) (pace_of p.mode) t w refl refl n e) (write-agrees s p t timed b a ten small)
      (λ z. write-next s p from₀ t l g (awake _ (kept c z 15 refl)) b a ten small (held z)) refl (λ z. kept-write s p from₀ t l g b a ten small (kept c z 3 refl) (free z) (held z))
    where
      c : Command
      c = does WRITE b a ten

      free : lowest_broken rules s p t c ≡ none → X.read.bus ≤ t
      free z = leb-true X.read.bus t (sym (cleared-is (find reads p.bursts) t) ∙ kept c z 12 refl)

      held : lowest_broken rules s p t c ≡ none → X.write.writes ≤ t
      held z = leb-true X.write.writes t (sym (held-is (λ x. x.writes) t p.bursts) ∙ kept c z 13 refl)

  turn-close : low_of w ≡ false → code_of w ≡ 4 → Turned (command_of w)
  unfolding b a ten
  turn-close n e = go (ten_of w) refl
    where
      go : (v : Bool) → ten_of w ≡ v → Turned (command_of w)
      go true f =
          turn (does PRECHARGE b a true) (carries w 4 false n e ∙ ap (does PRECHARGE b a) f) (codes.close-all s (laid X) (pace_of p.mode) t w n e f)
          (close-all-agrees s p t timed b a) (λ z. close-all-next s p from₀ t l g (awake _ (kept (does PRECHARGE b a true) z 15 refl)) b a) refl
          (plain (does PRECHARGE b a true) refl refl)
      go false f =
          turn (does PRECHARGE b a false) (carries w 4 false n e ∙ ap (does PRECHARGE b a) f) (codes.close s (laid X) (pace_of p.mode) t w refl n e f)
          (close-agrees s p t timed b a small) (λ z. close-next s p from₀ t l g (awake _ (kept (does PRECHARGE b a false) z 15 refl)) b a small) refl
          (plain (does PRECHARGE b a false) refl refl)

  turn-terminate : low_of w ≡ false → code_of w ≡ 6 → Turned (command_of w)
  unfolding b a ten
  turn-terminate n e =
      turn c (carries w 6 false n e) (codes.terminate s (laid X) (pace_of p.mode) t w n e) (terminate-agrees s p t timed b a ten from₀ l g.bursts g.late g.standing)
      (λ z. terminate-next s p from₀ t l g (awake _ (kept c z 15 refl)) b a ten (held z)) refl (plain c refl refl)
    where
      c : Command
      c = does BURST-TERMINATE b a ten

      held : lowest_broken rules s p t c ≡ none → X.read.reads ≤ t
      held z =
          leb-true X.read.reads t
          (both (leb X.read.reads t) _ (sym (terminate-is from₀ t l g.bursts g.late) ∙ kept c z 13 refl)).0

  turn-refresh : low_of w ≡ false → code_of w ≡ 8 → Turned (command_of w)
  unfolding b a ten
  turn-refresh n e =
      turn c (carries w 8 false n e) (codes.refresh s (laid X) (pace_of p.mode) t w n e) (refresh-agrees s p t timed b a ten)
      (λ z. refresh-next s p from₀ t l g timed.ticks (awake _ (kept c z 15 refl)) b a ten (both-after (kept c z 4 refl))) refl
      (plain c refl refl)
    where
      c : Command
      c = does AUTO-REFRESH b a ten

  turn-mode : low_of w ≡ false → code_of w ≡ 0 → Turned (command_of w)
  unfolding b a ten
  turn-mode n e =
      turn c (carries w 0 false n e) (codes.mode-set s (laid X) (pace_of p.mode) t w refl refl n e) (mode-agrees s p t timed b a ten)
      (λ z. mode-next s p from₀ t l g (awake _ (kept c z 15 refl)) b a ten (both-after (kept c z 4 refl))) (which (eqb b 0))
      (λ z. kept-mode s p from₀ t l g b a ten (leb-true X.read.bus t (sym (cleared-is (find reads p.bursts) t) ∙ kept c z 12 refl)) (kept c z 3 refl))
    where
      c : Command
      c = does MODE-REGISTER-SET b a ten

      which : (v : Bool) → cond v (pace_of a) (pace_of p.mode) ≡ pace_of (cond v a p.mode)
      which true = refl
      which false = refl

  -- NOP and DESELECT, which nothing tells apart
  turn-quiet : low_of w ≡ false → quiet_code (code_of w) ≡ true → Turned (command_of w)
  unfolding b a ten
  turn-quiet k n =
      turn c (as-told w k refl) (codes.quiet s (laid X) (pace_of p.mode) t w refl k n) (quiet-agrees s p t timed q b a ten)
      (λ z. quiet_next s p from₀ t l g q b a ten timed (kept c z 14 refl)) (sym (as-nop (λ y. pace_of (part_after s p t (does y b a ten)).mode) q refl))
      (plain c (as-nop (λ y. among (READ ∷ WRITE ∷ []) (does y b a ten)) q refl) (as-nop (λ y. is MODE-REGISTER-SET (does y b a ten)) q refl))
    where
      q : Quietly (command_of w).op
      q = asks-quietly w n

      c : Command
      c = does (command_of w).op b a ten

  -- ---- with CKE low

  turn-low-quiet : low_of w ≡ true → quiet_code (code_of w) ≡ true → Turned (command_of w)
  unfolding b a ten
  turn-low-quiet k n =
      turn c (as-told w k refl) (codes.low-quiet s (laid X) (pace_of p.mode) t w refl k n)
      (low-agrees s p t timed from₀ l g.bursts g.late g.standing q b a ten)
      (λ z. low-next s p from₀ t l g q b a ten timed (kept c z 14 refl)) (sym (as-nop (λ y. pace_of (part_after s p t (does_low y b a ten)).mode) q refl))
      (plain c (as-nop (λ y. among (READ ∷ WRITE ∷ []) (does_low y b a ten)) q refl) (as-nop (λ y. is MODE-REGISTER-SET (does_low y b a ten)) q refl))
    where
      q : Quietly (command_of w).op
      q = asks-quietly w n

      c : Command
      c = does_low (command_of w).op b a ten

  turn-low-refresh : low_of w ≡ true → code_of w ≡ 8 → Turned (command_of w)
  unfolding b a ten
  turn-low-refresh n e =
      turn c (carries w 8 true n e) (codes.low-refresh s (laid X) (pace_of p.mode) t w n e) (self-agrees s p t timed from₀ l g.bursts g.late g.standing b a ten)
      (λ z. self-next s p from₀ t l g b a ten (awake _ (kept c z 15 refl))) refl (plain c refl refl)
    where
      c : Command
      c = does_low AUTO-REFRESH b a ten

  -- any other command breaks a rule
  turn-low-command : (q : ℕ) (o : Op) → low_of w ≡ true → code_of w ≡ q → op_of (turned q) ≡ o → eqb q 8 ≡ false → quiet_code q ≡ false →
      quiet (does o b a ten) ≡ false → is AUTO-REFRESH (does o b a ten) ≡ false → high_breaks s (laid X) t w ≡ says s p t o b a ten → Turned (command_of w)
  unfolding b a ten
  turn-low-command q o n e f g₁ g₂ h₁ h₂ agrees =
      subst (λ (k : Command). Turned k) (sym (carries w q true n e ∙ ap (λ (y : Op). does_low y b a ten) f))
      (record { breaks = breaks; onward = λ z. absurd (never-none (says s p t o b a ten) (sym (command-agrees s p t o b a ten h₁ h₂) ∙ ap num z)) })
    where
      breaks : step_breaks s (laid X) t w ≡ num (lowest_broken rules s p t (does_low o b a ten))
      breaks =
          (codes.low-command s (laid X) (pace_of p.mode) t w n (ap (λ (k : ℕ). eqb k 8) e ∙ g₁) (ap quiet_code e ∙ g₂)).breaks
          ∙ ap unless_lower agrees ∙ sym (command-agrees s p t o b a ten h₁ h₂)

      never-none : (r : ℕ) → unless_lower r ≡ 0 → ⊥
      never-none r = go (eqb r 0) refl
        where
          go : (v : Bool) → eqb r 0 ≡ v → cond v 15 r ≡ 0 → ⊥
          go true k z = omega arith
          go false k z = eqb-false r 0 k z

  turn-low-active : low_of w ≡ true → code_of w ≡ 12 → Turned (command_of w)
  unfolding b a ten
  turn-low-active n e = turn-low-command 12 ACTIVE n e refl refl refl refl refl (rw e (sym (active-agrees s p t timed b a ten small wide)))

  turn-low-read : low_of w ≡ true → code_of w ≡ 10 → Turned (command_of w)
  unfolding b a ten
  turn-low-read n e = turn-low-command 10 READ n e refl refl refl refl refl (rw e (sym (read-agrees s p t timed b a ten small)))

  turn-low-write : low_of w ≡ true → code_of w ≡ 2 → Turned (command_of w)
  unfolding b a ten
  turn-low-write n e = turn-low-command 2 WRITE n e refl refl refl refl refl (rw e (sym (write-agrees s p t timed b a ten small)))

  turn-low-terminate : low_of w ≡ true → code_of w ≡ 6 → Turned (command_of w)
  unfolding b a ten
  turn-low-terminate n e =
      turn-low-command 6 BURST-TERMINATE n e refl refl refl refl refl (rw e (sym (terminate-agrees s p t timed b a ten from₀ l g.bursts g.late g.standing)))

  turn-low-mode : low_of w ≡ true → code_of w ≡ 0 → Turned (command_of w)
  unfolding b a ten
  turn-low-mode n e = turn-low-command 0 MODE-REGISTER-SET n e refl refl refl refl refl (rw e (sym (mode-agrees s p t timed b a ten)))

  turn-low-close : low_of w ≡ true → code_of w ≡ 4 → Turned (command_of w)
  unfolding b a ten
  turn-low-close n e = turn-low-command 4 PRECHARGE n e refl refl refl refl refl (rw e (go (ten_of w)))
    where
      go : (v : Bool) → cond v (close_all_breaks (laid X) t) (close_breaks (laid X) t b) ≡ says s p t PRECHARGE b a v
      go true = sym (close-all-agrees s p t timed b a)
      go false = sym (close-agrees s p t timed b a small)

  -- ---- every event

  awake-event : low_of w ≡ false → Coded (code_of w) → Turned (command_of w)
  awake-event n (is-active e) = turn-active n e
  awake-event n (is_read e) = turn-read n e
  awake-event n (is-write e) = turn-write n e
  awake-event n (is-close e) = turn-close n e
  awake-event n (is-terminate e) = turn-terminate n e
  awake-event n (is-refresh e) = turn-refresh n e
  awake-event n (is-mode-set e) = turn-mode n e
  awake-event n (is-quiet e) = turn-quiet n e

  low-event : low_of w ≡ true → Coded (code_of w) → Turned (command_of w)
  low-event n (is-active e) = turn-low-active n e
  low-event n (is_read e) = turn-low-read n e
  low-event n (is-write e) = turn-low-write n e
  low-event n (is-close e) = turn-low-close n e
  low-event n (is-terminate e) = turn-low-terminate n e
  low-event n (is-refresh e) = turn-low-refresh n e
  low-event n (is-mode-set e) = turn-low-mode n e
  low-event n (is-quiet e) = turn-low-quiet n e

  pub turned-event : Turned (command_of w)
  turned-event = go (low_of w) refl
    where
      go : (v : Bool) → low_of w ≡ v → Turned (command_of w)
      go true n = low-event n (coded (code_of w))
      go false n = awake-event n (coded (code_of w))

-- at the start
pub start-laid : (s : Settings) → start_of s ≡ laid (summary s (start s))
unfolding start_of
start-laid s = rw (zero-add s.t_ras)

pub start-sound : (s : Settings) → Sound 0 (start s)
start-sound s = record { bursts = nil; banks = λ b. tt; late = nothing; latency = tt; running = nil; standing = tt }

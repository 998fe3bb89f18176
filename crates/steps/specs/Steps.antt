-- A step: one event, by its pins.
use Rattle.std.specs.Prelude.{ℕ, true, cond, ◌&&◌, List, eqb}
use Rattle.std.proofs.Math.Option.{Option, none, some}
use Rattle.reading.specs.Settings.{Settings}
use Rattle.pins.specs.Pins.{code_of, bank_of, address_of, ten_of, low_of, by_code, quiet_code}
use Rattle.deadlines.specs.Deadlines.{quiet_breaks, low_breaks, self_breaks, active_breaks, read_breaks, write_breaks, terminate_breaks, close_breaks, close_all_breaks, refresh_breaks, mode_breaks}
use Rattle.deadlines.specs.Deadlines.{pace_of, quiet_after, low_after, self_after, active_after, read_after, write_after, cut_read, close_after, close_all_after, refresh_after, mode_set_after}

-- the rule that a number stands for, 0 for none
abbrev pub rule_of : ℕ → Option ℕ
rule_of rule = cond (eqb rule 0) none (some rule)

-- what is left of some numbers by an event that breaks a rule, 0 for none
abbrev pub left_by : ℕ → List ℕ → List ℕ → List ℕ
left_by rule after before = cond (eqb rule 0) after before

-- with CKE high
abbrev pub high_breaks : Settings → List ℕ → ℕ → ℕ → ℕ
high_breaks s d t w =
    by_code (code_of w)
    (active_breaks s d t (bank_of w) (address_of w))
    (read_breaks d t (bank_of w))
    (write_breaks d t (bank_of w))
    (cond (ten_of w) (close_all_breaks d t) (close_breaks d t (bank_of w)))
    (terminate_breaks d t)
    (refresh_breaks d t)
    (mode_breaks d t (bank_of w) (address_of w))
    (quiet_breaks d t)

-- rule 15 names a command with CKE low, unless a lower rule does; AUTO REFRESH, NOP and DESELECT enter sleep
abbrev pub unless_lower : ℕ → ℕ
unless_lower rule = cond (eqb rule 0) 15 rule

abbrev pub low_step_breaks : Settings → List ℕ → ℕ → ℕ → ℕ
low_step_breaks s d t w =
    cond (eqb (code_of w) 8) (self_breaks d t)
    (cond (quiet_code (code_of w)) (low_breaks d t) (unless_lower (high_breaks s d t w)))

unfoldable pub step_breaks : Settings → List ℕ → ℕ → ℕ → ℕ
step_breaks s d t w = cond (low_of w) (low_step_breaks s d t w) (high_breaks s d t w)

abbrev pub high_after : Settings → List ℕ → List ℕ → ℕ → ℕ → List ℕ
high_after s d m t w =
    by_code (code_of w)
    (active_after s d t (bank_of w))
    (read_after s d m t (bank_of w) (ten_of w))
    (write_after s d m t (bank_of w) (ten_of w))
    (cond (ten_of w) (close_all_after s d m t) (close_after s d m t (bank_of w)))
    (cut_read d m t true)
    (refresh_after s d t)
    (mode_set_after s d t)
    (quiet_after s d t)

abbrev pub low_step_after : List ℕ → ℕ → ℕ → List ℕ
low_step_after d t w = cond (eqb (code_of w) 8) (self_after d) (low_after d t)

unfoldable pub step_after : Settings → List ℕ → List ℕ → ℕ → ℕ → List ℕ
step_after s d m t w = cond (low_of w) (low_step_after d t w) (high_after s d m t w)

unfoldable pub pace_after : List ℕ → ℕ → List ℕ
pace_after m w = cond (eqb (code_of w) 0 && eqb (bank_of w) 0) (pace_of (address_of w)) m

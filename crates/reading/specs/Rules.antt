-- The rules, each for a command at cycle t after what the part has seen.
use Rattle.std.specs.Prelude.{ℕ, ◌+◌, ◌^◌, Bool, true, cond, not, ◌&&◌, ◌||◌, List, [], ◌∷◌, ◌++◌, leb, ltb, eqb}
use Rattle.std.proofs.Math.Option.{Option}
use Rattle.reading.specs.Search.{implies, ever, every, find, after}
use Rattle.reading.specs.Mode.{mode_word}
use Rattle.reading.specs.Settings.{Settings}
use Rattle.reading.specs.RefreshClock.{in_time}
use Rattle.reading.specs.Capture.{Event}
use Rattle.reading.specs.Commands.{Command, ACTIVE, READ, WRITE, BURST-TERMINATE, AUTO-REFRESH, MODE-REGISTER-SET, is, among, quiet, command_of}
use Rattle.reading.specs.Sleep.{enters, in_self_refresh, sleep_allows}
use Rattle.reading.specs.Bursts.{Burst, reads, whole_end, read_end, data_end, rests_from}
use Rattle.reading.specs.Part.{Part, closes, last_read, last_write, last_bank_write}

abbrev pub Rule : Type 0
Rule = Settings → Part → ℕ → Command → Bool

-- "the banks are looked at in order"
abbrev pub every_bank : (ℕ → Bool) → Bool
every_bank f = f 0 && (f 1 && (f 2 && f 3))

-- at least `wait` cycles after what a write is waited for
abbrev pub after_write : Settings → ℕ → Option Burst → ℕ → Bool
after_write s wait o t = ever o (λ x. leb (rests_from s x + wait) t)

-- 1: the row of an ACTIVE is one that the part has
abbrev pub rule1 : Rule
rule1 s p t c = implies (is ACTIVE c) (ltb c.address (2 ^ s.row_bits))

-- 2: a MODE REGISTER SET writes a mode word to register 00, or anything to register 10
abbrev pub rule2 : Rule
rule2 s p t c = implies (is MODE-REGISTER-SET c) ((eqb c.bank 0b00 && mode_word c.address) || eqb c.bank 0b10)

-- 3: an ACTIVE finds its bank idle, READ and WRITE find theirs open, AUTO REFRESH and MODE REGISTER SET find all idle
abbrev pub rule3 : Rule
rule3 s p t c =
    cond (is ACTIVE c) (not (p.banks c.bank).opened)
    (cond (among (READ ∷ WRITE ∷ []) c) (p.banks c.bank).opened
    (implies (among (AUTO-REFRESH ∷ MODE-REGISTER-SET ∷ []) c) (every_bank (λ b. not (p.banks b).opened))))

-- 4: a command, and whatever enters sleep, waits until the last AUTO REFRESH and the last MODE REGISTER SET are over
abbrev pub rule4 : Rule
rule4 s p t c =
    implies (enters p.sleep c || not (quiet c)) (after s.t_rfc p.last_refresh t && after s.t_mrd p.last_mode_set t)

-- 5: an ACTIVE waits for its bank's precharge to be over, AUTO REFRESH and MODE REGISTER SET for every bank's
abbrev pub rule5 : Rule
rule5 s p t c =
    cond (is ACTIVE c) (after s.t_rp (p.banks c.bank).precharge_cycle t)
    (implies (among (AUTO-REFRESH ∷ MODE-REGISTER-SET ∷ []) c) (every_bank (λ b. after s.t_rp (p.banks b).precharge_cycle t)))

-- 6: the ACTIVEs of a bank stand apart
abbrev pub rule6 : Rule
rule6 s p t c = implies (is ACTIVE c) (after s.t_rc (p.banks c.bank).last_active t)

-- 7: so do those of different banks
abbrev pub rule7 : Rule
rule7 s p t c = implies (is ACTIVE c) (every_bank (λ b. eqb b c.bank || after s.t_rrd (p.banks b).last_active t))

-- 8: READ and WRITE wait for their bank's row
abbrev pub rule8 : Rule
rule8 s p t c = implies (among (READ ∷ WRITE ∷ []) c) (after s.t_rcd (p.banks c.bank).last_active t)

-- for each bank that a PRECHARGE closes
abbrev pub closing : Part → Command → (ℕ → Bool) → Bool
closing p c f = every_bank (λ b. implies (closes c b (p.banks b)) (f b))

-- 9: a row stays open so long
abbrev pub rule9 : Rule
rule9 s p t c = closing p c (λ b. after s.t_ras (p.banks b).last_active t)

-- 10: and so long after the data of its last write
abbrev pub rule10 : Rule
rule10 s p t c = closing p c (λ b. after_write s s.t_wr (last_bank_write p b) t)

-- 11: a READ waits after the data of the last write, of whatever bank
abbrev pub rule11 : Rule
rule11 s p t c = implies (is READ c) (after_write s s.t_wtr (last_write p) t)

-- 12: WRITE, AUTO REFRESH and MODE REGISTER SET wait until the last read's data have left the bus
abbrev pub rule12 : Rule
rule12 s p t c =
    implies (among (WRITE ∷ AUTO-REFRESH ∷ MODE-REGISTER-SET ∷ []) c) (ever (last_read p) (λ x. leb (read_end x) t))

-- not before a burst with auto precharge is over
abbrev pub auto_over : ℕ → Burst → Bool
auto_over t x = implies x.auto (leb (whole_end x) t)

-- an auto precharge read, or any write, is running
abbrev pub untouchable : ℕ → Burst → Bool
untouchable t x = leb x.k t && cond x.writes (ltb t (data_end x)) (x.auto && ltb t (whole_end x))

-- 13: a READ cuts no read with auto precharge, a WRITE no write with it, a BURST TERMINATE neither such a read nor any write
abbrev pub rule13 : Rule
rule13 s p t c =
    cond (is READ c) (every (λ x. implies (reads x) (auto_over t x)) p.bursts)
    (cond (is WRITE c) (every (λ x. implies x.writes (auto_over t x)) p.bursts)
    (implies (is BURST-TERMINATE c) (every (λ x. not (untouchable t x)) p.bursts)))

-- 14: no event, of whatever kind, comes when an AUTO REFRESH is overdue; self refresh needs none
abbrev pub rule14 : Rule
rule14 s p t c = implies (not (in_self_refresh p.sleep)) (in_time s p.clock t)

-- the data of the last read have left the bus, and those of the last write have been taken
abbrev pub data_over : Part → ℕ → Bool
data_over p t = ever (last_read p) (λ x. leb (read_end x) t) && ever (last_write p) (λ x. leb (data_end x) t)

-- 15: sleep is entered and left as it may be, and nothing else comes before that is over
abbrev pub rule15 : Rule
rule15 s p t c = sleep_allows s p.sleep (data_over p t) t c

-- the rule of a number
abbrev pub keeps_rule : ℕ → Rule
keeps_rule r s p t c =
    cond (eqb r 1) (rule1 s p t c)
    (cond (eqb r 2) (rule2 s p t c)
    (cond (eqb r 3) (rule3 s p t c)
    (cond (eqb r 4) (rule4 s p t c)
    (cond (eqb r 5) (rule5 s p t c)
    (cond (eqb r 6) (rule6 s p t c)
    (cond (eqb r 7) (rule7 s p t c)
    (cond (eqb r 8) (rule8 s p t c)
    (cond (eqb r 9) (rule9 s p t c)
    (cond (eqb r 10) (rule10 s p t c)
    (cond (eqb r 11) (rule11 s p t c)
    (cond (eqb r 12) (rule12 s p t c)
    (cond (eqb r 13) (rule13 s p t c)
    (cond (eqb r 14) (rule14 s p t c)
    (cond (eqb r 15) (rule15 s p t c) true))))))))))))))

-- the rules by which commands are placed, and those by which events are judged. Rule 6 is not among them: where tRC is at
-- most tRAS + tRP, as refusal 3 has it, no event breaks it that breaks no lower one
abbrev pub below_six : List ℕ
below_six = 1 ∷ 2 ∷ 3 ∷ 4 ∷ 5 ∷ []

abbrev pub above_six : List ℕ
above_six = 7 ∷ 8 ∷ 9 ∷ 10 ∷ 11 ∷ 12 ∷ 13 ∷ []

abbrev pub placing : List ℕ
placing = below_six ++ above_six

abbrev pub rules : List ℕ
rules = placing ++ (14 ∷ 15 ∷ [])

-- the same with rule 6, for the theorem that both find the same
abbrev pub placing_with_six : List ℕ
placing_with_six = below_six ++ 6 ∷ above_six

abbrev pub rules_with_six : List ℕ
rules_with_six = placing_with_six ++ (14 ∷ 15 ∷ [])

-- the lowest of some rules, listed by their numbers, that is broken
abbrev pub lowest_broken : List ℕ → Settings → Part → ℕ → Command → Option ℕ
lowest_broken rs s p t c = find (λ r. not (keeps_rule r s p t c)) rs

abbrev pub broken_among : List ℕ → Settings → Part → Event → Option ℕ
broken_among rs s p e = lowest_broken rs s p e.cycle (command_of e.pins)

abbrev pub broken_by : Settings → Part → Event → Option ℕ
broken_by = broken_among rules

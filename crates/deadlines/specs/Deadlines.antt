-- The deadlines that are kept of a part, thirty-nine numbers in a row; which rule a command breaks by them, and what it makes of them.
-- A deadline is the first cycle at which a rule lets a command through; 0 where nothing has happened.
use Rattle.std.specs.Prelude.{ℕ, ◌+◌, ◌*◌, ◌%◌, ◌^◌, Bool, cond, not, ◌&&◌, ◌||◌, List, [], ◌∷◌, get_or, set, replicate, leb, ltb, eqb}
use Rattle.reading.specs.Search.{lesser, later}
use Rattle.reading.specs.Mode.{h, CL, mode_word}
use Rattle.reading.specs.Settings.{Settings, newer}
use Rattle.reading.specs.Rules.{every_bank}

-- of each bank, from these places on: 1 if it is open; rules 7, 5, 8, 9 and 10; and the first cycle at which
-- an auto precharge that waits for tRAS lets the next ACTIVE through
abbrev pub OPENED : ℕ
OPENED = 0

abbrev pub OTHER : ℕ
OTHER = 4

abbrev pub REST : ℕ
REST = 8

abbrev pub COLUMN : ℕ
COLUMN = 12

abbrev pub CLOSE : ℕ
CLOSE = 16

abbrev pub WRITTEN : ℕ
WRITTEN = 20

abbrev pub LOCKED : ℕ
LOCKED = 24

-- rule 4; awake, the first cycle at which rule 14 is broken, and 0 asleep; rule 12; rule 13 for READ and for WRITE; rule 11
abbrev pub BUSY : ℕ
BUSY = 28

abbrev pub OVERDUE : ℕ
OVERDUE = 29

abbrev pub BUS : ℕ
BUS = 30

abbrev pub READS : ℕ
READS = 31

abbrev pub WRITES : ℕ
WRITES = 32

abbrev pub END : ℕ
END = 33

-- of the last burst: the bank of a read that a PRECHARGE can cut, 4 of any other read or where there is none, and of a write
-- five cycles more than the end of its data; the bank of the last write, four more if it has auto precharge
abbrev pub LAST : ℕ
LAST = 34

abbrev pub WRITER : ℕ
WRITER = 35

-- asleep, the first cycle at which rule 14 is broken, and 0 awake; rule 15, awake; 1 in self refresh
abbrev pub ASLEEP : ℕ
ASLEEP = 36

abbrev pub WAKE : ℕ
WAKE = 37

abbrev pub SELF : ℕ
SELF = 38

-- after every cycle
abbrev pub FAR : ℕ
FAR = 2 ^ 32

abbrev pub at : List ℕ → ℕ → ℕ
at d i = get_or d i 0

-- of the mode word in force: h and CL
abbrev pub PAIRS : ℕ
PAIRS = 0

abbrev pub LATENCY : ℕ
LATENCY = 1

abbrev pub pace_of : ℕ → List ℕ
pace_of mode = h mode ∷ CL mode ∷ []

-- the rule where it is not kept, else what the later rules say
abbrev pub rule_unless : Bool → ℕ → ℕ → ℕ
rule_unless kept rule rest = cond kept rest rule

-- ---- the refresh clock

-- the first cycle at which nine are owed, where they count from cycle t
abbrev pub overdue_from : Settings → ℕ → ℕ
overdue_from s t = t + 9 * s.t_refi

-- an AUTO REFRESH at t puts it off by one, if one is owed
abbrev pub overdue_after : Settings → ℕ → ℕ → ℕ
overdue_after s t due = cond (leb due (t + 8 * s.t_refi)) (due + s.t_refi) due

-- nothing has happened: no read that can be cut
unfoldable pub start_of : Settings → List ℕ
start_of s =
    let d₁ = set (replicate 39 0) OVERDUE (overdue_from s 0) in
    let d₂ = set d₁ LAST 4 in
    let d₃ = set d₂ LOCKED (s.t_ras + s.t_rp) in
    let d₄ = set d₃ (LOCKED + 1) (s.t_ras + s.t_rp) in
    let d₅ = set d₄ (LOCKED + 2) (s.t_ras + s.t_rp) in
    set d₅ (LOCKED + 3) (s.t_ras + s.t_rp)

-- ---- what the commands of schedules wait for

-- a timed rule, and the first cycle at which it lets a command through
pub record Wait : Type 0 where
  pub rule : ℕ
  pub till : ℕ

abbrev pub asks : ℕ → ℕ → Wait
asks rule till = record { rule = rule; till = till }

-- a rule that asks about each bank
abbrev pub asks_each : ℕ → (ℕ → ℕ) → List Wait → List Wait
asks_each rule till rest = asks rule (till 0) ∷ asks rule (till 1) ∷ asks rule (till 2) ∷ asks rule (till 3) ∷ rest

-- rule 7 asks nothing of the bank itself
abbrev pub other_bank : List ℕ → ℕ → ℕ → ℕ
other_bank d b i = cond (eqb i b) 0 (at d (OTHER + i))

abbrev pub active_waits : List ℕ → ℕ → List Wait
active_waits d b = asks 4 (at d BUSY) ∷ asks 5 (at d (REST + b)) ∷ asks_each 7 (other_bank d b) []

abbrev pub read_waits : List ℕ → ℕ → List Wait
read_waits d b = asks 4 (at d BUSY) ∷ asks 8 (at d (COLUMN + b)) ∷ asks 11 (at d END) ∷ asks 13 (at d READS) ∷ []

abbrev pub write_waits : List ℕ → ℕ → List Wait
write_waits d b = asks 4 (at d BUSY) ∷ asks 8 (at d (COLUMN + b)) ∷ asks 12 (at d BUS) ∷ asks 13 (at d WRITES) ∷ []

abbrev pub refresh_waits : List ℕ → List Wait
refresh_waits d = asks 4 (at d BUSY) ∷ asks_each 5 (λ i. at d (REST + i)) (asks 12 (at d BUS) ∷ [])

-- the rule of the first that is not over, else what the later rules say
unfoldable pub unmet : List Wait → ℕ → ℕ → ℕ
unmet [] t rest = rest
unmet (w ∷ ws) t rest = rule_unless (leb w.till t) w.rule (unmet ws t rest)

-- when all are over: the latest of them
unfoldable pub soonest : List Wait → ℕ
soonest [] = 0
soonest (w ∷ []) = w.till
soonest (w ∷ v ∷ ws) = later w.till (soonest (v ∷ ws))

-- ---- which rule is broken

-- rule 14, of NOP and DESELECT, which wait for nothing
abbrev pub refresh_kept : List ℕ → ℕ → Bool
refresh_kept d t = ltb t (at d OVERDUE) || ltb t (at d ASLEEP)

abbrev pub quiet_breaks : List ℕ → ℕ → ℕ
quiet_breaks d t = rule_unless (refresh_kept d t) 14 0

-- rules 14 and 15, of every other command: not asleep, nor before leaving is over
abbrev pub last_breaks : List ℕ → ℕ → ℕ
last_breaks d t = rule_unless (refresh_kept d t) 14 (rule_unless (ltb t (at d OVERDUE) && leb (at d WAKE) t) 15 0)

unfoldable pub active_breaks : Settings → List ℕ → ℕ → ℕ → ℕ → ℕ
active_breaks s d t b a =
    rule_unless (ltb a (2 ^ (s.row_bits % 32))) 1
    (rule_unless (eqb (at d (OPENED + b)) 0) 3
    (unmet (active_waits d b) t (last_breaks d t)))

unfoldable pub read_breaks : List ℕ → ℕ → ℕ → ℕ
read_breaks d t b = rule_unless (not (eqb (at d (OPENED + b)) 0)) 3 (unmet (read_waits d b) t (last_breaks d t))

unfoldable pub write_breaks : List ℕ → ℕ → ℕ → ℕ
write_breaks d t b = rule_unless (not (eqb (at d (OPENED + b)) 0)) 3 (unmet (write_waits d b) t (last_breaks d t))

-- the last write's row was closed since, which interrupted the write or waited for it
abbrev pub gone : List ℕ → Bool
gone d =
    let b = at d WRITER % 4 in
    ltb (at d WRITER) 4 && (eqb (at d (OPENED + b)) 0 || eqb (at d (WRITTEN + b)) 0)

-- the data of the last write have been taken
abbrev pub taken : List ℕ → ℕ → Bool
taken d t = leb (at d LAST) (t + 5) || gone d

unfoldable pub terminate_breaks : List ℕ → ℕ → ℕ
terminate_breaks d t =
    rule_unless (leb (at d BUSY) t) 4
    (rule_unless (leb (at d READS) t) 13
    (rule_unless (taken d t) 13
    (last_breaks d t)))

unfoldable pub close_breaks : List ℕ → ℕ → ℕ → ℕ
close_breaks d t b =
    rule_unless (leb (at d BUSY) t) 4
    (rule_unless (leb (at d (CLOSE + b)) t || eqb (at d (OPENED + b)) 0) 9
    (rule_unless (leb (at d (WRITTEN + b)) t || eqb (at d (OPENED + b)) 0) 10
    (last_breaks d t)))

-- rules 9 and 10 of the banks that are open
abbrev pub all_held : List ℕ → ℕ → Bool
all_held d t = every_bank (λ i. leb (at d (CLOSE + i)) t || eqb (at d (OPENED + i)) 0)

abbrev pub all_written : List ℕ → ℕ → Bool
all_written d t = every_bank (λ i. leb (at d (WRITTEN + i)) t || eqb (at d (OPENED + i)) 0)

unfoldable pub close_all_breaks : List ℕ → ℕ → ℕ
close_all_breaks d t = rule_unless (leb (at d BUSY) t) 4 (rule_unless (all_held d t) 9 (rule_unless (all_written d t) 10 (last_breaks d t)))

abbrev pub all_idle : List ℕ → Bool
all_idle d = every_bank (λ i. eqb (at d (OPENED + i)) 0)

unfoldable pub refresh_breaks : List ℕ → ℕ → ℕ
refresh_breaks d t = rule_unless (all_idle d) 3 (unmet (refresh_waits d) t (last_breaks d t))

-- NOP and DESELECT with CKE low: awake they enter power-down, asleep they stay
unfoldable pub enter_breaks : List ℕ → ℕ → ℕ
enter_breaks d t =
    rule_unless (leb (at d BUSY) t) 4
    (rule_unless (ltb t (at d OVERDUE)) 14
    (rule_unless (leb (at d BUS) t) 15
    (rule_unless (taken d t) 15
    (rule_unless (leb (at d WAKE) t) 15 0))))

unfoldable pub low_breaks : List ℕ → ℕ → ℕ
low_breaks d t = cond (ltb t (at d ASLEEP)) 0 (cond (eqb (at d OVERDUE) 0) 14 (enter_breaks d t))

-- AUTO REFRESH with CKE low enters self refresh
unfoldable pub self_breaks : List ℕ → ℕ → ℕ
self_breaks d t =
    let rule = refresh_breaks d t in
    cond (eqb rule 0) (rule_unless (taken d t) 15 0) rule

unfoldable pub mode_breaks : List ℕ → ℕ → ℕ → ℕ → ℕ
mode_breaks d t b a = rule_unless (cond (eqb b 0) (mode_word a) (eqb b 2)) 2 (refresh_breaks d t)

-- ---- what a command makes of the deadlines

unfoldable pub active_after : Settings → List ℕ → ℕ → ℕ → List ℕ
active_after s d t b =
    let d₁ = set d (OPENED + b) 1 in
    let d₂ = set d₁ (OTHER + b) (t + s.t_rrd) in
    let d₃ = set d₂ (COLUMN + b) (t + s.t_rcd) in
    let d₄ = set d₃ (CLOSE + b) (t + s.t_ras) in
    let d₅ = set d₄ (WRITTEN + b) 0 in
    set d₅ (LOCKED + b) (t + s.t_ras + s.t_rp)

-- auto precharge lets the next ACTIVE through from the cycle c on, and not before tRAS and tRP are over
unfoldable pub auto_after : List ℕ → ℕ → ℕ → List ℕ
auto_after d b c =
    let d₁ = set d (OPENED + b) 0 in
    set d₁ (REST + b) (later (at d₁ (LOCKED + b)) c)

unfoldable pub read_after : Settings → List ℕ → List ℕ → ℕ → ℕ → Bool → List ℕ
read_after s d m t b auto =
    let d₁ = set d BUS (t + at m LATENCY + at m PAIRS) in
    cond auto (auto_after (set (set d₁ LAST 4) READS (t + at m PAIRS)) b (t + at m PAIRS + s.t_rp)) (set d₁ LAST b)

-- the last write is cut, to a data end of t + 1
unfoldable pub cut_write : Settings → List ℕ → ℕ → List ℕ
cut_write s d t =
    let o = WRITTEN + at d WRITER % 4 in
    set d o (lesser (at d o) (t + 1 + 0 + s.t_wr))

-- but where a write to bank b takes its place
unfoldable pub cut_other : Settings → List ℕ → ℕ → ℕ → List ℕ
cut_other s d t b = cond (eqb (at d WRITER % 4) b) d (cut_write s d t)

-- the data of a new write ends at t + 1 + pairs; its bank is noted with whether it has auto precharge
unfoldable pub new_write : Settings → List ℕ → ℕ → ℕ → ℕ → List ℕ
new_write s d t pairs b =
    let d₁ = set d (WRITTEN + b) (t + 1 + pairs + s.t_wr) in
    let d₂ = set d₁ END (t + 1 + pairs + s.t_wtr) in
    set d₂ LAST (t + 1 + pairs + 5)

-- without auto precharge; in the newer edition rules 10 and 11 count from its first pair
unfoldable pub plain_write : Settings → List ℕ → ℕ → ℕ → List ℕ
plain_write s d t b =
    let d₁ = set d WRITER b in
    cond (newer s) (set (set d₁ (WRITTEN + b) (t + 2 + s.t_wr)) END (t + 2 + s.t_wtr)) d₁

-- with auto precharge
unfoldable pub auto_write : Settings → List ℕ → ℕ → ℕ → ℕ → List ℕ
auto_write s d t pairs b =
    let d₁ = set d WRITES (t + pairs) in
    let d₂ = set d₁ WRITER (b + 4) in
    auto_after d₂ b (t + 1 + pairs + s.t_wr + s.t_rp)

unfoldable pub write_after : Settings → List ℕ → List ℕ → ℕ → ℕ → Bool → List ℕ
write_after s d m t b auto =
    let d₁ = new_write s (cut_write s d t) t (at m PAIRS) b in
    cond auto (auto_write s d₁ t (at m PAIRS) b) (plain_write s d₁ t b)

-- the last read is cut, if it can be, to leave the bus CL cycles after t
unfoldable pub cut_read : List ℕ → List ℕ → ℕ → Bool → List ℕ
cut_read d m t cut = set d BUS (cond cut (lesser (at d BUS) (t + at m LATENCY)) (at d BUS))

-- a bank that is open becomes idle
unfoldable pub rest_after : List ℕ → ℕ → ℕ → List ℕ
rest_after d b c =
    let d₁ = set d (REST + b) (cond (eqb (at d (OPENED + b)) 0) (at d (REST + b)) c) in
    set d₁ (OPENED + b) 0

unfoldable pub close_after : Settings → List ℕ → List ℕ → ℕ → ℕ → List ℕ
close_after s d m t b = cut_read (rest_after d b (t + s.t_rp)) m t (eqb (at (rest_after d b (t + s.t_rp)) LAST) b)

unfoldable pub rest_all : List ℕ → ℕ → List ℕ
rest_all d c = rest_after (rest_after (rest_after (rest_after d 0 c) 1 c) 2 c) 3 c

unfoldable pub close_all_after : Settings → List ℕ → List ℕ → ℕ → List ℕ
close_all_after s d m t = cut_read (rest_all d (t + s.t_rp)) m t (ltb (at (rest_all d (t + s.t_rp)) LAST) 4)

unfoldable pub refresh_after : Settings → List ℕ → ℕ → List ℕ
refresh_after s d t =
    let d₁ = set d BUSY (t + s.t_rfc) in
    set d₁ OVERDUE (overdue_after s t (at d₁ OVERDUE))

unfoldable pub mode_set_after : Settings → List ℕ → ℕ → List ℕ
mode_set_after s d t = set d BUSY (t + s.t_mrd)

-- asleep the refresh clock stands where OVERDUE is not looked at
unfoldable pub enter_after : List ℕ → List ℕ
enter_after d = set (set (set d ASLEEP (at d OVERDUE)) OVERDUE 0) WAKE 0

unfoldable pub low_after : List ℕ → ℕ → List ℕ
low_after d t = cond (ltb t (at d ASLEEP)) d (enter_after d)

unfoldable pub self_after : List ℕ → List ℕ
self_after d = set (set (set (set d ASLEEP FAR) OVERDUE 0) WAKE 0) SELF 1

-- NOP and DESELECT with CKE high leave sleep: power-down, and self refresh
unfoldable pub power_up_after : Settings → List ℕ → ℕ → List ℕ
power_up_after s d t =
    let d₁ = set d OVERDUE (at d ASLEEP) in
    let d₂ = set d₁ WAKE (t + s.t_xp) in
    set d₂ ASLEEP 0

unfoldable pub wake_after : Settings → List ℕ → ℕ → List ℕ
wake_after s d t =
    let d₁ = set d OVERDUE (overdue_from s t) in
    let d₂ = set d₁ WAKE (t + s.t_xsr) in
    let d₃ = set d₂ ASLEEP 0 in
    set d₃ SELF 0

unfoldable pub leave_after : Settings → List ℕ → ℕ → List ℕ
leave_after s d t = cond (eqb (at d SELF) 0) (power_up_after s d t) (wake_after s d t)

unfoldable pub quiet_after : Settings → List ℕ → ℕ → List ℕ
quiet_after s d t = cond (ltb t (at d OVERDUE)) d (leave_after s d t)

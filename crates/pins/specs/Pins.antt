-- Pin words by arithmetic; the reading takes them apart bit by bit.
use Rattle.std.specs.Prelude.{ℕ, ◌/◌, ◌%◌, Bool, true, false, cond, ◌&&◌, ◌||◌, eqb}

-- the pins CS#, RAS#, CAS#, WE#, CS# the lowest
abbrev pub code_of : ℕ → ℕ
code_of w = w / 65536 % 16

abbrev pub bank_of : ℕ → ℕ
bank_of w = w / 16384 % 4

abbrev pub address_of : ℕ → ℕ
address_of w = w % 16384

abbrev pub ten_of : ℕ → Bool
ten_of w = eqb (w / 1024 % 2) 1

-- the command pins and above them CKE low
abbrev pub wide_code_of : ℕ → ℕ
wide_code_of w = w / 65536 % 32

abbrev pub low_of : ℕ → Bool
low_of w = eqb (w / 1048576 % 2) 1

-- by the number of the command pins
abbrev pub by_code : {A : Type 0} → ℕ → A → A → A → A → A → A → A → A → A
by_code q active read write precharge terminate refresh mode quiet =
    cond (eqb q 12) active
    (cond (eqb q 10) read
    (cond (eqb q 2) write
    (cond (eqb q 4) precharge
    (cond (eqb q 6) terminate
    (cond (eqb q 8) refresh
    (cond (eqb q 0) mode quiet))))))

-- NOP and DESELECT: none of the seven
abbrev pub quiet_code : ℕ → Bool
quiet_code q = by_code q false false false false false false false true

-- READ and WRITE give a burst
abbrev pub gives : ℕ → Bool
gives w = eqb (code_of w) 10 || eqb (code_of w) 2

-- MODE REGISTER SET with 00 replaces the mode word
unfoldable pub mode_after : ℕ → ℕ → ℕ
mode_after m w = cond (eqb (code_of w) 0 && eqb (bank_of w) 0) (address_of w) m

-- Pin words: the command that they carry, and the pins that carry a command.
use Rattle.std.specs.Prelude.{ℕ, ◌+◌, ◌*◌, ◌/◌, ◌%◌, ◌^◌, Bool, false, cond, ◌||◌, List, [], ◌∷◌, eqb}
use Rattle.reading.specs.Words.{bit}

pub data Op : Type 0 where
  ACTIVE READ WRITE BURST-TERMINATE PRECHARGE AUTO-REFRESH MODE-REGISTER-SET NOP DESELECT : Op

-- the pins CS#, RAS#, CAS#, WE#, written in this order; with CS# high the others may be anything
abbrev pub code : Op → ℕ
code ACTIVE = 0b0011
code READ = 0b0101
code WRITE = 0b0100
code BURST-TERMINATE = 0b0110
code PRECHARGE = 0b0010
code AUTO-REFRESH = 0b0001
code MODE-REGISTER-SET = 0b0000
code NOP = 0b0111
code DESELECT = 0b1000

-- the address is A0-A13; low is CKE low
pub record Command : Type 0 where
  pub op : Op
  pub bank : ℕ
  pub address : ℕ
  pub A10 : Bool
  pub low : Bool

abbrev pub op_of : ℕ → Op
op_of k =
    cond (eqb k (code ACTIVE)) ACTIVE
    (cond (eqb k (code READ)) READ
    (cond (eqb k (code WRITE)) WRITE
    (cond (eqb k (code BURST-TERMINATE)) BURST-TERMINATE
    (cond (eqb k (code PRECHARGE)) PRECHARGE
    (cond (eqb k (code AUTO-REFRESH)) AUTO-REFRESH
    (cond (eqb k (code MODE-REGISTER-SET)) MODE-REGISTER-SET
    (cond (eqb k (code NOP)) NOP DESELECT)))))))

-- bits 0-13 A0-A13, 14-15 BA0 and BA1, 16 CS#, 17 RAS#, 18 CAS#, 19 WE#, 20 CKE low
abbrev pub command_of : ℕ → Command
command_of w =
    record {
      op = op_of (8 * bit 16 w + 4 * bit 17 w + 2 * bit 18 w + bit 19 w);
      bank = w / 2 ^ 14 % 4;
      address = w % 2 ^ 14;
      A10 = eqb (bit 10 w) 1;
      low = eqb (bit 20 w) 1;
    }

abbrev pub is : Op → Command → Bool
is o c = eqb (code o) (code c.op)

abbrev pub among : List Op → Command → Bool
among [] c = false
among (o ∷ os) c = is o c || among os c

-- NOP and DESELECT ask for nothing
abbrev pub quiet : Command → Bool
quiet c = among (NOP ∷ DESELECT ∷ []) c

-- a PRECHARGE names its bank, with A10 all banks
abbrev pub names : Command → ℕ → Bool
names c b = c.A10 || eqb b c.bank

-- the pin word of a command
abbrev pub pins_of : Op → ℕ → ℕ → ℕ
pins_of o bank address =
    address + 2 ^ 14 * bank + 2 ^ 16 * bit 3 (code o) + 2 ^ 17 * bit 2 (code o) + 2 ^ 18 * bit 1 (code o) + 2 ^ 19 * bit 0 (code o)

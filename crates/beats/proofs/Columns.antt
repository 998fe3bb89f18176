-- Columns and cells are small enough, for every mode word and every part.
use Prim.Native.Nat.{ℕ, zero, suc, ◌+◌, ◌*◌, ◌/◌, ◌%◌, ◌^◌, ◌≤◌, ◌<◌}
use mathlib.Core.Bool.{Bool, true, false, cond}
use mathlib.Core.Path.{◌≡◌}
use native.Mathlib.Nat.{mod-lt, mod-le, div-add-mod', mul-le-mul}
use native.Mathlib.Omega.{arith}
use lib.Bits.{xor_lt}
use lib.Dec.{eqb}
use lib.Pow.{pow_pos, pow_mono}
use Rattle.reading.specs.Words.{bit}
use Rattle.reading.specs.Mode.{BL, h}
use Rattle.reading.specs.Settings.{Settings}
use Rattle.reading.specs.Bursts.{column_of}
use Rattle.beats.specs.Rows.{Sized, InRow, InBlock, place_in, first_in_row}

-- ---- lengths

pub length-pos : (m : ℕ) → 0 < BL m
length-pos m = pow_pos (m % 8)

pub length-le : (m : ℕ) → BL m ≤ 128
length-le m = pow_mono {i = m % 8} {j = 7} (omega arith)

pub half_le : (m : ℕ) → h m ≤ 64
half_le m = omega (arith, length-le m)

-- ---- columns

pub block-le : (n c : ℕ) → c / n * n ≤ c
block-le n c = omega (arith, div-add-mod' c n)

pub place-lt : (b : Bool) (n c j : ℕ) → 0 < n → n ≤ 128 → j < 128 → place_in b n c j < 128
place-lt false n c j p l k = omega (arith, mod-lt (c + j) p)
place-lt true n c j p l k = xor_lt 7 (c % n) j (omega (arith, mod-lt c p)) k

pub block-fits : (first mode column pairs : ℕ) {size : ℕ} → InRow first column pairs → size ≡ BL mode → InBlock (first + column / size * size) size column pairs
block-fits first mode column pairs {size} z e =
    record {
      cell = omega (arith, z.cell, z.low, block-le size column);
      some = rw e (length-pos mode);
      most = rw e (length-le mode);
      low = z.low;
      short = z.short;
    }

-- A11 is column bit 10 where there is one
pub column-is : (bits a : ℕ) → bits ≤ 11 → (a % 1024 + 1024 * (a / 2048 % 2)) % 2 ^ bits ≡ a % 1024 % 2 ^ bits + cond (eqb bits 11) (1024 * bit 11 a) 0
column-is zero a l = omega arith
column-is (suc zero) a l = omega arith
column-is (suc (suc zero)) a l = omega arith
column-is (suc (suc (suc zero))) a l = omega arith
column-is (suc (suc (suc (suc zero)))) a l = omega arith
column-is (suc (suc (suc (suc (suc zero))))) a l = omega arith
column-is (suc (suc (suc (suc (suc (suc zero)))))) a l = omega arith
column-is (suc (suc (suc (suc (suc (suc (suc zero))))))) a l = omega arith
column-is (suc (suc (suc (suc (suc (suc (suc (suc zero)))))))) a l = omega arith
column-is (suc (suc (suc (suc (suc (suc (suc (suc (suc zero))))))))) a l = omega arith
column-is (suc (suc (suc (suc (suc (suc (suc (suc (suc (suc zero)))))))))) a l = omega arith
column-is (suc (suc (suc (suc (suc (suc (suc (suc (suc (suc (suc zero))))))))))) a l = omega arith
column-is (suc (suc (suc (suc (suc (suc (suc (suc (suc (suc (suc (suc more)))))))))))) a l = absurd (omega arith)

pub column-lt : (s : Settings) (a : ℕ) → column_of s a < 2048
column-lt s a = go (eqb s.column_bits 11)
  where
    go : (b : Bool) → a % 1024 % 2 ^ s.column_bits + cond b (1024 * bit 11 a) 0 < 2048
    go true = omega (arith, mod-le (a % 1024) (2 ^ s.column_bits))
    go false = omega (arith, mod-le (a % 1024) (2 ^ s.column_bits))

-- ---- cells

module _ (s : Settings) (z : Sized s) (bank row : ℕ) (b : bank < 4) (r : row < 16384) where
  pub bank-fits : bank * 2 ^ s.row_bits ≤ 49152
  bank-fits = mul-le-mul {n₁ = bank} {n₂ = 3} (omega arith) (pow_mono {i = s.row_bits} {j = 14} z.rows)

  pub first-lt : first_in_row s bank row < 2 ^ 27
  first-lt =
      omega (arith, mul-le-mul {n₁ = bank * 2 ^ s.row_bits + row} {n₂ = 65535} (omega (arith, bank-fits)) (pow_mono {i = s.column_bits} {j = 11} z.columns))

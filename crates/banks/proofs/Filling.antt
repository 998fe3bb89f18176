-- Filling the records one after the other: one more, and none left; and what an answer that is no refusal leaves.
use Prim.Native.Nat.{ℕ, zero, suc, ◌+◌, ◌-◌, ◌≤◌, ◌<◌}
use mathlib.Core.Path.{◌≡◌, refl, sym, ap, ◌∙◌}
use mathlib.Core.List.{List, [], ◌∷◌, ◌++◌, map}
use mathlib.Core.Option.{Option}
use native.Mathlib.Nat.{sub-zero}
use native.Mathlib.Omega.{arith}
use borrow.Author.Tests.{lt-leb, leb-true, leb-false}
use lib.ListN.{length, length-map, length-set, length-take, set, take, drop}
use lib.Seq.{set-get_or}
use Rattle.std.specs.Prelude.{Bool, true, false, cond, leb, min, Result, Ok, Err}
use Rattle.std.proofs.lemmas.List.{set-append_left, get_or_append_left, take-append-drop}
use Rattle.reading.specs.Search.{lesser}
use Rattle.reading.specs.Answers.{Answer, refused, answered}
use Rattle.reading.specs.Openings.{Record}
use Rattle.reading.specs.OpenRow.{over}
use Rattle.words.proofs.Search.{one_less, none_left}
use Rattle.refusal.specs.declared.Refusal.{Refusal}
use Rattle.refusal.specs.Refusal.{told}
use Rattle.banks.specs.declared.Bank.{Bank}
use Rattle.banks.specs.declared.Told.{Told}
use Rattle.banks.specs.Banks.{no_opening, bank_at, filled_of, filled_from, bank_of, record_of, found, told_of}

-- the first n records, of which i are filled, with what lies behind them: filling on gives what filling all gives
pub record Filled (t : Result Told Refusal) (records : List Bank) (n : ℕ) (first : List Bank) (i : ℕ) : Type 0 where
  pub within : i ≤ n
  pub long : length first ≡ n
  pub same : filled_from t (first ++ drop n records) i (n - i) ≡ filled_from t records 0 n

pub fills-none : (t : Result Told Refusal) (records : List Bank) (n : ℕ) → n ≤ length records → Filled t records n (take n records) 0
fills-none t records n l =
    record {
      within = omega arith;
      long = simp length-take (omega arith);
      same = rw (sub-zero n, take-append-drop n records);
    }

module _ {t : Result Told Refusal} {records first : List Bank} {n i : ℕ} (x : Filled t records n first i) where
  pub fills-on : i < n → {b : Bank} → b ≡ filled_of t (bank_at first i) i → Filled t records n (set first i b) (i + 1)
  unfolding filled_from
  fills-on small {b} e =
      let there : i < length first = omega (arith, x.long) in
      let told : b ≡ filled_of t (bank_at (first ++ drop n records) i) i =
      e ∙ ap (λ (c : Bank). filled_of t c i) (sym (get_or_append_left first (drop n records) no_opening i there)) in
      record {
        within = omega arith;
        long = length-set first i b ∙ x.long;
        same =
            (λ j. filled_from t (sym (set-append_left first (drop n records) i b there) j) (i + 1) (n - (i + 1)))
            ∙ (λ j. filled_from t (set (first ++ drop n records) i (told j)) (i + 1) (n - (i + 1)))
            ∙ sym (ap (filled_from t (first ++ drop n records) i) (one_less n i small)) ∙ x.same;
      }

  pub filled : n ≤ i → first ++ drop n records ≡ filled_from t records 0 n
  unfolding filled_from
  filled over = sym (ap (filled_from t (first ++ drop n records) i) (none_left n i over)) ∙ x.same

pub fewest : (n : ℕ) {m : ℕ} → m ≡ min n 4 → m ≡ lesser n 4
fewest n e = e ∙ go (leb n 4) refl
  where
    go : (v : Bool) → leb n 4 ≡ v → min n 4 ≡ cond v n 4
    go true k = omega (arith, leb-true n 4 k)
    go false k = omega (arith, leb-false n 4 k)

-- ---- filled as the reading says

pub same_back : (l : List Bank) → map bank_of (map record_of l) ≡ l
same_back [] = refl
same_back (b ∷ l) = ap (λ (m : List Bank). b ∷ m) (same_back l)

unfilled : (r : Refusal) (l : List Bank) (i n : ℕ) → filled_from (Err r) l i n ≡ l
unfolding filled_from
unfilled r l i zero = refl
unfilled r l i (suc n) = ap (λ (m : List Bank). filled_from (Err r) m (i + 1) n) (set-get_or l i no_opening) ∙ unfilled r l (i + 1) n

-- four records, where the answer is no refusal
refilled : (t : Told) → length t.banks ≡ 4 → (l : List Bank) → 4 ≤ length l → filled_from (Ok t) l 0 (lesser (length l) 4) ≡ t.banks ++ drop 4 l
unfolding filled_from
refilled t four [] long = absurd (omega (arith, long))
refilled t four (a ∷ []) long = absurd (omega (arith, long))
refilled t four (a ∷ b ∷ []) long = absurd (omega (arith, long))
refilled t four (a ∷ b ∷ c ∷ []) long = absurd (omega (arith, long))
refilled t four (a ∷ b ∷ c ∷ d ∷ l) long =
    ap (filled_from (Ok t) (a ∷ b ∷ c ∷ d ∷ l) 0) (lesser-four (length l)) ∙ ap (λ (m : List Bank). m ++ l) (four-of t.banks four)
  where
    lesser-four : (n : ℕ) → lesser (suc (suc (suc (suc n)))) 4 ≡ 4
    lesser-four zero = refl
    lesser-four (suc n) = rw (lt-leb (suc (suc (suc (suc (suc n))))) 4 (omega arith))

    four-of : (l : List Bank) → length l ≡ 4 → (bank_at l 0 ∷ bank_at l 1 ∷ bank_at l 2 ∷ bank_at l 3 ∷ []) ≡ l
    four-of [] e = absurd (omega (arith, e))
    four-of (a ∷ []) e = absurd (omega (arith, e))
    four-of (a ∷ b ∷ []) e = absurd (omega (arith, e))
    four-of (a ∷ b ∷ c ∷ []) e = absurd (omega (arith, e))
    four-of (a ∷ b ∷ c ∷ d ∷ []) e = refl
    four-of (a ∷ b ∷ c ∷ d ∷ x ∷ l) e = absurd (omega (arith, e))

map-over : (new old : List Record) → map bank_of (new ++ old) ≡ map bank_of new ++ map bank_of old
map-over [] old = refl
map-over (r ∷ new) old = ap (λ (m : List Bank). bank_of r ∷ m) (map-over new old)

drop-back : (n : ℕ) (l : List Bank) → map bank_of (drop n (map record_of l)) ≡ drop n l
drop-back zero l = same_back l
drop-back (suc n) [] = refl
drop-back (suc n) (b ∷ l) = drop-back n l

abbrev records_in : Answer (Option ℕ × List Record) → List Record
records_in (refused number place) = []
records_in (answered x) = x.1

pub all-filled : (r : Result Told Refusal) (a : Answer (Option ℕ)) (new : List Record) (l : List Bank) → told found r ≡ told_of a new → length new ≡ 4 →
    ((row : Option ℕ) → a ≡ answered row → 4 ≤ length l) → filled_from r l 0 (lesser (length l) 4) ≡ map bank_of (over a new (map record_of l))
all-filled (Err r) (refused number place) new l e four long = unfilled r l 0 (lesser (length l) 4) ∙ sym (same_back l)
all-filled (Ok t) (refused number place) new l e four long = let z : ◌≡◌ {A = ℕ} 0 1 = cc in absurd (omega arith)
all-filled (Err r) (answered row) new l e four long = let z : ◌≡◌ {A = ℕ} 0 1 = cc in absurd (omega arith)
all-filled (Ok t) (answered row) new l e four long =
    let records : map record_of t.banks ≡ new = ap records_in e in
    let banks : t.banks ≡ map bank_of new = sym (same_back t.banks) ∙ ap (map bank_of) records in
    refilled t (ap length banks ∙ length-map new bank_of ∙ four) l (long row refl)
    ∙ ap (λ (m : List Bank). m ++ drop 4 l) banks
    ∙ ap (λ (m : List Bank). map bank_of new ++ m) (sym (drop-back 4 l))
    ∙ ap (λ (k : ℕ). map bank_of new ++ map bank_of (drop k (map record_of l))) (sym four)
    ∙ sym (map-over new (drop (length new) (map record_of l)))

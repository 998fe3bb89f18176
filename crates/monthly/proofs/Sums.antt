-- Totals are the sums of the lines, one line at a time.
use Prim.Native.Nat.{ℕ, ◌+◌}
use mathlib.Core.List.{List, [], ◌∷◌, ◌++◌, append-nil, append_assoc}
use mathlib.Core.Path.{◌≡◌, refl, sym, ap, ◌∙◌}
use native.Mathlib.Omega.{arith}
use lib.ListN.{length-append}
use Rattle.reading.specs.Month.{Line, events_told, judged_told, clean_told, broken_told, refused_told, sum_of, Totals, totals_of}
use Rattle.refusal.specs.Refusal.{told}
use Rattle.judge.specs.Meaning.{report_of}
use Rattle.monthly.specs.declared.Line as line
use Rattle.monthly.specs.declared.Totals as sums
use Rattle.monthly.specs.declared.Counts.{Counts}
use Rattle.monthly.specs.Meaning.{line_means, counts_of, totals_mean, added, Held}

-- one line more adds its number to each sum
sum_more : (f : Line → ℕ) (xs : List Line) (x : Line) → sum_of f (xs ++ (x ∷ [])) ≡ sum_of f xs + f x
unfolding sum_of
sum_more f [] x = omega arith
sum_more f (y ∷ ys) x = omega (arith, sum_more f ys x)

pub added-one : (xs : List Line) (x : Line) → added (totals_of xs) x ≡ totals_of (xs ++ (x ∷ []))
added-one xs x =
    λ i.
    record {
      captures = sym (length-append xs (x ∷ [])) i;
      clean = sym (sum_more (λ y. clean_told y.answer) xs x) i;
      broken = sym (sum_more (λ y. broken_told y.answer) xs x) i;
      refused = sym (sum_more (λ y. refused_told y.answer) xs x) i;
      events = sym (sum_more (λ y. events_told y.answer) xs x) i;
      judged = sym (sum_more (λ y. judged_told y.answer) xs x) i;
      read = sym (sum_more (λ y. y.read) xs x) i;
      written = sym (sum_more (λ y. y.written) xs x) i;
      cycles = sym (sum_more (λ y. y.cycles) xs x) i;
    }

-- those of no line
abbrev pub zeros : sums.Totals
zeros = record { captures = 0; clean = 0; broken = 0; refused = 0; events = 0; judged = 0; read = 0; written = 0; cycles = 0 }

pub none-added : totals_mean zeros ≡ totals_of []
unfolding sum_of
none-added = refl

pub none-held : Held zeros
none-held =
    record {
      captures = omega arith;
      clean = omega arith;
      broken = omega arith;
      refused = omega arith;
      events = omega arith;
      judged = omega arith;
      read = omega arith;
      written = omega arith;
      cycles = omega arith;
    }

pub are-zeros : {t : sums.Totals}
    → (t.captures ≡ 0)
    × ((t.clean ≡ 0)
    × ((t.broken ≡ 0)
    × ((t.refused ≡ 0)
    × ((t.events ≡ 0) × ((t.judged ≡ 0) × ((t.read ≡ 0) × ((t.written ≡ 0) × (t.cycles ≡ 0))))))))
    → t ≡ zeros
are-zeros e =
    λ i.
    record {
      captures = e.0 i;
      clean = e.1.0 i;
      broken = e.1.1.0 i;
      refused = e.1.1.1.0 i;
      events = e.1.1.1.1.0 i;
      judged = e.1.1.1.1.1.0 i;
      read = e.1.1.1.1.1.1.0 i;
      written = e.1.1.1.1.1.1.1.0 i;
      cycles = e.1.1.1.1.1.1.1.1 i;
    }

-- what was added up is what should be
pub added-so : (t : sums.Totals) (x : line.Line) {c : Counts} → c ≡ counts_of (told report_of x.verdict) →
    ◌≡◌ {A = Totals}
    (record {
      captures = t.captures + 1;
      clean = t.clean + c.clean;
      broken = t.broken + c.broken;
      refused = t.refused + c.refused;
      events = t.events + c.events;
      judged = t.judged + c.judged;
      read = t.read + x.read;
      written = t.written + x.written;
      cycles = t.cycles + x.cycles;
    })
    (added (totals_mean t) (line_means x))
added-so t x e =
    λ i.
    record {
      captures = t.captures + 1;
      clean = t.clean + (e i).clean;
      broken = t.broken + (e i).broken;
      refused = t.refused + (e i).refused;
      events = t.events + (e i).events;
      judged = t.judged + (e i).judged;
      read = t.read + x.read;
      written = t.written + x.written;
      cycles = t.cycles + x.cycles;
    }

-- the lines of a list, added one after the other
abbrev pub added_all : Totals → List Line → Totals
added_all t [] = t
added_all t (x ∷ xs) = added_all (added t x) xs

added-behind : (ys xs : List Line) → added_all (totals_of ys) xs ≡ totals_of (ys ++ xs)
added-behind ys [] = ap totals_of (sym (append-nil ys))
added-behind ys (x ∷ xs) =
    ap (λ (t : Totals). added_all t xs) (added-one ys x) ∙ added-behind (ys ++ (x ∷ [])) xs ∙ ap totals_of (append_assoc ys (x ∷ []) xs)

pub added-all : (xs : List Line) → added_all (totals_of []) xs ≡ totals_of xs
added-all xs = added-behind [] xs

-- The walk over two lists of events that are alike one by one: the same rule is broken at the same event, or none.
use Prim.Native.Nat.{ℕ, suc, ◌≤◌, ◌<◌}
use mathlib.Core.List.{List, [], ◌∷◌}
use mathlib.Core.Option.{Option, none, some}
use mathlib.Core.Path.{◌≡◌, refl, sym, ap, ◌∙◌}
use Rattle.reading.specs.Settings.{Settings}
use Rattle.reading.specs.Capture.{Event}
use Rattle.reading.specs.Commands.{command_of}
use Rattle.reading.specs.Part.{Part, start, step}
use Rattle.reading.specs.Rules.{broken_by}
use Rattle.reading.specs.Verdict.{Verdict, broken_or, judge_by, judge_from, verdict_by, verdict_of}
use Rattle.reading.specs.Blank.{Alike}
use Rattle.deadlines.specs.Deadlines.{pace_of}
use Rattle.steps.specs.Steps.{step_breaks, step_after, pace_after}
use Rattle.bridge.specs.Summary.{Timed, laid, summary}
use Rattle.bridge.proofs.Tests.{num}
use Rattle.bridge.proofs.Next.{Sound}
use Rattle.bridge.proofs.Turn.{Turned, turned-event, start-sound}
use Rattle.judge.proofs.Walking.{positive}
use Rattle.alike.proofs.Steps.{Steps, steps_alike}

-- a rule's number tells the rule, since none has the number 0
num-tells : (x y : Option ℕ) → ((r : ℕ) → x ≡ some r → r ≡ 0 → ⊥) → ((r : ℕ) → y ≡ some r → r ≡ 0 → ⊥) → num x ≡ num y → x ≡ y
num-tells none none p q e = refl
num-tells none (some r) p q e = absurd (q r refl (sym e))
num-tells (some r) none p q e = absurd (p r refl e)
num-tells (some r) (some k) p q e = ap some e

abbrev at : ℕ → ℕ → Event
at t w = record { cycle = t; pins = w }

module _ (s : Settings) (wide : s.row_bits < 32) where
  -- events that are looked at from a cycle on: the same cycles, which rise, and pins that are alike
  pub data Pairs : ℕ → List Event → List Event → Type 0 where
    done : {from : ℕ} → Pairs from [] []
    next : {from t v w : ℕ} {es fs : List Event} → from ≤ t → Timed s t → Alike s v w → Pairs (suc t) es fs →
        Pairs from (at t v ∷ es) (at t w ∷ fs)

  -- two parts of which the same is kept
  record Same (from : ℕ) (p q : Part) : Type 0 where
    deadlines : laid (summary s p) ≡ laid (summary s q)
    paced : pace_of p.mode ≡ pace_of q.mode
    first : Sound from p
    second : Sound from q

  module _ (from t v w : ℕ) (l : from ≤ t) (timed : Timed s t) (k : Alike s v w) (p q : Part) (z : Same from p q) where
    turned-p : Turned s wide p from t l timed z.first v (command_of v)
    turned-p = turned-event s wide p from t l timed z.first v

    turned-q : Turned s wide q from t l timed z.second w (command_of w)
    turned-q = turned-event s wide q from t l timed z.second w

    stepped : Steps s wide (laid (summary s p)) (pace_of p.mode) t v w
    stepped = steps_alike s wide (laid (summary s p)) (pace_of p.mode) t k

    same-rule : broken_by s p (at t v) ≡ broken_by s q (at t w)
    same-rule =
        num-tells (broken_by s p (at t v)) (broken_by s q (at t w)) (positive s p (at t v)) (positive s q (at t w))
        (sym turned-p.breaks ∙ stepped.breaks ∙ ap (λ (d : List ℕ). step_breaks s d t w) z.deadlines ∙ turned-q.breaks)

    same_next : broken_by s p (at t v) ≡ none → Same (suc t) (step s p (at t v)) (step s q (at t w))
    same_next n =
        let a = turned-p.onward n in
        let b = turned-q.onward (sym same-rule ∙ n) in
        record {
          deadlines = sym a.leaves ∙ stepped.leaves ∙ (λ i. step_after s (z.deadlines i) (z.paced i) t w) ∙ b.leaves;
          paced = sym a.sets ∙ stepped.sets ∙ ap (λ (m : List ℕ). pace_after m w) z.paced ∙ b.sets;
          first = a.sound;
          second = b.sound;
        }

  judged : {from : ℕ} {es fs : List Event} → Pairs from es fs → (p q : Part) (i : ℕ) → Same from p q → judge_from s p i es ≡ judge_from s q i fs
  unfolding judge_by
  judged done p q i z = refl
  judged (next {from} {t} {v} {w} {es} {fs} l timed k rest) p q i z =
      go (broken_by s p (at t v)) refl (λ x. judged rest (step s p (at t v)) (step s q (at t w)) (suc i) x)
    where
      told : broken_by s p (at t v) ≡ broken_by s q (at t w)
      told = same-rule from t v w l timed k p q z

      after-p : Verdict
      after-p = judge_from s (step s p (at t v)) (suc i) es

      after-q : Verdict
      after-q = judge_from s (step s q (at t w)) (suc i) fs

      go : (o : Option ℕ) → broken_by s p (at t v) ≡ o →
          (Same (suc t) (step s p (at t v)) (step s q (at t w)) → after-p ≡ after-q) →
          broken_or (broken_by s p (at t v)) i t after-p ≡ broken_or (broken_by s q (at t w)) i t after-q
      go none n ih =
          ap (λ (o : Option ℕ). broken_or o i t after-p) n ∙ ih (same_next from t v w l timed k p q z n)
          ∙ sym (ap (λ (o : Option ℕ). broken_or o i t after-q) (sym told ∙ n))
      go (some r) n ih =
          ap (λ (o : Option ℕ). broken_or o i t after-p) n ∙ sym (ap (λ (o : Option ℕ). broken_or o i t after-q) (sym told ∙ n))

  -- From the start on: the same verdict.
  pub same-verdict : {es fs : List Event} → Pairs 0 es fs → verdict_of s es ≡ verdict_of s fs
  unfolding verdict_by
  same-verdict k =
      judged k (start s) (start s) 0 (record { deadlines = refl; paced = refl; first = start-sound s; second = start-sound s })

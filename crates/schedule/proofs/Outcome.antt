-- What a call answers, and what it leaves in the buffer, at each place where it ends.
use Prim.Native.Nat.{ℕ, zero, suc, ◌*◌, ◌≤◌, ◌<◌}
use mathlib.Core.Bool.{Bool, true, false, cond, not}
use mathlib.Core.List.{List, [], ◌∷◌, ◌++◌}
use mathlib.Core.Option.{Option, none, some}
use mathlib.Core.Path.{◌≡◌, refl, sym, ap, ◌∙◌, subst}
use native.Mathlib.Omega.{arith}
use lib.Dec.{ltb, eqb}
use lib.ListN.{length, take}
use lib.Seq.{sets}
use borrow.Author.Tests.{eqb-true, ltb-true, ltb-false, lt-ltb, le-ltb}
use Rattle.std.specs.Prelude.{Result, Ok, Err}
use Rattle.std.specs.Prelude as std
use Rattle.reading.specs.Search.{given}
use Rattle.reading.specs.Words.{bytes_of}
use Rattle.reading.specs.Settings.{Settings, settings_count, settings_of, newer, out_of_range, bad_setting}
use Rattle.reading.specs.Capture.{Event, capture_size}
use Rattle.reading.specs.Schedule.{Schedule, planned, late, policy_fits, closes_rows, bad_request, schedule_of, event_words, header_of, capture_in, capture_of}
use Rattle.reading.specs.Answers.{Answer, refused, answered, unless, leaves, when_planned, fitting, schedule_outcome}
use Rattle.words.proofs.Events.{words-length}
use Rattle.words.specs.Found.{place_of}
use Rattle.refusal.specs.Refusal.{number_of, told}
use Rattle.refusal.specs.Refusal as refusal
use Rattle.refusal.specs.declared.Refusal.{Refusal}
use Rattle.refusal.specs.declared.Refusal.TheVariants.{Room}
use Rattle.settings.specs.Meaning.{checked, padded}
use Rattle.capture.proofs.Whole as capture
use Rattle.settings.proofs.Padded.{padded-settings, padded-range}
use Rattle.settings.proofs.Fitting.{each-in-range}
use Rattle.capture.specs.Calls.{Meets}
use Rattle.capture.proofs.Outcome.{passed, follow, follow-unless, follows-refused, too_long, refused-meets, wrote-meets}
use Rattle.memory.specs.Serving.{Sized}
use Rattle.plan.proofs.Captured.{settings-fit}
use Rattle.plan.proofs.Ranged.{fourteen-old, ranged}
use Rattle.plan.proofs.Ready.{few-requests, schedule-planned}
use Rattle.schedule.specs.Meaning.{plan_answer, Noted, Plannable, Writable, size, written, writing}

-- whatever follows refusals 2 and 3
followed : {A : Type 0} (x y : Option ℕ) (rest : Answer A) → unless 2 x (unless 3 y rest) ≡ follow (unless 2 x (unless 3 y (answered (tt {0})))) rest
followed x y rest = ap (unless 2 x) (follow-unless 3 y (answered tt) rest) ∙ follow-unless 2 x (unless 3 y (answered tt)) rest

least : (n : ℕ) (l : List ℕ) → length (take n l) ≤ length l
least zero l = omega arith
least (suc n) [] = omega arith
least (suc n) (x ∷ l) = omega (arith, least n l)

right-count : (n : ℕ) → given 0 (not (eqb n settings_count)) ≡ none → n ≡ settings_count
right-count n e = go (eqb n settings_count) refl e
  where
    go : (v : Bool) → eqb n settings_count ≡ v → given 0 (not v) ≡ none → n ≡ settings_count
    go true k e = eqb-true n settings_count k
    go false k e = let z : ◌≡◌ {A = ℕ} 0 1 = cc in absurd (omega arith)

pub refuses : (ws qs : List ℕ) (policy : ℕ) (out : List ℕ) {r : Result (Unit {0}) Refusal} → refusal.passed r ≡ checked ws → {x : Refusal} → r ≡ Err x →
    Meets (refused (number_of x) (refusal.place_of x)) out (schedule_outcome ws qs policy out)
unfolding schedule_outcome checked
refuses ws qs policy out e f =
    refused-meets
    (followed (given 0 (not (eqb (length ws) settings_count))) (bad_setting ws) _ ∙ follows-refused _ (sym e ∙ ap refusal.passed f))

-- ---- settings that fit

pub record Right (ws : List ℕ) : Type 0 where
  pub count : length ws ≡ settings_count
  pub each : bad_setting ws ≡ none

pub right : (ws : List ℕ) {r : Result (Unit {0}) Refusal} → refusal.passed r ≡ checked ws → r ≡ Ok tt → Right ws
unfolding checked
right ws e f =
    let (x, after) = passed 2 (given 0 (not (eqb (length ws) settings_count))) _ (sym e ∙ ap refusal.passed f) in
    record { count = right-count (length ws) x; each = (passed 3 (bad_setting ws) _ after).0 }

module _ {ws : List ℕ} (fit : Right ws) {s : List ℕ} (loaded : s ≡ padded ws) where
  same : settings_of s ≡ settings_of ws
  same = ap settings_of loaded ∙ padded-settings ws

  in-range : out_of_range s settings_count ≡ none
  in-range =
      ap (λ (x : List ℕ). out_of_range x settings_count) loaded ∙ padded-range ws settings_count ∙ ap (out_of_range ws) (sym fit.count)
      ∙ each-in-range ws fit.each

  pub sized : Sized (settings_of s)
  sized = rw same (ranged ws (settings-fit ws fit.count fit.each) (fourteen-old ws fit.count)).sized

  module _ (qs : List ℕ) (policy : ℕ) (out : List ℕ) where
    fitted : schedule_outcome ws qs policy out
        ≡ leaves
        (unless 10 (given 0 (not (policy_fits policy)))
        (unless 5 (bad_request (settings_of ws) qs)
        (when_planned (schedule_of (settings_of ws) policy qs) (λ es. fitting out (capture_of ws es)))))
        out
    unfolding schedule_outcome
    fitted = rw (fit.count, fit.each)

    -- ---- refusal 10

    pub no-policy : 1 < policy → Meets (refused 10 0) out (schedule_outcome ws qs policy out)
    no-policy l = rw (fitted, le-ltb policy 2 l) (refl, refl)

    module _ (known : policy ≤ 1) where
      onward : schedule_outcome ws qs policy out
          ≡ leaves (unless 5 (bad_request (settings_of ws) qs) (when_planned (schedule_of (settings_of ws) policy qs) (λ es. fitting out (capture_of ws es)))) out
      onward = fitted ∙ rw (lt-ltb policy 2 (omega arith))

      -- ---- refusal 5

      pub unserved : {r : std.Option ℕ} {i : ℕ} → place_of r ≡ bad_request (settings_of s) qs → r ≡ std.Some i → Meets (refused 5 i) out (schedule_outcome ws qs policy out)
      unserved {r} {i} e k =
          let b : bad_request (settings_of ws) qs ≡ some i = sym (ap (λ (x : Settings). bad_request x qs) same) ∙ sym e ∙ ap place_of k in
          rw (onward, b) (refl, refl)

      module _ {r : std.Option ℕ} (e : place_of r ≡ bad_request (settings_of s) qs) (k : r ≡ std.None) where
        pub asked-fine : bad_request (settings_of ws) qs ≡ none
        asked-fine = sym (ap (λ (x : Settings). bad_request x qs) same) ∙ sym e ∙ ap place_of k

        pub plannable : (w : List ℕ) → length w ≡ 16002 → Plannable s qs w
        plannable w l =
            let few = few-requests (settings_of ws) qs asked-fine in
            record { right = in-range; old = ap newer same ∙ fourteen-old ws fit.count; fine = ap (λ (x : Settings). bad_request x qs) same ∙ asked-fine; room = omega arith }

        -- ---- refusal 6

        module _ {w : List ℕ} (t : Result ℕ Refusal) (plans : told (λ n. n) t ≡ plan_answer (schedule_of (settings_of s) policy qs))
            (fills : Noted (schedule_of (settings_of s) policy qs) w) where
          planned-as : told (λ n. n) t ≡ plan_answer (schedule_of (settings_of ws) policy qs)
          planned-as = plans ∙ ap (λ (x : Settings). plan_answer (schedule_of x policy qs)) same

          pub too-late : {x : Refusal} → t ≡ Err x → Meets (refused (number_of x) (refusal.place_of x)) out (schedule_outcome ws qs policy out)
          too-late {x} m = rw (onward, asked-fine) (go (schedule_of (settings_of ws) policy qs) (sym (ap (told (λ n. n)) m) ∙ planned-as))
            where
              go : (y : Schedule) → told (λ n. n) (Err x) ≡ plan_answer y →
                  Meets (refused (number_of x) (refusal.place_of x)) out (leaves (when_planned y (λ es. fitting out (capture_of ws es))) out)
              go (planned es) p = let z : ◌≡◌ {A = ℕ} 0 1 = cc in absurd (omega arith)
              go (late j) p = rw p (refl, refl)

          -- ---- the schedule

          pub record Made (n : ℕ) : Type 0 where
            pub es : List Event
            pub is : schedule_of (settings_of ws) policy qs ≡ planned es
            pub counted : n ≡ length es
            pub noted : take (2 * length es) w ≡ event_words es

          pub made : {n : ℕ} → t ≡ Ok n → Made n
          made {n} m =
              let f : Noted (schedule_of (settings_of ws) policy qs) w = subst (λ (x : Settings). Noted (schedule_of x policy qs) w) same fills in
              go (schedule_of (settings_of ws) policy qs) refl (sym (ap (told (λ n. n)) m) ∙ planned-as) f
            where
              go : (x : Schedule) → schedule_of (settings_of ws) policy qs ≡ x → told (λ n. n) (Ok n) ≡ plan_answer x → Noted x w → Made n
              go (planned es) e p f = record { es = es; is = e; counted = (let z : n ≡ length es = cc in z); noted = f.front es refl }
              go (late j) e p f = let z : ◌≡◌ {A = ℕ} 0 1 = cc in absurd (omega arith)

          module _ {n : ℕ} (m : t ≡ Ok n) where
            few : n ≤ 8000
            few =
                let y = made m in
                let range = ranged ws (settings-fit ws fit.count fit.each) (fourteen-old ws fit.count) in
                let plan = schedule-planned (settings_of ws) qs asked-fine range (closes_rows policy) y.es y.is in
                omega (arith, y.counted, plan.few, few-requests (settings_of ws) qs asked-fine)

            words_back : take (2 * n) w ≡ event_words (made m).es
            words_back = ap (λ (k : ℕ). take (2 * k) w) (made m).counted ∙ (made m).noted

            pub writable : Writable ws w n
            writable =
                let y = made m in
                let there : 2 * n ≤ length w =
                omega (arith, words-length y.es, y.counted, ap length words_back, least (2 * n) w) in
                record { fourteen = fit.count; few = few; there = there }

            abbrev cap : List ℕ
            cap = capture_of ws (made m).es

            long : length cap ≡ size n
            long =
                capture.size 0 ws (made m).es ∙ ap (λ (k : ℕ). capture_size k (length (made m).es)) fit.count ∙ ap size (sym (made m).counted)

            whole : bytes_of (header_of 0 (length ws) n ++ ws ++ take (2 * n) w) ≡ cap
            unfolding capture_in
            whole i = bytes_of (header_of 0 (length ws) ((made m).counted i) ++ ws ++ words_back i)

            outcome-is : schedule_outcome ws qs policy out ≡ leaves (fitting out cap) out
            outcome-is =
                onward ∙ (λ i. leaves (unless 5 (asked-fine i) (when_planned ((made m).is i) (λ es. fitting out (capture_of ws es)))) out)

            final : (v : Bool) → ltb (length out) (size n) ≡ v →
                Meets (told (λ n. n) (cond v (Err (Room (size n))) (Ok (size n)))) (cond v out (sets out 0 cap)) (leaves (fitting out cap) out)
            final true k =
                refused-meets (too_long out cap (omega (arith, long, ltb-true (length out) (size n) k)) ∙ ap (λ (x : ℕ). refused 7 x) long)
            final false k = wrote-meets out cap refl (omega (arith, long, ltb-false (length out) (size n) k)) (sym long) refl

            pub ends : {r : Result ℕ Refusal} {o : List ℕ} → r ≡ written out n → o ≡ writing ws w n out → Meets (told (λ n. n) r) o (schedule_outcome ws qs policy out)
            unfolding written writing
            ends e f = rw (e, f, whole, outcome-is) (final (ltb (length out) (size n)) refl)

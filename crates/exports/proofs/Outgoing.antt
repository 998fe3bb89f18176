-- What writing an export answers, and what it leaves in the buffer, at each place where it ends.
use Rattle.std.proofs.Common.{◌≡◌, ℕ, ◌*◌, ◌<◌, ◌≤◌, Bool, true, false, cond, ◌||◌, eqb, ltb, List, length, sym, refl, ap, ◌∙◌, arith, length-drop, ltb-false, le-ltb, lt-ltb}
use lib.Seq.{sets}
use Rattle.reading.specs.Search.{given}
use Rattle.reading.specs.Settings.{settings_count, sleeping_count}
use Rattle.reading.specs.Capture.{Event, most_events, header_word, count_in, events_start, event_count, event_bytes, events_of}
use Rattle.reading.specs.Answers.{Answer, answered, unless, Outcome, leaves, fitting}
use Rattle.reading.specs.Export.{most_records, reach, bridged, export_of, first_cycle, unwritable, write_outcome}
use Rattle.words.proofs.Runs.{front}
use Rattle.std.specs.Prelude.{Result, Ok, Err}
use Rattle.refusal.specs.declared.Refusal.{Refusal}
use Rattle.refusal.specs.declared.Refusal.TheVariants.{Room, Distance}
use Rattle.refusal.specs.Refusal.{passed}
use Rattle.capture.specs.declared.held.Opened.{Opened}
use Rattle.capture.specs.Calls.{opened, Accepted}
use Rattle.capture.proofs.Outcome.{refused-meets}
use Rattle.capture.proofs.Accepted.{Sound, accepted-sound, accepted-rest, refused-to, cycle-fits}
use Rattle.capture.proofs.Opened as opening
use Rattle.exports.specs.Meaning.{Given, events_in, too_far, stored, storing}
use Rattle.exports.proofs.Bridges.{export-length}
use Rattle.exports.proofs.Incoming.{counting, Ends}

-- ---- the records, if the buffer holds them

module _ (es : List Event) (records : ℕ) (out : List ℕ) where
  pub too_short : length out < 6 * records → (Err (Room (6 * records)) ≡ stored out records) × (out ≡ storing es records out)
  unfolding stored storing
  too_short l = rw (lt-ltb (length out) (6 * records) l) (refl, refl)

  pub wrote : 6 * records ≤ length out → {o : List ℕ} → o ≡ sets out 0 (export_of (bridged es)) →
      (Ok (6 * records) ≡ stored out records) × (o ≡ storing es records out)
  unfolding stored storing
  wrote l e = rw (le-ltb (length out) (6 * records) l) (refl, e)

-- ---- the call

halves : (a b : Bool) → (a || b) ≡ false → b ≡ false
halves true b e = let z : ◌≡◌ {A = ℕ} 0 1 = cc in absurd (omega arith)
halves false b e = e

pub few-records : (c : List ℕ) → unwritable c ≡ false → length (bridged (events_of c)) ≤ most_records
unfolding unwritable
few-records c e =
    ltb-false most_records (length (bridged (events_of c)))
    (halves (ltb reach (first_cycle (events_of c))) _ (halves (eqb (count_in c) sleeping_count) _ e))

module _ (c out : List ℕ) where
  pub refused-so : (r : Refusal) → passed {A = Opened} (Err r) ≡ opened c → Ends (write_outcome c out) (Err r) out
  unfolding write_outcome
  refused-so r e = refused-meets (refused-to most_events c _ (sym e))

  module _ (said : answered tt ≡ opened c) where
    open-to : Accepted c
    open-to = sym said

    sound : Sound most_events c
    sound = accepted-sound c open-to

    pub long : events_start (count_in c) ≤ length c
    long = opening.long most_events c open-to

    abbrev export : List ℕ
    export = export_of (bridged (events_of c))

    onward : (v : Bool) → unwritable c ≡ v → write_outcome c out ≡ leaves (unless 12 (given 0 v) (fitting out export)) out
    unfolding write_outcome
    onward v e =
        ap (λ (a : Answer (List ℕ)). leaves a out) (accepted-rest c _ open-to)
        ∙ ap (λ (b : Bool). leaves (unless 12 (given 0 b) (fitting out export)) out) e

    -- ---- refusal 12

    -- events start further behind where there are the settings of sleep
    sleeping : (n : ℕ) → let k = cond (eqb n sleeping_count) sleeping_count settings_count in
        (events_start settings_count < events_start k → eqb k sleeping_count ≡ true) × (events_start k ≤ events_start settings_count → eqb k sleeping_count ≡ false)
    sleeping n = go (eqb n sleeping_count)
      where
        go : (b : Bool) → let k = cond b sleeping_count settings_count in
            (events_start settings_count < events_start k → eqb k sleeping_count ≡ true) × (events_start k ≤ events_start settings_count → eqb k sleeping_count ≡ false)
        go true = (λ l. refl, λ l. absurd (omega arith))
        go false = (λ l. absurd (omega arith), λ l. refl)

    module _ {start : ℕ} (told : start ≡ events_start (count_in c)) where
      pub sleeps : events_start settings_count < start → Ends (write_outcome c out) (Err Distance) out
      unfolding unwritable
      sleeps l = rw (onward true (rw ((sleeping (header_word c 1)).0 (omega arith)))) (refl, refl)

      module _ (awake : start ≤ events_start settings_count) {n : ℕ} {bytes : List ℕ} (f : n ≡ event_count c) (g : bytes ≡ event_bytes c) where
        events-are : events_in bytes n ≡ events_of c
        unfolding events_of
        events-are i = events_in (g i) (f i)

        pub counted : Given bytes n
        counted =
            rw (f, g)
            (record {
              few = sound.sized.few;
              there = omega (arith, sound.sized.size, length-drop (events_start (count_in c)) c);
              early = λ i l. cycle-fits (event_bytes c) i (sound.events i l);
            })

        far-is : unwritable c ≡ too_far (events_in bytes n)
        unfolding unwritable
        far-is = rw ((sleeping (header_word c 1)).1 (omega arith)) (sym (ap too_far events-are))

        module _ {far : Bool} (h : far ≡ too_far (events_in bytes n)) where
          pub too_far_lem : far ≡ true → Ends (write_outcome c out) (Err Distance) out
          too_far_lem e = rw (onward true (far-is ∙ sym h ∙ e)) (refl, refl)

          -- ---- refusal 7, and the export

          module _ (near : far ≡ false) {records : ℕ} (k : records ≡ length (bridged (events_in bytes n))) where
            pub few : records ≤ most_records
            few =
                omega (
                  arith,
                  ltb-false most_records (length (bridged (events_in bytes n)))
                      (halves (ltb reach (first_cycle (events_in bytes n))) _ (sym h ∙ near)),
                )

            size_is : length export ≡ 6 * records
            size_is = export-length (bridged (events_of c)) ∙ ap (λ (es : List Event). 6 * length (bridged es)) (sym events-are) ∙ ap (λ (m : ℕ). 6 * m) (sym k)

            outcome-is : write_outcome c out ≡ leaves (unless 7 (given (6 * records) (ltb (length out) (6 * records))) (answered export)) out
            outcome-is =
                onward false (far-is ∙ sym h ∙ near)
                ∙ (λ i. leaves (unless 7 (given (size_is i) (ltb (length out) (size_is i))) (answered export)) out)

            final : (v : Bool) → ltb (length out) (6 * records) ≡ v →
                Ends (leaves (unless 7 (given (6 * records) v) (answered export)) out) (cond v (Err (Room (6 * records))) (Ok (6 * records)))
                (cond v out (sets out 0 export))
            final true e = (refl, refl)
            final false e = (ap answered (sym size_is), front export out (omega (arith, size_is, ltb-false (length out) (6 * records) e)))

            pub ends : {r : Result ℕ Refusal} {left : List ℕ} → r ≡ stored out records → left ≡ storing (events_in bytes n) records out →
                Ends (write_outcome c out) r left
            unfolding stored storing
            ends p q =
                let fin = final (ltb (length out) (6 * records)) refl in (
                  ap counting p ∙ fin.0 ∙ sym (ap (λ (z : Outcome). z.answer) outcome-is),
                  q ∙ ap (λ (es : List Event). cond (ltb (length out) (6 * records)) out (sets out 0 (export_of (bridged es)))) events-are ∙ fin.1
                      ∙ sym (ap (λ (z : Outcome). z.buffer) outcome-is),
                )

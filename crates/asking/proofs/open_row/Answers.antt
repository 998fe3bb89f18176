use native.Mathlib.Omega.{arith}
use mathlib.Core.Path.{refl, sym, ap, ◌∙◌}
use lib.ListN.{length}
use Rattle.std.proofs.lemmas.Result.{err_from_is_err_and}
use Rattle.reading.specs.OpenRow.{index_in, records_in, over}
use Prim.Native.Nat.{ℕ, ◌≤◌}
use mathlib.Core.Option.{Option}
use Rattle.std.proofs.Common.{◌≡◌, rules}
use Rattle.std.specs.Option.{option_map}
use Rattle.words.specs.Found.{place_of}
use Rattle.reading.specs.Answers.{Answer}
use Rattle.asking.proofs.Finding.{row-open, last-small, long, there, few-events, counted-few, counted-so, words-needed, writes, wrote, stood-so, answered-told}
use Rattle.asking.proofs.Refusing.{clean-so, fits-so, unclean, unfit, short, enough, refused-told}
use Rattle.asking.proofs.open_row.Goals as goal

pub returns-in_err-clean : goal.returns-in_err-clean
returns-in_err-clean c =
    let a = c.args in
    let p = err_from_is_err_and c.from_residual.result c.from_residual.ensures.1 in
    let t = refused-told (records_in a.capture.now) (index_in a.capture.now) a.index.now
    (unclean a.capture.now a.bank a.event a.records (length a.index.now) (sym c.in_err-clean.ensures)) in
    record { answer = rw (p.1, p.2) t.0; index_after = t.1 }

pub event_bytes-bytes-requires : goal.event_bytes-bytes-requires
event_bytes-bytes-requires c = let k = clean-so _ (sym c.in_ok-clean.ensures) in omega (arith, long _ k.0 k.1)

pub event_count-count-requires : goal.event_count-count-requires
event_count-count-requires c = let k = clean-so _ (sym c.in_ok-clean.ensures) in omega (arith, long _ k.0 k.1)

pub returns-in_err-question : goal.returns-in_err-question
returns-in_err-question c =
    let a = c.args in
    let p = err_from_is_err_and c.from_residual-in_err-question.result c.from_residual-in_err-question.ensures.1 in
    let t = refused-told (records_in a.capture.now) (index_in a.capture.now) a.index.now
    (unfit a.capture.now a.bank a.event a.records (length a.index.now) (sym c.in_ok-clean.ensures)
    (sym (rw c.event_count-count.ensures at c.in_err-question.ensures))) in
    record { answer = rw (p.1, p.2) t.0; index_after = t.1 }

pub count-tally-requires : goal.count-tally-requires
count-tally-requires c = let k = clean-so _ (sym c.in_ok-clean.ensures) in long _ k.0 k.1

pub records_of-banks-requires : goal.records_of-banks-requires
records_of-banks-requires c = let k = clean-so _ (sym c.in_ok-clean.ensures) in counted-few _ k.0 k.1 c.event_count-count.ensures c.count-tally.ensures

pub overflow_add-words : goal.overflow_add-words
overflow_add-words c =
    let k = clean-so _ (sym c.in_ok-clean.ensures) in
    omega (arith, last-small (counted-few _ k.0 k.1 c.event_count-count.ensures c.count-tally.ensures) c.records_of-banks.ensures)

pub overflow_mul-words : goal.overflow_mul-words
overflow_mul-words c =
    let k = clean-so _ (sym c.in_ok-clean.ensures) in
    omega (arith, last-small (counted-few _ k.0 k.1 c.event_count-count.ensures c.count-tally.ensures) c.records_of-banks.ensures)

pub returns-then-index-words : goal.returns-then-index-words
returns-then-index-words c =
    let a = c.args in
    let capture = a.capture.now in
    let k = clean-so capture (sym c.in_ok-clean.ensures) in
    let banks = counted-so capture k.0 k.1 c.event_count-count.ensures c.count-tally.ensures c.records_of-banks.ensures in
    let needed = words-needed capture k.0 k.1 banks refl refl in
    let t = refused-told (records_in capture) (index_in capture) a.index.now
    (short capture a.bank a.event a.records (length a.index.now) (sym c.in_ok-clean.ensures)
    (sym (rw c.event_count-count.ensures at c.in_ok-question.ensures)) (omega (arith, needed, c.if-index-words.true))) in
    record { answer = rw needed t.0; index_after = t.1 }

pub invariant_of-events : goal.invariant_of-events
invariant_of-events c =
    let k = clean-so _ (sym c.in_ok-clean.ensures) in
    record { held = rw (c.event_bytes-bytes.ensures, c.event_count-count.ensures) (there _ k.0 k.1) }

pub write-requires-clause-n_in_bounds : goal.write-requires-clause-n_in_bounds
write-requires-clause-n_in_bounds c =
    let capture = c.args.capture.now in
    let k = clean-so capture (sym c.in_ok-clean.ensures) in
    let banks = counted-so capture k.0 k.1 c.event_count-count.ensures c.count-tally.ensures c.records_of-banks.ensures in
    rw c.event_bytes-bytes.ensures (writes capture k.0 k.1 c.event_count-count.ensures (words-needed capture k.0 k.1 banks refl refl) (omega (arith, c.if-index-words.false)))

pub overflow_add-event : goal.overflow_add-event
overflow_add-event c =
    let k = clean-so _ (sym c.in_ok-clean.ensures) in
    omega (arith, (fits-so _ _ _ _ (sym c.in_ok-question.ensures)).1, few-events _ k.0 k.1, c.event_count-count.ensures)

pub stands-requires : goal.stands-requires
stands-requires c = omega (arith, (fits-so _ _ _ _ (sym c.in_ok-question.ensures)).1)

pub returns : goal.returns
returns c =
    let a = c.args in
    let capture = a.capture.now in
    let counted = c.event_count-count.ensures in
    let cleaned = sym c.in_ok-clean.ensures in
    let asked = sym (rw counted at c.in_ok-question.ensures) in
    let k = clean-so capture cleaned in
    let fits = fits-so _ _ _ _ asked in
    let banks = counted-so capture k.0 k.1 counted c.count-tally.ensures c.records_of-banks.ensures in
    let room : length (index_in capture) ≤ length a.index.now = omega (arith, words-needed capture k.0 k.1 banks refl refl, c.if-index-words.false) in
    let answer-is = enough capture a.bank a.event a.records (length a.index.now) cleaned asked room in
    let stood = stood-so capture k.0 k.1 a.bank a.event fits.1 refl (rw c.event_bytes-bytes.ensures at c.stands.ensures) in
    let mapped : c.map-row.result ≡ option_map (λ o. o.row) c.stands.result = search rules in
    record {
      answer = answered-told capture k.0 k.1 a.bank a.event c.map-row.result answer-is (ap place_of mapped ∙ row-open capture k.0 k.1 c.stands.result ∙ stood) banks;
      index_after = wrote capture k.0 k.1 a.index.now counted room (rw c.event_bytes-bytes.ensures at c.write.ensures)
          ∙ ap (λ (b : Answer (Option ℕ)). over b (index_in capture) a.index.now) (sym answer-is);
    }

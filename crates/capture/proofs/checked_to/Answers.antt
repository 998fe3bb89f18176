use native.Mathlib.Omega.{arith}
use mathlib.Core.Bool.{Bool, true, false, not}
use mathlib.Core.Path.{◌≡◌, sym, ap, ◌∙◌}
use borrow.Author.Tests.{not-true, not-false}
use Rattle.std.specs.Prelude as std
use Prim.Native.Nat.{ℕ}
use Rattle.reading.specs.Answers.{Answer, answered, unless}
use Rattle.words.specs.Found.{place_of}
use Rattle.capture.proofs.Accepted.{long-enough, sized}
use Rattle.capture.proofs.Opening.{events-within, settings-are, wrong-length, wrong-header, wrong-setting, right-settings}
use Rattle.capture.proofs.checked_to.Goals as goal

-- what a test for what is wrong told
fits : {b : Bool} {f : Bool} → b ≡ not f → b ≡ false → f ≡ true
fits {b} {f} e p = not-false f (sym e ∙ p)

fails : {b : Bool} {f : Bool} → b ≡ not f → b ≡ true → f ≡ false
fails {b} {f} e p = not-true f (sym e ∙ p)

-- what the walk over the events leads to
abbrev of-event : std.Option ℕ → Answer (Unit {0})
of-event r = unless 4 (place_of r) (answered tt)

pub returns-then-bad_length : goal.returns-then-bad_length
returns-then-bad_length c = let a = c.args in
    wrong-length a.capture.now a.most (fails c.bad_length.ensures c.if-bad_length.true)

pub bad_header-requires : goal.bad_header-requires
bad_header-requires c = let a = c.args in
    omega (arith, long-enough a.capture.now a.most (fits c.bad_length.ensures c.if-bad_length.false))

pub returns-then-bad_header : goal.returns-then-bad_header
returns-then-bad_header c = let a = c.args in
    wrong-header a.capture.now a.most (fits c.bad_length.ensures c.if-bad_length.false) (fails c.bad_header.ensures c.if-bad_header.true)

pub setting_words-settings-requires : goal.setting_words-settings-requires
setting_words-settings-requires c = long-enough c.args.capture.now c.args.most (fits c.bad_length.ensures c.if-bad_length.false)

pub settings_count-stated-requires : goal.settings_count-stated-requires
settings_count-stated-requires c = omega (arith, long-enough c.args.capture.now c.args.most (fits c.bad_length.ensures c.if-bad_length.false))

pub returns-in-Some : goal.returns-in-Some
returns-in-Some c = let a = c.args in
    wrong-setting a.capture.now a.most (fits c.bad_length.ensures c.if-bad_length.false) (fits c.bad_header.ensures c.if-bad_header.false)
    c.lowest_bad.result (c.lowest_bad.ensures ∙ settings-are a.capture.now c.setting_words-settings.ensures c.settings_count-stated.ensures.value) c.in-Some.is

pub event_count-count-requires : goal.event_count-count-requires
event_count-count-requires c = omega (arith, long-enough c.args.capture.now c.args.most (fits c.bad_length.ensures c.if-bad_length.false))

pub event_bytes-bytes-requires : goal.event_bytes-bytes-requires
event_bytes-bytes-requires c = long-enough c.args.capture.now c.args.most (fits c.bad_length.ensures c.if-bad_length.false)

pub pin_limit-requires : goal.pin_limit-requires
pin_limit-requires c = omega (arith, long-enough c.args.capture.now c.args.most (fits c.bad_length.ensures c.if-bad_length.false))

pub lowest_bad_event-requires : goal.lowest_bad_event-requires
lowest_bad_event-requires c = let a = c.args in
    let fit = sized a.capture.now a.most (fits c.bad_length.ensures c.if-bad_length.false) (fits c.bad_header.ensures c.if-bad_header.false) in
    (omega arith, rw c.event_bytes-bytes.ensures (events-within a.capture.now fit c.event_count-count.ensures))

pub returns-in-Some-lowest_bad_event : goal.returns-in-Some-lowest_bad_event
returns-in-Some-lowest_bad_event c = let a = c.args in
    sym (ap of-event c.in-Some-lowest_bad_event.is)
    ∙ right-settings a.capture.now a.most (fits c.bad_length.ensures c.if-bad_length.false) (fits c.bad_header.ensures c.if-bad_header.false)
    c.lowest_bad.result (c.lowest_bad.ensures ∙ settings-are a.capture.now c.setting_words-settings.ensures c.settings_count-stated.ensures.value) c.in_default.is
    c.lowest_bad_event.result c.event_count-count.ensures (rw (c.event_bytes-bytes.ensures, c.pin_limit.ensures) at c.lowest_bad_event.ensures)

pub returns : goal.returns
returns c = let a = c.args in
    sym (ap of-event c.in_default-lowest_bad_event.is)
    ∙ right-settings a.capture.now a.most (fits c.bad_length.ensures c.if-bad_length.false) (fits c.bad_header.ensures c.if-bad_header.false)
    c.lowest_bad.result (c.lowest_bad.ensures ∙ settings-are a.capture.now c.setting_words-settings.ensures c.settings_count-stated.ensures.value) c.in_default.is
    c.lowest_bad_event.result c.event_count-count.ensures (rw (c.event_bytes-bytes.ensures, c.pin_limit.ensures) at c.lowest_bad_event.ensures)

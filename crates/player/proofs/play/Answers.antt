use mathlib.Core.Path.{sym, ap, ◌∙◌}
use Rattle.std.proofs.lemmas.Result.{err_from_is_err_and}
use Rattle.reading.specs.Answers.{not_clean}
use Rattle.capture.proofs.Opened.{opens-held}
use Rattle.judge.specs.declared.Verdict.{Verdict}
use Rattle.judge.specs.Meaning.{report_of}
use Rattle.cells.proofs.Listing.{judged-accepted, judged-verdict}
use Rattle.player.proofs.Calling.{refused-play, broken-play, opened-coded, played-so}
use Rattle.player.proofs.play.Goals as goal

pub returns-in_err-event : goal.returns-in_err-event
returns-in_err-event c = let a = c.args in
    let r = err_from_is_err_and c.from_residual.result c.from_residual.ensures.1 in
    let p = refused-play a.capture.now a.first a.window.now a.writes.now a.reads.now c.in_err-event.ensures in
    rw (r.1, r.2) (record { result_value = p.0; window_after = p.1.0; reads_after = p.1.1 })

pub returns-in-Broken : goal.returns-in-Broken
returns-in-Broken c = let a = c.args in
    let p =
    broken-play a.capture.now a.first a.window.now a.writes.now a.reads.now c.in_ok-event.ensures
    (ap (λ (v : Verdict). not_clean (report_of v).verdict) c.in-Broken.is) in
    record { result_value = p.0; window_after = p.1.0; reads_after = p.1.1 }

pub judged-requires : goal.judged-requires
judged-requires c = record {
  accepted = judged-accepted c.args.capture.now c.in_ok-event.ensures;
  clean = judged-verdict c.args.capture.now c.in_ok-event.ensures ∙ ap (λ (v : Verdict). (report_of v).verdict) c.in-Clean.is;
}

pub play_on-requires : goal.play_on-requires
play_on-requires c =
    opened-coded (opens-held (sym (judged-accepted c.args.capture.now c.in_ok-event.ensures)) c.judged.result.opened c.judged.ensures)

pub returns-in-Clean : goal.returns-in-Clean
returns-in-Clean c = let a = c.args in
    let said = c.in_ok-event.ensures in
    let p =
    played-so (opens-held (sym (judged-accepted a.capture.now said)) c.judged.result.opened c.judged.ensures)
    (ap not_clean (judged-verdict a.capture.now said) ∙ ap (λ (v : Verdict). not_clean (report_of v).verdict) c.in-Clean.is)
    a.first a.window.now a.writes.now a.reads.now (c.play_on.ensures.result_value, (c.play_on.ensures.window_after, c.play_on.ensures.reads_after)) in
    record { result_value = p.0; window_after = p.1.0; reads_after = p.1.1 }

use mathlib.Core.Path.{◌≡◌, sym, ap, ◌∙◌}
use Rattle.std.specs.Prelude.{Ok}
use Rattle.capture.proofs.Opened.{opens-held}
use Rattle.judge.specs.declared.Verdict.TheVariants.{Clean, Broken}
use Rattle.cells.proofs.Listing.{judged-accepted, judged-verdict}
use Rattle.monthly.proofs.Lines.{refused-line, broken-line, reported, said-clean, line-so}
use Rattle.monthly.proofs.told.Goals as goal

pub judged-clean-requires-clause-accepted : goal.judged-clean-requires-clause-accepted
judged-clean-requires-clause-accepted c = let w = c.in-Ok-Clean in
    let clean : w.field-0 ≡ Clean w.field-0-0 w.field-0-1 = rw w.is at w.field-0-is in
    judged-accepted c.args.capture.now (said-clean c.args.capture.now w.is clean c.judge-verdict.ensures)

pub judged-clean-requires-clause-clean : goal.judged-clean-requires-clause-clean
judged-clean-requires-clause-clean c = let w = c.in-Ok-Clean in
    let clean : w.field-0 ≡ Clean w.field-0-0 w.field-0-1 = rw w.is at w.field-0-is in
    judged-verdict c.args.capture.now (said-clean c.args.capture.now w.is clean c.judge-verdict.ensures)

pub returns-in-Ok-Clean : goal.returns-in-Ok-Clean
returns-in-Ok-Clean c = let w = c.in-Ok-Clean in
    let clean : w.field-0 ≡ Clean w.field-0-0 w.field-0-1 = rw w.is at w.field-0-is in
    let said = said-clean c.args.capture.now w.is clean c.judge-verdict.ensures in
    let kept = c.kept_beats-kept in
    (λ i.
    record {
      answer = reported c.args.capture.now w.is clean i;
      read = kept.result.read;
      written = kept.result.written;
      cycles = c.twice_last.result;
    })
    ∙ line-so (opens-held (sym (judged-accepted c.args.capture.now said)) c.judged-clean.result.opened c.judged-clean.ensures)
    said kept.ensures.read_value kept.ensures.written_value c.twice_last.ensures

pub returns-in-Ok-Broken : goal.returns-in-Ok-Broken
returns-in-Ok-Broken c = let w = c.in-Ok-Broken in
    let broken : w.field-0 ≡ Broken w.field-0-0 w.field-0-1 w.field-0-2 w.field-0-3 w.field-0-4 = rw w.is at w.field-0-is in
    c.unused.ensures ∙ broken-line c.args.capture.now c.judge-verdict.ensures (w.is ∙ ap Ok broken)

pub returns-in-Err : goal.returns-in-Err
returns-in-Err c = c.unused-in-Err.ensures ∙ refused-line c.args.capture.now c.judge-verdict.ensures c.in-Err.is

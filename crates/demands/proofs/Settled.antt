-- Every public function of every library crate: any two results, and any two contents of each lent buffer, that its contract
-- allows for the same arguments are equal. `Post` is the contract itself, as the check reads it: the arguments a, the
-- result z, and e what is lent as it is left.
use mathlib.Core.Path.{◌≡◌, sym, ◌∙◌}
use Rattle.refusal.proofs.Unique as refusal
use Rattle.rules.proofs.Unique as rules
use Rattle.part.proofs.Unique as part
use Rattle.judge.proofs.Unique as judge
use Rattle.banks.proofs.Unique as banks
use Rattle.cells.proofs.Unique as cells
use Rattle.drafts.proofs.Unique as drafts
use Rattle.serving.proofs.Unique as serving
use Rattle.monthly.proofs.Unique as monthly
use Rattle.demands.proofs.Finding as finding
use Rattle.demands.proofs.Judging as judging
use Rattle.words.proofs.both.Reads as words-both
use Rattle.words.proofs.word_at.Reads as words-word-at
use Rattle.words.proofs.put_word.Reads as words-put-word
use Rattle.words.proofs.put_words.Reads as words-put-words
use Rattle.words.proofs.half_at.Reads as words-half-at
use Rattle.words.proofs.put_half.Reads as words-put-half
use Rattle.refusal.proofs.Refusal.number.Reads as refusal-Refusal-number
use Rattle.refusal.proofs.Refusal.place.Reads as refusal-Refusal-place
use Rattle.settings.proofs.mode_word.Reads as settings-mode-word
use Rattle.settings.proofs.setting_fits.Reads as settings-setting-fits
use Rattle.settings.proofs.lowest_bad.Reads as settings-lowest-bad
use Rattle.settings.proofs.check.Reads as settings-check
use Rattle.settings.proofs.mode.burst_length.Reads as settings-mode-burst-length
use Rattle.settings.proofs.mode.half.Reads as settings-mode-half
use Rattle.settings.proofs.mode.interleaved.Reads as settings-mode-interleaved
use Rattle.settings.proofs.mode.latency.Reads as settings-mode-latency
use Rattle.capture.proofs.front.size.Reads as capture-front-size
use Rattle.capture.proofs.front.put.Reads as capture-front-put
use Rattle.capture.proofs.held.Events.cycle.Reads as capture-held-Events-cycle
use Rattle.capture.proofs.held.Events.pins.Reads as capture-held-Events-pins
use Rattle.capture.proofs.events_start.Reads as capture-events-start
use Rattle.capture.proofs.event_count.Reads as capture-event-count
use Rattle.capture.proofs.settings_in.Reads as capture-settings-in
use Rattle.capture.proofs.event_bytes.Reads as capture-event-bytes
use Rattle.capture.proofs.cycle_at.Reads as capture-cycle-at
use Rattle.capture.proofs.pins_at.Reads as capture-pins-at
use Rattle.capture.proofs.open_to.Reads as capture-open-to
use Rattle.capture.proofs.open.Reads as capture-open
use Rattle.pins.proofs.code.Reads as pins-code
use Rattle.pins.proofs.wide_code.Reads as pins-wide-code
use Rattle.pins.proofs.bank.Reads as pins-bank
use Rattle.pins.proofs.address.Reads as pins-address
use Rattle.pins.proofs.ten.Reads as pins-ten
use Rattle.pins.proofs.low.Reads as pins-low
use Rattle.pins.proofs.gives_burst.Reads as pins-gives-burst
use Rattle.deadlines.proofs.banks.all_idle.Reads as deadlines-banks-all-idle
use Rattle.deadlines.proofs.clock.overdue_from.Reads as deadlines-clock-overdue-from
use Rattle.deadlines.proofs.clock.overdue_after.Reads as deadlines-clock-overdue-after
use Rattle.deadlines.proofs.sums.past.Reads as deadlines-sums-past
use Rattle.deadlines.proofs.sums.after.Reads as deadlines-sums-after
use Rattle.deadlines.proofs.sums.after2.Reads as deadlines-sums-after2
use Rattle.deadlines.proofs.sums.data_after.Reads as deadlines-sums-data-after
use Rattle.deadlines.proofs.sums.data_after2.Reads as deadlines-sums-data-after2
use Rattle.deadlines.proofs.sums.least.Reads as deadlines-sums-least
use Rattle.deadlines.proofs.sums.latest.Reads as deadlines-sums-latest
use Rattle.deadlines.proofs.sums.pick.Reads as deadlines-sums-pick
use Rattle.deadlines.proofs.sums.pace.Reads as deadlines-sums-pace
use Rattle.deadlines.proofs.sums.rows.Reads as deadlines-sums-rows
use Rattle.rules.proofs.Rule.number.Reads as rules-Rule-number
use Rattle.rules.proofs.active_breaks.Reads as rules-active-breaks
use Rattle.rules.proofs.read_breaks.Reads as rules-read-breaks
use Rattle.rules.proofs.write_breaks.Reads as rules-write-breaks
use Rattle.rules.proofs.terminate_breaks.Reads as rules-terminate-breaks
use Rattle.rules.proofs.close_breaks.Reads as rules-close-breaks
use Rattle.rules.proofs.close_all_breaks.Reads as rules-close-all-breaks
use Rattle.rules.proofs.refresh_breaks.Reads as rules-refresh-breaks
use Rattle.rules.proofs.mode_breaks.Reads as rules-mode-breaks
use Rattle.rules.proofs.enter_breaks.Reads as rules-enter-breaks
use Rattle.rules.proofs.self_breaks.Reads as rules-self-breaks
use Rattle.effects.proofs.active_after.Reads as effects-active-after
use Rattle.effects.proofs.read_after.Reads as effects-read-after
use Rattle.effects.proofs.write_after.Reads as effects-write-after
use Rattle.effects.proofs.cut_read.Reads as effects-cut-read
use Rattle.effects.proofs.close_after.Reads as effects-close-after
use Rattle.effects.proofs.close_all_after.Reads as effects-close-all-after
use Rattle.effects.proofs.refresh_after.Reads as effects-refresh-after
use Rattle.effects.proofs.mode_set_after.Reads as effects-mode-set-after
use Rattle.effects.proofs.enter_after.Reads as effects-enter-after
use Rattle.effects.proofs.self_after.Reads as effects-self-after
use Rattle.effects.proofs.leave_after.Reads as effects-leave-after
use Rattle.effects.proofs.start.Reads as effects-start
use Rattle.part.proofs.step.Reads as part-step
use Rattle.judge.proofs.walk.Reads as judge-walk
use Rattle.judge.proofs.judge_to.Reads as judge-judge-to
use Rattle.judge.proofs.judge.Reads as judge-judge
use Rattle.hidden.proofs.blank.Reads as hidden-blank
use Rattle.exports.proofs.read.Reads as exports-read
use Rattle.exports.proofs.write.Reads as exports-write
use Rattle.beats.proofs.shuts_bank.Reads as beats-shuts-bank
use Rattle.beats.proofs.mode_after.Reads as beats-mode-after
use Rattle.beats.proofs.column.Reads as beats-column
use Rattle.beats.proofs.first_cell.Reads as beats-first-cell
use Rattle.beats.proofs.first_cells.Reads as beats-first-cells
use Rattle.beats.proofs.open_row.Reads as beats-open-row
use Rattle.beats.proofs.Burst.write.Reads as beats-Burst-write
use Rattle.beats.proofs.Burst.cell.Reads as beats-Burst-cell
use Rattle.beats.proofs.beat_cell.Reads as beats-beat-cell
use Rattle.beats.proofs.interruptible.Reads as beats-interruptible
use Rattle.beats.proofs.interrupted.Reads as beats-interrupted
use Rattle.beats.proofs.kept.Reads as beats-kept
use Rattle.cells.proofs.passed.Reads as cells-passed
use Rattle.cells.proofs.held.Clean.judged.Reads as cells-held-Clean-judged
use Rattle.cells.proofs.held.Clean.start.Reads as cells-held-Clean-start
use Rattle.cells.proofs.held.Clean.burst_at.Reads as cells-held-Clean-burst-at
use Rattle.cells.proofs.held.Clean.kept_beats.Reads as cells-held-Clean-kept-beats
use Rattle.cells.proofs.burst_cells.Reads as cells-burst-cells
use Rattle.browser.proofs.event_at.Reads as browser-event-at
use Rattle.rows.proofs.stands.Reads as rows-stands
use Rattle.rows.proofs.write.Reads as rows-write
use Rattle.asking.proofs.open_row.Reads as asking-open-row
use Rattle.player.proofs.play.Reads as player-play
use Rattle.monthly.proofs.wanted.Reads as monthly-wanted
use Rattle.monthly.proofs.ends.Reads as monthly-ends
use Rattle.monthly.proofs.told.Reads as monthly-told
use Rattle.monthly.proofs.tally.Reads as monthly-tally
use Rattle.monthly.proofs.nothing.Reads as monthly-nothing
use Rattle.monthly.proofs.has_room.Reads as monthly-has-room
use Rattle.monthly.proofs.add.Reads as monthly-add
use Rattle.monthly.proofs.beats.Reads as monthly-beats
use Rattle.requests.proofs.asks_write.Reads as requests-asks-write
use Rattle.requests.proofs.bank.Reads as requests-bank
use Rattle.requests.proofs.row.Reads as requests-row
use Rattle.requests.proofs.active_pins.Reads as requests-active-pins
use Rattle.requests.proofs.close_pins.Reads as requests-close-pins
use Rattle.requests.proofs.burst_pins.Reads as requests-burst-pins
use Rattle.requests.proofs.lowest_bad.Reads as requests-lowest-bad
use Rattle.soonest.proofs.active.Reads as soonest-active
use Rattle.soonest.proofs.burst.Reads as soonest-burst
use Rattle.soonest.proofs.close.Reads as soonest-close
use Rattle.soonest.proofs.close_all.Reads as soonest-close-all
use Rattle.soonest.proofs.refresh.Reads as soonest-refresh
use Rattle.drafts.proofs.cycle_for.Reads as drafts-cycle-for
use Rattle.drafts.proofs.Scheduler.activate.Reads as drafts-Scheduler-activate
use Rattle.drafts.proofs.Scheduler.close.Reads as drafts-Scheduler-close
use Rattle.drafts.proofs.Scheduler.burst.Reads as drafts-Scheduler-burst
use Rattle.drafts.proofs.Scheduler.close_all.Reads as drafts-Scheduler-close-all
use Rattle.drafts.proofs.Scheduler.refresh.Reads as drafts-Scheduler-refresh
use Rattle.serving.proofs.margin.Reads as serving-margin
use Rattle.serving.proofs.serve.Reads as serving-serve
use Rattle.schedule.proofs.schedule.Reads as schedule-schedule
use Rattle.version.proofs.number.Reads as version-number
use Rattle.morgazell.proofs.morgazell_judge.Reads as morgazell-morgazell-judge
use Rattle.morgazell.proofs.morgazell_recording.Reads as morgazell-morgazell-recording
use Rattle.morgazell.proofs.morgazell_cells.Reads as morgazell-morgazell-cells
use Rattle.morgazell.proofs.morgazell_schedule.Reads as morgazell-morgazell-schedule
use Rattle.morgazell.proofs.morgazell_blank.Reads as morgazell-morgazell-blank
use Rattle.morgazell.proofs.morgazell_read_export.Reads as morgazell-morgazell-read-export
use Rattle.morgazell.proofs.morgazell_write_export.Reads as morgazell-morgazell-write-export
use Rattle.morgazell.proofs.morgazell_play.Reads as morgazell-morgazell-play
use Rattle.morgazell.proofs.morgazell_version.Reads as morgazell-morgazell-version
use Rattle.wording.proofs.values.settings_of.Reads as wording-values-settings-of
use Rattle.wording.proofs.values.sleeps.Reads as wording-values-sleeps
use Rattle.wording.proofs.values.newer.Reads as wording-values-newer
use Rattle.trials.proofs.store.Reads as trials-store
use Rattle.trials.proofs.store_settings.Reads as trials-store-settings

-- ---- words

pub words-both-settles : (κs : _) (a : _) (z z' : _) (e e' : _) → words-both.Post κs a z e → words-both.Post κs a z' e' → z ≡ z'
words-both-settles κs a z z' e e' p q = p ∙ sym q

pub words-word-at-settles : (κs : _) (a : _) (z z' : _) (e e' : _) → words-word-at.Post κs a z e → words-word-at.Post κs a z' e' → z ≡ z'
words-word-at-settles κs a z z' e e' p q = p ∙ sym q

pub words-put-word-settles : (κs : _) (a : _) (z z' : _) (e e' : _) → words-put-word.Post κs a z e → words-put-word.Post κs a z' e' → e.0.now ≡ e'.0.now
words-put-word-settles κs a z z' e e' p q = p ∙ sym q

pub words-put-words-settles : (κs : _) (a : _) (z z' : _) (e e' : _) → words-put-words.Post κs a z e → words-put-words.Post κs a z' e' → e.0.now ≡ e'.0.now
words-put-words-settles κs a z z' e e' p q = p ∙ sym q

pub words-half-at-settles : (κs : _) (a : _) (z z' : _) (e e' : _) → words-half-at.Post κs a z e → words-half-at.Post κs a z' e' → z ≡ z'
words-half-at-settles κs a z z' e e' p q = p ∙ sym q

pub words-put-half-settles : (κs : _) (a : _) (z z' : _) (e e' : _) → words-put-half.Post κs a z e → words-put-half.Post κs a z' e' → e.0.now ≡ e'.0.now
words-put-half-settles κs a z z' e e' p q = p ∙ sym q

-- ---- refusal

pub refusal-Refusal-number-settles : (κs : _) (a : _) (z z' : _) (e e' : _) → refusal-Refusal-number.Post κs a z e → refusal-Refusal-number.Post κs a z' e' → z ≡ z'
refusal-Refusal-number-settles κs a z z' e e' p q = p.0 ∙ sym q.0

pub refusal-Refusal-place-settles : (κs : _) (a : _) (z z' : _) (e e' : _) → refusal-Refusal-place.Post κs a z e → refusal-Refusal-place.Post κs a z' e' → z ≡ z'
refusal-Refusal-place-settles κs a z z' e e' p q = p ∙ sym q

-- ---- settings

pub settings-mode-word-settles : (κs : _) (a : _) (z z' : _) (e e' : _) → settings-mode-word.Post κs a z e → settings-mode-word.Post κs a z' e' → z ≡ z'
settings-mode-word-settles κs a z z' e e' p q = p ∙ sym q

pub settings-setting-fits-settles : (κs : _) (a : _) (z z' : _) (e e' : _) → settings-setting-fits.Post κs a z e → settings-setting-fits.Post κs a z' e' → z ≡ z'
settings-setting-fits-settles κs a z z' e e' p q = p ∙ sym q

pub settings-lowest-bad-settles : (κs : _) (a : _) (z z' : _) (e e' : _) → settings-lowest-bad.Post κs a z e → settings-lowest-bad.Post κs a z' e' → z ≡ z'
settings-lowest-bad-settles κs a z z' e e' p q = finding.found-one z z' (p ∙ sym q)

pub settings-check-settles : (κs : _) (a : _) (z z' : _) (e e' : _) → settings-check.Post κs a z e → settings-check.Post κs a z' e' → z ≡ z'
settings-check-settles κs a z z' e e' p q = refusal.one_test z z' (p ∙ sym q)

pub settings-mode-burst-length-settles : (κs : _) (a : _) (z z' : _) (e e' : _) → settings-mode-burst-length.Post κs a z e → settings-mode-burst-length.Post κs a z' e' → z ≡ z'
settings-mode-burst-length-settles κs a z z' e e' p q = p ∙ sym q

pub settings-mode-half-settles : (κs : _) (a : _) (z z' : _) (e e' : _) → settings-mode-half.Post κs a z e → settings-mode-half.Post κs a z' e' → z ≡ z'
settings-mode-half-settles κs a z z' e e' p q = p ∙ sym q

pub settings-mode-interleaved-settles : (κs : _) (a : _) (z z' : _) (e e' : _) → settings-mode-interleaved.Post κs a z e → settings-mode-interleaved.Post κs a z' e' → z ≡ z'
settings-mode-interleaved-settles κs a z z' e e' p q = p ∙ sym q

pub settings-mode-latency-settles : (κs : _) (a : _) (z z' : _) (e e' : _) → settings-mode-latency.Post κs a z e → settings-mode-latency.Post κs a z' e' → z ≡ z'
settings-mode-latency-settles κs a z z' e e' p q = p ∙ sym q

-- ---- capture

pub capture-front-size-settles : (κs : _) (a : _) (z z' : _) (e e' : _) → capture-front-size.Post κs a z e → capture-front-size.Post κs a z' e' → z ≡ z'
capture-front-size-settles κs a z z' e e' p q = p ∙ sym q

pub capture-front-put-settles : (κs : _) (a : _) (z z' : _) (e e' : _) → capture-front-put.Post κs a z e → capture-front-put.Post κs a z' e' → e.1.1.1.0.now ≡ e'.1.1.1.0.now
capture-front-put-settles κs a z z' e e' p q = p ∙ sym q

pub capture-held-Events-cycle-settles : (κs : _) (a : _) (z z' : _) (e e' : _) → capture-held-Events-cycle.Post κs a z e → capture-held-Events-cycle.Post κs a z' e' → z ≡ z'
capture-held-Events-cycle-settles κs a z z' e e' p q = p ∙ sym q

pub capture-held-Events-pins-settles : (κs : _) (a : _) (z z' : _) (e e' : _) → capture-held-Events-pins.Post κs a z e → capture-held-Events-pins.Post κs a z' e' → z ≡ z'
capture-held-Events-pins-settles κs a z z' e e' p q = p ∙ sym q

pub capture-events-start-settles : (κs : _) (a : _) (z z' : _) (e e' : _) → capture-events-start.Post κs a z e → capture-events-start.Post κs a z' e' → z ≡ z'
capture-events-start-settles κs a z z' e e' p q = p.0 ∙ sym q.0

pub capture-event-count-settles : (κs : _) (a : _) (z z' : _) (e e' : _) → capture-event-count.Post κs a z e → capture-event-count.Post κs a z' e' → z ≡ z'
capture-event-count-settles κs a z z' e e' p q = p ∙ sym q

pub capture-settings-in-settles : (κs : _) (a : _) (z z' : _) (e e' : _) → capture-settings-in.Post κs a z e → capture-settings-in.Post κs a z' e' → z ≡ z'
capture-settings-in-settles κs a z z' e e' p q = p ∙ sym q

pub capture-event-bytes-settles : (κs : _) (a : _) (z z' : _) (e e' : _) → capture-event-bytes.Post κs a z e → capture-event-bytes.Post κs a z' e' → z.now ≡ z'.now
capture-event-bytes-settles κs a z z' e e' p q = p ∙ sym q

pub capture-cycle-at-settles : (κs : _) (a : _) (z z' : _) (e e' : _) → capture-cycle-at.Post κs a z e → capture-cycle-at.Post κs a z' e' → z ≡ z'
capture-cycle-at-settles κs a z z' e e' p q = p ∙ sym q

pub capture-pins-at-settles : (κs : _) (a : _) (z z' : _) (e e' : _) → capture-pins-at.Post κs a z e → capture-pins-at.Post κs a z' e' → z ≡ z'
capture-pins-at-settles κs a z z' e e' p q = p ∙ sym q

pub capture-open-to-settles : (κs : _) (a : _) (z z' : _) (e e' : _) → capture-open-to.Post κs a z e → capture-open-to.Post κs a z' e' → finding.seen z ≡ finding.seen z'
capture-open-to-settles κs a z z' e e' p q = finding.seen-one _ _ z z' p.0 p.1 q.0 q.1

pub capture-open-settles : (κs : _) (a : _) (z z' : _) (e e' : _) → capture-open.Post κs a z e → capture-open.Post κs a z' e' → finding.seen z ≡ finding.seen z'
capture-open-settles κs a z z' e e' p q = finding.seen-one _ _ z z' p.0 p.1 q.0 q.1

-- ---- pins

pub pins-code-settles : (κs : _) (a : _) (z z' : _) (e e' : _) → pins-code.Post κs a z e → pins-code.Post κs a z' e' → z ≡ z'
pins-code-settles κs a z z' e e' p q = p ∙ sym q

pub pins-wide-code-settles : (κs : _) (a : _) (z z' : _) (e e' : _) → pins-wide-code.Post κs a z e → pins-wide-code.Post κs a z' e' → z ≡ z'
pins-wide-code-settles κs a z z' e e' p q = p ∙ sym q

pub pins-bank-settles : (κs : _) (a : _) (z z' : _) (e e' : _) → pins-bank.Post κs a z e → pins-bank.Post κs a z' e' → z ≡ z'
pins-bank-settles κs a z z' e e' p q = p.0 ∙ sym q.0

pub pins-address-settles : (κs : _) (a : _) (z z' : _) (e e' : _) → pins-address.Post κs a z e → pins-address.Post κs a z' e' → z ≡ z'
pins-address-settles κs a z z' e e' p q = p.0 ∙ sym q.0

pub pins-ten-settles : (κs : _) (a : _) (z z' : _) (e e' : _) → pins-ten.Post κs a z e → pins-ten.Post κs a z' e' → z ≡ z'
pins-ten-settles κs a z z' e e' p q = p ∙ sym q

pub pins-low-settles : (κs : _) (a : _) (z z' : _) (e e' : _) → pins-low.Post κs a z e → pins-low.Post κs a z' e' → z ≡ z'
pins-low-settles κs a z z' e e' p q = p ∙ sym q

pub pins-gives-burst-settles : (κs : _) (a : _) (z z' : _) (e e' : _) → pins-gives-burst.Post κs a z e → pins-gives-burst.Post κs a z' e' → z ≡ z'
pins-gives-burst-settles κs a z z' e e' p q = p ∙ sym q

-- ---- deadlines

pub deadlines-banks-all-idle-settles : (κs : _) (a : _) (z z' : _) (e e' : _) → deadlines-banks-all-idle.Post κs a z e → deadlines-banks-all-idle.Post κs a z' e' → z ≡ z'
deadlines-banks-all-idle-settles κs a z z' e e' p q = p ∙ sym q

pub deadlines-clock-overdue-from-settles : (κs : _) (a : _) (z z' : _) (e e' : _) → deadlines-clock-overdue-from.Post κs a z e → deadlines-clock-overdue-from.Post κs a z' e' → z ≡ z'
deadlines-clock-overdue-from-settles κs a z z' e e' p q = p ∙ sym q

pub deadlines-clock-overdue-after-settles : (κs : _) (a : _) (z z' : _) (e e' : _) → deadlines-clock-overdue-after.Post κs a z e → deadlines-clock-overdue-after.Post κs a z' e' → z ≡ z'
deadlines-clock-overdue-after-settles κs a z z' e e' p q = p ∙ sym q

pub deadlines-sums-past-settles : (κs : _) (a : _) (z z' : _) (e e' : _) → deadlines-sums-past.Post κs a z e → deadlines-sums-past.Post κs a z' e' → z ≡ z'
deadlines-sums-past-settles κs a z z' e e' p q = p ∙ sym q

pub deadlines-sums-after-settles : (κs : _) (a : _) (z z' : _) (e e' : _) → deadlines-sums-after.Post κs a z e → deadlines-sums-after.Post κs a z' e' → z ≡ z'
deadlines-sums-after-settles κs a z z' e e' p q = p ∙ sym q

pub deadlines-sums-after2-settles : (κs : _) (a : _) (z z' : _) (e e' : _) → deadlines-sums-after2.Post κs a z e → deadlines-sums-after2.Post κs a z' e' → z ≡ z'
deadlines-sums-after2-settles κs a z z' e e' p q = p ∙ sym q

pub deadlines-sums-data-after-settles : (κs : _) (a : _) (z z' : _) (e e' : _) → deadlines-sums-data-after.Post κs a z e → deadlines-sums-data-after.Post κs a z' e' → z ≡ z'
deadlines-sums-data-after-settles κs a z z' e e' p q = p ∙ sym q

pub deadlines-sums-data-after2-settles : (κs : _) (a : _) (z z' : _) (e e' : _) → deadlines-sums-data-after2.Post κs a z e → deadlines-sums-data-after2.Post κs a z' e' → z ≡ z'
deadlines-sums-data-after2-settles κs a z z' e e' p q = p ∙ sym q

pub deadlines-sums-least-settles : (κs : _) (a : _) (z z' : _) (e e' : _) → deadlines-sums-least.Post κs a z e → deadlines-sums-least.Post κs a z' e' → z ≡ z'
deadlines-sums-least-settles κs a z z' e e' p q = p ∙ sym q

pub deadlines-sums-latest-settles : (κs : _) (a : _) (z z' : _) (e e' : _) → deadlines-sums-latest.Post κs a z e → deadlines-sums-latest.Post κs a z' e' → z ≡ z'
deadlines-sums-latest-settles κs a z z' e e' p q = p ∙ sym q

pub deadlines-sums-pick-settles : (κs : _) (a : _) (z z' : _) (e e' : _) → deadlines-sums-pick.Post κs a z e → deadlines-sums-pick.Post κs a z' e' → z ≡ z'
deadlines-sums-pick-settles κs a z z' e e' p q = p ∙ sym q

pub deadlines-sums-pace-settles : (κs : _) (a : _) (z z' : _) (e e' : _) → deadlines-sums-pace.Post κs a z e → deadlines-sums-pace.Post κs a z' e' → z ≡ z'
deadlines-sums-pace-settles κs a z z' e e' p q = p ∙ sym q

pub deadlines-sums-rows-settles : (κs : _) (a : _) (z z' : _) (e e' : _) → deadlines-sums-rows.Post κs a z e → deadlines-sums-rows.Post κs a z' e' → z ≡ z'
deadlines-sums-rows-settles κs a z z' e e' p q = p ∙ sym q

-- ---- rules

pub rules-Rule-number-settles : (κs : _) (a : _) (z z' : _) (e e' : _) → rules-Rule-number.Post κs a z e → rules-Rule-number.Post κs a z' e' → z ≡ z'
rules-Rule-number-settles κs a z z' e e' p q = p ∙ sym q

pub rules-active-breaks-settles : (κs : _) (a : _) (z z' : _) (e e' : _) → rules-active-breaks.Post κs a z e → rules-active-breaks.Post κs a z' e' → z ≡ z'
rules-active-breaks-settles κs a z z' e e' p q = rules.one_answer z z' (p ∙ sym q)

pub rules-read-breaks-settles : (κs : _) (a : _) (z z' : _) (e e' : _) → rules-read-breaks.Post κs a z e → rules-read-breaks.Post κs a z' e' → z ≡ z'
rules-read-breaks-settles κs a z z' e e' p q = rules.one_answer z z' (p ∙ sym q)

pub rules-write-breaks-settles : (κs : _) (a : _) (z z' : _) (e e' : _) → rules-write-breaks.Post κs a z e → rules-write-breaks.Post κs a z' e' → z ≡ z'
rules-write-breaks-settles κs a z z' e e' p q = rules.one_answer z z' (p ∙ sym q)

pub rules-terminate-breaks-settles : (κs : _) (a : _) (z z' : _) (e e' : _) → rules-terminate-breaks.Post κs a z e → rules-terminate-breaks.Post κs a z' e' → z ≡ z'
rules-terminate-breaks-settles κs a z z' e e' p q = rules.one_answer z z' (p ∙ sym q)

pub rules-close-breaks-settles : (κs : _) (a : _) (z z' : _) (e e' : _) → rules-close-breaks.Post κs a z e → rules-close-breaks.Post κs a z' e' → z ≡ z'
rules-close-breaks-settles κs a z z' e e' p q = rules.one_answer z z' (p ∙ sym q)

pub rules-close-all-breaks-settles : (κs : _) (a : _) (z z' : _) (e e' : _) → rules-close-all-breaks.Post κs a z e → rules-close-all-breaks.Post κs a z' e' → z ≡ z'
rules-close-all-breaks-settles κs a z z' e e' p q = rules.one_answer z z' (p ∙ sym q)

pub rules-refresh-breaks-settles : (κs : _) (a : _) (z z' : _) (e e' : _) → rules-refresh-breaks.Post κs a z e → rules-refresh-breaks.Post κs a z' e' → z ≡ z'
rules-refresh-breaks-settles κs a z z' e e' p q = rules.one_answer z z' (p ∙ sym q)

pub rules-mode-breaks-settles : (κs : _) (a : _) (z z' : _) (e e' : _) → rules-mode-breaks.Post κs a z e → rules-mode-breaks.Post κs a z' e' → z ≡ z'
rules-mode-breaks-settles κs a z z' e e' p q = rules.one_answer z z' (p ∙ sym q)

pub rules-enter-breaks-settles : (κs : _) (a : _) (z z' : _) (e e' : _) → rules-enter-breaks.Post κs a z e → rules-enter-breaks.Post κs a z' e' → z ≡ z'
rules-enter-breaks-settles κs a z z' e e' p q = rules.one_answer z z' (p ∙ sym q)

pub rules-self-breaks-settles : (κs : _) (a : _) (z z' : _) (e e' : _) → rules-self-breaks.Post κs a z e → rules-self-breaks.Post κs a z' e' → z ≡ z'
rules-self-breaks-settles κs a z z' e e' p q = rules.one_answer z z' (p ∙ sym q)

-- ---- effects

pub effects-active-after-settles : (κs : _) (a : _) (z z' : _) (e e' : _) → effects-active-after.Post κs a z e → effects-active-after.Post κs a z' e' → e.1.0.now ≡ e'.1.0.now
effects-active-after-settles κs a z z' e e' p q = p ∙ sym q

pub effects-read-after-settles : (κs : _) (a : _) (z z' : _) (e e' : _) → effects-read-after.Post κs a z e → effects-read-after.Post κs a z' e' → e.1.0.now ≡ e'.1.0.now
effects-read-after-settles κs a z z' e e' p q = p ∙ sym q

pub effects-write-after-settles : (κs : _) (a : _) (z z' : _) (e e' : _) → effects-write-after.Post κs a z e → effects-write-after.Post κs a z' e' → e.1.0.now ≡ e'.1.0.now
effects-write-after-settles κs a z z' e e' p q = p ∙ sym q

pub effects-cut-read-settles : (κs : _) (a : _) (z z' : _) (e e' : _) → effects-cut-read.Post κs a z e → effects-cut-read.Post κs a z' e' → e.0.now ≡ e'.0.now
effects-cut-read-settles κs a z z' e e' p q = p ∙ sym q

pub effects-close-after-settles : (κs : _) (a : _) (z z' : _) (e e' : _) → effects-close-after.Post κs a z e → effects-close-after.Post κs a z' e' → e.1.0.now ≡ e'.1.0.now
effects-close-after-settles κs a z z' e e' p q = p ∙ sym q

pub effects-close-all-after-settles : (κs : _) (a : _) (z z' : _) (e e' : _) → effects-close-all-after.Post κs a z e → effects-close-all-after.Post κs a z' e' → e.1.0.now ≡ e'.1.0.now
effects-close-all-after-settles κs a z z' e e' p q = p ∙ sym q

pub effects-refresh-after-settles : (κs : _) (a : _) (z z' : _) (e e' : _) → effects-refresh-after.Post κs a z e → effects-refresh-after.Post κs a z' e' → e.1.0.now ≡ e'.1.0.now
effects-refresh-after-settles κs a z z' e e' p q = p ∙ sym q

pub effects-mode-set-after-settles : (κs : _) (a : _) (z z' : _) (e e' : _) → effects-mode-set-after.Post κs a z e → effects-mode-set-after.Post κs a z' e' → e.1.0.now ≡ e'.1.0.now
effects-mode-set-after-settles κs a z z' e e' p q = p ∙ sym q

pub effects-enter-after-settles : (κs : _) (a : _) (z z' : _) (e e' : _) → effects-enter-after.Post κs a z e → effects-enter-after.Post κs a z' e' → e.0.now ≡ e'.0.now
effects-enter-after-settles κs a z z' e e' p q = p ∙ sym q

pub effects-self-after-settles : (κs : _) (a : _) (z z' : _) (e e' : _) → effects-self-after.Post κs a z e → effects-self-after.Post κs a z' e' → e.0.now ≡ e'.0.now
effects-self-after-settles κs a z z' e e' p q = p ∙ sym q

pub effects-leave-after-settles : (κs : _) (a : _) (z z' : _) (e e' : _) → effects-leave-after.Post κs a z e → effects-leave-after.Post κs a z' e' → e.1.0.now ≡ e'.1.0.now
effects-leave-after-settles κs a z z' e e' p q = p ∙ sym q

pub effects-start-settles : (κs : _) (a : _) (z z' : _) (e e' : _) → effects-start.Post κs a z e → effects-start.Post κs a z' e' → z ≡ z'
effects-start-settles κs a z z' e e' p q = p ∙ sym q

-- ---- part

pub part-step-settles : (κs : _) (a : _) (z z' : _) (e e' : _) → part-step.Post κs a z e → part-step.Post κs a z' e' → (z ≡ z') × ((e.1.0.now ≡ e'.1.0.now) × (e.1.1.0.now ≡ e'.1.1.0.now))
part-step-settles κs a z z' e e' p q = (part.one_answer z z' (p.0 ∙ sym q.0), (p.1.0 ∙ sym q.1.0, p.1.1 ∙ sym q.1.1))

-- ---- judge

pub judge-walk-settles : (κs : _) (a : _) (z z' : _) (e e' : _) → judge-walk.Post κs a z e → judge-walk.Post κs a z' e' → (z ≡ z') × ((e.1.0.now ≡ e'.1.0.now) × (e.1.1.0.now ≡ e'.1.1.0.now))
judge-walk-settles κs a z z' e e' p q = (judge.one_report z z' (p.0 ∙ sym q.0), (p.1.0 ∙ sym q.1.0, p.1.1 ∙ sym q.1.1))

pub judge-judge-to-settles : (κs : _) (a : _) (z z' : _) (e e' : _) → judge-judge-to.Post κs a z e → judge-judge-to.Post κs a z' e' → z ≡ z'
judge-judge-to-settles κs a z z' e e' p q = judging.one-answer-to a.1.0 a.0.now z z' p q

pub judge-judge-settles : (κs : _) (a : _) (z z' : _) (e e' : _) → judge-judge.Post κs a z e → judge-judge.Post κs a z' e' → z ≡ z'
judge-judge-settles κs a z z' e e' p q = judging.one_answer a.0.now z z' p q

-- ---- hidden

pub hidden-blank-settles : (κs : _) (a : _) (z z' : _) (e e' : _) → hidden-blank.Post κs a z e → hidden-blank.Post κs a z' e' → (z ≡ z') × (e.1.0.now ≡ e'.1.0.now)
hidden-blank-settles κs a z z' e e' p q = (refusal.one_count z z' (p.0 ∙ sym q.0), p.1 ∙ sym q.1)

-- ---- exports

pub exports-read-settles : (κs : _) (a : _) (z z' : _) (e e' : _) → exports-read.Post κs a z e → exports-read.Post κs a z' e' → (z ≡ z') × (e.1.1.1.0.now ≡ e'.1.1.1.0.now)
exports-read-settles κs a z z' e e' p q = (refusal.one_count z z' (p.0 ∙ sym q.0), p.1 ∙ sym q.1)

pub exports-write-settles : (κs : _) (a : _) (z z' : _) (e e' : _) → exports-write.Post κs a z e → exports-write.Post κs a z' e' → (z ≡ z') × (e.1.0.now ≡ e'.1.0.now)
exports-write-settles κs a z z' e e' p q = (refusal.one_count z z' (p.0 ∙ sym q.0), p.1 ∙ sym q.1)

-- ---- beats

pub beats-shuts-bank-settles : (κs : _) (a : _) (z z' : _) (e e' : _) → beats-shuts-bank.Post κs a z e → beats-shuts-bank.Post κs a z' e' → z ≡ z'
beats-shuts-bank-settles κs a z z' e e' p q = p ∙ sym q

pub beats-mode-after-settles : (κs : _) (a : _) (z z' : _) (e e' : _) → beats-mode-after.Post κs a z e → beats-mode-after.Post κs a z' e' → z ≡ z'
beats-mode-after-settles κs a z z' e e' p q = p ∙ sym q

pub beats-column-settles : (κs : _) (a : _) (z z' : _) (e e' : _) → beats-column.Post κs a z e → beats-column.Post κs a z' e' → z ≡ z'
beats-column-settles κs a z z' e e' p q = p ∙ sym q

pub beats-first-cell-settles : (κs : _) (a : _) (z z' : _) (e e' : _) → beats-first-cell.Post κs a z e → beats-first-cell.Post κs a z' e' → z ≡ z'
beats-first-cell-settles κs a z z' e e' p q = p ∙ sym q

pub beats-first-cells-settles : (κs : _) (a : _) (z z' : _) (e e' : _) → beats-first-cells.Post κs a z e → beats-first-cells.Post κs a z' e' → z ≡ z'
beats-first-cells-settles κs a z z' e e' p q = p ∙ sym q

pub beats-open-row-settles : (κs : _) (a : _) (z z' : _) (e e' : _) → beats-open-row.Post κs a z e → beats-open-row.Post κs a z' e' → e.1.0.now ≡ e'.1.0.now
beats-open-row-settles κs a z z' e e' p q = p ∙ sym q

pub beats-Burst-write-settles : (κs : _) (a : _) (z z' : _) (e e' : _) → beats-Burst-write.Post κs a z e → beats-Burst-write.Post κs a z' e' → e.1.0.now ≡ e'.1.0.now
beats-Burst-write-settles κs a z z' e e' p q = p ∙ sym q

pub beats-Burst-cell-settles : (κs : _) (a : _) (z z' : _) (e e' : _) → beats-Burst-cell.Post κs a z e → beats-Burst-cell.Post κs a z' e' → z ≡ z'
beats-Burst-cell-settles κs a z z' e e' p q = p ∙ sym q

pub beats-beat-cell-settles : (κs : _) (a : _) (z z' : _) (e e' : _) → beats-beat-cell.Post κs a z e → beats-beat-cell.Post κs a z' e' → z ≡ z'
beats-beat-cell-settles κs a z z' e e' p q = p ∙ sym q

pub beats-interruptible-settles : (κs : _) (a : _) (z z' : _) (e e' : _) → beats-interruptible.Post κs a z e → beats-interruptible.Post κs a z' e' → z ≡ z'
beats-interruptible-settles κs a z z' e e' p q = p ∙ sym q

pub beats-interrupted-settles : (κs : _) (a : _) (z z' : _) (e e' : _) → beats-interrupted.Post κs a z e → beats-interrupted.Post κs a z' e' → z ≡ z'
beats-interrupted-settles κs a z z' e e' p q = p ∙ sym q

pub beats-kept-settles : (κs : _) (a : _) (z z' : _) (e e' : _) → beats-kept.Post κs a z e → beats-kept.Post κs a z' e' → z ≡ z'
beats-kept-settles κs a z z' e e' p q = p ∙ sym q

-- ---- cells

pub cells-passed-settles : (κs : _) (a : _) (z z' : _) (e e' : _) → cells-passed.Post κs a z e → cells-passed.Post κs a z' e' → e.1.1.1.0.now ≡ e'.1.1.1.0.now
cells-passed-settles κs a z z' e e' p q = cells.one-state e.1.1.1.0.now e'.1.1.1.0.now p q

pub cells-held-Clean-judged-settles : (κs : _) (a : _) (z z' : _) (e e' : _) → cells-held-Clean-judged.Post κs a z e → cells-held-Clean-judged.Post κs a z' e' → finding.held z.opened ≡ finding.held z'.opened
cells-held-Clean-judged-settles κs a z z' e e' p q = finding.held-one _ z.opened z'.opened p q

pub cells-held-Clean-start-settles : (κs : _) (a : _) (z z' : _) (e e' : _) → cells-held-Clean-start.Post κs a z e → cells-held-Clean-start.Post κs a z' e' → z ≡ z'
cells-held-Clean-start-settles κs a z z' e e' p q = cells.one-state z z' p q

pub cells-held-Clean-burst-at-settles : (κs : _) (a : _) (z z' : _) (e e' : _) → cells-held-Clean-burst-at.Post κs a z e → cells-held-Clean-burst-at.Post κs a z' e' → z ≡ z'
cells-held-Clean-burst-at-settles κs a z z' e e' p q = cells.one-given z z' (p ∙ sym q)

pub cells-held-Clean-kept-beats-settles : (κs : _) (a : _) (z z' : _) (e e' : _) → cells-held-Clean-kept-beats.Post κs a z e → cells-held-Clean-kept-beats.Post κs a z' e' → z ≡ z'
cells-held-Clean-kept-beats-settles κs a z z' e e' p q = cells.one-count z z' (p.0 ∙ sym q.0) (p.1 ∙ sym q.1)

pub cells-burst-cells-settles : (κs : _) (a : _) (z z' : _) (e e' : _) → cells-burst-cells.Post κs a z e → cells-burst-cells.Post κs a z' e' → (z ≡ z') × (e.1.0.now ≡ e'.1.0.now)
cells-burst-cells-settles κs a z z' e e' p q = (refusal.one_count z z' (p.0 ∙ sym q.0), p.1 ∙ sym q.1)

-- ---- browser

pub browser-event-at-settles : (κs : _) (a : _) (z z' : _) (e e' : _) → browser-event-at.Post κs a z e → browser-event-at.Post κs a z' e' → z ≡ z'
browser-event-at-settles κs a z z' e e' p q = p ∙ sym q

-- ---- rows

pub rows-stands-settles : (κs : _) (a : _) (z z' : _) (e e' : _) → rows-stands.Post κs a z e → rows-stands.Post κs a z' e' → z ≡ z'
rows-stands-settles κs a z z' e e' p q = p ∙ sym q

pub rows-write-settles : (κs : _) (a : _) (z z' : _) (e e' : _) → rows-write.Post κs a z e → rows-write.Post κs a z' e' → e.1.1.0.now ≡ e'.1.1.0.now
rows-write-settles κs a z z' e e' p q = p ∙ sym q

-- ---- asking

pub asking-open-row-settles : (κs : _) (a : _) (z z' : _) (e e' : _) → asking-open-row.Post κs a z e → asking-open-row.Post κs a z' e' → (z ≡ z') × (e.1.1.1.1.0.now ≡ e'.1.1.1.1.0.now)
asking-open-row-settles κs a z z' e e' p q = (banks.one_told z z' (p.0 ∙ sym q.0), p.1 ∙ sym q.1)

-- ---- player

pub player-play-settles : (κs : _) (a : _) (z z' : _) (e e' : _) → player-play.Post κs a z e → player-play.Post κs a z' e' → (z ≡ z') × ((e.1.1.0.now ≡ e'.1.1.0.now) × (e.1.1.1.1.0.now ≡ e'.1.1.1.1.0.now))
player-play-settles κs a z z' e e' p q = (refusal.one_count z z' (p.0 ∙ sym q.0), (p.1.0 ∙ sym q.1.0, p.1.1 ∙ sym q.1.1))

-- ---- monthly

pub monthly-wanted-settles : (κs : _) (a : _) (z z' : _) (e e' : _) → monthly-wanted.Post κs a z e → monthly-wanted.Post κs a z' e' → z ≡ z'
monthly-wanted-settles κs a z z' e e' p q = p.0 ∙ sym q.0

pub monthly-ends-settles : (κs : _) (a : _) (z z' : _) (e e' : _) → monthly-ends.Post κs a z e → monthly-ends.Post κs a z' e' → z ≡ z'
monthly-ends-settles κs a z z' e e' p q = p ∙ sym q

pub monthly-told-settles : (κs : _) (a : _) (z z' : _) (e e' : _) → monthly-told.Post κs a z e → monthly-told.Post κs a z' e' → z ≡ z'
monthly-told-settles κs a z z' e e' p q = monthly.one_line z z' (p ∙ sym q)

pub monthly-tally-settles : (κs : _) (a : _) (z z' : _) (e e' : _) → monthly-tally.Post κs a z e → monthly-tally.Post κs a z' e' → z ≡ z'
monthly-tally-settles κs a z z' e e' p q = p ∙ sym q

pub monthly-nothing-settles : (κs : _) (a : _) (z z' : _) (e e' : _) → monthly-nothing.Post κs a z e → monthly-nothing.Post κs a z' e' → z ≡ z'
monthly-nothing-settles κs a z z' e e' p q = monthly.one-sum z z' (p.0 ∙ sym q.0)

pub monthly-has-room-settles : (κs : _) (a : _) (z z' : _) (e e' : _) → monthly-has-room.Post κs a z e → monthly-has-room.Post κs a z' e' → z ≡ z'
monthly-has-room-settles κs a z z' e e' p q = p ∙ sym q

pub monthly-add-settles : (κs : _) (a : _) (z z' : _) (e e' : _) → monthly-add.Post κs a z e → monthly-add.Post κs a z' e' → z ≡ z'
monthly-add-settles κs a z z' e e' p q = monthly.one-sum z z' (p.0 ∙ sym q.0)

pub monthly-beats-settles : (κs : _) (a : _) (z z' : _) (e e' : _) → monthly-beats.Post κs a z e → monthly-beats.Post κs a z' e' → z ≡ z'
monthly-beats-settles κs a z z' e e' p q = p ∙ sym q

-- ---- requests

pub requests-asks-write-settles : (κs : _) (a : _) (z z' : _) (e e' : _) → requests-asks-write.Post κs a z e → requests-asks-write.Post κs a z' e' → z ≡ z'
requests-asks-write-settles κs a z z' e e' p q = p ∙ sym q

pub requests-bank-settles : (κs : _) (a : _) (z z' : _) (e e' : _) → requests-bank.Post κs a z e → requests-bank.Post κs a z' e' → z ≡ z'
requests-bank-settles κs a z z' e e' p q = p ∙ sym q

pub requests-row-settles : (κs : _) (a : _) (z z' : _) (e e' : _) → requests-row.Post κs a z e → requests-row.Post κs a z' e' → z ≡ z'
requests-row-settles κs a z z' e e' p q = p.0 ∙ sym q.0

pub requests-active-pins-settles : (κs : _) (a : _) (z z' : _) (e e' : _) → requests-active-pins.Post κs a z e → requests-active-pins.Post κs a z' e' → z ≡ z'
requests-active-pins-settles κs a z z' e e' p q = p ∙ sym q

pub requests-close-pins-settles : (κs : _) (a : _) (z z' : _) (e e' : _) → requests-close-pins.Post κs a z e → requests-close-pins.Post κs a z' e' → z ≡ z'
requests-close-pins-settles κs a z z' e e' p q = p ∙ sym q

pub requests-burst-pins-settles : (κs : _) (a : _) (z z' : _) (e e' : _) → requests-burst-pins.Post κs a z e → requests-burst-pins.Post κs a z' e' → z ≡ z'
requests-burst-pins-settles κs a z z' e e' p q = p ∙ sym q

pub requests-lowest-bad-settles : (κs : _) (a : _) (z z' : _) (e e' : _) → requests-lowest-bad.Post κs a z e → requests-lowest-bad.Post κs a z' e' → z ≡ z'
requests-lowest-bad-settles κs a z z' e e' p q = finding.found-one z z' (p ∙ sym q)

-- ---- soonest

pub soonest-active-settles : (κs : _) (a : _) (z z' : _) (e e' : _) → soonest-active.Post κs a z e → soonest-active.Post κs a z' e' → z ≡ z'
soonest-active-settles κs a z z' e e' p q = p ∙ sym q

pub soonest-burst-settles : (κs : _) (a : _) (z z' : _) (e e' : _) → soonest-burst.Post κs a z e → soonest-burst.Post κs a z' e' → z ≡ z'
soonest-burst-settles κs a z z' e e' p q = p ∙ sym q

pub soonest-close-settles : (κs : _) (a : _) (z z' : _) (e e' : _) → soonest-close.Post κs a z e → soonest-close.Post κs a z' e' → z ≡ z'
soonest-close-settles κs a z z' e e' p q = p ∙ sym q

pub soonest-close-all-settles : (κs : _) (a : _) (z z' : _) (e e' : _) → soonest-close-all.Post κs a z e → soonest-close-all.Post κs a z' e' → z ≡ z'
soonest-close-all-settles κs a z z' e e' p q = p ∙ sym q

pub soonest-refresh-settles : (κs : _) (a : _) (z z' : _) (e e' : _) → soonest-refresh.Post κs a z e → soonest-refresh.Post κs a z' e' → z ≡ z'
soonest-refresh-settles κs a z z' e e' p q = p ∙ sym q

-- ---- drafts

pub drafts-cycle-for-settles : (κs : _) (a : _) (z z' : _) (e e' : _) → drafts-cycle-for.Post κs a z e → drafts-cycle-for.Post κs a z' e' → z ≡ z'
drafts-cycle-for-settles κs a z z' e e' p q = p ∙ sym q

pub drafts-Scheduler-activate-settles : (κs : _) (a : _) (z z' : _) (e e' : _) → drafts-Scheduler-activate.Post κs a z e → drafts-Scheduler-activate.Post κs a z' e' → (e.1.0.now ≡ e'.1.0.now) × (e.1.1.0.now ≡ e'.1.1.0.now)
drafts-Scheduler-activate-settles κs a z z' e e' p q = drafts.one-draft (p ∙ sym q)

pub drafts-Scheduler-close-settles : (κs : _) (a : _) (z z' : _) (e e' : _) → drafts-Scheduler-close.Post κs a z e → drafts-Scheduler-close.Post κs a z' e' → (e.1.0.now ≡ e'.1.0.now) × (e.1.1.0.now ≡ e'.1.1.0.now)
drafts-Scheduler-close-settles κs a z z' e e' p q = drafts.one-draft (p ∙ sym q)

pub drafts-Scheduler-burst-settles : (κs : _) (a : _) (z z' : _) (e e' : _) → drafts-Scheduler-burst.Post κs a z e → drafts-Scheduler-burst.Post κs a z' e' → (e.1.0.now ≡ e'.1.0.now) × (e.1.1.0.now ≡ e'.1.1.0.now)
drafts-Scheduler-burst-settles κs a z z' e e' p q = drafts.one-draft (p ∙ sym q)

pub drafts-Scheduler-close-all-settles : (κs : _) (a : _) (z z' : _) (e e' : _) → drafts-Scheduler-close-all.Post κs a z e → drafts-Scheduler-close-all.Post κs a z' e' → (e.1.0.now ≡ e'.1.0.now) × (e.1.1.0.now ≡ e'.1.1.0.now)
drafts-Scheduler-close-all-settles κs a z z' e e' p q = drafts.one-draft (p ∙ sym q)

pub drafts-Scheduler-refresh-settles : (κs : _) (a : _) (z z' : _) (e e' : _) → drafts-Scheduler-refresh.Post κs a z e → drafts-Scheduler-refresh.Post κs a z' e' → (e.1.0.now ≡ e'.1.0.now) × (e.1.1.0.now ≡ e'.1.1.0.now)
drafts-Scheduler-refresh-settles κs a z z' e e' p q = drafts.one-draft (p ∙ sym q)

-- ---- serving

pub serving-margin-settles : (κs : _) (a : _) (z z' : _) (e e' : _) → serving-margin.Post κs a z e → serving-margin.Post κs a z' e' → z ≡ z'
serving-margin-settles κs a z z' e e' p q = p ∙ sym q

pub serving-serve-settles : (κs : _) (a : _) (z z' : _) (e e' : _) → serving-serve.Post κs a z e → serving-serve.Post κs a z' e' → (z ≡ z') × ((e.1.0.now ≡ e'.1.0.now) × ((e.1.1.0.now ≡ e'.1.1.0.now) × (e.1.1.1.0.now ≡ e'.1.1.1.0.now)))
serving-serve-settles κs a z z' e e' p q = (serving.one_answer z z' (p.0 ∙ sym q.0), serving.one-turn (p.1.0 ∙ sym q.1.0) (p.1.1 ∙ sym q.1.1))

-- ---- schedule

pub schedule-schedule-settles : (κs : _) (a : _) (z z' : _) (e e' : _) → schedule-schedule.Post κs a z e → schedule-schedule.Post κs a z' e' → (z ≡ z') × (e.1.1.1.0.now ≡ e'.1.1.1.0.now)
schedule-schedule-settles κs a z z' e e' p q = (refusal.one_count z z' (p.0 ∙ sym q.0), p.1 ∙ sym q.1)

-- ---- version

pub version-number-settles : (κs : _) (a : _) (z z' : _) (e e' : _) → version-number.Post κs a z e → version-number.Post κs a z' e' → z ≡ z'
version-number-settles κs a z z' e e' p q = p ∙ sym q

-- ---- morgazell

pub morgazell-morgazell-judge-settles : (κs : _) (a : _) (z z' : _) (e e' : _) → morgazell-morgazell-judge.Post κs a z e → morgazell-morgazell-judge.Post κs a z' e' → z ≡ z'
morgazell-morgazell-judge-settles κs a z z' e e' p q = p ∙ sym q

pub morgazell-morgazell-recording-settles : (κs : _) (a : _) (z z' : _) (e e' : _) → morgazell-morgazell-recording.Post κs a z e → morgazell-morgazell-recording.Post κs a z' e' → z ≡ z'
morgazell-morgazell-recording-settles κs a z z' e e' p q = p ∙ sym q

pub morgazell-morgazell-cells-settles : (κs : _) (a : _) (z z' : _) (e e' : _) → morgazell-morgazell-cells.Post κs a z e → morgazell-morgazell-cells.Post κs a z' e' → (z ≡ z') × (e.1.0.now ≡ e'.1.0.now)
morgazell-morgazell-cells-settles κs a z z' e e' p q = (p.0 ∙ sym q.0, p.1 ∙ sym q.1)

pub morgazell-morgazell-schedule-settles : (κs : _) (a : _) (z z' : _) (e e' : _) → morgazell-morgazell-schedule.Post κs a z e → morgazell-morgazell-schedule.Post κs a z' e' → (z ≡ z') × (e.1.1.1.0.now ≡ e'.1.1.1.0.now)
morgazell-morgazell-schedule-settles κs a z z' e e' p q = (p.0 ∙ sym q.0, p.1 ∙ sym q.1)

pub morgazell-morgazell-blank-settles : (κs : _) (a : _) (z z' : _) (e e' : _) → morgazell-morgazell-blank.Post κs a z e → morgazell-morgazell-blank.Post κs a z' e' → (z ≡ z') × (e.1.0.now ≡ e'.1.0.now)
morgazell-morgazell-blank-settles κs a z z' e e' p q = (p.0 ∙ sym q.0, p.1 ∙ sym q.1)

pub morgazell-morgazell-read-export-settles : (κs : _) (a : _) (z z' : _) (e e' : _) → morgazell-morgazell-read-export.Post κs a z e → morgazell-morgazell-read-export.Post κs a z' e' → (z ≡ z') × (e.1.1.1.0.now ≡ e'.1.1.1.0.now)
morgazell-morgazell-read-export-settles κs a z z' e e' p q = (p.0 ∙ sym q.0, p.1 ∙ sym q.1)

pub morgazell-morgazell-write-export-settles : (κs : _) (a : _) (z z' : _) (e e' : _) → morgazell-morgazell-write-export.Post κs a z e → morgazell-morgazell-write-export.Post κs a z' e' → (z ≡ z') × (e.1.0.now ≡ e'.1.0.now)
morgazell-morgazell-write-export-settles κs a z z' e e' p q = (p.0 ∙ sym q.0, p.1 ∙ sym q.1)

pub morgazell-morgazell-play-settles : (κs : _) (a : _) (z z' : _) (e e' : _) → morgazell-morgazell-play.Post κs a z e → morgazell-morgazell-play.Post κs a z' e' → (z ≡ z') × ((e.1.1.0.now ≡ e'.1.1.0.now) × (e.1.1.1.1.0.now ≡ e'.1.1.1.1.0.now))
morgazell-morgazell-play-settles κs a z z' e e' p q = (p.0 ∙ sym q.0, (p.1.0 ∙ sym q.1.0, p.1.1 ∙ sym q.1.1))

pub morgazell-morgazell-version-settles : (κs : _) (a : _) (z z' : _) (e e' : _) → morgazell-morgazell-version.Post κs a z e → morgazell-morgazell-version.Post κs a z' e' → z ≡ z'
morgazell-morgazell-version-settles κs a z z' e e' p q = p ∙ sym q

-- ---- wording

pub wording-values-settings-of-settles : (κs : _) (a : _) (z z' : _) (e e' : _) → wording-values-settings-of.Post κs a z e → wording-values-settings-of.Post κs a z' e' → z ≡ z'
wording-values-settings-of-settles κs a z z' e e' p q = p ∙ sym q

pub wording-values-sleeps-settles : (κs : _) (a : _) (z z' : _) (e e' : _) → wording-values-sleeps.Post κs a z e → wording-values-sleeps.Post κs a z' e' → z ≡ z'
wording-values-sleeps-settles κs a z z' e e' p q = p ∙ sym q

pub wording-values-newer-settles : (κs : _) (a : _) (z z' : _) (e e' : _) → wording-values-newer.Post κs a z e → wording-values-newer.Post κs a z' e' → z ≡ z'
wording-values-newer-settles κs a z z' e e' p q = p ∙ sym q

-- ---- trials

pub trials-store-settles : (κs : _) (a : _) (z z' : _) (e e' : _) → trials-store.Post κs a z e → trials-store.Post κs a z' e' → e.0.now ≡ e'.0.now
trials-store-settles κs a z z' e e' p q = p ∙ sym q

pub trials-store-settings-settles : (κs : _) (a : _) (z z' : _) (e e' : _) → trials-store-settings.Post κs a z e → trials-store-settings.Post κs a z' e' → e.0.now ≡ e'.0.now
trials-store-settings-settles κs a z z' e e' p q = p ∙ sym q

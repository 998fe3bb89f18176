use borrow.Author.Tests.{le-leb, lt-leb, eq-eqb, ne_eqb}
use Rattle.reading.specs.Capture.{header_fits_to}
use Rattle.capture.proofs.bad_header.Goals as goal

pub returns-then-word_at-count : goal.returns-then-word_at-count
unfolding header_fits_to
returns-then-word_at-count c = rw (← c.settings_count-count.ensures.value, ← c.word_at.ensures, ne_eqb _ _ c.if-word_at-count.true)

pub returns-then-word_at : goal.returns-then-word_at
unfolding header_fits_to
returns-then-word_at c = rw (← c.settings_count-count.ensures.value, ← c.word_at.ensures, eq-eqb _ _ c.if-word_at-count.false, ← c.word_at-2.ensures, ne_eqb _ _ c.if-word_at.true)

pub returns-then-most-n : goal.returns-then-most-n
unfolding header_fits_to
returns-then-most-n c = rw (
  ← c.settings_count-count.ensures.value,
  ← c.word_at.ensures,
  eq-eqb _ _ c.if-word_at-count.false,
  ← c.word_at-2.ensures,
  eq-eqb _ _ c.if-word_at.false,
  ← c.event_count-n.ensures,
  lt-leb _ _ c.if-most-n.true,
)

pub returns-then-word_at-start : goal.returns-then-word_at-start
unfolding header_fits_to
returns-then-word_at-start c = rw (
  ← c.settings_count-count.ensures.value,
  ← c.word_at.ensures,
  eq-eqb _ _ c.if-word_at-count.false,
  ← c.word_at-2.ensures,
  eq-eqb _ _ c.if-word_at.false,
  ← c.event_count-n.ensures,
  le-leb _ _ c.if-most-n.false,
  ← c.word_at-3.ensures,
  ne_eqb _ _ c.if-word_at-start.true,
)

pub returns-then-edition-gt-NEWEST_EDITION : goal.returns-then-edition-gt-NEWEST_EDITION
unfolding header_fits_to
returns-then-edition-gt-NEWEST_EDITION c = rw (
  ← c.settings_count-count.ensures.value,
  ← c.word_at.ensures,
  eq-eqb _ _ c.if-word_at-count.false,
  ← c.word_at-2.ensures,
  eq-eqb _ _ c.if-word_at.false,
  ← c.event_count-n.ensures,
  le-leb _ _ c.if-most-n.false,
  ← c.word_at-3.ensures,
  eq-eqb _ _ c.if-word_at-start.false,
  ← c.edition.ensures,
  lt-leb _ _ c.if-edition-gt-NEWEST_EDITION.true,
)

pub returns : goal.returns
unfolding header_fits_to
returns c = rw (
  ← c.settings_count-count.ensures.value,
  ← c.word_at.ensures,
  eq-eqb _ _ c.if-word_at-count.false,
  ← c.word_at-2.ensures,
  eq-eqb _ _ c.if-word_at.false,
  ← c.event_count-n.ensures,
  le-leb _ _ c.if-most-n.false,
  ← c.word_at-3.ensures,
  eq-eqb _ _ c.if-word_at-start.false,
  ← c.edition.ensures,
  le-leb _ _ c.if-edition-gt-NEWEST_EDITION.false,
  ← c.word_at-4.ensures,
  c.total.ensures,
)

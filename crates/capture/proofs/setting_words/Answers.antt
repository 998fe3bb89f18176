-- The invariant: with the words from i on stored too, all are there.
use native.Mathlib.Omega.{arith}
use Rattle.capture.proofs.Walks.{first-none, first-more, all-first}
use Rattle.capture.proofs.setting_words.Goals as goal

pub settings_count-n-requires : goal.settings_count-n-requires
settings_count-n-requires c = omega arith

pub loop-i-init : goal.loop-i-init
loop-i-init c = first-none c.settings_count-n.ensures.value (omega (arith, c.settings_count-n.ensures.lower_bound))

pub loop-i-preserved : goal.loop-i-preserved
loop-i-preserved c = first-more c.loop-i.invariant (omega (arith, c.loop-i.invariant.long)) c.word_at.ensures

pub returns : goal.returns
returns c = all-first c.loop-i.invariant (omega (arith, c.loop-i.invariant.long))

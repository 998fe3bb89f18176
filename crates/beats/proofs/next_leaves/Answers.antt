use mathlib.Core.Path.{◌∙◌}
use borrow.Author.Rules.{rules}
use Rattle.reading.specs.Settings.{settings_of}
use Rattle.pins.specs.Pins.{gives}
use Rattle.beats.proofs.Searching.{next-is}
use Rattle.beats.proofs.next_leaves.Goals as goal

pub returns-in_default : goal.returns-in_default
returns-in_default c = let a = c.args in
    next-is a.events.now a.i c.requires c.cycle-k.ensures (settings_of a.s.now) a.pairs c.data_after-reach.ensures
    (c.first_ahead.ensures gives (λ w r p. search rules)) c.in_default.is

pub returns : goal.returns
returns c = let a = c.args in
    c.left_by.ensures
    ∙ next-is a.events.now a.i c.requires c.cycle-k.ensures (settings_of a.s.now) a.pairs c.data_after-reach.ensures
    (c.first_ahead.ensures gives (λ w r p. search rules)) c.in-Some.is

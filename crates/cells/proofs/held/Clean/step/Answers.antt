use mathlib.Core.Path.{refl, ◌∙◌}
use native.Mathlib.Omega.{arith}
use Rattle.beats.specs.Kept.{at, behind}
use Rattle.beats.proofs.Looking.{kept-le}
use Rattle.cells.specs.Telling.{judged_by}
use Rattle.cells.proofs.Pairs.{pair-kept}
use Rattle.cells.proofs.Walked.{given_is}
use Rattle.cells.proofs.Stepping.{in_row, found_none, found}
use Rattle.cells.proofs.held.Clean.step.Goals as goal

pub returns-then-not-gives_burst : goal.returns-then-not-gives_burst
returns-then-not-gives_burst g c = let a = c.args in
    let x = a.self.now in
    let o = x.opened in
    found_none (judged_by x) o.events.bytes.now o.events.count a.i a.firsts.now a.mode
    c.pins-w.ensures c.gives_burst.ensures c.if-not-gives_burst.true
    ∙ given_is o.settings o.events.bytes.now o.events.count x.listable x.clean a.i c.requires.within c.requires.before

pub pairs-pairs-requires-clause-keeps_pair : goal.pairs-pairs-requires-clause-keeps_pair
pairs-pairs-requires-clause-keeps_pair g c = let a = c.args in
    let x = a.self.now in
    let o = x.opened in
    pair-kept o.settings o.events.bytes.now o.events.count x.listable x.clean a.i c.requires.within c.requires.before.moded

pub invariant_of-result : goal.invariant_of-result
invariant_of-result g c = let a = c.args in
    let x = a.self.now in
    let o = x.opened in
    record {
      in_row = in_row (judged_by x) o.events.bytes.now o.events.count a.i a.firsts.now a.mode c.pins-w.ensures
          x.listable.sized c.requires.before c.bank-bank.ensures.0 refl c.column.ensures
          (omega (arith, c.pairs-pairs.ensures, kept-le (judged_by x) a.mode (at o.events a.i) (behind o.events a.i)));
    }

pub returns : goal.returns
returns g c = let a = c.args in
    let x = a.self.now in
    let o = x.opened in
    found (judged_by x) o.events.bytes.now o.events.count a.i a.firsts.now a.mode c.pins-w.ensures c.gives_burst.ensures
    c.if-not-gives_burst.false c.code.ensures c.bank-bank.ensures.0 refl c.column.ensures c.pairs-pairs.ensures
    ∙ given_is o.settings o.events.bytes.now o.events.count x.listable x.clean a.i c.requires.within c.requires.before

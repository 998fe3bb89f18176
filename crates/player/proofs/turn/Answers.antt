use mathlib.Core.Path.{sym, ap, ◌∙◌}
use Rattle.cells.specs.Meaning.{given_means}
use Rattle.player.proofs.Given.{found, next-at}
use Rattle.player.proofs.turn.Goals as goal

pub passed-requires-clause-at : goal.passed-requires-clause-at
passed-requires-clause-at c = c.requires.before

pub returns : goal.returns
returns c = let a = c.args in
    let x = a.clean.now in
    let o = x.opened in
    let f = found o.settings o.events.bytes.now o.events.count a.i c.burst_at.ensures c.in-Some.is in
    record {
      given_value = ap given_means (sym c.in-Some.is) ∙ c.burst_at.ensures;
      behind = next-at o.settings o.events.bytes.now o.events.count a.i x.listable x.clean c.requires.within f c.requires.before;
    }

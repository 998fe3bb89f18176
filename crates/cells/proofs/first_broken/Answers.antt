use Rattle.cells.proofs.Clean.{nothing-broken, broken-first}
use Rattle.cells.proofs.first_broken.Goals as goal

pub returns-in-Broken : goal.returns-in-Broken
returns-in-Broken c = let x = c.args.opened.now in
    broken-first x.settings x.events.bytes.now x.events.count c.walk.ensures.value c.in-Broken.is

pub returns-in-Clean : goal.returns-in-Clean
returns-in-Clean c = let x = c.args.opened.now in
    nothing-broken x.settings x.events.bytes.now x.events.count c.walk.ensures.value c.in-Clean.is

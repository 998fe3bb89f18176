use Rattle.std.proofs.Common.{◌≡◌, length, refl, ap, ◌∙◌, arith}
use lib.Seq.{length-sets}
use Rattle.exports.proofs.Bridges.{stores-none, bridging, place-fits, stores-on, all-stored}
use Rattle.exports.proofs.put_export.Goals as goal

pub events-init : goal.events-init
events-init c = stores-none c.args.events.now.bytes.now c.args.events.now.count c.args.out.now c.requires

pub put_nops-requires : goal.put_nops-requires
put_nops-requires c =
    (bridging c.events.invariant c.events-test.true c.requires.given c.cycle-t.ensures c.nops_between-k.ensures)

pub overflow_mul-here : goal.overflow_mul-here
overflow_mul-here c =
    omega (arith, (place-fits c.events.invariant c.events-test.true c.requires.given c.cycle-t.ensures c.nops_between-k.ensures))

pub overflow_add-here : goal.overflow_add-here
overflow_add-here c =
    omega (arith, (place-fits c.events.invariant c.events-test.true c.requires.given c.cycle-t.ensures c.nops_between-k.ensures))

pub put_record-requires : goal.put_record-requires
put_record-requires c = let long : length c.put_nops.new.out ≡ length c.events.out =
    ap length c.put_nops.ensures ∙ simp length-sets in
    omega (arith, (place-fits c.events.invariant c.events-test.true c.requires.given c.cycle-t.ensures c.nops_between-k.ensures))

pub overflow_add-at : goal.overflow_add-at
overflow_add-at c =
    omega (arith, (place-fits c.events.invariant c.events-test.true c.requires.given c.cycle-t.ensures c.nops_between-k.ensures))

pub events-preserved : goal.events-preserved
events-preserved c = stores-on c.events.invariant c.events-test.true c.requires.given c.cycle-t.ensures
    c.nops_between-k.ensures c.pins.ensures refl refl c.put_nops.ensures c.put_record.ensures

pub returns : goal.returns
returns c = all-stored c.events.invariant c.events-test.false

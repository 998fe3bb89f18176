use mathlib.Core.Path.{◌≡◌, ap, ◌∙◌}
use native.Mathlib.Omega.{arith}
use lib.ListN.{length}
use lib.Seq.{length-sets}
use Rattle.reading.specs.Settings.{settings_of}
use Rattle.reading.specs.Blank.{blank_pins}
use Rattle.hidden.proofs.Filling.{writes-none, writes-on, written}
use Rattle.hidden.proofs.write_events.Goals as goal

pub loop-i-init : goal.loop-i-init
loop-i-init c = writes-none _ _ _ _ _

pub blank_pins-pins-requires : goal.blank_pins-pins-requires
blank_pins-pins-requires c = c.requires.rows

pub put_word-requires : goal.put_word-requires
put_word-requires c = omega (arith, c.requires.room, c.loop-i.invariant.long)

pub put_word-requires-in-loop-i : goal.put_word-requires-in-loop-i
put_word-requires-in-loop-i c = let long : length c.put_word.new.out ≡ length c.loop-i.out = ap length c.put_word.ensures ∙ simp length-sets in
    omega (arith, c.requires.room, c.loop-i.invariant.long)

pub loop-i-preserved : goal.loop-i-preserved
loop-i-preserved c = writes-on c.loop-i.invariant c.loop-i-test.true c.cycle.ensures
    (c.blank_pins-pins.ensures ∙ ap (blank_pins (settings_of c.args.s.now)) c.pins.ensures)
    c.put_word.ensures c.put_word-in-loop-i.ensures

pub returns : goal.returns
returns c = written c.loop-i.invariant c.loop-i-test.false

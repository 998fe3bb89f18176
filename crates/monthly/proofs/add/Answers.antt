use native.Mathlib.Omega.{arith}
use Rattle.monthly.proofs.Sums.{added-so}
use Rattle.monthly.proofs.add.Goals as goal

pub overflow_add-result-6 : goal.overflow_add-result-6
overflow_add-result-6 c = omega (arith, c.struct_known-11-1.given, c.requires.0.captures, c.requires.0.judged)

pub overflow_add-result-7 : goal.overflow_add-result-7
overflow_add-result-7 c = omega (arith, c.struct_known-13-1.given, c.requires.0.captures, c.requires.0.read)

pub overflow_add-result-8 : goal.overflow_add-result-8
overflow_add-result-8 c = omega (arith, c.struct_known-15-1.given, c.requires.0.captures, c.requires.0.written)

pub overflow_add-result-9 : goal.overflow_add-result-9
overflow_add-result-9 c = omega (arith, c.struct_known-17-1.given, c.requires.0.captures, c.requires.0.cycles)

pub returns : goal.returns
returns c =
    let held = c.requires.0 in record {
      result_value = added-so c.args.t c.args.x c.tally-c.ensures;
      held = record {
        captures = omega (arith, c.requires.1);
        clean = omega (arith, held.clean, c.struct_known-3-1.given, c.struct_known-2-1.given);
        broken = omega (arith, held.broken, c.struct_known-5-1.given, c.struct_known-4-1.given);
        refused = omega (arith, held.refused, c.struct_known-7-1.given, c.struct_known-6-1.given);
        events = omega (arith, held.events, c.struct_known-9-1.given, c.struct_known-8-1.given);
        judged = omega (arith, held.judged, c.struct_known-11-1.given, c.struct_known-10-1.given);
        read = omega (arith, held.read, c.struct_known-13-1.given, c.struct_known-12-1.given);
        written = omega (arith, held.written, c.struct_known-15-1.given, c.struct_known-14-1.given);
        cycles = omega (arith, held.cycles, c.struct_known-17-1.given, c.struct_known-16-1.given);
      };
    }

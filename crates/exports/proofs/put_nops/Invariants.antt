use Rattle.exports.proofs.Bridges.{Nopping}
use Rattle.exports.proofs.put_nops.Given as goal

abbrev pub invariant-nops : goal.invariant-nops
invariant-nops l = Nopping l.last l.k l.initial.out l.at l.out l.cycle l.j

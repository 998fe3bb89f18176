use Rattle.std.proofs.Common.{ℕ, ◌+◌, List, length, take, drop, length-drop, drop-drop, arith, ap, ◌∙◌, subst}
use Rattle.std.proofs.lemmas.List.{take_rest}
use Rattle.std.specs.Io.KnownBytes.{Appends}
use Rattle.console.proofs.Known.{Appends-more}
use Rattle.console.proofs.write_whole.Goals as goal

pub loop-rest-preserved : goal.loop-rest-preserved
loop-rest-preserved g c =
    let (done, within, same, appended) = c.loop-rest.invariant in
    let held = g.W.Write.contents in
    let text = c.args.text.now in
    let n = c.in_ok-n.n in
    let written = c.in_ok-n.ensures in (
      done + n,
      omega (arith, written.in_bounds, within, ap length same, length-drop done text),
      take_rest c.loop-rest.rest.now n ∙ ap (drop n) same ∙ drop-drop n done text,
      Appends-more _ _ _ text done n appended (subst (λ (xs : List ℕ). Appends (held c.loop-rest.to) (held c.write_piece.new.to) (take n xs)) same written.bytes),
    )

use Rattle.std.proofs.lemmas.Result.{err_from_is_err_and}
use Rattle.capture.proofs.Opened.{opens-held}
use Rattle.cells.proofs.Listing.{refused-held, listable, listed-so}
use Rattle.cells.proofs.burst_cells.Goals as goal

pub returns-in_err-opened : goal.returns-in_err-opened
returns-in_err-opened c =
    let r = err_from_is_err_and c.from_residual.result c.from_residual.ensures.1 in
    let p = refused-held c.args.capture.now c.args.out.now c.in_err-opened.ensures.answer in
    rw (r.1, r.2) (record { result_value = p.0; out_after = p.1 })

pub list-requires : goal.list-requires
list-requires c = let o = c.in_ok-opened in listable (opens-held o.ensures.answer o.opened o.ensures.holds)

pub returns : goal.returns
returns c = let o = c.in_ok-opened in
    let p =
    listed-so (opens-held o.ensures.answer o.opened o.ensures.holds) c.args.out.now
    (c.list.ensures.result_value, c.list.ensures.out_after) in
    record { result_value = p.0; out_after = p.1 }
